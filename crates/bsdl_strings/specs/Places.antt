-- Grammars of one piece each. The pieces of a string are its tokens. A mark is a piece of one byte. A grammar says
-- which pieces it accepts, and what value an accepted piece has. The case of letters does not matter, and names are in
-- upper case.
use Rattle.std.specs.Prelude.{ℕ, ◌==◌, List, [], ◌∷◌, length, map, reverse, Bool, true, false, ◌&&◌, ◌||◌, if◌then◌else◌, Option, Some, None, nat_lt, codes}
use Rattle.std.specs.List.{list_all}
use Rattle.std.specs.Str.{bytes_eq}
use Rattle.std.specs.Char.{is_ascii_alphabetic, to_ascii_uppercase}
use Rattle.board_defs.specs.declared.device.Symbol.{Symbol}
use Rattle.board_defs.specs.declared.device.Symbol.TheVariants.{Zero, One, Any}
use Rattle.board_defs.specs.declared.device.Role.{Role}
use Rattle.board_defs.specs.declared.device.Role.TheVariants as roles
use Rattle.grammars.specs.Grammar.{Grammar, place}
use Rattle.grammars.specs.Values.{some_if, upper, is_integer, digits_value}
use Rattle.bsdl_strings.specs.Pieces.{is_word_byte, is_end}

-- `(`
abbrev pub open_mark : ℕ
open_mark = 40

-- `)`
abbrev pub close_mark : ℕ
close_mark = 41

-- `*`
abbrev pub star : ℕ
star = 42

-- `,`
abbrev pub comma : ℕ
comma = 44

-- `:`
abbrev pub colon : ℕ
colon = 58

-- the piece is this single byte
abbrev pub is_mark_piece : ℕ → List ℕ → Bool
is_mark_piece byte [] = false
is_mark_piece byte (first ∷ []) = first == byte
is_mark_piece byte (first ∷ second ∷ bytes) = false

abbrev pub starts_with_letter : List ℕ → Bool
starts_with_letter [] = false
starts_with_letter (first ∷ bytes) = is_ascii_alphabetic first

-- the piece is one or more letters, digits and `_`
abbrev pub is_pin : List ℕ → Bool
is_pin piece = nat_lt 0 (length piece) && list_all is_word_byte piece

-- the piece is a letter, followed by letters, digits and `_`
abbrev pub is_word_piece : List ℕ → Bool
is_word_piece piece = starts_with_letter piece && list_all is_word_byte piece

-- the byte is the character 0, 1, X or x
abbrev pub is_symbol : ℕ → Bool
is_symbol byte = (byte == 48) || ((byte == 49) || (to_ascii_uppercase byte == 88))

-- the symbol of the character 0, 1 or X; X stands for either bit
abbrev pub symbol_of : ℕ → Symbol
symbol_of byte = if byte == 48 then Zero else if byte == 49 then One else Any

-- the piece is one or more of 0, 1 and X
abbrev pub is_code_piece : List ℕ → Bool
is_code_piece piece = nat_lt 0 (length piece) && list_all is_symbol piece

-- The code that the characters spell. The rightmost character is the symbol nearest TDO, which is
-- the first symbol of the code.
abbrev pub code_of : List ℕ → List Symbol
code_of piece = map symbol_of (reverse piece)

-- the cell function with this name, which is in upper case, or None if no function has it
abbrev pub role_of : List ℕ → Option Role
role_of word =
    if bytes_eq word (codes "INPUT") then Some roles.Input else
    if bytes_eq word (codes "OUTPUT2") then Some roles.Output2 else
    if bytes_eq word (codes "OUTPUT3") then Some roles.Output3 else
    if bytes_eq word (codes "CONTROL") then Some roles.Control else
    if bytes_eq word (codes "CONTROLR") then Some roles.ControlR else
    if bytes_eq word (codes "INTERNAL") then Some roles.Internal else
    if bytes_eq word (codes "CLOCK") then Some roles.Clock else
    if bytes_eq word (codes "BIDIR") then Some roles.Bidir else
    some_if (bytes_eq word (codes "OBSERVE_ONLY")) roles.ObserveOnly

-- the word is a disable result: the state of a disabled driver
abbrev pub is_result : List ℕ → Bool
is_result word =
    bytes_eq word (codes "Z") || (bytes_eq word (codes "WEAK0") || (bytes_eq word (codes "WEAK1") ||
    (bytes_eq word (codes "PULL0") || (bytes_eq word (codes "PULL1") || bytes_eq word (codes "KEEPER")))))

-- a grammar of a part of a string, with values of type `A`
abbrev pub Part : Type 0 → Type 1
Part A = Grammar (List ℕ) A

-- the mark `byte`
abbrev pub mark : ℕ → Part (Unit {0})
mark byte = place (λ piece. some_if (is_mark_piece byte piece) tt)

-- one of two marks; the value is true for the first
abbrev pub either_mark : ℕ → ℕ → Part Bool
either_mark first second = place (λ piece. if is_mark_piece first piece then Some true else some_if (is_mark_piece second piece) false)

-- a comma or the end of the string; the value is true for a comma
abbrev pub comma_or_end : Part Bool
comma_or_end = place (λ piece. if is_mark_piece comma piece then Some true else some_if (is_end piece) false)

-- a word, in upper case
abbrev pub word : Part (List ℕ)
word = place (λ piece. some_if (is_word_piece piece) (upper piece))

-- a pin, in upper case
abbrev pub pin : Part (List ℕ)
pin = place (λ piece. some_if (is_pin piece) (upper piece))

-- a pin or an opening parenthesis; the value is None for the parenthesis
abbrev pub pin_or_open : Part (Option (List ℕ))
pin_or_open = place (λ piece. if is_mark_piece open_mark piece then Some None else some_if (is_pin piece) (Some (upper piece)))

-- a word or `*`; the value is None for `*`
abbrev pub word_or_star : Part (Option (List ℕ))
word_or_star = place (λ piece. if is_mark_piece star piece then Some None else some_if (is_word_piece piece) (Some (upper piece)))

-- an index: a number of 1 to 9 digits
abbrev pub index : Part ℕ
index = place (λ piece. some_if (is_integer piece) (digits_value piece))

-- a code, whose first symbol is nearest TDO
abbrev pub code : Part (List Symbol)
code = place (λ piece. some_if (is_code_piece piece) (code_of piece))

-- safe = 0 | 1 | X
abbrev pub safe_symbol : Part Symbol
safe_symbol =
    place
    (λ piece. if is_mark_piece 48 piece then Some Zero else if is_mark_piece 49 piece then Some One
    else some_if (bytes_eq (upper piece) (codes "X")) Any)

-- value = 0 | 1; the result is true for 1
abbrev pub bit_mark : Part Bool
bit_mark = either_mark 49 48

-- function = INPUT | OUTPUT2 | OUTPUT3 | CONTROL | CONTROLR | INTERNAL | CLOCK | BIDIR | OBSERVE_ONLY
abbrev pub role : Part Role
role = place (λ piece. role_of (upper piece))

-- result = Z | WEAK0 | WEAK1 | PULL0 | PULL1 | KEEPER
abbrev pub result_word : Part (Unit {0})
result_word = place (λ piece. some_if (is_result (upper piece)) tt)

-- The mark after the port name of a compliance bit. The value is None if an index follows, Some
-- true if another bit follows, and Some false if the list ends.
abbrev pub after_bit : Part (Option Bool)
after_bit =
    place
    (λ piece. if is_mark_piece open_mark piece then Some None else if is_mark_piece comma piece
    then Some (Some true) else some_if (is_mark_piece close_mark piece) (Some false))

-- the end of the string
abbrev pub the_end : Part (Unit {0})
the_end = place (λ piece. some_if (is_end piece) tt)
