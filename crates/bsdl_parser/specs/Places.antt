-- Grammars of one token each. A mark is a token that is one punctuation character. A grammar says which tokens it
-- accepts, and what value an accepted token has.
use Rattle.std.specs.Prelude.{ℕ, ◌-◌, List, length, Bool, true, false, ◌&&◌, if◌then◌else◌, Option, Some, None, codes}
use Rattle.std.specs.List.{slice_range}
use Rattle.std.specs.Str.{bytes_eq}
use Rattle.bsdl_lexer.specs.declared.token.TokenKind.{TokenKind}
use Rattle.bsdl_lexer.specs.declared.token.TokenKind.TheVariants as kinds
use Rattle.board_defs.specs.declared.device.Mode.{Mode}
use Rattle.board_defs.specs.declared.device.Mode.TheVariants.{Inward, Outward, Both, Buffer, Linkage}
use Rattle.grammars.specs.Grammar.{Grammar, place}
use Rattle.grammars.specs.Values.{some_if, is_integer, digits_value}
use Rattle.bsdl_parser.specs.Lexeme.{Lexeme}

-- a grammar of a part of a BSDL text, with values of type `A`
abbrev pub Phrase : Type 0 → Type 1
Phrase A = Grammar Lexeme A

abbrev pub is_word_token : TokenKind → Bool
is_word_token kinds.Word = true
is_word_token _ = false

abbrev pub is_number_token : TokenKind → Bool
is_number_token kinds.Number = true
is_number_token _ = false

abbrev pub is_text : TokenKind → Bool
is_text kinds.Text = true
is_text _ = false

abbrev pub is_mark : TokenKind → Bool
is_mark kinds.Mark = true
is_mark _ = false

abbrev pub is_the_word : List ℕ → Lexeme → Bool
is_the_word name token = is_word_token token.kind && bytes_eq token.spelled name

abbrev pub is_the_mark : List ℕ → Lexeme → Bool
is_the_mark name token = is_mark token.kind && bytes_eq token.spelled name

-- the word `name`; the case of letters does not matter
abbrev pub keyword : List ℕ → Phrase (Unit {0})
keyword name = place (λ token. some_if (is_the_word name token) tt)

-- the mark `name`
abbrev pub mark : List ℕ → Phrase (Unit {0})
mark name = place (λ token. some_if (is_the_mark name token) tt)

-- one of two words; the value is true for the first
abbrev pub either_word : List ℕ → List ℕ → Phrase Bool
either_word first second = place (λ token. if is_the_word first token then Some true else some_if (is_the_word second token) false)

-- one of two marks; the value is true for the first
abbrev pub either_mark : List ℕ → List ℕ → Phrase Bool
either_mark first second = place (λ token. if is_the_mark first token then Some true else some_if (is_the_mark second token) false)

abbrev pub any_word : Phrase (List ℕ)
any_word = place (λ token. some_if (is_word_token token.kind) token.spelled)

abbrev pub any_number : Phrase (Unit {0})
any_number = place (λ token. some_if (is_number_token token.kind) tt)

-- the bytes between the quotes of a string token
abbrev pub contents : List ℕ → List ℕ
contents spelled = slice_range spelled 1 (length spelled - 1)

abbrev pub any_text : Phrase (List ℕ)
any_text = place (λ token. some_if (is_text token.kind) (contents token.spelled))

-- a number of 1 to 9 digits without a point or an exponent
abbrev pub integer : Phrase ℕ
integer = place (λ token. some_if (is_number_token token.kind && is_integer token.spelled) (digits_value token.spelled))

-- the mode that this word names, if it names one; the word is in upper case
abbrev pub mode_of : List ℕ → Option Mode
mode_of word =
    if bytes_eq word (codes "IN") then Some Inward else
    if bytes_eq word (codes "OUT") then Some Outward else
    if bytes_eq word (codes "INOUT") then Some Both else
    if bytes_eq word (codes "BUFFER") then Some Buffer else
    some_if (bytes_eq word (codes "LINKAGE")) Linkage

abbrev pub mode : Phrase Mode
mode = place (λ token. if is_word_token token.kind then mode_of token.spelled else None)

-- any token, with the value false if it is the mark `name`
abbrev pub other_than : List ℕ → Phrase Bool
other_than name = place (λ token. Some (if is_the_mark name token then false else true))

-- a word or the mark `name`; the value is true for a word
abbrev pub word_or_mark : List ℕ → Phrase Bool
word_or_mark name = place (λ token. if is_word_token token.kind then Some true else some_if (is_the_mark name token) false)
