-- The lines of a chain file.
use Rattle.std.specs.Prelude.{ℕ, ◌+◌, ◌*◌, ◌-◌, Bool, ◌&&◌, ◌||◌, List, [], ◌∷◌, length, nat_le, Option, Some, None, Result, Ok, Err, codes, if◌then◌else◌}
use Rattle.std.specs.Str.{bytes_eq}
use Rattle.std.specs.Char.{is_ascii_digit}
use Rattle.board_defs.specs.Limits.{most_instruction_bits, IsInstructionLength}
use Rattle.board_files.specs.declared.fault.LineFault.{LineFault}
use Rattle.board_files.specs.declared.fault.LineFault.TheVariants.{Statement, Word as WordFault, Number}
use Rattle.board_files.specs.declared.chain_file.ChainLine.{ChainLine}
use Rattle.board_files.specs.declared.chain_file.ChainStatement.{ChainStatement}
use Rattle.board_files.specs.declared.chain_file.ChainStatement.TheVariants.{Device, Bypass, Inert, Supply, Pull, Link}
use Rattle.board_files.specs.Words.{is_part, is_symbol_word, upper_word, one_of, two_of, three_of}
use Rattle.text_lines.specs.Words.{Word, is_word}
use Rattle.board_files.specs.Reading.{◌>>=◌, lines_of_text}

abbrev pub Read : Type 0
Read = Result ChainStatement LineFault

-- the name of the package, or None for `-`, which stands for the default package
abbrev pub package_of : Word → Option Word
package_of word = if bytes_eq word (codes "-") then None else Some (upper_word word)

-- the number that the digits of `n`, followed by these digits, spell, or None if one of these bytes
-- is not a digit
abbrev pub decimal_from : ℕ → Word → Option ℕ
decimal_from n [] = Some n
decimal_from n (digit ∷ digits) = if is_ascii_digit digit then decimal_from (10 * n + (digit - 48)) digits else None

abbrev pub as_length : Option ℕ → Option ℕ
as_length None = None
as_length (Some n) = if nat_le 2 n && nat_le n most_instruction_bits then Some n else None

-- the number that a word of 1 to 3 decimal digits spells, if it is from 2 to 255; None for every
-- other word
abbrev pub length_in_bypass : Word → Option ℕ
length_in_bypass word = if nat_le (length word) 3 then as_length (decimal_from 0 word) else None

abbrev pub is_bit_word : Word → Bool
is_bit_word word = bytes_eq word (codes "0") || bytes_eq word (codes "1")

abbrev pub device_statement : ℕ → Option (Word × Word × Word) → Read
device_statement n None = Err (Statement n)
device_statement n (Some (part, entity, pack)) =
    if is_part part && is_word entity && is_word pack then Ok (Device part (upper_word entity) (package_of pack)) else Err (WordFault n)

abbrev pub bypass_with : ℕ → Word → Option ℕ → Read
bypass_with n part None = Err (Number n)
bypass_with n part (Some bits) = Ok (Bypass part bits)

abbrev pub bypass_of : ℕ → Option (Word × Word) → Read
bypass_of n None = Err (Statement n)
bypass_of n (Some (part, digits)) =
    if is_part part && is_word digits then bypass_with n part (length_in_bypass digits)
    else Err (WordFault n)

abbrev pub inert_statement : ℕ → Option Word → Read
inert_statement n None = Err (Statement n)
inert_statement n (Some part) = if is_part part then Ok (Inert part) else Err (WordFault n)

abbrev pub supply_statement : ℕ → Option Word → Read
supply_statement n None = Err (Statement n)
supply_statement n (Some net) = if is_word net then Ok (Supply net) else Err (WordFault n)

abbrev pub pull_statement : ℕ → Option (Word × Word) → Read
pull_statement n None = Err (Statement n)
pull_statement n (Some (net, value)) =
    if is_word net && is_word value
    then (if is_bit_word value then Ok (Pull net (bytes_eq value (codes "1"))) else Err (Number n))
    else Err (WordFault n)

abbrev pub link_of : ℕ → Option (Word × Word × Word) → Read
link_of n None = Err (Statement n)
link_of n (Some (part, first, second)) =
    if is_part part && is_symbol_word first && is_symbol_word second
    then Ok (Link part (upper_word first) (upper_word second)) else Err (WordFault n)

-- the statement that `name` and the following `words` make on line `n`, or the fault of the line
unfoldable pub chain_statement : ℕ → Word → List Word → Read
chain_statement n name words =
    if bytes_eq name (codes "DEVICE") then device_statement n (three_of words)
    else if bytes_eq name (codes "BYPASS") then bypass_of n (two_of words)
    else if bytes_eq name (codes "INERT") then inert_statement n (one_of words)
    else if bytes_eq name (codes "SUPPLY") then supply_statement n (one_of words)
    else if bytes_eq name (codes "PULL") then pull_statement n (two_of words)
    else if bytes_eq name (codes "LINK") then link_of n (three_of words)
    else Err (Statement n)

abbrev pub chain_line : ℕ → List Word → Result ChainLine LineFault
chain_line n [] = Err (Statement n)
chain_line n (name ∷ words) = chain_statement n name words >>= (λ said. Ok (record { line = n; statement = said }))

-- the lines of a chain file, or the fault of its first faulty line
abbrev pub chain_lines : List ℕ → Result (List ChainLine) LineFault
chain_lines text = lines_of_text chain_line text

-- the length on a BYPASS line is from 2 to 255 bits; other statements have no length
abbrev pub HasBypassLength : ChainStatement → Type 0
HasBypassLength (Bypass part bits) = IsInstructionLength bits
HasBypassLength (Device part entity pack) = Unit {0}
HasBypassLength (Inert part) = Unit {0}
HasBypassLength (Supply net) = Unit {0}
HasBypassLength (Pull net value) = Unit {0}
HasBypassLength (Link part first second) = Unit {0}
