-- The lengths on the BYPASS lines of a chain file are in range.
use Rattle.std.proofs.Common.{◌≡◌, ℕ, Bool, true, false, ◌&&◌, List, [], ◌∷◌, length, nat_le, codes, Option, Some, None, Result, Ok, Err, refl, subst, arith}
use Rattle.std.specs.Prelude.{IfOk, IfSome, if◌then◌else◌, ◌+◌}
use Rattle.std.specs.List.{AllByRecursion, slice_split}
use Rattle.std.specs.Str.{bytes_eq}
use Rattle.std.proofs.lemmas.Grind.{common_steps}
use Rattle.board_defs.specs.Limits.{most_instruction_bits, IsInstructionLength}
use Rattle.board_files.specs.declared.fault.LineFault.{LineFault}
use Rattle.board_files.specs.declared.chain_file.ChainLine.{ChainLine}
use Rattle.board_files.specs.declared.chain_file.ChainStatement.{ChainStatement}
use Rattle.board_files.specs.declared.fault.LineFault.TheVariants.{Statement, Word as WordFault, Number}
use Rattle.board_files.specs.declared.chain_file.ChainStatement.TheVariants.{Device, Inert, Supply, Pull, Link}
use Rattle.board_files.specs.Words.{is_part, is_symbol_word, upper_word, one_of, two_of, three_of}
use Rattle.text_lines.specs.Words.{Word, words_of, is_word, is_newline}
use Rattle.board_files.specs.Reading.{◌>>=◌, line_then, lines_from, lines_of_text}
use Rattle.board_files.specs.ChainLines.{as_length, decimal_from, length_in_bypass, device_statement, bypass_of, bypass_with, inert_statement, supply_statement, pull_statement, link_of, package_of, is_bit_word, Read, chain_statement, chain_line, HasBypassLength}

either : {A : Type 0} (P : A → Type 0) (t : Bool) (a b : Result A LineFault) → IfOk a P → IfOk b P → IfOk (if t then a else b) P
either P true a b h k = h
either P false a b h k = k

bound : (n : ℕ) (low high : Bool) → nat_le 2 n ≡ low → nat_le n most_instruction_bits ≡ high
    → IfSome (if low && high then Some n else None) IsInstructionLength
bound n true true low high = (grind (arith, common_steps), grind (arith, common_steps))
bound n true false low high = tt
bound n false high low other = tt

as_length_bound : (o : Option ℕ) → IfSome (as_length o) IsInstructionLength
as_length_bound None = tt
as_length_bound (Some n) = bound n (nat_le 2 n) (nat_le n most_instruction_bits) refl refl

either_some : (t : Bool) (a : Option ℕ) → IfSome a IsInstructionLength → IfSome (if t then a else None) IsInstructionLength
either_some true a h = h
either_some false a h = tt

with_length : (n : ℕ) (part : Word) (o : Option ℕ) → IfSome o IsInstructionLength → IfOk (bypass_with n part o) HasBypassLength
with_length n part None h = tt
with_length n part (Some bits) h = h

bypass_length : (n : ℕ) (words : Option (Word × Word)) → IfOk (bypass_of n words) HasBypassLength
bypass_length n None = tt
bypass_length n (Some (part, digits)) =
    either HasBypassLength (is_part part && is_word digits)
    (bypass_with n part (length_in_bypass digits)) (Err (WordFault n))
    (with_length n part (length_in_bypass digits)
    (either_some (nat_le (length digits) 3) (as_length (decimal_from 0 digits))
    (as_length_bound (decimal_from 0 digits)))) tt

kept : (t : Bool) (s : ChainStatement) (e : LineFault) → HasBypassLength s → IfOk (if t then Ok s else Err e) HasBypassLength
kept true s e h = h
kept false s e h = tt

device_length : (n : ℕ) (words : Option (Word × Word × Word)) → IfOk (device_statement n words) HasBypassLength
device_length n None = tt
device_length n (Some (part, entity, pack)) =
    kept (is_part part && is_word entity && is_word pack)
    (Device part (upper_word entity) (package_of pack)) (WordFault n) tt

inert_length : (n : ℕ) (word : Option Word) → IfOk (inert_statement n word) HasBypassLength
inert_length n None = tt
inert_length n (Some part) = kept (is_part part) (Inert part) (WordFault n) tt

supply_length : (n : ℕ) (word : Option Word) → IfOk (supply_statement n word) HasBypassLength
supply_length n None = tt
supply_length n (Some net) = kept (is_word net) (Supply net) (WordFault n) tt

pull_length : (n : ℕ) (words : Option (Word × Word)) → IfOk (pull_statement n words) HasBypassLength
pull_length n None = tt
pull_length n (Some (net, value)) =
    either HasBypassLength (is_word net && is_word value)
    (if is_bit_word value then Ok (Pull net (bytes_eq value (codes "1"))) else Err (Number n))
    (Err (WordFault n))
    (kept (is_bit_word value) (Pull net (bytes_eq value (codes "1"))) (Number n) tt) tt

link_length : (n : ℕ) (words : Option (Word × Word × Word)) → IfOk (link_of n words) HasBypassLength
link_length n None = tt
link_length n (Some (part, first, second)) =
    kept (is_part part && is_symbol_word first && is_symbol_word second)
    (Link part (upper_word first) (upper_word second)) (WordFault n) tt

-- the result `a` if `name` is `word`, and the result `b` otherwise
abbrev choice : Word → List ℕ → Read → Read → Read
choice name word a b = if bytes_eq name word then a else b

statement_length : (n : ℕ) (name : Word) (words : List Word) → IfOk (chain_statement n name words) HasBypassLength
unfolding chain_statement
statement_length n name words =
    let link : Read = choice name (codes "LINK") (link_of n (three_of words)) (Err (Statement n)) in
    let pull : Read = choice name (codes "PULL") (pull_statement n (two_of words)) link in
    let supply : Read = choice name (codes "SUPPLY") (supply_statement n (one_of words)) pull in
    let inert : Read = choice name (codes "INERT") (inert_statement n (one_of words)) supply in
    let bypass : Read = choice name (codes "BYPASS") (bypass_of n (two_of words)) inert in
    either HasBypassLength (bytes_eq name (codes "DEVICE")) (device_statement n (three_of words)) bypass (device_length n (three_of words))
    (either HasBypassLength (bytes_eq name (codes "BYPASS")) (bypass_of n (two_of words)) inert (bypass_length n (two_of words))
    (either HasBypassLength (bytes_eq name (codes "INERT")) (inert_statement n (one_of words)) supply (inert_length n (one_of words))
    (either HasBypassLength (bytes_eq name (codes "SUPPLY")) (supply_statement n (one_of words)) pull (supply_length n (one_of words))
    (either HasBypassLength (bytes_eq name (codes "PULL")) (pull_statement n (two_of words)) link (pull_length n (two_of words))
    (either HasBypassLength (bytes_eq name (codes "LINK")) (link_of n (three_of words))
    (Err (Statement n)) (link_length n (three_of words)) tt)))))

line_length : (n : ℕ) (said : Result ChainStatement LineFault) → IfOk said HasBypassLength
    → IfOk (said >>= (λ s. Ok (record { line = n; statement = s })))
    (λ (l : ChainLine). HasBypassLength l.statement)
line_length n (Ok s) h = h
line_length n (Err e) h = tt

chain_line_length : (n : ℕ) (words : List Word) → IfOk (chain_line n words) (λ l. HasBypassLength l.statement)
chain_line_length n [] = tt
chain_line_length n (name ∷ words) = line_length n (chain_statement n name words) (statement_length n name words)

abbrev AllLengths : List ChainLine → Type 0
AllLengths = AllByRecursion (λ l. HasBypassLength l.statement)

more_lengths : (line : Result ChainLine LineFault) (rest : Result (List ChainLine) LineFault)
    → IfOk line (λ l. HasBypassLength l.statement) → IfOk rest AllLengths
    → IfOk (line >>= (λ l. rest >>= (λ ls. Ok (l ∷ ls)))) AllLengths
more_lengths (Ok l) (Ok ls) h hs = (h, hs)
more_lengths (Ok l) (Err e) h hs = tt
more_lengths (Err e) rest h hs = tt

then_lengths : (n : ℕ) (words : List Word) (rest : Result (List ChainLine) LineFault)
    → IfOk rest AllLengths → IfOk (line_then chain_line n words rest) AllLengths
then_lengths n [] rest h = h
then_lengths n (word ∷ words) rest h = more_lengths (chain_line n (word ∷ words)) rest (chain_line_length n (word ∷ words)) h

lines_lengths : (n : ℕ) (lines : List (List ℕ)) → IfOk (lines_from chain_line n lines) AllLengths
lines_lengths n [] = tt
lines_lengths n (line ∷ lines) = then_lengths n (words_of line) (lines_from chain_line (n + 1) lines) (lines_lengths (n + 1) lines)

pub lengths_of_text : (text : List ℕ) (lines : List ChainLine)
    → lines_of_text chain_line text ≡ Ok lines
    → AllByRecursion (λ l. HasBypassLength l.statement) lines
lengths_of_text text lines said =
    subst (λ (r : Result (List ChainLine) LineFault). IfOk r AllLengths) said
    (lines_lengths 1 (slice_split is_newline text))
