-- The answer for lines is the log that they give, or their first fault. Lemmas which say that the answer for a block's lines in the whole
-- text follows from the answer for the block's own text.
use Rattle.std.proofs.Common.{◌≡◌, ℕ, zero, suc, ◌+◌, ◌≤◌, Bool, true, false, cond, nat_lt, Option, Some, None, Ok, Err, List, [], ◌∷◌, ◌++◌, length, map, take, drop, refl, sym, ap, ◌∙◌, subst, arith}
use Rattle.std.specs.Prelude.{IfSome, filter_map, ◌==◌, is_some}
use Rattle.std.specs.List.{slice_split, onto_first, cons_option}
use Rattle.std.proofs.lemmas.List.{length-map}
use Rattle.text_lines.specs.Words.{Word, words_of, is_newline}
use Rattle.bt_bits.specs.Hex.{digit_count, field_bits}
use Rattle.response_log.specs.declared.fault.LogFault.{LogFault}
use Rattle.response_log.specs.declared.fault.LogFault.TheVariants.{Digit, Length, Missing, Extra, Memory as LogMemory}
use Rattle.response_log.specs.LogRows.{LogAnswer, NumberedLine, holds_word, only_word, bits_of_line, word_fault, row_fault, offenses, wanted_rows, first_or, rows_of_lines, row_lines, log_rows, log_told}
use Rattle.batch_diag.specs.Batch.{batch_told}
use Rattle.batch_diag.specs.OwnTexts.{moved_fault}
use Rattle.batch_diag.specs.inner.Cutting.{rows_from, in_block, moved_inner, IsUpTo}
use Rattle.batch_diag.proofs.CutLemmas.{rows_at, with_line, worded_line}

-- the line with the number that it has if `before` more lines are in front of the text
abbrev moved_line : ℕ → NumberedLine → NumberedLine
moved_line before line = record { number = before + line.number; words = line.words }

abbrev pub moved : ℕ → LogAnswer → LogAnswer
moved before (Ok log) = Ok log
moved before (Err fault) = Err (moved_fault before fault)

line_moved : (before n : ℕ) (words : List Word) (here there : List NumberedLine)
    → there ≡ map (moved_line before) here
    → with_line (before + n) words there ≡ map (moved_line before) (with_line n words here)
line_moved before n [] here there is = is
line_moved before n (word ∷ words) here there is =
    ap (λ (ls : List NumberedLine). record { number = before + n; words = word ∷ words } ∷ ls) is

rows_moved : (before n : ℕ) (lines : List (List ℕ)) → rows_at (before + n) lines ≡ map (moved_line before) (rows_at n lines)
rows_moved before n [] = refl
rows_moved before n (line ∷ lines) =
    let next : before + n + 1 ≡ before + (n + 1) = omega arith in
    line_moved before n (words_of line) (rows_at (n + 1) lines) (rows_at (before + n + 1) lines)
    (ap (λ m. rows_at m lines) next ∙ rows_moved before (n + 1) lines)

bits_moved : (before len : ℕ) (lines : List NumberedLine)
    → filter_map (bits_of_line len) (map (moved_line before) lines)
    ≡ filter_map (bits_of_line len) lines
bits_moved before len [] = refl
bits_moved before len (line ∷ lines) = ap (cons_option (bits_of_line len line)) (bits_moved before len lines)

wanted_moved : (before rows len : ℕ) (lines : List NumberedLine)
    → wanted_rows rows len (map (moved_line before) lines)
    ≡ moved before (wanted_rows rows len lines)
wanted_moved before rows len lines =
    ap
    (λ n. cond (nat_lt n rows) (Err (Missing n))
    (Ok (filter_map (bits_of_line len) (map (moved_line before) lines))))
    (length-map lines (moved_line before))
    ∙ ap
    (λ (log : List (List Bool)). cond (nat_lt (length lines) rows)
    (Err (Missing (length lines))) (Ok log)) (bits_moved before len lines)
    ∙ by_test (nat_lt (length lines) rows)
  where
    by_test : (t : Bool)
        → cond t (Err (Missing (length lines))) (Ok (filter_map (bits_of_line len) lines))
        ≡ moved before
        (cond t (Err (Missing (length lines))) (Ok (filter_map (bits_of_line len) lines)))
    by_test true = refl
    by_test false = refl

-- The answer for a line and the lines after it. It is the line's fault if it has one, and otherwise the answer for the lines after it.
abbrev front : Option LogFault → LogAnswer → LogAnswer
front None answer = answer
front (Some fault) answer = Err fault

first_front : (answer : LogAnswer) (fault : Option LogFault) (faults more : List LogFault)
    → first_or answer (cons_option fault faults ++ more)
    ≡ front fault (first_or answer (faults ++ more))
first_front answer None faults more = refl
first_front answer (Some fault) faults more = refl

word_moved : (before len n : ℕ) (word : Option Word) (later : LogAnswer)
    → front (word_fault len (before + n) word) (moved before later)
    ≡ moved before (front (word_fault len n word) later)
word_moved before len n None later = refl
word_moved before len n (Some word) later = by_test (length word == digit_count len) (is_some (field_bits len word))
  where
    by_test : (sized field : Bool)
        → front
        (cond sized (cond field None (Some (Digit (before + n)))) (Some (Length (before + n))))
        (moved before later)
        ≡ moved before
        (front (cond sized (cond field None (Some (Digit n))) (Some (Length n))) later)
    by_test true true = refl
    by_test true false = refl
    by_test false field = refl

faults_moved : (before rows len : ℕ) (answer : LogAnswer) (lines : List NumberedLine)
    → first_or (moved before answer) (offenses rows len (map (moved_line before) lines))
    ≡ moved before (first_or answer (offenses rows len lines))
faults_moved before zero len answer [] = refl
faults_moved before zero len answer (line ∷ lines) = refl
faults_moved before (suc rows) len answer [] = refl
faults_moved before (suc rows) len answer (line ∷ lines) =
    first_front (moved before answer) (row_fault len (moved_line before line))
    (filter_map (row_fault len) (take rows (map (moved_line before) lines)))
    (map (λ l. Extra l.number) (drop rows (map (moved_line before) lines)))
    ∙ ap (front (row_fault len (moved_line before line))) (faults_moved before rows len answer lines)
    ∙ word_moved before len line.number (only_word line.words) (first_or answer (offenses rows len lines))
    ∙ sym
    (ap (moved before)
    (first_front answer (row_fault len line) (filter_map (row_fault len) (take rows lines))
    (map (λ l. Extra l.number) (drop rows lines))))

lines_moved : (before rows len : ℕ) (lines : List NumberedLine)
    → rows_of_lines rows len (map (moved_line before) lines)
    ≡ moved before (rows_of_lines rows len lines)
lines_moved before rows len lines =
    ap (λ answer. first_or answer (offenses rows len (map (moved_line before) lines))) (wanted_moved before rows len lines)
    ∙ faults_moved before rows len (wanted_rows rows len lines) lines

-- the answer for a block's lines in the whole text is the answer for the block's own text, with `before` added to the line number
pub said_at_place : (own : List ℕ) (before rows len : ℕ)
    → rows_of_lines rows len (rows_from (before + 1) own) ≡ moved before (log_rows own rows len)
said_at_place own before rows len =
    ap (rows_of_lines rows len) (rows_moved before 1 (slice_split is_newline own)) ∙ lines_moved before rows len (row_lines own)

pub log_at_place : (own : List ℕ) (before rows len board : ℕ) (log : List (List Bool))
    → log_rows own rows len ≡ Ok log
    → in_block board (rows_of_lines rows len (rows_from (before + 1) own)) ≡ Ok log
log_at_place own before rows len board log is = ap (in_block board) (said_at_place own before rows len ∙ ap (moved before) is)

pub fault_at_place : (own : List ℕ) (before rows len board : ℕ) (fault : LogFault)
    → IfSome (log_told fault) (λ f. log_rows own rows len ≡ Err f)
    → IfSome (batch_told (moved_inner board before fault))
    (λ f. in_block board (rows_of_lines rows len (rows_from (before + 1) own)) ≡ Err f)
fault_at_place own before rows len board (Digit n) is = ap (in_block board) (said_at_place own before rows len ∙ ap (moved before) is)
fault_at_place own before rows len board (Length n) is = ap (in_block board) (said_at_place own before rows len ∙ ap (moved before) is)
fault_at_place own before rows len board (Missing found) is = ap (in_block board) (said_at_place own before rows len ∙ ap (moved before) is)
fault_at_place own before rows len board (Extra n) is = ap (in_block board) (said_at_place own before rows len ∙ ap (moved before) is)
fault_at_place own before rows len board (LogMemory e) is = tt

-- each of these lines has a number of at most `last`
abbrev UpTo : ℕ → List NumberedLine → Type 0
UpTo last [] = Unit {0}
UpTo last (line ∷ lines) = (line.number ≤ last) × UpTo last lines

abbrev SaysUpTo : ℕ → LogAnswer → Type 0
SaysUpTo last (Ok log) = Unit {0}
SaysUpTo last (Err fault) = IsUpTo last fault

word_up_to : (last len n : ℕ) (word : Option Word) (later : LogAnswer) → n ≤ last
    → SaysUpTo last later → SaysUpTo last (front (word_fault len n word) later)
word_up_to last len n None later within below = within
word_up_to last len n (Some word) later within below = by_test (length word == digit_count len) (is_some (field_bits len word))
  where
    by_test : (sized field : Bool) → SaysUpTo last (front (cond sized (cond field None (Some (Digit n))) (Some (Length n))) later)
    by_test true true = below
    by_test true false = within
    by_test false field = within

faults_up_to : (last rows len : ℕ) (answer : LogAnswer) (lines : List NumberedLine)
    → UpTo last lines → SaysUpTo last answer
    → SaysUpTo last (first_or answer (offenses rows len lines))
faults_up_to last zero len answer [] up_to own = own
faults_up_to last zero len answer (line ∷ lines) up_to own = up_to.0
faults_up_to last (suc rows) len answer [] up_to own = own
faults_up_to last (suc rows) len answer (line ∷ lines) up_to own =
    subst (SaysUpTo last)
    (sym
    (first_front answer (row_fault len line) (filter_map (row_fault len) (take rows lines))
    (map (λ l. Extra l.number) (drop rows lines))))
    (word_up_to last len line.number (only_word line.words)
    (first_or answer (offenses rows len lines)) up_to.0
    (faults_up_to last rows len answer lines up_to.1 own))

wanted_up_to : (last rows len : ℕ) (lines : List NumberedLine) → SaysUpTo last (wanted_rows rows len lines)
wanted_up_to last rows len lines = by_test (nat_lt (length lines) rows)
  where
    by_test : (t : Bool) → SaysUpTo last (cond t (Err (Missing (length lines))) (Ok (filter_map (bits_of_line len) lines)))
    by_test true = tt
    by_test false = tt

-- the number of bytes of the lines, plus one byte for each line
abbrev size_of : List (List ℕ) → ℕ
size_of [] = 0
size_of (line ∷ lines) = length line + 1 + size_of lines

size_onto : (b : ℕ) (parts : List (List ℕ)) (n : ℕ) → size_of parts ≡ n + 1 → size_of (onto_first b parts) ≡ suc n + 1
size_onto b [] n is = absurd (omega arith)
size_onto b (part ∷ parts) n is = omega arith

size_split : (text : List ℕ) → size_of (slice_split is_newline text) ≡ length text + 1
size_split [] = refl
size_split (b ∷ bs) = by_test (is_newline b) (size_split bs)
  where
    by_test : (t : Bool) → size_of (slice_split is_newline bs) ≡ length bs + 1
        → size_of
        (cond t ([] ∷ slice_split is_newline bs) (onto_first b (slice_split is_newline bs)))
        ≡ suc (length bs) + 1
    by_test true below = omega arith
    by_test false below = size_onto b (slice_split is_newline bs) (length bs) below

line_up_to : (last n : ℕ) (words : List Word) (later : List NumberedLine)
    → (holds_word words ≡ true → n ≤ last) → UpTo last later → UpTo last (with_line n words later)
line_up_to last n [] later here below = below
line_up_to last n (word ∷ words) later here below = (here refl, below)

rows_up_to : (last n : ℕ) (lines : List (List ℕ)) → n + size_of lines ≤ last + 2 → UpTo last (rows_at n lines)
rows_up_to last n [] within = tt
rows_up_to last n (line ∷ lines) within =
    line_up_to last n (words_of line) (rows_at (n + 1) lines)
    (λ some. omega (arith, within, worded_line line some))
    (rows_up_to last (n + 1) lines (omega (arith, within)))

said_up_to : (own : List ℕ) (rows len : ℕ) → SaysUpTo (length own) (log_rows own rows len)
said_up_to own rows len =
    faults_up_to (length own) rows len (wanted_rows rows len (row_lines own)) (row_lines own)
    (rows_up_to (length own) 1 (slice_split is_newline own) (omega (arith, size_split own)))
    (wanted_up_to (length own) rows len (row_lines own))

pub fault_up_to : (own : List ℕ) (rows len : ℕ) (fault : LogFault)
    → IfSome (log_told fault) (λ f. log_rows own rows len ≡ Err f) → IsUpTo (length own) fault
fault_up_to own rows len (Digit n) is = subst (SaysUpTo (length own)) is (said_up_to own rows len)
fault_up_to own rows len (Length n) is = subst (SaysUpTo (length own)) is (said_up_to own rows len)
fault_up_to own rows len (Missing found) is = tt
fault_up_to own rows len (Extra n) is = subst (SaysUpTo (length own)) is (said_up_to own rows len)
fault_up_to own rows len (LogMemory e) is = tt
