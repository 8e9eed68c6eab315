-- Lemmas about the lines of a text: how many rows they give, and which line has the first offense.
use Rattle.std.proofs.Common.{◌≡◌, ℕ, ◌+◌, ◌-◌, ◌<◌, ◌≤◌, zero, suc, Bool, cond, nat_lt, Option, Some, None, Ok, Err, List, [], ◌∷◌, ◌++◌, length, map, take, drop, refl, sym, ap, ◌∙◌, arith, append_assoc, length-drop}
use Rattle.std.specs.Prelude.{IfSome, filter, filter_map}
use Rattle.std.specs.List.{slice_split, cons_option}
use Rattle.std.proofs.lemmas.List.{append-nil, length_push}
use Rattle.text_lines.specs.Words.{Word, words_of, is_newline, lines_of}
use Rattle.text_lines.proofs.LineLemmas.{words_of_empty, text_left}
use Rattle.response_log.specs.declared.fault.LogFault.{LogFault}
use Rattle.response_log.specs.declared.fault.LogFault.TheVariants.{Digit, Length, Missing, Extra, Memory}
use Rattle.response_log.specs.LogRows.{LogAnswer, NumberedLine, line_with, log_told, numbered_lines, holds_word, has_words, bits_of_line, row_fault, offenses, first_or, wanted_rows, rows_of_lines}
use Rattle.response_log.specs.Kept.{text_at}
use Rattle.response_log.proofs.KeptLemmas.{put_behind}

-- The answer for `found` lines that have no offense and whose rows are `log`. It is the log, or `Missing` if
-- there are fewer than `rows` lines.
abbrev pub counted : ℕ → ℕ → List (List Bool) → LogAnswer
counted rows found log = cond (nat_lt found rows) (Err (Missing found)) (Ok log)

-- the log or fault of a text whose first lines with words are the rows of `log` and whose other lines with words are `lines`
abbrev pub rows_after : ℕ → ℕ → List (List Bool) → List NumberedLine → LogAnswer
rows_after rows len log lines =
    first_or (counted rows (length log + length lines) (log ++ filter_map (bits_of_line len) lines))
    (offenses (rows - length log) len lines)

-- The lines with words in the remaining text `left`. The first line of `left` has the number `n`, whether it has words or not.
abbrev pub lines_left : ℕ → Option (List ℕ) → List NumberedLine
lines_left n left = filter has_words (numbered_lines n (lines_of left))

pub rows_after-nil : (rows len : ℕ) (lines : List NumberedLine) → rows_of_lines rows len lines ≡ rows_after rows len [] lines
rows_after-nil rows len lines =
    let wanted : rows - 0 ≡ rows = omega arith in
    let count : 0 + length lines ≡ length lines = omega arith in
    sym (ap (λ n. first_or (counted rows n (filter_map (bits_of_line len) lines)) (offenses (rows - 0) len lines)) count
    ∙ ap (λ n. first_or (wanted_rows rows len lines) (offenses n len lines)) wanted)

pub left_blank : (n : ℕ) (left : Option (List ℕ)) (text line : List ℕ) (more : List (List ℕ))
    → left ≡ Some text → slice_split is_newline text ≡ line ∷ more → words_of line ≡ []
    → lines_left n left ≡ filter has_words (numbered_lines (n + 1) more)
left_blank n left text line more is split none =
    ap (lines_left n) is ∙ ap (λ lines. filter has_words (numbered_lines n lines)) split
    ∙ ap
    (λ words. cond (holds_word words)
    (record { number = n; words = words } ∷ filter has_words (numbered_lines (n + 1) more))
    (filter has_words (numbered_lines (n + 1) more))) none

pub left_words : (n : ℕ) (left : Option (List ℕ)) (text line : List ℕ) (more : List (List ℕ))
    (word : Word) (behind : List ℕ) → left ≡ Some text → slice_split is_newline text ≡ line ∷ more
    → words_of line ≡ word ∷ words_of behind
    → lines_left n left ≡ line_with n word behind ∷ filter has_words (numbered_lines (n + 1) more)
left_words n left text line more word behind is split some =
    ap (lines_left n) is ∙ ap (λ lines. filter has_words (numbered_lines n lines)) split
    ∙ ap
    (λ words. cond (holds_word words)
    (record { number = n; words = words } ∷ filter has_words (numbered_lines (n + 1) more))
    (filter has_words (numbered_lines (n + 1) more))) some

pub after_extra : (rows len : ℕ) (log : List (List Bool)) (line : NumberedLine)
    (lines : List NumberedLine) → rows ≤ length log
    → rows_after rows len log (line ∷ lines) ≡ Err (Extra line.number)
after_extra rows len log line lines full =
    let none : rows - length log ≡ 0 = omega arith in
    ap
    (λ n. first_or
    (counted rows (length log + length (line ∷ lines))
    (log ++ filter_map (bits_of_line len) (line ∷ lines))) (offenses n len (line ∷ lines))) none

after_wanted : (rows len : ℕ) (log : List (List Bool)) (line : NumberedLine)
    (lines : List NumberedLine) (fault : Option LogFault) → length log < rows
    → row_fault len line ≡ fault
    → rows_after rows len log (line ∷ lines)
    ≡ first_or
    (counted rows (length log + length (line ∷ lines))
    (log ++ filter_map (bits_of_line len) (line ∷ lines)))
    (cons_option fault (filter_map (row_fault len) (take (rows - (length log + 1)) lines))
    ++ map (λ l. Extra l.number) (drop (rows - (length log + 1)) lines))
after_wanted rows len log line lines fault wanted is =
    let answer = counted rows (length log + length (line ∷ lines)) (log ++ filter_map (bits_of_line len) (line ∷ lines)) in
    let more : rows - length log ≡ suc (rows - (length log + 1)) = omega arith in
    ap
    (λ n. first_or
    (counted rows (length log + length (line ∷ lines))
    (log ++ filter_map (bits_of_line len) (line ∷ lines))) (offenses n len (line ∷ lines))) more
    ∙ ap
    (λ f. first_or
    (counted rows (length log + length (line ∷ lines))
    (log ++ filter_map (bits_of_line len) (line ∷ lines)))
    (cons_option f (filter_map (row_fault len) (take (rows - (length log + 1)) lines))
    ++ map (λ l. Extra l.number) (drop (rows - (length log + 1)) lines))) is

pub after_fault : (rows len : ℕ) (log : List (List Bool)) (line : NumberedLine)
    (lines : List NumberedLine) (fault : LogFault) → length log < rows
    → row_fault len line ≡ Some fault → rows_after rows len log (line ∷ lines) ≡ Err fault
after_fault rows len log line lines fault wanted is =
    after_wanted rows len log line lines (Some fault) wanted is

pub after_row : (rows len : ℕ) (log : List (List Bool)) (line : NumberedLine)
    (lines : List NumberedLine) (bits : List Bool) → length log < rows → row_fault len line ≡ None
    → bits_of_line len line ≡ Some bits
    → rows_after rows len log (line ∷ lines) ≡ rows_after rows len (log ++ bits ∷ []) lines
after_row rows len log line lines bits wanted none is =
    let faults = λ (n : ℕ). offenses (rows - n) len lines in
    let count : length log + length (line ∷ lines) ≡ length (log ++ bits ∷ []) + length lines = omega (arith, length_push log bits) in
    let row : log ++ filter_map (bits_of_line len) (line ∷ lines)
    ≡ (log ++ bits ∷ [])
    ++ filter_map (bits_of_line len) lines = ap
    (λ o. log ++ cons_option o (filter_map (bits_of_line len) lines)) is
    ∙ sym (append_assoc log (bits ∷ []) (filter_map (bits_of_line len) lines)) in
    after_wanted rows len log line lines None wanted none
    ∙ ap
    (λ n. first_or (counted rows n (log ++ filter_map (bits_of_line len) (line ∷ lines)))
    (offenses (rows - (length log + 1)) len lines)) count
    ∙ ap (λ all. first_or (counted rows (length (log ++ bits ∷ []) + length lines) all) (offenses (rows - (length log + 1)) len lines)) row
    ∙ sym
    (ap
    (λ n. first_or
    (counted rows (length (log ++ bits ∷ []) + length lines)
    ((log ++ bits ∷ []) ++ filter_map (bits_of_line len) lines))
    (offenses (rows - n) len lines)) (length_push log bits))

no_offenses : (n len : ℕ) (answer : LogAnswer) → first_or answer (offenses n len []) ≡ answer
no_offenses zero len answer = refl
no_offenses (suc n) len answer = refl

counted_few : (rows found : ℕ) (log : List (List Bool)) → found < rows → counted rows found log ≡ Err (Missing found)
counted_few rows found log few = grind arith

pub counted_all : (rows found : ℕ) (log : List (List Bool)) → rows ≤ found → counted rows found log ≡ Ok log
counted_all rows found log all = grind arith

pub after_few : (rows len : ℕ) (log : List (List Bool)) → length log < rows → rows_after rows len log [] ≡ Err (Missing (length log))
after_few rows len log few =
    let count : length log + 0 ≡ length log = omega arith in
    no_offenses (rows - length log) len (counted rows (length log + 0) (log ++ []))
    ∙ ap (λ n. counted rows n (log ++ [])) count ∙ counted_few rows (length log) (log ++ []) few

pub after_all : (rows len : ℕ) (log : List (List Bool)) → rows ≤ length log → rows_after rows len log [] ≡ Ok log
after_all rows len log all =
    no_offenses (rows - length log) len (counted rows (length log + 0) (log ++ []))
    ∙ counted_all rows (length log + 0) (log ++ []) (omega arith) ∙ ap Ok (append-nil log)

pub filled_line : (line : List ℕ) (word : Word) (words : List Word) → words_of line ≡ word ∷ words → 0 < length line
filled_line [] word words is =
    let none = words_of_empty [] refl in
    cc
filled_line (b ∷ bs) word words is = omega arith

pub fails_by : (fault : LogFault) (said : LogAnswer) → said ≡ Err fault → IfSome (log_told fault) (λ f. said ≡ Err f)
fails_by (Digit n) said is = is
fails_by (Length n) said is = is
fails_by (Missing found) said is = is
fails_by (Extra n) said is = is
fails_by (Memory e) said is = tt

-- in a text of `text` bytes, a line of `line` bytes begins at `from` and the next line begins at `next`
abbrev pub Follows : ℕ → ℕ → ℕ → ℕ → Type 0
Follows from line text next = (next ≡ from + line + 1) × (next ≤ text)

-- The place `from` is within the text, which has `text` bytes, and not before place `kept`, up to which digits were written over the text.
-- The number of the line at `from` is at most `from + 1`.
abbrev pub IsBehind : ℕ → ℕ → ℕ → ℕ → Type 0
IsBehind kept text number from = (kept ≤ from) × (from ≤ text) × (number ≤ 1 + from)

pub next_behind : (following : Option ℕ) (from line text kept number : ℕ)
    → IfSome following (Follows from line text) → kept ≤ from + line → number ≤ 1 + from
    → IfSome following (IsBehind kept text (number + 1))
next_behind None from line text kept number follows before few = tt
next_behind (Some next) from line text kept number (place, within) before few = (omega arith, within, omega arith)

-- Each line that is read makes the rest of the text shorter, so the loop ends.
pub less_left : (text later : List ℕ) (left following : Option ℕ) (from line : ℕ) → left ≡ Some from
    → from ≤ length text → length later ≡ length text
    → IfSome following (Follows from line (length text))
    → text_left (text_at later following) < text_left (text_at text left)
less_left text later left None from line is within same follows = rw is (omega arith)
less_left text later left (Some next) from line is within same (place, inside) =
    rw is (omega (arith, length-drop next later, length-drop from text))

pub same_left : (text row later : List ℕ) (at end : ℕ) (following : Option ℕ) (from line : ℕ)
    → later ≡ take at text ++ (row ++ drop (at + length row) text) → end ≡ at + length row
    → end ≤ from + line → from + line ≤ length text
    → IfSome following (Follows from line (length text))
    → text_at later following ≡ text_at text following
same_left text row later at end None from line is ends before within follows = refl
same_left text row later at end (Some next) from line is ends before within (place, inside) =
    ap Some (put_behind text row later at end next is ends (omega arith) (omega arith))
