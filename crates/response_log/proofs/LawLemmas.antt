-- Proofs that a text gives a log if and only if each of its lines with words is a row, and it has the expected number of rows.
use Rattle.std.proofs.Common.{◌≡◌, ◌↔◌, ℕ, ◌≤◌, ◌==◌, Bool, true, false, cond, nat_lt, Option, Some, None, is_some, option_and_then, Ok, Err, List, [], ◌∷◌, ◌++◌, length, map, take, drop, refl, sym, ap, ◌∙◌, arith, length-drop}
use Rattle.std.specs.Prelude.{filter_map}
use Rattle.std.specs.List.{cons_option}
use Rattle.std.proofs.lemmas.List.{take_all, drop_all, length-map}
use Rattle.text_lines.specs.Words.{Word}
use Rattle.bt_bits.specs.Hex.{digit_count, text_bits, cut_to, field_bits}
use Rattle.response_log.specs.declared.fault.LogFault.{LogFault}
use Rattle.response_log.specs.declared.fault.LogFault.TheVariants.{Digit, Length, Missing, Extra}
use Rattle.response_log.specs.LogRows.{LogAnswer, NumberedLine, only_word, bits_of_line, word_fault, row_fault, offenses, first_or, wanted_rows, rows_of_lines, row_lines, log_rows, IsLogOf}
use Rattle.response_log.proofs.LineLemmas.{counted_all}

field_right : (sized : Bool) (field : Option (List Bool)) (n : ℕ) (bits : List Bool)
    → cond sized field None ≡ Some bits
    → cond sized (cond (is_some (cond sized field None)) None (Some (Digit n))) (Some (Length n))
    ≡ None
field_right true (Some field) n bits is = refl
field_right true None n bits is = absurd cc
field_right false field n bits is = absurd cc

field_there : (sized : Bool) (field : Option (List Bool)) (n : ℕ)
    → cond sized (cond (is_some (cond sized field None)) None (Some (Digit n))) (Some (Length n))
    ≡ None → (bits : List Bool) × (cond sized field None ≡ Some bits)
field_there true (Some field) n none = (field, refl)
field_there true None n none = absurd cc
field_there false field n none = absurd cc

word_right : (len n : ℕ) (word : Option Word) (bits : List Bool)
    → option_and_then (field_bits len) word ≡ Some bits → word_fault len n word ≡ None
word_right len n None bits is = absurd cc
word_right len n (Some word) bits is =
    field_right (length word == digit_count len) (option_and_then (cut_to len) (text_bits word)) n bits is

word_there : (len n : ℕ) (word : Option Word) → word_fault len n word ≡ None
    → (bits : List Bool) × (option_and_then (field_bits len) word ≡ Some bits)
word_there len n None none = absurd cc
word_there len n (Some word) none =
    field_there (length word == digit_count len) (option_and_then (cut_to len) (text_bits word)) n none

-- none of the lines has an offense, and the lines are the rows of the log
record AreRows (len : ℕ) (lines : List NumberedLine) (log : List (List Bool)) : Type 0 where
  right : filter_map (row_fault len) lines ≡ []
  rows : filter_map (bits_of_line len) lines ≡ log

are_rows : (len : ℕ) (lines : List NumberedLine) (log : List (List Bool))
    → map (bits_of_line len) lines ≡ map Some log → AreRows len lines log
are_rows len [] [] is = record { right = refl; rows = refl }
are_rows len [] (bits ∷ log) is = absurd cc
are_rows len (line ∷ lines) [] is = absurd cc
are_rows len (line ∷ lines) (bits ∷ log) is =
    let here : bits_of_line len line ≡ Some bits = cc in
    let behind : map (bits_of_line len) lines ≡ map Some log = cc in
    let rest = are_rows len lines log behind in
    record {
      right =
          ap (λ fault. cons_option fault (filter_map (row_fault len) lines))
          (word_right len line.number (only_word line.words) bits here) ∙ rest.right;
      rows = ap (λ row. cons_option row (filter_map (bits_of_line len) lines)) here ∙ ap (λ log. bits ∷ log) rest.rows;
    }

no_first : (fault : Option LogFault) (faults : List LogFault) → cons_option fault faults ≡ [] → (fault ≡ None) × (faults ≡ [])
no_first None faults none = (refl, none)
no_first (Some fault) faults none = absurd cc

rows_there : (len : ℕ) (lines : List NumberedLine) → filter_map (row_fault len) lines ≡ []
    → map (bits_of_line len) lines ≡ map Some (filter_map (bits_of_line len) lines)
rows_there len [] none = refl
rows_there len (line ∷ lines) none =
    let parts = no_first (row_fault len line) (filter_map (row_fault len) lines) none in
    let row = word_there len line.number (only_word line.words) parts.0 in
    ap (λ o. o ∷ map (bits_of_line len) lines) row.1 ∙ ap (λ rows. Some row.0 ∷ rows) (rows_there len lines parts.1)
    ∙ sym (ap (λ o. map Some (cons_option o (filter_map (bits_of_line len) lines))) row.1)

nothing_in : {A : Type 0} (xs ys : List A) → xs ++ ys ≡ [] → (xs ≡ []) × (ys ≡ [])
nothing_in [] ys none = (refl, none)
nothing_in (x ∷ xs) ys none = absurd cc

no_fault_said : (answer : LogAnswer) (faults : List LogFault) (log : List (List Bool))
    → first_or answer faults ≡ Ok log → (faults ≡ []) × (answer ≡ Ok log)
no_fault_said answer [] log is = (refl, is)
no_fault_said answer (fault ∷ faults) log is = absurd cc

counted_said : (few : Bool) (found : ℕ) (rows log : List (List Bool))
    → cond few (Err (Missing found)) (Ok rows) ≡ Ok log → (few ≡ false) × (rows ≡ log)
counted_said true found rows log is = absurd cc
counted_said false found rows log is =
    let same : rows ≡ log = cc in
    (refl, same)

lines_within : (rows : ℕ) (lines : List NumberedLine) → map (λ line. Extra line.number) (drop rows lines) ≡ [] → length lines ≤ rows
lines_within rows lines none =
    let few : length (drop rows lines) ≡ 0 = sym (length-map (drop rows lines) (λ line. Extra line.number)) ∙ ap length none in
    omega (arith, few, length-drop rows lines)

lines_of_log : (len rows : ℕ) (lines : List NumberedLine) (log : List (List Bool))
    → rows_of_lines rows len lines ≡ Ok log
    → (map (bits_of_line len) lines ≡ map Some log) × (length log ≡ rows)
lines_of_log len rows lines log is =
    let said = no_fault_said (wanted_rows rows len lines) (offenses rows len lines) log is in
    let faults = nothing_in (filter_map (row_fault len) (take rows lines)) (map (λ line. Extra line.number) (drop rows lines)) said.0 in
    let answer = counted_said (nat_lt (length lines) rows) (length lines) (filter_map (bits_of_line len) lines) log said.1 in
    let within : length lines ≤ rows = lines_within rows lines faults.1 in
    let right : filter_map (row_fault len) lines ≡ [] = sym (ap (filter_map (row_fault len)) (take_all rows lines within)) ∙ faults.0 in
    let lines_are : map (bits_of_line len) lines ≡ map Some log = rows_there len lines right ∙ ap (map Some) answer.1 in
    let count : length lines ≡ length log = sym (length-map lines (bits_of_line len)) ∙ ap length lines_are ∙ length-map log Some in
    let enough : rows ≤ length lines = grind (arith, answer.0) in
    (lines_are, omega (arith, count, within, enough))

log_of_lines : (len rows : ℕ) (lines : List NumberedLine) (log : List (List Bool))
    → map (bits_of_line len) lines ≡ map Some log → length log ≡ rows
    → rows_of_lines rows len lines ≡ Ok log
log_of_lines len rows lines log is wanted =
    let are = are_rows len lines log is in
    let count : length lines ≡ length log = sym (length-map lines (bits_of_line len)) ∙ ap length is ∙ length-map log Some in
    let none : offenses rows len lines
    ≡ [] = ap
    (λ ls. filter_map (row_fault len) ls ++ map (λ line. Extra line.number) (drop rows lines))
    (take_all rows lines (omega arith))
    ∙ ap (λ ls. filter_map (row_fault len) lines ++ map (λ line. Extra line.number) ls)
    (drop_all rows lines (omega arith)) ∙ ap (λ faults. faults ++ []) are.right in
    ap (first_or (wanted_rows rows len lines)) none
    ∙ counted_all rows (length lines) (filter_map (bits_of_line len) lines) (omega arith)
    ∙ ap Ok are.rows

pub rows_are_lines : (text : List ℕ) (rows len : ℕ) (log : List (List Bool)) → (log_rows text rows len ≡ Ok log) ↔ IsLogOf text rows len log
rows_are_lines text rows len log = (to, from)
  where
    to : log_rows text rows len ≡ Ok log → IsLogOf text rows len log
    to is =
        let parts = lines_of_log len rows (row_lines text) log is in
        record { lines = parts.0; count = parts.1 }

    from : IsLogOf text rows len log → log_rows text rows len ≡ Ok log
    from are = log_of_lines len rows (row_lines text) log are.lines are.count
