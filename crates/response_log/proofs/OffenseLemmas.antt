-- Proofs that the fault that is reported for a text is the text's first offense.
use Rattle.std.proofs.Common.{◌≡◌, ℕ, ◌+◌, ◌<◌, ◌≤◌, ◌==◌, Bool, true, false, cond, Option, Some, None, is_some, option_and_then, Ok, Err, List, [], ◌∷◌, ◌++◌, length, refl, sym, ap, ◌∙◌, subst, arith, append_assoc, append-nil, inl, inr, ◌⊎◌}
use Rattle.std.specs.Prelude.{All}
use Rattle.std.proofs.lemmas.Bool.{cases_lt}
use Rattle.std.proofs.lemmas.List.{length_push}
use Rattle.std.proofs.lemmas.List.Elements.{All-nil, All-push, All-head, All-tail}
use Rattle.text_lines.specs.Words.{Word}
use Rattle.bt_bits.specs.Hex.{digit_count, text_bits, cut_to, field_bits}
use Rattle.response_log.specs.declared.fault.LogFault.{LogFault}
use Rattle.response_log.specs.declared.fault.LogFault.TheVariants.{Digit, Length, Missing, Extra, Memory}
use Rattle.response_log.specs.LogRows.{LogAnswer, NumberedLine, only_word, bits_of_line, word_fault, row_fault, rows_of_lines, row_lines, log_rows, IsLogOf}
use Rattle.response_log.specs.FirstOffense.{IsLogRow, HasDigitCount, StandsBehind, IsFirstOffense, FirstOffenseIsTold, HasOneOffense, OneOffenseOrLog}
use Rattle.response_log.proofs.LawLemmas.{rows_are_lines}
use Rattle.response_log.proofs.LineLemmas.{rows_after, rows_after-nil, after_extra, after_fault, after_row, after_few, after_all}

-- `fault` is the offense of a line that must be a row, or `None` if the line is a row
abbrev Offends : ℕ → NumberedLine → Option LogFault → Type 0
Offends len line None = IsLogRow len line
Offends len line (Some (Length n)) = (line.number ≡ n) × ¬ HasDigitCount len line
Offends len line (Some (Digit n)) = (line.number ≡ n) × HasDigitCount len line × ¬ IsLogRow len line
Offends len line (Some (Missing found)) = ⊥
Offends len line (Some (Extra n)) = ⊥
Offends len line (Some (Memory e)) = ⊥

-- the offense of one line, which follows from the line's words
module _ (len : ℕ) (line : NumberedLine) where
  no_words : line.words ≡ [] → ¬ HasDigitCount len line
  no_words none (word, is, long) = absurd cc

  two_words : (word other : Word) (words : List Word) → line.words ≡ word ∷ other ∷ words → ¬ HasDigitCount len line
  two_words word other words are (only, is, long) = absurd cc

  other_length : (word : Word) → line.words ≡ word ∷ [] → (length word == digit_count len) ≡ false → ¬ HasDigitCount len line
  other_length word are differs (only, is, long) =
      let same : only ≡ word = cc in
      let sized : length word ≡ digit_count len = ap length (sym same) ∙ long in
      absurd (grind arith)

  bits_are : (word : Word) → line.words ≡ word ∷ [] → bits_of_line len line ≡ field_bits len word
  bits_are word are = ap (λ (ws : List Word). option_and_then (field_bits len) (only_word ws)) are

  no_field : (word : Word) → line.words ≡ word ∷ [] → field_bits len word ≡ None → ¬ IsLogRow len line
  no_field word are none (bits, is) =
      let clash : None ≡ Some bits = sym none ∙ sym (bits_are word are) ∙ is in
      absurd cc

  one_word : (word : Word) (sized : Bool) (field : Option (List Bool)) → line.words ≡ word ∷ []
      → (length word == digit_count len) ≡ sized → field_bits len word ≡ field →
      Offends len line (cond sized (cond (is_some field) None (Some (Digit line.number))) (Some (Length line.number)))
  one_word word true (Some bits) are sized field = (bits, bits_are word are ∙ field)
  one_word word true None are sized field = (refl, (word, are, grind arith), no_field word are field)
  one_word word false field are sized is = (refl, other_length word are sized)

  by_words : (words : List Word) → line.words ≡ words → Offends len line (word_fault len line.number (only_word words))
  by_words [] are = (refl, no_words are)
  by_words (word ∷ []) are = one_word word (length word == digit_count len) (field_bits len word) are refl refl
  by_words (word ∷ other ∷ words) are = (refl, two_words word other words are)

  offends : Offends len line (row_fault len line)
  offends = by_words line.words refl

  not_sized : (word : Word) (bits : List Bool) (sized : Bool)
      → (length word == digit_count len) ≡ sized
      → cond sized (option_and_then (cut_to len) (text_bits word)) None ≡ Some bits
      → length word ≡ digit_count len
  not_sized word bits true sized is = grind arith
  not_sized word bits false sized is = absurd cc

  row_words : (words : List Word) (bits : List Bool) → line.words ≡ words
      → option_and_then (field_bits len) (only_word words) ≡ Some bits → HasDigitCount len line
  row_words [] bits are is = absurd cc
  row_words (word ∷ []) bits are is = (word, are, not_sized word bits (length word == digit_count len) refl is)
  row_words (word ∷ other ∷ words) bits are is = absurd cc

  row_has_length : IsLogRow len line → HasDigitCount len line
  row_has_length (bits, is) = row_words line.words bits refl is

  told_row : (fault : Option LogFault) → Offends len line fault → IsLogRow len line → fault ≡ None
  told_row None says row = refl
  told_row (Some (Length n)) says row = absurd (says.1 (row_has_length row))
  told_row (Some (Digit n)) says row = absurd (says.2 row)
  told_row (Some (Missing found)) says row = absurd says
  told_row (Some (Extra n)) says row = absurd says
  told_row (Some (Memory e)) says row = absurd says

  told_length : (fault : Option LogFault) → Offends len line fault → ¬ HasDigitCount len line → fault ≡ Some (Length line.number)
  told_length None says other = absurd (other (row_has_length says))
  told_length (Some (Length n)) says other = ap (λ m. Some (Length m)) (sym says.0)
  told_length (Some (Digit n)) says other = absurd (other says.1)
  told_length (Some (Missing found)) says other = absurd says
  told_length (Some (Extra n)) says other = absurd says
  told_length (Some (Memory e)) says other = absurd says

  told_digit : (fault : Option LogFault) → Offends len line fault → HasDigitCount len line
      → ¬ IsLogRow len line → fault ≡ Some (Digit line.number)
  told_digit None says long no_row = absurd (no_row says)
  told_digit (Some (Length n)) says long no_row = absurd (says.1 long)
  told_digit (Some (Digit n)) says long no_row = ap (λ m. Some (Digit m)) (sym says.0)
  told_digit (Some (Missing found)) says long no_row = absurd says
  told_digit (Some (Extra n)) says long no_row = absurd says
  told_digit (Some (Memory e)) says long no_row = absurd says

-- Suppose that `rows_after` reports a fault for some rows and the lines after them. The lemmas of this module
-- show that the fault is the first offense of these rows and lines, if `rows` rows are expected.
module _ (rows len : ℕ) where
  abbrev IsFirst : List NumberedLine → LogFault → Type 0
  IsFirst lines fault = IsFirstOffense rows len lines fault

  stands : (before : List NumberedLine) (line : NumberedLine) (later : List NumberedLine)
      (found : ℕ) → All (IsLogRow len) before → length before ≡ found
      → StandsBehind len (before ++ line ∷ later) line found
  stands before line later found are count = record { before = before; later = later; place = refl; rows = are; count = count }

  at_line : (before : List NumberedLine) (line : NumberedLine) (later : List NumberedLine)
      (fault : LogFault) → All (IsLogRow len) before → length before < rows
      → Offends len line (Some fault) → IsFirst (before ++ line ∷ later) fault
  at_line before line later (Length n) are few says =
      (line, length before, stands before line later (length before) are refl, few, says.0, says.1)
  at_line before line later (Digit n) are few says = (
    line,
    length before,
    stands before line later (length before) are refl,
    few,
    says.0,
    says.1,
    says.2,
  )
  at_line before line later (Missing found) are few says = absurd says
  at_line before line later (Extra n) are few says = absurd says
  at_line before line later (Memory e) are few says = absurd says

  at_end : (before : List NumberedLine) (log : List (List Bool)) (fault : LogFault)
      → All (IsLogRow len) before → length log ≡ length before
      → rows_after rows len log [] ≡ Err fault → IsFirst before fault
  at_end before log fault are count is = by_few (cases_lt (length log) rows)
    where
      by_few : (length log < rows) ⊎ (rows ≤ length log) → IsFirst before fault
      by_few (inl few) =
          let told : ◌≡◌ {A = LogAnswer} (Err (Missing (length log))) (Err fault) = sym (after_few rows len log few) ∙ is in
          let same : Missing (length log) ≡ fault = cc in
          subst (IsFirst before) same (are, sym count, few)
      by_few (inr all) =
          let told : ◌≡◌ {A = LogAnswer} (Ok log) (Err fault) = sym (after_all rows len log all) ∙ is in
          absurd cc

  first : (before lines : List NumberedLine) (log : List (List Bool)) (fault : LogFault)
      → All (IsLogRow len) before → length log ≡ length before → length log ≤ rows
      → rows_after rows len log lines ≡ Err fault → IsFirst (before ++ lines) fault
  first before [] log fault are count most is =
      subst (λ (ls : List NumberedLine). IsFirst ls fault) (sym (append-nil before))
      (at_end before log fault are count is)
  first before (line ∷ lines) log fault are count most is =
      by_place
      (λ bits none row. first (before ++ line ∷ []) lines (log ++ bits ∷ []) fault
      (All-push (IsLogRow len) before line are (bits, row))
      (length_push log bits ∙ ap (λ n. n + 1) count ∙ sym (length_push before line)))
      (cases_lt (length log) rows)
    where
      Later : Type 0
      Later =
          (bits : List Bool) → row_fault len line ≡ None → bits_of_line len line ≡ Some bits
          → length (log ++ bits ∷ []) ≤ rows
          → rows_after rows len (log ++ bits ∷ []) lines ≡ Err fault
          → IsFirst ((before ++ line ∷ []) ++ lines) fault

      by_fault : Later → (said : Option LogFault) → length log < rows → row_fault len line ≡ said
          → Offends len line said → IsFirst (before ++ line ∷ lines) fault
      by_fault later None few none (bits, row) =
          subst (λ (ls : List NumberedLine). IsFirst ls fault) (append_assoc before (line ∷ []) lines)
          (later bits none row (omega (arith, length_push log bits)) (sym (after_row rows len log line lines bits few none row) ∙ is))
      by_fault later (Some other) few told says =
          let both : ◌≡◌ {A = LogAnswer} (Err other) (Err fault) = sym (after_fault rows len log line lines other few told) ∙ is in
          let same : other ≡ fault = cc in
          subst (IsFirst (before ++ line ∷ lines)) same (at_line before line lines other are (omega arith) says)

      by_place : Later → (length log < rows) ⊎ (rows ≤ length log) → IsFirst (before ++ line ∷ lines) fault
      by_place later (inl few) = by_fault later (row_fault len line) few refl (offends len line)
      by_place later (inr full) =
          let told : ◌≡◌ {A = LogAnswer} (Err (Extra line.number)) (Err fault) = sym (after_extra rows len log line lines full) ∙ is in
          let same : Extra line.number ≡ fault = cc in
          subst (IsFirst (before ++ line ∷ lines)) same (line, stands before line lines rows are (omega arith), refl)

  to : (lines : List NumberedLine) (fault : LogFault) → rows_of_lines rows len lines ≡ Err fault → IsFirst lines fault
  to lines fault is = first [] lines [] fault (All-nil (IsLogRow len)) refl (omega arith) (sym (rows_after-nil rows len lines) ∙ is)

  -- `passed` has as many rows as `log` and `before` together. After the rows `log`, the lines `before` and `later` give the same log or
  -- fault as the lines `later` give after the rows `passed`.
  record Passed (before later : List NumberedLine) (log : List (List Bool)) : Type 0 where
    passed : List (List Bool)
    count : length passed ≡ length log + length before
    says : rows_after rows len log (before ++ later) ≡ rows_after rows len passed later

  passes : (before later : List NumberedLine) (log : List (List Bool)) → All (IsLogRow len) before
      → length log + length before ≤ rows → Passed before later log
  passes [] later log are most = record { passed = log; count = omega arith; says = refl }
  passes (line ∷ before) later log are most =
      let row = All-head (IsLogRow len) line before are in
      let longer = length_push log row.0 in
      let rest = passes before later (log ++ row.0 ∷ []) (All-tail (IsLogRow len) line before are) (omega (arith, longer, most)) in
      record {
        passed = rest.passed;
        count = omega (arith, rest.count, longer);
        says =
            after_row rows len log line (before ++ later) row.0 (omega (arith, most))
            (told_row len line (row_fault len line) (offends len line) row) row.1 ∙ rest.says;
      }

  behind : (lines : List NumberedLine) (line : NumberedLine) (found : ℕ) (fault : LogFault)
      → StandsBehind len lines line found → found ≤ rows
      → ((log : List (List Bool)) (later : List NumberedLine) → length log ≡ found
      → rows_after rows len log (line ∷ later) ≡ Err fault)
      → rows_of_lines rows len lines ≡ Err fault
  behind lines line found fault at most says =
      let p = passes at.before (line ∷ at.later) [] at.rows (omega (arith, at.count, most)) in
      rows_after-nil rows len lines ∙ ap (rows_after rows len []) at.place ∙ p.says
      ∙ says p.passed at.later (omega (arith, p.count, at.count))

  from : (lines : List NumberedLine) (fault : LogFault) → IsFirst lines fault → rows_of_lines rows len lines ≡ Err fault
  from lines (Length n) (line, found, at, few, number, other) =
      let told : row_fault len line
      ≡ Some (Length n) = told_length len line (row_fault len line) (offends len line) other
      ∙ ap (λ m. Some (Length m)) number in
      behind lines line found (Length n) at (omega arith)
      (λ log later count. after_fault rows len log line later (Length n)
      (omega (arith, count, few)) told)
  from lines (Digit n) (line, found, at, few, number, long, no_row) =
      let told : row_fault len line
      ≡ Some (Digit n) = told_digit len line (row_fault len line) (offends len line) long no_row
      ∙ ap (λ m. Some (Digit m)) number in
      behind lines line found (Digit n) at (omega arith)
      (λ log later count. after_fault rows len log line later (Digit n)
      (omega (arith, count, few)) told)
  from lines (Extra n) (line, at, number) =
      behind lines line rows (Extra n) at (omega arith)
      (λ log later count. after_extra rows len log line later (omega (arith, count))
      ∙ ap (λ m. Err (Extra m)) number)
  from lines (Missing found) (are, count, few) =
      let p = passes lines [] [] are (omega (arith, count, few)) in
      let passed : length p.passed ≡ found = omega (arith, p.count, count) in
      rows_after-nil rows len lines ∙ ap (rows_after rows len []) (sym (append-nil lines)) ∙ p.says
      ∙ after_few rows len p.passed (omega (arith, passed, few))
      ∙ ap (λ n. Err (Missing n)) passed
  from lines (Memory e) is = absurd is

pub first_offense_is_told : FirstOffenseIsTold
first_offense_is_told text rows len fault = (to rows len (row_lines text) fault, from rows len (row_lines text) fault)

pub one_offense_or_log : OneOffenseOrLog
one_offense_or_log text rows len = (no_log, offense (log_rows text rows len) refl)
  where
    no_log : HasOneOffense text rows len → (log : List (List Bool)) → ¬ IsLogOf text rows len log
    no_log has log is =
        let both : ◌≡◌ {A = LogAnswer} (Ok log) (Err has.fault) = sym
        ((rows_are_lines text rows len log).1 is)
        ∙ (first_offense_is_told text rows len has.fault).1 has.is in
        absurd cc

    offense : (said : LogAnswer) → log_rows text rows len ≡ said
        → ((log : List (List Bool)) → ¬ IsLogOf text rows len log) → HasOneOffense text rows len
    offense (Ok log) is none = absurd (none log ((rows_are_lines text rows len log).0 is))
    offense (Err fault) is none = record { fault = fault; is = (first_offense_is_told text rows len fault).0 is; one = one_of fault is }
      where
        one_of : (fault : LogFault) → log_rows text rows len ≡ Err fault → (other : LogFault)
            → IsFirstOffense rows len (row_lines text) other → other ≡ fault
        one_of fault is other first =
            let both : ◌≡◌ {A = LogAnswer} (Err other) (Err fault) = sym ((first_offense_is_told text rows len other).1 first) ∙ is in
            cc
