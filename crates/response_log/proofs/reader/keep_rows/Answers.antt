-- Proofs for the loop that reads one line at a time.
use Rattle.std.proofs.Common.{◌≡◌, ◌+◌, ◌*◌, ◌≤◌, ◌++◌, length, take, drop, ap, ◌∙◌, sym, subst, rules, arith, Ok, Err, ℕ}
use Rattle.std.specs.Prelude.{IfSome}
use Rattle.std.proofs.lemmas.List.{length-take-le, with_items_is}
use Rattle.std.proofs.lemmas.Result.{err_from_is_err_and}
use Rattle.text_lines.specs.Words.{words_of, lines_of}
use Rattle.text_lines.proofs.LineLemmas.{at_some}
use Rattle.bt_bits.specs.Digits.{digit_row}
use Rattle.bt_bits.specs.Hex.{digit_count}
use Rattle.bt_bits.proofs.DigitLemmas.{length-digits_of}
use Rattle.response_log.specs.declared.fault.LogFault.TheVariants.{Missing}
use Rattle.response_log.specs.Kept.{kept_rows, text_at}
use Rattle.response_log.specs.LogRows.{line_with}
use Rattle.response_log.proofs.KeptLemmas.{length-kept_rows, kept_rows-more, length-more, put_before, whole-more}
use Rattle.response_log.proofs.LineLemmas.{rows_after, lines_left, left_blank, left_words, after_extra, after_fault, after_row, after_few, after_all, filled_line, fails_by, IsBehind, next_behind, less_left, same_left}
use Rattle.response_log.proofs.reader.keep_rows.Goals as goal
use Rattle.response_log.proofs.reader.keep_rows.Goals.{in-Some-next_word+else-found-rows+in_ok-read_row, in_default-next_word}

pub overflow_cast-line_number : goal.overflow_cast-line_number
overflow_cast-line_number c =
    let place = at_some (IsBehind c.loop-next.kept (length c.loop-next.text) c.loop-next.number)
    c.loop-next.next c.in-Some.from c.in-Some.is c.loop-next.invariant.place in
    let filled = filled_line c.line_at-following.result.0.now c.in-Some-next_word.word.now
    (words_of c.in-Some-next_word.behind.now) c.in-Some-next_word.ensures.words in
    omega (arith, filled, place.2, c.line_at-following.ensures.within, c.requires)

pub returns-then-found-rows-clause-read : goal.returns-then-found-rows-clause-read
returns-then-found-rows-clause-read c =
    let digits = take c.loop-next.kept c.loop-next.text in
    let log = kept_rows c.args.len c.loop-next.found digits in
    let following = c.line_at-following.result.1 in
    let line = left_words c.loop-next.number (text_at c.loop-next.text c.loop-next.next) _
    c.line_at-following.result.0.now (lines_of (text_at c.loop-next.text following))
    c.in-Some-next_word.word.now c.in-Some-next_word.behind.now
    (ap (text_at c.loop-next.text) c.in-Some.is) c.line_at-following.ensures.lines
    c.in-Some-next_word.ensures.words in
    c.loop-next.invariant.said ∙ ap (rows_after c.args.rows c.args.len log) line
    ∙ after_extra c.args.rows c.args.len log
    (line_with c.loop-next.number c.in-Some-next_word.word.now c.in-Some-next_word.behind.now)
    (lines_left (c.loop-next.number + 1) (text_at c.loop-next.text following))
    (omega (arith, length-kept_rows c.args.len c.loop-next.found digits, c.if-found-rows.true))

pub returns-in_err-read_row-clause-read : goal.returns-in_err-read_row-clause-read
returns-in_err-read_row-clause-read c =
    let digits = take c.loop-next.kept c.loop-next.text in
    let log = kept_rows c.args.len c.loop-next.found digits in
    let following = c.line_at-following.result.1 in
    let line = left_words c.loop-next.number (text_at c.loop-next.text c.loop-next.next) _
    c.line_at-following.result.0.now (lines_of (text_at c.loop-next.text following))
    c.in-Some-next_word.word.now c.in-Some-next_word.behind.now
    (ap (text_at c.loop-next.text) c.in-Some.is) c.line_at-following.ensures.lines
    c.in-Some-next_word.ensures.words in
    let exit = err_from_is_err_and c.from_residual-in_err-read_row.result c.from_residual-in_err-read_row.ensures.1 in
    rw (exit.1, exit.2) (fails_by _ _ (c.loop-next.invariant.said ∙ ap (rows_after c.args.rows c.args.len log) line
    ∙ after_fault c.args.rows c.args.len log
    (line_with c.loop-next.number c.in-Some-next_word.word.now c.in-Some-next_word.behind.now)
    (lines_left (c.loop-next.number + 1) (text_at c.loop-next.text following)) _
    (omega (arith, length-kept_rows c.args.len c.loop-next.found digits, c.if-found-rows.false))
    c.in_err-read_row.ensures.fault))

pub loop-next-smaller : goal.loop-next-smaller
loop-next-smaller c =
    let place = at_some (IsBehind c.loop-next.kept (length c.loop-next.text) c.loop-next.number)
    c.loop-next.next c.in-Some.from c.in-Some.is c.loop-next.invariant.place in
    less_left c.loop-next.text c.match-next_word.text c.loop-next.next c.line_at-following.result.1
    c.in-Some.from (length c.line_at-following.result.0.now) c.in-Some.is place.1 (omega arith)
    c.line_at-following.ensures.next

pub loop-next-preserved : goal.loop-next-preserved
loop-next-preserved c =
    let place = at_some (IsBehind c.loop-next.kept (length c.loop-next.text) c.loop-next.number)
    c.loop-next.next c.in-Some.from c.in-Some.is c.loop-next.invariant.place in
    let following = c.line_at-following.result.1 in
    let first = c.line_at-following.result.0.now in
    let more = lines_of (text_at c.loop-next.text following) in
    let left = lines_left (c.loop-next.number + 1) (text_at c.loop-next.text following) in
    let digits = take c.loop-next.kept c.loop-next.text in
    let log = kept_rows c.args.len c.loop-next.found digits in
    let sized : length digits
    ≡ c.loop-next.found * digit_count c.args.len = length-take-le c.loop-next.kept
    c.loop-next.text c.loop-next.invariant.within ∙ c.loop-next.invariant.count in
    elim c.match-next_word.branch [
      | in-Some-next_word+else-found-rows+in_ok-read_row w ↦
          let line = left_words c.loop-next.number (text_at c.loop-next.text c.loop-next.next) _
          first more w.in-Some-next_word.word.now w.in-Some-next_word.behind.now
          (ap (text_at c.loop-next.text) c.in-Some.is) c.line_at-following.ensures.lines
          w.in-Some-next_word.ensures.words in
          let row = w.read_row.new.digits in
          let bits = digit_row c.args.len row in
          let long : length row
          ≡ digit_count c.args.len = ap length w.in_ok-read_row.ensures.kept.values
          ∙ length-digits_of bits ∙ ap digit_count w.in_ok-read_row.ensures.kept.count in
          let end = c.loop-next.kept + c.digit_count-width.result in
          let ends : end ≡ c.loop-next.kept + length row = omega (arith, long, c.digit_count-width.ensures) in
          let before : end
          ≤ c.in-Some.from + length first = omega (
            arith,
            place.0,
            w.in-Some-next_word.ensures.within,
            w.in_ok-read_row.ensures.long,
            c.digit_count-width.ensures,
          ) in
          let inside : end ≤ length c.loop-next.text = omega (arith, before, c.line_at-following.ensures.within) in
          let same_items = with_items_is c.loop-next.row row (omega (arith, ap length w.deref_mut.ensures.value, c.loop-next.row.ok.0)) in
          let same_row = w.deref.ensures.value ∙ same_items in
          let put : w.put_row.new.text
          ≡ take c.loop-next.kept c.loop-next.text
          ++ (row ++ drop (c.loop-next.kept + length row) c.loop-next.text) =
          w.put_row.ensures
          ∙ ap
          (λ r. take c.loop-next.kept c.loop-next.text
          ++ (r ++ drop (c.loop-next.kept + length r) c.loop-next.text)) same_row in
          let written = put_before c.loop-next.text row w.put_row.new.text c.loop-next.kept end put ends inside in
          let appended = written ∙ ap (λ ds. digits ++ ds) w.in_ok-read_row.ensures.kept.values in
          let same_length : length w.put_row.new.text ≡ length c.loop-next.text = omega arith in
          let rest = same_left c.loop-next.text row w.put_row.new.text c.loop-next.kept end
          following c.in-Some.from (length first) put ends before
          c.line_at-following.ensures.within c.line_at-following.ensures.next in
          rw (w.found-is, w.kept-is, w.text-is, w.row-is) (record {
            said = c.loop-next.invariant.said ∙ ap (rows_after c.args.rows c.args.len log) line
                ∙ after_row c.args.rows c.args.len log
                (line_with c.loop-next.number w.in-Some-next_word.word.now
                w.in-Some-next_word.behind.now) left bits
                (omega (
                  arith,
                  length-kept_rows c.args.len c.loop-next.found digits,
                  w.if-found-rows.false,
                )) w.in_ok-read_row.ensures.fault
                w.in_ok-read_row.ensures.bits
                ∙ ap (λ log. rows_after c.args.rows c.args.len log left)
                (sym
                (kept_rows-more c.args.len c.loop-next.found digits
                (take end w.put_row.new.text) bits appended sized
                w.in_ok-read_row.ensures.kept.count))
                ∙ ap
                (λ text. rows_after c.args.rows c.args.len
                (kept_rows c.args.len (c.loop-next.found + 1) (take end w.put_row.new.text))
                (lines_left (c.loop-next.number + 1) text)) (sym rest);
            count =
                sym (length-take-le end w.put_row.new.text (omega (arith, inside, same_length)))
                ∙ length-more c.args.len c.loop-next.found digits (take end w.put_row.new.text) bits
                appended sized w.in_ok-read_row.ensures.kept.count;
            whole =
                whole-more c.args.len c.loop-next.found digits (take end w.put_row.new.text) row
                written sized long w.in_ok-read_row.ensures.kept.values c.loop-next.invariant.whole;
            few = omega (arith, w.if-found-rows.false);
            places =
                ap length same_items
                ∙ omega (
                  arith,
                  long,
                  before,
                  c.loop-next.invariant.places,
                  c.digit_count-width.ensures,
                  same_length,
                  inside,
                );
            within = omega (arith, inside, same_length);
            place = subst (λ (n : ℕ). IfSome following (IsBehind end n (c.loop-next.number + 1))) (sym same_length)
                (next_behind following c.in-Some.from (length first) (length c.loop-next.text) end
                c.loop-next.number c.line_at-following.ensures.next before place.2);
          })
      | in_default-next_word w ↦
          let blank = left_blank c.loop-next.number (text_at c.loop-next.text c.loop-next.next) _
          first more (ap (text_at c.loop-next.text) c.in-Some.is)
          c.line_at-following.ensures.lines (search rules) in
          rw (w.found-is, w.kept-is, w.text-is, w.row-is) (record {
            said = c.loop-next.invariant.said ∙ ap (rows_after c.args.rows c.args.len log) blank;
            count = c.loop-next.invariant.count;
            whole = c.loop-next.invariant.whole;
            few = c.loop-next.invariant.few;
            places = c.loop-next.invariant.places;
            within = c.loop-next.invariant.within;
            place =
                next_behind following c.in-Some.from (length first) (length c.loop-next.text)
                c.loop-next.kept c.loop-next.number c.line_at-following.ensures.next
                (omega (arith, place.0)) place.2;
          })
    ]

pub returns-then-found-rows-2-clause-read : goal.returns-then-found-rows-2-clause-read
returns-then-found-rows-2-clause-read c =
    let digits = take c.loop-next.kept c.loop-next.text in
    let log = kept_rows c.args.len c.loop-next.found digits in
    let count = length-kept_rows c.args.len c.loop-next.found digits in
    c.loop-next.invariant.said
    ∙ ap
    (λ left. rows_after c.args.rows c.args.len log
    (lines_left c.loop-next.number (text_at c.loop-next.text left))) c.in_default.is
    ∙ after_few c.args.rows c.args.len log (omega (arith, count, c.if-found-rows-2.true)) ∙ ap (λ n. Err (Missing n)) count

pub returns-clause-read : goal.returns-clause-read
returns-clause-read c =
    let digits = take c.loop-next.kept c.loop-next.text in
    let log = kept_rows c.args.len c.loop-next.found digits in
    let count = length-kept_rows c.args.len c.loop-next.found digits in
    let same : c.loop-next.found ≡ c.args.rows = omega (arith, c.loop-next.invariant.few, c.if-found-rows-2.false) in
    c.loop-next.invariant.said
    ∙ ap
    (λ left. rows_after c.args.rows c.args.len log
    (lines_left c.loop-next.number (text_at c.loop-next.text left))) c.in_default.is
    ∙ after_all c.args.rows c.args.len log (omega (arith, count, c.if-found-rows-2.false))
    ∙ ap (λ n. Ok (kept_rows c.args.len n digits)) same
