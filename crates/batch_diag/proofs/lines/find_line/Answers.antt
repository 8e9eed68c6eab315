-- Proofs for the loop that looks for the first line of a kind, line by line.
use Rattle.std.proofs.Common.{◌+◌, ◌-◌, ◌≤◌, length, ap, sym, subst, arith}
use Rattle.std.specs.Prelude.{option_copied}
use Rattle.std.proofs.lemmas.List.{length-take-le}
use Rattle.text_lines.specs.Words.{words_of}
use Rattle.text_lines.proofs.LineLemmas.{at_some}
use Rattle.batch_diag.specs.inner.Cutting.{is_of_kind}
use Rattle.batch_diag.proofs.CutLemmas.{Passes, passed_none, passed_at, passed_line, kind_words, worded_line, found_all, found_earlier, behind_less, next_within}
use Rattle.batch_diag.proofs.lines.find_line.Goals as goal

pub loop-rest-init : goal.loop-rest-init
loop-rest-init c = record {
  passes = passed_none (is_of_kind c.args.kind) c.args.text.now c.args.number;
  place = omega arith;
  later = omega arith;
}

pub returns-then-is_of_kind : goal.returns-then-is_of_kind
returns-then-is_of_kind c =
    let test = is_of_kind c.args.kind in
    let left = c.in-Some.left.now in
    let line = c.first_line.result.0.now in
    let text = c.args.text.now in
    let passed = passed_at test text c.args.number c.loop-rest.line_number
    (option_copied c.loop-rest.rest) left c.loop-rest.invariant.passes
    (ap option_copied c.in-Some.is) in
    let place : c.loop-rest.line_number + length left
    ≤ c.args.number + length text = at_some
    (λ left. c.loop-rest.line_number + length left.now
    ≤ c.args.number + length text) c.loop-rest.rest c.in-Some.left c.in-Some.is
    c.loop-rest.invariant.place in
    let some = kind_words c.args.kind (words_of line) (sym c.if-is_of_kind.ensures) in
    let less = behind_less c.first_line.result.1 line left c.first_line.ensures.shorter
    c.first_line.ensures.whole (worded_line line some) in
    rw c.or_nothing.ensures
    (record {
      all =
          found_all test text c.args.number c.loop-rest.line_number left line
          (option_copied c.first_line.result.1) passed c.first_line.ensures.lines some;
      earlier =
          found_earlier test text c.args.number c.loop-rest.line_number left line
          (option_copied c.first_line.result.1) passed c.first_line.ensures.lines;
      here = sym c.if-is_of_kind.ensures;
      within = omega (arith, length-take-le (length text - length left) text (omega arith));
      later = c.loop-rest.invariant.later;
      place = omega (arith, place, less);
    })

pub loop-rest-preserved : goal.loop-rest-preserved
loop-rest-preserved c =
    let test = is_of_kind c.args.kind in
    let passed = passed_at test c.args.text.now c.args.number c.loop-rest.line_number
    (option_copied c.loop-rest.rest) c.in-Some.left.now c.loop-rest.invariant.passes
    (ap option_copied c.in-Some.is) in
    record {
      passes =
          passed_line test c.args.text.now c.args.number c.loop-rest.line_number c.in-Some.left.now
          c.first_line.result.0.now (option_copied c.first_line.result.1) passed
          c.first_line.ensures.lines (sym c.if-is_of_kind.ensures);
      place =
          next_within c.first_line.result.1 c.first_line.result.0.now c.in-Some.left.now
          c.loop-rest.line_number (c.args.number + length c.args.text.now)
          c.first_line.ensures.shorter
          (at_some
          (λ left. c.loop-rest.line_number + length left.now
          ≤ c.args.number + length c.args.text.now) c.loop-rest.rest c.in-Some.left c.in-Some.is
          c.loop-rest.invariant.place);
      later = omega (arith, c.loop-rest.invariant.later);
    }

pub returns : goal.returns
returns c =
    subst
    (λ left. Passes (is_of_kind c.args.kind) c.args.text.now c.args.number c.loop-rest.line_number (option_copied left))
    c.in_default.is c.loop-rest.invariant.passes
