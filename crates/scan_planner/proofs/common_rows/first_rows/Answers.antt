use Rattle.std.proofs.Common.{◌≡◌, ◌∙◌, ◌+◌, ℕ, List, length, ap, sym, subst}
use Rattle.std.proofs.lemmas.List.{length_push}
use Rattle.bt_bits.specs.Rows.{BitRow}
use Rattle.bt_bits.specs.Stacks.{stacked}
use Rattle.scan_planner.specs.PassRows.{AreFirstRows}
use Rattle.scan_planner.proofs.NumberedLemmas.{each_more}
use Rattle.scan_planner.proofs.common_rows.first_rows.Goals as goal

pub loop-number-preserved : goal.loop-number-preserved
loop-number-preserved c =
    let stack = c.args.stack.now in
    let rows = c.loop-number.rows.items in
    let row = c.copy_stacked.new.self in
    let place = sym c.loop-number.invariant.count in
    record {
      count =
          ap (λ (l : List BitRow). length l) c.in_ok-push.ensures.items ∙ length_push rows row
          ∙ ap (λ (n : ℕ). n + 1) c.loop-number.invariant.count;
      rows =
          subst (AreFirstRows stack) (sym c.in_ok-push.ensures.items)
          (each_more (λ j row. row.bits ≡ stacked stack j) rows row c.loop-number.invariant.rows
          (subst (λ j. row.bits ≡ stacked stack j) place c.copy_stacked.ensures.bits));
    }
