use Rattle.std.proofs.Common.{◌∙◌, ◌+◌, ℕ, List, length, ap, sym, subst}
use Rattle.std.proofs.lemmas.List.{length_push}
use Rattle.fault_sim.specs.declared.kept.ComparedRow.{ComparedRow}
use Rattle.fault_sim.specs.Kept.{AreComparedRows, IsComparedRow}
use Rattle.scan_planner.proofs.NumberedLemmas.{each_more}
use Rattle.fault_sim.proofs.passes.TestPass.new_rows.Goals as goal

pub loop-j-preserved : goal.loop-j-preserved
loop-j-preserved c =
    let board = c.args.self.now.test.board in
    let plan = c.args.self.now.test.plan in
    let x = c.args.self.now.number in
    let rows = c.loop-j.rows.items in
    let row = c.in_ok-new_row.field-0 in
    let count = c.loop-j.invariant.0 in
    let last : IsComparedRow board plan x (length rows) row = subst
    (λ (j : ℕ). IsComparedRow board plan x j row) (sym count) c.in_ok-new_row.ensures in (
      ap (λ (l : List ComparedRow). length l) c.in_ok-push.ensures.items ∙ length_push rows row ∙ ap (λ (n : ℕ). n + 1) count,
      subst (λ (l : List ComparedRow). AreComparedRows board plan x l)
          (sym c.in_ok-push.ensures.items)
          (each_more (λ j v. IsComparedRow board plan x j v) rows row c.loop-j.invariant.1 last),
    )
