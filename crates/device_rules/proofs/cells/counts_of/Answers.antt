use Rattle.std.proofs.Common.{◌+◌, take, sym, ◌∙◌, ap, subst, arith}
use Rattle.device_rules.specs.inner.Stages.{is_for, is_for_cell}
use Rattle.device_rules.specs.inner.Tables.{Counts}
use Rattle.device_rules.proofs.TableLemmas.{counts_kept, counts_more, counts_fit}
use Rattle.device_rules.proofs.CellLemmas.{counts_here, counts_nowhere_else, counts_nowhere, counts_above}
use Rattle.device_rules.proofs.cells.counts_of.Goals as goal
use Rattle.device_rules.proofs.cells.counts_of.Goals.{then-is_for+then-entry-boundary, then-is_for+else-entry-boundary, else-is_for}

pub count_one-requires-clause-room : goal.count_one-requires-clause-room
count_one-requires-clause-room c =
    let few = counts_fit (is_for_cell c.args.stage) c.args.entries.now c.args.boundary
    c.loop-entry.entry-index c.entry-item.result.num c.loop-entry.table.items
    c.loop-entry-test.true c.if-entry-boundary.true c.loop-entry.invariant in
    omega (arith, few, c.requires)

pub loop-entry-preserved : goal.loop-entry-preserved
loop-entry-preserved c =
    let entry = c.entry-item.result in
    let P = λ (t : _). Counts (is_for_cell c.args.stage) (take (c.loop-entry.entry-index + 1) c.args.entries.now) c.args.boundary t in
    elim c.if-is_for.branch [
      | then-is_for+then-entry-boundary w ↦
          subst P (sym (ap (λ t. t.items) w.table-is ∙ w.count_one.ensures))
          (counts_more (is_for_cell c.args.stage) c.args.entries.now c.args.boundary
          c.loop-entry.entry-index entry entry.num c.loop-entry.table.items
          c.loop-entry-test.true (sym c.entry-item.is) w.if-entry-boundary.true
          (counts_here (is_for c.args.stage) entry (sym c.is_for.ensures ∙ w.if-is_for.true))
          (counts_nowhere_else (is_for c.args.stage) entry) c.loop-entry.invariant)
      | then-is_for+else-entry-boundary w ↦
          subst P (sym (ap (λ t. t.items) w.table-is))
          (counts_kept (is_for_cell c.args.stage) c.args.entries.now c.args.boundary
          c.loop-entry.entry-index entry c.loop-entry.table.items c.loop-entry-test.true
          (sym c.entry-item.is)
          (λ n lt. counts_above (is_for c.args.stage) entry c.args.boundary n w.if-entry-boundary.false lt) c.loop-entry.invariant)
      | else-is_for w ↦
          subst P (sym (ap (λ t. t.items) w.table-is))
          (counts_kept (is_for_cell c.args.stage) c.args.entries.now c.args.boundary
          c.loop-entry.entry-index entry c.loop-entry.table.items c.loop-entry-test.true
          (sym c.entry-item.is)
          (λ n lt. counts_nowhere (is_for c.args.stage) entry n (sym c.is_for.ensures ∙ w.if-is_for.false)) c.loop-entry.invariant)
    ]
