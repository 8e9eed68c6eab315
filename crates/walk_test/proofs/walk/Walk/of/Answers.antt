use Rattle.std.proofs.Common.{ℕ, List, length, refl, ap, ◌∙◌, subst, arith}
use Rattle.walk_test.specs.declared.tables.NetCells.{NetCells}
use Rattle.walk_test.specs.inner.Tables.{AreMade}
use Rattle.walk_test.proofs.FillLemmas.{nets_few, walk_made}
use Rattle.walk_test.proofs.walk.Walk.of.Goals as goal

pub returns : goal.returns
returns c =
    let board = c.args.board.now in
    let plan = c.in_ok-plan.plan in
    let parts = c.in_ok-parts.ensures in
    walk_made board c.raw-rules.ensures.rules plan c.in_ok-plan.ensures.plan
    (c.in_ok-plan.ensures.passes ∙ parts.settings) _ refl c.args.pins c.requires.pins parts.nets
    parts.cells
    (subst (λ (l : List NetCells). AreMade board plan l c.fill_rows.new.rows) c.as_slice.ensures (rw c.new.ensures at c.fill_rows.ensures))

pub invariant_of-result : goal.invariant_of-result
invariant_of-result c =
    let made = returns c in
    omega (arith, ap (λ (l : List ℕ). length l) made.nets, nets_few c.args.board.now, c.raw-rules.ensures.rules.nets_most)
