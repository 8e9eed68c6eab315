use Rattle.std.proofs.Common.{◌<◌, length, refl, subst}
use Rattle.board_defs.specs.BoardRules.{IsBoard}
use Rattle.walk_test.specs.Tables.{IsWalkOf}
use Rattle.walk_test.specs.inner.Tables.{BoardWalk}
use Rattle.walk_test.proofs.FillLemmas.{row_filled, compare_is}
use Rattle.walk_test.proofs.filling.RowFiller.fill.Goals as goal

pub returns-clause-filled : goal.returns-clause-filled
returns-clause-filled c =
    let it = c.args.self.now in
    let rules = subst (λ (x : BoardWalk). IsBoard x.board) c.self.view_is c.raw-rules.ensures.rules in
    let walk = subst (λ (x : BoardWalk). IsWalkOf x.board x.tables) c.self.view_is c.self.invariant.0 in
    let some = subst (λ (x : BoardWalk). 0 < length x.tables.plan.passes) c.self.view_is c.self.invariant.1 in
    row_filled it.board rules it.tables walk some c.args.j c.requires.row _ _ _ _
    c.shift.ensures.bits c.compare.ensures.tdo c.compare.ensures.mask refl
    (compare_is it.board rules it.tables walk some c.args.j c.requires.row _ c.compare.ensures.mask)
