use Rattle.std.proofs.Common.{sym, subst}
use Rattle.board_defs.specs.declared.board.RawBoard.{RawBoard}
use Rattle.driver_passes.specs.inner.Progress.{EnableTested}
use Rattle.driver_passes.proofs.pairs.pair_passes.Goals as goal

pub new-requires-clause-tested : goal.new-requires-clause-tested
new-requires-clause-tested c =
    subst (λ (b : RawBoard). EnableTested b c.args.progress.passes.items)
    (sym c.classes.ensures.same) c.requires.tested
