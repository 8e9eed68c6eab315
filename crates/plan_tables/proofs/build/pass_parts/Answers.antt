use Rattle.std.proofs.Common.{get_or}
use Rattle.std.proofs.lemmas.Option.{slice_get-get_or}
use Rattle.plan_tables.proofs.HeldLemmas.{control_cells}
use Rattle.plan_tables.proofs.build.pass_parts.Goals as goal

pub net_codes-requires-clause-cells : goal.net_codes-requires-clause-cells
net_codes-requires-clause-cells c k d less x on =
    control_cells c.args.board.now c.raw.ensures.rules x
    (c.requires.plannable.controls k (get_or c.args.passes.now k d) x
    (slice_get-get_or c.args.passes.now k d less) on)
