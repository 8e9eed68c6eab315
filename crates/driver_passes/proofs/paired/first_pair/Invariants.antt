use Rattle.std.proofs.Common.{◌≡◌, drop}
use Rattle.board_defs.specs.Passes.{first_pair}
use Rattle.net_classes.specs.Pairs.{drivers_at}
use Rattle.driver_passes.proofs.paired.first_pair.Given as goal

abbrev pub invariant-loop-d : goal.invariant-loop-d
invariant-loop-d l =
    first_pair l.board (drop l.d-index l.drivers) l.others
    ≡ first_pair l.board (drivers_at l.board l.a) (drivers_at l.board l.b)
