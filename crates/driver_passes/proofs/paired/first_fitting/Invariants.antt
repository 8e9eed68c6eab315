use Rattle.std.proofs.Common.{◌≡◌, drop}
use Rattle.std.specs.Prelude.{find}
use Rattle.net_classes.specs.Pairs.{fit}
use Rattle.driver_passes.proofs.paired.first_fitting.Given as goal

abbrev pub invariant-loop-e : goal.invariant-loop-e
invariant-loop-e l = find (fit l.board l.d) (drop l.e-index l.drivers) ≡ find (fit l.board l.d) l.drivers
