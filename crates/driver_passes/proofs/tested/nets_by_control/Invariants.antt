use Rattle.driver_passes.specs.inner.Tested.{AreListed}
use Rattle.driver_passes.proofs.tested.nets_by_control.Given as goal

abbrev pub invariant-loop-net : goal.invariant-loop-net
invariant-loop-net l = AreListed l.board l.net l.lists.items
