use Rattle.std.proofs.Common.{◌≡◌, take, fold}
use Rattle.driver_passes.specs.inner.Progress.{IsProgress, enabling}
use Rattle.driver_passes.proofs.drivers.Progress.add_for_drivers.Given as goal

abbrev pub invariant-loop-d : goal.invariant-loop-d
invariant-loop-d l =
    IsProgress l.board l.self
    × (l.self.passes.items
    ≡ fold (enabling l.board) l.initial.self.passes.items (take l.d-index l.drivers))
