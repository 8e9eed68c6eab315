use Rattle.std.proofs.Common.{◌≡◌, [], take, fold}
use Rattle.std.specs.List.{flat_map}
use Rattle.board_defs.specs.Passes.{drivers_by_net}
use Rattle.driver_passes.specs.inner.Progress.{IsProgress, enabling}
use Rattle.driver_passes.proofs.drivers.driver_passes.Given as goal

abbrev pub invariant-loop-net : goal.invariant-loop-net
invariant-loop-net l =
    IsProgress l.board l.progress
    × (l.progress.passes.items
    ≡ fold (enabling l.board) []
    (flat_map (λ drivers. drivers) (take l.net (drivers_by_net l.board))))
