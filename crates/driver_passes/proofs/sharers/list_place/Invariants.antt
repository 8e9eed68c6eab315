use Rattle.std.proofs.Common.{take}
use Rattle.driver_passes.proofs.SharerLemmas.{AreMarked}
use Rattle.driver_passes.proofs.sharers.list_place.Given as goal

abbrev pub invariant-loop-net : goal.invariant-loop-net
invariant-loop-net l = AreMarked l.place (take l.net-index l.nets) l.initial.sharers l.sharers
