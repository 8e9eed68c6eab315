use Rattle.std.proofs.Common.{◌≡◌, take}
use Rattle.std.specs.Prelude.{false, filter, slice_index_or}
use Rattle.net_facts.proofs.shared.shared_of.Given as goal

abbrev pub invariant-loop-net : goal.invariant-loop-net
invariant-loop-net l = l.shared ≡ filter (λ n. slice_index_or l.flags n false) (take l.net-index l.nets)
