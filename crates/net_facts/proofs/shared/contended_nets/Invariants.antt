use Rattle.std.proofs.Common.{◌≡◌, take}
use Rattle.net_facts.specs.inner.Shared.{flags_of}
use Rattle.net_facts.proofs.shared.contended_nets.Given as goal

abbrev pub invariant-loop-net : goal.invariant-loop-net
invariant-loop-net l = l.flags.items ≡ flags_of (take l.net-index l.nets)
