use Rattle.std.proofs.Common.{◌≡◌, take, map}
use Rattle.net_facts.specs.inner.Shared.{shared_in}
use Rattle.net_facts.proofs.shared.shared_row.Given as goal

abbrev pub invariant-loop-class : goal.invariant-loop-class
invariant-loop-class l = l.shared.items ≡ map (shared_in l.flags) (take l.class-index l.row)
