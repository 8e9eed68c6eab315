use Rattle.std.proofs.Common.{◌≡◌, drop}
use Rattle.bt_base.specs.Chosen.{allowed}
use Rattle.bt_base.proofs.memory.allowed.Given as goal

-- `allowed` gives the same number of bytes in two cases: from `least` with the failing puts that the loop has not yet
-- visited, and from `most` with all failing puts.
abbrev pub invariant-loop-f : goal.invariant-loop-f
invariant-loop-f l = allowed (drop l.f-index l.failing) l.call l.least ≡ allowed l.failing l.call l.most
