use Rattle.std.proofs.Common.{◌≡◌, take}
use Rattle.btest_core.proofs.copies.bits_copy.Given as goal

-- the copy has the port bits visited so far
abbrev pub invariant-loop-bit : goal.invariant-loop-bit
invariant-loop-bit l = l.copy.items ≡ take l.bit-index l.bits
