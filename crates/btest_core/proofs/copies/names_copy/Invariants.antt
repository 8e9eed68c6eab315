use Rattle.std.proofs.Common.{◌≡◌, take}
use Rattle.btest_core.proofs.copies.names_copy.Given as goal

-- the copy has the names visited so far
abbrev pub invariant-loop-name : goal.invariant-loop-name
invariant-loop-name l = l.copy.items ≡ take l.name-index l.names
