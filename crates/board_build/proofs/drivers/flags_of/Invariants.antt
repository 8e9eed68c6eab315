use Rattle.std.proofs.Common.{drop}
use Rattle.board_build.specs.inner.Marked.{AreFlags}
use Rattle.board_build.proofs.drivers.flags_of.Given as goal

abbrev pub invariant-loop-i : goal.invariant-loop-i
invariant-loop-i l = AreFlags (drop l.i l.cells) l.bits l.flags.items
