use Rattle.std.proofs.Common.{◌≡◌, length}
use Rattle.board_build.proofs.nets.pin_counts.Given as goal

abbrev pub invariant-loop-word : goal.invariant-loop-word
invariant-loop-word l = length l.counts.items ≡ l.count
