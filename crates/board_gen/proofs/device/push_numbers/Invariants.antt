use Rattle.std.proofs.Common.{◌++◌, ◌+◌, codes, decimal}
use Rattle.board_gen.proofs.EachLemmas.{Appended}
use Rattle.board_gen.proofs.device.push_numbers.Given as goal

abbrev pub invariant-loop-number : goal.invariant-loop-number
invariant-loop-number l = Appended (l.fn.text.items ++ decimal l.first) l.text.items (λ n. codes "," ++ decimal n) (l.first + 1) l.number
