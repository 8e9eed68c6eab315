use Rattle.std.proofs.Common.{◌+◌, ◌++◌, codes, decimal, arith}
use Rattle.board_gen.proofs.EachLemmas.{appended_more}
use Rattle.board_gen.proofs.device.push_numbers.Goals as goal

pub loop-number-preserved : goal.loop-number-preserved
loop-number-preserved c =
    appended_more (c.args.text.now.items ++ decimal c.args.first) _ _ (λ n. codes "," ++ decimal n)
    (c.args.first + 1) c.loop-number.number (omega arith) c.loop-number.invariant
    c.in_ok-push_numbered.ensures
