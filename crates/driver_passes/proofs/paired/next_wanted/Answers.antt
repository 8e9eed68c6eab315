use Rattle.std.proofs.Common.{◌+◌, ◌*◌, ◌/◌, arith}
use Rattle.driver_passes.specs.inner.Pairs.{is_wanted}
use Rattle.driver_passes.proofs.NumberSetLemmas.{passed_more}
use Rattle.driver_passes.proofs.paired.next_wanted.Goals as goal

pub loop-net-preserved : goal.loop-net-preserved
loop-net-preserved c =
    let wanted = is_wanted c.args.board.now c.args.left.now c.args.a in
    record {
      further = omega (arith, c.loop-net.invariant.further);
      passed =
          passed_more wanted c.args.from c.loop-net.net (64 * (c.loop-net.net / 64 + 1))
          c.loop-net.invariant.passed (c.in_default.ensures wanted c.wanted_word-word.ensures);
    }
