use Rattle.std.proofs.Common.{◌/◌}
use Rattle.net_classes.specs.Pairs.{pairs_with}
use Rattle.driver_passes.specs.inner.NumberSets.{is_in}
use Rattle.driver_passes.proofs.NumberSetLemmas.{and_bits, no_bits}
use Rattle.driver_passes.proofs.paired.wanted_word.Goals as goal

pub returns-then-word-eq0 : goal.returns-then-word-eq0
returns-then-word-eq0 c =
    no_bits (is_in c.args.left.now) (pairs_with c.args.board.now c.args.a) (c.args.net / 64)
    c.word-word.result c.if-word-eq0.true c.word-word.ensures.bits

pub returns : goal.returns
returns c =
    and_bits (is_in c.args.left.now) (pairs_with c.args.board.now c.args.a) (c.args.net / 64)
    c.word-word.result c.paired_word-paired.result c.word-word.ensures.bits
    c.paired_word-paired.ensures
