use Rattle.std.proofs.Common.{true, ap, set, ◌∙◌}
use Rattle.svf_writer.proofs.ChainLemmas.{ones_more}
use Rattle.svf_writer.proofs.chain.fill_ones.Goals as goal

pub loop-at-preserved : goal.loop-at-preserved
loop-at-preserved c = record {
  bits =
      c.set.ensures.bits ∙ ap (λ t. set t c.loop-at.at true) c.loop-at.invariant.bits
      ∙ ones_more c.args.len c.loop-at.at c.loop-at-test.true;
  room = c.set.ensures.room ∙ c.loop-at.invariant.room;
}
