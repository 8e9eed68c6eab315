use Rattle.std.proofs.Common.{ap, ◌∙◌}
use Rattle.svf_writer.specs.inner.Chain.{with_marks}
use Rattle.svf_writer.proofs.ChainLemmas.{mark_bits-tdi, mark_bits-tdo, mark_bits-mask}
use Rattle.svf_writer.proofs.chain.fill_marks.Goals as goal

pub returns-clause-bits : goal.returns-clause-bits
returns-clause-bits c = record {
  tdi = c.set_marks.ensures.bits ∙ ap (with_marks 0) c.clear.ensures.bits ∙ mark_bits-tdi c.args.parts;
  tdo = c.set_marks-2.ensures.bits ∙ ap (with_marks c.args.parts) c.clear-2.ensures.bits ∙ mark_bits-tdo c.args.parts;
  mask = c.fill_ones.ensures.bits ∙ mark_bits-mask c.args.parts;
}
