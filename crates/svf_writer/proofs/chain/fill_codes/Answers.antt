use Rattle.std.proofs.Common.{true, replicate, sym, ap, ◌∙◌}
use Rattle.svf_writer.proofs.ChainLemmas.{bypass_bits-tdi}
use Rattle.svf_writer.proofs.chain.fill_codes.Goals as goal

pub returns-clause-bits : goal.returns-clause-bits
returns-clause-bits c = record {
  tdi = c.fill_ones.ensures.bits ∙ ap (λ k. replicate k true) c.bits_of-total.ensures ∙ sym (bypass_bits-tdi c.args.lengths.now);
  tdo = c.set_captures.ensures.tdo;
  mask = c.set_captures.ensures.mask;
}
