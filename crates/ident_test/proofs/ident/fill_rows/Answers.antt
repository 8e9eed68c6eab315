use Rattle.std.proofs.Common.{false, replicate, ap, ◌∙◌}
use Rattle.ident_test.proofs.RowLemmas.{tdi_zero}
use Rattle.ident_test.proofs.ident.fill_rows.Goals as goal

pub returns-clause-bits : goal.returns-clause-bits
returns-clause-bits c = record {
  tdi = c.clear.ensures.bits ∙ ap (λ n. replicate n false) c.scan_length-bits.ensures ∙ tdi_zero c.args.parts.now;
  tdo = c.set_registers.ensures.tdo;
  mask = c.set_registers.ensures.mask;
}
