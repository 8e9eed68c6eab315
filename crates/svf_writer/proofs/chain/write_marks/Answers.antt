use Rattle.std.proofs.Common.{false, length, ap, arith}
use Rattle.svf_writer.specs.inner.Chain.{mark_bits}
use Rattle.svf_writer.proofs.FieldLemmas.{puts_same}
use Rattle.svf_writer.proofs.ScanLemmas.{masked_rows, scan_text-rows}
use Rattle.svf_writer.proofs.ChainLemmas.{length-mark_bits}
use Rattle.svf_writer.proofs.chain.write_marks.Goals as goal

pub write_scan-requires-clause-bits : goal.write_scan-requires-clause-bits
write_scan-requires-clause-bits g c = omega (arith, ap length c.fill_marks.ensures.bits.tdi, length-mark_bits c.args.parts, c.requires.few)

pub write_scan-requires-clause-masked : goal.write_scan-requires-clause-masked
write_scan-requires-clause-masked g c =
    masked_rows (mark_bits c.args.parts) _ _ c.fill_marks.ensures.bits.tdo
    c.fill_marks.ensures.bits.mask

pub returns-clause-text : goal.returns-clause-text
returns-clause-text g c =
    puts_same
    (scan_text-rows false (mark_bits c.args.parts) _ _ _ c.fill_marks.ensures.bits.tdi
    c.fill_marks.ensures.bits.tdo c.fill_marks.ensures.bits.mask) c.write_scan.ensures
