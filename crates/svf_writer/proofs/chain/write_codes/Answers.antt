use Rattle.std.proofs.Common.{true, length, sym, ap, ◌∙◌, arith}
use Rattle.std.specs.List.{list_any}
use Rattle.svf_writer.specs.inner.Chain.{bypass_bits}
use Rattle.svf_writer.proofs.FieldLemmas.{puts_same}
use Rattle.svf_writer.proofs.ScanLemmas.{masked_rows, scan_text-rows}
use Rattle.svf_writer.proofs.ChainLemmas.{length-bypass_tdi, bypass_bits-compared, sum_some}
use Rattle.svf_writer.proofs.chain.write_codes.Goals as goal

pub write_scan-requires-clause-some : goal.write_scan-requires-clause-some
write_scan-requires-clause-some g c =
    omega (
      arith,
      ap length c.fill_codes.ensures.bits.tdi,
      length-bypass_tdi c.args.lengths.now,
      sum_some c.args.lengths.now c.requires.some c.requires.each,
    )

pub write_scan-requires-clause-bits : goal.write_scan-requires-clause-bits
write_scan-requires-clause-bits g c =
    omega (
      arith,
      ap length c.fill_codes.ensures.bits.tdi,
      length-bypass_tdi c.args.lengths.now,
      c.requires.total,
    )

pub write_scan-requires-clause-compare : goal.write_scan-requires-clause-compare
write_scan-requires-clause-compare g c =
    sym
    (ap (list_any (λ bit. bit)) c.fill_codes.ensures.bits.mask
    ∙ bypass_bits-compared c.args.lengths.now c.requires.some c.requires.each)

pub write_scan-requires-clause-masked : goal.write_scan-requires-clause-masked
write_scan-requires-clause-masked g c =
    masked_rows (bypass_bits c.args.lengths.now) _ _ c.fill_codes.ensures.bits.tdo
    c.fill_codes.ensures.bits.mask

pub returns-clause-text : goal.returns-clause-text
returns-clause-text g c =
    puts_same
    (scan_text-rows true (bypass_bits c.args.lengths.now) _ _ _ c.fill_codes.ensures.bits.tdi
    c.fill_codes.ensures.bits.tdo c.fill_codes.ensures.bits.mask) c.write_scan.ensures
