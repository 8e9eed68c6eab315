use Rattle.std.proofs.Common.{false, length, ap, arith}
use Rattle.std.proofs.lemmas.List.{length-map}
use Rattle.svf_writer.proofs.FieldLemmas.{puts_same}
use Rattle.svf_writer.proofs.ScanLemmas.{masked_rows, scan_text-rows}
use Rattle.ident_test.specs.Patterns.{ident_bits}
use Rattle.ident_test.proofs.LengthLemmas.{room_of, some_of}
use Rattle.ident_test.proofs.ident.put_scan.Goals as goal

pub write_scan-requires-clause-some : goal.write_scan-requires-clause-some
write_scan-requires-clause-some g c =
    omega (
      arith,
      ap length c.fill_rows.ensures.bits.tdi,
      length-map (ident_bits c.args.parts.now) (λ b. b.tdi),
      some_of c.args.parts.now c.requires.whole c.requires.some,
    )

pub write_scan-requires-clause-bits : goal.write_scan-requires-clause-bits
write_scan-requires-clause-bits g c =
    omega (
      arith,
      ap length c.fill_rows.ensures.bits.tdi,
      length-map (ident_bits c.args.parts.now) (λ b. b.tdi),
      room_of c.args.parts.now c.requires.whole c.requires.few,
    )

pub write_scan-requires-clause-masked : goal.write_scan-requires-clause-masked
write_scan-requires-clause-masked g c =
    masked_rows (ident_bits c.args.parts.now) _ _ c.fill_rows.ensures.bits.tdo
    c.fill_rows.ensures.bits.mask

pub returns-clause-text : goal.returns-clause-text
returns-clause-text g c =
    puts_same
    (scan_text-rows false (ident_bits c.args.parts.now) _ _ _ c.fill_rows.ensures.bits.tdi
    c.fill_rows.ensures.bits.tdo c.fill_rows.ensures.bits.mask) c.write_scan.ensures
