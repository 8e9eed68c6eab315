use Rattle.std.proofs.Common.{◌≡◌, map, drop}
use Rattle.tap_defs.specs.chain.Scan.{tdi_bits, tdo_bits, mask_bits}
use Rattle.tap_defs.specs.chain.Codes.{instructs}
use Rattle.plan_tables.specs.inner.Codes.{code_for}
use Rattle.plan_tables.proofs.instructions.rows_of.Given as goal

abbrev pub invariant-loop-i : goal.invariant-loop-i
invariant-loop-i l = record {
  tdi : l.tdi.items ≡ tdi_bits ((instructs (map (λ part. code_for l.instruction part.kind) (drop l.i l.chain))).bits);
  tdo : l.tdo.items ≡ tdo_bits ((instructs (map (λ part. code_for l.instruction part.kind) (drop l.i l.chain))).bits);
  mask : l.mask.items ≡ mask_bits ((instructs (map (λ part. code_for l.instruction part.kind) (drop l.i l.chain))).bits);
}
