use Rattle.std.proofs.Common.{◌≡◌, ◌-◌, ◌++◌, false, drop, length, replicate}
use Rattle.tap_defs.specs.chain.Scan.{tdo_bits, mask_bits}
use Rattle.ident_test.specs.Patterns.{ident_bits}
use Rattle.ident_test.proofs.ident.set_registers.Given as goal

-- The rows have the bits of the parts from part `i` on, followed by zeros.
abbrev pub invariant-loop-i : goal.invariant-loop-i
invariant-loop-i l = record {
  at : l.at ≡ length (ident_bits (drop l.i l.parts));
  tdo : l.tdo.bits ≡ tdo_bits (ident_bits (drop l.i l.parts)) ++ replicate (length (ident_bits l.parts) - l.at) false;
  mask : l.mask.bits ≡ mask_bits (ident_bits (drop l.i l.parts)) ++ replicate (length (ident_bits l.parts) - l.at) false;
  tdo_length : length l.tdo.bits ≡ length (ident_bits l.parts);
  mask_length : length l.mask.bits ≡ length (ident_bits l.parts);
  tdo_kept : l.tdo.room ≡ l.fn.tdo.room;
  mask_kept : l.mask.room ≡ l.fn.mask.room;
}
