use Rattle.std.proofs.Common.{◌≡◌, ◌+◌, length, map, take}
use Rattle.tap_defs.specs.chain.Scan.{tdo_bits, mask_bits}
use Rattle.ident_test.specs.Patterns.{symbol_bit}
use Rattle.ident_test.specs.inner.Rows.{with_values}
use Rattle.ident_test.proofs.ident.set_register.Given as goal

abbrev pub invariant-loop-symbol : goal.invariant-loop-symbol
invariant-loop-symbol l = record {
  position : l.position ≡ l.at + l.symbol-index;
  tdo : l.tdo.bits ≡ with_values l.at (tdo_bits (map symbol_bit (take l.symbol-index l.pattern))) l.fn.tdo.bits;
  mask : l.mask.bits ≡ with_values l.at (mask_bits (map symbol_bit (take l.symbol-index l.pattern))) l.fn.mask.bits;
  tdo_length : length l.tdo.bits ≡ length l.fn.tdo.bits;
  mask_length : length l.mask.bits ≡ length l.fn.mask.bits;
  tdo_kept : l.tdo.room ≡ l.fn.tdo.room;
  mask_kept : l.mask.room ≡ l.fn.mask.room;
}
