use Rattle.std.proofs.Common.{◌≡◌, ◌-◌, ◌++◌, false, drop, length, replicate, sum}
use Rattle.tap_defs.specs.chain.Scan.{tdo_bits, mask_bits}
use Rattle.svf_writer.specs.inner.Chain.{bypass_bits}
use Rattle.svf_writer.proofs.chain.set_captures.Given as goal

abbrev pub invariant-loop-i : goal.invariant-loop-i
invariant-loop-i l = record {
  at : l.at ≡ sum (drop l.i l.lengths);
  tdo : l.tdo.bits ≡ tdo_bits (bypass_bits (drop l.i l.lengths)) ++ replicate (sum l.lengths - l.at) false;
  mask : l.mask.bits ≡ mask_bits (bypass_bits (drop l.i l.lengths)) ++ replicate (sum l.lengths - l.at) false;
  tdo_length : length l.tdo.bits ≡ sum l.lengths;
  mask_length : length l.mask.bits ≡ sum l.lengths;
  tdo_kept : l.tdo.room ≡ l.fn.tdo.room;
  mask_kept : l.mask.room ≡ l.fn.mask.room;
}
