use Rattle.std.proofs.Common.{◌≡◌, ◌≤◌, ◌*◌, take}
use Rattle.std.specs.Prelude.{sum_by}
use Rattle.board_defs.specs.Pins.{data_length}
use Rattle.board_build.proofs.rules.data_bits.Given as goal

abbrev pub invariant-loop-part : goal.invariant-loop-part
invariant-loop-part l = record {
  sum : l.bits ≡ sum_by (λ part. data_length part.kind) (take l.part-index l.parts);
  most : l.bits ≤ l.part-index * 4294967295;
}
