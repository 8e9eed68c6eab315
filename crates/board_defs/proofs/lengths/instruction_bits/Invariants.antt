use Rattle.std.proofs.Common.{◌≡◌, take}
use Rattle.std.specs.Prelude.{sum_by}
use Rattle.board_defs.specs.Pins.{instruction_length}
use Rattle.board_defs.proofs.lengths.instruction_bits.Given as goal

abbrev pub invariant-loop-part : goal.invariant-loop-part
invariant-loop-part l = l.bits ≡ sum_by (λ part. instruction_length part.kind) (take l.part-index l.chain)
