use Rattle.std.proofs.Common.{◌≡◌, map, take}
use Rattle.board_defs.specs.Pins.{instruction_length}
use Rattle.btest_core.proofs.chain.instruction_lengths.Given as goal

-- the list has the instruction lengths of the parts visited so far
abbrev pub invariant-loop-part : goal.invariant-loop-part
invariant-loop-part l = l.lengths.items ≡ map (λ part. instruction_length part.kind) (take l.part-index l.parts)
