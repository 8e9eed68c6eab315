use Rattle.std.proofs.Common.{◌∙◌, ap}
use Rattle.board_defs.specs.declared.board.RawBoard.{RawBoard}
use Rattle.board_defs.proofs.BoardLemmas.{instruction_bits_fit}
use Rattle.board_defs.proofs.board.Board.ir_bits.Goals as goal

pub instruction_bits-requires : goal.instruction_bits-requires
instruction_bits-requires c =
    instruction_bits_fit c.args.self.now c.as_slice.result.now c.raw.ensures.rules
    (c.as_slice.ensures ∙ ap (λ (v : RawBoard). v.chain) c.raw.ensures.value)
