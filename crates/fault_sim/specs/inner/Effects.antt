-- The bit that a compared cell has under a fault.
use Rattle.std.specs.Prelude.{Bool, Option, Some, None}
use Rattle.board_defs.specs.declared.board.RawBoard.{RawBoard}
use Rattle.board_defs.specs.declared.fault.Single.{Single}
use Rattle.tap_defs.specs.board.NetBits.{Place}
use Rattle.tap_defs.specs.board.TestRows.{TestRow}
use Rattle.tap_defs.specs.board.SingleBits.{single_bit}

-- the bit that a compared cell has under the fault; without a fault, the expected bit
abbrev pub fault_bit : RawBoard → Option Single → TestRow → Place → Bool → Bool
fault_bit board None row place expected = expected
fault_bit board (Some single) row place expected = single_bit board single row place expected
