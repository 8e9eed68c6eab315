-- A board around its chain: the test logic of the chain's parts, and the bits that the nets give the boundary cells.
use Rattle.std.specs.Prelude.{List, [], map, Option, Some, None}
use Rattle.board_defs.specs.declared.board.PartKind.{PartKind}
use Rattle.board_defs.specs.declared.board.PartKind.TheVariants.{Described, Bypass as WithoutDescription}
use Rattle.board_defs.specs.declared.board.RawBoard.{RawBoard}
use Rattle.board_defs.specs.DeviceRules.{bit_of}
use Rattle.tap_defs.specs.chain.TestLogic.{TestLogic, Instruction, Bypass, Other}
use Rattle.tap_defs.specs.chain.Chain.{ChainPart, IsChainOf}
use Rattle.tap_defs.specs.chain.Run.{Clock, Wiring, PassesOn, FailsOn}
use Rattle.tap_defs.specs.board.FaultSet.{FaultSet}
use Rattle.tap_defs.specs.board.NetBits.{captured}

-- The instruction in Test-Logic-Reset: IDCODE if the device declares an identification pattern, else BYPASS (IEEE
-- 1149.1-1990, section 6). IDCODE is modeled as Other, because the bits that it shifts are not known.
abbrev pub reset_by : {A : Type 0} → Option A → Instruction
reset_by None = Bypass
reset_by (Some code) = Other

-- The test logic of a part. A described part has the lengths and codes of its device. For a part without a description,
-- only the length of the instruction register is known.
abbrev pub test_logic : PartKind → TestLogic
test_logic (Described device) = record {
  ir_length = device.ir;
  boundary_length = device.boundary;
  extest = Some (map bit_of device.extest);
  preload = Some (map bit_of device.sample);
  at_reset = Some (reset_by device.idcode);
  idcode = [];
}
test_logic (WithoutDescription n) =
    record {
      ir_length = n;
      boundary_length = 0;
      extest = None;
      preload = None;
      at_reset = None;
      idcode =
          [];
    }

-- the test logic of each part of the board's chain
abbrev pub board_logics : RawBoard → List TestLogic
board_logics board = map (λ part. test_logic part.kind) board.chain

-- the bits that the pins of a board with these faults give the boundary cells
abbrev pub board_wiring : RawBoard → FaultSet → Wiring
board_wiring board faults states choice part = captured board faults states choice.shorts choice.parts part

-- `chain` is a possible state of the board's chain
abbrev pub IsBoardChain : RawBoard → List ChainPart → Type 0
IsBoardChain board chain = IsChainOf (board_logics board) chain

-- in every run on the board with these faults, every compared bit is as expected
abbrev pub PassOnBoard : RawBoard → FaultSet → List Clock → Type 0
PassOnBoard board faults clocks = PassesOn (board_wiring board faults) (board_logics board) clocks

-- in every run on the board with these faults, some compared bit is not as expected
abbrev pub FailOnBoard : RawBoard → FaultSet → List Clock → Type 0
FailOnBoard board faults clocks = FailsOn (board_wiring board faults) (board_logics board) clocks
