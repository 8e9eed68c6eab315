-- One part in one TCK cycle: the old TAP state acts, the TAP moves, and the new state acts (IEEE 1149.1-1990, sections 5 to 11).
use Rattle.std.specs.Prelude.{◌≡◌, ℕ, Bool, false, List, length}
use Rattle.tap_defs.specs.declared.tap.TapState.{TapState}
use Rattle.tap_defs.specs.declared.tap.TapState.TheVariants.{TestLogicReset, CaptureDR, ShiftDR, UpdateDR, CaptureIR, ShiftIR, UpdateIR}
use Rattle.tap_defs.specs.chain.Tap.{next_state}
use Rattle.tap_defs.specs.chain.TestLogic.{Instruction, Extest, Sample, Bypass, Idcode, Other, TestLogic, instruction_of, reset_instruction}
use Rattle.tap_defs.specs.chain.ShiftRegister.{shifted_out, shifted, filled, captured_ir}

-- the state of a part's test logic: the controller, the registers, the current instruction, and the update latches of the boundary cells
pub record PartState : Type 0 where
  pub tap : TapState
  pub ir : List Bool
  pub current : Instruction
  pub boundary : List Bool
  pub bypass : Bool
  pub identification : List Bool
  pub latches : List Bool

-- the visible state of a part: the current instruction and the update latches, which its pins depend on
pub record PinState : Type 0 where
  pub current : Instruction
  pub latches : List Bool

-- the visible state of a part that has the state `s`
abbrev pub pin_state : PartState → PinState
pin_state s = record { current = s.current; latches = s.latches }

-- The bits that one cycle leaves open. The standard and the description do not decide them, so a part may have any of them.
pub record FreeBits : Type 0 where
  -- the undecided bits that Capture-IR and Capture-DR load, and the undecided bits of the update latches
  pub ir : ℕ → Bool
  pub cells : ℕ → Bool
  pub latches : ℕ → Bool
  -- TDO outside the shift states, and in Shift-DR under Other
  pub tdo : Bool
  -- true if the instruction in Test-Logic-Reset is not BYPASS; used only for a part in which that instruction is not known
  pub other : Bool

-- The part after the old state has acted. Under EXTEST, Capture-DR loads the bits that the pins give the boundary
-- cells.
abbrev pub old_state_acts : TapState → Instruction → TestLogic → List Bool → FreeBits → Bool → PartState → PartState
old_state_acts CaptureIR i logic pins free tdi s = record s { ir = captured_ir s.ir free.ir }
old_state_acts ShiftIR i logic pins free tdi s = record s { ir = shifted s.ir tdi }
old_state_acts CaptureDR Extest logic pins free tdi s = record s { boundary = pins }
old_state_acts CaptureDR Sample logic pins free tdi s = record s { boundary = filled (length s.boundary) free.cells }
old_state_acts CaptureDR Bypass logic pins free tdi s = record s { bypass = false }
old_state_acts CaptureDR Idcode logic pins free tdi s = record s { identification = logic.idcode }
old_state_acts ShiftDR Extest logic pins free tdi s = record s { boundary = shifted s.boundary tdi }
old_state_acts ShiftDR Sample logic pins free tdi s = record s { boundary = shifted s.boundary tdi }
old_state_acts ShiftDR Bypass logic pins free tdi s = record s { bypass = tdi }
old_state_acts ShiftDR Idcode logic pins free tdi s = record s { identification = shifted s.identification tdi }
old_state_acts _ _ logic pins free tdi s = s

-- TDO in the old state
abbrev pub tdo_in : TapState → Instruction → FreeBits → Bool → PartState → Bool
tdo_in ShiftIR i free tdi s = shifted_out s.ir tdi
tdo_in ShiftDR Extest free tdi s = shifted_out s.boundary tdi
tdo_in ShiftDR Sample free tdi s = shifted_out s.boundary tdi
tdo_in ShiftDR Bypass free tdi s = s.bypass
tdo_in ShiftDR Idcode free tdi s = shifted_out s.identification tdi
tdo_in _ _ free tdi s = free.tdo

-- the part after the new state has acted, which may change the current instruction or the latches
abbrev pub new_state_acts : TapState → Instruction → TestLogic → FreeBits → PartState → PartState
new_state_acts UpdateIR i logic free s = record s { current = instruction_of logic s.ir }
new_state_acts UpdateDR Extest logic free s = record s { latches = s.boundary }
new_state_acts UpdateDR Sample logic free s = record s { latches = s.boundary }
new_state_acts UpdateDR Other logic free s = record s { latches = filled (length s.latches) free.latches }
new_state_acts TestLogicReset i logic free s =
    record s { current = reset_instruction logic.at_reset free.other; latches = filled (length s.latches) free.latches }
new_state_acts _ _ logic free s = s

-- the part after one cycle with this TMS and TDI, while its pins give the boundary cells these bits
abbrev pub part_after : TestLogic → List Bool → FreeBits → Bool → Bool → PartState → PartState
part_after logic pins free tms tdi s =
    new_state_acts (next_state s.tap tms) s.current logic free
    (record (old_state_acts s.tap s.current logic pins free tdi s) { tap = next_state s.tap tms })

-- TDO of the part in the cycle
abbrev pub part_tdo : FreeBits → Bool → PartState → Bool
part_tdo free tdi s = tdo_in s.tap s.current free tdi s

-- each register, and the list of the latches, has the length that the part's test logic gives
pub record IsStateOf (logic : TestLogic) (s : PartState) : Type 0 where
  pub ir : length s.ir ≡ logic.ir_length
  pub boundary : length s.boundary ≡ logic.boundary_length
  pub identification : length s.identification ≡ length logic.idcode
  pub latches : length s.latches ≡ logic.boundary_length
