-- The registers of a chain that a scan shifts through, and the bits that the capture states load into them (IEEE
-- 1149.1-1990, sections 6 and 8).
use Rattle.std.specs.Prelude.{◌≡◌, ◌≢◌, ℕ, suc, Bool, false, List, [], ◌∷◌, length, map}
use Rattle.tap_defs.specs.declared.tap.TapState.{TapState}
use Rattle.tap_defs.specs.chain.TestLogic.{TestLogic, Instruction, Extest, Sample, Bypass, Idcode, Other}
use Rattle.tap_defs.specs.chain.ShiftRegister.{filled, captured_ir}
use Rattle.tap_defs.specs.chain.Part.{PartState, FreeBits}
use Rattle.tap_defs.specs.chain.Chain.{ChainPart, pin_states}
use Rattle.tap_defs.specs.chain.Run.{Wiring, Choice, Choices}

-- the register that an instruction puts between TDI and TDO; Other selects no register of the model
abbrev pub selected_by : Instruction → List Bool → Bool → List Bool → List Bool
selected_by Extest boundary bypass identification = boundary
selected_by Sample boundary bypass identification = boundary
selected_by Bypass boundary bypass identification = bypass ∷ []
selected_by Idcode boundary bypass identification = identification
selected_by Other boundary bypass identification = []

-- the register between TDI and TDO in Shift-DR
abbrev pub data_register : PartState → List Bool
data_register s = selected_by s.current s.boundary s.bypass s.identification

-- the registers between TDI and TDO in Shift-DR, one for each part
abbrev pub data_registers : List ChainPart → List (List Bool)
data_registers parts = map (λ p. data_register p.state) parts

-- The bits that a part holds after Update-DR under its current instruction: its latches under EXTEST or SAMPLE, its
-- bypass bit under BYPASS, or its identification register under IDCODE. Under Other it holds none.
abbrev pub held_bits : PartState → List Bool
held_bits s = selected_by s.current s.latches s.bypass s.identification

-- the bits that each part holds after Update-DR (`held_bits`)
abbrev pub all_held : List ChainPart → List (List Bool)
all_held parts = map (λ p. held_bits p.state) parts

-- the instruction registers of all parts
abbrev pub ir_registers : List ChainPart → List (List Bool)
ir_registers parts = map (λ p. p.state.ir) parts

-- the bits that Capture-DR loads into the register that an instruction selects, for a boundary register of `n` cells
abbrev pub dr_capture : TestLogic → List Bool → FreeBits → Instruction → ℕ → List Bool
dr_capture logic pins free Extest n = pins
dr_capture logic pins free Sample n = filled n free.cells
dr_capture logic pins free Bypass n = false ∷ []
dr_capture logic pins free Idcode n = logic.idcode
dr_capture logic pins free Other n = []

-- the bits that Capture-DR loads into the selected register of each part
abbrev pub dr_captures : (ℕ → List Bool) → (ℕ → FreeBits) → List ChainPart → List (List Bool)
dr_captures pins free [] = []
dr_captures pins free (p ∷ parts) =
    dr_capture p.logic (pins 0) (free 0) p.state.current (length p.state.boundary)
    ∷ dr_captures (λ k. pins (suc k)) (λ k. free (suc k)) parts

-- the bits that Capture-IR loads into the instruction register of each part
abbrev pub ir_captures : (ℕ → FreeBits) → List ChainPart → List (List Bool)
ir_captures free [] = []
ir_captures free (p ∷ parts) = captured_ir p.state.ir (free 0).ir ∷ ir_captures (λ k. free (suc k)) parts

-- the bits that the pins give the boundary cells of each part
abbrev pub bits_at_pins : Wiring → Choice → List ChainPart → ℕ → List Bool
bits_at_pins wiring choice parts = wiring (pin_states parts) choice

-- The bits that a data scan captures. The controllers are in Capture-DR before the third clock of the scan. `choices 2`
-- is the choice of that clock.
abbrev pub data_captured : Wiring → Choices → List ChainPart → List (List Bool)
data_captured wiring choices parts = dr_captures (bits_at_pins wiring (choices 2) parts) (choices 2).parts parts

-- The bits that an instruction scan captures. The controllers are in Capture-IR before the fourth clock of the scan.
-- `choices 3` is the choice of that clock.
abbrev pub codes_captured : Choices → List ChainPart → List (List Bool)
codes_captured choices parts = ir_captures (choices 3).parts parts

-- every part is in this TAP state
abbrev pub AllIn : TapState → List ChainPart → Type 0
AllIn t [] = Unit {0}
AllIn t (p ∷ parts) = (p.state.tap ≡ t) × AllIn t parts

-- every part is in this TAP state, and has an instruction that selects a register of the model
abbrev pub AllSelectingIn : TapState → List ChainPart → Type 0
AllSelectingIn t [] = Unit {0}
AllSelectingIn t (p ∷ parts) = ((p.state.tap ≡ t) × (p.state.current ≢ Other)) × AllSelectingIn t parts
