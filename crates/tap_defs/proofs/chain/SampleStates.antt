-- The state table of the TAP controller, row by row.
use Rattle.std.proofs.Common.{◌≡◌, true, false, List, [], ◌∷◌, map, refl}
use Rattle.tap_defs.specs.declared.tap.TapState.{TapState}
use Rattle.tap_defs.specs.declared.tap.TapState.TheVariants.{TestLogicReset, RunTestIdle, SelectDR, CaptureDR, ShiftDR, Exit1DR, PauseDR, Exit2DR}
use Rattle.tap_defs.specs.declared.tap.TapState.TheVariants.{UpdateDR, SelectIR, CaptureIR, ShiftIR, Exit1IR, PauseIR, Exit2IR, UpdateIR}
use Rattle.tap_defs.specs.chain.Tap.{next_state}

-- a state, and the states after it with TMS 0 and with TMS 1
pub record Row : Type 0 where
  pub state : TapState
  pub low : TapState
  pub high : TapState

abbrev pub row : TapState → TapState → TapState → Row
row state low high = record { state = state; low = low; high = high }

abbrev pub row_of : TapState → Row
row_of state = row state (next_state state false) (next_state state true)

abbrev pub table : List Row
table =
    row TestLogicReset RunTestIdle TestLogicReset
    ∷ row RunTestIdle RunTestIdle SelectDR
    ∷ row SelectDR CaptureDR SelectIR
    ∷ row CaptureDR ShiftDR Exit1DR
    ∷ row ShiftDR ShiftDR Exit1DR
    ∷ row Exit1DR PauseDR UpdateDR
    ∷ row PauseDR PauseDR Exit2DR
    ∷ row Exit2DR ShiftDR UpdateDR
    ∷ row UpdateDR RunTestIdle SelectDR
    ∷ row SelectIR CaptureIR TestLogicReset
    ∷ row CaptureIR ShiftIR Exit1IR
    ∷ row ShiftIR ShiftIR Exit1IR
    ∷ row Exit1IR PauseIR UpdateIR
    ∷ row PauseIR PauseIR Exit2IR
    ∷ row Exit2IR ShiftIR UpdateIR
    ∷ row UpdateIR RunTestIdle SelectDR
    ∷ []

pub table_is : map (λ r. row_of r.state) table ≡ table
table_is = refl
