-- The TAP controller: the state that follows each state for each value of TMS (IEEE 1149.1-1990, section 5, the state diagram).
use Rattle.std.specs.Prelude.{Bool, cond}
use Rattle.tap_defs.specs.declared.tap.TapState.{TapState}
use Rattle.tap_defs.specs.declared.tap.TapState.TheVariants.{TestLogicReset, RunTestIdle, SelectDR, CaptureDR, ShiftDR, Exit1DR, PauseDR, Exit2DR}
use Rattle.tap_defs.specs.declared.tap.TapState.TheVariants.{UpdateDR, SelectIR, CaptureIR, ShiftIR, Exit1IR, PauseIR, Exit2IR, UpdateIR}

-- The next state. Each row of the table has the state after TMS 1 and then the state after TMS 0.
abbrev pub next_state : TapState → Bool → TapState
next_state TestLogicReset tms = cond tms TestLogicReset RunTestIdle
next_state RunTestIdle tms = cond tms SelectDR RunTestIdle
next_state SelectDR tms = cond tms SelectIR CaptureDR
next_state CaptureDR tms = cond tms Exit1DR ShiftDR
next_state ShiftDR tms = cond tms Exit1DR ShiftDR
next_state Exit1DR tms = cond tms UpdateDR PauseDR
next_state PauseDR tms = cond tms Exit2DR PauseDR
next_state Exit2DR tms = cond tms UpdateDR ShiftDR
next_state UpdateDR tms = cond tms SelectDR RunTestIdle
next_state SelectIR tms = cond tms TestLogicReset CaptureIR
next_state CaptureIR tms = cond tms Exit1IR ShiftIR
next_state ShiftIR tms = cond tms Exit1IR ShiftIR
next_state Exit1IR tms = cond tms UpdateIR PauseIR
next_state PauseIR tms = cond tms Exit2IR PauseIR
next_state Exit2IR tms = cond tms UpdateIR ShiftIR
next_state UpdateIR tms = cond tms SelectDR RunTestIdle
