-- A cycle keeps the lengths of a part's registers.
use Rattle.std.proofs.Common.{◌≡◌, ℕ, suc, Bool, List, [], ◌∷◌, length, refl, ◌∙◌}
use Rattle.tap_defs.specs.declared.tap.TapState.{TapState}
use Rattle.tap_defs.specs.declared.tap.TapState.TheVariants.{TestLogicReset, CaptureDR, ShiftDR, UpdateDR, CaptureIR, ShiftIR, UpdateIR}
use Rattle.tap_defs.specs.chain.Tap.{next_state}
use Rattle.tap_defs.specs.chain.TestLogic.{TestLogic, Instruction, Extest, Sample, Bypass, Idcode, Other}
use Rattle.tap_defs.specs.chain.Part.{PartState, FreeBits, old_state_acts, new_state_acts, part_after, part_tdo, IsStateOf}
use Rattle.tap_defs.specs.chain.Chain.{ChainPart, chain_after, logics, AllAreStates}
use Rattle.tap_defs.proofs.chain.ListLemmas.{length-filled, length-shifted, length-captured_ir}

old_keeps : (t : TapState) (i : Instruction) (logic : TestLogic) (pins : List Bool) (free : FreeBits) (tdi : Bool) (s : PartState) →
    length pins ≡ logic.boundary_length → IsStateOf logic s → IsStateOf logic (old_state_acts t i logic pins free tdi s)
old_keeps CaptureIR i logic pins free tdi s fit h =
    record {
      ir = length-captured_ir s.ir free.ir
          ∙ h.ir;
      boundary = h.boundary;
      identification = h.identification;
      latches = h.latches;
    }
old_keeps ShiftIR i logic pins free tdi s fit h =
    record {
      ir = length-shifted s.ir tdi
          ∙ h.ir;
      boundary = h.boundary;
      identification = h.identification;
      latches = h.latches;
    }
old_keeps CaptureDR Extest logic pins free tdi s fit h =
    record { ir = h.ir; boundary = fit; identification = h.identification; latches = h.latches }
old_keeps CaptureDR Sample logic pins free tdi s fit h =
    record {
      ir = h.ir;
      boundary = length-filled (length s.boundary) free.cells
          ∙ h.boundary;
      identification = h.identification;
      latches = h.latches;
    }
old_keeps CaptureDR Bypass logic pins free tdi s fit h =
    record
    { ir = h.ir; boundary = h.boundary; identification = h.identification; latches = h.latches }
old_keeps CaptureDR Idcode logic pins free tdi s fit h =
    record { ir = h.ir; boundary = h.boundary; identification = refl; latches = h.latches }
old_keeps ShiftDR Extest logic pins free tdi s fit h =
    record {
      ir = h.ir;
      boundary = length-shifted s.boundary tdi
          ∙ h.boundary;
      identification = h.identification;
      latches = h.latches;
    }
old_keeps ShiftDR Sample logic pins free tdi s fit h =
    record {
      ir = h.ir;
      boundary = length-shifted s.boundary tdi
          ∙ h.boundary;
      identification = h.identification;
      latches = h.latches;
    }
old_keeps ShiftDR Bypass logic pins free tdi s fit h =
    record
    { ir = h.ir; boundary = h.boundary; identification = h.identification; latches = h.latches }
old_keeps ShiftDR Idcode logic pins free tdi s fit h =
    record {
      ir = h.ir;
      boundary = h.boundary;
      identification = length-shifted s.identification tdi
          ∙ h.identification;
      latches = h.latches;
    }
old_keeps _ _ logic pins free tdi s fit h = h

new_keeps : (t : TapState) (i : Instruction) (logic : TestLogic) (free : FreeBits) (s : PartState) → IsStateOf logic s →
    IsStateOf logic (new_state_acts t i logic free s)
new_keeps UpdateIR i logic free s h = record { ir = h.ir; boundary = h.boundary; identification = h.identification; latches = h.latches }
new_keeps UpdateDR Extest logic free s h =
    record
    { ir = h.ir; boundary = h.boundary; identification = h.identification; latches = h.boundary }
new_keeps UpdateDR Sample logic free s h =
    record
    { ir = h.ir; boundary = h.boundary; identification = h.identification; latches = h.boundary }
new_keeps UpdateDR Other logic free s h =
    record {
      ir = h.ir;
      boundary = h.boundary;
      identification = h.identification;
      latches =
          length-filled (length s.latches) free.latches ∙ h.latches;
    }
new_keeps TestLogicReset i logic free s h =
    record {
      ir = h.ir;
      boundary = h.boundary;
      identification = h.identification;
      latches =
          length-filled (length s.latches) free.latches ∙ h.latches;
    }
new_keeps _ _ logic free s h = h

part_keeps : (logic : TestLogic) (pins : List Bool) (free : FreeBits) (tms tdi : Bool) (s : PartState) →
    length pins ≡ logic.boundary_length →
    IsStateOf logic s → IsStateOf logic (part_after logic pins free tms tdi s)
part_keeps logic pins free tms tdi s fit h =
    let a = old_keeps s.tap s.current logic pins free tdi s fit h in
    new_keeps (next_state s.tap tms) s.current logic free
    (record (old_state_acts s.tap s.current logic pins free tdi s)
    { tap = next_state s.tap tms })
    (record { ir = a.ir; boundary = a.boundary; identification = a.identification; latches = a.latches })

-- each part gets as many bits as it has boundary cells
abbrev pub FitsLogics : (ℕ → List Bool) → List TestLogic → Type 0
FitsLogics pins [] = Unit {0}
FitsLogics pins (logic ∷ parts) = (length (pins 0) ≡ logic.boundary_length) × FitsLogics (λ k. pins (suc k)) parts

pub chain_keeps : (chain : List ChainPart) (pins : ℕ → List Bool) (free : ℕ → FreeBits) (tms tdi : Bool) → FitsLogics pins (logics chain) →
    AllAreStates chain → AllAreStates (chain_after chain pins free tms tdi)
chain_keeps [] pins free tms tdi f h = tt
chain_keeps (p ∷ chain) pins free tms tdi f h = (
  part_keeps p.logic (pins 0) (free 0) tms tdi p.state f.0 h.0,
  chain_keeps chain (λ k. pins (suc k)) (λ k. free (suc k)) tms (part_tdo (free 0) tdi p.state) f.1 h.1,
)
