-- After the head of a test's text, each part has the instruction that Test-Logic-Reset selects, if that instruction is
-- known.
use Rattle.std.proofs.Common.{◌≡◌, ℕ, suc, Bool, true, false, List, [], ◌∷◌, map, Option, Some, refl, sym, ◌∙◌, ap, subst}
use Rattle.tap_defs.specs.declared.tap.TapState.{TapState}
use Rattle.tap_defs.specs.declared.tap.TapState.TheVariants.{TestLogicReset, RunTestIdle}
use Rattle.tap_defs.specs.chain.Tap.{next_state}
use Rattle.tap_defs.specs.chain.TestLogic.{Instruction, reset_instruction}
use Rattle.tap_defs.specs.chain.Part.{FreeBits, old_state_acts, part_tdo}
use Rattle.tap_defs.specs.chain.Chain.{ChainPart, chain_after}
use Rattle.tap_defs.specs.chain.Run.{Wiring, Choice, Choices, clock_tdi, run}
use Rattle.tap_defs.specs.chain.Clocks.{plain, reset_clocks, head_clocks}
use Rattle.tap_defs.specs.chain.ChainRegisters.{bits_at_pins, AllIn}
use Rattle.tap_defs.proofs.board.CalmLemmas.{reset_current}
use Rattle.tap_defs.proofs.chain.HeadLemmas.{part_tap, run_resets}
use Rattle.tap_defs.proofs.chain.MoveLemmas.{moved_to, chain_moves}

-- each part has the instruction that Test-Logic-Reset selects in it, if that instruction is known
abbrev pub AllSelected : List ChainPart → Type 0
AllSelected [] = Unit {0}
AllSelected (p ∷ ps) = ((i : Instruction) → p.logic.at_reset ≡ Some i → p.state.current ≡ i) × AllSelected ps

chain_selects : (ps : List ChainPart) (pins : ℕ → List Bool) (free : ℕ → FreeBits) (tms tdi : Bool) →
    AllIn TestLogicReset (chain_after ps pins free tms tdi) → AllSelected (chain_after ps pins free tms tdi)
chain_selects [] pins free tms tdi h = tt
chain_selects (p ∷ ps) pins free tms tdi h =
    let t : TapState = next_state p.state.tap tms in
    let reset : t ≡ TestLogicReset = sym (part_tap p.logic (pins 0) (free 0) tms tdi p.state) ∙ h.0 in (
      λ i known.
          reset_current t p.state.current p.logic (free 0)
          (record (old_state_acts p.state.tap p.state.current p.logic (pins 0) (free 0) tdi p.state) { tap = t }) reset
          ∙ ap (λ (at : Option Instruction). reset_instruction at (free 0).other) known,
      chain_selects ps (λ k. pins (suc k)) (λ k. free (suc k)) tms (part_tdo (free 0) tdi p.state) h.1,
    )

moved_selected : (t : TapState) (ps : List ChainPart) → AllSelected ps → AllSelected (map (moved_to t) ps)
moved_selected t [] h = tt
moved_selected t (p ∷ ps) h = (h.0, moved_selected t ps h.1)

reset_selects : (wiring : Wiring) (choices : Choices) (ps : List ChainPart) → AllSelected (run wiring reset_clocks choices ps)
unfolding run
reset_selects wiring choices ps =
    let before : List ChainPart = run wiring (plain true ∷ plain true ∷ plain true ∷ plain true ∷ []) choices ps in
    let choice : Choice = choices 4 in
    chain_selects before (bits_at_pins wiring choice before) choice.parts true
    (clock_tdi (plain true) choice) (run_resets wiring choices ps)

-- The sixth clock of the head changes no instruction, so each part still has the instruction that the reset selected.
pub head_selects : (wiring : Wiring) (choices : Choices) (ps : List ChainPart) → AllSelected (run wiring head_clocks choices ps)
unfolding run
head_selects wiring choices ps =
    let reset : List ChainPart = run wiring reset_clocks choices ps in
    let choice : Choice = choices 5 in
    let moved : run wiring head_clocks choices ps ≡ map (moved_to RunTestIdle) reset =
    chain_moves TestLogicReset reset (bits_at_pins wiring choice reset) choice.parts false (clock_tdi (plain false) choice)
    (run_resets wiring choices ps) refl refl in
    subst AllSelected (sym moved) (moved_selected RunTestIdle reset (reset_selects wiring choices ps))
