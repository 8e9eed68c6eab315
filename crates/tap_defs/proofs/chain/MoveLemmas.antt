-- Clocks that only move the TAP controllers: they neither capture, shift, update nor reset.
use Rattle.std.proofs.Common.{◌≡◌, ℕ, suc, Bool, true, false, not, ◌&&◌, List, [], ◌∷◌, map, refl, sym, ◌∙◌, ap, subst}
use Rattle.std.proofs.lemmas.Bool.{and_parts, not-true}
use Rattle.tap_defs.specs.declared.tap.TapState.{TapState}
use Rattle.tap_defs.specs.declared.tap.TapState.TheVariants.{TestLogicReset, CaptureDR, ShiftDR, UpdateDR, CaptureIR, ShiftIR, UpdateIR}
use Rattle.tap_defs.specs.chain.Tap.{next_state}
use Rattle.tap_defs.specs.chain.TestLogic.{TestLogic, Instruction}
use Rattle.tap_defs.specs.chain.Part.{PartState, FreeBits, old_state_acts, new_state_acts, part_after, part_tdo}
use Rattle.tap_defs.specs.chain.Chain.{ChainPart, chain_after}
use Rattle.tap_defs.specs.chain.Run.{Wiring, Clock, Choices, clock_tdi, later, run}
use Rattle.tap_defs.specs.chain.ChainRegisters.{AllIn, AllSelectingIn, dr_captures, ir_captures, bits_at_pins}
use Rattle.tap_defs.proofs.chain.ListLemmas.{cons_path}

abbrev pub with_tap : TapState → PartState → PartState
with_tap t s = record {
  tap = t;
  ir = s.ir;
  current = s.current;
  boundary = s.boundary;
  bypass = s.bypass;
  identification = s.identification;
  latches = s.latches;
}

pub at_tap : (P : PartState → Type 0) (t : TapState) (s : PartState) → s.tap ≡ t → P (with_tap t s) → P s
at_tap P t s e p = subst (λ (u : TapState). P (with_tap u s)) (sym e) p

abbrev pub moved_to : TapState → ChainPart → ChainPart
moved_to t p = record p { state = with_tap t p.state }

-- true if the action of the old state never changes a register
abbrev pub rests : TapState → Bool
rests CaptureDR = false
rests ShiftDR = false
rests CaptureIR = false
rests ShiftIR = false
rests _ = true

-- true if the action of the new state may change the instruction or the latches
abbrev pub changes : TapState → Bool
changes TestLogicReset = true
changes UpdateDR = true
changes UpdateIR = true
changes _ = false

old_rests : (t : TapState) (i : Instruction) (logic : TestLogic) (pins : List Bool) (free : FreeBits) (tdi : Bool) (s : PartState) →
    rests t ≡ true →
    old_state_acts t i logic pins free tdi s ≡ s
old_rests CaptureDR i logic pins free tdi s e = cc e
old_rests ShiftDR i logic pins free tdi s e = cc e
old_rests CaptureIR i logic pins free tdi s e = cc e
old_rests ShiftIR i logic pins free tdi s e = cc e
old_rests _ _ logic pins free tdi s e = refl

new_rests : (t : TapState) (i : Instruction) (logic : TestLogic) (free : FreeBits) (s : PartState) → changes t ≡ false →
    new_state_acts t i logic free s ≡ s
new_rests TestLogicReset i logic free s e = cc e
new_rests UpdateDR i logic free s e = cc e
new_rests UpdateIR i logic free s e = cc e
new_rests _ _ logic free s e = refl

part_moves : (logic : TestLogic) (pins : List Bool) (free : FreeBits) (tms tdi : Bool) (s : PartState) → rests s.tap ≡ true →
    changes (next_state s.tap tms) ≡ false → part_after logic pins free tms tdi s ≡ with_tap (next_state s.tap tms) s
part_moves logic pins free tms tdi s e f =
    let u : TapState = next_state s.tap tms in
    ap (λ (w : PartState). new_state_acts u s.current logic free (record w { tap = u })) (old_rests s.tap s.current logic pins free tdi s e)
    ∙ new_rests u s.current logic free (with_tap u s) f

pub chain_moves : (t : TapState) (ps : List ChainPart) (pins : ℕ → List Bool) (free : ℕ → FreeBits) (tms tdi : Bool) → AllIn t ps →
    rests t ≡ true →
    changes (next_state t tms) ≡ false → chain_after ps pins free tms tdi ≡ map (moved_to (next_state t tms)) ps
chain_moves t [] pins free tms tdi h e f = refl
chain_moves t (p ∷ ps) pins free tms tdi h e f =
    cons_path
    (ap (λ (s : PartState). record { logic = p.logic; state = s })
    (part_moves p.logic (pins 0) (free 0) tms tdi p.state (ap rests h.0 ∙ e) (ap (λ (u : TapState). changes (next_state u tms)) h.0 ∙ f)
    ∙ ap (λ (u : TapState). with_tap (next_state u tms) p.state) h.0))
    (chain_moves t ps (λ k. pins (suc k)) (λ k. free (suc k)) tms (part_tdo (free 0) tdi p.state) h.1 e f)

pub map-moved_to : {A : Type 0} (g : ChainPart → A) (t : TapState) → ((p : ChainPart) → g (moved_to t p) ≡ g p) → (ps : List ChainPart) →
    map g (map (moved_to t) ps) ≡ map g ps
map-moved_to g t q [] = refl
map-moved_to g t q (p ∷ ps) = cons_path (q p) (map-moved_to g t q ps)

pub dr_captures-moved_to : (t : TapState) (ps : List ChainPart) (pins : ℕ → List Bool) (free : ℕ → FreeBits) →
    dr_captures pins free (map (moved_to t) ps) ≡ dr_captures pins free ps
dr_captures-moved_to t [] pins free = refl
dr_captures-moved_to t (p ∷ ps) pins free = cons_path refl (dr_captures-moved_to t ps (λ k. pins (suc k)) (λ k. free (suc k)))

pub ir_captures-moved_to : (t : TapState) (ps : List ChainPart) (free : ℕ → FreeBits) →
    ir_captures free (map (moved_to t) ps) ≡ ir_captures free ps
ir_captures-moved_to t [] free = refl
ir_captures-moved_to t (p ∷ ps) free = cons_path refl (ir_captures-moved_to t ps (λ k. free (suc k)))

pub moved_in : (t : TapState) (ps : List ChainPart) → AllIn t (map (moved_to t) ps)
moved_in t [] = tt
moved_in t (p ∷ ps) = (refl, moved_in t ps)

pub moved_selecting : (t u : TapState) (ps : List ChainPart) → AllSelectingIn t ps → AllSelectingIn u (map (moved_to u) ps)
moved_selecting t u [] h = tt
moved_selecting t u (p ∷ ps) h = ((refl, h.0.1), moved_selecting t u ps h.1)

pub all_in : (t : TapState) (ps : List ChainPart) → AllSelectingIn t ps → AllIn t ps
all_in t [] h = tt
all_in t (p ∷ ps) h = (h.0.0, all_in t ps h.1)

moved_nowhere : (t : TapState) (ps : List ChainPart) → AllIn t ps → ps ≡ map (moved_to t) ps
moved_nowhere t [] h = refl
moved_nowhere t (p ∷ ps) h =
    cons_path
    (ap (λ (s : PartState). record { logic = p.logic; state = s })
    (at_tap (λ s. s ≡ with_tap t s) t p.state h.0 refl)) (moved_nowhere t ps h.1)

moved_twice : (t u : TapState) (ps : List ChainPart) → map (moved_to u) (map (moved_to t) ps) ≡ map (moved_to u) ps
moved_twice t u [] = refl
moved_twice t u (p ∷ ps) = cons_path refl (moved_twice t u ps)

-- `way` is the state to which these clocks lead a controller. `is_clear` says whether they only move the controller.
abbrev pub way : TapState → List Clock → TapState
way t [] = t
way t (c ∷ cs) = way (next_state t c.tms) cs

abbrev pub is_clear : TapState → List Clock → Bool
is_clear t [] = true
is_clear t (c ∷ cs) = (rests t && not (changes (next_state t c.tms))) && is_clear (next_state t c.tms) cs

pub run_moves : (wiring : Wiring) (t : TapState) (cs : List Clock) (choices : Choices) (ps : List ChainPart) → AllIn t ps →
    is_clear t cs ≡ true →
    run wiring cs choices ps ≡ map (moved_to (way t cs)) ps
unfolding run
run_moves wiring t [] choices ps h e = moved_nowhere t ps h
run_moves wiring t (c ∷ cs) choices ps h e =
    let both = and_parts (rests t && not (changes (next_state t c.tms))) (is_clear (next_state t c.tms) cs) e in
    let step = and_parts (rests t) (not (changes (next_state t c.tms))) both.0 in
    let u : TapState = next_state t c.tms in
    let m =
    chain_moves t ps (bits_at_pins wiring (choices 0) ps) (choices 0).parts c.tms (clock_tdi c (choices 0)) h step.0
    (not-true (changes (next_state t c.tms)) step.1) in
    ap (λ (qs : List ChainPart). run wiring cs (later choices) qs) m
    ∙ run_moves wiring u cs (later choices) (map (moved_to u) ps) (moved_in u ps) both.1
    ∙ moved_twice u (way u cs) ps
