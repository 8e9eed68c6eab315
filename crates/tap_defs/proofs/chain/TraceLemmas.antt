-- The visible state of a part, which consists of its instruction and its latches, changes only if its controller enters
-- Update-IR, Update-DR or Test-Logic-Reset.
use Rattle.std.proofs.Common.{◌≡◌, Bool, ◌∷◌, List, refl, false, ℕ, true, ◌&&◌, [], suc, ◌++◌, ◌<◌, ◌∙◌, length, arith, not, subst, ap, sym}
use Rattle.tap_defs.specs.declared.tap.TapState.{TapState}
use Rattle.tap_defs.specs.declared.tap.TapState.TheVariants.{TestLogicReset, RunTestIdle, CaptureDR, ShiftDR, Exit1DR, UpdateDR, CaptureIR, ShiftIR, Exit1IR, UpdateIR}
use Rattle.tap_defs.specs.chain.Tap.{next_state}
use Rattle.tap_defs.specs.chain.Scan.{ScanBit}
use Rattle.tap_defs.specs.chain.Clocks.{sir_clocks, shift_clocks, plain, sdr_clocks}
use Rattle.tap_defs.specs.chain.ChainRegisters.{AllIn, bits_at_pins}
use Rattle.tap_defs.specs.chain.Chain.{ChainPart, chain_after, pin_states}
use Rattle.tap_defs.specs.chain.Run.{Clock, Wiring, Choices, choices_after, shown, later, clock_after, clock_tdi, run}
use Rattle.tap_defs.specs.chain.Part.{FreeBits, PinState, PartState, part_after, part_tdo, pin_state, new_state_acts, old_state_acts}
use Rattle.tap_defs.specs.chain.TestLogic.{Sample, TestLogic, Extest, Bypass, Instruction, Idcode}
use Rattle.std.proofs.lemmas.Bool.{and_parts, not-true}
use Rattle.tap_defs.proofs.chain.ListLemmas.{cons_path}
use Rattle.tap_defs.proofs.chain.HeadLemmas.{part_tap}
use Rattle.tap_defs.proofs.chain.RunLemmas.{run-append}

-- true if the instruction or the latches may change when this state is entered
abbrev pub changes : TapState → Bool
changes TestLogicReset = true
changes UpdateIR = true
changes UpdateDR = true
changes _ = false

settles_shown : (t : TapState) (i : Instruction) (logic : TestLogic) (free : FreeBits) (s : PartState) → changes t ≡ false →
    pin_state (new_state_acts t i logic free s) ≡ pin_state s
settles_shown TestLogicReset i logic free s e = cc e
settles_shown UpdateIR i logic free s e = cc e
settles_shown UpdateDR i logic free s e = cc e
settles_shown _ _ logic free s e = refl

acts_shown : (t : TapState) (i : Instruction) (logic : TestLogic) (pins : List Bool) (free : FreeBits) (tdi : Bool) (s : PartState) →
    pin_state (old_state_acts t i logic pins free tdi s) ≡ pin_state s
acts_shown CaptureIR i logic pins free tdi s = refl
acts_shown ShiftIR i logic pins free tdi s = refl
acts_shown CaptureDR Extest logic pins free tdi s = refl
acts_shown CaptureDR Sample logic pins free tdi s = refl
acts_shown CaptureDR Bypass logic pins free tdi s = refl
acts_shown CaptureDR Idcode logic pins free tdi s = refl
acts_shown ShiftDR Extest logic pins free tdi s = refl
acts_shown ShiftDR Sample logic pins free tdi s = refl
acts_shown ShiftDR Bypass logic pins free tdi s = refl
acts_shown ShiftDR Idcode logic pins free tdi s = refl
acts_shown _ _ logic pins free tdi s = refl

part_shown : (logic : TestLogic) (pins : List Bool) (free : FreeBits) (tms tdi : Bool) (s : PartState) →
    changes (next_state s.tap tms) ≡ false → pin_state (part_after logic pins free tms tdi s) ≡ pin_state s
part_shown logic pins free tms tdi s e =
    settles_shown (next_state s.tap tms) s.current logic free
    (record (old_state_acts s.tap s.current logic pins free tdi s)
    { tap = next_state s.tap tms }) e
    ∙ acts_shown s.tap s.current logic pins free tdi s

pub taps_step : (t : TapState) (chain : List ChainPart) (pins : ℕ → List Bool) (free : ℕ → FreeBits) (tms tdi : Bool) → AllIn t chain →
    AllIn (next_state t tms) (chain_after chain pins free tms tdi)
taps_step t [] pins free tms tdi h = tt
taps_step t (n ∷ chain) pins free tms tdi h = (
  part_tap n.logic (pins 0) (free 0) tms tdi n.state
      ∙ ap (λ (u : TapState). next_state u tms) h.0,
  taps_step t chain (λ k. pins (suc k)) (λ k. free (suc k)) tms
      (part_tdo (free 0) tdi n.state) h.1,
)

shown_step : (t : TapState) (chain : List ChainPart) (pins : ℕ → List Bool) (free : ℕ → FreeBits) (tms tdi : Bool) → AllIn t chain →
    changes (next_state t tms) ≡ false → pin_states (chain_after chain pins free tms tdi) ≡ pin_states chain
shown_step t [] pins free tms tdi h e = refl
shown_step t (n ∷ chain) pins free tms tdi h e =
    cons_path (part_shown n.logic (pins 0) (free 0) tms tdi n.state (ap (λ (u : TapState). changes (next_state u tms)) h.0 ∙ e))
    (shown_step t chain (λ k. pins (suc k)) (λ k. free (suc k)) tms (part_tdo (free 0) tdi n.state) h.1 e)

-- `tap_after_all` is the state to which these clocks lead the controllers. `is_decided` says whether nothing visible
-- changes on the way.
abbrev pub tap_after_all : TapState → List Clock → TapState
tap_after_all t [] = t
tap_after_all t (c ∷ cs) = tap_after_all (next_state t c.tms) cs

abbrev pub is_decided : TapState → List Clock → Bool
is_decided t [] = true
is_decided t (c ∷ cs) = not (changes (next_state t c.tms)) && is_decided (next_state t c.tms) cs

-- all of these moments have the visible states `s`
abbrev pub AllAre : List PinState → List (List PinState) → Type 0
AllAre s [] = Unit {0}
AllAre s (x ∷ xs) = (x ≡ s) × AllAre s xs

pub record Clear (t : TapState) (moments : List (List PinState)) (chain next : List ChainPart) : Type 0 where
  pub moments_are : AllAre (pin_states chain) moments
  pub same : pin_states next ≡ pin_states chain
  pub idle : AllIn t next

all_are_by : (s s' : List PinState) (xs : List (List PinState)) → s ≡ s' → AllAre s xs → AllAre s' xs
all_are_by s s' xs e h = subst (λ (v : List PinState). AllAre v xs) e h

pub clear_run : (wiring : Wiring) (t : TapState) (cs : List Clock) (free : Choices) (chain : List ChainPart) → AllIn t chain →
    is_decided t cs ≡ true → Clear (tap_after_all t cs) (shown wiring cs free chain) chain (run wiring cs free chain)
unfolding run shown
clear_run wiring t [] free chain h e = record { moments_are = tt; same = refl; idle = h }
clear_run wiring t (c ∷ cs) free chain h e =
    let two = and_parts (not (changes (next_state t c.tms))) (is_decided (next_state t c.tms) cs) e in
    let next : List ChainPart = clock_after wiring c (free 0) chain in
    let same : pin_states next
    ≡ pin_states chain = shown_step t chain (bits_at_pins wiring (free 0) chain) (free 0).parts
    c.tms (clock_tdi c (free 0)) h (not-true (changes (next_state t c.tms)) two.0) in
    let r = clear_run wiring (next_state t c.tms) cs (later free) next
    (taps_step t chain (bits_at_pins wiring (free 0) chain) (free 0).parts c.tms
    (clock_tdi c (free 0)) h) two.1 in
    record {
      moments_are = (
        same,
        all_are_by (pin_states next) (pin_states chain)
            (shown wiring cs (later free) next) same r.moments_are,
      );
      same = r.same
          ∙ same;
      idle = r.idle;
    }

-- Shift clocks change nothing visible, and lead to the Exit1 state.
shifts_clear : (t u : TapState) → next_state t false ≡ t → next_state t true ≡ u → changes t ≡ false → changes u ≡ false →
    (b : ScanBit) (bits : List ScanBit) → (is_decided t (shift_clocks (b ∷ bits)) ≡ true) × (tap_after_all t (shift_clocks (b ∷ bits)) ≡ u)
shifts_clear t u stay leave ct cu b [] = (ap (λ (x : Bool). not x && true) (ap changes leave ∙ cu), leave)
shifts_clear t u stay leave ct cu b (c ∷ bits) =
    let ih = shifts_clear t u stay leave ct cu c bits in (
      ap (λ (x : Bool). not x && is_decided (next_state t false) (shift_clocks (c ∷ bits))) (ap changes stay ∙ ct)
          ∙ ap (λ (x : TapState). is_decided x (shift_clocks (c ∷ bits))) stay ∙ ih.0,
      ap (λ (x : TapState). tap_after_all x (shift_clocks (c ∷ bits))) stay ∙ ih.1,
    )

-- The visible states during a scan: the old ones before its update, and the new ones from the update on.
pub record Switches (moments : List (List PinState)) (chain next : List ChainPart) : Type 0 where
  pub old : List (List PinState)
  pub old_are : AllAre (pin_states chain) old
  pub moments_are : moments ≡ old ++ pin_states next ∷ pin_states next ∷ []

pub shown-append : (wiring : Wiring) (xs ys : List Clock) (free : Choices) (chain : List ChainPart) →
    shown wiring (xs ++ ys) free chain ≡ shown wiring xs free chain ++ shown wiring ys (choices_after xs free) (run wiring xs free chain)
unfolding run shown
shown-append wiring [] ys free chain = refl
shown-append wiring (x ∷ xs) ys free chain = cons_path refl (shown-append wiring xs ys (later free) (clock_after wiring x (free 0) chain))

switch_by : (wiring : Wiring) (t u : TapState) (front : List Clock) (free : Choices) (chain : List ChainPart) → AllIn t chain →
    is_decided t front ≡ true → next_state (tap_after_all t front) true ≡ u → next_state u false ≡ RunTestIdle →
    Switches (shown wiring (front ++ plain true ∷ plain false ∷ []) free chain) chain
    (run wiring (front ++ plain true ∷ plain false ∷ []) free chain)
unfolding run shown
switch_by wiring t u front free chain h clear up back =
    let c = clear_run wiring t front free chain h clear in
    let n1 : List ChainPart = run wiring front free chain in
    let f : Choices = choices_after front free in
    let n2 : List ChainPart = clock_after wiring (plain true) (f 0) n1 in
    let n3 : List ChainPart = clock_after wiring (plain false) (f 1) n2 in
    let tap2 : AllIn u n2 =
    subst (λ (x : TapState). AllIn x n2) up
    (taps_step (tap_after_all t front) n1 (bits_at_pins wiring (f 0) n1) (f 0).parts true
    (f 0).tdi c.idle) in
    let same : pin_states n3
    ≡ pin_states n2 = shown_step u n2 (bits_at_pins wiring (f 1) n2) (f 1).parts false (f 1).tdi
    tap2 (ap changes back) in
    let runs : run wiring (front ++ plain true ∷ plain false ∷ []) free chain
    ≡ n3 = run-append wiring front (plain true ∷ plain false ∷ []) free chain in
    let last : List PinState = pin_states (run wiring (front ++ plain true ∷ plain false ∷ []) free chain) in
    let last_is : last ≡ pin_states n3 = ap pin_states runs in
    record {
      old = shown wiring front free chain;
      old_are = c.moments_are;
      moments_are =
          shown-append wiring front (plain true ∷ plain false ∷ []) free chain
          ∙ ap (λ (v : List PinState). shown wiring front free chain ++ v ∷ pin_states n3 ∷ []) (sym same)
          ∙ ap (λ (v : List PinState). shown wiring front free chain ++ v ∷ v ∷ []) (sym last_is);
    }

front_clear : (t u v : TapState) (front : List Clock) (b : ScanBit) (bits : List ScanBit) → is_decided t front ≡ true →
    tap_after_all t front ≡ u → next_state u false ≡ u → next_state u true ≡ v → changes u ≡ false → changes v ≡ false →
    (is_decided t (front ++ shift_clocks (b ∷ bits)) ≡ true) × (tap_after_all t (front ++ shift_clocks (b ∷ bits)) ≡ v)
front_clear t u v [] b bits e f stay leave cu cv =
    let r = shifts_clear u v stay leave cu cv b bits in (
      ap (λ (x : TapState). is_decided x (shift_clocks (b ∷ bits))) f ∙ r.0,
      ap (λ (x : TapState). tap_after_all x (shift_clocks (b ∷ bits))) f ∙ r.1,
    )
front_clear t u v (c ∷ front) b bits e f stay leave cu cv =
    let two = and_parts (not (changes (next_state t c.tms))) (is_decided (next_state t c.tms) front) e in
    let ih = front_clear (next_state t c.tms) u v front b bits two.1 f stay leave cu cv in
    (ap (λ (x : Bool). x && is_decided (next_state t c.tms) (front ++ shift_clocks (b ∷ bits))) two.0 ∙ ih.0, ih.1)

pub sdr_switches : (wiring : Wiring) (bits : List ScanBit) (free : Choices) (chain : List ChainPart) → AllIn RunTestIdle chain →
    0 < length bits → Switches (shown wiring (sdr_clocks bits) free chain) chain (run wiring (sdr_clocks bits) free chain)
sdr_switches wiring [] free chain h some = absurd (omega (arith, some))
sdr_switches wiring (b ∷ bits) free chain h some =
    let front : List Clock = plain true ∷ plain false ∷ plain false ∷ [] in
    let r = front_clear RunTestIdle ShiftDR Exit1DR front b bits refl refl refl refl refl refl in
    switch_by wiring RunTestIdle UpdateDR (front ++ shift_clocks (b ∷ bits)) free chain h r.0
    (ap (λ (x : TapState). next_state x true) r.1) refl

pub sir_switches : (wiring : Wiring) (bits : List ScanBit) (free : Choices) (chain : List ChainPart) → AllIn RunTestIdle chain →
    0 < length bits → Switches (shown wiring (sir_clocks bits) free chain) chain (run wiring (sir_clocks bits) free chain)
sir_switches wiring [] free chain h some = absurd (omega (arith, some))
sir_switches wiring (b ∷ bits) free chain h some =
    let front : List Clock = plain true ∷ plain true ∷ plain false ∷ plain false ∷ [] in
    let r = front_clear RunTestIdle ShiftIR Exit1IR front b bits refl refl refl refl refl refl in
    switch_by wiring RunTestIdle UpdateIR (front ++ shift_clocks (b ∷ bits)) free chain h r.0
    (ap (λ (x : TapState). next_state x true) r.1) refl
