-- The properties of a chain that every clock keeps, and the effect of the head of a text on any chain.
use Rattle.std.proofs.Common.{◌≡◌, ℕ, suc, Bool, true, false, ◌&&◌, List, [], ◌∷◌, ◌++◌, length, map, refl, ◌∙◌, ap}
use Rattle.std.proofs.Math.Bool.{and-true}
use Rattle.tap_defs.specs.declared.tap.TapState.{TapState}
use Rattle.tap_defs.specs.declared.tap.TapState.TheVariants.{TestLogicReset, RunTestIdle, SelectDR, CaptureDR, ShiftDR, Exit1DR, PauseDR, Exit2DR}
use Rattle.tap_defs.specs.declared.tap.TapState.TheVariants.{UpdateDR, SelectIR, CaptureIR, ShiftIR, Exit1IR, PauseIR, Exit2IR, UpdateIR}
use Rattle.tap_defs.specs.chain.Tap.{next_state}
use Rattle.tap_defs.specs.chain.TestLogic.{TestLogic, Instruction, Extest, Sample, Bypass, Idcode, Other}
use Rattle.tap_defs.specs.chain.Part.{PartState, FreeBits, old_state_acts, new_state_acts, part_after, part_tdo}
use Rattle.tap_defs.specs.chain.Chain.{ChainPart, chain_after, logics, AllAreStates, IsChainOf}
use Rattle.tap_defs.specs.chain.Run.{Wiring, Clock, Choices, clock_tdi, clock_after, later, choices_after, run, tdos, run_passes}
use Rattle.tap_defs.specs.chain.Scan.{Scan}
use Rattle.tap_defs.specs.chain.Clocks.{all_clocks, reset_clocks, head_clocks, test_clocks}
use Rattle.tap_defs.specs.chain.ChainRegisters.{ir_registers, bits_at_pins, AllIn}
use Rattle.tap_defs.specs.chain.ChainTest.{ir_lengths}
use Rattle.tap_defs.proofs.chain.ListLemmas.{cons_path, length-shifted, length-captured_ir}
use Rattle.tap_defs.proofs.chain.MoveLemmas.{way}
use Rattle.tap_defs.proofs.chain.RunLemmas.{run_keeps, two_pass}

pub chain_logics : (ps : List ChainPart) (pins : ℕ → List Bool) (free : ℕ → FreeBits) (tms tdi : Bool) →
    logics (chain_after ps pins free tms tdi) ≡ logics ps
chain_logics [] pins free tms tdi = refl
chain_logics (p ∷ ps) pins free tms tdi =
    cons_path refl
    (chain_logics ps (λ k. pins (suc k)) (λ k. free (suc k)) tms (part_tdo (free 0) tdi p.state))

pub run_logics : (wiring : Wiring) (cs : List Clock) (choices : Choices) (ps : List ChainPart) →
    logics (run wiring cs choices ps) ≡ logics ps
run_logics wiring cs choices ps =
    run_keeps (λ (qs : List ChainPart). logics qs ≡ logics ps) wiring
    (λ c choice qs e. chain_logics qs (bits_at_pins wiring choice qs) choice.parts c.tms (clock_tdi c choice) ∙ e) cs choices ps refl

-- A clock does not change the lengths of the instruction registers. It performs the action of the old TAP state and then
-- that of the new TAP state, and neither action changes them.
old_ir : (t : TapState) (i : Instruction) (logic : TestLogic) (pins : List Bool) (free : FreeBits) (tdi : Bool) (s : PartState) →
    length (old_state_acts t i logic pins free tdi s).ir ≡ length s.ir
old_ir CaptureIR i logic pins free tdi s = length-captured_ir s.ir free.ir
old_ir ShiftIR i logic pins free tdi s = length-shifted s.ir tdi
old_ir CaptureDR Extest logic pins free tdi s = refl
old_ir CaptureDR Sample logic pins free tdi s = refl
old_ir CaptureDR Bypass logic pins free tdi s = refl
old_ir CaptureDR Idcode logic pins free tdi s = refl
old_ir ShiftDR Extest logic pins free tdi s = refl
old_ir ShiftDR Sample logic pins free tdi s = refl
old_ir ShiftDR Bypass logic pins free tdi s = refl
old_ir ShiftDR Idcode logic pins free tdi s = refl
old_ir _ _ logic pins free tdi s = refl

new_ir : (t : TapState) (i : Instruction) (logic : TestLogic) (free : FreeBits) (s : PartState) →
    (new_state_acts t i logic free s).ir ≡ s.ir
new_ir UpdateIR i logic free s = refl
new_ir UpdateDR Extest logic free s = refl
new_ir UpdateDR Sample logic free s = refl
new_ir UpdateDR Other logic free s = refl
new_ir TestLogicReset i logic free s = refl
new_ir _ _ logic free s = refl

part_ir : (logic : TestLogic) (pins : List Bool) (free : FreeBits) (tms tdi : Bool) (s : PartState) →
    length (part_after logic pins free tms tdi s).ir ≡ length s.ir
part_ir logic pins free tms tdi s =
    ap (λ (r : List Bool). length r)
    (new_ir (next_state s.tap tms) s.current logic free
    (record (old_state_acts s.tap s.current logic pins free tdi s)
    { tap = next_state s.tap tms }))
    ∙ old_ir s.tap s.current logic pins free tdi s

abbrev pub ir_sizes : List ChainPart → List ℕ
ir_sizes ps = map length (ir_registers ps)

chain_ir : (ps : List ChainPart) (pins : ℕ → List Bool) (free : ℕ → FreeBits) (tms tdi : Bool) →
    ir_sizes (chain_after ps pins free tms tdi) ≡ ir_sizes ps
chain_ir [] pins free tms tdi = refl
chain_ir (p ∷ ps) pins free tms tdi =
    cons_path (part_ir p.logic (pins 0) (free 0) tms tdi p.state)
    (chain_ir ps (λ k. pins (suc k)) (λ k. free (suc k)) tms (part_tdo (free 0) tdi p.state))

pub run_ir : (wiring : Wiring) (cs : List Clock) (choices : Choices) (ps : List ChainPart) →
    ir_sizes (run wiring cs choices ps) ≡ ir_sizes ps
run_ir wiring cs choices ps =
    run_keeps (λ (qs : List ChainPart). ir_sizes qs ≡ ir_sizes ps) wiring
    (λ c choice qs e. chain_ir qs (bits_at_pins wiring choice qs) choice.parts c.tms (clock_tdi c choice) ∙ e) cs choices ps refl

pub states_ir : (ps : List ChainPart) → AllAreStates ps → ir_sizes ps ≡ ir_lengths (logics ps)
states_ir [] h = refl
states_ir (p ∷ ps) h = cons_path h.0.ir (states_ir ps h.1)

pub chain_lengths : (parts : List TestLogic) (ps : List ChainPart) → IsChainOf parts ps → ir_sizes ps ≡ ir_lengths parts
chain_lengths parts ps h = states_ir ps h.states_are ∙ ap (λ (l : List TestLogic). ir_lengths l) h.logics_are

-- A clock moves each TAP controller as the state table says, because the action of the new state does not change the
-- TAP state.
new_tap : (t : TapState) (i : Instruction) (logic : TestLogic) (free : FreeBits) (s : PartState) →
    (new_state_acts t i logic free s).tap ≡ s.tap
new_tap UpdateIR i logic free s = refl
new_tap UpdateDR Extest logic free s = refl
new_tap UpdateDR Sample logic free s = refl
new_tap UpdateDR Other logic free s = refl
new_tap TestLogicReset i logic free s = refl
new_tap _ _ logic free s = refl

pub part_tap : (logic : TestLogic) (pins : List Bool) (free : FreeBits) (tms tdi : Bool) (s : PartState) →
    (part_after logic pins free tms tdi s).tap ≡ next_state s.tap tms
part_tap logic pins free tms tdi s =
    new_tap (next_state s.tap tms) s.current logic free
    (record (old_state_acts s.tap s.current logic pins free tdi s)
    { tap = next_state s.tap tms })

-- these clocks lead the controller of every part to the state `u`
abbrev AllLead : TapState → List Clock → List ChainPart → Type 0
AllLead u cs [] = Unit {0}
AllLead u cs (p ∷ ps) = (way p.state.tap cs ≡ u) × AllLead u cs ps

chain_leads : (u : TapState) (c : Clock) (cs : List Clock) (ps : List ChainPart) (pins : ℕ → List Bool) (free : ℕ → FreeBits) (tdi : Bool) →
    AllLead u (c ∷ cs) ps → AllLead u cs (chain_after ps pins free c.tms tdi)
chain_leads u c cs [] pins free tdi h = tt
chain_leads u c cs (p ∷ ps) pins free tdi h = (
  ap (λ (t : TapState). way t cs) (part_tap p.logic (pins 0) (free 0) c.tms tdi p.state) ∙ h.0,
  chain_leads u c cs ps (λ k. pins (suc k)) (λ k. free (suc k)) (part_tdo (free 0) tdi p.state) h.1,
)

led_in : (u : TapState) (ps : List ChainPart) → AllLead u [] ps → AllIn u ps
led_in u [] h = tt
led_in u (p ∷ ps) h = (h.0, led_in u ps h.1)

run_leads : (wiring : Wiring) (u : TapState) (cs : List Clock) (choices : Choices) (ps : List ChainPart) → AllLead u cs ps →
    AllIn u (run wiring cs choices ps)
unfolding run
run_leads wiring u [] choices ps h = led_in u ps h
run_leads wiring u (c ∷ cs) choices ps h =
    run_leads wiring u cs (later choices) (clock_after wiring c (choices 0) ps)
    (chain_leads u c cs ps (bits_at_pins wiring (choices 0) ps) (choices 0).parts (clock_tdi c (choices 0)) h)

-- five clocks with TMS 1 lead from every state to Test-Logic-Reset
resets : (t : TapState) → way t reset_clocks ≡ TestLogicReset
resets TestLogicReset = refl
resets RunTestIdle = refl
resets SelectDR = refl
resets CaptureDR = refl
resets ShiftDR = refl
resets Exit1DR = refl
resets PauseDR = refl
resets Exit2DR = refl
resets UpdateDR = refl
resets SelectIR = refl
resets CaptureIR = refl
resets ShiftIR = refl
resets Exit1IR = refl
resets PauseIR = refl
resets Exit2IR = refl
resets UpdateIR = refl

all_reset : (ps : List ChainPart) → AllLead TestLogicReset reset_clocks ps
all_reset [] = tt
all_reset (p ∷ ps) = (resets p.state.tap, all_reset ps)

all_idle : (ps : List ChainPart) → AllLead RunTestIdle head_clocks ps
all_idle [] = tt
all_idle (p ∷ ps) = (ap (λ (t : TapState). next_state t false) (resets p.state.tap), all_idle ps)

-- After the first five clocks of the head, each part is in Test-Logic-Reset.
pub run_resets : (wiring : Wiring) (choices : Choices) (ps : List ChainPart) → AllIn TestLogicReset (run wiring reset_clocks choices ps)
run_resets wiring choices ps = run_leads wiring TestLogicReset reset_clocks choices ps (all_reset ps)

-- After all six clocks of the head, each part is in Run-Test/Idle.
pub head_idles : (wiring : Wiring) (choices : Choices) (ps : List ChainPart) → AllIn RunTestIdle (run wiring head_clocks choices ps)
head_idles wiring choices ps = run_leads wiring RunTestIdle head_clocks choices ps (all_idle ps)

-- The head and the tail compare nothing. So a text passes if and only if its scans pass after the head.
pub scans_decide : (wiring : Wiring) (scans : List Scan) (choices : Choices) (ps : List ChainPart) →
    run_passes (test_clocks scans) (tdos wiring (test_clocks scans) choices ps)
    ≡ run_passes (all_clocks scans) (tdos wiring (all_clocks scans) (choices_after head_clocks choices) (run wiring head_clocks choices ps))
unfolding tdos
scans_decide wiring scans choices ps =
    let n6 : List ChainPart = run wiring head_clocks choices ps in
    let f6 : Choices = choices_after head_clocks choices in
    let rest : List Clock = all_clocks scans ++ reset_clocks in
    two_pass wiring head_clocks rest choices ps
    ∙ ap (λ (b : Bool). b && run_passes rest (tdos wiring rest f6 n6)) (head_passes choices ps)
    ∙ two_pass wiring (all_clocks scans) reset_clocks f6 n6
    ∙ ap (λ (b : Bool). run_passes (all_clocks scans) (tdos wiring (all_clocks scans) f6 n6) && b)
    (tail_passes (choices_after (all_clocks scans) f6) (run wiring (all_clocks scans) f6 n6))
    ∙ and-true (run_passes (all_clocks scans) (tdos wiring (all_clocks scans) f6 n6))
  where
    head_passes : (f : Choices) (qs : List ChainPart) → run_passes head_clocks (tdos wiring head_clocks f qs) ≡ true
    head_passes f qs = refl

    tail_passes : (f : Choices) (qs : List ChainPart) → run_passes reset_clocks (tdos wiring reset_clocks f qs) ≡ true
    tail_passes f qs = refl
