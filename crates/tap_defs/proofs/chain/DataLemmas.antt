-- A data scan, clock by clock. The selected registers of the parts together are one register of the chain.
use Rattle.std.proofs.Common.{◌≡◌, ◌≢◌, ℕ, suc, take, drop, Bool, true, false, List, [], ◌∷◌, ◌++◌, length, map, refl, sym, ◌∙◌, ap, append_assoc, subst, arith}
use Rattle.std.proofs.lemmas.List.{length-map}
use Rattle.tap_defs.specs.declared.tap.TapState.{TapState}
use Rattle.tap_defs.specs.declared.tap.TapState.TheVariants.{RunTestIdle, CaptureDR, ShiftDR, Exit1DR, UpdateDR}
use Rattle.tap_defs.specs.chain.Tap.{next_state}
use Rattle.tap_defs.specs.chain.TestLogic.{TestLogic, Instruction, Extest, Sample, Bypass, Idcode, Other}
use Rattle.tap_defs.specs.chain.Part.{PartState, PinState, FreeBits, pin_state, part_after, part_tdo}
use Rattle.tap_defs.specs.chain.Chain.{ChainPart, pin_states, chain_after, chain_tdo}
use Rattle.tap_defs.specs.chain.Run.{Wiring, Clock, Choices, clock_after, clock_tdo, later, choices_after, run, tdos, run_passes}
use Rattle.tap_defs.specs.chain.Scan.{ScanBit, tdi_bits, joined}
use Rattle.tap_defs.specs.chain.Clocks.{plain, shift_clock, shift_clocks, sdr_clocks}
use Rattle.tap_defs.specs.chain.ChainRegisters.{data_register, data_registers, held_bits, all_held, dr_capture, dr_captures, bits_at_pins, data_captured, AllSelectingIn}
use Rattle.tap_defs.specs.chain.Transport.{DataFrame, data_frame, scan_passes, DataTransport, LongDataTransport}
use Rattle.tap_defs.proofs.chain.ListLemmas.{cons_path, take_front, drop_front, shift_is, length-shifted}
use Rattle.tap_defs.proofs.chain.MoveLemmas.{at_tap, moved_to, chain_moves, map-moved_to, dr_captures-moved_to, moved_selecting, all_in, run_moves}
use Rattle.tap_defs.proofs.chain.RunLemmas.{run-append, tdos-append, shifts_pass}

-- the part still has the properties that a data scan does not change
abbrev SameFrame : TestLogic → PartState → PartState → Type 0
SameFrame logic s after =
    ◌≡◌ {A = DataFrame} (data_frame (record { logic = logic; state = after }))
    (data_frame (record { logic = logic; state = s }))

-- the part with this TAP state and this current instruction
abbrev with_instruction : TapState → Instruction → PartState → PartState
with_instruction t i s = record s { tap = t; current = i }

-- one part after a clock in Capture-DR
record Captures (register : List Bool) (logic : TestLogic) (s after : PartState) : Type 0 where
  register_is : data_register after ≡ register
  frame : SameFrame logic s after
  selecting : (after.tap ≡ ShiftDR) × (after.current ≢ Other)

captures_by : (logic : TestLogic) (pins : List Bool) (free : FreeBits) (tdi : Bool) (s : PartState) (i : Instruction) → i ≢ Other →
    let w : PartState = with_instruction CaptureDR i s in
    Captures (dr_capture logic pins free i (length s.boundary)) logic w (part_after logic pins free false tdi w)
captures_by logic pins free tdi s Extest h = record { register_is = refl; frame = refl; selecting = (refl, h) }
captures_by logic pins free tdi s Sample h = record { register_is = refl; frame = refl; selecting = (refl, h) }
captures_by logic pins free tdi s Bypass h = record { register_is = refl; frame = refl; selecting = (refl, h) }
captures_by logic pins free tdi s Idcode h = record { register_is = refl; frame = refl; selecting = (refl, h) }
captures_by logic pins free tdi s Other h = absurd (h refl)

part_captures : (logic : TestLogic) (pins : List Bool) (free : FreeBits) (tdi : Bool) (s : PartState) → s.tap ≡ CaptureDR →
    s.current ≢ Other →
    Captures (dr_capture logic pins free s.current (length s.boundary)) logic s (part_after logic pins free false tdi s)
part_captures logic pins free tdi s e h =
    at_tap
    (λ w. Captures (dr_capture logic pins free w.current (length w.boundary)) logic w
    (part_after logic pins free false tdi w)) CaptureDR s e
    (captures_by logic pins free tdi s s.current h)

record ChainCaptures (registers : List (List Bool)) (ps after : List ChainPart) : Type 0 where
  registers_are : data_registers after ≡ registers
  frames : map data_frame after ≡ map data_frame ps
  selecting : AllSelectingIn ShiftDR after

chain_captures : (ps : List ChainPart) (pins : ℕ → List Bool) (free : ℕ → FreeBits) (tdi : Bool) → AllSelectingIn CaptureDR ps →
    ChainCaptures (dr_captures pins free ps) ps (chain_after ps pins free false tdi)
chain_captures [] pins free tdi h = record { registers_are = refl; frames = refl; selecting = tt }
chain_captures (p ∷ ps) pins free tdi h =
    let e = part_captures p.logic (pins 0) (free 0) tdi p.state h.0.0 h.0.1 in
    let ih = chain_captures ps (λ k. pins (suc k)) (λ k. free (suc k)) (part_tdo (free 0) tdi p.state) h.1 in
    record {
      registers_are = cons_path e.register_is ih.registers_are;
      frames = cons_path e.frame ih.frames;
      selecting = (e.selecting, ih.selecting);
    }

-- one part after a clock in Shift-DR
record Shifts (t : TapState) (logic : TestLogic) (tdi out : Bool) (s after : PartState) : Type 0 where
  register : data_register s ++ tdi ∷ [] ≡ out ∷ data_register after
  size : length (data_register after) ≡ length (data_register s)
  frame : SameFrame logic s after
  selecting : (after.tap ≡ t) × (after.current ≢ Other)

shifts_by : (logic : TestLogic) (pins : List Bool) (free : FreeBits) (tms tdi : Bool) (s : PartState) (i : Instruction) → i ≢ Other →
    let w : PartState = with_instruction ShiftDR i s in
    Shifts (next_state ShiftDR tms) logic tdi (part_tdo free tdi w) w (part_after logic pins free tms tdi w)
shifts_by logic pins free true tdi s Extest h =
    record { register = shift_is s.boundary tdi; size = length-shifted s.boundary tdi; frame = refl; selecting = (refl, h) }
shifts_by logic pins free false tdi s Extest h =
    record { register = shift_is s.boundary tdi; size = length-shifted s.boundary tdi; frame = refl; selecting = (refl, h) }
shifts_by logic pins free true tdi s Sample h =
    record { register = shift_is s.boundary tdi; size = length-shifted s.boundary tdi; frame = refl; selecting = (refl, h) }
shifts_by logic pins free false tdi s Sample h =
    record { register = shift_is s.boundary tdi; size = length-shifted s.boundary tdi; frame = refl; selecting = (refl, h) }
shifts_by logic pins free true tdi s Bypass h = record { register = refl; size = refl; frame = refl; selecting = (refl, h) }
shifts_by logic pins free false tdi s Bypass h = record { register = refl; size = refl; frame = refl; selecting = (refl, h) }
shifts_by logic pins free true tdi s Idcode h =
    record { register = shift_is s.identification tdi; size = length-shifted s.identification tdi; frame = refl; selecting = (refl, h) }
shifts_by logic pins free false tdi s Idcode h =
    record { register = shift_is s.identification tdi; size = length-shifted s.identification tdi; frame = refl; selecting = (refl, h) }
shifts_by logic pins free tms tdi s Other h = absurd (h refl)

part_shifts : (logic : TestLogic) (pins : List Bool) (free : FreeBits) (tms tdi : Bool) (s : PartState) → s.tap ≡ ShiftDR →
    s.current ≢ Other →
    Shifts (next_state ShiftDR tms) logic tdi (part_tdo free tdi s) s (part_after logic pins free tms tdi s)
part_shifts logic pins free tms tdi s e h =
    at_tap (λ w. Shifts (next_state ShiftDR tms) logic tdi (part_tdo free tdi w) w (part_after logic pins free tms tdi w)) ShiftDR s e
    (shifts_by logic pins free tms tdi s s.current h)

-- the chain after a clock in Shift-DR; its joined registers are one shift register
record ChainShifts (t : TapState) (tdi out : Bool) (ps after : List ChainPart) : Type 0 where
  register : joined (data_registers ps) ++ tdi ∷ [] ≡ out ∷ joined (data_registers after)
  sizes : map length (data_registers after) ≡ map length (data_registers ps)
  frames : map data_frame after ≡ map data_frame ps
  selecting : AllSelectingIn t after

chain_shifts : (ps : List ChainPart) (pins : ℕ → List Bool) (free : ℕ → FreeBits) (tms tdi : Bool) → AllSelectingIn ShiftDR ps →
    ChainShifts (next_state ShiftDR tms) tdi (chain_tdo ps free tdi) ps (chain_after ps pins free tms tdi)
chain_shifts [] pins free tms tdi h = record { register = refl; sizes = refl; frames = refl; selecting = tt }
chain_shifts (p ∷ ps) pins free tms tdi h =
    let out : Bool = part_tdo (free 0) tdi p.state in
    let after : PartState = part_after p.logic (pins 0) (free 0) tms tdi p.state in
    let e = part_shifts p.logic (pins 0) (free 0) tms tdi p.state h.0.0 h.0.1 in
    let ih = chain_shifts ps (λ k. pins (suc k)) (λ k. free (suc k)) tms out h.1 in
    record {
      register =
          append_assoc (joined (data_registers ps)) (data_register p.state) (tdi ∷ [])
          ∙ ap (λ (r : List Bool). joined (data_registers ps) ++ r) e.register
          ∙ sym (append_assoc (joined (data_registers ps)) (out ∷ []) (data_register after))
          ∙ ap (λ (r : List Bool). r ++ data_register after) ih.register;
      sizes = cons_path e.size ih.sizes;
      frames = cons_path e.frame ih.frames;
      selecting = (e.selecting, ih.selecting);
    }

-- the chain after all shift clocks of a scan
record AllShifts (tdis out : List Bool) (ps after : List ChainPart) : Type 0 where
  register : joined (data_registers ps) ++ tdis ≡ out ++ joined (data_registers after)
  sizes : map length (data_registers after) ≡ map length (data_registers ps)
  frames : map data_frame after ≡ map data_frame ps
  selecting : AllSelectingIn Exit1DR after
  count : length out ≡ length tdis

all_shifts : (wiring : Wiring) (b : ScanBit) (bits : List ScanBit) (choices : Choices) (ps : List ChainPart) → AllSelectingIn ShiftDR ps →
    AllShifts (tdi_bits (b ∷ bits)) (tdos wiring (shift_clocks (b ∷ bits)) choices ps) ps (run wiring (shift_clocks (b ∷ bits)) choices ps)
unfolding run tdos
all_shifts wiring b [] choices ps h =
    let e = chain_shifts ps (bits_at_pins wiring (choices 0) ps) (choices 0).parts true b.tdi h in
    record { register = e.register; sizes = e.sizes; frames = e.frames; selecting = e.selecting; count = refl }
all_shifts wiring b (c ∷ bits) choices ps h =
    let e = chain_shifts ps (bits_at_pins wiring (choices 0) ps) (choices 0).parts false b.tdi h in
    let next : List ChainPart = clock_after wiring (shift_clock false b) (choices 0) ps in
    let ih = all_shifts wiring c bits (later choices) next e.selecting in
    let out : Bool = clock_tdo (shift_clock false b) (choices 0) ps in
    record {
      register =
          sym (append_assoc (joined (data_registers ps)) (b.tdi ∷ []) (tdi_bits (c ∷ bits)))
          ∙ ap (λ (r : List Bool). r ++ tdi_bits (c ∷ bits)) e.register
          ∙ ap (λ (r : List Bool). out ∷ r) ih.register;
      sizes = ih.sizes ∙ e.sizes;
      frames = ih.frames ∙ e.frames;
      selecting = ih.selecting;
      count = ap suc ih.count;
    }

-- a part that enters Update-DR
record Updates (logic : TestLogic) (s after : PartState) : Type 0 where
  held : held_bits after ≡ data_register s
  frame : SameFrame logic s after
  selecting : (after.tap ≡ UpdateDR) × (after.current ≢ Other)

updates_by : (logic : TestLogic) (pins : List Bool) (free : FreeBits) (tdi : Bool) (s : PartState) (i : Instruction) → i ≢ Other →
    let w : PartState = with_instruction Exit1DR i s in
    Updates logic w (part_after logic pins free true tdi w)
updates_by logic pins free tdi s Extest h = record { held = refl; frame = refl; selecting = (refl, h) }
updates_by logic pins free tdi s Sample h = record { held = refl; frame = refl; selecting = (refl, h) }
updates_by logic pins free tdi s Bypass h = record { held = refl; frame = refl; selecting = (refl, h) }
updates_by logic pins free tdi s Idcode h = record { held = refl; frame = refl; selecting = (refl, h) }
updates_by logic pins free tdi s Other h = absurd (h refl)

part_updates : (logic : TestLogic) (pins : List Bool) (free : FreeBits) (tdi : Bool) (s : PartState) → s.tap ≡ Exit1DR → s.current ≢ Other →
    Updates logic s (part_after logic pins free true tdi s)
part_updates logic pins free tdi s e h =
    at_tap (λ w. Updates logic w (part_after logic pins free true tdi w)) Exit1DR s e
    (updates_by logic pins free tdi s s.current h)

record ChainUpdates (ps after : List ChainPart) : Type 0 where
  held : all_held after ≡ data_registers ps
  frames : map data_frame after ≡ map data_frame ps
  selecting : AllSelectingIn UpdateDR after

chain_updates : (ps : List ChainPart) (pins : ℕ → List Bool) (free : ℕ → FreeBits) (tdi : Bool) → AllSelectingIn Exit1DR ps →
    ChainUpdates ps (chain_after ps pins free true tdi)
chain_updates [] pins free tdi h = record { held = refl; frames = refl; selecting = tt }
chain_updates (p ∷ ps) pins free tdi h =
    let e = part_updates p.logic (pins 0) (free 0) tdi p.state h.0.0 h.0.1 in
    let ih = chain_updates ps (λ k. pins (suc k)) (λ k. free (suc k)) (part_tdo (free 0) tdi p.state) h.1 in
    record {
      held = cons_path e.held ih.held;
      frames = cons_path e.frame ih.frames;
      selecting = (e.selecting, ih.selecting);
    }

-- The clock in Capture-DR captures the bits that `data_captured` gives for the chain before the scan.
captures_moved : (wiring : Wiring) (choices : Choices) (ps : List ChainPart) → AllSelectingIn RunTestIdle ps →
    ChainCaptures (data_captured wiring choices ps) ps (clock_after wiring (plain false) (choices 2) (map (moved_to CaptureDR) ps))
captures_moved wiring choices ps h =
    let moved : List ChainPart = map (moved_to CaptureDR) ps in
    let free : ℕ → FreeBits = (choices 2).parts in
    let e = chain_captures moved (bits_at_pins wiring (choices 2) moved) free (choices 2).tdi
    (moved_selecting RunTestIdle CaptureDR ps h) in
    let shows : pin_states moved ≡ pin_states ps = map-moved_to (λ p. pin_state p.state) CaptureDR (λ p. refl) ps in
    record {
      registers_are =
          e.registers_are
          ∙ dr_captures-moved_to CaptureDR ps (bits_at_pins wiring (choices 2) moved) free
          ∙ ap (λ (v : List PinState). dr_captures (wiring v (choices 2)) free ps) shows;
      frames = e.frames ∙ map-moved_to data_frame CaptureDR (λ p. refl) ps;
      selecting = e.selecting;
    }

pub long_data_transport : LongDataTransport
unfolding run tdos
long_data_transport wiring [] choices ps h some = absurd (omega (arith, some))
long_data_transport wiring (b ∷ bits) choices ps h some =
    let front : List Clock = plain true ∷ plain false ∷ [] in
    let tail : List Clock = plain true ∷ plain false ∷ [] in
    let shifts : List Clock = shift_clocks (b ∷ bits) in
    let clocks : List Clock = sdr_clocks (b ∷ bits) in
    -- the clocks from Run-Test/Idle to Capture-DR
    let moved : List ChainPart = map (moved_to CaptureDR) ps in
    let n2 : List ChainPart = run wiring front choices ps in
    let n2_is : n2 ≡ moved = run_moves wiring RunTestIdle front choices ps (all_in RunTestIdle ps h) refl in
    -- the clock in Capture-DR
    let captured : List (List Bool) = data_captured wiring choices ps in
    let n3 : List ChainPart = clock_after wiring (plain false) (choices 2) n2 in
    let capture : ChainCaptures captured ps n3 =
    subst (λ (qs : List ChainPart). ChainCaptures captured ps (clock_after wiring (plain false) (choices 2) qs)) (sym n2_is)
    (captures_moved wiring choices ps h) in
    -- the shift clocks
    let f3 : Choices = later (later (later choices)) in
    let shift = all_shifts wiring b bits f3 n3 capture.selecting in
    let n4 : List ChainPart = run wiring shifts f3 n3 in
    let out : List Bool = tdos wiring shifts f3 n3 in
    -- the clocks through Update-DR back to Run-Test/Idle
    let f4 : Choices = choices_after shifts f3 in
    let n5 : List ChainPart = clock_after wiring (plain true) (f4 0) n4 in
    let update = chain_updates n4 (bits_at_pins wiring (f4 0) n4) (f4 0).parts (f4 0).tdi shift.selecting in
    let n6 : List ChainPart = clock_after wiring (plain false) (f4 1) n5 in
    let n6_is : n6 ≡ map (moved_to RunTestIdle) n5 =
    chain_moves UpdateDR n5 (bits_at_pins wiring (f4 1) n5) (f4 1).parts false (f4 1).tdi (all_in UpdateDR n5 update.selecting) refl refl in
    let after_is : run wiring clocks choices ps ≡ map (moved_to RunTestIdle) n5 = run-append wiring shifts tail f3 n3 ∙ n6_is in
    -- the bits that come out at TDO, and the bits that the chain holds afterwards
    let early : List Bool = tdos wiring (front ++ plain false ∷ []) choices ps in
    let tdo_is : tdos wiring clocks choices ps ≡ early ++ (out ++ tdos wiring tail f4 n4) =
    ap (λ (r : List Bool). early ++ r) (tdos-append wiring shifts tail f3 n3) in
    let count : length out ≡ length (b ∷ bits) = shift.count ∙ length-map (b ∷ bits) (λ x. x.tdi) in
    let stream : List Bool = joined captured ++ tdi_bits (b ∷ bits) in
    let stream_is : out ++ joined (data_registers n4) ≡ stream =
    sym shift.register ∙ ap (λ (r : List (List Bool)). joined r ++ tdi_bits (b ∷ bits)) capture.registers_are in
    let leaving_is : out ≡ take (length (b ∷ bits)) stream =
    sym (take_front (length (b ∷ bits)) out (joined (data_registers n4)) count)
    ∙ ap (λ (r : List Bool). take (length (b ∷ bits)) r) stream_is in
    let held_are : all_held (run wiring clocks choices ps) ≡ data_registers n4 =
    ap (λ (r : List ChainPart). all_held r) after_is ∙ map-moved_to (λ p. held_bits p.state) RunTestIdle (λ p. refl) n5 ∙ update.held in
    record {
      leaves =
          ap (λ (r : List Bool). take (length (b ∷ bits)) (drop 3 r)) tdo_is
          ∙ take_front (length (b ∷ bits)) out (tdos wiring tail f4 n4) count
          ∙ leaving_is;
      compares =
          ap (λ (r : List Bool). run_passes clocks r) tdo_is
          ∙ shifts_pass b bits out (tdos wiring tail f4 n4) tail count refl
          ∙ ap (λ (r : List Bool). scan_passes (b ∷ bits) r) leaving_is;
      stays =
          ap (λ (r : List (List Bool)). joined r) held_are
          ∙ sym (drop_front (length (b ∷ bits)) out (joined (data_registers n4)) count)
          ∙ ap (λ (r : List Bool). drop (length (b ∷ bits)) r) stream_is;
      lengths =
          ap (λ (r : List (List Bool)). map length r) held_are ∙ shift.sizes
          ∙ ap (λ (r : List (List Bool)). map length r) capture.registers_are;
      frames =
          ap (λ (r : List ChainPart). map data_frame r) after_is
          ∙ map-moved_to data_frame RunTestIdle (λ p. refl) n5
          ∙ update.frames ∙ shift.frames ∙ capture.frames;
      idle =
          subst (λ (r : List ChainPart). AllSelectingIn RunTestIdle r) (sym after_is)
          (moved_selecting UpdateDR RunTestIdle n5 update.selecting);
    }

-- The special case of a scan that is as long as the registers.
pub data_transport : DataTransport
data_transport wiring bits choices ps h some size =
    let captured : List (List Bool) = data_captured wiring choices ps in
    let s = long_data_transport wiring bits choices ps h some in
    let leaving : take (length bits) (joined captured ++ tdi_bits bits) ≡ joined captured =
    take_front (length bits) (joined captured) (tdi_bits bits) (sym size) in
    let staying : drop (length bits) (joined captured ++ tdi_bits bits) ≡ tdi_bits bits =
    drop_front (length bits) (joined captured) (tdi_bits bits) (sym size) in
    record {
      leaves = s.leaves ∙ leaving;
      compares = s.compares ∙ ap (λ (r : List Bool). scan_passes bits r) leaving;
      stays = s.stays ∙ staying;
      lengths = s.lengths;
      frames = s.frames;
      idle = s.idle;
    }
