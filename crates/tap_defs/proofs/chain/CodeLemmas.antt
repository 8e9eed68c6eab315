-- An instruction scan, clock by clock. The instruction registers together are one register of the chain.
use Rattle.std.proofs.Common.{◌≡◌, ℕ, suc, take, drop, Bool, true, false, List, [], ◌∷◌, ◌++◌, length, map, refl, sym, ◌∙◌, ap, append_assoc, subst, arith}
use Rattle.std.proofs.lemmas.List.{length-map}
use Rattle.tap_defs.specs.declared.tap.TapState.{TapState}
use Rattle.tap_defs.specs.declared.tap.TapState.TheVariants.{RunTestIdle, CaptureIR, ShiftIR, Exit1IR, UpdateIR}
use Rattle.tap_defs.specs.chain.Tap.{next_state}
use Rattle.tap_defs.specs.chain.TestLogic.{TestLogic, instruction_of}
use Rattle.tap_defs.specs.chain.ShiftRegister.{captured_ir}
use Rattle.tap_defs.specs.chain.Part.{PartState, FreeBits, part_after, part_tdo}
use Rattle.tap_defs.specs.chain.Chain.{ChainPart, chain_after, chain_tdo}
use Rattle.tap_defs.specs.chain.Run.{Wiring, Clock, Choices, clock_after, clock_tdo, later, choices_after, run, tdos, run_passes}
use Rattle.tap_defs.specs.chain.Scan.{ScanBit, tdi_bits, joined}
use Rattle.tap_defs.specs.chain.Clocks.{plain, shift_clock, shift_clocks, sir_clocks}
use Rattle.tap_defs.specs.chain.ChainRegisters.{ir_registers, ir_captures, codes_captured, bits_at_pins, AllIn}
use Rattle.tap_defs.specs.chain.Transport.{CodeFrame, code_frame, scan_passes, CodeTransport, LongCodeTransport}
use Rattle.tap_defs.proofs.chain.ListLemmas.{cons_path, take_front, drop_front, length-joined, shift_is, length-shifted, length-captured_ir}
use Rattle.tap_defs.proofs.chain.MoveLemmas.{with_tap, at_tap, moved_to, chain_moves, map-moved_to, ir_captures-moved_to, moved_in, run_moves}
use Rattle.tap_defs.proofs.chain.RunLemmas.{run-append, tdos-append, shifts_pass}

-- `s` and `after` agree in everything that an instruction scan leaves unchanged
abbrev SameFrame : TestLogic → PartState → PartState → Type 0
SameFrame logic s after =
    ◌≡◌ {A = CodeFrame} (code_frame (record { logic = logic; state = after }))
    (code_frame (record { logic = logic; state = s }))

-- one part after a clock in Capture-IR
record Captures (logic : TestLogic) (free : FreeBits) (s after : PartState) : Type 0 where
  code : after.ir ≡ captured_ir s.ir free.ir
  frame : SameFrame logic s after
  tap : after.tap ≡ ShiftIR

part_captures : (logic : TestLogic) (pins : List Bool) (free : FreeBits) (tdi : Bool) (s : PartState) → s.tap ≡ CaptureIR →
    Captures logic free s (part_after logic pins free false tdi s)
part_captures logic pins free tdi s e =
    at_tap (λ w. Captures logic free w (part_after logic pins free false tdi w)) CaptureIR s e
    (record { code = refl; frame = refl; tap = refl })

record ChainCaptures (codes : List (List Bool)) (ps after : List ChainPart) : Type 0 where
  codes_are : ir_registers after ≡ codes
  frames : map code_frame after ≡ map code_frame ps
  taps : AllIn ShiftIR after

chain_captures : (ps : List ChainPart) (pins : ℕ → List Bool) (free : ℕ → FreeBits) (tdi : Bool) → AllIn CaptureIR ps →
    ChainCaptures (ir_captures free ps) ps (chain_after ps pins free false tdi)
chain_captures [] pins free tdi h = record { codes_are = refl; frames = refl; taps = tt }
chain_captures (p ∷ ps) pins free tdi h =
    let e = part_captures p.logic (pins 0) (free 0) tdi p.state h.0 in
    let ih = chain_captures ps (λ k. pins (suc k)) (λ k. free (suc k)) (part_tdo (free 0) tdi p.state) h.1 in
    record { codes_are = cons_path e.code ih.codes_are; frames = cons_path e.frame ih.frames; taps = (e.tap, ih.taps) }

-- one part after a clock in Shift-IR
record Shifts (t : TapState) (logic : TestLogic) (tdi out : Bool) (s after : PartState) : Type 0 where
  register : s.ir ++ tdi ∷ [] ≡ out ∷ after.ir
  size : length after.ir ≡ length s.ir
  frame : SameFrame logic s after
  tap : after.tap ≡ t

shifts_by : (logic : TestLogic) (pins : List Bool) (free : FreeBits) (tms tdi : Bool) (s : PartState) →
    let w : PartState = with_tap ShiftIR s in
    Shifts (next_state ShiftIR tms) logic tdi (part_tdo free tdi w) w (part_after logic pins free tms tdi w)
shifts_by logic pins free true tdi s = record { register = shift_is s.ir tdi; size = length-shifted s.ir tdi; frame = refl; tap = refl }
shifts_by logic pins free false tdi s = record { register = shift_is s.ir tdi; size = length-shifted s.ir tdi; frame = refl; tap = refl }

part_shifts : (logic : TestLogic) (pins : List Bool) (free : FreeBits) (tms tdi : Bool) (s : PartState) → s.tap ≡ ShiftIR →
    Shifts (next_state ShiftIR tms) logic tdi (part_tdo free tdi s) s (part_after logic pins free tms tdi s)
part_shifts logic pins free tms tdi s e =
    at_tap (λ w. Shifts (next_state ShiftIR tms) logic tdi (part_tdo free tdi w) w (part_after logic pins free tms tdi w)) ShiftIR s e
    (shifts_by logic pins free tms tdi s)

-- the chain after a clock in Shift-IR; its joined instruction registers are one shift register
record ChainShifts (t : TapState) (tdi out : Bool) (ps after : List ChainPart) : Type 0 where
  register : joined (ir_registers ps) ++ tdi ∷ [] ≡ out ∷ joined (ir_registers after)
  sizes : map length (ir_registers after) ≡ map length (ir_registers ps)
  frames : map code_frame after ≡ map code_frame ps
  taps : AllIn t after

chain_shifts : (ps : List ChainPart) (pins : ℕ → List Bool) (free : ℕ → FreeBits) (tms tdi : Bool) → AllIn ShiftIR ps →
    ChainShifts (next_state ShiftIR tms) tdi (chain_tdo ps free tdi) ps (chain_after ps pins free tms tdi)
chain_shifts [] pins free tms tdi h = record { register = refl; sizes = refl; frames = refl; taps = tt }
chain_shifts (p ∷ ps) pins free tms tdi h =
    let out : Bool = part_tdo (free 0) tdi p.state in
    let next : PartState = part_after p.logic (pins 0) (free 0) tms tdi p.state in
    let e = part_shifts p.logic (pins 0) (free 0) tms tdi p.state h.0 in
    let ih = chain_shifts ps (λ k. pins (suc k)) (λ k. free (suc k)) tms out h.1 in
    record {
      register =
          append_assoc (joined (ir_registers ps)) p.state.ir (tdi ∷ [])
          ∙ ap (λ (r : List Bool). joined (ir_registers ps) ++ r) e.register
          ∙ sym (append_assoc (joined (ir_registers ps)) (out ∷ []) next.ir)
          ∙ ap (λ (r : List Bool). r ++ next.ir) ih.register;
      sizes = cons_path e.size ih.sizes;
      frames = cons_path e.frame ih.frames;
      taps = (e.tap, ih.taps);
    }

-- the chain after all shift clocks of a scan
record AllShifts (tdis out : List Bool) (ps after : List ChainPart) : Type 0 where
  register : joined (ir_registers ps) ++ tdis ≡ out ++ joined (ir_registers after)
  sizes : map length (ir_registers after) ≡ map length (ir_registers ps)
  frames : map code_frame after ≡ map code_frame ps
  taps : AllIn Exit1IR after
  count : length out ≡ length tdis

all_shifts : (wiring : Wiring) (b : ScanBit) (bits : List ScanBit) (choices : Choices) (ps : List ChainPart) → AllIn ShiftIR ps →
    AllShifts (tdi_bits (b ∷ bits)) (tdos wiring (shift_clocks (b ∷ bits)) choices ps) ps (run wiring (shift_clocks (b ∷ bits)) choices ps)
unfolding run tdos
all_shifts wiring b [] choices ps h =
    let e = chain_shifts ps (bits_at_pins wiring (choices 0) ps) (choices 0).parts true b.tdi h in
    record { register = e.register; sizes = e.sizes; frames = e.frames; taps = e.taps; count = refl }
all_shifts wiring b (c ∷ bits) choices ps h =
    let e = chain_shifts ps (bits_at_pins wiring (choices 0) ps) (choices 0).parts false b.tdi h in
    let next : List ChainPart = clock_after wiring (shift_clock false b) (choices 0) ps in
    let ih = all_shifts wiring c bits (later choices) next e.taps in
    let out : Bool = clock_tdo (shift_clock false b) (choices 0) ps in
    record {
      register =
          sym (append_assoc (joined (ir_registers ps)) (b.tdi ∷ []) (tdi_bits (c ∷ bits)))
          ∙ ap (λ (r : List Bool). r ++ tdi_bits (c ∷ bits)) e.register
          ∙ ap (λ (r : List Bool). out ∷ r) ih.register;
      sizes = ih.sizes ∙ e.sizes;
      frames = ih.frames ∙ e.frames;
      taps = ih.taps;
      count = ap suc ih.count;
    }

-- a part that enters Update-IR, where its code becomes its current instruction
record Updates (logic : TestLogic) (s after : PartState) : Type 0 where
  code : after.ir ≡ s.ir
  current : after.current ≡ instruction_of logic after.ir
  frame : SameFrame logic s after
  tap : after.tap ≡ UpdateIR

part_updates : (logic : TestLogic) (pins : List Bool) (free : FreeBits) (tdi : Bool) (s : PartState) → s.tap ≡ Exit1IR →
    Updates logic s (part_after logic pins free true tdi s)
part_updates logic pins free tdi s e =
    at_tap (λ w. Updates logic w (part_after logic pins free true tdi w)) Exit1IR s e
    (record { code = refl; current = refl; frame = refl; tap = refl })

record ChainUpdates (ps after : List ChainPart) : Type 0 where
  codes_are : ir_registers after ≡ ir_registers ps
  currents : map (λ p. p.state.current) after ≡ map (λ p. instruction_of p.logic p.state.ir) after
  frames : map code_frame after ≡ map code_frame ps
  taps : AllIn UpdateIR after

chain_updates : (ps : List ChainPart) (pins : ℕ → List Bool) (free : ℕ → FreeBits) (tdi : Bool) → AllIn Exit1IR ps →
    ChainUpdates ps (chain_after ps pins free true tdi)
chain_updates [] pins free tdi h = record { codes_are = refl; currents = refl; frames = refl; taps = tt }
chain_updates (p ∷ ps) pins free tdi h =
    let e = part_updates p.logic (pins 0) (free 0) tdi p.state h.0 in
    let ih = chain_updates ps (λ k. pins (suc k)) (λ k. free (suc k)) (part_tdo (free 0) tdi p.state) h.1 in
    record {
      codes_are = cons_path e.code ih.codes_are;
      currents = cons_path e.current ih.currents;
      frames = cons_path e.frame ih.frames;
      taps = (e.tap, ih.taps);
    }

pub lengths-ir_captures : (ps : List ChainPart) (free : ℕ → FreeBits) → map length (ir_captures free ps) ≡ map length (ir_registers ps)
lengths-ir_captures [] free = refl
lengths-ir_captures (p ∷ ps) free = cons_path (length-captured_ir p.state.ir (free 0).ir) (lengths-ir_captures ps (λ k. free (suc k)))

-- The clock in Capture-IR captures the bits that `codes_captured` gives for the chain before the scan.
captures_moved : (wiring : Wiring) (choices : Choices) (ps : List ChainPart) →
    ChainCaptures (codes_captured choices ps) ps (clock_after wiring (plain false) (choices 3) (map (moved_to CaptureIR) ps))
captures_moved wiring choices ps =
    let moved : List ChainPart = map (moved_to CaptureIR) ps in
    let free : ℕ → FreeBits = (choices 3).parts in
    let e = chain_captures moved (bits_at_pins wiring (choices 3) moved) free (choices 3).tdi (moved_in CaptureIR ps) in
    record {
      codes_are = e.codes_are ∙ ir_captures-moved_to CaptureIR ps free;
      frames = e.frames ∙ map-moved_to code_frame CaptureIR (λ p. refl) ps;
      taps = e.taps;
    }

pub long_code_transport : LongCodeTransport
unfolding run tdos
long_code_transport wiring [] choices ps h some = absurd (omega (arith, some))
long_code_transport wiring (b ∷ bits) choices ps h some =
    let front : List Clock = plain true ∷ plain true ∷ plain false ∷ [] in
    let tail : List Clock = plain true ∷ plain false ∷ [] in
    let shifts : List Clock = shift_clocks (b ∷ bits) in
    let clocks : List Clock = sir_clocks (b ∷ bits) in
    -- the clocks from Run-Test/Idle to Capture-IR
    let moved : List ChainPart = map (moved_to CaptureIR) ps in
    let n3 : List ChainPart = run wiring front choices ps in
    let n3_is : n3 ≡ moved = run_moves wiring RunTestIdle front choices ps h refl in
    -- the clock in Capture-IR
    let captured : List (List Bool) = codes_captured choices ps in
    let n4 : List ChainPart = clock_after wiring (plain false) (choices 3) n3 in
    let capture : ChainCaptures captured ps n4 =
    subst (λ (qs : List ChainPart). ChainCaptures captured ps (clock_after wiring (plain false) (choices 3) qs)) (sym n3_is)
    (captures_moved wiring choices ps) in
    -- the shift clocks
    let f4 : Choices = later (later (later (later choices))) in
    let shift = all_shifts wiring b bits f4 n4 capture.taps in
    let n5 : List ChainPart = run wiring shifts f4 n4 in
    let out : List Bool = tdos wiring shifts f4 n4 in
    -- the clocks through Update-IR back to Run-Test/Idle
    let f5 : Choices = choices_after shifts f4 in
    let n6 : List ChainPart = clock_after wiring (plain true) (f5 0) n5 in
    let update = chain_updates n5 (bits_at_pins wiring (f5 0) n5) (f5 0).parts (f5 0).tdi shift.taps in
    let n7 : List ChainPart = clock_after wiring (plain false) (f5 1) n6 in
    let n7_is : n7
    ≡ map (moved_to RunTestIdle) n6 = chain_moves UpdateIR n6 (bits_at_pins wiring (f5 1) n6)
    (f5 1).parts false (f5 1).tdi update.taps refl refl in
    let after_is : run wiring clocks choices ps ≡ map (moved_to RunTestIdle) n6 = run-append wiring shifts tail f4 n4 ∙ n7_is in
    -- the bits that come out at TDO, and the bits that the instruction registers hold afterwards
    let early : List Bool = tdos wiring (front ++ plain false ∷ []) choices ps in
    let tdo_is : tdos wiring clocks choices ps ≡ early ++ (out ++ tdos wiring tail f5 n5) =
    ap (λ (r : List Bool). early ++ r) (tdos-append wiring shifts tail f4 n4) in
    let count : length out ≡ length (b ∷ bits) = shift.count ∙ length-map (b ∷ bits) (λ x. x.tdi) in
    let stream : List Bool = joined captured ++ tdi_bits (b ∷ bits) in
    let stream_is : out ++ joined (ir_registers n5) ≡ stream =
    sym shift.register ∙ ap (λ (r : List (List Bool)). joined r ++ tdi_bits (b ∷ bits)) capture.codes_are in
    let leaving_is : out ≡ take (length (b ∷ bits)) stream =
    sym (take_front (length (b ∷ bits)) out (joined (ir_registers n5)) count)
    ∙ ap (λ (r : List Bool). take (length (b ∷ bits)) r) stream_is in
    let codes_are : ir_registers (run wiring clocks choices ps) ≡ ir_registers n5 =
    ap (λ (r : List ChainPart). ir_registers r) after_is ∙ map-moved_to (λ p. p.state.ir) RunTestIdle (λ p. refl) n6 ∙ update.codes_are in
    record {
      leaves =
          ap (λ (r : List Bool). take (length (b ∷ bits)) (drop 4 r)) tdo_is
          ∙ take_front (length (b ∷ bits)) out (tdos wiring tail f5 n5) count
          ∙ leaving_is;
      compares =
          ap (λ (r : List Bool). run_passes clocks r) tdo_is
          ∙ shifts_pass b bits out (tdos wiring tail f5 n5) tail count refl
          ∙ ap (λ (r : List Bool). scan_passes (b ∷ bits) r) leaving_is;
      stays =
          ap (λ (r : List (List Bool)). joined r) codes_are
          ∙ sym (drop_front (length (b ∷ bits)) out (joined (ir_registers n5)) count)
          ∙ ap (λ (r : List Bool). drop (length (b ∷ bits)) r) stream_is;
      lengths =
          ap (λ (r : List (List Bool)). map length r) codes_are
          ∙ shift.sizes
          ∙ ap (λ (r : List (List Bool)). map length r) capture.codes_are
          ∙ lengths-ir_captures ps (choices 3).parts;
      currents =
          ap (λ (r : List ChainPart). map (λ p. p.state.current) r) after_is
          ∙ map-moved_to (λ p. p.state.current) RunTestIdle (λ p. refl) n6
          ∙ update.currents
          ∙ sym (map-moved_to (λ p. instruction_of p.logic p.state.ir) RunTestIdle (λ p. refl) n6)
          ∙ sym (ap (λ (r : List ChainPart). map (λ p. instruction_of p.logic p.state.ir) r) after_is);
      frames =
          ap (λ (r : List ChainPart). map code_frame r) after_is
          ∙ map-moved_to code_frame RunTestIdle (λ p. refl) n6
          ∙ update.frames ∙ shift.frames ∙ capture.frames;
      idle = subst (λ (r : List ChainPart). AllIn RunTestIdle r) (sym after_is) (moved_in RunTestIdle n6);
    }

-- The special case of a scan that is as long as the instruction registers.
pub code_transport : CodeTransport
code_transport wiring bits choices ps h some size =
    let captured : List (List Bool) = codes_captured choices ps in
    let s = long_code_transport wiring bits choices ps h some in
    let fits : length (joined captured)
    ≡ length bits = length-joined captured (ir_registers ps)
    (lengths-ir_captures ps (choices 3).parts) ∙ sym size in
    let leaving : take (length bits) (joined captured ++ tdi_bits bits)
    ≡ joined captured = take_front (length bits) (joined captured) (tdi_bits bits) fits in
    let staying : drop (length bits) (joined captured ++ tdi_bits bits)
    ≡ tdi_bits bits = drop_front (length bits) (joined captured) (tdi_bits bits) fits in
    record {
      leaves = s.leaves ∙ leaving;
      compares = s.compares ∙ ap (λ (r : List Bool). scan_passes bits r) leaving;
      stays = s.stays ∙ staying;
      lengths = s.lengths;
      currents = s.currents;
      frames = s.frames;
      idle = s.idle;
    }
