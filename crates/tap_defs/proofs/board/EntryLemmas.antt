-- From any state, the head of a test and its first three scans give the described parts the instruction EXTEST and put
-- the quiet row, which enables no controlled driver, into the latches.
use Rattle.std.proofs.Common.{not, ◌≡◌, ◌≢◌, ℕ, zero, suc, ◌<◌, ◌≤◌, Bool, true, false, cond, ◌&&◌, List, [], ◌∷◌, length, map, Option, Some, refl, sym, ◌∙◌, ap, subst, length-append, take, arith, ◌++◌, ◌==◌, None}
use Rattle.std.specs.Prelude.{slice_get, option_map, unwrap_or}
use Rattle.std.specs.List.{list_all, AllByRecursion}
use Rattle.std.proofs.lemmas.List.Elements.{recursion_from_All}
use Rattle.board_defs.specs.declared.device.RawDevice.{RawDevice}
use Rattle.board_defs.specs.declared.device.Cell.{Cell}
use Rattle.board_defs.specs.declared.device.Symbol.{Symbol}
use Rattle.std.specs.Bool.{beq}
use Rattle.std.specs.Cmp.Lexicographic.{pointwise}
use Rattle.board_defs.specs.declared.board.PartKind.{PartKind}
use Rattle.board_defs.specs.declared.board.PartKind.TheVariants.{Described, Bypass as WithoutDescription}
use Rattle.board_defs.specs.declared.board.Part.{Part}
use Rattle.board_defs.specs.declared.board.RawBoard.{RawBoard}
use Rattle.board_defs.specs.Pins.{receives_where}
use Rattle.board_defs.specs.BoardRules.{IsBoard, IsPart}
use Rattle.tap_defs.specs.declared.tap.TapState.TheVariants.{RunTestIdle}
use Rattle.tap_defs.specs.board.BoardScans.{RowScan, bits_by_part, part_bits, preload_code, extest_code, first_row_scan, row_bits, board_scans, row_clocks}
use Rattle.tap_defs.specs.board.TestRows.{TestRow, expect_bit, quiet_row, only_if, row_bit, expect_observed, expect_place, observing_driver, expect_pin, expect_entry}
use Rattle.tap_defs.specs.chain.TestLogic.{TestLogic, Instruction, Extest, Sample, Bypass, Other, all_ones, instruction_of}
use Rattle.tap_defs.specs.chain.Part.{FreeBits}
use Rattle.tap_defs.specs.chain.ShiftRegister.{filled}
use Rattle.tap_defs.specs.chain.Chain.{ChainPart, pin_states, AllAreStates, logics}
use Rattle.tap_defs.specs.chain.Run.{choices_after, bit_passes, Wiring, Clock, Choice, Choices, run, tdos, clock_tdi, run_passes}
use Rattle.tap_defs.specs.chain.Scan.{ScanBit, joined, tdi_bits}
use Rattle.tap_defs.specs.chain.Clocks.{sir_clocks, sdr_clocks, test_clocks, head_clocks}
use Rattle.tap_defs.specs.chain.ChainRegisters.{AllIn, ir_registers, ir_captures, bits_at_pins, AllSelectingIn, dr_captures, all_held, dr_capture, selected_by}
use Rattle.tap_defs.specs.chain.Transport.{code_frame, CodeFrame, scan_passes}
use Rattle.tap_defs.specs.chain.Codes.{code_bits}
use Rattle.tap_defs.specs.chain.ChainTest.{ir_lengths}
use Rattle.tap_defs.specs.board.OnBoard.{test_logic, board_logics, board_wiring, IsBoardChain}
use Rattle.tap_defs.specs.board.FaultSet.{FaultSet}
use Rattle.tap_defs.specs.board.NetBits.{captured_by, Place, place_of}
use Rattle.board_defs.specs.DeviceRules.{reading_entry, bit_of, is_receiving}
use Rattle.board_defs.proofs.CodeLemmas.{same_code}
use Rattle.tap_defs.proofs.chain.ListLemmas.{cons_path, drop_front, length-joined, length-filled}
use Rattle.std.proofs.lemmas.List.{length-replicate}
use Rattle.tap_defs.proofs.chain.MoveLemmas.{all_in}
use Rattle.tap_defs.proofs.board.RowScanLemmas.{currents_of}
use Rattle.tap_defs.proofs.board.InTestLemmas.{in_test, InTest, shifted_row}
use Rattle.tap_defs.proofs.chain.ScanLemmas.{scan_passes_front, joined_same, lengths-tdi_bits, tdi_bits-joined}
use Rattle.tap_defs.proofs.chain.DataLemmas.{long_data_transport}
use Rattle.tap_defs.proofs.chain.CodeLemmas.{long_code_transport, lengths-ir_captures}
use Rattle.tap_defs.proofs.chain.RunLemmas.{two_pass, run_keeps, scan_passes_take}
use Rattle.tap_defs.proofs.chain.StateLemmas.{FitsLogics, chain_keeps}
use Rattle.tap_defs.proofs.chain.HeadLemmas.{chain_logics, chain_lengths, ir_sizes, head_idles, scans_decide}
use Rattle.tap_defs.proofs.chain.InstructLemmas.{AllRoom, tdi_bits-instructs, instructs_pass, length-instructs}
use Rattle.tap_defs.proofs.chain.RowLemmas.{all_ones-replicate}

-- each of these parts meets the rules of parts, stated by recursion on the chain
abbrev pub Parts : List Part → Type 0
Parts ps = AllByRecursion (λ p. IsPart p.kind) ps

pub parts_of : (board : RawBoard) → IsBoard board → Parts board.chain
parts_of board rules = recursion_from_All (λ (p : Part). IsPart p.kind) board.chain rules.parts

captured_size : (board : RawBoard) (faults : FaultSet) (free : Choice) (chain : List ChainPart) (k : ℕ) (p : Part) →
    slice_get board.chain k ≡ Some p → length (bits_at_pins (board_wiring board faults) free chain k) ≡ (test_logic p.kind).boundary_length
captured_size board faults free chain k p e =
    ap
    (λ (o : Option Part). length
    (unwrap_or
    (option_map
    (λ q. captured_by board faults (pin_states chain) free.shorts
    (free.parts k).cells k q.kind) o) [])) e
    ∙ by_kind p.kind
  where
    by_kind : (kind : PartKind) →
        length (captured_by board faults (pin_states chain) free.shorts (free.parts k).cells k kind) ≡ (test_logic kind).boundary_length
    by_kind (Described device) = length-filled device.boundary _
    by_kind (WithoutDescription n) = refl

wide_part : (kind : PartKind) → IsPart kind → 2 ≤ (test_logic kind).ir_length
wide_part (Described device) h = h.ir_least
wide_part (WithoutDescription n) h = h.0

fits_logics : (ps : List Part) (pins : ℕ → List Bool) →
    ((k : ℕ) (p : Part) → slice_get ps k ≡ Some p → length (pins k) ≡ (test_logic p.kind).boundary_length) →
    FitsLogics pins (map (λ p. test_logic p.kind) ps)
fits_logics [] pins q = tt
fits_logics (p ∷ ps) pins q = (q 0 p refl, fits_logics ps (λ k. pins (suc k)) (λ k. q (suc k)))

pub stays_of : (board : RawBoard) → IsBoard board → (faults : FaultSet) (cs : List Clock) (free : Choices) (chain : List ChainPart) →
    IsBoardChain board chain → IsBoardChain board (run (board_wiring board faults) cs free chain)
stays_of board rules faults cs free chain h =
    run_keeps (IsBoardChain board) (board_wiring board faults)
    (λ c f m k.
    let pins : ℕ → List Bool = bits_at_pins (board_wiring board faults) f m in
    let fits : FitsLogics pins (logics m) = subst (λ (l : List TestLogic). FitsLogics pins l)
    (sym k.logics_are) (fits_logics board.chain pins (captured_size board faults f m)) in
    record {
      logics_are = chain_logics m pins f.parts c.tms (clock_tdi c f) ∙ k.logics_are;
      states_are = chain_keeps m pins f.parts c.tms (clock_tdi c f) fits k.states_are;
    })
    cs free chain h

room_by : (ps : List Part) → Parts ps → AllRoom (ir_lengths (map (λ p. test_logic p.kind) ps))
room_by [] h = tt
room_by (p ∷ ps) h = (wide_part p.kind h.0, room_by ps h.1)

room_of : (board : RawBoard) → IsBoard board → (chain : List ChainPart) → IsBoardChain board chain → AllRoom (ir_sizes chain)
room_of board rules chain h =
    subst (λ (l : List ℕ). AllRoom l) (sym (chain_lengths (board_logics board) chain h))
    (room_by board.chain (parts_of board rules))

-- each code is as long as the part's instruction register
abbrev pub CodesFit : (PartKind → List Bool) → List Part → Type 0
CodesFit code [] = Unit {0}
CodesFit code (p ∷ ps) = (length (code p.kind) ≡ (test_logic p.kind).ir_length) × CodesFit code ps

code_lengths : (code : PartKind → List Bool) (ps : List Part) → CodesFit code ps →
    map length (map (λ p. code p.kind) ps) ≡ ir_lengths (map (λ p. test_logic p.kind) ps)
code_lengths code [] h = refl
code_lengths code (p ∷ ps) h = cons_path h.0 (code_lengths code ps h.1)

-- the code of each part means the instruction of the part
abbrev pub CodesMean : (PartKind → List Bool) → (PartKind → Instruction) → List Part → Type 0
CodesMean code instruction [] = Unit {0}
CodesMean code instruction (p ∷ ps) =
    (instruction_of (test_logic p.kind) (code p.kind) ≡ instruction p.kind)
    × CodesMean code instruction ps

meanings : (code : PartKind → List Bool) (instruction : PartKind → Instruction) (ps : List Part) (chain : List ChainPart) →
    CodesMean code instruction ps → logics chain ≡ map (λ p. test_logic p.kind) ps → ir_registers chain ≡ map (λ p. code p.kind) ps →
    map (λ n. instruction_of n.logic n.state.ir) chain ≡ map (λ p. instruction p.kind) ps
meanings code instruction [] [] h f c = refl
meanings code instruction [] (n ∷ chain) h f c = cc f
meanings code instruction (p ∷ ps) [] h f c = cc f
meanings code instruction (p ∷ ps) (n ∷ chain) h f c =
    let f0 : n.logic ≡ test_logic p.kind = cc f in
    let f1 : logics chain ≡ map (λ p. test_logic p.kind) ps = cc f in
    let c0 : n.state.ir ≡ code p.kind = cc c in
    let c1 : ir_registers chain ≡ map (λ p. code p.kind) ps = cc c in
    cons_path
    (ap (λ (x : TestLogic). instruction_of x n.state.ir) f0
    ∙ ap (λ (x : List Bool). instruction_of (test_logic p.kind) x) c0 ∙ h.0)
    (meanings code instruction ps chain h.1 f1 c1)

-- The effect of an instruction scan on the board: the scan passes, and each part then has its instruction.
pub record Instructed (board : RawBoard) (instruction : PartKind → Instruction)
    (clocks : List Clock) (out : List Bool) (chain next : List ChainPart) : Type 0 where
  pub passes : run_passes clocks out ≡ true
  pub is_start : IsBoardChain board next
  pub idle : AllIn RunTestIdle next
  pub currents : map (λ n. n.state.current) next ≡ map (λ p. instruction p.kind) board.chain
  pub frames : map code_frame next ≡ map code_frame chain

pub codes_total : (code : PartKind → List Bool) (ps : List Part) → CodesFit code ps → Parts ps →
    length ps ≤ length (joined (map (λ p. code p.kind) ps))
codes_total code [] f h = omega arith
codes_total code (p ∷ ps) f h =
    omega (
      arith,
      length-append (joined (map (λ p. code p.kind) ps)) (code p.kind),
      codes_total code ps f.1 h.1,
      f.0,
      wide_part p.kind h.0,
    )

pub instructed : (board : RawBoard) (rules : IsBoard board) (faults : FaultSet)
    (code : PartKind → List Bool) (instruction : PartKind → Instruction) →
    CodesFit code board.chain → CodesMean code instruction board.chain → (free : Choices) (chain : List ChainPart) →
    IsBoardChain board chain → AllIn RunTestIdle chain →
    let bits : List ScanBit = joined (map code_bits (map (λ p. code p.kind) board.chain)) in
    Instructed board instruction (sir_clocks bits)
    (tdos (board_wiring board faults) (sir_clocks bits) free chain) chain
    (run (board_wiring board faults) (sir_clocks bits) free chain)
instructed board rules faults code instruction fit mean free chain h tap =
    let codes : List (List Bool) = map (λ p. code p.kind) board.chain in
    let bits : List ScanBit = joined (map code_bits codes) in
    let wiring : Wiring = board_wiring board faults in
    let next : List ChainPart = run wiring (sir_clocks bits) free chain in
    let room : AllRoom (ir_sizes chain) = room_of board rules chain h in
    let lengths : map length codes
    ≡ ir_sizes chain = code_lengths code board.chain fit
    ∙ sym (chain_lengths (board_logics board) chain h) in
    let size : length bits ≡ length (joined codes) = length-instructs codes in
    let some : 0 < length bits = omega (arith, size, codes_total code board.chain fit (parts_of board rules), rules.chain_some) in
    let s = long_code_transport wiring bits free chain tap some in
    let registers : List (List Bool) = ir_captures (free 3).parts chain in
    let fits : length (joined registers)
    ≡ length bits = length-joined registers codes
    (lengths-ir_captures chain (free 3).parts ∙ sym lengths) ∙ sym size in
    let is_start : IsBoardChain board next = stays_of board rules faults (sir_clocks bits) free chain h in
    let stays : ir_registers next ≡ codes =
    joined_same (ir_registers next) codes (s.lengths ∙ sym lengths)
    (s.stays ∙ drop_front (length bits) (joined registers) (tdi_bits bits) fits
    ∙ tdi_bits-instructs codes) in
    record {
      passes =
          s.compares ∙ scan_passes_take bits (joined registers ++ tdi_bits bits)
          ∙ scan_passes_front bits (joined registers) (tdi_bits bits) fits
          ∙ instructs_pass codes chain (free 3).parts lengths room;
      is_start = is_start;
      idle = s.idle;
      currents = s.currents ∙ meanings code instruction board.chain next mean is_start.logics_are stays;
      frames = s.frames;
    }

map_size : (xs : List Symbol) → length (map bit_of xs) ≡ length xs
map_size [] = refl
map_size (x ∷ xs) = ap suc (map_size xs)

pub preload_fits : (ps : List Part) → Parts ps → CodesFit preload_code ps
preload_fits [] h = tt
preload_fits (p ∷ ps) h = (one p.kind h.0, preload_fits ps h.1)
  where
    one : (kind : PartKind) → IsPart kind → length (preload_code kind) ≡ (test_logic kind).ir_length
    one (Described device) k = map_size device.sample ∙ k.codes.sample_length
    one (WithoutDescription n) k = length-replicate n true

pub extest_fits : (ps : List Part) → Parts ps → CodesFit extest_code ps
extest_fits [] h = tt
extest_fits (p ∷ ps) h = (one p.kind h.0, extest_fits ps h.1)
  where
    one : (kind : PartKind) → IsPart kind → length (extest_code kind) ≡ (test_logic kind).ir_length
    one (Described device) k = map_size device.extest ∙ k.codes.extest_length
    one (WithoutDescription n) k = length-replicate n true

-- the instructions of the parts while the quiet row is shifted in
abbrev pub preloading : PartKind → Instruction
preloading (Described device) = Sample
preloading (WithoutDescription n) = Bypass

same_self : (c : List Bool) → pointwise beq c c ≡ true
same_self [] = refl
same_self (true ∷ c) = same_self c
same_self (false ∷ c) = same_self c

from_same : (c d : List Bool) → pointwise beq c d ≡ true → c ≡ d
from_same [] [] e = refl
from_same [] (y ∷ d) e = cc e
from_same (x ∷ c) [] e = cc e
from_same (true ∷ c) (true ∷ d) e = cons_path refl (from_same c d e)
from_same (true ∷ c) (false ∷ d) e = cc e
from_same (false ∷ c) (true ∷ d) e = cc e
from_same (false ∷ c) (false ∷ d) e = cons_path refl (from_same c d e)

not_same : (c d : List Bool) → c ≢ d → pointwise beq c d ≡ false
not_same c d h = by_test (pointwise beq c d) refl
  where
    by_test : (b : Bool) → pointwise beq c d ≡ b → b ≡ false
    by_test true e = absurd (h (from_same c d e))
    by_test false e = refl

ones_of : (xs : List Symbol) → all_ones (map bit_of xs) ≡ list_all bit_of xs
ones_of [] = refl
ones_of (x ∷ xs) = ap (λ (b : Bool). bit_of x && b) (ones_of xs)

abbrev by_tests : Bool → Bool → Bool → Instruction
by_tests ones extest sample = cond ones Bypass (cond extest Extest (cond sample Sample Other))

preload_means_one : (kind : PartKind) → IsPart kind → instruction_of (test_logic kind) (preload_code kind) ≡ preloading kind
preload_means_one (Described device) h =
    let preload : List Bool = map bit_of device.sample in
    let extest : List Bool = map bit_of device.extest in
    ap (λ (b : Bool). by_tests b (pointwise beq extest preload) (pointwise beq preload preload))
    (ones_of device.sample ∙ h.codes.sample_not_ones)
    ∙ ap (λ (b : Bool). by_tests false b (pointwise beq preload preload))
    (not_same extest preload
    (λ e. h.codes.codes_differ
    (sym
    (same_code device.extest device.sample h.codes.extest_given h.codes.sample_given
    e))))
    ∙ ap (λ (b : Bool). by_tests false false b) (same_self preload)
preload_means_one (WithoutDescription n) h = ap (λ (b : Bool). by_tests b false false) (all_ones-replicate n)

pub preload_means : (ps : List Part) → Parts ps → CodesMean preload_code preloading ps
preload_means [] h = tt
preload_means (p ∷ ps) h = (preload_means_one p.kind h.0, preload_means ps h.1)

extest_means_one : (kind : PartKind) → IsPart kind → instruction_of (test_logic kind) (extest_code kind) ≡ in_test kind
extest_means_one (Described device) h =
    let preload : List Bool = map bit_of device.sample in
    let extest : List Bool = map bit_of device.extest in
    ap (λ (b : Bool). by_tests b (pointwise beq extest extest) (pointwise beq preload extest))
    (ones_of device.extest ∙ h.codes.extest_not_ones)
    ∙ ap (λ (b : Bool). by_tests false b (pointwise beq preload extest)) (same_self extest)
extest_means_one (WithoutDescription n) h = ap (λ (b : Bool). by_tests b false false) (all_ones-replicate n)

pub extest_means : (ps : List Part) → Parts ps → CodesMean extest_code in_test ps
extest_means [] h = tt
extest_means (p ∷ ps) h = (extest_means_one p.kind h.0, extest_means ps h.1)

-- no bit of the scan is compared
abbrev pub AllSilent : List ScanBit → Type 0
AllSilent [] = Unit {0}
AllSilent (b ∷ bits) = (b.expect ≡ None) × AllSilent bits

silent_passes : (bits : List ScanBit) (os : List Bool) → AllSilent bits → scan_passes bits os ≡ true
silent_passes [] os h = refl
silent_passes (b ∷ bits) [] h = refl
silent_passes (b ∷ bits) (o ∷ os) h = ap (λ (e : Option Bool). bit_passes e o && scan_passes bits os) h.0 ∙ silent_passes bits os h.1

pub silent_append : (xs ys : List ScanBit) → AllSilent xs → AllSilent ys → AllSilent (xs ++ ys)
silent_append [] ys h k = k
silent_append (x ∷ xs) ys h k = (h.0, silent_append xs ys h.1 k)

pub silent_made : (n : ℕ) (f : ℕ → ScanBit) → ((c : ℕ) → (f c).expect ≡ None) → AllSilent (filled n f)
silent_made zero f q = tt
silent_made (suc n) f q = (q 0, silent_made n (λ k. f (suc k)) (λ k. q (suc k)))

pub only_if-None : (b : Bool) → only_if b None ≡ None
only_if-None true = refl
only_if-None false = refl

pub quiet_expects : (board : RawBoard) (k : ℕ) (device : RawDevice) (cell : ℕ) → expect_bit board quiet_row k device cell ≡ None
quiet_expects board k device cell = by_entry (reading_entry device cell)
  where
    cond_none : (b : Bool) (o : Option Bool) → o ≡ None → cond b o None ≡ None
    cond_none true o e = e
    cond_none false o e = refl

    by_driver : (place : ℕ) (o : Option ℕ) → expect_observed None place o ≡ None
    by_driver place None = refl
    by_driver place (Some i) = only_if-None (not (i == place))

    by_place : (o : Option Place) → expect_place board quiet_row o ≡ None
    by_place None = refl
    by_place (Some p) = by_driver p.place (observing_driver board quiet_row.setting p.net)

    by_pin : (o : Option ℕ) → expect_pin board quiet_row k o ≡ None
    by_pin None = refl
    by_pin (Some b) =
        cond_none (receives_where board (Some (record { part = k; bit = b })))
        (expect_place board quiet_row (place_of (record { part = k; bit = b }) 0 board.nets))
        (by_place (place_of (record { part = k; bit = b }) 0 board.nets))

    by_entry : (o : Option Cell) → expect_entry board quiet_row k o ≡ None
    by_entry None = refl
    by_entry (Some e) = cond_none (is_receiving e.role) (expect_pin board quiet_row k e.bit) (by_pin e.bit)

pub quiet_silent : (board : RawBoard) (now : TestRow) (k : ℕ) (ps : List Part) →
    AllSilent (joined (bits_by_part board (record { now = now; before = quiet_row }) k ps))
quiet_silent board now k [] = tt
quiet_silent board now k (p ∷ ps) =
    silent_append
    (joined (bits_by_part board (record { now = now; before = quiet_row }) (suc k) ps))
    (part_bits board (record { now = now; before = quiet_row }) k p.kind)
    (quiet_silent board now (suc k) ps) (one p.kind)
  where
    one : (kind : PartKind) → AllSilent (part_bits board (record { now = now; before = quiet_row }) k kind)
    one (Described device) =
        silent_made device.boundary
        (λ cell. record {
          tdi = row_bit board now k device cell;
          expect = expect_bit board quiet_row k device
              cell;
        }) (quiet_expects board k device)
    one (WithoutDescription n) = (refl, tt)

pub quiet_compares : (board : RawBoard) (now : TestRow) (os : List Bool) →
    scan_passes (joined (row_bits board (record { now = now; before = quiet_row }))) os ≡ true
quiet_compares board now os =
    silent_passes (joined (row_bits board (record { now = now; before = quiet_row }))) os
    (quiet_silent board now 0 board.chain)

row_scan_total : (board : RawBoard) (t : RowScan) (k : ℕ) (ps : List Part) → Parts ps
    → length ps ≤ length (joined (bits_by_part board t k ps))
row_scan_total board t k [] h = omega arith
row_scan_total board t k (p ∷ ps) h =
    omega (
      arith,
      length-append (joined (bits_by_part board t (suc k) ps)) (part_bits board t k p.kind),
      row_scan_total board t (suc k) ps h.1,
      one p.kind h.0,
    )
  where
    one : (kind : PartKind) → IsPart kind → 1 ≤ length (part_bits board t k kind)
    one (Described device) r =
        omega (
          arith,
          length-filled {A = ScanBit} device.boundary
              (λ cell. record {
                tdi = row_bit board t.now k device cell;
                expect = expect_bit board t.before k
                    device cell;
              }),
          r.boundary_least,
        )
    one (WithoutDescription n) r = omega arith

pub row_scan_some : (board : RawBoard) → IsBoard board → (t : RowScan) → 0 < length (joined (row_bits board t))
row_scan_some board rules t = omega (arith, row_scan_total board t 0 board.chain (parts_of board rules), rules.chain_some)

-- if the parts have the instructions of `preloading`, each selects a register of the model
preload_in : (ps : List Part) (chain : List ChainPart) → map (λ n. n.state.current) chain ≡ map (λ p. preloading p.kind) ps →
    AllIn RunTestIdle chain → AllSelectingIn RunTestIdle chain
preload_in ps [] e h = tt
preload_in [] (n ∷ chain) e h = cc e
preload_in (p ∷ ps) (n ∷ chain) e h =
    let hd : n.state.current ≡ preloading p.kind = cc e in
    let tl : map (λ n. n.state.current) chain ≡ map (λ p. preloading p.kind) ps = cc e in
    ((h.0, selects p.kind n.state.current hd), preload_in ps chain tl h.1)
  where
    selects : (kind : PartKind) (i : Instruction) → i ≡ preloading kind → i ≢ Other
    selects (Described device) i q z = let w : Sample ≡ Other = sym q ∙ z in cc w
    selects (WithoutDescription m) i q z = let w : Bypass ≡ Other = sym q ∙ z in cc w

preload_sizes : (board : RawBoard) (t : RowScan) (k : ℕ) (ps : List Part) (chain : List ChainPart)
    (pins : ℕ → List Bool) (free : ℕ → FreeBits) →
    map (λ n. n.state.current) chain ≡ map (λ p. preloading p.kind) ps → logics chain ≡ map (λ p. test_logic p.kind) ps →
    AllAreStates chain →
    map length (dr_captures pins free chain) ≡ map length (bits_by_part board t k ps)
preload_sizes board t k [] [] pins free e f h = refl
preload_sizes board t k [] (n ∷ chain) pins free e f h = cc e
preload_sizes board t k (p ∷ ps) [] pins free e f h = cc e
preload_sizes board t k (p ∷ ps) (n ∷ chain) pins free e f h =
    let e0 : n.state.current ≡ preloading p.kind = cc e in
    let e1 : map (λ n. n.state.current) chain ≡ map (λ p. preloading p.kind) ps = cc e in
    let f0 : n.logic ≡ test_logic p.kind = cc f in
    let f1 : logics chain ≡ map (λ p. test_logic p.kind) ps = cc f in
    cons_path
    (ap
    (λ (i : Instruction). length
    (dr_capture n.logic (pins 0) (free 0) i (length n.state.boundary))) e0
    ∙ one p.kind (h.0.boundary ∙ ap (λ (x : TestLogic). x.boundary_length) f0))
    (preload_sizes board t (suc k) ps chain (λ j. pins (suc j)) (λ j. free (suc j)) e1 f1 h.1)
  where
    one : (kind : PartKind) → length n.state.boundary ≡ (test_logic kind).boundary_length →
        length (dr_capture n.logic (pins 0) (free 0) (preloading kind) (length n.state.boundary)) ≡ length (part_bits board t k kind)
    one (Described device) q =
        length-filled (length n.state.boundary) (free 0).cells ∙ q
        ∙ sym
        (length-filled {A = ScanBit} device.boundary
        (λ cell. record {
          tdi = row_bit board t.now k device cell;
          expect = expect_bit board t.before k
              device cell;
        }))
    one (WithoutDescription m) q = refl

-- The effect of the scan that shifts in the quiet row: it passes, and the quiet row is then in the latches.
pub record Preloaded (board : RawBoard) (t : RowScan) (clocks : List Clock) (out : List Bool) (next : List ChainPart) : Type 0 where
  pub passes : run_passes clocks out ≡ true
  pub is_start : IsBoardChain board next
  pub idle : AllIn RunTestIdle next
  pub currents : map (λ n. n.state.current) next ≡ map (λ p. preloading p.kind) board.chain
  pub stays : all_held next ≡ shifted_row board t

pub preloads : (board : RawBoard) (rules : IsBoard board) (faults : FaultSet) (now : TestRow) (free : Choices) (chain : List ChainPart) →
    IsBoardChain board chain → AllIn RunTestIdle chain → map (λ n. n.state.current) chain ≡ map (λ p. preloading p.kind) board.chain →
    let t : RowScan = record { now = now; before = quiet_row } in
    let bits : List ScanBit = joined (row_bits board t) in
    Preloaded board t (sdr_clocks bits)
    (tdos (board_wiring board faults) (sdr_clocks bits) free chain)
    (run (board_wiring board faults) (sdr_clocks bits) free chain)
preloads board rules faults now free chain h tap e =
    let t : RowScan = record { now = now; before = quiet_row } in
    let bits : List ScanBit = joined (row_bits board t) in
    let wiring : Wiring = board_wiring board faults in
    let next : List ChainPart = run wiring (sdr_clocks bits) free chain in
    let registers : List (List Bool) = dr_captures (bits_at_pins wiring (free 2) chain) (free 2).parts chain in
    let lengths : map length registers
    ≡ map length (row_bits board t) = preload_sizes board t 0 board.chain chain
    (bits_at_pins wiring (free 2) chain) (free 2).parts e h.logics_are h.states_are in
    let s = long_data_transport wiring bits free chain (preload_in board.chain chain e tap) (row_scan_some board rules t) in
    let fits : length (joined registers) ≡ length bits = length-joined registers (row_bits board t) lengths in
    record {
      passes = s.compares ∙ quiet_compares board now (take (length bits) (joined registers ++ tdi_bits bits));
      is_start = stays_of board rules faults (sdr_clocks bits) free chain h;
      idle = all_in RunTestIdle next s.idle;
      currents = currents_of next chain s.frames ∙ e;
      stays =
          joined_same (all_held next) (shifted_row board t)
          (s.lengths ∙ lengths ∙ sym (lengths-tdi_bits (row_bits board t)))
          (s.stays ∙ drop_front (length bits) (joined registers) (tdi_bits bits) fits ∙ tdi_bits-joined (row_bits board t));
    }

-- The quiet row stays in the latches when EXTEST becomes the current instruction.
stored_same : (ps : List Part) (chain ms : List ChainPart) → map (λ n. n.state.current) chain ≡ map (λ p. preloading p.kind) ps →
    map (λ n. n.state.current) ms ≡ map (λ p. in_test p.kind) ps → map code_frame ms ≡ map code_frame chain → all_held ms ≡ all_held chain
stored_same ps [] [] e f g = refl
stored_same ps [] (m ∷ ms) e f g = cc g
stored_same ps (n ∷ chain) [] e f g = cc g
stored_same [] (n ∷ chain) (m ∷ ms) e f g = cc e
stored_same (p ∷ ps) (n ∷ chain) (m ∷ ms) e f g =
    let e0 : n.state.current ≡ preloading p.kind = cc e in
    let e1 : map (λ n. n.state.current) chain ≡ map (λ p. preloading p.kind) ps = cc e in
    let f0 : m.state.current ≡ in_test p.kind = cc f in
    let f1 : map (λ n. n.state.current) ms ≡ map (λ p. in_test p.kind) ps = cc f in
    let g0 : code_frame m ≡ code_frame n = cc g in
    let g1 : map code_frame ms ≡ map code_frame chain = cc g in
    cons_path
    (ap (λ (c : CodeFrame). selected_by m.state.current c.latches c.bypass c.identification) g0
    ∙ ap (λ (i : Instruction). selected_by i n.state.latches n.state.bypass n.state.identification) f0
    ∙ one p.kind n.state.latches n.state.bypass n.state.identification
    ∙ sym (ap (λ (i : Instruction). selected_by i n.state.latches n.state.bypass n.state.identification) e0))
    (stored_same ps chain ms e1 f1 g1)
  where
    one : (kind : PartKind) (l : List Bool) (b : Bool) (c : List Bool) →
        selected_by (in_test kind) l b c ≡ selected_by (preloading kind) l b c
    one (Described device) l b c = refl
    one (WithoutDescription k) l b c = refl

in_test_in : (ps : List Part) (chain : List ChainPart) → map (λ n. n.state.current) chain ≡ map (λ p. in_test p.kind) ps →
    AllIn RunTestIdle chain → AllSelectingIn RunTestIdle chain
in_test_in ps [] e h = tt
in_test_in [] (n ∷ chain) e h = cc e
in_test_in (p ∷ ps) (n ∷ chain) e h =
    let hd : n.state.current ≡ in_test p.kind = cc e in
    let tl : map (λ n. n.state.current) chain ≡ map (λ p. in_test p.kind) ps = cc e in
    ((h.0, selects p.kind n.state.current hd), in_test_in ps chain tl h.1)
  where
    selects : (kind : PartKind) (i : Instruction) → i ≡ in_test kind → i ≢ Other
    selects (Described device) i q z = let w : Extest ≡ Other = sym q ∙ z in cc w
    selects (WithoutDescription m) i q z = let w : Bypass ≡ Other = sym q ∙ z in cc w

pub enters : (board : RawBoard) (t : RowScan) (chain ms : List ChainPart) →
    map (λ n. n.state.current) chain ≡ map (λ p. preloading p.kind) board.chain → all_held chain ≡ shifted_row board t →
    map code_frame ms ≡ map code_frame chain → IsBoardChain board ms → AllIn RunTestIdle ms →
    map (λ n. n.state.current) ms ≡ map (λ p. in_test p.kind) board.chain → InTest board (shifted_row board t) ms
enters board t chain ms e s g h tap f = record {
  idle = in_test_in board.chain ms f tap;
  logics_are = h.logics_are;
  currents = f;
  stays = stored_same board.chain chain ms e f g ∙ s;
}

-- the registers, choices and states of the chain during the first three scans of a board's test
module _ (board : RawBoard) (rules : IsBoard board) (faults : FaultSet) (states : List ChainPart)
    (free : Choices) (start : IsBoardChain board states) where
  abbrev pub wiring : Wiring
  wiring = board_wiring board faults

  abbrev pub preload_bits : List ScanBit
  preload_bits = joined (map code_bits (map (λ p. preload_code p.kind) board.chain))

  abbrev pub quiet_bits : List ScanBit
  quiet_bits = joined (row_bits board first_row_scan)

  abbrev pub extest_bits : List ScanBit
  extest_bits = joined (map code_bits (map (λ p. extest_code p.kind) board.chain))

  abbrev pub headed : List ChainPart
  headed = run wiring head_clocks free states

  abbrev pub f0 : Choices
  f0 = choices_after head_clocks free

  abbrev pub sampling : List ChainPart
  sampling = run wiring (sir_clocks preload_bits) f0 headed

  abbrev pub f1 : Choices
  f1 = choices_after (sir_clocks preload_bits) f0

  abbrev pub preloaded : List ChainPart
  preloaded = run wiring (sdr_clocks quiet_bits) f1 sampling

  abbrev pub f2 : Choices
  f2 = choices_after (sdr_clocks quiet_bits) f1

  abbrev pub entered : List ChainPart
  entered = run wiring (sir_clocks extest_bits) f2 preloaded

  abbrev pub f3 : Choices
  f3 = choices_after (sir_clocks extest_bits) f2

  pub head_start : IsBoardChain board headed
  head_start = stays_of board rules faults head_clocks free states start

  pub scan0 : Instructed board preloading (sir_clocks preload_bits) (tdos wiring (sir_clocks preload_bits) f0 headed) headed sampling
  scan0 =
      instructed board rules faults preload_code preloading
      (preload_fits board.chain (parts_of board rules))
      (preload_means board.chain (parts_of board rules)) f0 headed head_start
      (head_idles wiring free states)

  pub scan1 : Preloaded board first_row_scan (sdr_clocks quiet_bits) (tdos wiring (sdr_clocks quiet_bits) f1 sampling) preloaded
  scan1 = preloads board rules faults quiet_row f1 sampling scan0.is_start scan0.idle scan0.currents

  pub scan2 : Instructed board in_test (sir_clocks extest_bits) (tdos wiring (sir_clocks extest_bits) f2 preloaded) preloaded entered
  scan2 =
      instructed board rules faults extest_code in_test
      (extest_fits board.chain (parts_of board rules))
      (extest_means board.chain (parts_of board rules)) f2 preloaded scan1.is_start scan1.idle

  pub in_test_after : InTest board (shifted_row board first_row_scan) entered
  in_test_after =
      enters board first_row_scan preloaded entered scan1.currents scan1.stays scan2.frames
      scan2.is_start scan2.idle scan2.currents

  -- A whole test passes if and only if its data scans after the EXTEST codes pass.
  pub whole_passes_as : (ts : List RowScan) →
      run_passes (test_clocks (board_scans board ts))
      (tdos wiring (test_clocks (board_scans board ts)) free states)
      ≡ run_passes (row_clocks board ts) (tdos wiring (row_clocks board ts) f3 entered)
  whole_passes_as ts =
      let rest2 : List Clock = sir_clocks extest_bits ++ row_clocks board ts in
      let rest1 : List Clock = sdr_clocks quiet_bits ++ rest2 in
      scans_decide wiring (board_scans board ts) free states
      ∙ two_pass wiring (sir_clocks preload_bits) rest1 f0 headed
      ∙ ap (λ (b : Bool). b && run_passes rest1 (tdos wiring rest1 f1 sampling)) scan0.passes
      ∙ two_pass wiring (sdr_clocks quiet_bits) rest2 f1 sampling
      ∙ ap (λ (b : Bool). b && run_passes rest2 (tdos wiring rest2 f2 preloaded)) scan1.passes
      ∙ two_pass wiring (sir_clocks extest_bits) (row_clocks board ts) f2 preloaded
      ∙ ap (λ (b : Bool). b && run_passes (row_clocks board ts) (tdos wiring (row_clocks board ts) f3 entered)) scan2.passes
