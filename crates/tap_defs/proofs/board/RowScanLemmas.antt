-- Proof that a test fails if one of its scans is wrong (`IsWrong`).
use Rattle.std.proofs.Common.{◌≡◌, ℕ, suc, ◌<◌, Bool, false, inl, inr, List, [], ◌∷◌, length, map, Option, Some, refl, sym, ◌∙◌, ap}
use Rattle.std.specs.Prelude.{slice_get}
use Rattle.board_defs.specs.declared.device.RawDevice.{RawDevice}
use Rattle.board_defs.specs.declared.board.PartKind.{PartKind}
use Rattle.board_defs.specs.declared.board.PartKind.TheVariants.{Described, Bypass}
use Rattle.board_defs.specs.declared.board.Part.{Part}
use Rattle.board_defs.specs.declared.board.RawBoard.{RawBoard}
use Rattle.tap_defs.specs.chain.TestLogic.{TestLogic, Instruction}
use Rattle.tap_defs.specs.chain.Part.{FreeBits}
use Rattle.tap_defs.specs.chain.Chain.{ChainPart, pin_states}
use Rattle.tap_defs.specs.board.FaultSet.{FaultSet}
use Rattle.tap_defs.specs.board.NetBits.{captured_by}
use Rattle.tap_defs.specs.chain.Run.{choices_after, Clock, Choice, Choices, run, tdos, run_passes}
use Rattle.tap_defs.specs.board.OnBoard.{board_wiring}
use Rattle.std.proofs.lemmas.List.{length-map}
use Rattle.tap_defs.specs.chain.Scan.{ScanBit, joined, tdi_bits}
use Rattle.tap_defs.specs.chain.Clocks.{sdr_clocks}
use Rattle.tap_defs.specs.chain.ChainRegisters.{all_held, dr_capture, dr_captures, bits_at_pins}
use Rattle.tap_defs.specs.chain.Transport.{DataFrame, data_frame, scan_passes}
use Rattle.tap_defs.specs.board.BoardScans.{RowScan, part_bits, bits_by_part, row_bits, row_clocks}
use Rattle.tap_defs.proofs.chain.ListLemmas.{cons_path, length-joined, length-filled}
use Rattle.tap_defs.specs.board.RowCaptures.{register_of, registers}
use Rattle.tap_defs.proofs.board.InTestLemmas.{in_test, InTest, shifted_row, SomeWrong}
use Rattle.tap_defs.proofs.chain.DataLemmas.{data_transport}
use Rattle.tap_defs.proofs.chain.ScanLemmas.{joined_same, tdi_bits-joined, lengths-tdi_bits, and_false}
use Rattle.tap_defs.proofs.chain.RunLemmas.{two_pass}
use Rattle.std.proofs.lemmas.Simd.{map-map}

-- during a test, Capture-DR loads the bits of the pins into the register of a described part, and 0 into that of any other part
loads_in_test : (logic : TestLogic) (kind : PartKind) (pins : List Bool) (free : FreeBits) (n : ℕ) →
    dr_capture logic pins free (in_test kind) n ≡ register_of kind pins
loads_in_test logic (Described device) pins free n = refl
loads_in_test logic (Bypass m) pins free n = refl

loaded_registers : (chain : List ChainPart) (ps : List Part) (pins : ℕ → List Bool) (free : ℕ → FreeBits) →
    map (λ n. n.state.current) chain ≡ map (λ p. in_test p.kind) ps → dr_captures pins free chain ≡ registers pins ps
loaded_registers [] [] pins free e = refl
loaded_registers [] (p ∷ ps) pins free e = cc e
loaded_registers (n ∷ chain) [] pins free e = cc e
loaded_registers (n ∷ chain) (p ∷ ps) pins free e =
    let hd : n.state.current ≡ in_test p.kind = cc e in
    let tl : map (λ n. n.state.current) chain ≡ map (λ p. in_test p.kind) ps = cc e in
    cons_path
    (ap (λ (i : Instruction). dr_capture n.logic (pins 0) (free 0) i (length n.state.boundary))
    hd ∙ loads_in_test n.logic p.kind (pins 0) (free 0) (length n.state.boundary))
    (loaded_registers chain ps (λ k. pins (suc k)) (λ k. free (suc k)) tl)

-- `pins k` has a bit for each boundary cell of part `k`, if that part is described
abbrev pub FitsPins : (ℕ → List Bool) → List Part → Type 0
FitsPins pins ps =
    (k : ℕ) (p : Part) (device : RawDevice) → slice_get ps k ≡ Some p → p.kind ≡ Described device
    → length (pins k) ≡ device.boundary

pub captured_fits : (board : RawBoard) (faults : FaultSet) (free : Choice) (chain : List ChainPart) →
    FitsPins (bits_at_pins (board_wiring board faults) free chain) board.chain
captured_fits board faults free chain k p device e d =
    ap
    (λ (o : Option Part). length
    (Rattle.std.specs.Prelude.unwrap_or
    (Rattle.std.specs.Prelude.option_map
    (λ q. captured_by board faults (pin_states chain) free.shorts
    (free.parts k).cells k q.kind) o) [])) e
    ∙ ap (λ (kind : PartKind). length (captured_by board faults (pin_states chain) free.shorts (free.parts k).cells k kind)) d
    ∙ length-filled device.boundary _

pub bits_fit : (board : RawBoard) (t : RowScan) (k : ℕ) (ps : List Part) (pins : ℕ → List Bool) → FitsPins pins ps →
    map length (bits_by_part board t k ps) ≡ map length (registers pins ps)
bits_fit board t k [] pins q = refl
bits_fit board t k (p ∷ ps) pins q =
    cons_path (one p.kind (λ device e. q 0 p device refl e))
    (bits_fit board t (suc k) ps (λ j. pins (suc j)) (λ j. q (suc j)))
  where
    one : (kind : PartKind) → ((device : RawDevice) → kind ≡ Described device → length (pins 0) ≡ device.boundary) →
        length (part_bits board t k kind) ≡ length (register_of kind (pins 0))
    one (Described device) h = length-filled device.boundary _ ∙ sym (h device refl)
    one (Bypass n) h = refl

-- the effect of a data scan that shifts in a row of the test and may compare any bits
pub record RowScanDone (board : RawBoard) (faults : FaultSet) (t : RowScan) (bits : List ScanBit)
    (free : Choice) (out : List Bool) (chain next : List ChainPart) : Type 0 where
  pub compares : run_passes (sdr_clocks bits) out
      ≡ scan_passes bits
      (joined (registers (bits_at_pins (board_wiring board faults) free chain) board.chain))
  pub in_test : InTest board (shifted_row board t) next

pub logics_of : (chain ms : List ChainPart) → map data_frame chain ≡ map data_frame ms → map (λ n. n.logic) chain ≡ map (λ n. n.logic) ms
logics_of chain ms e =
    sym (map-map (λ f. f.logic) data_frame chain)
    ∙ ap (λ (fs : List DataFrame). map (λ f. f.logic) fs) e ∙ map-map (λ f. f.logic) data_frame ms

pub currents_of : (chain ms : List ChainPart) → map data_frame chain ≡ map data_frame ms →
    map (λ n. n.state.current) chain ≡ map (λ n. n.state.current) ms
currents_of chain ms e =
    sym (map-map (λ f. f.current) data_frame chain)
    ∙ ap (λ (fs : List DataFrame). map (λ f. f.current) fs) e
    ∙ map-map (λ f. f.current) data_frame ms

pub row_scan_by : (board : RawBoard) (faults : FaultSet) (t : RowScan) (bits : List ScanBit)
    → tdi_bits bits ≡ tdi_bits (joined (row_bits board t)) →
    (free : Choices) (row : List (List Bool)) (chain : List ChainPart) → InTest board row chain → 0 < length bits →
    RowScanDone board faults t bits (free 2)
    (tdos (board_wiring board faults) (sdr_clocks bits) free chain) chain
    (run (board_wiring board faults) (sdr_clocks bits) free chain)
row_scan_by board faults t bits shifts free row chain h pos =
    let pins : ℕ → List Bool = bits_at_pins (board_wiring board faults) (free 2) chain in
    let rs : List (List Bool) = registers pins board.chain in
    let regs : dr_captures pins (free 2).parts chain ≡ rs = loaded_registers chain board.chain pins (free 2).parts h.currents in
    let fit : map length (row_bits board t)
    ≡ map length rs = bits_fit board t 0 board.chain pins
    (captured_fits board faults (free 2) chain) in
    let size : length bits ≡ length (joined (row_bits board t)) =
    sym (length-map bits (λ b. b.tdi)) ∙ ap (λ (r : List Bool). length r) shifts ∙ length-map (joined (row_bits board t)) (λ b. b.tdi) in
    let len : length bits
    ≡ length (joined (dr_captures pins (free 2).parts chain)) = size
    ∙ length-joined (row_bits board t) rs fit
    ∙ sym (ap (λ (r : List (List Bool)). length (joined r)) regs) in
    let d = data_transport (board_wiring board faults) bits free chain h.idle pos len in
    let next : List ChainPart = run (board_wiring board faults) (sdr_clocks bits) free chain in
    record {
      compares = d.compares ∙ ap (λ (r : List (List Bool)). scan_passes bits (joined r)) regs;
      in_test = record {
        idle = d.idle;
        logics_are = logics_of next chain d.frames ∙ h.logics_are;
        currents = currents_of next chain d.frames ∙ h.currents;
        stays =
            joined_same (all_held next) (shifted_row board t)
            (d.lengths ∙ ap (λ (r : List (List Bool)). map length r) regs ∙ sym fit ∙ sym (lengths-tdi_bits (row_bits board t)))
            (d.stays ∙ shifts ∙ tdi_bits-joined (row_bits board t));
      };
    }

pub row_scan_done : (board : RawBoard) (faults : FaultSet) (t : RowScan) (free : Choices)
    (row : List (List Bool)) (chain : List ChainPart) →
    InTest board row chain → 0 < length (joined (row_bits board t)) →
    let bits : List ScanBit = joined (row_bits board t) in
    RowScanDone board faults t bits (free 2)
    (tdos (board_wiring board faults) (sdr_clocks bits) free chain) chain
    (run (board_wiring board faults) (sdr_clocks bits) free chain)
row_scan_done board faults t free row chain h pos = row_scan_by board faults t (joined (row_bits board t)) refl free row chain h pos

pub fails_by : (board : RawBoard) (faults : FaultSet) → ((t : RowScan) → 0 < length (joined (row_bits board t))) →
    (row : List (List Bool)) (ts : List RowScan) (free : Choices) (chain : List ChainPart) → InTest board row chain →
    SomeWrong board faults row ts →
    run_passes (row_clocks board ts) (tdos (board_wiring board faults) (row_clocks board ts) free chain) ≡ false
fails_by board faults pos row [] free chain h w = absurd w
fails_by board faults pos row (t ∷ ts) free chain h w =
    let clocks : List Clock = sdr_clocks (joined (row_bits board t)) in
    let e = row_scan_done board faults t free row chain h (pos t) in
    let next : List ChainPart = run (board_wiring board faults) clocks free chain in
    let rest : SomeWrong board faults (shifted_row board t) ts
    → run_passes (row_clocks board ts)
    (tdos (board_wiring board faults) (row_clocks board ts) (choices_after clocks free) next)
    ≡ false =
    λ k. fails_by board faults pos (shifted_row board t) ts (choices_after clocks free) next e.in_test k in
    two_pass (board_wiring board faults) clocks (row_clocks board ts) free chain
    ∙ and_false (run_passes clocks (tdos (board_wiring board faults) clocks free chain))
    (run_passes (row_clocks board ts)
    (tdos (board_wiring board faults) (row_clocks board ts) (choices_after clocks free) next))
    (elim w [ inl k ↦ inl (e.compares ∙ k chain (free 2) h) | inr k ↦ inr (rest k) ])
