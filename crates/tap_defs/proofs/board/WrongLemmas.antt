-- Conditions under which a scan is wrong (`IsWrong`), that is, finds a wrong bit in every run.
use Rattle.std.proofs.Common.{◌≡◌, ℕ, zero, suc, ◌+◌, ◌<◌, ◌==◌, Bool, true, false, cond, not, ◌&&◌, List, [], ◌∷◌, Option, Some, None, refl, sym, ◌∙◌, ap, arith, zero-add}
use Rattle.std.specs.Prelude.{slice_get, unwrap_or, option_map}
use Rattle.lists.proofs.Booleans.{not_itself}
use Rattle.board_defs.specs.declared.device.Cell.{Cell}
use Rattle.board_defs.specs.declared.device.RawDevice.{RawDevice}
use Rattle.board_defs.specs.declared.board.PartKind.{PartKind}
use Rattle.board_defs.specs.declared.board.PartKind.TheVariants.{Described}
use Rattle.board_defs.specs.declared.board.Part.{Part}
use Rattle.board_defs.specs.declared.board.PinAt.{PinAt}
use Rattle.board_defs.specs.declared.board.NetPin.{NetPin}
use Rattle.board_defs.specs.declared.board.Net.{Net}
use Rattle.board_defs.specs.declared.board.RawBoard.{RawBoard}
use Rattle.board_defs.specs.Pins.{receives_where}
use Rattle.board_defs.specs.Settings.{Enabling}
use Rattle.tap_defs.specs.chain.Part.{PinState}
use Rattle.tap_defs.specs.chain.ShiftRegister.{filled}
use Rattle.tap_defs.specs.chain.Chain.{ChainPart, pin_states}
use Rattle.tap_defs.specs.board.FaultSet.{FaultSet}
use Rattle.tap_defs.specs.board.NetBits.{Place, place_of, read_entry, read_bit, read_at, reads_pin, live_where, net_bit, net_bit_by, captured, captured_by}
use Rattle.board_defs.specs.DeviceRules.{reading_entry, is_receiving}
use Rattle.tap_defs.specs.chain.Run.{Choice, bit_passes}
use Rattle.tap_defs.specs.board.OnBoard.{board_wiring}
use Rattle.tap_defs.specs.chain.Scan.{ScanBit, joined}
use Rattle.tap_defs.specs.chain.Transport.{scan_passes}
use Rattle.tap_defs.specs.chain.ChainRegisters.{bits_at_pins}
use Rattle.tap_defs.specs.board.TestRows.{TestRow, observing_driver, row_bit, expect_bit, expect_entry, expect_pin, expect_place, expect_observed, only_if}
use Rattle.tap_defs.specs.board.BoardScans.{RowScan, part_bits, bits_by_part, row_bits}
use Rattle.std.proofs.lemmas.Bool.{false_from_ne_true}
use Rattle.tap_defs.specs.board.RowCaptures.{register_of, registers}
use Rattle.tap_defs.proofs.board.InTestLemmas.{InTest, shifted_row, IsWrong}
use Rattle.tap_defs.proofs.chain.ScanLemmas.{part_passes, cell_passes, filled_at}
use Rattle.tap_defs.proofs.board.RowScanLemmas.{bits_fit, captured_fits}

-- a cell of this net that is compared under this setting
pub record Compared (board : RawBoard) (setting : Enabling) (n : ℕ) (net : Net) : Type 0 where
  pub k : ℕ
  pub part : Part
  pub device : RawDevice
  pub at_k : slice_get board.chain k ≡ Some part
  pub device_is : part.kind ≡ Described device
  pub cell : ℕ
  pub below : cell < device.boundary
  pub entry : Cell
  pub reads : reading_entry device cell ≡ Some entry
  pub receiving : is_receiving entry.role ≡ true
  pub bit : ℕ
  pub bit_is : entry.bit ≡ Some bit
  pub receives_is : receives_where board (Some (record { part = k; bit = bit })) ≡ true
  pub place : ℕ
  pub stands : place_of (record { part = k; bit = bit }) 0 board.nets ≡ Some (record { number = n; net = net; place = place })
  pub pin : NetPin
  pub pin_is : slice_get net.pins place ≡ Some pin
  pub pin_at : pin.at ≡ Some (record { part = k; bit = bit })
  pub driver : ℕ
  pub observing_is : observing_driver board setting net ≡ Some driver
  pub other : (driver == place) ≡ false

pub expects : (board : RawBoard) (row : TestRow) (n : ℕ) (net : Net) (c : Compared board row.setting n net) →
    expect_bit board row c.k c.device c.cell ≡ row.carried n
expects board row n net c =
    ap (λ (o : Option Cell). expect_entry board row c.k o) c.reads
    ∙ ap (λ (b : Bool). cond b (expect_pin board row c.k c.entry.bit) None) c.receiving
    ∙ ap (λ (o : Option ℕ). expect_pin board row c.k o) c.bit_is
    ∙ ap (λ (b : Bool). cond b (expect_place board row (place_of (record { part = c.k; bit = c.bit }) 0 board.nets)) None) c.receives_is
    ∙ ap (λ (o : Option Place). expect_place board row o) c.stands
    ∙ ap (λ (o : Option ℕ). expect_observed (row.carried n) c.place o) c.observing_is
    ∙ ap (λ (b : Bool). only_if (not b) (row.carried n)) c.other

pub captures : (board : RawBoard) (faults : FaultSet) (setting : Enabling) (n : ℕ) (net : Net)
    (pin_state : List PinState) (shorts : ℕ → Bool) (w : Bool) (c : Compared board setting n net) →
    live_where board pin_state (Some (record { part = c.k; bit = c.bit })) ≡ false →
    read_entry board faults pin_state shorts w c.k (reading_entry c.device c.cell)
    ≡ unwrap_or (faults.opened n c.place)
    (unwrap_or (net_bit board faults pin_state shorts n net) w)
captures board faults setting n net pin_state shorts w c dead =
    let at : PinAt = record { part = c.k; bit = c.bit } in
    ap (λ (o : Option Cell). read_entry board faults pin_state shorts w c.k o) c.reads
    ∙ ap (λ (b : Bool). cond b (read_bit board faults pin_state shorts w c.k c.entry.bit) w) c.receiving
    ∙ ap (λ (o : Option ℕ). read_bit board faults pin_state shorts w c.k o) c.bit_is
    ∙ ap
    (λ (b : Bool). cond (b && not (live_where board pin_state (Some at)))
    (read_at board faults pin_state shorts w (place_of at 0 board.nets)) w) c.receives_is
    ∙ ap (λ (b : Bool). cond (not b) (read_at board faults pin_state shorts w (place_of at 0 board.nets)) w) dead
    ∙ ap (λ (o : Option Place). read_at board faults pin_state shorts w o) c.stands

pub registers_at : (pins : ℕ → List Bool) (ps : List Part) (k : ℕ) (p : Part) → slice_get ps k ≡ Some p →
    slice_get (registers pins ps) k ≡ Some (register_of p.kind (pins k))
registers_at pins [] k p e = cc e
registers_at pins (q ∷ ps) zero p e =
    let x : q ≡ p = cc e in ap (λ (r : Part). Some (register_of r.kind (pins 0))) x
registers_at pins (q ∷ ps) (suc k) p e = registers_at (λ j. pins (suc j)) ps k p e

pub bits_at : (board : RawBoard) (t : RowScan) (m : ℕ) (ps : List Part) (k : ℕ) (p : Part) → slice_get ps k ≡ Some p →
    slice_get (bits_by_part board t m ps) k ≡ Some (part_bits board t (m + k) p.kind)
bits_at board t m [] k p e = cc e
bits_at board t m (q ∷ ps) zero p e =
    let x : q ≡ p = cc e in
    let z : m + 0 ≡ m = omega arith in
    rw z (ap (λ (r : Part). Some (part_bits board t m r.kind)) x)
bits_at board t m (q ∷ ps) (suc k) p e =
    let z : suc m + k ≡ m + suc k = omega arith in
    bits_at board t (suc m) ps k p e ∙ ap (λ (i : ℕ). Some (part_bits board t i p.kind)) z

same_is : (e v : Bool) → bit_passes (Some e) v ≡ true → v ≡ e
same_is true true h = refl
same_is true false h = cc h
same_is false true h = cc h
same_is false false h = refl

abbrev pub captured_here : RawBoard → FaultSet → Choice → List ChainPart → (n : ℕ) → Net → ℕ → ℕ → ℕ → Bool
captured_here board faults free chain n net place k cell =
    unwrap_or (faults.opened n place)
    (unwrap_or (net_bit board faults (pin_states chain) free.shorts n net)
    ((free.parts k).cells cell))

pub passes_at : (board : RawBoard) (faults : FaultSet) (row now : TestRow) (n : ℕ) (net : Net) (v : Bool) → row.carried n ≡ Some v →
    (c : Compared board row.setting n net) (free : Choice) (chain : List ChainPart) →
    let t : RowScan = record { now = now; before = row } in
    live_where board (pin_states chain) (Some (record { part = c.k; bit = c.bit })) ≡ false →
    scan_passes (joined (row_bits board t)) (joined (registers (bits_at_pins (board_wiring board faults) free chain) board.chain)) ≡ true →
    captured_here board faults free chain n net c.place c.k c.cell ≡ v
passes_at board faults row now n net v carried c free chain dead ok =
    let t : RowScan = record { now = now; before = row } in
    let pins : ℕ → List Bool = bits_at_pins (board_wiring board faults) free chain in
    let cells : ℕ → ScanBit = λ x. record { tdi = row_bit board now c.k c.device x; expect = expect_bit board row c.k c.device x } in
    let reads : ℕ
    → Bool = λ x. read_entry board faults (pin_states chain) free.shorts
    ((free.parts c.k).cells x) c.k (reading_entry c.device x) in
    let bs : slice_get (row_bits board t) c.k ≡ Some (filled c.device.boundary cells) =
    bits_at board t 0 board.chain c.k c.part c.at_k
    ∙ ap (λ (i : ℕ). Some (part_bits board t i c.part.kind)) (zero-add c.k)
    ∙ ap (λ (kind : PartKind). Some (part_bits board t c.k kind)) c.device_is in
    let pin_bits : pins c.k ≡ filled c.device.boundary reads =
    ap
    (λ (o : Option Part). unwrap_or
    (option_map
    (λ q. captured_by board faults (pin_states chain) free.shorts (free.parts c.k).cells
    c.k q.kind) o) []) c.at_k
    ∙ ap (λ (kind : PartKind). captured_by board faults (pin_states chain) free.shorts (free.parts c.k).cells c.k kind) c.device_is in
    let rs : slice_get (registers pins board.chain) c.k ≡ Some (filled c.device.boundary reads) =
    registers_at pins board.chain c.k c.part c.at_k
    ∙ ap (λ (kind : PartKind). Some (register_of kind (pins c.k))) c.device_is
    ∙ ap (λ (r : List Bool). Some r) pin_bits in
    let here = part_passes (row_bits board t) (registers pins board.chain)
    (bits_fit board t 0 board.chain pins (captured_fits board faults free chain)) ok c.k
    (filled c.device.boundary cells) (filled c.device.boundary reads) bs rs in
    let m : bit_passes (cells c.cell).expect (reads c.cell) ≡ true =
    cell_passes (filled c.device.boundary cells) (filled c.device.boundary reads) here c.cell
    (cells c.cell) (reads c.cell) (filled_at c.device.boundary cells c.cell c.below)
    (filled_at c.device.boundary reads c.cell c.below) in
    let m2 : bit_passes (Some v) (reads c.cell)
    ≡ true = sym
    (ap (λ (o : Option Bool). bit_passes o (reads c.cell))
    (expects board row n net c ∙ carried)) ∙ m in
    sym
    (captures board faults row.setting n net (pin_states chain) free.shorts
    ((free.parts c.k).cells c.cell) c dead) ∙ same_is v (reads c.cell) m2

-- While the row is in the latches, the pin is not a live driver.
abbrev pub IsDead : RawBoard → TestRow → PinAt → Type 0
IsDead board row at =
    (before : TestRow) (chain : List ChainPart)
    → InTest board (shifted_row board (record { now = row; before = before })) chain
    → live_where board (pin_states chain) (Some at) ≡ false

-- A scan is wrong if it compares a row in which a net carries the opposite of `u`, while a compared cell of
-- this net captures `u` in every run. The cell's pin must not be a live driver.
pub wrong_if_constant : (board : RawBoard) (faults : FaultSet) (row before now : TestRow) (n : ℕ)
    (net : Net) (c : Compared board row.setting n net) (u : Bool) →
    IsDead board row (record { part = c.k; bit = c.bit }) →
    ((free : Choice) (chain : List ChainPart)
    → InTest board (shifted_row board (record { now = row; before = before })) chain
    → captured_here board faults free chain n net c.place c.k c.cell ≡ u) →
    row.carried n ≡ Some (not u) →
    IsWrong board faults (shifted_row board (record { now = row; before = before })) (record { now = now; before = row })
wrong_if_constant board faults row before now n net c u dead const carried chain free h =
    false_from_ne_true
    (scan_passes (joined (row_bits board (record { now = now; before = row })))
    (joined (registers (bits_at_pins (board_wiring board faults) free chain) board.chain)))
    (λ ok. not_itself u
    (sym
    (passes_at board faults row now n net (not u) carried c free chain
    (dead before chain h) ok) ∙ const free chain h))

-- Two nets in one short have the same bit if neither is stuck. So a scan is wrong if it compares a row in which they
-- carry different bits. The pins of their compared cells must not be open and must not be live drivers.
pub wrong_if_shorted : (board : RawBoard) (faults : FaultSet) (row before now : TestRow) (a b s : ℕ)
    (v : Bool) (one two : Net) (c : Compared board row.setting a one)
    (d : Compared board row.setting b two) →
    IsDead board row (record { part = c.k; bit = c.bit }) → IsDead board row (record { part = d.k; bit = d.bit }) →
    faults.opened a c.place ≡ None → faults.opened b d.place ≡ None → faults.stuck a ≡ None
    → faults.stuck b ≡ None → faults.short a ≡ Some s → faults.short b ≡ Some s →
    row.carried a ≡ Some (not v) → row.carried b ≡ Some v →
    IsWrong board faults (shifted_row board (record { now = row; before = before })) (record { now = now; before = row })
wrong_if_shorted board faults row before now a b s v one two c d dead_c dead_d open_c open_d stuck_a
    stuck_b short_a short_b carried_a carried_b chain free h =
    false_from_ne_true
    (scan_passes (joined (row_bits board (record { now = now; before = row })))
    (joined (registers (bits_at_pins (board_wiring board faults) free chain) board.chain)))
    (λ ok.
    let bit : Bool = Rattle.tap_defs.specs.board.NetBits.short_bit board faults (pin_states chain) (free.shorts s) s in
    let is_a : captured_here board faults free chain a one c.place c.k c.cell
    ≡ bit = reads_short a one c.place c.k c.cell chain free open_c stuck_a short_a in
    let is_b : captured_here board faults free chain b two d.place d.k d.cell
    ≡ bit = reads_short b two d.place d.k d.cell chain free open_d stuck_b short_b in
    let code_a = passes_at board faults row now a one (not v) carried_a c free chain (dead_c before chain h) ok in
    let code_b = passes_at board faults row now b two v carried_b d free chain (dead_d before chain h) ok in
    not_itself v (sym code_a ∙ is_a ∙ sym is_b ∙ code_b))
  where
    reads_short : (n : ℕ) (net : Net) (place k cell : ℕ) (chain : List ChainPart) (free : Choice) → faults.opened n place ≡ None →
        faults.stuck n ≡ None → faults.short n ≡ Some s →
        captured_here board faults free chain n net place k cell
        ≡ Rattle.tap_defs.specs.board.NetBits.short_bit board faults (pin_states chain)
        (free.shorts s) s
    reads_short n net place k cell chain free o st sh =
        ap
        (λ (x : Option Bool). unwrap_or x
        (unwrap_or (net_bit board faults (pin_states chain) free.shorts n net)
        ((free.parts k).cells cell))) o
        ∙ ap
        (λ (x : Option Bool). unwrap_or
        (net_bit_by board faults (pin_states chain) free.shorts n net x (faults.short n))
        ((free.parts k).cells cell)) st
        ∙ ap
        (λ (x : Option ℕ). unwrap_or
        (net_bit_by board faults (pin_states chain) free.shorts n net None x)
        ((free.parts k).cells cell)) sh
