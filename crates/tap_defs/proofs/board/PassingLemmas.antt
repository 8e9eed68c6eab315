-- Without faults, each compared bit is as expected.
use Rattle.std.proofs.Common.{◌≡◌, ◌≢◌, ℕ, zero, suc, ◌+◌, ◌<◌, ◌==◌, Bool, true, false, cond, not, ◌&&◌, List, [], ◌∷◌, Option, Some, None, refl, sym, ◌∙◌, ap, subst, arith}
use Rattle.std.specs.Prelude.{slice_get, unwrap_or, option_map}
use Rattle.board_defs.specs.declared.device.Cell.{Cell}
use Rattle.board_defs.specs.declared.board.PartKind.{PartKind}
use Rattle.board_defs.specs.declared.board.PartKind.TheVariants.{Described, Bypass}
use Rattle.board_defs.specs.declared.board.Part.{Part}
use Rattle.board_defs.specs.declared.board.PinAt.{PinAt}
use Rattle.board_defs.specs.declared.board.NetPin.{NetPin}
use Rattle.board_defs.specs.declared.board.Net.{Net}
use Rattle.board_defs.specs.declared.board.RawBoard.{RawBoard}
use Rattle.board_defs.specs.Pins.{receives_where}
use Rattle.board_defs.specs.Settings.{IsSafe}
use Rattle.tap_defs.specs.chain.ShiftRegister.{filled}
use Rattle.tap_defs.specs.chain.Chain.{ChainPart, pin_states}
use Rattle.tap_defs.specs.board.FaultSet.{no_faults}
use Rattle.tap_defs.specs.board.NetBits.{Place, place_of, place_in, or_next, read_entry, read_bit, read_at, live_where, feeding, captured_by}
use Rattle.board_defs.specs.Decided.{is_at}
use Rattle.board_defs.specs.DeviceRules.{reading_entry, is_receiving}
use Rattle.board_defs.proofs.SafeSettings.{is_at_some}
use Rattle.tap_defs.specs.chain.Run.{Choice, bit_passes}
use Rattle.tap_defs.specs.board.OnBoard.{board_wiring}
use Rattle.tap_defs.specs.chain.Scan.{ScanBit, joined}
use Rattle.tap_defs.specs.chain.Transport.{scan_passes}
use Rattle.tap_defs.specs.chain.ChainRegisters.{bits_at_pins}
use Rattle.tap_defs.specs.board.TestRows.{TestRow, observing_driver, row_bit, expect_bit, expect_entry, expect_pin, expect_place, expect_observed, only_if}
use Rattle.tap_defs.specs.board.BoardScans.{RowScan, part_bits, row_bits}
use Rattle.std.proofs.lemmas.Bool.{both_ways, eq-eqb}
use Rattle.tap_defs.specs.board.RowCaptures.{register_of, registers}
use Rattle.tap_defs.proofs.board.InTestLemmas.{InTest, shifted_row}
use Rattle.tap_defs.proofs.chain.ScanLemmas.{parts_pass}
use Rattle.tap_defs.proofs.board.RowScanLemmas.{bits_fit, captured_fits}
use Rattle.tap_defs.proofs.board.WrongLemmas.{registers_at, bits_at}
use Rattle.tap_defs.proofs.board.FeedingLemmas.{NetRules, dead_at, carries, good_bit}

all_cells : (n : ℕ) (f : ℕ → ScanBit) (g : ℕ → Bool) → ((c : ℕ) → c < n → bit_passes (f c).expect (g c) ≡ true) →
    scan_passes (filled n f) (filled n g) ≡ true
all_cells zero f g q = refl
all_cells (suc n) f g q =
    ap (λ (b : Bool). b && scan_passes (filled n (λ k. f (suc k))) (filled n (λ k. g (suc k)))) (q 0 (omega arith))
    ∙ all_cells n (λ k. f (suc k)) (λ k. g (suc k)) (λ c h. q (suc c) (omega arith))

-- `p` is a place of the pin at port bit `at` in `nets`: the number of a net, the net, and the index of the
-- pin in the net. The first net of `nets` has number `m`.
pub record Stands (board : RawBoard) (at : PinAt) (p : Place) (m : ℕ) (nets : List Net) : Type 0 where
  pub index : ℕ
  pub number_is : p.number ≡ m + index
  pub net_is : slice_get nets index ≡ Some p.net
  pub pin : NetPin
  pub pin_is : slice_get p.net.pins p.place ≡ Some pin
  pub at_is : pin.at ≡ Some at

in_net : (at : PinAt) (m i : ℕ) (ps : List NetPin) → place_in at m ps ≡ Some i →
    (x : ℕ) × (q : NetPin) × (i ≡ m + x) × (slice_get ps x ≡ Some q) × (q.at ≡ Some at)
in_net at m i [] e = cc e
in_net at m i (p ∷ ps) e = go (in_net at (suc m) i ps) (is_at at p.at) refl e
  where
    go : (place_in at (suc m) ps ≡ Some i → (x : ℕ) × (q : NetPin) × (i ≡ suc m + x) × (slice_get ps x ≡ Some q) × (q.at ≡ Some at)) →
        (b : Bool) → is_at at p.at ≡ b → cond b (Some m) (place_in at (suc m) ps) ≡ Some i →
        (x : ℕ) × (q : NetPin) × (i ≡ m + x) × (slice_get (p ∷ ps) x ≡ Some q) × (q.at ≡ Some at)
    go ih true q h = let z : m ≡ i = cc h in (0, p, omega (arith, z), refl, is_at_some at p.at q)
    go ih false q h = let r = ih h in (suc r.0, r.1, omega (arith, r.2), r.3, r.4)

pub stands_at : (board : RawBoard) (at : PinAt) (p : Place) (m : ℕ) (nets : List Net) → place_of at m nets ≡ Some p →
    Stands board at p m nets
stands_at board at p m [] e = cc e
stands_at board at p m (net ∷ nets) e = go (stands_at board at p (suc m) nets) (place_in at 0 net.pins) refl e
  where
    go : (place_of at (suc m) nets ≡ Some p → Stands board at p (suc m) nets) → (o : Option ℕ) → place_in at 0 net.pins ≡ o →
        or_next m net o (place_of at (suc m) nets) ≡ Some p → Stands board at p m (net ∷ nets)
    go ih None q h =
        let r = ih h in
        record {
          index = suc r.index;
          number_is = omega (arith, r.number_is);
          net_is = r.net_is;
          pin =
              r.pin;
          pin_is = r.pin_is;
          at_is = r.at_is;
        }
    go ih (Some i) q h =
        let r = in_net at 0 i net.pins q in
        let z : r.0 ≡ i = omega (arith, r.2) in
        let there : Place = record { number = m; net = net; place = i } in
        let same : there ≡ p = cc h in
        subst (λ (x : Place). Stands board at x m (net ∷ nets)) same
        (record {
          index = 0;
          number_is = omega arith;
          net_is = refl;
          pin = r.1;
          pin_is = subst
              (λ (x : ℕ). slice_get net.pins x ≡ Some r.1) z r.3;
          at_is = r.4;
        })

self_same : (b : Bool) → bit_passes (Some b) b ≡ true
self_same true = refl
self_same false = refl

module _ (board : RawBoard) (row : TestRow) (safe : IsSafe board row.setting)
    (rules : (n : ℕ) (net : Net) → slice_get board.nets n ≡ Some net → NetRules board n net)
    (before : TestRow) (free : Choice) (chain : List ChainPart)
    (h : InTest board (shifted_row board (record { now = row; before = before })) chain) (k : ℕ) (w : Bool) where
  at_place : (at : PinAt) (p : Place) (v : Bool) → row.carried p.number ≡ Some v → place_of at 0 board.nets ≡ Some p → (d : ℕ) →
      observing_driver board row.setting p.net ≡ Some d → (d == p.place) ≡ false →
      (live_where board (pin_states chain) (Some at) ≡ false) × (read_at board no_faults (pin_states chain) free.shorts w (Some p) ≡ v)
  at_place at p v carried e d observing other =
      let s = stands_at board at p 0 board.nets e in
      let z : s.index ≡ p.number = omega (arith, s.number_is) in
      let net_at : slice_get board.nets p.number ≡ Some p.net = subst (λ (x : ℕ). slice_get board.nets x ≡ Some p.net) z s.net_is in
      let r = rules p.number p.net net_at in
      let ne : p.place ≢ d = λ q. both_ways (d == p.place) other (ap (λ (x : ℕ). d == x) q ∙ eq-eqb d d refl) in (
        sym (ap (λ (o : Option PinAt). live_where board (pin_states chain) o) s.at_is)
            ∙ dead_at board row safe p.number p.net r d observing before chain h p.place s.pin
            s.pin_is ne,
        ap (λ (o : Option Bool). unwrap_or o w)
            (good_bit d p.number p.net.pull v (feeding board (pin_states chain) p.net)
            (carries board row safe p.number p.net r d observing before chain h v carried)),
      )

  by_carried : (at : PinAt) (p : Place) → place_of at 0 board.nets ≡ Some p → (d : ℕ) → observing_driver board row.setting p.net ≡ Some d →
      (d == p.place) ≡ false → (o : Option Bool) → row.carried p.number ≡ o →
      bit_passes o
      (cond (true && not (live_where board (pin_states chain) (Some at)))
      (read_at board no_faults (pin_states chain) free.shorts w (Some p)) w) ≡ true
  by_carried at p e d observing q None c = refl
  by_carried at p e d observing q (Some v) c =
      let r = at_place at p v c e d observing q in
      ap (λ (b : Bool). bit_passes (Some v) (cond (not b) (read_at board no_faults (pin_states chain) free.shorts w (Some p)) w)) r.0
      ∙ ap (λ (b : Bool). bit_passes (Some v) b) r.1
      ∙ self_same v

  by_same : (at : PinAt) (p : Place) → place_of at 0 board.nets ≡ Some p → (d : ℕ) → observing_driver board row.setting p.net ≡ Some d →
      (b : Bool) → (d == p.place) ≡ b →
      bit_passes (only_if (not b) (row.carried p.number))
      (cond (true && not (live_where board (pin_states chain) (Some at)))
      (read_at board no_faults (pin_states chain) free.shorts w (Some p)) w) ≡ true
  by_same at p e d observing true q = refl
  by_same at p e d observing false q = by_carried at p e d observing q (row.carried p.number) refl

  by_driver : (at : PinAt) (p : Place) → place_of at 0 board.nets ≡ Some p → (o : Option ℕ) →
      observing_driver board row.setting p.net ≡ o →
      bit_passes (expect_observed (row.carried p.number) p.place o)
      (cond (true && not (live_where board (pin_states chain) (Some at)))
      (read_at board no_faults (pin_states chain) free.shorts w (Some p)) w) ≡ true
  by_driver at p e None q = refl
  by_driver at p e (Some d) q = by_same at p e d q (d == p.place) refl

  by_place : (at : PinAt) (o : Option Place) → place_of at 0 board.nets ≡ o →
      bit_passes (expect_place board row o)
      (cond (true && not (live_where board (pin_states chain) (Some at)))
      (read_at board no_faults (pin_states chain) free.shorts w o) w) ≡ true
  by_place at None e = refl
  by_place at (Some p) e = by_driver at p e (observing_driver board row.setting p.net) refl

  by_receives : (at : PinAt) (b : Bool) →
      bit_passes (cond b (expect_place board row (place_of at 0 board.nets)) None)
      (cond (b && not (live_where board (pin_states chain) (Some at)))
      (read_at board no_faults (pin_states chain) free.shorts w (place_of at 0 board.nets))
      w) ≡ true
  by_receives at true = by_place at (place_of at 0 board.nets) refl
  by_receives at false = refl

  by_pin : (o : Option ℕ) → bit_passes (expect_pin board row k o) (read_bit board no_faults (pin_states chain) free.shorts w k o) ≡ true
  by_pin None = refl
  by_pin (Some b) = by_receives (record { part = k; bit = b }) (receives_where board (Some (record { part = k; bit = b })))

  by_role : (e : Cell) (b : Bool) →
      bit_passes (cond b (expect_pin board row k e.bit) None)
      (cond b (read_bit board no_faults (pin_states chain) free.shorts w k e.bit) w) ≡ true
  by_role e true = by_pin e.bit
  by_role e false = refl

  pub good_cell : (o : Option Cell) →
      bit_passes (expect_entry board row k o) (read_entry board no_faults (pin_states chain) free.shorts w k o) ≡ true
  good_cell None = refl
  good_cell (Some e) = by_role e (is_receiving e.role)

none_there : (pins : ℕ → List Bool) (ps : List Part) (k : ℕ) → slice_get ps k ≡ None → slice_get (registers pins ps) k ≡ None
none_there pins [] k e = refl
none_there pins (p ∷ ps) zero e = cc e
none_there pins (p ∷ ps) (suc k) e = none_there (λ j. pins (suc j)) ps k e

pub good_scan : (board : RawBoard) (row : TestRow) → IsSafe board row.setting →
    ((n : ℕ) (net : Net) → slice_get board.nets n ≡ Some net → NetRules board n net) →
    (now before : TestRow) (free : Choice) (chain : List ChainPart) →
    InTest board (shifted_row board (record { now = row; before = before })) chain →
    scan_passes (joined (row_bits board (record { now = now; before = row })))
    (joined (registers (bits_at_pins (board_wiring board no_faults) free chain) board.chain))
    ≡ true
good_scan board row safe rules now before free chain h =
    parts_pass (row_bits board t) (registers pins board.chain)
    (bits_fit board t 0 board.chain pins (captured_fits board no_faults free chain))
    (λ k b r eb er. by_part k (slice_get board.chain k) refl b r eb er)
  where
    t : RowScan
    t = record { now = now; before = row }

    pins : ℕ → List Bool
    pins = bits_at_pins (board_wiring board no_faults) free chain

    by_kind : (k : ℕ) (part : Part) → slice_get board.chain k ≡ Some part → (kind : PartKind) → part.kind ≡ kind →
        scan_passes (part_bits board t k kind) (register_of kind (pins k)) ≡ true
    by_kind k part e (Bypass n) q = refl
    by_kind k part e (Described device) q =
        let cells : ℕ
        → Bool = λ x. read_entry board no_faults (pin_states chain) free.shorts
        ((free.parts k).cells x) k (reading_entry device x) in
        let pin_bits : pins k ≡ filled device.boundary cells =
        ap
        (λ (o : Option Part). unwrap_or
        (option_map
        (λ p. captured_by board no_faults (pin_states chain) free.shorts
        (free.parts k).cells k p.kind) o) []) e
        ∙ ap (λ (kind : PartKind). captured_by board no_faults (pin_states chain) free.shorts (free.parts k).cells k kind) q in
        ap (λ (r : List Bool). scan_passes (part_bits board t k (Described device)) r) pin_bits
        ∙ all_cells device.boundary (λ x. record { tdi = row_bit board now k device x; expect = expect_bit board row k device x }) cells
        (λ c below. good_cell board row safe rules before free chain h k ((free.parts k).cells c) (reading_entry device c))

    by_part : (k : ℕ) (o : Option Part) → slice_get board.chain k ≡ o → (b : List ScanBit) (r : List Bool) →
        slice_get (row_bits board t) k ≡ Some b → slice_get (registers pins board.chain) k ≡ Some r → scan_passes b r ≡ true
    by_part k None e b r eb er =
        let x : ◌≡◌ {A = Option (List Bool)} None (Some r) = sym (none_there pins board.chain k e) ∙ er in cc x
    by_part k (Some part) e b r eb er =
        let z : 0 + k ≡ k = omega arith in
        let b_is : Some b
        ≡ Some (part_bits board t k part.kind) = sym eb ∙ bits_at board t 0 board.chain k part e
        ∙ ap (λ (i : ℕ). Some (part_bits board t i part.kind)) z in
        let r_is : Some r ≡ Some (register_of part.kind (pins k)) = sym er ∙ registers_at pins board.chain k part e in
        let b1 : b ≡ part_bits board t k part.kind = cc b_is in
        let r1 : r ≡ register_of part.kind (pins k) = cc r_is in
        ap (λ (x : List ScanBit). scan_passes x r) b1
        ∙ ap (λ (x : List Bool). scan_passes (part_bits board t k part.kind) x) r1
        ∙ by_kind k part e part.kind refl
