-- The position of each cell in a data scan. Two lists of captured bits agree wherever the scan compares a bit if and
-- only if they agree at each compared cell.
use Rattle.std.proofs.Common.{◌≡◌, ℕ, zero, suc, ◌+◌, ◌<◌, ◌≤◌, ◌-◌, Bool, true, false, cond, List, [], ◌∷◌, length, drop, Option, Some, None, refl, sym, ◌∙◌, ap, subst, arith, length-append, ltb-true, ltb-false}
use Rattle.std.specs.Prelude.{slice_get, nat_lt, option_map, option_and_then, unwrap_or}
use Rattle.std.specs.List.{sum_by}
use Rattle.std.proofs.lemmas.List.Sums.{sum_by-cons}
use Rattle.std.proofs.lemmas.Option.{slice_get_within}
use Rattle.board_defs.specs.declared.device.Cell.{Cell}
use Rattle.board_defs.specs.declared.device.RawDevice.{RawDevice}
use Rattle.board_defs.specs.declared.board.PartKind.{PartKind}
use Rattle.board_defs.specs.declared.board.PartKind.TheVariants.{Described, Bypass as WithoutDescription}
use Rattle.board_defs.specs.declared.board.Part.{Part}
use Rattle.board_defs.specs.declared.board.RawBoard.{RawBoard}
use Rattle.board_defs.specs.DeviceRules.{is_receiving, reading_entry}
use Rattle.board_defs.specs.Pins.{described, device_at, data_length, data_bits, receives_where}
use Rattle.tap_defs.specs.chain.ShiftRegister.{filled}
use Rattle.tap_defs.specs.chain.Part.{PinState}
use Rattle.tap_defs.specs.chain.Run.{Choice}
use Rattle.tap_defs.specs.chain.Scan.{ScanBit, joined}
use Rattle.tap_defs.specs.board.FaultSet.{FaultSet}
use Rattle.tap_defs.specs.board.NetBits.{Place, place_of, read_entry, captured_by}
use Rattle.tap_defs.specs.board.OnBoard.{board_wiring}
use Rattle.tap_defs.specs.board.TestRows.{TestRow, row_bit, expect_place, expect_pin, expect_entry, expect_bit}
use Rattle.tap_defs.specs.board.BoardScans.{RowScan, part_bits, bits_by_part, row_bits}
use Rattle.tap_defs.specs.board.RowCaptures.{register_of, registers, row_states, row_captured, AgreeAt, AgreeWhereCompared}
use Rattle.tap_defs.specs.board.Explaining.{cell_position, read_place, IsCompared}
use Rattle.tap_defs.proofs.chain.ListLemmas.{cons_path, length-filled}
use Rattle.tap_defs.proofs.chain.ScanLemmas.{filled_at}
use Rattle.tap_defs.proofs.board.ScanPlaceLemmas.{front_at, rest_at}
use Rattle.tap_defs.proofs.board.QuietLemmas.{device_of}

filled_inv : {A : Type 0} (n : ℕ) (g : ℕ → A) (j : ℕ) (a : A) → slice_get (filled n g) j ≡ Some a → (j < n) × (g j ≡ a)
filled_inv zero g j a e = cc e
filled_inv (suc n) g zero a e = (omega arith, cc e)
filled_inv (suc n) g (suc j) a e = let r = filled_inv n (λ k. g (suc k)) j a e in (omega (arith, r.0), r.1)

-- Values in the order of a data scan: `f` gives the value of each boundary cell of a described part, and `z` is the
-- value of any other part.
module _ {A : Type 0} (f : ℕ → RawDevice → ℕ → A) (z : A) where
  abbrev pub part_laid : ℕ → PartKind → List A
  part_laid k (Described device) = filled device.boundary (λ cell. f k device cell)
  part_laid k (WithoutDescription n) = z ∷ []

  abbrev pub laid : ℕ → List Part → List (List A)
  laid k [] = []
  laid k (p ∷ ps) = part_laid k p.kind ∷ laid (suc k) ps

  abbrev bits_of : List Part → ℕ
  bits_of ps = sum_by (λ p. data_length p.kind) ps

  length-laid : (k : ℕ) (ps : List Part) → length (joined (laid k ps)) ≡ bits_of ps
  length-laid k [] = refl
  length-laid k (p ∷ ps) =
      length-append (joined (laid (suc k) ps)) (part_laid k p.kind)
      ∙ omega (arith, length-laid (suc k) ps, one p.kind, sum_by-cons (λ (q : Part). data_length q.kind) p ps)
    where
      one : (kind : PartKind) → length (part_laid k kind) ≡ data_length kind
      one (Described device) = length-filled device.boundary _
      one (WithoutDescription n) = refl

  laid_at : (k : ℕ) (ps : List Part) (n : ℕ) (p : Part) (device : RawDevice) (cell : ℕ)
      → slice_get ps n ≡ Some p → p.kind ≡ Described device → cell < device.boundary →
      slice_get (joined (laid k ps)) (bits_of (drop (suc n) ps) + cell) ≡ Some (f (k + n) device cell)
  laid_at k [] n p device cell e d below = cc e
  laid_at k (q ∷ ps) zero p device cell e d below =
      let same : q ≡ p = cc e in
      let is_kind : q.kind ≡ Described device = ap (λ (x : Part). x.kind) same ∙ d in
      let stays : k ≡ k + 0 = omega arith in
      rest_at (joined (laid (suc k) ps)) (part_laid k q.kind) cell (bits_of ps + cell) (omega (arith, length-laid (suc k) ps))
      ∙ ap (λ (kind : PartKind). slice_get (part_laid k kind) cell) is_kind
      ∙ filled_at device.boundary (λ c. f k device c) cell below
      ∙ ap (λ (m : ℕ). Some (f m device cell)) stays
  laid_at k (q ∷ ps) (suc n) p device cell e d below =
      let ih = laid_at (suc k) ps n p device cell e d below in
      let at : ℕ = bits_of (drop (suc n) ps) + cell in
      let moved : suc k + n ≡ k + suc n = omega arith in
      front_at (joined (laid (suc k) ps)) (part_laid k q.kind) at
      (slice_get_within (joined (laid (suc k) ps)) at (f (suc k + n) device cell) ih)
      ∙ ih ∙ ap (λ (m : ℕ). Some (f m device cell)) moved

  -- Position `i` belongs to a cell of a described part or to a part without a description, and `a` is the
  -- value there.
  pub data Site (k : ℕ) (ps : List Part) (i : ℕ) (a : A) : Type 0 where
    cell_site : (n : ℕ) (p : Part) (device : RawDevice) (cell : ℕ) → slice_get ps n ≡ Some p
        → p.kind ≡ Described device → cell < device.boundary →
        i ≡ bits_of (drop (suc n) ps) + cell → f (k + n) device cell ≡ a → Site k ps i a
    other_site : z ≡ a → Site k ps i a

  site_of : (k : ℕ) (ps : List Part) (i : ℕ) (a : A) → slice_get (joined (laid k ps)) i ≡ Some a → Site k ps i a
  site_of k [] i a e = cc e
  site_of k (q ∷ ps) i a e = by_order (site_of (suc k) ps i a) (nat_lt i (length (joined (laid (suc k) ps)))) refl
    where
      lifted : Site (suc k) ps i a → Site k (q ∷ ps) i a
      lifted (cell_site n p device cell en d below at is) =
          let moved : k + suc n ≡ suc k + n = omega arith in
          cell_site (suc n) p device cell en d below at (ap (λ (m : ℕ). f m device cell) moved ∙ is)
      lifted (other_site is) = other_site is

      by_kind : (j : ℕ) → i ≡ length (joined (laid (suc k) ps)) + j → (kind : PartKind)
          → q.kind ≡ kind → slice_get (part_laid k kind) j ≡ Some a → Site k (q ∷ ps) i a
      by_kind j at (Described device) d here =
          let r = filled_inv device.boundary (λ c. f k device c) j a here in
          let stays : k + 0 ≡ k = omega arith in
          cell_site 0 q device j refl d r.0 (omega (arith, at, length-laid (suc k) ps)) (ap (λ (m : ℕ). f m device j) stays ∙ r.1)
      by_kind zero at (WithoutDescription n) d here = let same : z ≡ a = cc here in other_site same
      by_kind (suc j) at (WithoutDescription n) d here = cc here

      by_order : (slice_get (joined (laid (suc k) ps)) i ≡ Some a → Site (suc k) ps i a)
          → (b : Bool) → nat_lt i (length (joined (laid (suc k) ps))) ≡ b → Site k (q ∷ ps) i a
      by_order ih true h =
          lifted
          (ih
          (sym
          (front_at (joined (laid (suc k) ps)) (part_laid k q.kind) i
          (ltb-true i (length (joined (laid (suc k) ps))) h)) ∙ e))
      by_order ih false h =
          let le : length (joined (laid (suc k) ps)) ≤ i = ltb-false i (length (joined (laid (suc k) ps))) h in
          let j : ℕ = i - length (joined (laid (suc k) ps)) in
          let at : i ≡ length (joined (laid (suc k) ps)) + j = omega (arith, le) in
          by_kind j at q.kind refl (sym (rest_at (joined (laid (suc k) ps)) (part_laid k q.kind) j i at) ∙ e)

-- the scan bit of a cell
abbrev pub scan_cell : RawBoard → RowScan → ℕ → RawDevice → ℕ → ScanBit
scan_cell board t part device cell =
    record {
      tdi = row_bit board t.now part device cell;
      expect = expect_bit board t.before part device
          cell;
    }

abbrev pub other_bit : ScanBit
other_bit = record { tdi = false; expect = None }

pub bits_laid : (board : RawBoard) (t : RowScan) (k : ℕ) (ps : List Part)
    → bits_by_part board t k ps ≡ laid (scan_cell board t) other_bit k ps
bits_laid board t k [] = refl
bits_laid board t k (p ∷ ps) = cons_path (one p.kind) (bits_laid board t (suc k) ps)
  where
    one : (kind : PartKind) → part_bits board t k kind ≡ part_laid (scan_cell board t) other_bit k kind
    one (Described device) = refl
    one (WithoutDescription n) = refl

-- the bit that a cell captures in these visible states
abbrev pub captured_cell : RawBoard → FaultSet → List PinState → Choice → ℕ → RawDevice → ℕ → Bool
captured_cell board faults states choice part device cell =
    read_entry board faults states choice.shorts ((choice.parts part).cells cell) part
    (reading_entry device cell)

registers_laid : (f : ℕ → RawDevice → ℕ → Bool) (pins : ℕ → List Bool) (k : ℕ) (ps : List Part) →
    ((j : ℕ) (p : Part) → slice_get ps j ≡ Some p
    → register_of p.kind (pins j) ≡ part_laid f false (k + j) p.kind)
    → registers pins ps ≡ laid f false k ps
registers_laid f pins k [] h = refl
registers_laid f pins k (p ∷ ps) h =
    let stays : k + 0 ≡ k = omega arith in
    cons_path (h 0 p refl ∙ ap (λ (m : ℕ). part_laid f false m p.kind) stays)
    (registers_laid f (λ j. pins (suc j)) (suc k) ps (λ j q e.
    let moved : k + suc j ≡ suc k + j = omega arith in
    h (suc j) q e ∙ ap (λ (m : ℕ). part_laid f false m q.kind) moved))

pub captured_laid : (board : RawBoard) (faults : FaultSet) (row : TestRow) (choice : Choice) →
    row_captured board faults row choice ≡ joined (laid (captured_cell board faults (row_states board row) choice) false 0 board.chain)
captured_laid board faults row choice =
    ap (λ (rs : List (List Bool)). joined rs)
    (registers_laid (captured_cell board faults states choice)
    (board_wiring board faults states choice) 0 board.chain each)
  where
    states : List PinState
    states = row_states board row

    by_kind : (j : ℕ) (kind : PartKind)
        → register_of kind
        (captured_by board faults states choice.shorts (choice.parts j).cells j kind)
        ≡ part_laid (captured_cell board faults states choice) false (0 + j) kind
    by_kind j (Described device) =
        let z : j ≡ 0 + j = omega arith in
        ap
        (λ (m : ℕ). part_laid (captured_cell board faults states choice) false m
        (Described device)) z
    by_kind j (WithoutDescription n) = refl

    each : (j : ℕ) (p : Part) → slice_get board.chain j ≡ Some p
        → register_of p.kind (board_wiring board faults states choice j)
        ≡ part_laid (captured_cell board faults states choice) false (0 + j) p.kind
    each j p e =
        ap
        (λ (o : Option Part). register_of p.kind
        (unwrap_or
        (option_map
        (λ q. captured_by board faults states choice.shorts (choice.parts j).cells j
        q.kind) o) [])) e
        ∙ by_kind j p.kind

pub agree_at : (bits : List ScanBit) (xs ys : List Bool) (i : ℕ) (b : ScanBit) (x y : Bool) → AgreeWhereCompared bits xs ys →
    slice_get bits i ≡ Some b → slice_get xs i ≡ Some x → slice_get ys i ≡ Some y → AgreeAt b.expect x y
agree_at [] xs ys i b x y h eb ex ey = cc eb
agree_at (a ∷ bits) [] ys i b x y h eb ex ey = cc ex
agree_at (a ∷ bits) (u ∷ xs) [] i b x y h eb ex ey = cc ey
agree_at (a ∷ bits) (u ∷ xs) (v ∷ ys) zero b x y h eb ex ey =
    let sa : a ≡ b = cc eb in
    let su : u ≡ x = cc ex in
    let sv : v ≡ y = cc ey in
    subst (λ (c : ScanBit). AgreeAt c.expect x y) sa
    (subst (λ (c : Bool). AgreeAt a.expect c y) su
    (subst (λ (c : Bool). AgreeAt a.expect u c) sv h.0))
agree_at (a ∷ bits) (u ∷ xs) (v ∷ ys) (suc i) b x y h eb ex ey = agree_at bits xs ys i b x y h.1 eb ex ey

pub agree_from : (bits : List ScanBit) (xs ys : List Bool) →
    ((i : ℕ) (b : ScanBit) (x y : Bool) → slice_get bits i ≡ Some b → slice_get xs i ≡ Some x
    → slice_get ys i ≡ Some y → AgreeAt b.expect x y) → AgreeWhereCompared bits xs ys
agree_from [] xs ys h = tt
agree_from (a ∷ bits) [] ys h = tt
agree_from (a ∷ bits) (u ∷ xs) [] h = tt
agree_from (a ∷ bits) (u ∷ xs) (v ∷ ys) h = (h 0 a u v refl refl refl, agree_from bits xs ys (λ i. h (suc i)))

-- A compared cell reads a pin that is on a net.
module _ (board : RawBoard) (row : TestRow) (part : ℕ) where
  place_by_bit : (o : Option ℕ) (v : Bool) → expect_pin board row part o ≡ Some v →
      (p : Place) × (option_and_then (λ b. place_of (record { part = part; bit = b }) 0 board.nets) o ≡ Some p)
  place_by_bit None v e = cc e
  place_by_bit (Some b) v e = by_receives (receives_where board (Some (record { part = part; bit = b }))) e
    where
      by_place : (o : Option Place) → expect_place board row o ≡ Some v → (p : Place) × (o ≡ Some p)
      by_place None h = cc h
      by_place (Some p) h = (p, refl)

      by_receives : (r : Bool) → cond r (expect_place board row (place_of (record { part = part; bit = b }) 0 board.nets)) None ≡ Some v →
          (p : Place) × (place_of (record { part = part; bit = b }) 0 board.nets ≡ Some p)
      by_receives true h = by_place (place_of (record { part = part; bit = b }) 0 board.nets) h
      by_receives false h = cc h

  place_by_entry : (o : Option Cell) (v : Bool) → expect_entry board row part o ≡ Some v →
      (p : Place)
      × (option_and_then
      (λ entry. option_and_then
      (λ b. place_of (record { part = part; bit = b }) 0 board.nets) entry.bit) o ≡ Some p)
  place_by_entry None v e = cc e
  place_by_entry (Some entry) v e = by_role (is_receiving entry.role) e
    where
      by_role : (r : Bool) → cond r (expect_pin board row part entry.bit) None ≡ Some v →
          (p : Place) × (option_and_then (λ b. place_of (record { part = part; bit = b }) 0 board.nets) entry.bit ≡ Some p)
      by_role true h = place_by_bit entry.bit v h
      by_role false h = cc h

  pub place_is : (device : RawDevice) (cell : ℕ) (v : Bool)
      → expect_bit board row part device cell ≡ Some v
      → (p : Place) × (read_place board part device cell ≡ Some p)
  place_is device cell v e = place_by_entry (reading_entry device cell) v e

-- The row `logged` agrees with the bits `f` of the cells wherever the scan compares if and only if it has the bit `f`
-- of each compared cell.
module _ (board : RawBoard) (t : RowScan) (f : ℕ → RawDevice → ℕ → Bool) (logged : List Bool) where
  abbrev bits : List ScanBit
  bits = joined (row_bits board t)

  abbrev given : List Bool
  given = joined (laid f false 0 board.chain)

  abbrev HasBits : Type 0
  HasBits =
      (part : ℕ) (device : RawDevice) (cell : ℕ) (place : Place) (expected : Bool)
      → IsCompared board t.before part device cell place expected →
      slice_get logged (cell_position board part cell) ≡ Some (f part device cell)

  cell_bit_at : (part : ℕ) (p : Part) (device : RawDevice) (cell : ℕ)
      → slice_get board.chain part ≡ Some p → p.kind ≡ Described device → cell < device.boundary →
      (slice_get bits (cell_position board part cell) ≡ Some (scan_cell board t part device cell))
      × (slice_get given (cell_position board part cell) ≡ Some (f part device cell))
  cell_bit_at part p device cell e d below =
      let z : 0 + part ≡ part = omega arith in (
        ap (λ (bs : List (List ScanBit)). slice_get (joined bs) (cell_position board part cell)) (bits_laid board t 0 board.chain)
            ∙ laid_at (scan_cell board t) other_bit 0 board.chain part p device cell e d below
            ∙ ap (λ (m : ℕ). Some (scan_cell board t m device cell)) z,
        laid_at f false 0 board.chain part p device cell e d below ∙ ap (λ (m : ℕ). Some (f m device cell)) z,
      )

  pub cells_of_agreement : length logged ≡ data_bits board → AgreeWhereCompared bits logged given → HasBits
  cells_of_agreement long h part device cell place expected c =
      let d = device_of board part device c.is_device in
      let b = cell_bit_at part d.part device cell d.at_k d.kind_is c.below in
      let i : ℕ = cell_position board part cell in
      let within : i
      < length logged = omega (
        arith,
        slice_get_within given i (f part device cell) b.1,
        length-laid f false 0 board.chain,
        long,
      ) in
      by_logged i within b (slice_get logged i) refl
    where
      by_logged : (i : ℕ) → i < length logged
          → (slice_get bits i ≡ Some (scan_cell board t part device cell))
          × (slice_get given i ≡ Some (f part device cell)) →
          (o : Option Bool) → slice_get logged i ≡ o → o ≡ Some (f part device cell)
      by_logged i within b None e = absurd (none_within logged i within e)
        where
          none_within : (xs : List Bool) (k : ℕ) → k < length xs → slice_get xs k ≡ None → ⊥
          none_within [] k below q = omega (arith, below)
          none_within (x ∷ xs) zero below q = cc q
          none_within (x ∷ xs) (suc k) below q = none_within xs k (omega (arith, below)) q
      by_logged i within b (Some x) e =
          let a : AgreeAt (expect_bit board t.before part device cell) x (f part device cell) =
          agree_at bits logged given i (scan_cell board t part device cell) x
          (f part device cell) h b.0 e b.1 in
          let same : x ≡ f part device cell = subst (λ (o : Option Bool). AgreeAt o x (f part device cell)) c.expects a in
          ap (λ (v : Bool). Some v) same

  pub agreement_of_cells : HasBits → AgreeWhereCompared bits logged given
  agreement_of_cells h = agree_from bits logged given each
    where
      by_site : (i : ℕ) (b : ScanBit) (x y v : Bool) → b.expect ≡ Some v → slice_get logged i ≡ Some x → slice_get given i ≡ Some y →
          Site (scan_cell board t) other_bit 0 board.chain i b → x ≡ y
      by_site i b x y v q ex ey (other_site same) =
          let n : ◌≡◌ {A = Option Bool} None (Some v) = ap (λ (s : ScanBit). s.expect) same ∙ q in
          cc n
      by_site i b x y v q ex ey (cell_site part p device cell e d below at is) =
          let z : 0 + part ≡ part = omega arith in
          let dev : device_at board part
          ≡ Some device = ap (λ (o : Option Part). option_and_then (λ s. described s.kind) o) e
          ∙ ap described d in
          let expects : expect_bit board t.before part device cell
          ≡ Some v = sym (ap (λ (m : ℕ). expect_bit board t.before m device cell) z)
          ∙ ap (λ (s : ScanBit). s.expect) is ∙ q in
          let place = place_is board t.before part device cell v expects in
          let has = h part device cell place.0 v (record { is_device = dev; below = below; reads = place.1; expects = expects }) in
          let mine : Some x ≡ Some (f part device cell) = sym ex ∙ ap (λ (k : ℕ). slice_get logged k) at ∙ has in
          let theirs : Some y
          ≡ Some (f part device cell) = sym ey ∙ ap (λ (k : ℕ). slice_get given k) at
          ∙ (cell_bit_at part p device cell e d below).1 in
          cc (mine ∙ sym theirs)

      by_expect : (i : ℕ) (b : ScanBit) (x y : Bool) → slice_get bits i ≡ Some b
          → slice_get logged i ≡ Some x → slice_get given i ≡ Some y →
          (o : Option Bool) → b.expect ≡ o → AgreeAt o x y
      by_expect i b x y eb ex ey None q = tt
      by_expect i b x y eb ex ey (Some v) q =
          by_site i b x y v q ex ey
          (site_of (scan_cell board t) other_bit 0 board.chain i b
          (sym
          (ap (λ (bs : List (List ScanBit)). slice_get (joined bs) i)
          (bits_laid board t 0 board.chain)) ∙ eb))

      each : (i : ℕ) (b : ScanBit) (x y : Bool) → slice_get bits i ≡ Some b
          → slice_get logged i ≡ Some x → slice_get given i ≡ Some y → AgreeAt b.expect x y
      each i b x y eb ex ey = by_expect i b x y eb ex ey b.expect refl
