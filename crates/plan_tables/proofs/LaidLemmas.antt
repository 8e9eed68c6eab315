-- Lemmas about data rows. A row has the bit of each boundary cell of each described part at the position of the cell.
use Rattle.std.proofs.Common.{◌≡◌, ℕ, zero, suc, ◌+◌, ◌-◌, ◌<◌, ◌≤◌, Bool, false, List, [], ◌∷◌, ◌++◌, length, map, drop, get_or, replicate, Option, Some, None, is_some, unwrap_or, refl, sym, ap, ◌∙◌, arith, length-append, ◌⊎◌, inl, inr}
use Rattle.std.specs.Prelude.{slice_get, option_and_then, sum_by}
use Rattle.std.proofs.lemmas.Bool.{cases_lt}
use Rattle.std.proofs.lemmas.List.{map-append, get_or_append_left, get_or-append-add, ext_get_or, get_or-replicate, length-replicate}
use Rattle.std.proofs.lemmas.List.Sums.{sum_by-cons}
use Rattle.board_defs.specs.declared.device.RawDevice.{RawDevice}
use Rattle.board_defs.specs.declared.board.PartKind.{PartKind}
use Rattle.board_defs.specs.declared.board.PartKind.TheVariants.{Described, Bypass}
use Rattle.board_defs.specs.declared.board.Part.{Part}
use Rattle.board_defs.specs.declared.board.RawBoard.{RawBoard}
use Rattle.board_defs.specs.Pins.{described, data_length, data_bits, device_at}
use Rattle.board_defs.proofs.Members.{Has}
use Rattle.tap_defs.specs.chain.ShiftRegister.{filled}
use Rattle.tap_defs.specs.chain.Scan.{ScanBit, joined, tdi_bits, tdo_bits, mask_bits}
use Rattle.tap_defs.specs.board.TestRows.{row_bit, expect_bit}
use Rattle.tap_defs.specs.board.BoardScans.{RowScan, part_bits, bits_by_part, row_bits}
use Rattle.tap_defs.proofs.chain.ListLemmas.{cons_path, length-filled, map-filled}
use Rattle.tap_defs.proofs.board.QuietLemmas.{device_of}
use Rattle.plan_tables.specs.Tables.{first_position}
use Rattle.plan_tables.specs.inner.Laid.{CellBits, part_laid, parts_laid, bits_of_parts}
use Rattle.plan_tables.specs.Assigned.{assigned}
use Rattle.plan_tables.proofs.AssignLemmas.{assigned_is}

map_laid : (f : ScanBit → Bool) → f (record { tdi = false; expect = None }) ≡ false
    → (board : RawBoard) (scan : RowScan) (part : ℕ) (parts : List Part) →
    map f (joined (bits_by_part board scan part parts))
    ≡ joined
    (parts_laid
    (λ part device cell. f
    (record {
      tdi = row_bit board scan.now part device cell;
      expect = expect_bit board
          scan.before part device cell;
    })) part parts)
map_laid f none board scan part [] = refl
map_laid f none board scan part (p ∷ parts) =
    let g : CellBits = λ part device cell. f
    (record {
      tdi = row_bit board scan.now part device cell;
      expect = expect_bit board scan.before
          part device cell;
    }) in
    map-append f (joined (bits_by_part board scan (suc part) parts)) (part_bits board scan part p.kind)
    ∙ ap (λ (l : List Bool). l ++ map f (part_bits board scan part p.kind)) (map_laid f none board scan (suc part) parts)
    ∙ ap (λ (l : List Bool). joined (parts_laid g (suc part) parts) ++ l) (by_kind p.kind)
  where
    by_kind : (kind : PartKind)
        → map f (part_bits board scan part kind)
        ≡ part_laid
        (λ part device cell. f
        (record {
          tdi = row_bit board scan.now part device cell;
          expect = expect_bit board
              scan.before part device cell;
        })) part kind
    by_kind (Described device) =
        map-filled f device.boundary
        (λ cell. record {
          tdi = row_bit board scan.now part device cell;
          expect = expect_bit board scan.before
              part device cell;
        })
    by_kind (Bypass n) = cons_path none refl

pub tdi_laid : (board : RawBoard) (scan : RowScan)
    → tdi_bits (joined (row_bits board scan))
    ≡ bits_of_parts (λ part device cell. row_bit board scan.now part device cell) board
tdi_laid board scan = map_laid (λ b. b.tdi) refl board scan 0 board.chain

pub tdo_laid : (board : RawBoard) (scan : RowScan)
    → tdo_bits (joined (row_bits board scan))
    ≡ bits_of_parts
    (λ part device cell. unwrap_or (expect_bit board scan.before part device cell) false) board
tdo_laid board scan = map_laid (λ b. unwrap_or b.expect false) refl board scan 0 board.chain

pub mask_laid : (board : RawBoard) (scan : RowScan)
    → mask_bits (joined (row_bits board scan))
    ≡ bits_of_parts (λ part device cell. is_some (expect_bit board scan.before part device cell))
    board
mask_laid board scan = map_laid (λ b. is_some b.expect) refl board scan 0 board.chain

abbrev bits_of : List Part → ℕ
bits_of parts = sum_by (λ p. data_length p.kind) parts

length-part_laid : (g : CellBits) (part : ℕ) (kind : PartKind) → length (part_laid g part kind) ≡ data_length kind
length-part_laid g part (Described device) = length-filled device.boundary (λ cell. g part device cell)
length-part_laid g part (Bypass n) = refl

length-parts_laid : (g : CellBits) (part : ℕ) (parts : List Part) → length (joined (parts_laid g part parts)) ≡ bits_of parts
length-parts_laid g part [] = refl
length-parts_laid g part (p ∷ parts) =
    length-append (joined (parts_laid g (suc part) parts)) (part_laid g part p.kind)
    ∙ omega (
      arith,
      length-parts_laid g (suc part) parts,
      length-part_laid g part p.kind,
      sum_by-cons (λ (q : Part). data_length q.kind) p parts,
    )

pub length-laid : (g : CellBits) (board : RawBoard) → length (bits_of_parts g board) ≡ data_bits board
length-laid g board = length-parts_laid g 0 board.chain

part_at : (g : CellBits) (k : ℕ) (parts : List Part) (n : ℕ) (p : Part) (device : RawDevice)
    (cell : ℕ) → slice_get parts n ≡ Some p → p.kind ≡ Described device → cell < device.boundary →
    (bits_of (drop (suc n) parts) + cell < bits_of parts)
    × (get_or (joined (parts_laid g k parts)) (bits_of (drop (suc n) parts) + cell) false
    ≡ g (k + n) device cell)
part_at g k [] n p device cell e kind below = cc e
part_at g k (q ∷ parts) zero p device cell e kind below =
    let same : q ≡ p = cc e in
    let is_kind : q.kind ≡ Described device = ap (λ (x : Part). x.kind) same ∙ kind in
    let long : data_length q.kind ≡ device.boundary = ap data_length is_kind in
    let rest : List Bool = joined (parts_laid g (suc k) parts) in
    let length_rest : length rest ≡ bits_of parts = length-parts_laid g (suc k) parts in
    let stays : k ≡ k + 0 = omega arith in (
      omega (arith, below, long, sum_by-cons (λ (x : Part). data_length x.kind) q parts),
      ap (λ (kind : PartKind). get_or (rest ++ part_laid g k kind) (bits_of parts + cell) false) is_kind
          ∙ sym (ap (λ (m : ℕ). get_or (rest ++ filled device.boundary (λ c. g k device c)) (m + cell) false) length_rest)
          ∙ get_or-append-add rest (filled device.boundary (λ c. g k device c)) cell false
          ∙ filled_get device.boundary (λ c. g k device c) cell below
          ∙ ap (λ (m : ℕ). g m device cell) stays,
    )
  where
    filled_get : (n : ℕ) (f : ℕ → Bool) (c : ℕ) → c < n → get_or (filled n f) c false ≡ f c
    filled_get zero f c h = absurd (omega (arith, h))
    filled_get (suc n) f zero h = refl
    filled_get (suc n) f (suc c) h = filled_get n (λ k. f (suc k)) c (omega (arith, h))
part_at g k (q ∷ parts) (suc n) p device cell e kind below =
    let rest : List Bool = joined (parts_laid g (suc k) parts) in
    let ih = part_at g (suc k) parts n p device cell e kind below in
    let at : ℕ = bits_of (drop (suc n) parts) + cell in
    let within : at < length rest = omega (arith, ih.0, length-parts_laid g (suc k) parts) in
    let moved : suc k + n ≡ k + suc n = omega arith in (
      omega (arith, ih.0, sum_by-cons (λ (x : Part). data_length x.kind) q parts),
      get_or_append_left rest (part_laid g k q.kind) false at within ∙ ih.1 ∙ ap (λ (m : ℕ). g m device cell) moved,
    )

pub laid_at : (g : CellBits) (board : RawBoard) (part : ℕ) (device : RawDevice) (cell : ℕ)
    → device_at board part ≡ Some device → cell < device.boundary →
    (first_position board part + cell < data_bits board)
    × (get_or (bits_of_parts g board) (first_position board part + cell) false
    ≡ g part device cell)
laid_at g board part device cell e below =
    let d = device_of board part device e in
    let r = part_at g 0 board.chain part d.part device cell d.at_k d.kind_is below in
    let z : 0 + part ≡ part = omega arith in
    (r.0, r.1 ∙ ap (λ (m : ℕ). g m device cell) z)

-- the site of a position: a cell of a described part, or the only bit of another part
data Site (parts : List Part) (k i : ℕ) : Type 0 where
  cell_site : (n : ℕ) (p : Part) (device : RawDevice) (cell : ℕ) → slice_get parts n ≡ Some p
      → p.kind ≡ Described device → cell < device.boundary →
      i ≡ bits_of (drop (suc n) parts) + cell → Site parts k i
  other_site : ((g : CellBits) → get_or (joined (parts_laid g k parts)) i false ≡ false) → Site parts k i

site_at : (parts : List Part) (k i : ℕ) → i < bits_of parts → Site parts k i
site_at [] k i less = absurd (omega (arith, less))
site_at (q ∷ parts) k i less = by_side (cases_lt i (bits_of parts)) (site_at parts (suc k) i)
  where
    rest : CellBits → List Bool
    rest g = joined (parts_laid g (suc k) parts)

    front : (i < bits_of parts) → Site parts (suc k) i → Site (q ∷ parts) k i
    front within (cell_site n p device cell e kind below at) = cell_site (suc n) p device cell e kind below at
    front within (other_site none) =
        other_site
        (λ g. get_or_append_left (rest g) (part_laid g k q.kind) false i
        (omega (arith, within, length-parts_laid g (suc k) parts)) ∙ none g)

    by_kind : (kind : PartKind) → q.kind ≡ kind → bits_of parts ≤ i → Site (q ∷ parts) k i
    by_kind (Described device) e past =
        let long : data_length q.kind ≡ device.boundary = ap data_length e in
        let below : i - bits_of parts
        < device.boundary = omega
        (arith, less, past, long, sum_by-cons (λ (x : Part). data_length x.kind) q parts) in
        let at : i ≡ bits_of parts + (i - bits_of parts) = omega (arith, past) in
        cell_site 0 q device (i - bits_of parts) refl e below at
    by_kind (Bypass n) e past =
        let long : data_length q.kind ≡ 1 = ap data_length e in
        let at : i ≡ bits_of parts + 0 = omega (arith, less, past, long, sum_by-cons (λ (x : Part). data_length x.kind) q parts) in
        other_site (λ g.
        ap (λ (m : ℕ). get_or (rest g ++ part_laid g k q.kind) m false)
        (at ∙ ap (λ (m : ℕ). m + 0) (sym (length-parts_laid g (suc k) parts)))
        ∙ get_or-append-add (rest g) (part_laid g k q.kind) 0 false
        ∙ ap (λ (kind : PartKind). get_or (part_laid g k kind) 0 false) e)

    by_side : (i < bits_of parts) ⊎ (bits_of parts ≤ i) → (i < bits_of parts → Site parts (suc k) i) → Site (q ∷ parts) k i
    by_side (inl within) ih = front within (ih within)
    by_side (inr past) ih = by_kind q.kind refl past

-- `cell` is a boundary cell of part `part`, which `device` describes
pub record CellOf (board : RawBoard) (part : ℕ) (device : RawDevice) (cell : ℕ) : Type 0 where
  pub is_device : device_at board part ≡ Some device
  pub below : cell < device.boundary

-- `place` is the position of some cell, and `bit` is the bit that `g` gives this cell
pub record Sets (board : RawBoard) (g : CellBits) (place : ℕ) (bit : Bool) : Type 0 where
  pub part : ℕ
  pub device : RawDevice
  pub cell : ℕ
  pub is_cell : CellOf board part device cell
  pub place_is : place ≡ first_position board part + cell
  pub bit_is : g part device cell ≡ bit

-- If each item sets a correct bit, and the items cover each cell whose bit differs, the result is the row of `h`.
pub assigned_laid : {X : Type 0} (place : X → ℕ) (bit : X → Bool) (xs : List X) (board : RawBoard) (g h : CellBits) →
    ((x : X) → Has xs x → Sets board h (place x) (bit x)) →
    ((part : ℕ) (device : RawDevice) (cell : ℕ) → CellOf board part device cell
    → (g part device cell ≡ h part device cell)
    ⊎ ((x : X) × Has xs x × (place x ≡ first_position board part + cell))) →
    assigned place bit (bits_of_parts g board) xs ≡ bits_of_parts h board
assigned_laid {X} place bit xs board g h right cover =
    assigned_is place bit xs (bits_of_parts g board) (bits_of_parts h board)
    (length-laid g board ∙ sym (length-laid h board)) sets
    (λ i less. by_site i (site_at board.chain 0 i (omega (arith, less, length-laid h board))))
  where
    sets : (x : X) → Has xs x → (place x < length (bits_of_parts h board)) × (get_or (bits_of_parts h board) (place x) false ≡ bit x)
    sets x has =
        let s = right x has in
        let r = laid_at h board s.part s.device s.cell s.is_cell.is_device s.is_cell.below in (
          omega (arith, r.0, length-laid h board, s.place_is),
          ap (λ (m : ℕ). get_or (bits_of_parts h board) m false) s.place_is ∙ r.1 ∙ s.bit_is,
        )

    at_cell : (i part : ℕ) (device : RawDevice) (cell : ℕ) → CellOf board part device cell → i ≡ first_position board part + cell →
        (g part device cell ≡ h part device cell) ⊎ ((x : X) × Has xs x × (place x ≡ first_position board part + cell)) →
        (get_or (bits_of_parts g board) i false ≡ get_or (bits_of_parts h board) i false) ⊎ ((x : X) × Has xs x × (place x ≡ i))
    at_cell i part device cell c at (inl same) =
        inl (ap (λ (m : ℕ). get_or (bits_of_parts g board) m false) at ∙ (laid_at g board part device cell c.is_device c.below).1 ∙ same
        ∙ sym (ap (λ (m : ℕ). get_or (bits_of_parts h board) m false) at ∙ (laid_at h board part device cell c.is_device c.below).1))
    at_cell i part device cell c at (inr (x, has, e)) = inr (x, has, e ∙ sym at)

    by_site : (i : ℕ) → Site board.chain 0 i
        → (get_or (bits_of_parts g board) i false ≡ get_or (bits_of_parts h board) i false)
        ⊎ ((x : X) × Has xs x × (place x ≡ i))
    by_site i (cell_site n p device cell e kind below at) =
        let is_device : device_at board n
        ≡ Some device = ap
        (λ (o : Option Part). option_and_then (λ (q : Part). described q.kind) o) e
        ∙ ap described kind in
        let c : CellOf board n device cell = record { is_device = is_device; below = below } in
        at_cell i n device cell c at (cover n device cell c)
    by_site i (other_site none) = inl (none g ∙ sym (none h))

pub laid_same : (board : RawBoard) (g h : CellBits)
    → ((part : ℕ) (device : RawDevice) (cell : ℕ) → g part device cell ≡ h part device cell)
    → bits_of_parts g board ≡ bits_of_parts h board
laid_same board g h same =
    assigned_laid {X = ℕ} (λ x. x) (λ x. false) [] board g h (λ x none. absurd none)
    (λ part device cell c. inl (same part device cell))

pub zeros_laid : (board : RawBoard) → replicate (data_bits board) false ≡ bits_of_parts (λ part device cell. false) board
zeros_laid board =
    ext_get_or false (replicate (data_bits board) false) (bits_of_parts g board)
    (length-replicate (data_bits board) false ∙ sym (length-laid g board))
    (λ i less. let within : i < data_bits board = omega (arith, less, length-replicate (data_bits board) false) in
    get_or-replicate (data_bits board) i false false within ∙ sym (zero_at i (site_at board.chain 0 i within)))
  where
    g : CellBits
    g = λ part device cell. false

    zero_at : (i : ℕ) → Site board.chain 0 i → get_or (bits_of_parts (λ part device cell. false) board) i false ≡ false
    zero_at i (cell_site n p device cell e kind below at) =
        ap (λ (m : ℕ). get_or (bits_of_parts (λ part device cell. false) board) m false) at
        ∙ (part_at (λ part device cell. false) 0 board.chain n p device cell e kind below).1
    zero_at i (other_site none) = none (λ part device cell. false)
