-- Lemmas about the positions of cells in a data scan, and about the loops that collect the cells of pins.
use Rattle.std.proofs.Common.{◌≡◌, ℕ, zero, suc, ◌+◌, ◌<◌, ◌≤◌, List, [], ◌∷◌, ◌++◌, length, take, drop, get_or, Option, Some, None, refl, sym, ap, ◌∙◌, arith, append_assoc}
use Rattle.std.specs.Prelude.{option_and_then, slice_get, sum_by}
use Rattle.std.proofs.lemmas.List.{append-nil, take_more, length-take-le}
use Rattle.std.proofs.lemmas.List.Sums.{sum_by-cons}
use Rattle.board_defs.specs.declared.device.Cell.{Cell}
use Rattle.board_defs.specs.declared.device.RawDevice.{RawDevice}
use Rattle.board_defs.specs.declared.board.PartKind.{PartKind}
use Rattle.board_defs.specs.declared.board.PartKind.TheVariants.{Described, Bypass}
use Rattle.board_defs.specs.declared.board.Part.{Part}
use Rattle.board_defs.specs.declared.board.PinAt.{PinAt}
use Rattle.board_defs.specs.declared.board.RawBoard.{RawBoard}
use Rattle.board_defs.specs.BoardRules.{IsBoard}
use Rattle.board_defs.specs.DeviceRules.{driving_entry, drives_bit}
use Rattle.board_defs.specs.Pins.{described, device_at, cell_count, entry_at, data_bits, data_length}
use Rattle.board_defs.proofs.BoardLemmas.{device_rules}
use Rattle.board_defs.proofs.Members.{find_has, has_from_all}
use Rattle.net_pins.specs.Positions.{first_position, AreFirsts}
use Rattle.net_pins.specs.NetCells.{gathered}

abbrev bits_of : List Part → ℕ
bits_of parts = sum_by (λ p. data_length p.kind) parts

cell_of_kind : (kind : PartKind) (cell : ℕ) → cell < cell_count (described kind) → cell < data_length kind
cell_of_kind (Described device) cell less = less
cell_of_kind (Bypass n) cell less = absurd (omega (arith, less))

cell_in : (parts : List Part) (part cell : ℕ) → cell < cell_count (option_and_then (λ p. described p.kind) (slice_get parts part)) →
    (part < length parts) × (bits_of (drop (suc part) parts) + cell < bits_of parts)
cell_in [] part cell less = absurd (omega (arith, less))
cell_in (p ∷ parts) zero cell less = (
  omega arith,
  omega (
    arith,
    cell_of_kind p.kind cell less,
    sum_by-cons (λ (q : Part). data_length q.kind) p parts,
  ),
)
cell_in (p ∷ parts) (suc part) cell less =
    let later = cell_in parts part cell less in
    (omega (arith, later.0), omega (arith, later.1, sum_by-cons (λ (q : Part). data_length q.kind) p parts))

pub position_within : (board : RawBoard) (part cell : ℕ) → cell < cell_count (device_at board part)
    → first_position board part + cell < data_bits board
position_within board part cell less = (cell_in board.chain part cell less).1

pub position_below : (board : RawBoard) → IsBoard board → (part cell : ℕ)
    → cell < cell_count (device_at board part) → first_position board part + cell ≤ 65535
position_below board rules part cell less = omega (arith, position_within board part cell less, rules.data_most)

pub first_is : (board : RawBoard) (firsts : List ℕ) → AreFirsts board.chain firsts → (part cell : ℕ)
    → cell < cell_count (device_at board part) →
    (part < length firsts) × (get_or firsts part 0 ≡ first_position board part)
first_is board firsts are part cell less =
    let within : part < length board.chain = (cell_in board.chain part cell less).0 in
    let next : part + 1 ≡ suc part = omega arith in
    (omega (arith, within, are.count), are.each part within ∙ ap (λ (n : ℕ). bits_of (drop n board.chain)) next)

pub entry_below : (board : RawBoard) → IsBoard board → (at : PinAt) (cell : Cell)
    → entry_at board at ≡ Some cell → cell.num < cell_count (device_at board at.part)
entry_below board rules at cell e = by_device (device_at board at.part) refl e
  where
    by_device : (o : Option RawDevice) → device_at board at.part ≡ o
        → option_and_then (λ d. driving_entry d at.bit) o ≡ Some cell → cell.num < cell_count o
    by_device None d f = cc f
    by_device (Some device) d f =
        has_from_all (λ (c : Cell). c.num < device.boundary) device.cells cell
        (device_rules board at.part device rules d).cells_below
        (find_has (drives_bit at.bit) device.cells cell f).0

gathered-append : {X Y : Type 0} (f : ℕ → X → List Y) (k : ℕ) (xs : List X) (x : X) (n : ℕ)
    → n ≡ k + length xs → gathered f k (xs ++ x ∷ []) ≡ gathered f k xs ++ f n x
gathered-append f k [] x n e = let z : k ≡ n = omega (arith, e) in append-nil (f k x) ∙ ap (λ (m : ℕ). f m x) z
gathered-append f k (y ∷ xs) x n e =
    ap (λ l. f k y ++ l) (gathered-append f (suc k) xs x n (omega (arith, e))) ∙ sym (append_assoc (f k y) (gathered f (suc k) xs) (f n x))

pub gathered-more : {X Y : Type 0} (f : ℕ → X → List Y) (xs : List X) (i : ℕ) (d : X)
    → i < length xs
    → gathered f 0 (take (i + 1) xs) ≡ gathered f 0 (take i xs) ++ f i (get_or xs i d)
gathered-more {X} {Y} f xs i d less =
    ap (λ (l : List X). gathered f 0 l) (take_more xs i d less)
    ∙ gathered-append f 0 (take i xs) (get_or xs i d) i
    (omega (arith, length-take-le i xs (omega (arith, less))))
