-- The table has the entries of each port bit, and the facts about pins that follow from the table are true of the board.
use Rattle.std.proofs.Common.{◌≡◌, ℕ, suc, ◌<◌, ◌≤◌, ◌==◌, Bool, true, false, not, cond, ◌&&◌, ◌||◌, List, [], ◌∷◌, ◌++◌, length, get_or, replicate, Option, Some, None, unwrap_or, refl, sym, ap, ◌∙◌, arith, append_assoc, ◌⊎◌, inl, inr}
use Rattle.std.specs.Prelude.{slice_get, option_and_then, option_map, find, All}
use Rattle.std.specs.List.{list_any}
use Rattle.std.proofs.lemmas.Bool.{cases_lt, ne_eqb}
use Rattle.std.proofs.lemmas.Option.{slice_get-map, unwrap_or-slice_get}
use Rattle.std.proofs.lemmas.List.{append-nil, get_or-replicate, length-replicate, get_or_past}
use Rattle.board_defs.specs.declared.device.Cell.{Cell}
use Rattle.board_defs.specs.declared.device.PortBit.{PortBit}
use Rattle.board_defs.specs.declared.device.RawDevice.{RawDevice}
use Rattle.board_defs.specs.declared.board.PartKind.{PartKind}
use Rattle.board_defs.specs.declared.board.PartKind.TheVariants.{Described, Bypass}
use Rattle.board_defs.specs.declared.board.Part.{Part}
use Rattle.board_defs.specs.declared.board.PinAt.{PinAt}
use Rattle.board_defs.specs.declared.board.NetPin.{NetPin}
use Rattle.board_defs.specs.declared.board.RawBoard.{RawBoard}
use Rattle.board_defs.specs.BoardRules.{IsBoard, IsPart}
use Rattle.board_defs.specs.DeviceRules.{is_on, is_driving, is_receiving, is_linkage, may_drive, may_receive, drives_bit, HasPlace}
use Rattle.board_defs.specs.Pins.{described, device_at, bit_at, entry_at, is_test_pin, is_dark, is_dark_bit, is_dark_in, is_dark_where, guards, receives_bit, receives_in}
use Rattle.board_defs.proofs.Places.{all_stands}
use Rattle.board_defs.proofs.CellLemmas.{off_past}
use Rattle.lists.specs.Rows.{noted}
use Rattle.lists.proofs.RowLemmas.{length-noted, noted_get}
use Rattle.port_entries.specs.Entries.{entries_on, entries_of, entries_at, AreEntries}
use Rattle.port_entries.specs.inner.Rows.{entries_noted, part_rows, entry_rows, dark_by, dark_where, dark_in, guards_in, receives_with}

length-all_noted : (cells : List Cell) (rows : List (List Cell)) → length (entries_noted rows cells) ≡ length rows
length-all_noted [] rows = refl
length-all_noted (cell ∷ cells) rows = length-all_noted cells (noted rows cell.bit cell) ∙ length-noted rows cell.bit cell

all_noted_get : (cells : List Cell) (rows : List (List Cell)) (k : ℕ) → k < length rows
    → get_or (entries_noted rows cells) k [] ≡ get_or rows k [] ++ entries_on cells k
all_noted_get [] rows k less = sym (append-nil (get_or rows k []))
all_noted_get (cell ∷ cells) rows k less =
    all_noted_get cells (noted rows cell.bit cell) k (omega (arith, less, length-noted rows cell.bit cell))
    ∙ ap (λ (l : List Cell). l ++ entries_on cells k) (noted_get rows cell.bit cell k less)
    ∙ append_assoc (get_or rows k []) (cond (is_on k cell.bit) (cell ∷ []) []) (entries_on cells k)
    ∙ ap (λ (l : List Cell). get_or rows k [] ++ l) (by_test (is_on k cell.bit))
  where
    by_test : (t : Bool) → cond t (cell ∷ []) [] ++ entries_on cells k ≡ cond t (cell ∷ entries_on cells k) (entries_on cells k)
    by_test true = refl
    by_test false = refl

none_there : (bits k : ℕ) (cells : List Cell) → All (λ entry. HasPlace bits entry.role entry.bit) cells → bits ≤ k → entries_on cells k ≡ []
none_there bits k [] places past = refl
none_there bits k (cell ∷ cells) places past =
    ap (λ (t : Bool). cond t (cell ∷ entries_on cells k) (entries_on cells k))
    (off_past bits k cell cell.bit (places 0 cell (omega arith)) past)
    ∙ none_there bits k cells (λ i d less. places (suc i) d (omega (arith, less))) past

row_is : (device : RawDevice) (k : ℕ) → All (λ entry. HasPlace (length device.bits) entry.role entry.bit) device.cells →
    get_or (part_rows (Some device)) k [] ≡ entries_on device.cells k
row_is device k places = by_there (cases_lt k (length device.bits))
  where
    by_there : (k < length device.bits) ⊎ (length device.bits ≤ k)
        → get_or (entries_noted (replicate (length device.bits) []) device.cells) k []
        ≡ entries_on device.cells k
    by_there (inl less) =
        all_noted_get device.cells (replicate (length device.bits) []) k
        (omega (arith, less, length-replicate {A = List Cell} (length device.bits) []))
        ∙ ap (λ (l : List Cell). l ++ entries_on device.cells k) (get_or-replicate {A = List Cell} (length device.bits) k [] [] less)
    by_there (inr past) =
        get_or_past (entries_noted (replicate (length device.bits) []) device.cells) k []
        (omega (
          arith,
          past,
          length-all_noted device.cells (replicate (length device.bits) []),
          length-replicate {A = List Cell} (length device.bits) [],
        ))
        ∙ sym (none_there (length device.bits) k device.cells places past)

pub are_entries : (board : RawBoard) → IsBoard board → AreEntries board (entry_rows board.chain)
are_entries board rules at =
    ap
    (λ (o : Option (List (List Cell))). unwrap_or
    (option_and_then (λ row. slice_get row at.bit) o) [])
    (slice_get-map (λ (part : Part). part_rows (described part.kind)) board.chain at.part)
    ∙ by_part (slice_get board.chain at.part) refl
  where
    by_kind : (kind : PartKind) → IsPart kind
        → unwrap_or (slice_get (part_rows (described kind)) at.bit) []
        ≡ entries_of (described kind) at.bit
    by_kind (Described device) is = unwrap_or-slice_get (part_rows (Some device)) at.bit [] ∙ row_is device at.bit is.places
    by_kind (Bypass n) is = refl

    by_part : (part : Option Part) → slice_get board.chain at.part ≡ part →
        unwrap_or (option_and_then (λ row. slice_get row at.bit) (option_map (λ (p : Part). part_rows (described p.kind)) part)) []
        ≡ entries_of (option_and_then (λ (p : Part). described p.kind) part) at.bit
    by_part None e = refl
    by_part (Some part) e = by_kind part.kind (all_stands (λ (p : Part). IsPart p.kind) board.chain at.part part e rules.parts)

find_on : (roles : Cell → Bool) (k : ℕ) (cells : List Cell)
    → find roles (entries_on cells k) ≡ find (λ cell. is_on k cell.bit && roles cell) cells
find_on roles k [] = refl
find_on roles k (cell ∷ cells) = by_test (is_on k cell.bit) (find_on roles k cells)
  where
    by_test : (t : Bool) → find roles (entries_on cells k) ≡ find (λ x. is_on k x.bit && roles x) cells →
        find roles (cond t (cell ∷ entries_on cells k) (entries_on cells k))
        ≡ cond (t && roles cell) (Some cell) (find (λ x. is_on k x.bit && roles x) cells)
    by_test true rest = ap (λ (o : Option Cell). cond (roles cell) (Some cell) o) rest
    by_test false rest = rest

any_on : (roles : Cell → Bool) (k : ℕ) (cells : List Cell)
    → list_any roles (entries_on cells k) ≡ list_any (λ cell. is_on k cell.bit && roles cell) cells
any_on roles k [] = refl
any_on roles k (cell ∷ cells) = by_test (is_on k cell.bit) (any_on roles k cells)
  where
    by_test : (t : Bool) → list_any roles (entries_on cells k) ≡ list_any (λ x. is_on k x.bit && roles x) cells →
        list_any roles (cond t (cell ∷ entries_on cells k) (entries_on cells k))
        ≡ ((t && roles cell) || list_any (λ x. is_on k x.bit && roles x) cells)
    by_test true rest = ap (λ (b : Bool). roles cell || b) rest
    by_test false rest = rest

none_on : (k : ℕ) (cells : List Cell) → (length (entries_on cells k) == 0) ≡ not (list_any (λ cell. is_on k cell.bit) cells)
none_on k [] = refl
none_on k (cell ∷ cells) = by_test (is_on k cell.bit) (none_on k cells)
  where
    by_test : (t : Bool) → (length (entries_on cells k) == 0) ≡ not (list_any (λ x. is_on k x.bit) cells) →
        (length (cond t (cell ∷ entries_on cells k) (entries_on cells k)) == 0) ≡ not (t || list_any (λ x. is_on k x.bit) cells)
    by_test true rest = ne_eqb (suc (length (entries_on cells k))) 0 (λ (e : suc (length (entries_on cells k)) ≡ 0). omega (arith, e))
    by_test false rest = rest

module _ (board : RawBoard) (rows : List (List (List Cell))) (are : AreEntries board rows) (at : PinAt) where
  pub driving_is : find (λ cell. is_driving cell.role) (entries_at rows at) ≡ entry_at board at
  driving_is = ap (λ (l : List Cell). find (λ cell. is_driving cell.role) l) (are at) ∙ by_device (device_at board at.part)
    where
      by_device : (o : Option RawDevice)
          → find (λ cell. is_driving cell.role) (entries_of o at.bit)
          ≡ option_and_then (λ device. find (drives_bit at.bit) device.cells) o
      by_device None = refl
      by_device (Some device) = find_on (λ cell. is_driving cell.role) at.bit device.cells

  pub dark_is : dark_by (bit_at board at) (entries_at rows at) ≡ is_dark_in (device_at board at.part) at.bit
  dark_is = ap (dark_by (bit_at board at)) (are at) ∙ by_device (device_at board at.part)
    where
      by_bit : (device : RawDevice) (o : Option PortBit) → dark_by o (entries_on device.cells at.bit) ≡ is_dark_bit device at.bit o
      by_bit device None = refl
      by_bit device (Some bit) =
          ap
          (λ (b : Bool). not bit.tap
          && (is_linkage bit.mode || b
          || (may_drive bit.mode
          && not
          (list_any (λ cell. is_driving cell.role)
          (entries_on device.cells at.bit))))) (none_on at.bit device.cells)
          ∙ ap
          (λ (b : Bool). not bit.tap
          && (is_linkage bit.mode
          || not (list_any (λ cell. is_on at.bit cell.bit) device.cells)
          || (may_drive bit.mode && not b)))
          (any_on (λ cell. is_driving cell.role) at.bit device.cells)

      by_device : (o : Option RawDevice)
          → dark_by (option_and_then (λ device. slice_get device.bits at.bit) o)
          (entries_of o at.bit) ≡ is_dark_in o at.bit
      by_device None = refl
      by_device (Some device) = by_bit device (slice_get device.bits at.bit)

  pub receives_is : receives_with (bit_at board at) (entries_at rows at) ≡ receives_in (device_at board at.part) at.bit
  receives_is = ap (receives_with (bit_at board at)) (are at) ∙ by_device (device_at board at.part)
    where
      by_bit : (device : RawDevice) (o : Option PortBit) → receives_with o (entries_on device.cells at.bit) ≡ receives_bit device at.bit o
      by_bit device None = refl
      by_bit device (Some bit) = ap (λ (b : Bool). may_receive bit.mode && b) (any_on (λ cell. is_receiving cell.role) at.bit device.cells)

      by_device : (o : Option RawDevice)
          → receives_with (option_and_then (λ device. slice_get device.bits at.bit) o)
          (entries_of o at.bit) ≡ receives_in o at.bit
      by_device None = refl
      by_device (Some device) = by_bit device (slice_get device.bits at.bit)

dark_in_is : (board : RawBoard) (rows : List (List (List Cell))) → AreEntries board rows
    → (pin : NetPin) → dark_in rows board pin ≡ is_dark board pin
dark_in_is board rows are pin = by_at pin.at
  where
    by_at : (o : Option PinAt) → dark_where rows board o pin.inert ≡ is_dark_where board o pin.inert
    by_at None = refl
    by_at (Some at) = dark_is board rows are at

any_same : (f g : NetPin → Bool) → ((pin : NetPin) → f pin ≡ g pin) → (pins : List NetPin) → list_any f pins ≡ list_any g pins
any_same f g h [] = refl
any_same f g h (pin ∷ pins) = ap (λ (b : Bool). b || list_any f pins) (h pin) ∙ ap (λ (b : Bool). g pin || b) (any_same f g h pins)

pub any_dark : (board : RawBoard) (rows : List (List (List Cell))) → AreEntries board rows
    → (pins : List NetPin) → list_any (dark_in rows board) pins ≡ list_any (is_dark board) pins
any_dark board rows are pins = any_same (dark_in rows board) (is_dark board) (dark_in_is board rows are) pins

pub any_guards : (board : RawBoard) (rows : List (List (List Cell))) → AreEntries board rows
    → (pins : List NetPin) → list_any (guards_in rows board) pins ≡ list_any (guards board) pins
any_guards board rows are pins =
    any_same (guards_in rows board) (guards board)
    (λ pin. ap (λ (b : Bool). is_test_pin board pin || b) (dark_in_is board rows are pin)) pins
