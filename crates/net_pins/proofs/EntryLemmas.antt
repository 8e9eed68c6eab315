-- Lemmas about the entries of a port bit. The INPUT, CLOCK and BIDIR entries give the compared cells of its pin. Each entry belongs to a
-- boundary cell of the bit's part.
use Rattle.std.proofs.Common.{◌≡◌, ℕ, ◌<◌, Bool, true, false, cond, ◌&&◌, ◌||◌, List, [], ◌∷◌, map, Option, Some, None, refl, ap, ◌∙◌, arith}
use Rattle.std.specs.Prelude.{slice_get, option_and_then, filter, All}
use Rattle.std.specs.List.{list_any}
use Rattle.std.proofs.lemmas.List.Elements.{All-filter}
use Rattle.board_defs.specs.declared.device.Cell.{Cell}
use Rattle.board_defs.specs.declared.device.PortBit.{PortBit}
use Rattle.board_defs.specs.declared.device.RawDevice.{RawDevice}
use Rattle.board_defs.specs.declared.board.PinAt.{PinAt}
use Rattle.board_defs.specs.declared.board.RawBoard.{RawBoard}
use Rattle.board_defs.specs.BoardRules.{IsBoard}
use Rattle.board_defs.specs.DeviceRules.{is_on, is_receiving, may_receive, reads_bit, IsDevice}
use Rattle.board_defs.specs.Pins.{device_at, bit_at, cell_count, receives_in, receives_bit}
use Rattle.board_defs.proofs.BoardLemmas.{device_rules}
use Rattle.port_entries.specs.Entries.{entries_on, entries_of}
use Rattle.net_pins.specs.NetCells.{reader_cell, readers_in, readers_at}
use Rattle.net_pins.specs.inner.Receiving.{receives_by}

filter_on : (roles : Cell → Bool) (k : ℕ) (cells : List Cell)
    → filter roles (entries_on cells k) ≡ filter (λ cell. is_on k cell.bit && roles cell) cells
filter_on roles k [] = refl
filter_on roles k (cell ∷ cells) = by_test (is_on k cell.bit) (filter_on roles k cells)
  where
    by_test : (t : Bool) → filter roles (entries_on cells k) ≡ filter (λ x. is_on k x.bit && roles x) cells →
        filter roles (cond t (cell ∷ entries_on cells k) (entries_on cells k))
        ≡ cond (t && roles cell) (cell ∷ filter (λ x. is_on k x.bit && roles x) cells) (filter (λ x. is_on k x.bit && roles x) cells)
    by_test true rest = ap (λ (l : List Cell). cond (roles cell) (cell ∷ l) l) rest
    by_test false rest = rest

module _ (board : RawBoard) (at : PinAt) where
  pub readers_is : (place : ℕ) →
      cond (receives_by (bit_at board at))
      (map (reader_cell board at.part place)
      (filter (λ cell. is_receiving cell.role)
      (entries_of (device_at board at.part) at.bit))) [] ≡ readers_at board place (Some at)
  readers_is place = by_device (device_at board at.part)
    where
      none_read : (cells : List Cell) → list_any (reads_bit at.bit) cells ≡ false
          → map (reader_cell board at.part place) (filter (reads_bit at.bit) cells) ≡ []
      none_read [] e = refl
      none_read (cell ∷ cells) e = by_test (reads_bit at.bit cell) (none_read cells) e
        where
          by_test : (t : Bool)
              → (list_any (reads_bit at.bit) cells ≡ false
              → map (reader_cell board at.part place) (filter (reads_bit at.bit) cells) ≡ []) →
              (t || list_any (reads_bit at.bit) cells) ≡ false →
              map (reader_cell board at.part place) (cond t (cell ∷ filter (reads_bit at.bit) cells) (filter (reads_bit at.bit) cells)) ≡ []
          by_test true rest k = cc k
          by_test false rest k = rest k

      by_any : (device : RawDevice) (m t : Bool) → list_any (reads_bit at.bit) device.cells ≡ t →
          cond m (map (reader_cell board at.part place) (filter (reads_bit at.bit) device.cells)) []
          ≡ cond (m && t)
          (map (reader_cell board at.part place) (filter (reads_bit at.bit) device.cells)) []
      by_any device true true e = refl
      by_any device true false e = none_read device.cells e
      by_any device false t e = refl

      by_bit : (device : RawDevice) (o : Option PortBit) →
          cond (receives_by o) (map (reader_cell board at.part place) (filter (reads_bit at.bit) device.cells)) []
          ≡ cond (receives_bit device at.bit o) (map (reader_cell board at.part place) (filter (reads_bit at.bit) device.cells)) []
      by_bit device None = refl
      by_bit device (Some bit) = by_any device (may_receive bit.mode) (list_any (reads_bit at.bit) device.cells) refl

      by_device : (o : Option RawDevice) →
          cond (receives_by (option_and_then (λ device. slice_get device.bits at.bit) o))
          (map (reader_cell board at.part place)
          (filter (λ cell. is_receiving cell.role) (entries_of o at.bit))) []
          ≡ cond (receives_in o at.bit) (readers_in board place at o) []
      by_device None = refl
      by_device (Some device) =
          ap
          (λ (l : List Cell). cond (receives_by (slice_get device.bits at.bit))
          (map (reader_cell board at.part place) l) [])
          (filter_on (λ cell. is_receiving cell.role) at.bit device.cells)
          ∙ by_bit device (slice_get device.bits at.bit)

  pub entries_below : IsBoard board
      → All (λ cell. cell.num < cell_count (device_at board at.part))
      (entries_of (device_at board at.part) at.bit)
  entries_below rules = by_device (device_at board at.part) refl
    where
      by_device : (o : Option RawDevice) → device_at board at.part ≡ o → All (λ cell. cell.num < cell_count o) (entries_of o at.bit)
      by_device None e = λ i d less. absurd (omega (arith, less))
      by_device (Some device) e =
          let is : IsDevice device = device_rules board at.part device rules e in
          All-filter (λ (cell : Cell). is_on at.bit cell.bit) (λ (cell : Cell). cell.num < device.boundary) device.cells is.cells_below
