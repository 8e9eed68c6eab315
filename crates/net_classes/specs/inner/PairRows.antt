-- Rows of bits that say which nets are paired. A net is covered if some safe setting observes it. Two nets are paired if one safe setting
-- observes both.
use Rattle.std.specs.Prelude.{◌≡◌, ℕ, ◌<◌, ◌+◌, ◌/◌, Bool, true, false, List, length, Option, None, Some, is_some, slice_index}
use Rattle.std.specs.List.{list_any}
use Rattle.board_defs.specs.declared.board.Ctl.{Ctl}
use Rattle.board_defs.specs.declared.board.RawBoard.{RawBoard}
use Rattle.board_defs.specs.declared.board.Drive.{Drive}
use Rattle.board_defs.specs.declared.board.Drive.TheVariants.{AlwaysOn, OneSided, By}
use Rattle.board_defs.specs.Pins.{IsCell}
use Rattle.board_defs.specs.Settings.{same_ctl}
use Rattle.board_defs.specs.Decided.{is_by}
use Rattle.net_classes.specs.declared.pair_rows.PairRows.{PairRows}
use Rattle.net_classes.specs.Kept.{row_number, row_in}
use Rattle.net_facts.specs.Cells.{item_of_cell, table}
use Rattle.net_classes.specs.NetRows.{AreRowBits}
use Rattle.net_classes.specs.Pairs.{drivers_at, fits_at}

-- control `c` enables a tested driver of net `n`
abbrev pub owns_at : RawBoard → Ctl → ℕ → Bool
owns_at board c n = list_any (λ d. is_by c (Some d)) (drivers_at board n)

-- Row 0 has a 1 for exactly the covered nets, and has room for all nets. Each cell of the board has a row number.
pub record HasCovered (board : RawBoard) (pairs : PairRows) : Type 0 where
  pub some : 0 < length pairs.rows.items
  pub covered : AreRowBits (fits_at board AlwaysOn) (row_in pairs 0)
  pub room : length (row_in pairs 0) ≡ length board.nets / 64 + 1
  pub cells : (c : Ctl) → IsCell board c → is_some (item_of_cell (table pairs.numbers.items) c) ≡ true

-- the row of control `c` has a 1 for exactly the nets that some safe setting with `c` observes
pub record IsRowOf (board : RawBoard) (pairs : PairRows) (c : Ctl) : Type 0 where
  pub there : row_number pairs c < length pairs.rows.items
  pub bits : AreRowBits (fits_at board (By c)) (row_in pairs (row_number pairs c))

-- `row` is the row of control `c`. If `row` is None, the row of `c` is `covered`, the row of the covered nets.
abbrev pub IsRowFor : RawBoard → Ctl → List ℕ → Option (List ℕ) → Type 0
IsRowFor board c covered None = AreRowBits (fits_at board (By c)) covered
IsRowFor board c covered (Some row) = AreRowBits (fits_at board (By c)) row

abbrev pub number_for : ℕ → Option (List ℕ) → ℕ
number_for count None = 0
number_for count (Some row) = count

-- `after` has the row of the covered nets and the row of control `c`. Each other control that has its row in `before` has its row in
-- `after`.
pub record AddsRow (board : RawBoard) (before after : PairRows) (c : Ctl) : Type 0 where
  pub covered : HasCovered board after
  pub own : IsRowOf board after c
  pub others : (d : Ctl) → same_ctl c d ≡ false → IsRowOf board before d → IsRowOf board after d

-- Word `w` of the driver's row, or 0 if the driver is one-sided. The row of an always-on driver is row 0, the
-- row of the covered nets.
abbrev pub drive_word : PairRows → Drive → ℕ → ℕ
drive_word pairs AlwaysOn w = slice_index (row_in pairs 0) w
drive_word pairs OneSided w = 0
drive_word pairs (By c) w = slice_index (row_in pairs (row_number pairs c)) w
