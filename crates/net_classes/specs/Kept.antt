-- The contents of a board's classes, that is, what its nets, pins and controls can do in safe settings. Facts that depend on safe
-- settings are the results of Boolean tests such as `is_useful`. A net is covered if some safe setting observes it. Two nets are paired if
-- one safe setting observes both.
use Rattle.std.specs.Prelude.{◌≡◌, ℕ, true, List, [], map, Option, Some, None, slice_index_or}
use Rattle.board_defs.specs.declared.board.Ctl.{Ctl}
use Rattle.board_defs.specs.declared.board.RawBoard.{RawBoard}
use Rattle.board_defs.specs.declared.board.Drive.TheVariants.{AlwaysOn, By}
use Rattle.board_defs.specs.Pins.{IsCell}
use Rattle.board_defs.specs.Decided.{is_useful}
use Rattle.board_defs.specs.Passes.{useful_controls}
use Rattle.net_facts.specs.Cells.{item_of_cell, table}
use Rattle.net_facts.specs.Kept.{control_class_of, net_class_of, shared_nets}
use Rattle.net_classes.specs.declared.classes.Classes.{Classes}
use Rattle.net_classes.specs.declared.pair_rows.PairRows.{PairRows}
use Rattle.net_classes.specs.NetRows.{AreRowBits}
use Rattle.net_classes.specs.Pairs.{fits_at}

abbrev pub or_none : Option ℕ → ℕ
or_none None = 0
or_none (Some n) = n

-- the number of the row of control `c`, or 0 if the table has no number for `c`
abbrev pub row_number : PairRows → Ctl → ℕ
row_number pairs c = or_none (item_of_cell (table pairs.numbers.items) c)

-- the words of row number `k`, or no words if there is no such row
abbrev pub row_in : PairRows → ℕ → List ℕ
row_in pairs k = slice_index_or pairs.rows.items k []

-- Row 0 has a 1 for exactly the covered nets. The row of a useful control `c` has a 1 for exactly the nets that some safe
-- setting with `c` observes. A control is useful if it is safe alone and enables a tested driver.
pub record ArePairRows (board : RawBoard) (pairs : PairRows) : Type 0 where
  pub covered : AreRowBits (fits_at board AlwaysOn) (row_in pairs 0)
  pub each : (c : Ctl) → IsCell board c → is_useful board c ≡ true → AreRowBits (fits_at board (By c)) (row_in pairs (row_number pairs c))

-- `classes` has the class of each net and each control, the useful controls, the nets that each control shares with another control, and
-- the rows of bits that say which nets are paired
pub record AreClasses (board : RawBoard) (classes : Classes) : Type 0 where
  pub nets_are : classes.nets.items ≡ map (net_class_of board) board.nets
  pub controls_are : (c : Ctl) → IsCell board c → item_of_cell (table classes.controls.items) c ≡ Some (control_class_of board c)
  pub useful_are : classes.useful.items ≡ useful_controls board
  pub shared_are : (c : Ctl) → IsCell board c → item_of_cell (table classes.shared.items) c ≡ Some (shared_nets board c)
  pub pairs_are : ArePairRows board classes.pairs
