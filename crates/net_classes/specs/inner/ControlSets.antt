-- Sets of controls. A set has a mark for each cell of the board and a list of its controls.
use Rattle.std.specs.Prelude.{◌≡◌, Bool, true, Some, List, Contains, fold}
use Rattle.board_defs.specs.declared.board.Ctl.{Ctl}
use Rattle.board_defs.specs.declared.board.RawBoard.{RawBoard}
use Rattle.board_defs.specs.Pins.{IsCell}
use Rattle.net_classes.specs.declared.control_sets.ControlSet.{ControlSet}
use Rattle.net_facts.specs.Cells.{put, item_of_cell, table, at_control, holds_there}

-- the control is marked
abbrev pub has_control : ControlSet → Ctl → Bool
has_control set c = holds_there (item_of_cell (table set.marks.items) c)

-- The marks of the board's cells say which of them satisfy `passes`. The list of members has each cell that does.
pub record IsSet (board : RawBoard) (passes : Ctl → Bool) (set : ControlSet) : Type 0 where
  pub marks_are : (c : Ctl) → IsCell board c → item_of_cell (table set.marks.items) c ≡ Some (passes c)
  pub members_are : (c : Ctl) → IsCell board c → passes c ≡ true → Contains set.members.items c

-- the table `rows` with the marks of these controls changed to `mark`
abbrev pub put_all : Bool → List (List Bool) → List Ctl → List (List Bool)
put_all mark rows controls = fold (λ r c. at_control c (put mark) r) rows controls
