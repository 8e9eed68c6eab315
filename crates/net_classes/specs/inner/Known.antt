-- A board with the table of its controls.
use Rattle.std.specs.Prelude.{◌≡◌, ℕ, List, [], Option, None, Some, map}
use Rattle.board_defs.specs.declared.board.Ctl.{Ctl}
use Rattle.board_defs.specs.declared.board.Net.{Net}
use Rattle.board_defs.specs.declared.board.RawBoard.{RawBoard}
use Rattle.board_defs.specs.BoardRules.{IsBoard}
use Rattle.board_defs.specs.Pins.{IsCell}
use Rattle.net_facts.specs.declared.classes.ControlClass.{ControlClass}
use Rattle.net_facts.specs.declared.facts.PinFacts.{PinFacts}
use Rattle.net_facts.specs.Cells.{item_of_cell}
use Rattle.net_facts.specs.Facts.{pin_facts_of}
use Rattle.net_facts.specs.Kept.{control_class_of}

-- a board, and a table with a row of control classes for each part
pub record KnownBoard : Type 0 where
  pub board : RawBoard
  pub controls : List (List ControlClass)

abbrev pub known_board : RawBoard → List (List ControlClass) → KnownBoard
known_board board controls = record { board = board; controls = controls }

-- the board keeps the rules of boards, and the table has the class of each control
pub record IsKnown (known : KnownBoard) : Type 0 where
  pub rules : IsBoard known.board
  pub controls_are : (c : Ctl) → IsCell known.board c → item_of_cell known.controls c ≡ Some (control_class_of known.board c)

-- the facts about the pins of the net, or no facts if there is no net
abbrev pub pins_there : RawBoard → Option Net → List PinFacts
pins_there board None = []
pins_there board (Some net) = map (pin_facts_of board net) net.pins

-- the numbers of the nets in a control's class, or no numbers if there is no class
abbrev pub nets_of : Option ControlClass → List ℕ
nets_of None = []
nets_of (Some class) = class.nets

abbrev pub driven_in : KnownBoard → Ctl → List ℕ
driven_in known c = nets_of (item_of_cell known.controls c)
