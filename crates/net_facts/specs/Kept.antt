-- The facts about nets, pins and controls. Facts that depend on safe settings are the results of Boolean tests such as
-- `is_tested_driver`.
use Rattle.std.specs.Prelude.{◌≡◌, ℕ, Bool, false, not, ◌&&◌, List, map, filter, length, Option, Some, None, slice_get, is_some}
use Rattle.std.specs.List.{list_any, range_with_len}
use Rattle.board_defs.specs.declared.board.Ctl.{Ctl}
use Rattle.board_defs.specs.declared.board.Net.{Net}
use Rattle.board_defs.specs.declared.board.RawBoard.{RawBoard}
use Rattle.board_defs.specs.declared.board.Drive.{Drive}
use Rattle.board_defs.specs.declared.board.Drive.TheVariants.{AlwaysOn, OneSided, By}
use Rattle.board_defs.specs.Pins.{drive, receives_of, IsCell}
use Rattle.board_defs.specs.Settings.{same_ctl}
use Rattle.board_defs.specs.Decided.{drives_net, is_safe_alone, is_useful, is_tested_driver, is_tested_receiver, place_drive, reason_of}
use Rattle.board_defs.specs.Passes.{tested_drivers, useful_controls}
use Rattle.net_facts.specs.declared.classes.PinClass.{PinClass}
use Rattle.net_facts.specs.declared.classes.NetClass.{NetClass}
use Rattle.net_facts.specs.declared.classes.ControlClass.{ControlClass}
use Rattle.net_facts.specs.declared.classes.BoardFacts.{BoardFacts}
use Rattle.net_facts.specs.Cells.{item_of_cell, table}
use Rattle.net_facts.specs.Facts.{net_facts_of}

-- There is a net, and control `c` enables a driver of the net. Here and below, one-sided drivers do not count as drivers of a control.
abbrev pub drives_there : RawBoard → Ctl → Option Net → Bool
drives_there board c None = false
drives_there board c (Some net) = drives_net board c net

-- the numbers of the nets with a driver of control `c`, in net order
abbrev pub driven_nets : RawBoard → Ctl → List ℕ
driven_nets board c = filter (λ n. drives_there board c (slice_get board.nets n)) (range_with_len 0 (length board.nets))

-- there is a driver that is neither always on nor one-sided, and its control is not `c`
abbrev pub is_by_other : Ctl → Option Drive → Bool
is_by_other c None = false
is_by_other c (Some AlwaysOn) = false
is_by_other c (Some OneSided) = false
is_by_other c (Some (By d)) = not (same_ctl d c)

-- the net has a driver of control `c` and a driver of another control
abbrev pub is_contended : RawBoard → Ctl → Net → Bool
is_contended board c net = drives_net board c net && list_any (λ p. is_by_other c (drive board net p)) net.pins

-- like `is_contended`, but false if there is no net
abbrev pub contends_there : RawBoard → Ctl → Option Net → Bool
contends_there board c None = false
contends_there board c (Some net) = is_contended board c net

-- the numbers of the nets that control `c` shares with another control, in net order
abbrev pub shared_nets : RawBoard → Ctl → List ℕ
shared_nets board c = filter (λ n. contends_there board c (slice_get board.nets n)) (range_with_len 0 (length board.nets))

-- the roles of the pin at `place` of the net, and the roles in which some safe setting tests it
abbrev pub pin_class_of : RawBoard → Net → ℕ → PinClass
pin_class_of board net place =
    record {
      driver_tested = is_tested_driver board net place;
      receiver_tested = is_tested_receiver board
          net place;
      drives = is_some (place_drive board net place);
      receives = receives_of board
          (slice_get net.pins place);
    }

-- The class of a net has the reason why the net is not covered, or None if it is covered. It also says how the net's tested drivers are
-- enabled, and has the class of each pin.
abbrev pub net_class_of : RawBoard → Net → NetClass
net_class_of board net =
    record {
      reason = reason_of board net;
      drivers = tested_drivers board net;
      pins = map
          (pin_class_of board net) (range_with_len 0 (length net.pins));
    }

-- The nets with a driver of a control, whether the control is safe alone, and whether it is useful. A control
-- is useful if it is safe alone and enables a tested driver.
abbrev pub control_class_of : RawBoard → Ctl → ControlClass
control_class_of board c = record { nets = driven_nets board c; safe = is_safe_alone board c; useful = is_useful board c }

-- `known` has the facts about each net (`net_facts_of` and `net_class_of`) and about each control (`control_class_of`), the useful
-- controls, and the nets that each control shares with another control.
pub record AreBoardFacts (board : RawBoard) (known : BoardFacts) : Type 0 where
  pub facts_are : known.facts.items ≡ map (net_facts_of board) board.nets
  pub nets_are : known.nets.items ≡ map (net_class_of board) board.nets
  pub controls_are : (c : Ctl) → IsCell board c → item_of_cell (table known.controls.items) c ≡ Some (control_class_of board c)
  pub useful_are : known.useful.items ≡ useful_controls board
  pub shared_are : (c : Ctl) → IsCell board c → item_of_cell (table known.shared.items) c ≡ Some (shared_nets board c)
