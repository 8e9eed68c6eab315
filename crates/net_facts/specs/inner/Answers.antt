-- The class of a net, that is, its reason, its tested drivers and the classes of its pins. The code computes the class from the facts
-- about the net and from the table of controls.
use Rattle.std.specs.Prelude.{ℕ, ◌==◌, Bool, true, false, not, ◌&&◌, List, map, filter_map, length, Option, Some, None, slice_get, is_some, cond}
use Rattle.std.specs.List.{list_any, range_with_len}
use Rattle.board_defs.specs.declared.board.Ctl.{Ctl}
use Rattle.board_defs.specs.declared.board.Drive.{Drive}
use Rattle.board_defs.specs.declared.board.Drive.TheVariants.{AlwaysOn, OneSided, By}
use Rattle.board_defs.specs.declared.coverage.Reason.{Reason}
use Rattle.board_defs.specs.declared.coverage.Reason.TheVariants.{Supply, TestPort, Dark, NoDriver, Blocked, NoReceiver}
use Rattle.net_facts.specs.declared.facts.PinFacts.{PinFacts}
use Rattle.net_facts.specs.declared.facts.NetFacts.{NetFacts}
use Rattle.net_facts.specs.declared.classes.PinClass.{PinClass}
use Rattle.net_facts.specs.declared.classes.NetClass.{NetClass}
use Rattle.net_facts.specs.declared.classes.ControlClass.{ControlClass}
use Rattle.net_facts.specs.declared.found.Found.{Found}
use Rattle.net_facts.specs.Cells.{item_of_cell}
use Rattle.net_facts.specs.inner.Found.{found_below, is_elsewhere_of}

abbrev pub is_safe_class : Option ControlClass → Bool
is_safe_class None = false
is_safe_class (Some row) = row.safe

abbrev pub safe_in : List (List ControlClass) → Ctl → Bool
safe_in rows c = is_safe_class (item_of_cell rows c)

abbrev pub has_use : Option ControlClass → Bool
has_use None = false
has_use (Some row) = row.useful

abbrev pub useful_in : List (List ControlClass) → Ctl → Bool
useful_in rows c = has_use (item_of_cell rows c)

abbrev pub may_be_enabled : List (List ControlClass) → Option Drive → Bool
may_be_enabled rows None = false
may_be_enabled rows (Some AlwaysOn) = true
may_be_enabled rows (Some OneSided) = false
may_be_enabled rows (Some (By c)) = safe_in rows c

abbrev pub drive_of_pin : Option PinFacts → Option Drive
drive_of_pin None = None
drive_of_pin (Some pin) = pin.drive

abbrev pub drive_of : List PinFacts → ℕ → Option Drive
drive_of pins place = drive_of_pin (slice_get pins place)

abbrev pub reads_in : Option PinFacts → Bool
reads_in None = false
reads_in (Some pin) = pin.receives

abbrev pub reads_at : List PinFacts → ℕ → Bool
reads_at pins place = reads_in (slice_get pins place)

abbrev pub enables_at_place : List (List ControlClass) → List PinFacts → ℕ → Bool
enables_at_place rows pins place = may_be_enabled rows (drive_of pins place)

-- the place of the net's receiver if it has just one; otherwise, whether it has none or several
abbrev pub receiver_places : List PinFacts → Found
receiver_places pins = found_below (reads_at pins) (length pins)

-- the place of the driver that some safe setting enables, if the net has just one such driver; otherwise, whether it has none or several
abbrev pub enablers_of : List (List ControlClass) → List PinFacts → Found
enablers_of rows pins = found_below (enables_at_place rows pins) (length pins)

abbrev pub tested_in : List (List ControlClass) → NetFacts → ℕ → Bool
tested_in rows net place = not net.guarded && enables_at_place rows net.pins place && is_elsewhere_of (receiver_places net.pins) place

abbrev pub reader_tested_in : List (List ControlClass) → NetFacts → ℕ → Bool
reader_tested_in rows net place = not net.guarded && reads_at net.pins place && is_elsewhere_of (enablers_of rows net.pins) place

abbrev pub pin_class_in : List (List ControlClass) → NetFacts → ℕ → PinClass
pin_class_in rows net place =
    record {
      driver_tested = tested_in rows net place;
      receiver_tested = reader_tested_in rows net place;
      drives = is_some (drive_of net.pins place);
      receives = reads_at net.pins place;
    }

abbrev pub tested_drive_in : List (List ControlClass) → NetFacts → ℕ → Option Drive
tested_drive_in rows net place = cond (tested_in rows net place) (drive_of net.pins place) None

abbrev pub tested_drives_in : List (List ControlClass) → NetFacts → List Drive
tested_drives_in rows net = filter_map (tested_drive_in rows net) (range_with_len 0 (length net.pins))

abbrev pub first_reason_in : List (List ControlClass) → NetFacts → Reason
first_reason_in rows net =
    cond net.supply Supply
    (cond net.test_port TestPort
    (cond net.dark Dark
    (cond (not (list_any (λ pin. is_some pin.drive) net.pins)) NoDriver
    (cond (not (list_any (λ pin. may_be_enabled rows pin.drive) net.pins)) Blocked NoReceiver))))

abbrev pub reason_in : List (List ControlClass) → NetFacts → Option Reason
reason_in rows net = cond (length (tested_drives_in rows net) == 0) (Some (first_reason_in rows net)) None

abbrev pub class_in : List (List ControlClass) → NetFacts → NetClass
class_in rows net =
    record {
      reason = reason_in rows net;
      drivers = tested_drives_in rows net;
      pins = map
          (pin_class_in rows net) (range_with_len 0 (length net.pins));
    }
