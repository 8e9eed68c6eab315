-- The driver that a setting enables on a net, and the driver by which a setting observes a net. A net is
-- guarded if it carries a supply, or has a pin of a test access port, a pin that compliance patterns name, or
-- a dark pin.
use Rattle.std.specs.Prelude.{ℕ, ◌==◌, Bool, true, not, cond, find, List, [], Option, Some, None, option_and_then, slice_index_or}
use Rattle.std.specs.List.{list_any}
use Rattle.board_defs.specs.declared.board.Ctl.{Ctl}
use Rattle.board_defs.specs.Settings.{Enabling}
use Rattle.net_pins.specs.declared.nets.NetDriver.{NetDriver}
use Rattle.net_pins.specs.declared.nets.ReaderCell.{ReaderCell}
use Rattle.net_pins.specs.declared.net_tables.NetTables.{NetTables}

-- the setting enables a driver with this control; it enables each driver that has no control
abbrev pub is_driver_on : Enabling → Option Ctl → Bool
is_driver_on setting None = true
is_driver_on setting (Some c) = setting c

-- the first driver of a net that the setting enables; a safe setting enables no other driver of the net
abbrev pub enabled_in : Enabling → List NetDriver → Option NetDriver
enabled_in setting drivers = find (λ d. is_driver_on setting d.ctl) drivers

-- some compared cell belongs to a pin other than the driver's
abbrev pub is_read_beside : List ReaderCell → NetDriver → Bool
is_read_beside readers d = list_any (λ r. not (r.place == d.place)) readers

-- The driver by which a safe setting observes a net: the driver that the setting enables. None if the setting
-- enables no driver, or if no other pin of the net has a compared cell.
abbrev pub observing_of : Enabling → List NetDriver → List ReaderCell → Option NetDriver
observing_of setting drivers readers = option_and_then (λ d. cond (is_read_beside readers d) (Some d) None) (enabled_in setting drivers)

-- the drivers of net n in pin order, or none if the net is guarded or there is no net n
abbrev pub drivers_on : NetTables → ℕ → List NetDriver
drivers_on nets n = slice_index_or nets.drivers n []

-- the compared cells of net n, or none if there is no net n
abbrev pub readers_on : NetTables → ℕ → List ReaderCell
readers_on nets n = slice_index_or nets.readers n []

-- The first driver of net n that the setting enables, if there is one. None if the net is guarded: every setting enables the always-on
-- drivers of such a net, but no setting observes the net by them.
abbrev pub enabled_on : NetTables → Enabling → ℕ → Option NetDriver
enabled_on nets setting n = enabled_in setting (drivers_on nets n)

-- the driver by which a safe setting observes net n, or None if the setting does not observe the net
abbrev pub observer_on : NetTables → Enabling → ℕ → Option NetDriver
observer_on nets setting n = observing_of setting (drivers_on nets n) (readers_on nets n)
