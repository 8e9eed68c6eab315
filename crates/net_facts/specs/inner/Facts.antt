-- The facts about nets and pins, as the code computes them.
use Rattle.std.specs.Prelude.{ℕ, ◌==◌, Bool, not, ◌&&◌, ◌||◌, map, Option, Some, None, option_map, if◌then◌else◌, List}
use Rattle.std.specs.List.{list_any}
use Rattle.board_defs.specs.declared.device.Cell.{Cell}
use Rattle.board_defs.specs.declared.device.Control.{Control}
use Rattle.board_defs.specs.declared.board.Drive.{Drive}
use Rattle.board_defs.specs.declared.board.Drive.TheVariants.{AlwaysOn, OneSided, By}
use Rattle.board_defs.specs.declared.board.PinAt.{PinAt}
use Rattle.board_defs.specs.declared.board.NetPin.{NetPin}
use Rattle.board_defs.specs.declared.board.Net.{Net}
use Rattle.board_defs.specs.declared.board.RawBoard.{RawBoard}
use Rattle.board_defs.specs.Pins.{entry_at, receives, is_test_pin, is_dark, is_pulled_to}
use Rattle.board_defs.specs.Decided.{is_always_on}
use Rattle.net_facts.specs.declared.facts.PinFacts.{PinFacts}
use Rattle.net_facts.specs.declared.facts.NetFacts.{NetFacts}

-- How a driver with entry `cell` of part `part` and with this control is enabled, on a net with this pull. `guarded` says whether the net
-- is guarded.
abbrev pub drive_from : Bool → Option Bool → ℕ → Cell → Option Control → Drive
drive_from guarded pull part cell None = AlwaysOn
drive_from guarded pull part cell (Some control) =
    if control.cell == cell.num
    then (if not guarded && is_pulled_to control.disable pull then By (record { part = part; cell = control.cell }) else OneSided)
    else By (record { part = part; cell = control.cell })

abbrev pub drive_where_in : RawBoard → Bool → Option Bool → Option PinAt → Option Drive
drive_where_in board guarded pull None = None
drive_where_in board guarded pull (Some at) = option_map (λ cell. drive_from guarded pull at.part cell cell.ctl) (entry_at board at)

abbrev pub pin_facts_in : RawBoard → Bool → Option Bool → NetPin → PinFacts
pin_facts_in board guarded pull pin =
    record
    { at = pin.at; drive = drive_where_in board guarded pull pin.at; receives = receives board pin }

-- the facts about the pins of a net; `guarded` says whether the net is guarded
abbrev pub pins_in : RawBoard → Bool → Net → List PinFacts
pins_in board guarded net = map (pin_facts_in board guarded net.pull) net.pins

-- the facts about a net; `guarded` says whether the net is guarded
abbrev pub net_facts_in : RawBoard → Bool → Net → NetFacts
net_facts_in board guarded net = record {
  supply = net.supply;
  pull = net.pull;
  test_port = guarded && list_any (is_test_pin board) net.pins;
  dark = guarded && list_any (is_dark board) net.pins;
  guarded = guarded;
  closed = guarded || list_any (λ pin. is_always_on pin.drive) (pins_in board guarded net);
  pins = pins_in board guarded net;
}
