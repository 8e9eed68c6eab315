-- The facts about nets and pins that do not depend on settings.
use Rattle.std.specs.Prelude.{map}
use Rattle.std.specs.List.{list_any}
use Rattle.board_defs.specs.declared.board.NetPin.{NetPin}
use Rattle.board_defs.specs.declared.board.Net.{Net}
use Rattle.board_defs.specs.declared.board.RawBoard.{RawBoard}
use Rattle.board_defs.specs.Pins.{drive, receives, guarded, is_test_pin, is_dark}
use Rattle.board_defs.specs.Decided.{is_closed}
use Rattle.net_facts.specs.declared.facts.PinFacts.{PinFacts}
use Rattle.net_facts.specs.declared.facts.NetFacts.{NetFacts}

-- the facts about a pin of the net that do not depend on settings
abbrev pub pin_facts_of : RawBoard → Net → NetPin → PinFacts
pin_facts_of board net pin = record { at = pin.at; drive = drive board net pin; receives = receives board pin }

abbrev pub net_facts_of : RawBoard → Net → NetFacts
net_facts_of board net =
    record {
      supply = net.supply;
      pull = net.pull;
      test_port = list_any (is_test_pin board) net.pins;
      dark
          = list_any (is_dark board) net.pins;
      guarded = guarded board net;
      closed = is_closed board
          net;
      pins = map (pin_facts_of board net) net.pins;
    }
