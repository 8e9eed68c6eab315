-- Samples of the facts about the net of a bus with two drivers and a receiver, and about a net that carries a supply.
use Rattle.std.proofs.Common.{◌≡◌, true, false, [], ◌∷◌, Some, None}
use Rattle.board_defs.specs.declared.board.Drive.TheVariants.{By}
use Rattle.board_defs.proofs.Samples.{bus, c}
use Rattle.board_defs.proofs.SampleLaws.{supply}
use Rattle.net_facts.specs.declared.facts.NetFacts.{NetFacts}
use Rattle.net_facts.specs.declared.classes.BoardFacts.{BoardFacts}
use Rattle.net_facts.specs.Kept.{AreBoardFacts}

-- The net of `bus` is neither guarded nor closed. Its first two pins are drivers, each with a control of its own, and its third pin is a
-- receiver.
abbrev bus_facts : NetFacts
bus_facts = record {
  supply = false;
  pull = None;
  test_port = false;
  dark = false;
  guarded = false;
  closed = false;
  pins = record { at = Some (record { part = 0; bit = 4 }); drive = Some (By (c 0 1)); receives = false }
      ∷ record { at = Some (record { part = 1; bit = 4 }); drive = Some (By (c 1 1)); receives = false }
      ∷ record { at = Some (record { part = 2; bit = 4 }); drive = None; receives = true } ∷ [];
}

bus_known : (known : BoardFacts) → AreBoardFacts bus known → known.facts.items ≡ bus_facts ∷ []
bus_known known are = are.facts_are

-- A net that carries a supply is guarded, and so it is closed. Its driver still has its control, and its second pin is still a receiver.
abbrev supply_facts : NetFacts
supply_facts = record {
  supply = true;
  pull = None;
  test_port = false;
  dark = false;
  guarded = true;
  closed = true;
  pins = record { at = Some (record { part = 0; bit = 4 }); drive = Some (By (c 0 1)); receives = false }
      ∷ record { at = Some (record { part = 1; bit = 4 }); drive = None; receives = true } ∷ [];
}

supply_known : (known : BoardFacts) → AreBoardFacts supply known → known.facts.items ≡ supply_facts ∷ []
supply_known known are = are.facts_are
