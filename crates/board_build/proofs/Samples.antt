-- Small files, and the boards or faults that the definitions give for them.
use Rattle.std.proofs.Common.{◌≡◌, ℕ, Bool, true, false, List, [], ◌∷◌, Option, Some, None, Ok, Err, refl}
use Rattle.std.specs.Prelude.{codes, map}
use Rattle.board_files.specs.declared.chain_file.ChainLine.{ChainLine}
use Rattle.board_files.specs.declared.chain_file.ChainStatement.{ChainStatement}
use Rattle.board_files.specs.declared.chain_file.ChainStatement.TheVariants.{Device, Bypass, Inert, Supply, Pull}
use Rattle.board_files.specs.declared.net_file.NetLine.{NetLine}
use Rattle.board_files.specs.declared.net_file.PinWord.{PinWord}
use Rattle.board_defs.specs.declared.device.Symbol.TheVariants.{Zero, One, Any}
use Rattle.board_defs.specs.declared.device.Mode.{Mode}
use Rattle.board_defs.specs.declared.device.Mode.TheVariants.{Inward, Outward}
use Rattle.board_defs.specs.declared.device.Role.{Role}
use Rattle.board_defs.specs.declared.device.Role.TheVariants.{Input, Output2}
use Rattle.board_defs.specs.declared.device.Edition.TheVariants.{Old}
use Rattle.board_defs.specs.declared.device.Cell.{Cell}
use Rattle.board_defs.specs.declared.device.PortBit.{PortBit}
use Rattle.board_defs.specs.declared.device.RawDevice.{RawDevice}
use Rattle.board_defs.specs.declared.board.PartKind.TheVariants.{Described, Bypass as BypassPart}
use Rattle.board_defs.specs.declared.board.Part.{Part}
use Rattle.board_defs.specs.declared.board.PinAt.{PinAt}
use Rattle.board_defs.specs.declared.spot.Spot.{Spot}
use Rattle.board_lines.specs.declared.fault.BoardFault.TheVariants.{NoPin, PinTwice, InertInChain, NoSupplyNet, NoPullNet, PullTwice, GuardedDriver, TwoAlwaysOn}
use Rattle.board_build.specs.BoardRules.{board_of, board_answer, board_fault, limit_fault, pin_fault, driver_fault, data_limit, net_limit, pin_limit, no_pin, pin_twice, guarded_driver, two_always_on}
use Rattle.board_lines.specs.ChainParts.{pin_places}
use Rattle.board_build.specs.inner.Marked.{Marked, mark_word}
use Rattle.board_build.specs.inner.SeenPins.{are_one, at_one_place, is_flagged}
use Rattle.board_lines.specs.LineRules.{line_fault, inert_in_chain, no_supply_net, no_pull_net, pull_twice}

-- a port bit of a device; `tap` says whether the port belongs to the test access port
abbrev bit : ℕ → Option ℕ → Mode → List ℕ → Bool → PortBit
bit port index mode pin tap = record { port = port; index = index; mode = mode; pin = Some pin; tap = tap; compliance = false }

abbrev two_bits : Mode → List PortBit
two_bits mode =
    bit 0 None Inward (codes "T1") true ∷ bit 1 None Inward (codes "T3") true
    ∷ bit 2 None Inward (codes "T4") true ∷ bit 3 None Outward (codes "T2") true
    ∷ bit 4 (Some 1) mode (codes "1") false ∷ bit 4 (Some 2) mode (codes "2") false ∷ []

abbrev entry : ℕ → Role → ℕ → Cell
entry num role at = record { num = num; role = role; bit = Some at; safe = Any; ctl = None }

abbrev device : Mode → Role → RawDevice
device mode role = record {
  entity = codes "E";
  «package» = codes "P";
  edition = Old;
  ports = codes "TDI" ∷ codes "TMS" ∷ codes "TCK" ∷ codes "TDO" ∷ codes "Q" ∷ [];
  ir = 2;
  sample = Zero ∷ One ∷ [];
  extest = Zero ∷ Zero ∷ [];
  idcode = None;
  boundary = 2;
  bits = two_bits mode;
  cells = entry 0 role 4 ∷ entry 1 role 5 ∷ [];
}

-- a device with two always-on drivers
abbrev drv : RawDevice
drv = device Outward Output2

-- a device with two receivers
abbrev rcv : RawDevice
rcv = device Inward Input

abbrev said : ℕ → ChainStatement → ChainLine
said n statement = record { line = n; statement = statement }

-- the lines of U1 and U2, followed by the lines `more`
abbrev chain : List ChainLine → List ChainLine
chain more = said 1 (Device (codes "U1") (codes "E") None) ∷ said 2 (Device (codes "U2") (codes "E") None) ∷ more

abbrev pin : List ℕ → List ℕ → PinWord
pin part name = record { part = part; pin = name }

abbrev net : ℕ → List ℕ → List PinWord → NetLine
net n name pins = record { line = n; name = name; pins = pins }

abbrev two_nets : List NetLine
two_nets =
    net 1 (codes "N1") (pin (codes "U1") (codes "1") ∷ pin (codes "U2") (codes "1") ∷ [])
    ∷ net 2 (codes "N2") (pin (codes "U1") (codes "2") ∷ pin (codes "U2") (codes "2") ∷ []) ∷ []

abbrev at : ℕ → ℕ → Spot
at line word = record { line = line; word = word }

a_pin_that_the_map_has_not : board_of (chain [])
    (net 1 (codes "N1") (pin (codes "U1") (codes "9") ∷ []) ∷ []) (drv ∷ rcv ∷ [])
    ≡ Err (NoPin (at 1 3))
unfolding board_answer board_fault limit_fault data_limit net_limit pin_limit pin_fault no_pin
    pin_twice line_fault inert_in_chain no_supply_net no_pull_net pull_twice driver_fault
    guarded_driver two_always_on
a_pin_that_the_map_has_not = refl

a_pin_in_two_nets : board_of (chain [])
    (net 1 (codes "N1") (pin (codes "U1") (codes "1") ∷ pin (codes "U2") (codes "1") ∷ [])
    ∷ net 2 (codes "N2") (pin (codes "U1") (codes "1") ∷ []) ∷ []) (drv ∷ rcv ∷ [])
    ≡ Err (PinTwice (at 2 3))
unfolding board_answer board_fault limit_fault data_limit net_limit pin_limit pin_fault no_pin
    pin_twice line_fault inert_in_chain no_supply_net no_pull_net pull_twice driver_fault
    guarded_driver two_always_on
a_pin_in_two_nets = refl

a_chain_part_that_is_inert : board_of (chain (said 3 (Inert (codes "U1")) ∷ [])) two_nets (drv ∷ rcv ∷ []) ≡ Err (InertInChain (at 3 1))
unfolding board_answer board_fault limit_fault data_limit net_limit pin_limit pin_fault no_pin
    pin_twice line_fault inert_in_chain no_supply_net no_pull_net pull_twice driver_fault
    guarded_driver two_always_on
a_chain_part_that_is_inert = refl

a_supply_net_that_is_not_there : board_of (chain (said 3 (Supply (codes "VCC")) ∷ [])) two_nets
    (drv ∷ rcv ∷ []) ≡ Err (NoSupplyNet (at 3 1))
unfolding board_answer board_fault limit_fault data_limit net_limit pin_limit pin_fault no_pin
    pin_twice line_fault inert_in_chain no_supply_net no_pull_net pull_twice driver_fault
    guarded_driver two_always_on
a_supply_net_that_is_not_there = refl

an_always_on_driver_of_a_supply : board_of (chain (said 3 (Supply (codes "N1")) ∷ [])) two_nets
    (drv ∷ rcv ∷ []) ≡ Err (GuardedDriver (at 1 3))
unfolding board_answer board_fault limit_fault data_limit net_limit pin_limit pin_fault no_pin
    pin_twice line_fault inert_in_chain no_supply_net no_pull_net pull_twice driver_fault
    guarded_driver two_always_on
an_always_on_driver_of_a_supply = refl

two_always_on_drivers : board_of (chain [])
    (net 1 (codes "N") (pin (codes "U1") (codes "1") ∷ pin (codes "U2") (codes "1") ∷ []) ∷ [])
    (drv ∷ drv ∷ []) ≡ Err (TwoAlwaysOn (at 1 4))
unfolding board_answer board_fault limit_fault data_limit net_limit pin_limit pin_fault no_pin
    pin_twice line_fault inert_in_chain no_supply_net no_pull_net pull_twice driver_fault
    guarded_driver two_always_on
two_always_on_drivers = refl

-- the rule on unknown pins comes before the rule on pins in two nets, even if the unknown pin is on a later line
the_order_of_rules : board_of (chain (said 3 (Inert (codes "U1")) ∷ []))
    (net 1 (codes "A") (pin (codes "U1") (codes "1") ∷ [])
    ∷ net 2 (codes "B") (pin (codes "U1") (codes "1") ∷ pin (codes "U2") (codes "9") ∷ [])
    ∷ []) (drv ∷ rcv ∷ []) ≡ Err (NoPin (at 2 4))
unfolding board_answer board_fault limit_fault data_limit net_limit pin_limit pin_fault no_pin
    pin_twice line_fault inert_in_chain no_supply_net no_pull_net pull_twice driver_fault
    guarded_driver two_always_on
the_order_of_rules = refl

pulls_of_one_net : board_of
    (chain
    (said 3 (Pull (codes "N2") true) ∷ said 4 (Pull (codes "N2") true)
    ∷ said 5 (Pull (codes "X") true) ∷ [])) two_nets (drv ∷ rcv ∷ []) ≡ Err (NoPullNet (at 5 1))
unfolding board_answer board_fault limit_fault data_limit net_limit pin_limit pin_fault no_pin
    pin_twice line_fault inert_in_chain no_supply_net no_pull_net pull_twice driver_fault
    guarded_driver two_always_on
pulls_of_one_net = refl

a_net_that_is_pulled_twice : board_of
    (chain (said 3 (Pull (codes "N2") true) ∷ said 4 (Pull (codes "N2") true) ∷ [])) two_nets
    (drv ∷ rcv ∷ []) ≡ Err (PullTwice (at 4 1))
unfolding board_answer board_fault limit_fault data_limit net_limit pin_limit pin_fault no_pin
    pin_twice line_fault inert_in_chain no_supply_net no_pull_net pull_twice driver_fault
    guarded_driver two_always_on
a_net_that_is_pulled_twice = refl

-- nets are in the order of their first lines, a second line of a net adds pins to it, and a
-- repeated pin counts once; R1 is inert, and net B is pulled to 1
a_whole_board : board_of
    (chain
    (said 3 (Bypass (codes "U3") 4) ∷ said 4 (Inert (codes "R1")) ∷ said 5 (Pull (codes "B") true) ∷
    []))
    (net 1 (codes "A")
    (pin (codes "U1") (codes "1") ∷ pin (codes "U1") (codes "1") ∷ pin (codes "R1") (codes "2") ∷
    []) ∷ net 2 (codes "B") (pin (codes "U3") (codes "7") ∷ []) ∷ net 3 (codes "A")
    (pin (codes "U2") (codes "2") ∷ []) ∷ []) (drv ∷ rcv ∷ []) ≡ Ok (record {
      chain =
          (record { name = codes "U1"; kind = Described drv })
          ∷ (record { name = codes "U2"; kind = Described rcv })
          ∷ (record { name = codes "U3"; kind = BypassPart 4 }) ∷ [];
      nets =
          (record {
            name = codes "A";
            supply = false;
            pull = None;
            pins =
                (record {
                  part = codes "U1";
                  pin = codes "1";
                  at = Some
                      (record { part = 0; bit = 4 });
                  inert = false;
                })
                ∷ (record { part = codes "R1"; pin = codes "2"; at = None; inert = true })
                ∷ (record {
                  part = codes "U2";
                  pin = codes "2";
                  at = Some
                      (record { part = 1; bit = 5 });
                  inert = false;
                }) ∷ [];
          })
          ∷ (record {
            name = codes "B";
            supply = false;
            pull = Some true;
            pins =
                (record { part = codes "U3"; pin = codes "7"; at = None; inert = false }) ∷ [];
          }) ∷ [];
    })
unfolding board_answer board_fault limit_fault data_limit net_limit pin_limit pin_fault no_pin
    pin_twice line_fault inert_in_chain no_supply_net no_pull_net pull_twice driver_fault
    guarded_driver two_always_on
a_whole_board = refl

-- a pin of a part in BYPASS has no place, so the names of the part and the pin identify it
a_pin_of_a_bypass_part_in_two_nets : board_of (chain (said 3 (Bypass (codes "U3") 4) ∷ []))
    (net 1 (codes "A") (pin (codes "U3") (codes "7") ∷ [])
    ∷ net 2 (codes "B") (pin (codes "U1") (codes "1") ∷ pin (codes "U3") (codes "7") ∷ [])
    ∷ []) (drv ∷ rcv ∷ []) ≡ Err (PinTwice (at 2 4))
unfolding board_answer board_fault limit_fault data_limit net_limit pin_limit pin_fault no_pin
    pin_twice line_fault inert_in_chain no_supply_net no_pull_net pull_twice driver_fault
    guarded_driver two_always_on
a_pin_of_a_bypass_part_in_two_nets = refl

abbrev place : ℕ → ℕ → PinAt
place part bit = record { part = part; bit = bit }

-- pins with the same place are the same pin, whatever their names are; different bits of a part,
-- and bits of different parts, are different places
by_places : at_one_place (Some (place 0 4)) (Some (place 0 4)) false
    ∷ at_one_place (Some (place 0 4)) (Some (place 0 5)) true
    ∷ at_one_place (Some (place 0 4)) (Some (place 1 4)) true ∷ [] ≡ true ∷ false ∷ false ∷ []
by_places = refl

-- if neither pin has a place, their names decide
by_names : map (at_one_place None None) (true ∷ false ∷ []) ≡ true ∷ false ∷ []
by_names = refl

-- a pin with a place is never the same as a pin without one
one_has_a_place : at_one_place None (Some (place 0 4)) true ∷ at_one_place (Some (place 0 4)) None true ∷ [] ≡ false ∷ false ∷ []
one_has_a_place = refl

-- a set flag, a flag that is not set, a bit past the end of its part, and a part past the end of
-- the chain
flags : map (is_flagged ((false ∷ true ∷ []) ∷ [])) (place 0 1 ∷ place 0 0 ∷ place 0 2 ∷ place 1 1 ∷ []) ≡ true ∷ false ∷ false ∷ false ∷ []
flags = refl

-- a chain in which U1 and U2 are described, and U3 is in BYPASS
abbrev parts : List Part
parts =
    record { name = codes "U1"; kind = Described drv }
    ∷ record { name = codes "U2"; kind = Described rcv }
    ∷ record { name = codes "U3"; kind = BypassPart 4 } ∷ []

abbrev word : ℕ → List ℕ → List ℕ → Marked
word n part name = mark_word parts (pin_places parts) [] ((n, (part, name)), at n 3)

-- pin 1 of U1 is the same pin in another net; it differs from pin 2 of U1 and from pin 1 of U2 and
-- of U3
one_pin : map (are_one (word 0 (codes "U1") (codes "1")))
    (word 1 (codes "U1") (codes "1") ∷ word 1 (codes "U1") (codes "2")
    ∷ word 1 (codes "U2") (codes "1") ∷ word 1 (codes "U3") (codes "1") ∷ [])
    ≡ true ∷ false ∷ false ∷ false ∷ []
one_pin = refl

-- pin 7 of U3 has no place; it is the same pin in another net, and it differs from another pin of
-- U3 and from pins of other parts
one_unplaced_pin : map (are_one (word 0 (codes "U3") (codes "7")))
    (word 1 (codes "U3") (codes "7") ∷ word 1 (codes "U3") (codes "8")
    ∷ word 1 (codes "RAM") (codes "7") ∷ word 1 (codes "U1") (codes "1") ∷ [])
    ≡ true ∷ false ∷ false ∷ false ∷ []
one_unplaced_pin = refl

-- a word that names the pin of U1 with this name; the pin's place is port bit 0 of part 0
abbrev there : List ℕ → Marked
there name = record { word = ((0, (codes "U1", name)), at 1 3); described = true; at = Some (place 0 0); inert = false; always_on = false }

-- if two words have the same place, their names do not matter; no file gives two such words with
-- different names, since the reader puts pins in upper case
two_words_of_one_place : are_one (there (codes "T1")) (there (codes "t1")) ≡ true
two_words_of_one_place = refl
