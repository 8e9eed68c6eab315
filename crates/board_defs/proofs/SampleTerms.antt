-- Samples of settings, reasons, tested pins, passes and faults, on small boards, and of boards that break the rules on always-on drivers.
-- The expected values follow from the definitions of the terms.
use Rattle.std.proofs.Common.{◌≡◌, Bool, true, false, List, [], ◌∷◌, ◌++◌, map, Option, Some, None, refl, arith}
use Rattle.std.specs.Prelude.{codes}
use Rattle.board_defs.specs.declared.device.Mode.TheVariants.{Outward}
use Rattle.board_defs.specs.declared.device.Role.TheVariants.{Output2}
use Rattle.board_defs.specs.declared.device.RawDevice.{RawDevice}
use Rattle.board_defs.specs.declared.board.NetPin.{NetPin}
use Rattle.board_defs.specs.declared.board.Net.{Net}
use Rattle.board_defs.specs.declared.board.RawBoard.{RawBoard}
use Rattle.board_defs.specs.declared.coverage.Reason.{Reason}
use Rattle.board_defs.specs.declared.coverage.Reason.TheVariants.{Supply, TestPort, Dark, NoDriver, Blocked, NoReceiver}
use Rattle.board_defs.specs.declared.fault.Kind.TheVariants.{And, Or, First, Second}
use Rattle.board_defs.specs.declared.fault.Single.TheVariants.{StuckNet, OpenPin, Short}
use Rattle.board_defs.specs.BoardRules.{NoGuardedDriver, OneAlwaysOn, IsBoard}
use Rattle.board_defs.specs.Settings.{precedes, inserted}
use Rattle.board_defs.specs.Decided.{is_safe_alone, are_together, is_tested_driver, is_tested_receiver}
use Rattle.board_defs.specs.Passes.{useful_controls, passes_of}
use Rattle.board_defs.specs.Faults.{tested_pins, singles}
use Rattle.board_defs.proofs.BoardChecks.{board_of}
use Rattle.board_defs.proofs.Samples.{port_bit, entry, device, rcv, ts, bi, two, od, four, pin, clock, foreign, net, board, bus, fours, c, at, reasons, pairs}
use Rattle.board_defs.proofs.SamplePins.{mixed, leg, inert}

-- A board with one net, which has a three-state driver, a receiver and the pins `more`. The net carries a supply if `supply` is true.
-- Part 2 has a pin of each kind.
abbrev meeting : Bool → List NetPin → RawBoard
meeting supply more = board (ts ∷ rcv ∷ mixed ∷ []) (record (net 0 None (pin 0 0 ∷ pin 1 0 ∷ more)) { supply = supply } ∷ [])

abbrev reason : Bool → List NetPin → List (Option Reason)
reason supply more = reasons (meeting supply more)

-- The control of the three-state driver is safe alone. In the samples below, this is so if and only if the net is not guarded.
abbrev usable : Bool → List NetPin → Bool
usable supply more = is_safe_alone (meeting supply more) (c 0 1)

-- with an input, a pin with an OBSERVE_ONLY entry and a pin of an inert part as further pins, the net is covered
open_net : reason false (leg 2 3 ∷ leg 2 4 ∷ inert ∷ []) ≡ None ∷ []
open_net = refl

open_usable : usable false (leg 2 3 ∷ leg 2 4 ∷ inert ∷ []) ≡ true
open_usable = refl

-- a supply net is guarded, even if none of its pins guards it
supply_net : reason true [] ≡ Some Supply ∷ []
supply_net = refl

supply_usable : usable true [] ≡ false
supply_usable = refl

supply_rules : IsBoard (meeting true [])
supply_rules = board_of (meeting true []) refl

-- Each of these pins guards the net: a TAP pin, a pin that the compliance patterns name, and three dark pins. The dark pins are an input
-- without an entry, a linkage pin, and a pin of a part that is neither in the chain nor inert.
tap_net : reason false (clock 2 ∷ []) ≡ Some TestPort ∷ []
tap_net = refl

tap_usable : usable false (clock 2 ∷ []) ≡ false
tap_usable = refl

compliance_net : reason false (leg 2 14 ∷ []) ≡ Some TestPort ∷ []
compliance_net = refl

compliance_usable : usable false (leg 2 14 ∷ []) ≡ false
compliance_usable = refl

dark_net : reason false (leg 2 2 ∷ []) ≡ Some Dark ∷ []
dark_net = refl

dark_usable : usable false (leg 2 2 ∷ []) ≡ false
dark_usable = refl

linkage_net : reason false (leg 2 1 ∷ []) ≡ Some Dark ∷ []
linkage_net = refl

foreign_usable : usable false (foreign (codes "RAM") ∷ []) ≡ false
foreign_usable = refl

-- if several reasons apply, SUPPLY comes before TESTPORT and DARK, and TESTPORT comes before DARK
supply_first : reason true (clock 2 ∷ foreign (codes "RAM") ∷ []) ≡ Some Supply ∷ []
supply_first = refl

test_before_dark : reason false (foreign (codes "RAM") ∷ clock 2 ∷ []) ≡ Some TestPort ∷ []
test_before_dark = refl

-- The reason why net 0 is not covered if it has the pins `pins`, or None if it is covered. The list has only
-- this item. The board has five parts: a device with a three-state driver, one with a bidirectional pin, one
-- with receivers, one with a pin of each kind, and one with a driver that its own cell enables.
abbrev alone : List NetPin → List (Option Reason)
alone pins = reasons (board (ts ∷ bi ∷ rcv ∷ mixed ∷ od ∷ []) (net 0 None pins ∷ []))

-- if both reasons apply, DARK comes before NODRIVER
dark_before_none : alone (pin 2 0 ∷ foreign (codes "RAM") ∷ []) ≡ Some Dark ∷ []
dark_before_none = refl

no_driver : alone (pin 2 0 ∷ pin 2 1 ∷ []) ≡ Some NoDriver ∷ []
no_driver = refl

-- a net whose only driver is one-sided is blocked
one_sided : alone (pin 4 0 ∷ pin 2 0 ∷ []) ≡ Some Blocked ∷ []
one_sided = refl

-- Four nets with a driver and no receiver on another pin. The first net has only the driver. On the second, the other pin has an
-- OBSERVE_ONLY entry. On the third, the other pin is an output with an INPUT entry. On the fourth, the only receiver is the driver's pin.
no_receiver : alone (pin 0 0 ∷ []) ≡ Some NoReceiver ∷ []
no_receiver = refl

observer_alone : alone (pin 0 0 ∷ leg 3 4 ∷ []) ≡ Some NoReceiver ∷ []
observer_alone = refl

read_output : alone (pin 0 0 ∷ leg 3 9 ∷ []) ≡ Some NoReceiver ∷ []
read_output = refl

own_receiver : alone (pin 1 0 ∷ []) ≡ Some NoReceiver ∷ []
own_receiver = refl

-- a pin with a CLOCK entry is a receiver, and so is a bidirectional pin with an INPUT entry and a driving entry
clock_receives : alone (pin 0 0 ∷ leg 3 5 ∷ []) ≡ None ∷ []
clock_receives = refl

both_receives : alone (pin 0 0 ∷ leg 3 12 ∷ []) ≡ None ∷ []
both_receives = refl

-- a board on which one control enables two drivers of net 0, so net 0 is blocked
abbrev twins : RawBoard
twins = board (two ∷ rcv ∷ []) (net 0 None (pin 0 0 ∷ pin 0 1 ∷ pin 1 0 ∷ []) ∷ net 1 None (pin 0 2 ∷ pin 1 1 ∷ []) ∷ [])

twins_reasons : reasons twins ≡ Some Blocked ∷ None ∷ []
twins_reasons = refl

twins_safe : map (is_safe_alone twins) (c 0 4 ∷ c 0 5 ∷ []) ≡ false ∷ true ∷ []
twins_safe = refl

twins_rules : IsBoard twins
twins_rules = board_of twins refl

-- On a net with an always-on driver and a controlled one, the always-on driver is tested and the controlled one is not.
abbrev steady : RawBoard
steady = board (mixed ∷ ts ∷ rcv ∷ []) (net 0 None (leg 0 9 ∷ pin 1 0 ∷ pin 2 0 ∷ []) ∷ [])

steady_reasons : reasons steady ≡ None ∷ []
steady_reasons = refl

steady_safe : is_safe_alone steady (c 1 1) ≡ false
steady_safe = refl

steady_pins : tested_pins steady ≡ at 0 0 ∷ at 0 2 ∷ []
steady_pins = refl

steady_rules : IsBoard steady
steady_rules = board_of steady refl

-- every setting enables the always-on driver, so the only pass has no controls
steady_passes : passes_of steady ≡ [] ∷ []
steady_passes = refl

-- A board with an always-on driver on a net that also has a dark pin. It keeps the rules of boards, and the
-- net is not covered.
abbrev dark_steady : RawBoard
dark_steady = board (mixed ∷ rcv ∷ []) (net 0 None (leg 0 9 ∷ pin 1 0 ∷ foreign (codes "RAM") ∷ []) ∷ [])

dark_steady_rules : IsBoard dark_steady
dark_steady_rules = board_of dark_steady refl

dark_steady_reasons : reasons dark_steady ≡ Some Dark ∷ []
dark_steady_reasons = refl

-- a device with a driving entry whose port bit has no pin, so the device has no driver
abbrev unpinned : RawDevice
unpinned =
    device (codes "Q" ∷ []) (port_bit 4 None Outward None false ∷ [])
    (entry 0 Output2 4 (Some (record { cell = 0; disable = true })) ∷ []) 1

-- A board with two one-sided drivers. The driver of part 0 is on no net, and that of part 3 is on net 0. No
-- safe setting has the cell of either driver as a control. The driving entry of part 1 has no pin, so it
-- makes no setting unsafe.
abbrev loose : RawBoard
loose = board (od ∷ unpinned ∷ ts ∷ od ∷ rcv ∷ []) (net 0 None (pin 3 0 ∷ pin 4 0 ∷ []) ∷ [])

loose_safe : map (is_safe_alone loose) (c 0 0 ∷ c 1 0 ∷ c 2 1 ∷ c 3 0 ∷ []) ≡ false ∷ true ∷ true ∷ false ∷ []
loose_safe = refl

-- A board with a bus of two drivers. The controls of these drivers are not together: the setting with both controls is not safe. Each of
-- the two controls is together with itself and with the control of the driver on the other net.
abbrev split : RawBoard
split = board (ts ∷ ts ∷ ts ∷ rcv ∷ []) (net 0 None (pin 0 0 ∷ pin 3 0 ∷ []) ∷ net 1 None (pin 1 0 ∷ pin 2 0 ∷ pin 3 1 ∷ []) ∷ [])

split_together : map (are_together split (c 1 1)) (c 0 1 ∷ c 1 1 ∷ c 2 1 ∷ []) ≡ true ∷ true ∷ false ∷ []
split_together = refl

split_useful : useful_controls split ≡ c 0 1 ∷ c 1 1 ∷ c 2 1 ∷ []
split_useful = refl

split_pairs : pairs split ≡ (0, 1) ∷ []
split_pairs = refl

split_rules : IsBoard split
split_rules = board_of split refl

-- A pass for a driver starts with the control of this driver. Two walks through the useful controls then add each control that is together
-- with all controls of the pass so far. The first walk adds only controls that no earlier pass has. In the first pass of `split`, the first
-- walk adds the control of part 1's bus driver. In the second pass, the first walk adds no control, and the second walk adds a control that
-- the first pass has too.
split_passes : passes_of split ≡ (c 0 1 ∷ c 1 1 ∷ []) ∷ (c 0 1 ∷ c 2 1 ∷ []) ∷ []
split_passes = refl

-- The board `fours` with one more driver, on a net of its own. The first walk of the first pass
-- adds this driver's control, and the second walks of the other two passes add it again.
abbrev more_fours : RawBoard
more_fours = board (four ∷ rcv ∷ rcv ∷ rcv ∷ ts ∷ []) (fours.nets ++ net 5 None (pin 4 0 ∷ pin 3 1 ∷ []) ∷ [])

more_fours_passes : passes_of more_fours
    ≡ (c 0 8 ∷ c 0 9 ∷ c 4 1 ∷ []) ∷ (c 0 10 ∷ c 0 11 ∷ c 4 1 ∷ []) ∷ (c 0 9 ∷ c 0 10 ∷ c 4 1 ∷ [])
    ∷ []
more_fours_passes = refl

-- A net with two pins. A driver is tested only if another pin receives, and a receiver only if another pin drives.
abbrev duo : Net
duo = net 0 None (pin 0 0 ∷ pin 1 0 ∷ [])

abbrev duo_board : RawBoard
duo_board = board (bi ∷ rcv ∷ []) (duo ∷ [])

duo_drivers : map (is_tested_driver duo_board duo) (0 ∷ 1 ∷ []) ≡ true ∷ false ∷ []
duo_drivers = refl

duo_receivers : map (is_tested_receiver duo_board duo) (0 ∷ 1 ∷ []) ≡ false ∷ true ∷ []
duo_receivers = refl

abbrev bidirectional : RawBoard
bidirectional = board (bi ∷ bi ∷ []) (duo ∷ [])

both_drivers : map (is_tested_driver bidirectional duo) (0 ∷ 1 ∷ []) ≡ true ∷ true ∷ []
both_drivers = refl

both_receivers : map (is_tested_receiver bidirectional duo) (0 ∷ 1 ∷ []) ≡ true ∷ true ∷ []
both_receivers = refl

control_order : map (precedes (c 1 2)) (c 1 3 ∷ c 2 0 ∷ c 1 2 ∷ c 1 1 ∷ c 0 9 ∷ []) ≡ true ∷ true ∷ false ∷ false ∷ false ∷ []
control_order = refl

control_inserted : inserted (c 1 2) (c 0 9 ∷ c 1 1 ∷ c 1 3 ∷ []) ≡ c 0 9 ∷ c 1 1 ∷ c 1 2 ∷ c 1 3 ∷ []
control_inserted = refl

control_there : inserted (c 1 2) (c 0 9 ∷ c 1 2 ∷ c 1 3 ∷ []) ≡ c 0 9 ∷ c 1 2 ∷ c 1 3 ∷ []
control_there = refl

-- A board with two paired nets. The test below lists its single faults, in the order of `singles`.
abbrev couple : RawBoard
couple = board (ts ∷ ts ∷ rcv ∷ []) (net 0 None (pin 0 0 ∷ pin 2 0 ∷ []) ∷ net 1 None (pin 1 0 ∷ pin 2 1 ∷ []) ∷ [])

couple_faults : singles couple ≡
    StuckNet 0 false ∷ StuckNet 0 true ∷ StuckNet 1 false ∷ StuckNet 1 true ∷ OpenPin (at 0 0) false
    ∷ OpenPin (at 0 0) true ∷ OpenPin (at 0 1) false ∷ OpenPin (at 0 1) true
    ∷ OpenPin (at 1 0) false ∷ OpenPin (at 1 0) true ∷ OpenPin (at 1 1) false
    ∷ OpenPin (at 1 1) true ∷ Short 0 1 And ∷ Short 0 1 Or ∷ Short 0 1 First ∷ Short 0 1 Second
    ∷ []
couple_faults = refl

-- the single faults of the board `bus`, which has one net and therefore no shorts
bus_faults : singles bus ≡
    StuckNet 0 false ∷ StuckNet 0 true ∷ OpenPin (at 0 0) false ∷ OpenPin (at 0 0) true
    ∷ OpenPin (at 0 1) false ∷ OpenPin (at 0 1) true ∷ OpenPin (at 0 2) false
    ∷ OpenPin (at 0 2) true ∷ []
bus_faults = refl

-- Boards that break the rules on always-on drivers: the driver is on a supply net or on a net with a TAP or compliance pin, or one net
-- has two such drivers.
abbrev steady_net : Bool → List NetPin → Net
steady_net supply more = record (net 0 None (leg 0 9 ∷ more)) { supply = supply }

abbrev steady_beside : Bool → List NetPin → RawBoard
steady_beside supply more = board (mixed ∷ mixed ∷ []) (steady_net supply more ∷ [])

supply_refused : NoGuardedDriver (steady_beside true []) → ⊥
supply_refused h = let broken = (h 0 0 (steady_net true []) (leg 0 9) (record { on_board = refl; in_net = refl }) refl).0 in cc broken

tap_refused : NoGuardedDriver (steady_beside false (clock 0 ∷ [])) → ⊥
tap_refused h =
    let broken =
    (h 0 0 (steady_net false (clock 0 ∷ [])) (leg 0 9) (record { on_board = refl; in_net = refl })
    refl).1 in
    cc broken

compliance_refused : NoGuardedDriver (steady_beside false (leg 0 14 ∷ [])) → ⊥
compliance_refused h =
    let broken =
    (h 0 0 (steady_net false (leg 0 14 ∷ [])) (leg 0 9)
    (record { on_board = refl; in_net = refl }) refl).1 in
    cc broken

two_refused : OneAlwaysOn (steady_beside false (leg 1 9 ∷ [])) → ⊥
two_refused h = h 0 (steady_net false (leg 1 9 ∷ [])) 0 1 (leg 0 9) (leg 1 9) refl refl refl (λ e. omega (arith, e)) refl refl
