-- Samples of live drivers, of what drives a net, of shorts of every kind, and of what each kind of cell captures.
use Rattle.std.proofs.Common.{◌≡◌, ℕ, ◌==◌, Bool, true, false, ◌&&◌, List, [], ◌∷◌, map, take, Option, Some, None, refl}
use Rattle.std.specs.Prelude.{codes, cond, nat_lt}
use Rattle.std.specs.List.{enumerate_from}
use Rattle.std.proofs.lemmas.Bool.{eqb-true}
use Rattle.board_defs.specs.declared.device.Mode.TheVariants.{Inward, Outward, Both}
use Rattle.board_defs.specs.declared.device.Role.TheVariants.{Input, Output3, Clock, Bidir, ObserveOnly}
use Rattle.board_defs.specs.declared.device.RawDevice.{RawDevice}
use Rattle.board_defs.specs.declared.board.PartKind.TheVariants.{Described, Bypass as WithoutDescription}
use Rattle.board_defs.specs.declared.board.NetPin.{NetPin}
use Rattle.board_defs.specs.declared.board.RawBoard.{RawBoard}
use Rattle.tap_defs.specs.chain.TestLogic.{Instruction, Extest, Sample, Bypass, Idcode, Other}
use Rattle.tap_defs.specs.chain.Part.{PinState}
use Rattle.tap_defs.specs.board.FaultSet.{ShortKind, And, Or, Dominant, FaultSet, no_faults, IsFaultSet, IsNonempty, some_stuck, some_open, some_short}
use Rattle.tap_defs.specs.board.NetBits.{live, net_bit, captured, feeding, Feeding, Unruled, Undriven, Driven, Contended}
use Rattle.tap_defs.proofs.chain.SampleTexts.{on, off}
use Rattle.tap_defs.proofs.board.SampleBoards.{port_bit, one_bit, entry, by, control, device, drv, rcv, rcv1, ts, od, pin, pin_at_bit, foreign, pulled, net, board, bus}

-- the visible state of a part with this instruction and these latches
abbrev shows : Instruction → List Bool → PinState
shows instruction latches = record { current = instruction; latches = latches }

abbrev under_test : List Bool → PinState
under_test latches = shows Extest latches

-- `ts0` has a driver that a control cell disables with a 0. `drivers` is a board of four parts: a three-state driver
-- that its control cell disables with a 1, drivers that are always on, a driver that its own cell disables with a 1, and
-- `ts0`.
abbrev ts0 : RawDevice
ts0 = device (one_bit Outward) (entry 0 Output3 4 (Some (record { cell = 1; disable = false })) ∷ control 1 ∷ []) 2

abbrev drivers : RawBoard
drivers = board (Described ts ∷ Described drv ∷ Described od ∷ Described ts0 ∷ []) []

-- for each of the four parts: true if its driver is live while cell 0 has the latch `first` and cell 1 the latch
-- `second`
abbrev live_of : Instruction → Bool → Bool → List Bool
live_of instruction first second =
    let states : List PinState = map (λ latches. shows instruction latches)
    ((first ∷ second ∷ []) ∷ (first ∷ second ∷ []) ∷ (first ∷ []) ∷ (first ∷ second ∷ []) ∷ [])
    in
    map (λ k. live drivers states (pin k 0)) (0 ∷ 1 ∷ 2 ∷ 3 ∷ [])

-- Under EXTEST, a driver that is always on is live. Any other driver is live if and only if the latch of its control cell differs from the
-- disable value. If its data cell is another cell, the latch of the data cell does not matter.
live_low : live_of Extest off off ≡ true ∷ true ∷ true ∷ false ∷ []
live_low = refl

live_high : live_of Extest off on ≡ false ∷ true ∷ true ∷ true ∷ []
live_high = refl

live_own : live_of Extest on off ≡ true ∷ true ∷ false ∷ false ∷ []
live_own = refl

-- no driver is live under another instruction
live_under_other : map (λ i. live_of i off off) (Sample ∷ Bypass ∷ Idcode ∷ Other ∷ [])
    ≡ map (λ (i : Instruction). false ∷ false ∷ false ∷ false ∷ [])
    (Sample ∷ Bypass ∷ Idcode ∷ Other ∷ [])
live_under_other = refl

-- The visible states of two three-state drivers and a receiver on one net. `first` and `second` are the latches of the
-- drivers' control cells.
abbrev states_of : Bool → Bool → Instruction → List PinState
states_of first second receiver = under_test (on ∷ first ∷ []) ∷ under_test (off ∷ second ∷ []) ∷ shows receiver (off ∷ []) ∷ []

abbrev fed_by : List NetPin → Bool → Bool → Instruction → Feeding
fed_by more first second receiver = feeding bus (states_of first second receiver) (net (pin 0 0 ∷ pin 1 0 ∷ pin 2 0 ∷ more))

nobody : fed_by [] on on Extest ≡ Undriven
nobody = refl

first_drives : fed_by [] off on Extest ≡ Driven 0 on
first_drives = refl

second_drives : fed_by [] on off Extest ≡ Driven 1 off
second_drives = refl

two_drive : fed_by [] off off Extest ≡ Contended
two_drive = refl

-- If a receiver's part has an instruction other than EXTEST, or the net is guarded, the model does not say what drives
-- the net. A pin of an inert part changes nothing.
receiver_bypassed : fed_by [] off on Bypass ≡ Unruled
receiver_bypassed = refl

receiver_sampling : fed_by [] off on Sample ≡ Unruled
receiver_sampling = refl

beside_foreign : fed_by (foreign ∷ []) off on Extest ≡ Unruled
beside_foreign = refl

beside_clock : fed_by (pin_at_bit 2 2 ∷ []) off on Extest ≡ Unruled
beside_clock = refl

beside_inert : fed_by (record foreign { inert = true } ∷ []) off on Extest ≡ Driven 0 on
beside_inert = refl

on_supply : feeding bus (states_of off on Extest) (record (net (pin 0 0 ∷ pin 2 0 ∷ [])) { supply = true }) ≡ Unruled
on_supply = refl

-- `opened` adds an open pin with this constant to the given faults. `stuck` makes a net, with this constant, their
-- only stuck net. `shorted` is a short of the first `count` nets.
abbrev opened : ℕ → ℕ → Bool → FaultSet → FaultSet
opened net place constant faults = record faults { opened = λ n i. cond ((n == net) && (i == place)) (Some constant) (faults.opened n i) }

abbrev stuck : ℕ → Bool → FaultSet → FaultSet
stuck net constant faults = record faults { stuck = λ n. cond (n == net) (Some constant) None }

abbrev shorted : ℕ → ShortKind → FaultSet
shorted count kind = record no_faults { short = λ n. cond (nat_lt n count) (Some 0) None; kind = λ k. kind }

-- the bits of all nets; `short` is the bit of a short that nothing decides
abbrev net_bits : Bool → RawBoard → FaultSet → List PinState → List (Option Bool)
net_bits short b faults s = map (λ net. net_bit b faults s (λ k. short) net.0 net.1) (enumerate_from 0 b.nets)

-- a board with one net of two three-state drivers and a receiver, with this pull
abbrev pulled_bus : Option Bool → List NetPin → RawBoard
pulled_bus pull more = record bus { nets = pulled pull (pin 0 0 ∷ pin 1 0 ∷ pin 2 0 ∷ more) ∷ [] }

abbrev bus_bit : Option Bool → FaultSet → Bool → Bool → List (Option Bool)
bus_bit pull faults first second = net_bits on (pulled_bus pull []) faults (states_of first second Extest)

-- if the only live driver is open, the net has its pull, or the constant of the driver's pin if the net has no pull
open_to_pull : map (λ constant. bus_bit (Some off) (opened 0 0 constant no_faults) off on)
    (off ∷ on ∷ []) ≡ (Some off ∷ []) ∷ (Some off ∷ []) ∷ []
open_to_pull = refl

open_to_high_pull : map (λ constant. bus_bit (Some on) (opened 0 0 constant no_faults) off on)
    (off ∷ on ∷ []) ≡ (Some on ∷ []) ∷ (Some on ∷ []) ∷ []
open_to_high_pull = refl

open_to_constant : map (λ constant. bus_bit None (opened 0 0 constant no_faults) off on)
    (off ∷ on ∷ []) ≡ (Some off ∷ []) ∷ (Some on ∷ []) ∷ []
open_to_constant = refl

-- An open driver that is off changes nothing while the other driver is on. If two drivers are live and one of them is open, the net stays
-- contended.
open_but_off : bus_bit (Some on) (opened 0 0 on no_faults) on off ≡ Some off ∷ []
open_but_off = refl

open_contended : bus_bit (Some on) (opened 0 0 on no_faults) off off ≡ None ∷ []
open_contended = refl

-- an open receiver does not change its net
open_receiver : bus_bit None (opened 0 2 off no_faults) off on ≡ Some on ∷ []
open_receiver = refl

-- a stuck net has its constant, even if its driver is open, two drivers are live, or a pin guards it
stuck_open : bus_bit (Some on) (stuck 0 off (opened 0 0 on no_faults)) off on ≡ Some off ∷ []
stuck_open = refl

stuck_contended : bus_bit (Some on) (stuck 0 off no_faults) off off ≡ Some off ∷ []
stuck_contended = refl

stuck_guarded : net_bits on (pulled_bus None (foreign ∷ [])) (stuck 0 on no_faults) (states_of off off Extest) ≡ Some on ∷ []
stuck_guarded = refl

-- a board with three nets with these pulls, each from a three-state driver to an input
abbrev three : Option Bool → Option Bool → Option Bool → RawBoard
three first second third = board (Described ts ∷ Described ts ∷ Described ts ∷ Described rcv ∷ Described rcv ∷ []) (
    pulled first (pin 0 0 ∷ pin 3 0 ∷ []) ∷ pulled second (pin 1 0 ∷ pin 3 1 ∷ []) ∷ pulled third (pin 2 0 ∷ pin 4 0 ∷ []) ∷ [])

-- the visible state of a part whose driver drives this bit, or drives nothing
abbrev giving : Option Bool → PinState
giving None = under_test (off ∷ on ∷ [])
giving (Some bit) = under_test (bit ∷ off ∷ [])

abbrev three_give : Option Bool → Option Bool → Option Bool → List PinState
three_give first second third = giving first ∷ giving second ∷ giving third ∷ under_test (off ∷ off ∷ []) ∷ under_test (off ∷ off ∷ []) ∷ []

-- the four kinds of a short of the first two nets: And, Or, the first net dominant, and the second net dominant
abbrev kinds : List ShortKind
kinds = And ∷ Or ∷ Dominant 0 ∷ Dominant 1 ∷ []

abbrev pair_by : Bool → Option Bool → Option Bool → Option Bool → Option Bool → List (List (Option Bool))
pair_by short pull other first second =
    map (λ kind. take 2 (net_bits short (three pull other None) (shorted 2 kind) (three_give first second None))) kinds

abbrev pair : Option Bool → Option Bool → Option Bool → Option Bool → List (List (Option Bool))
pair pull other first second = pair_by off pull other first second

-- the expected bits of both nets under each of these four kinds
abbrev read : Bool → Bool → Bool → Bool → List (List (Option Bool))
read and or first second = map (λ bit. Some bit ∷ Some bit ∷ []) (and ∷ or ∷ first ∷ second ∷ [])

high_and_low : pair None None (Some on) (Some off) ≡ read off on on off
high_and_low = refl

low_and_high : pair None None (Some off) (Some on) ≡ read off on off on
low_and_high = refl

both_high : pair (Some off) (Some off) (Some on) (Some on) ≡ read on on on on
both_high = refl

-- A bit to which a net is driven takes precedence over pulls, even over the pull of the dominant net.
driven_and_held : pair None (Some off) (Some on) None ≡ read on on on on
driven_and_held = refl

held_and_driven : pair (Some on) None None (Some off) ≡ read off off off off
held_and_driven = refl

-- If neither net is driven, their pulls are combined in the same way. If only one net has a pull, both nets have
-- the bit of this pull.
pulls_differ : pair (Some on) (Some off) None None ≡ read off on on off
pulls_differ = refl

other_pulls : pair (Some off) (Some on) None None ≡ read off on off on
other_pulls = refl

one_pull : pair None (Some on) None None ≡ read on on on on
one_pull = refl

-- if neither net is driven or has a pull, the bit of the short is free, and both nets have this bit
nothing_decides : map (λ bit. pair_by bit None None None None) (off ∷ on ∷ []) ≡ read off off off off ∷ read on on on on ∷ []
nothing_decides = refl

-- Shorts of three nets. If the dominant net is not driven, the bit of the short is the And of the bits of the driven
-- nets. If no net is driven and the dominant net has no pull, it is the And of the pulls of the other nets.
abbrev all_three : ShortKind → RawBoard → Option Bool → Option Bool → Option Bool → List (Option Bool)
all_three kind b first second third = net_bits on b (shorted 3 kind) (three_give first second third)

abbrev each : Bool → List (Option Bool)
each bit = Some bit ∷ Some bit ∷ Some bit ∷ []

dominant_silent : all_three (Dominant 0) (three None None None) None (Some on) (Some off) ≡ each off
dominant_silent = refl

dominant_silent_high : all_three (Dominant 0) (three (Some off) None None) None (Some on) (Some on) ≡ each on
dominant_silent_high = refl

dominant_unpulled : all_three (Dominant 0) (three None (Some on) (Some off)) None None None ≡ each off
dominant_unpulled = refl

dominant_driven : all_three (Dominant 2) (three None None None) (Some off) (Some off) (Some on) ≡ each on
dominant_driven = refl

three_or : all_three Or (three None None None) (Some off) (Some off) (Some on) ≡ each on
three_or = refl

three_and : all_three And (three None None None) (Some on) (Some off) (Some on) ≡ each off
three_and = refl

-- a net that is not in the short keeps its bit
third_apart : net_bits on (three None None None) (shorted 2 And)
    (three_give (Some on) (Some off) (Some on)) ≡ Some off ∷ Some off ∷ Some on ∷ []
third_apart = refl

-- if the driver of a shorted net is open, it does not drive the net, and the constant of the driver's pin does not count
open_in_short : net_bits on (three None None None) (opened 0 0 off (shorted 2 And))
    (three_give (Some off) (Some on) None) ≡ Some on ∷ Some on ∷ None ∷ []
open_in_short = refl

open_short_pulled : net_bits on (three (Some off) None None) (opened 0 0 on (shorted 2 Or))
    (three_give (Some on) None None) ≡ Some off ∷ Some off ∷ None ∷ []
open_short_pulled = refl

open_short_free : map
    (λ bit. net_bits bit (three None None None) (opened 0 0 on (shorted 2 Or))
    (three_give (Some on) None None)) (off ∷ on ∷ []) ≡
    (Some off ∷ Some off ∷ None ∷ []) ∷ (Some on ∷ Some on ∷ None ∷ []) ∷ []
open_short_free = refl

-- The bit of a short is free if one of its nets is not ruled or has two live drivers, whatever the other nets are
-- driven to.
abbrev one_unruled : Bool → List (Option Bool)
one_unruled bit =
    net_bits bit (three None None None) (record (shorted 3 Or) { short = λ n. cond (n == 1) None (Some 0) })
    (giving (Some off) ∷ giving (Some on) ∷ giving (Some off) ∷ under_test (off ∷ off ∷ []) ∷ shows Sample (off ∷ off ∷ []) ∷ [])

short_not_ruled : map one_unruled (off ∷ on ∷ []) ≡ (Some off ∷ Some on ∷ Some off ∷ []) ∷ (Some on ∷ Some on ∷ Some on ∷ []) ∷ []
short_not_ruled = refl

abbrev crowded : RawBoard
crowded = record (three None None None) { nets = net (pin 0 0 ∷ pin 1 0 ∷ pin 3 0 ∷ []) ∷ net (pin 2 0 ∷ pin 3 1 ∷ []) ∷ [] }

short_contended : map
    (λ bit. net_bits bit crowded (shorted 2 And) (three_give (Some on) (Some on) (Some on)))
    (off ∷ on ∷ []) ≡ (Some off ∷ Some off ∷ []) ∷ (Some on ∷ Some on ∷ []) ∷ []
short_contended = refl

-- the bits that the boundary cells of a part capture if every free bit is `free`
abbrev captures : RawBoard → FaultSet → List PinState → ℕ → Bool → List Bool
captures b faults s k free =
    captured b faults s (λ j. free) (λ j. record { ir = λ i. free; cells = λ i. free; latches = λ i. free; tdo = free; other = free }) k

abbrev captures_by : RawBoard → FaultSet → List PinState → ℕ → List (List Bool)
captures_by b faults s k = map (captures b faults s k) (off ∷ on ∷ [])

-- A bidirectional pin with one BIDIR cell, and one with an output cell and an input cell. Each of them reads its net
-- only while it does not drive.
abbrev bi : RawDevice
bi = device (one_bit Both) (entry 0 Bidir 4 (by 1) ∷ control 1 ∷ []) 2

abbrev apart : RawDevice
apart = device (one_bit Both) (entry 0 Input 4 None ∷ entry 1 Output3 4 (by 2) ∷ control 2 ∷ []) 3

abbrev meeting : RawBoard
meeting = board (Described bi ∷ Described apart ∷ Described rcv1 ∷ []) (net (pin 0 0 ∷ pin 1 0 ∷ pin 2 0 ∷ []) ∷ [])

abbrev first_on : List PinState
first_on = under_test (on ∷ off ∷ []) ∷ under_test (off ∷ off ∷ on ∷ []) ∷ under_test (off ∷ []) ∷ []

abbrev second_on : List PinState
second_on = under_test (off ∷ on ∷ []) ∷ under_test (off ∷ on ∷ off ∷ []) ∷ under_test (off ∷ []) ∷ []

own_driver_free : captures_by meeting no_faults first_on 0 ≡ (off ∷ off ∷ []) ∷ (on ∷ on ∷ []) ∷ []
own_driver_free = refl

other_reads : captures_by meeting no_faults first_on 1 ≡ (on ∷ off ∷ off ∷ []) ∷ (on ∷ on ∷ on ∷ []) ∷ []
other_reads = refl

own_input_free : captures_by meeting no_faults second_on 1 ≡ (off ∷ off ∷ off ∷ []) ∷ (on ∷ on ∷ on ∷ []) ∷ []
own_input_free = refl

bidir_reads : captures_by meeting no_faults second_on 0 ≡ (on ∷ off ∷ []) ∷ (on ∷ on ∷ []) ∷ []
bidir_reads = refl

-- an open pin reads its constant while it does not drive, and a free bit while it drives
open_reads : map (λ constant. captures meeting (opened 0 0 constant no_faults) second_on 0 on)
    (off ∷ on ∷ []) ≡ (off ∷ on ∷ []) ∷ (on ∷ on ∷ []) ∷ []
open_reads = refl

open_drives : map (λ free. captures meeting (opened 0 0 off no_faults) first_on 0 free)
    (off ∷ on ∷ []) ≡ (off ∷ off ∷ []) ∷ (on ∷ on ∷ []) ∷ []
open_drives = refl

-- If the only live driver is open and the net has no pull, a receiver reads the constant of the driver's pin. A receiver reads the bit of a
-- stuck net. If the receiver is open, it reads its own constant, even on a stuck net.
reads_open_driver : captures_by meeting (opened 0 0 off no_faults) first_on 2 ≡ (off ∷ []) ∷ (off ∷ []) ∷ []
reads_open_driver = refl

open_on_stuck : captures_by meeting (opened 0 2 off (stuck 0 on no_faults)) first_on 2 ≡ (off ∷ []) ∷ (off ∷ []) ∷ []
open_on_stuck = refl

reads_stuck : captures_by meeting (stuck 0 off no_faults) first_on 2 ≡ (off ∷ []) ∷ (off ∷ []) ∷ []
reads_stuck = refl

-- A CLOCK cell reads like an INPUT cell. An OBSERVE_ONLY cell, an INPUT cell at an output, and an INPUT cell whose pin is on no net
-- capture free bits in the model. (A real OBSERVE_ONLY cell reads its net, but no test compares it.) The nets carry 1.
abbrev readers : RawDevice
readers = device
    (port_bit 4 None Inward (codes "1") false ∷ port_bit 5 None Inward (codes "2") false
    ∷ port_bit 6 None Outward (codes "3") false ∷ port_bit 7 None Inward (codes "4") false
    ∷ [])
    (entry 0 Clock 4 None ∷ entry 1 ObserveOnly 5 None ∷ entry 2 Input 6 None
    ∷ entry 3 Output3 6 (by 4) ∷ control 4 ∷ entry 5 Input 7 None ∷ []) 6

abbrev reading : RawBoard
reading = board (Described drv ∷ Described readers ∷ []) (net (pin 0 0 ∷ pin 1 0 ∷ pin 1 1 ∷ []) ∷ net (pin 0 1 ∷ pin 1 2 ∷ []) ∷ [])

cells_read : captures_by reading no_faults (under_test (on ∷ on ∷ []) ∷ under_test (off ∷ off ∷ off ∷ off ∷ on ∷ off ∷ []) ∷ []) 1 ≡
    (on ∷ off ∷ off ∷ off ∷ off ∷ off ∷ []) ∷ (on ∷ on ∷ on ∷ on ∷ on ∷ on ∷ []) ∷ []
cells_read = refl

-- Each cell on a guarded net captures a free bit of its own. A part without a description has no boundary cells.
abbrev guarded : RawBoard
guarded = board (Described drv ∷ WithoutDescription 2 ∷ Described rcv ∷ []) (net (pin 0 0 ∷ pin 2 0 ∷ pin 2 1 ∷ foreign ∷ []) ∷ [])

abbrev guarded_states : List PinState
guarded_states = under_test (on ∷ on ∷ []) ∷ shows Bypass [] ∷ under_test (off ∷ off ∷ []) ∷ []

guarded_free : captures_by guarded no_faults guarded_states 2 ≡ (off ∷ off ∷ []) ∷ (on ∷ on ∷ []) ∷ []
guarded_free = refl

no_cells : captures guarded no_faults guarded_states 1 on ≡ []
no_cells = refl

-- These are not fault sets: a stuck net in a short, a short of one net, and a short whose dominant net is not in it.
stuck_and_shorted : IsFaultSet (three None None None) (stuck 0 on (shorted 2 And)) → ⊥
stuck_and_shorted is_set = let apart_is = is_set.disjoint 0 on refl in cc apart_is

abbrev lonely : FaultSet
lonely = record no_faults { short = λ n. cond (n == 0) (Some 0) None }

short_of_one : IsFaultSet (three None None None) lonely → ⊥
short_of_one is_set = let other = is_set.several 0 0 refl in other.1 (eqb-true other.0 0 (chosen (other.0 == 0) other.2))
  where
    chosen : (b : Bool) → cond {A = Option ℕ} b (Some 0) None ≡ Some 0 → b ≡ true
    chosen true e = refl
    chosen false e = cc e

dominant_outside : IsFaultSet (three None None None) (shorted 2 (Dominant 2)) → ⊥
dominant_outside is_set = let inside = is_set.dominant 0 0 2 refl refl in cc inside

nothing_faulty : IsNonempty no_faults → ⊥
nothing_faulty (some_stuck n v e) = cc e
nothing_faulty (some_open n i v e) = cc e
nothing_faulty (some_short n k e) = cc e
