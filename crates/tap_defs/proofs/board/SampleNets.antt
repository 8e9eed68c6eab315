-- Samples of the bits of nets on small boards, and of the bits that cells capture.
use Rattle.std.proofs.Common.{◌≡◌, ℕ, Bool, List, [], ◌∷◌, map, Option, Some, None, refl}
use Rattle.std.specs.List.{enumerate_from}
use Rattle.board_defs.specs.declared.board.PartKind.TheVariants.{Described}
use Rattle.board_defs.specs.declared.board.RawBoard.{RawBoard}
use Rattle.board_defs.specs.declared.fault.Kind.TheVariants.{And, Or, First, Second}
use Rattle.board_defs.specs.declared.fault.Single.TheVariants.{StuckNet, OpenPin, Short}
use Rattle.tap_defs.specs.chain.TestLogic.{Instruction, Extest, Sample}
use Rattle.tap_defs.specs.chain.Part.{PinState}
use Rattle.tap_defs.specs.board.FaultSet.{FaultSet, no_faults}
use Rattle.tap_defs.specs.board.NetBits.{net_bit, captured}
use Rattle.tap_defs.specs.board.Explaining.{set_of}
use Rattle.tap_defs.proofs.chain.SampleTexts.{on, off}
use Rattle.tap_defs.proofs.board.SampleBoards.{ts, rcv, pin, foreign, pulled, board}

-- a board of two three-state drivers, each on its own net with one of these pulls, and one receiver with two inputs
abbrev apart : Option Bool → Option Bool → RawBoard
apart first second = board (Described ts ∷ Described ts ∷ Described rcv ∷ []) (
    pulled first (pin 0 0 ∷ pin 2 0 ∷ []) ∷ pulled second (pin 1 0 ∷ pin 2 1 ∷ []) ∷ [])

abbrev plain : RawBoard
plain = apart None None

-- a board with both drivers on one net that is pulled up, and a board with one driver on a net with a dark
-- pin, that is, a pin that may drive the net although no setting controls it
abbrev shared : RawBoard
shared = board (Described ts ∷ Described ts ∷ Described rcv ∷ []) (pulled (Some on) (pin 0 0 ∷ pin 1 0 ∷ pin 2 0 ∷ []) ∷ [])

abbrev dark : RawBoard
dark = board (Described ts ∷ Described ts ∷ Described rcv ∷ []) (pulled (Some on) (pin 0 0 ∷ foreign ∷ pin 2 0 ∷ []) ∷ [])

-- the visible states of a part whose driver drives this bit, and of a part whose driver is off because its control cell
-- has the disable value
abbrev drives : Bool → PinState
drives bit = record { current = Extest; latches = bit ∷ off ∷ [] }

abbrev silent : PinState
silent = record { current = Extest; latches = off ∷ on ∷ [] }

-- the visible states of all parts; the receiver has this instruction
abbrev under : Instruction → PinState → PinState → List PinState
under instruction first second = first ∷ second ∷ record { current = instruction; latches = off ∷ off ∷ [] } ∷ []

abbrev states : PinState → PinState → List PinState
states first second = under Extest first second

-- the bits of all nets; a short that nothing decides has the bit 1
abbrev net_bits : RawBoard → FaultSet → List PinState → List (Option Bool)
net_bits b faults s = map (λ net. net_bit b faults s (λ k. on) net.0 net.1) (enumerate_from 0 b.nets)

-- a net with exactly one live driver is fed the driver's bit
fed : net_bits plain no_faults (states (drives on) (drives off)) ≡ Some on ∷ Some off ∷ []
fed = refl

-- a net without a live driver is held at its pull; without a pull, its bit is free
held : net_bits (apart None (Some on)) no_faults (states silent silent) ≡ None ∷ Some on ∷ []
held = refl

-- the bit of a net is free if the net has two live drivers, if one of its parts does not have EXTEST, or if it is
-- guarded
contended : net_bits shared no_faults (states (drives on) (drives on)) ≡ None ∷ []
contended = refl

not_all_in_extest : net_bits (apart (Some on) (Some on)) no_faults (under Sample (drives on) silent) ≡ None ∷ None ∷ []
not_all_in_extest = refl

guarded : net_bits dark no_faults (states (drives on) silent) ≡ None ∷ []
guarded = refl

-- If the only live driver is open, the net has its pull, or the driver's constant if it has no pull. An open driver
-- that is not live changes nothing.
open_driver : net_bits plain (set_of (OpenPin (record { net = 0; place = 0 }) off)) (states (drives on) silent) ≡ Some off ∷ None ∷ []
open_driver = refl

open_pulled : net_bits (apart (Some on) None) (set_of (OpenPin (record { net = 0; place = 0 }) off))
    (states (drives off) silent) ≡ Some on ∷ None ∷ []
open_pulled = refl

open_shared : net_bits shared (set_of (OpenPin (record { net = 0; place = 0 }) off)) (states silent (drives off)) ≡ Some off ∷ []
open_shared = refl

-- a stuck net has its constant, whatever drives it
stuck : net_bits plain (set_of (StuckNet 0 off)) (states (drives on) (drives on)) ≡ Some off ∷ Some on ∷ []
stuck = refl

stuck_undriven : net_bits plain (set_of (StuckNet 1 on)) (states silent silent) ≡ None ∷ Some on ∷ []
stuck_undriven = refl

-- shorts of two nets that are fed 1 and 0: And, Or, and each net dominant
short_and : net_bits plain (set_of (Short 0 1 And)) (states (drives on) (drives off)) ≡ Some off ∷ Some off ∷ []
short_and = refl

short_or : net_bits plain (set_of (Short 0 1 Or)) (states (drives on) (drives off)) ≡ Some on ∷ Some on ∷ []
short_or = refl

short_first : net_bits plain (set_of (Short 0 1 First)) (states (drives on) (drives off)) ≡ Some on ∷ Some on ∷ []
short_first = refl

short_second : net_bits plain (set_of (Short 0 1 Second)) (states (drives on) (drives off)) ≡ Some off ∷ Some off ∷ []
short_second = refl

-- if the dominant net is not fed, both nets have the bit of the other net, even against the dominant net's pull
short_silent : net_bits (apart (Some on) None) (set_of (Short 0 1 First)) (states silent (drives off)) ≡ Some off ∷ Some off ∷ []
short_silent = refl

-- if no net of a short is fed, the pulls decide
short_pulled : net_bits (apart (Some off) (Some on)) (set_of (Short 0 1 Or)) (states silent silent) ≡ Some on ∷ Some on ∷ []
short_pulled = refl

short_one_pulled : net_bits (apart None (Some off)) (set_of (Short 0 1 Or)) (states silent silent) ≡ Some off ∷ Some off ∷ []
short_one_pulled = refl

-- the bit of a short is free if no net is fed or held, or if some net is not ruled
short_free : net_bits plain (set_of (Short 0 1 And)) (states silent silent) ≡ Some on ∷ Some on ∷ []
short_free = refl

short_unruled : net_bits plain (set_of (Short 0 1 And)) (under Sample (drives off) (drives off)) ≡ Some on ∷ Some on ∷ []
short_unruled = refl

-- the bits that the boundary cells of a part capture if every free bit is 1
abbrev captures : RawBoard → FaultSet → List PinState → ℕ → List Bool
captures b faults s part =
    captured b faults s (λ k. on) (λ k. record { ir = λ i. on; cells = λ i. on; latches = λ i. on; tdo = on; other = on }) part

-- an input captures the bit of its net, and the cell of an output captures a free bit
inputs : captures plain no_faults (states (drives off) silent) 2 ≡ off ∷ on ∷ []
inputs = refl

outputs : captures plain no_faults (states (drives off) (drives off)) 0 ≡ on ∷ on ∷ []
outputs = refl

-- an open input captures its own constant, and its net does not change
open_input : captures plain (set_of (OpenPin (record { net = 0; place = 1 }) on)) (states (drives off) (drives off)) 2 ≡ on ∷ off ∷ []
open_input = refl
