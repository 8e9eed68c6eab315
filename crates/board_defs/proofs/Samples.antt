-- Small sample devices and boards, and what the definitions compute for them.
use Rattle.std.proofs.Common.{◌≡◌, ℕ, ◌+◌, Bool, true, false, List, [], ◌∷◌, ◌++◌, map, Option, Some, None, refl}
use Rattle.std.specs.Prelude.{codes}
use Rattle.board_defs.specs.declared.device.Symbol.TheVariants.{Zero, One, Any}
use Rattle.board_defs.specs.declared.device.Mode.{Mode}
use Rattle.board_defs.specs.declared.device.Mode.TheVariants.{Inward, Outward, Both, Linkage}
use Rattle.board_defs.specs.declared.device.Role.{Role}
use Rattle.board_defs.specs.declared.device.Role.TheVariants.{Input, Output2, Output3, Control as ControlRole, Bidir}
use Rattle.board_defs.specs.declared.device.Edition.TheVariants.{Old}
use Rattle.board_defs.specs.declared.device.Control.{Control}
use Rattle.board_defs.specs.declared.device.Cell.{Cell}
use Rattle.board_defs.specs.declared.device.PortBit.{PortBit}
use Rattle.board_defs.specs.declared.device.RawDevice.{RawDevice}
use Rattle.board_defs.specs.declared.board.PartKind.TheVariants.{Described}
use Rattle.board_defs.specs.declared.board.Part.{Part}
use Rattle.board_defs.specs.declared.board.NetPin.{NetPin}
use Rattle.board_defs.specs.declared.board.Net.{Net}
use Rattle.board_defs.specs.declared.board.RawBoard.{RawBoard}
use Rattle.board_defs.specs.declared.board.PinRef.{PinRef}
use Rattle.board_defs.specs.declared.board.Ctl.{Ctl}
use Rattle.board_defs.specs.declared.board.Drive.TheVariants.{OneSided, By}
use Rattle.board_defs.specs.declared.coverage.Reason.{Reason}
use Rattle.board_defs.specs.declared.coverage.Reason.TheVariants.{Supply, TestPort, Dark, NoDriver, Blocked}
use Rattle.board_defs.specs.declared.fault.Single.TheVariants.{StuckNet, OpenPin}
use Rattle.board_defs.specs.BoardRules.{IsBoard}
use Rattle.board_defs.specs.Pins.{drive, switches, data_bits}
use Rattle.board_defs.specs.Decided.{reason_of}
use Rattle.board_defs.specs.Passes.{passes_of}
use Rattle.board_defs.specs.Faults.{tested_pins, paired_nets, singles}
use Rattle.board_defs.proofs.BoardChecks.{board_of}

-- A port bit with this port number, index, mode and pin. No compliance pattern names it. `tap` is true for a
-- port of the test access port.
abbrev pub port_bit : ℕ → Option ℕ → Mode → Option (List ℕ) → Bool → PortBit
port_bit port index mode pin tap = record { port = port; index = index; mode = mode; pin = pin; tap = tap; compliance = false }

abbrev pub taps : List PortBit
taps =
    port_bit 0 None Inward (Some (codes "T1")) true
    ∷ port_bit 1 None Inward (Some (codes "T3")) true
    ∷ port_bit 2 None Inward (Some (codes "T4")) true
    ∷ port_bit 3 None Outward (Some (codes "T2")) true ∷ []

-- the bits of a vector port of this mode, one for each pin, with indexes from `i` on
abbrev pub vector : ℕ → Mode → ℕ → List (List ℕ) → List PortBit
vector port mode i [] = []
vector port mode i (pin ∷ pins) = port_bit port (Some i) mode (Some pin) false ∷ vector port mode (i + 1) pins

abbrev pub entry : ℕ → Role → ℕ → Option Control → Cell
entry num role bit ctl = record { num = num; role = role; bit = Some bit; safe = Any; ctl = ctl }

-- the entry of a control cell
abbrev pub control : ℕ → Cell
control num = record { num = num; role = ControlRole; bit = None; safe = One; ctl = None }

abbrev pub by : ℕ → Option Control
by cell = Some (record { cell = cell; disable = true })

abbrev pub device : List (List ℕ) → List PortBit → List Cell → ℕ → RawDevice
device ports bits cells boundary = record {
  entity = codes "E";
  «package» = codes "P";
  edition = Old;
  ports = codes "TDI" ∷ codes "TMS" ∷ codes "TCK" ∷ codes "TDO" ∷ ports;
  ir = 2;
  sample = Zero ∷ One ∷ [];
  extest = Zero ∷ Zero ∷ [];
  idcode = None;
  boundary = boundary;
  bits = taps ++ bits;
  cells = cells;
}

-- Sample devices: `rcv` has receivers on pins 1 and 2, `ts` has one three-state driver, `bi` has one bidirectional pin, `two` has two
-- controls that each enable two drivers, and `od` has a driver that its own cell enables.
abbrev pub rcv : RawDevice
rcv = device (codes "Q" ∷ []) (vector 4 Inward 1 (codes "1" ∷ codes "2" ∷ [])) (entry 0 Input 4 None ∷ entry 1 Input 5 None ∷ []) 2

abbrev pub ts : RawDevice
ts = device (codes "Q" ∷ []) (port_bit 4 None Outward (Some (codes "1")) false ∷ []) (entry 0 Output3 4 (by 1) ∷ control 1 ∷ []) 2

abbrev pub bi : RawDevice
bi = device (codes "Q" ∷ []) (port_bit 4 None Both (Some (codes "1")) false ∷ []) (entry 0 Bidir 4 (by 1) ∷ control 1 ∷ []) 2

abbrev pub two : RawDevice
two = device (codes "Q" ∷ []) (vector 4 Outward 1 (codes "1" ∷ codes "2" ∷ codes "3" ∷ codes "4" ∷ []))
    (entry 0 Output3 4 (by 4) ∷ entry 1 Output3 5 (by 4) ∷ entry 2 Output3 6 (by 5)
    ∷ entry 3 Output3 7 (by 5) ∷ control 4 ∷ control 5 ∷ []) 6

abbrev pub od : RawDevice
od = device (codes "Q" ∷ []) (port_bit 4 None Outward (Some (codes "1")) false ∷ []) (entry 0 Output2 4 (by 0) ∷ []) 1

-- A two-bit three-state buffer with the ports OE_N, A(1), A(0), Y(1), Y(0), GND and VCC. Cell 4 reads OE_N and controls Y.
abbrev buf2 : RawDevice
buf2 = device (codes "OE_N" ∷ codes "A" ∷ codes "Y" ∷ codes "GND" ∷ codes "VCC" ∷ [])
    (port_bit 4 None Inward (Some (codes "1")) false ∷ port_bit 5 (Some 1) Inward (Some (codes "2"))
    false ∷ port_bit 5 (Some 0) Inward (Some (codes "3")) false
    ∷ port_bit 6 (Some 1) Outward (Some (codes "4")) false ∷ port_bit 6 (Some 0) Outward (Some (codes "5")) false
    ∷ port_bit 7 None Linkage (Some (codes "6")) false ∷ port_bit 8 None Linkage (Some (codes "7")) false ∷ [])
    (entry 4 Input 4 None ∷ control 4 ∷ entry 3 Input 5 None ∷ entry 2 Input 6 None
    ∷ entry 1 Output3 7 (by 4) ∷ entry 0 Output3 8 (by 4) ∷ []) 5

-- The name of part `k`: U followed by `k + 1`.
abbrev pub part_name : ℕ → List ℕ
part_name k = 85 ∷ (49 + k) ∷ []

abbrev pub pin : ℕ → ℕ → NetPin
pin k b = record { part = part_name k; pin = (49 + b) ∷ []; at = Some (record { part = k; bit = b + 4 }); inert = false }

-- the TCK pin of part `k`
abbrev pub clock : ℕ → NetPin
clock k = record { part = part_name k; pin = codes "T4"; at = Some (record { part = k; bit = 2 }); inert = false }

abbrev pub foreign : List ℕ → NetPin
foreign name = record { part = name; pin = codes "1"; at = None; inert = false }

abbrev pub net : ℕ → Option Bool → List NetPin → Net
net n pull pins = record { name = 78 ∷ (48 + n) ∷ []; supply = false; pull = pull; pins = pins }

abbrev pub parts : ℕ → List RawDevice → List Part
parts k [] = []
parts k (d ∷ devices) = record { name = part_name k; kind = Described d } ∷ parts (k + 1) devices

abbrev pub board : List RawDevice → List Net → RawBoard
board devices nets = record { chain = parts 0 devices; nets = nets }

abbrev pub c : ℕ → ℕ → Ctl
c part cell = record { part = part; cell = cell }

abbrev pub at : ℕ → ℕ → PinRef
at n place = record { net = n; place = place }

abbrev pub reasons : RawBoard → List (Option Reason)
reasons b = map (reason_of b) b.nets

abbrev pub pairs : RawBoard → List (ℕ × ℕ)
pairs b = map (λ pair. (pair.0.0, pair.1.0)) (paired_nets b)

-- Two three-state drivers and a receiver on one net. Each driver needs a pass of its own.
abbrev pub bus_net : Net
bus_net = net 0 None (pin 0 0 ∷ pin 1 0 ∷ pin 2 0 ∷ [])

abbrev pub bus : RawBoard
bus = board (ts ∷ ts ∷ rcv ∷ []) (bus_net ∷ [])

bus_covered : reasons bus ≡ None ∷ []
bus_covered = refl

bus_pins : tested_pins bus ≡ at 0 0 ∷ at 0 1 ∷ at 0 2 ∷ []
bus_pins = refl

bus_rules : IsBoard bus
bus_rules = board_of bus refl

bus_passes : passes_of bus ≡ (c 0 1 ∷ []) ∷ (c 1 1 ∷ []) ∷ []
bus_passes = refl

-- A board with the device `two`. Net 1 has a driver of each control of this device, and is paired with each of the other two nets, and
-- those two are not paired with each other.
abbrev pub crossing : RawBoard
crossing =
    board (two ∷ rcv ∷ rcv ∷ [])
    (net 0 None (pin 0 0 ∷ pin 1 0 ∷ []) ∷ net 1 None (pin 0 1 ∷ pin 0 2 ∷ pin 1 1 ∷ [])
    ∷ net 2 None (pin 0 3 ∷ pin 2 0 ∷ []) ∷ [])

crossing_covered : reasons crossing ≡ None ∷ None ∷ None ∷ []
crossing_covered = refl

crossing_pairs : pairs crossing ≡ (0, 1) ∷ (1, 2) ∷ []
crossing_pairs = refl

crossing_rules : IsBoard crossing
crossing_rules = board_of crossing refl

crossing_passes : passes_of crossing ≡ (c 0 4 ∷ []) ∷ (c 0 5 ∷ []) ∷ []
crossing_passes = refl

-- A net with a bidirectional pin and a driver. The bidirectional pin is tested only as a receiver, since no other pin of the net
-- receives.
abbrev pub shared : RawBoard
shared = board (bi ∷ ts ∷ []) (net 0 None (pin 0 0 ∷ pin 1 0 ∷ []) ∷ [])

shared_covered : reasons shared ≡ None ∷ []
shared_covered = refl

shared_driver : drive shared (net 0 None (pin 0 0 ∷ pin 1 0 ∷ [])) (pin 0 0) ≡ Some (By (c 0 1))
shared_driver = refl

shared_rules : IsBoard shared
shared_rules = board_of shared refl

shared_passes : passes_of shared ≡ (c 1 1 ∷ []) ∷ []
shared_passes = refl

-- A board with two buffers, a supply net, and a net for the clock of the test access port. Each of the last two nets also has a pin of a
-- part outside the chain.
abbrev buffers : RawBoard
buffers = board (buf2 ∷ buf2 ∷ []) (
    net 0 None (pin 0 4 ∷ pin 1 2 ∷ []) ∷ net 1 None (pin 0 3 ∷ pin 1 1 ∷ []) ∷ net 2 None (pin 0 0 ∷ pin 1 0 ∷ [])
    ∷ record { name = codes "VCC"; supply = true; pull = None; pins = pin 0 6 ∷ pin 1 6 ∷ foreign (codes "C1") ∷ [] }
    ∷ net 3 None (clock 0 ∷ clock 1 ∷ foreign (codes "J1") ∷ []) ∷ [])

buffers_reasons : reasons buffers ≡ None ∷ None ∷ Some NoDriver ∷ Some Supply ∷ Some TestPort ∷ []
buffers_reasons = refl

buffers_rules : IsBoard buffers
buffers_rules = board_of buffers refl

buffers_passes : passes_of buffers ≡ (c 0 4 ∷ []) ∷ []
buffers_passes = refl

buffers_bits : data_bits buffers ≡ 10
buffers_bits = refl

-- A board with one net, which has a driver, a receiver and pin `p`. If `p` is a pin of a part outside the
-- chain (`foreign`), it is dark, and the net is not covered. A pin of an inert part is not dark.
abbrev beside : NetPin → RawBoard
beside p = board (ts ∷ rcv ∷ []) (net 0 None (pin 0 0 ∷ pin 1 0 ∷ p ∷ []) ∷ [])

dark_rules : IsBoard (beside (foreign (codes "RAM")))
dark_rules = board_of (beside (foreign (codes "RAM"))) refl

dark : reasons (beside (foreign (codes "RAM"))) ≡ Some Dark ∷ []
dark = refl

not_dark : reasons (beside (record { part = codes "RAM"; pin = codes "7"; at = None; inert = true })) ≡ None ∷ []
not_dark = refl

-- A net with a driver that its own cell enables. If the net is pulled to the cell's disable value, the driver
-- is a switching driver. Otherwise the driver is one-sided, and the net is blocked.
abbrev pub pulled : Option Bool → Net
pulled pull = net 0 pull (pin 0 0 ∷ pin 1 0 ∷ [])

abbrev pub pull : Option Bool → RawBoard
pull value = board (od ∷ rcv ∷ []) (pulled value ∷ [])

pull_rules : (value : Option Bool) → IsBoard (pull value)
pull_rules None = board_of (pull None) refl
pull_rules (Some false) = board_of (pull (Some false)) refl
pull_rules (Some true) = board_of (pull (Some true)) refl

switching : reasons (pull (Some true)) ≡ None ∷ []
switching = refl

switching_driver : drive (pull (Some true)) (pulled (Some true)) (pin 0 0) ≡ Some (By (c 0 0))
switching_driver = refl

switching_pin : switches (pull (Some true)) (pulled (Some true)) (pin 0 0) ≡ true
switching_pin = refl

switching_passes : passes_of (pull (Some true)) ≡ (c 0 0 ∷ []) ∷ []
switching_passes = refl

other_pull : reasons (pull (Some false)) ≡ Some Blocked ∷ []
other_pull = refl

no_pull : drive (pull None) (pulled None) (pin 0 0) ≡ Some OneSided
no_pull = refl

one_sided_passes : passes_of (pull None) ≡ []
one_sided_passes = refl

-- the single faults of the pulled net, in the order of `singles`
switching_faults : singles (pull (Some true))
    ≡ StuckNet 0 false ∷ StuckNet 0 true ∷ OpenPin (at 0 0) false ∷ OpenPin (at 0 0) true
    ∷ OpenPin (at 0 1) false ∷ OpenPin (at 0 1) true ∷ []
switching_faults = refl

-- a device with four controls, each of which enables two drivers
abbrev pub four : RawDevice
four =
    device (codes "Q" ∷ [])
    (vector 4 Outward 1
    (codes "1" ∷ codes "2" ∷ codes "3" ∷ codes "4" ∷ codes "5" ∷ codes "6" ∷ codes "7"
    ∷ codes "8" ∷ []))
    (entry 0 Output3 4 (by 8) ∷ entry 1 Output3 5 (by 8) ∷ entry 2 Output3 6 (by 9) ∷ entry 3
    Output3 7 (by 9) ∷ entry 4 Output3 8 (by 10) ∷ entry 5 Output3 9 (by 10)
    ∷ entry 6 Output3 10 (by 11) ∷ entry 7 Output3 11 (by 11) ∷ control 8 ∷ control 9 ∷ control 10 ∷ control 11 ∷ []) 12

-- a board whose third pass is for two nets that neither of the first two passes observes together
abbrev pub fours : RawBoard
fours = board (four ∷ rcv ∷ rcv ∷ rcv ∷ []) (
    net 0 None (pin 0 0 ∷ pin 0 4 ∷ pin 1 0 ∷ []) ∷ net 1 None (pin 0 1 ∷ pin 0 6 ∷ pin 1 1 ∷ [])
    ∷ net 2 None (pin 0 2 ∷ pin 0 7 ∷ pin 2 0 ∷ [])
    ∷ net 3 None (pin 0 3 ∷ pin 2 1 ∷ []) ∷ net 4 None (pin 0 5 ∷ pin 3 0 ∷ []) ∷ [])

fours_rules : IsBoard fours
fours_rules = board_of fours refl

fours_passes : passes_of fours ≡ (c 0 8 ∷ c 0 9 ∷ []) ∷ (c 0 10 ∷ c 0 11 ∷ []) ∷ (c 0 9 ∷ c 0 10 ∷ []) ∷ []
fours_passes = refl
