-- Small boards that the samples use.
use Rattle.std.proofs.Common.{ℕ, ◌+◌, Bool, true, false, List, [], ◌∷◌, ◌++◌, map, Option, Some, None}
use Rattle.std.specs.Prelude.{codes}
use Rattle.board_defs.specs.declared.device.Symbol.TheVariants.{Zero, One, Any}
use Rattle.board_defs.specs.declared.device.Mode.{Mode}
use Rattle.board_defs.specs.declared.device.Mode.TheVariants.{Inward, Outward, Linkage}
use Rattle.board_defs.specs.declared.device.Role.{Role}
use Rattle.board_defs.specs.declared.device.Role.TheVariants.{Input, Output2, Output3, Control as ControlRole}
use Rattle.board_defs.specs.declared.device.Edition.TheVariants.{Old, Of2001}
use Rattle.board_defs.specs.declared.device.Control.{Control}
use Rattle.board_defs.specs.declared.device.Cell.{Cell}
use Rattle.board_defs.specs.declared.device.PortBit.{PortBit}
use Rattle.board_defs.specs.declared.device.RawDevice.{RawDevice}
use Rattle.board_defs.specs.declared.board.PartKind.{PartKind}
use Rattle.board_defs.specs.declared.board.PartKind.TheVariants.{Described, Bypass}
use Rattle.board_defs.specs.declared.board.NetPin.{NetPin}
use Rattle.board_defs.specs.declared.board.Net.{Net}
use Rattle.board_defs.specs.declared.board.RawBoard.{RawBoard}

-- a port bit of a device; the four port bits of the test access port (`taps`) have the numbers 0 to 3
abbrev pub port_bit : ℕ → Option ℕ → Mode → List ℕ → Bool → PortBit
port_bit port index mode pin tap = record { port = port; index = index; mode = mode; pin = Some pin; tap = tap; compliance = false }

abbrev pub taps : List PortBit
taps =
    port_bit 0 None Inward (codes "T1") true ∷ port_bit 1 None Inward (codes "T3") true ∷ port_bit 2 None Inward (codes "T4") true
    ∷ port_bit 3 None Outward (codes "T2") true ∷ []

-- the two bits of a port of this mode, with the indexes 1 and 2
abbrev pub two_bits : Mode → List PortBit
two_bits mode = port_bit 4 (Some 1) mode (codes "1") false ∷ port_bit 4 (Some 2) mode (codes "2") false ∷ []

abbrev pub one_bit : Mode → List PortBit
one_bit mode = port_bit 4 None mode (codes "1") false ∷ []

abbrev pub entry : ℕ → Role → ℕ → Option Control → Cell
entry num role bit ctl = record { num = num; role = role; bit = Some bit; safe = Any; ctl = ctl }

-- a control cell with safe value 1, and the control of a driver that this cell disables with a 1
abbrev pub control : ℕ → Cell
control num = record { num = num; role = ControlRole; bit = None; safe = One; ctl = None }

abbrev pub by : ℕ → Option Control
by cell = Some (record { cell = cell; disable = true })

abbrev pub device : List PortBit → List Cell → ℕ → RawDevice
device bits cells boundary = record {
  entity = codes "E";
  «package» = codes "P";
  edition = Old;
  ports = codes "TDI" ∷ codes "TMS" ∷ codes "TCK" ∷ codes "TDO" ∷ codes "Q" ∷ [];
  ir = 2;
  sample = Zero ∷ One ∷ [];
  extest = Zero ∷ Zero ∷ [];
  idcode = None;
  boundary = boundary;
  bits = taps ++ bits;
  cells = cells;
}

-- Devices: `drv` has two outputs that are always on. `drv1` is `drv` in the 2001 edition, with the PRELOAD code 00 and
-- the EXTEST code 01. `rcv` has two inputs, and `rcv1` has one.
abbrev pub drv : RawDevice
drv = device (two_bits Outward) (entry 0 Output2 4 None ∷ entry 1 Output2 5 None ∷ []) 2

abbrev pub drv1 : RawDevice
drv1 = record drv { edition = Of2001; sample = Zero ∷ Zero ∷ []; extest = One ∷ Zero ∷ [] }

abbrev pub rcv : RawDevice
rcv = device (two_bits Inward) (entry 0 Input 4 None ∷ entry 1 Input 5 None ∷ []) 2

abbrev pub rcv1 : RawDevice
rcv1 = device (one_bit Inward) (entry 0 Input 4 None ∷ []) 1

-- devices: a three-state output (`ts`), and an output that drives only 0 and is controlled by its own cell (`od`)
abbrev pub ts : RawDevice
ts = device (one_bit Outward) (entry 0 Output3 4 (by 1) ∷ control 1 ∷ []) 2

abbrev pub od : RawDevice
od = device (one_bit Outward) (record { num = 0; role = Output2; bit = Some 4; safe = One; ctl = by 0 } ∷ []) 1

-- a two-bit three-state buffer: OE_N, A(1), A(0), Y(1), Y(0), GND and VCC; cell 4 reads OE_N and controls Y
abbrev pub buf2 : RawDevice
buf2 = device
    (port_bit 4 None Inward (codes "1") false ∷ port_bit 5 (Some 1) Inward (codes "2") false ∷ port_bit 5 (Some 0) Inward (codes "3") false
    ∷ port_bit 6 (Some 1) Outward (codes "4") false ∷ port_bit 6 (Some 0) Outward (codes "5") false
    ∷ port_bit 7 None Linkage (codes "6") false ∷ port_bit 8 None Linkage (codes "7") false ∷ [])
    (entry 4 Input 4 None ∷ control 4 ∷ entry 3 Input 5 None ∷ entry 2 Input 6 None
    ∷ entry 1 Output3 7 (by 4) ∷ entry 0 Output3 8 (by 4) ∷ []) 5

-- the pin of part `k` at port bit `b`
abbrev pub pin_at_bit : ℕ → ℕ → NetPin
pin_at_bit k b = record { part = codes "U"; pin = codes "1"; at = Some (record { part = k; bit = b }); inert = false }

-- the pin of part `k` at port bit `b`, counted from the first port bit after the test access port
abbrev pub pin : ℕ → ℕ → NetPin
pin k b = pin_at_bit k (b + 4)

abbrev pub foreign : NetPin
foreign = record { part = codes "C1"; pin = codes "1"; at = None; inert = false }

abbrev pub pulled : Option Bool → List NetPin → Net
pulled pull pins = record { name = codes "N"; supply = false; pull = pull; pins = pins }

abbrev pub net : List NetPin → Net
net pins = pulled None pins

abbrev pub board : List PartKind → List Net → RawBoard
board kinds nets = record { chain = map (λ kind. record { name = codes "U"; kind = kind }) kinds; nets = nets }

-- Boards with two nets from a driver to a receiver: one for each edition of the driver, and one with a part without a
-- description between the driver and the receiver.
abbrev pub two_wires : ℕ → List Net
two_wires receiver = net (pin 0 0 ∷ pin receiver 0 ∷ []) ∷ net (pin 0 1 ∷ pin receiver 1 ∷ []) ∷ []

abbrev pub wires : RawBoard
wires = board (Described drv ∷ Described rcv ∷ []) (two_wires 1)

abbrev pub wires_2001 : RawBoard
wires_2001 = board (Described drv1 ∷ Described rcv ∷ []) (two_wires 1)

abbrev pub wires_round : RawBoard
wires_round = board (Described drv ∷ Bypass 3 ∷ Described rcv ∷ []) (two_wires 2)

-- two three-state drivers and a receiver on one net
abbrev pub bus : RawBoard
bus = board (Described ts ∷ Described ts ∷ Described rcv1 ∷ []) (net (pin 0 0 ∷ pin 1 0 ∷ pin 2 0 ∷ []) ∷ [])

-- a board of two buffers, the first of which drives the second; their enable inputs have no driver, and there are a supply
-- net and the TCK net
abbrev pub buffers : RawBoard
buffers = board (Described buf2 ∷ Described buf2 ∷ []) (
    net (pin 0 4 ∷ pin 1 2 ∷ []) ∷ net (pin 0 3 ∷ pin 1 1 ∷ []) ∷ net (pin 0 0 ∷ pin 1 0 ∷ [])
    ∷ record { name = codes "VCC"; supply = true; pull = None; pins = pin 0 6 ∷ pin 1 6 ∷ foreign ∷ [] }
    ∷ net (pin_at_bit 0 2 ∷ pin_at_bit 1 2 ∷ foreign ∷ []) ∷ [])

-- a net that is pulled up, with a driver that drives only 0
abbrev pub pulled_up : RawBoard
pulled_up = board (Described od ∷ Described rcv1 ∷ []) (pulled (Some true) (pin 0 0 ∷ pin 1 0 ∷ []) ∷ [])

-- three nets from two drivers to two receivers
abbrev pub three_wires : RawBoard
three_wires = board (Described drv ∷ Described drv ∷ Described rcv ∷ Described rcv ∷ []) (
    net (pin 0 0 ∷ pin 2 0 ∷ []) ∷ net (pin 0 1 ∷ pin 2 1 ∷ []) ∷ net (pin 1 0 ∷ pin 3 0 ∷ []) ∷ [])
