-- Sample devices and boards that break rules. Nearly every proof shows that one sample breaks one rule.
use Rattle.std.proofs.Common.{◌≡◌, ◌≢◌, ◌⊎◌, ℕ, Bool, true, false, List, [], ◌∷◌, replicate, Option, Some, None, refl, inl, inr, arith}
use Rattle.std.specs.Prelude.{codes}
use Rattle.board_defs.specs.declared.device.Symbol.{Symbol}
use Rattle.board_defs.specs.declared.device.Symbol.TheVariants.{Zero, One, Any}
use Rattle.board_defs.specs.declared.device.Mode.{Mode}
use Rattle.board_defs.specs.declared.device.Mode.TheVariants.{Inward, Outward, Both, Linkage}
use Rattle.board_defs.specs.declared.device.Role.TheVariants.{Input, Output2, Output3, Control as ControlRole, Internal, Clock, Bidir, ObserveOnly}
use Rattle.board_defs.specs.declared.device.Control.{Control}
use Rattle.board_defs.specs.declared.device.Cell.{Cell}
use Rattle.board_defs.specs.declared.device.PortBit.{PortBit}
use Rattle.board_defs.specs.declared.device.RawDevice.{RawDevice}
use Rattle.board_defs.specs.declared.board.PartKind.TheVariants.{Bypass}
use Rattle.board_defs.specs.declared.board.Net.{Net}
use Rattle.board_defs.specs.declared.board.RawBoard.{RawBoard}
use Rattle.board_defs.specs.DeviceRules.{HasTap, PortPinsDiffer, HasPlace, MayHaveControl, ControlsStand, OneDisable, OneOf, OneDriver, EntriesFitPorts, HasCodes, IsDevice, is_loading, is_writing, ArePort}
use Rattle.board_defs.specs.BoardRules.{IsPart, PinsDiffer, IsPlaced, AreInertAlike, IsBoard}
use Rattle.board_defs.proofs.Samples.{port_bit, entry, control, by, device, rcv, ts, pin, net, board}

-- A device that keeps every rule except perhaps those on instruction codes. The samples break the rules on the length
-- of a code, on X, on codes of only ones, on equal codes, on the zeros of EXTEST in the old edition, and on the length
-- of an identification pattern.
abbrev with_codes : List Symbol → List Symbol → RawDevice
with_codes sample extest = record ts { sample = sample; extest = extest }

old_extest : HasCodes (with_codes (Zero ∷ One ∷ []) (One ∷ Zero ∷ [])) → ⊥
old_extest rules = let zero : One ≡ Zero = rules.old_extest refl 0 Zero (omega arith) in cc zero

long_sample : HasCodes (with_codes (Zero ∷ One ∷ Zero ∷ []) (Zero ∷ Zero ∷ [])) → ⊥
long_sample rules = let long = rules.sample_length in omega (arith, long)

long_extest : HasCodes (with_codes (Zero ∷ One ∷ []) (Zero ∷ Zero ∷ Zero ∷ [])) → ⊥
long_extest rules = let long = rules.extest_length in omega (arith, long)

sample_with_x : HasCodes (with_codes (Any ∷ One ∷ []) (Zero ∷ Zero ∷ [])) → ⊥
sample_with_x rules = rules.sample_given 0 Zero (omega arith) refl

extest_with_x : HasCodes (with_codes (Zero ∷ One ∷ []) (Zero ∷ Any ∷ [])) → ⊥
extest_with_x rules = rules.extest_given 1 Zero (omega arith) refl

sample_of_ones : HasCodes (with_codes (One ∷ One ∷ []) (Zero ∷ Zero ∷ [])) → ⊥
sample_of_ones rules = let ones : true ≡ false = rules.sample_not_ones in cc ones

extest_of_ones : HasCodes (with_codes (Zero ∷ One ∷ []) (One ∷ One ∷ [])) → ⊥
extest_of_ones rules = let ones : true ≡ false = rules.extest_not_ones in cc ones

one_code : HasCodes (with_codes (Zero ∷ Zero ∷ []) (Zero ∷ Zero ∷ [])) → ⊥
one_code rules = rules.codes_differ refl

short_idcode : HasCodes (record ts { idcode = Some (replicate 31 One) }) → ⊥
short_idcode rules = let short = rules.idcode_length in omega (arith, short)

-- A port bit of the test access port. The test access port must have one output and three or four inputs, and all of
-- them must be plain ports.
abbrev tap : ℕ → Mode → PortBit
tap port mode = port_bit port None mode (Some (codes "P")) true

abbrev tap_in : PortBit
tap_in = tap 0 Inward

neither : (n : ℕ) → n ≢ 3 → n ≢ 4 → (n ≡ 3) ⊎ (n ≡ 4) → ⊥
neither n a b (inl e) = a e
neither n a b (inr e) = b e

no_tdo : HasTap (tap_in ∷ tap_in ∷ tap_in ∷ []) → ⊥
no_tdo rules = let none = rules.outward in omega (arith, none)

two_tdo : HasTap (tap_in ∷ tap_in ∷ tap_in ∷ tap 3 Outward ∷ tap 4 Outward ∷ []) → ⊥
two_tdo rules = let two = rules.outward in omega (arith, two)

two_inputs : HasTap (tap_in ∷ tap_in ∷ tap 3 Outward ∷ []) → ⊥
two_inputs rules = neither 2 (λ e. omega (arith, e)) (λ e. omega (arith, e)) rules.inward

five_inputs : HasTap (tap_in ∷ tap_in ∷ tap_in ∷ tap_in ∷ tap_in ∷ tap 3 Outward ∷ []) → ⊥
five_inputs rules = neither 5 (λ e. omega (arith, e)) (λ e. omega (arith, e)) rules.inward

vector_tap : HasTap (record tap_in { index = Some 1 } ∷ []) → ⊥
vector_tap rules = let index : Some 1 ≡ None = (rules.plain 0 tap_in (omega arith) refl).0 in cc index

-- A bit of port 4. The bits of a port must have one mode, and all of them must have pins or none may. No two port bits may have the same
-- pin.
abbrev of_port : ℕ → Mode → Option (List ℕ) → PortBit
of_port index mode pin = port_bit 4 (Some index) mode pin false

two_modes : ArePort (of_port 1 Inward (Some (codes "1")) ∷ of_port 2 Outward (Some (codes "2")) ∷ []) → ⊥
two_modes rules = let one : Inward ≡ Outward = rules.one_mode 0 1 (of_port 1 Inward None) (omega arith) (omega arith) in cc one

half_mapped : ArePort (of_port 1 Inward (Some (codes "1")) ∷ of_port 2 Inward None ∷ []) → ⊥
half_mapped rules = let whole : true ≡ false = rules.mapped_whole 0 1 (of_port 1 Inward None) (omega arith) (omega arith) in cc whole

pin_twice : PortPinsDiffer
    (device (codes "Q" ∷ [])
    (of_port 1 Inward (Some (codes "1")) ∷ of_port 2 Inward (Some (codes "1")) ∷ []) [] 1) → ⊥
pin_twice rules = let same = rules 4 5 _ _ _ refl refl refl refl in omega (arith, same)

-- An entry with the function CONTROL, CONTROLR or INTERNAL has no port bit. Any other entry has a port bit that exists.
input_without_place : HasPlace 6 Input None → ⊥
input_without_place inner = let z : false ≡ true = inner in cc z

control_with_place : HasPlace 6 ControlRole (Some 4) → ⊥
control_with_place place = let z : true ≡ false = place.0 in cc z

internal_with_place : HasPlace 6 Internal (Some 4) → ⊥
internal_with_place place = let z : true ≡ false = place.0 in cc z

place_outside : HasPlace 6 Input (Some 6) → ⊥
place_outside place = let below = place.1 in omega (arith, below)

-- an OUTPUT3 or BIDIR entry must have a control, an OUTPUT2 entry may have one, and no other entry may have one
output_without : MayHaveControl Output3 None → ⊥
output_without given = let z : false ≡ true = given in cc z

bidir_without : MayHaveControl Bidir None → ⊥
bidir_without given = let z : false ≡ true = given in cc z

input_with : MayHaveControl Input (by 1) → ⊥
input_with given = let z : true ≡ false = given in cc z

clock_with : MayHaveControl Clock (by 1) → ⊥
clock_with given = let z : true ≡ false = given in cc z

observer_with : MayHaveControl ObserveOnly (by 1) → ⊥
observer_with given = let z : true ≡ false = given in cc z

control_with : MayHaveControl ControlRole (by 1) → ⊥
control_with given = let z : true ≡ false = given in cc z

output_may : MayHaveControl Output2 None × MayHaveControl Output2 (by 1)
output_may = (tt, tt)

-- a device with one port of two bits of this mode, and with these entries
abbrev of_cells : Mode → List Cell → RawDevice
of_cells mode cells = device (codes "Q" ∷ []) (of_port 1 mode (Some (codes "1")) ∷ of_port 2 mode (Some (codes "2")) ∷ []) cells 2

abbrev disabled : ℕ → Bool → Option Control
disabled cell value = Some (record { cell = cell; disable = value })

-- A control must be the entry's own cell, or a cell with a CONTROL or CONTROLR entry. Entries with the same control must have the same
-- disable value. A cell may have only one entry that defines what it captures, and only one for its update latch. A port bit may have only
-- one driving entry.
no_control_cell : ControlsStand (of_cells Both (entry 0 Output3 4 (by 1) ∷ entry 1 Input 5 None ∷ [])) → ⊥
no_control_cell rules = let z : false ≡ true = rules 0 _ _ refl refl in cc z

two_disables : OneDisable
    (of_cells Outward
    (entry 0 Output3 4 (disabled 2 true) ∷ entry 1 Output3 5 (disabled 2 false) ∷ control 2
    ∷ [])) → ⊥
two_disables rules = let z : true ≡ false = rules 0 1 _ _ _ _ refl refl refl refl refl in cc z

two_readings : OneOf is_loading (of_cells Inward (entry 0 Input 4 None ∷ entry 0 Clock 5 None ∷ [])) → ⊥
two_readings rules = let same = rules 0 1 _ _ refl refl refl refl refl in omega (arith, same)

two_writings : OneOf is_writing (of_cells Outward (entry 0 Output2 4 None ∷ control 0 ∷ [])) → ⊥
two_writings rules = let same = rules 0 1 _ _ refl refl refl refl refl in omega (arith, same)

two_drivers : OneDriver (of_cells Outward (entry 0 Output2 4 None ∷ entry 1 Output2 4 None ∷ [])) → ⊥
two_drivers rules = let same = rules 0 1 4 _ _ refl refl refl refl in omega (arith, same)

-- no entry may be on a TAP port, and no driving entry on an input or a linkage port
entry_on_tap : EntriesFitPorts (of_cells Inward (entry 0 Input 0 None ∷ [])) → ⊥
entry_on_tap rules = let z : true ≡ false = (rules 0 0 _ _ refl refl refl).0 in cc z

driver_on_input : EntriesFitPorts (of_cells Inward (entry 0 Output2 4 None ∷ [])) → ⊥
driver_on_input rules = let z : false ≡ true = (rules 0 4 _ _ refl refl refl).1 refl in cc z

driver_on_linkage : EntriesFitPorts (of_cells Linkage (entry 0 Output2 4 None ∷ [])) → ⊥
driver_on_linkage rules = let z : false ≡ true = (rules 0 4 _ _ refl refl refl).1 refl in cc z

-- limits on the lengths of registers and on cell numbers
short_instructions : IsDevice (record ts { ir = 1 }) → ⊥
short_instructions rules = let least = rules.ir_least in omega (arith, least)

long_instructions : IsDevice (record ts { ir = 256 }) → ⊥
long_instructions rules = let most = rules.ir_most in omega (arith, most)

no_boundary : IsDevice (record ts { boundary = 0 }) → ⊥
no_boundary rules = let least = rules.boundary_least in omega (arith, least)

cell_outside : IsDevice (record ts { boundary = 1 }) → ⊥
cell_outside rules = let below = rules.cells_below 1 (control 1) (omega arith) in omega (arith, below)

-- the instruction register of a part without a description must have 2 to 255 bits
short_part : IsPart (Bypass 1) → ⊥
short_part rules = let least = rules.0 in omega (arith, least)

long_part : IsPart (Bypass 256) → ⊥
long_part rules = let most = rules.1 in omega (arith, most)

-- A board must have at least one part, and no two parts with the same name. No pin may occur twice, in two nets or in one.
no_chain : IsBoard (board [] []) → ⊥
no_chain rules = let some = rules.chain_some in omega (arith, some)

abbrev pub pair : List Net → RawBoard
pair nets = board (ts ∷ rcv ∷ []) nets

names_twice : IsBoard
    (record (pair []) {
      chain = record { name = codes "U1"; kind = Bypass 2 }
          ∷ record { name = codes "U1"; kind = Bypass 3 } ∷ [];
    }) → ⊥
names_twice rules = rules.names_differ 0 1 (record { name = codes "U1"; kind = Bypass 2 }) (omega arith) (omega arith) refl

in_two_nets : PinsDiffer (pair (net 0 None (pin 1 0 ∷ []) ∷ net 1 None (pin 1 0 ∷ []) ∷ [])) → ⊥
in_two_nets rules =
    let same =
    (rules 0 1 0 0 _ _ _ _ (record { on_board = refl; in_net = refl })
    (record { on_board = refl; in_net = refl }) refl refl).0 in
    omega (arith, same)

twice_in_net : PinsDiffer (pair (net 0 None (pin 1 0 ∷ pin 1 0 ∷ []) ∷ [])) → ⊥
twice_in_net rules =
    let same =
    (rules 0 0 0 1 _ _ _ _ (record { on_board = refl; in_net = refl })
    (record { on_board = refl; in_net = refl }) refl refl).1 in
    omega (arith, same)

-- A pin of a described part must have a place in the chain. No pin of a part in the chain may be inert. The pins of one part must be all
-- inert or all not inert.
without_place : IsPlaced (pair []) (record (pin 1 0) { at = None }) None → ⊥
without_place rules = let none = rules 1 (record { name = codes "U2"; kind = Bypass 2 }) (omega arith) refl in cc none

pub inert_in_chain : AreInertAlike (pair (net 0 None (record (pin 1 0) { inert = true } ∷ []) ∷ [])) → ⊥
inert_in_chain rules =
    rules.in_chain 0 (net 0 None []) (omega arith) 0 (pin 1 0) (omega arith) refl 1
    (record { name = codes "U2"; kind = Bypass 2 }) (omega arith) refl

inert_apart : AreInertAlike
    (pair
    (net 0 None
    (record (pin 5 0) { at = None } ∷ record (pin 5 1) { at = None; inert = true } ∷ [])
    ∷ [])) → ⊥
inert_apart rules =
    let z : false
    ≡ true = rules.agree 0 0 0 1 _ _ _ _ (record { on_board = refl; in_net = refl })
    (record { on_board = refl; in_net = refl }) refl in
    cc z
