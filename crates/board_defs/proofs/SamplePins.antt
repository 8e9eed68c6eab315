-- Samples: functions of entries, modes of ports, pins of devices, nets that these pins guard, switching drivers, safe values and disable
-- values. The expected values follow from the definitions and from the standard's rules for the boundary register.
use Rattle.std.proofs.Common.{◌≡◌, ℕ, ◌+◌, ◌==◌, Bool, true, false, List, [], ◌∷◌, map, Option, Some, None, refl}
use Rattle.std.specs.Prelude.{codes}
use Rattle.board_defs.specs.declared.device.Symbol.{Symbol}
use Rattle.board_defs.specs.declared.device.Symbol.TheVariants.{Zero, One, Any}
use Rattle.board_defs.specs.declared.device.Mode.{Mode}
use Rattle.board_defs.specs.declared.device.Mode.TheVariants.{Inward, Outward, Both, Buffer, Linkage}
use Rattle.board_defs.specs.declared.device.Role.{Role}
use Rattle.board_defs.specs.declared.device.Role.TheVariants.{Input, Output2, Output3, Control as ControlRole, ControlR, Internal, Clock, Bidir, ObserveOnly}
use Rattle.board_defs.specs.declared.device.Cell.{Cell}
use Rattle.board_defs.specs.declared.device.PortBit.{PortBit}
use Rattle.board_defs.specs.declared.device.RawDevice.{RawDevice}
use Rattle.board_defs.specs.declared.board.PartKind.TheVariants.{Described, Bypass}
use Rattle.board_defs.specs.declared.board.NetPin.{NetPin}
use Rattle.board_defs.specs.declared.board.Net.{Net}
use Rattle.board_defs.specs.declared.board.RawBoard.{RawBoard}
use Rattle.board_defs.specs.declared.board.Drive.{Drive}
use Rattle.board_defs.specs.declared.board.Drive.TheVariants.{AlwaysOn, OneSided, By}
use Rattle.board_defs.specs.BoardRules.{IsBoard}
use Rattle.board_defs.specs.DeviceRules.{is_driving, is_reading, is_receiving, is_writing, is_loading, is_controlling, is_inner, may_receive, may_drive, is_linkage, bit_of, safe_value, disable_of, range_indexes}
use Rattle.board_defs.specs.Pins.{drive, switches, receives, is_dark, is_test_pin, guarded, instruction_bits, data_bits}
use Rattle.board_defs.proofs.BoardChecks.{board_of}
use Rattle.board_defs.proofs.Samples.{port_bit, entry, control, by, device, rcv, od, pin, clock, foreign, net, board, c}

-- all functions of entries
abbrev roles : List Role
roles = Input ∷ Clock ∷ ObserveOnly ∷ Bidir ∷ Output2 ∷ Output3 ∷ ControlRole ∷ ControlR ∷ Internal ∷ []

driving_roles : map is_driving roles ≡ false ∷ false ∷ false ∷ true ∷ true ∷ true ∷ false ∷ false ∷ false ∷ []
driving_roles = refl

reading_roles : map is_reading roles ≡ true ∷ true ∷ true ∷ true ∷ false ∷ false ∷ false ∷ false ∷ false ∷ []
reading_roles = refl

receiving_roles : map is_receiving roles ≡ true ∷ true ∷ false ∷ true ∷ false ∷ false ∷ false ∷ false ∷ false ∷ []
receiving_roles = refl

writing_roles : map is_writing roles ≡ false ∷ false ∷ false ∷ true ∷ true ∷ true ∷ true ∷ true ∷ true ∷ []
writing_roles = refl

loading_roles : map is_loading roles ≡ true ∷ true ∷ true ∷ true ∷ false ∷ false ∷ false ∷ false ∷ true ∷ []
loading_roles = refl

controlling_roles : map is_controlling roles ≡ false ∷ false ∷ false ∷ false ∷ false ∷ false ∷ true ∷ true ∷ false ∷ []
controlling_roles = refl

inner_roles : map is_inner roles ≡ false ∷ false ∷ false ∷ false ∷ false ∷ false ∷ true ∷ true ∷ true ∷ []
inner_roles = refl

-- all modes of ports
abbrev modes : List Mode
modes = Inward ∷ Outward ∷ Both ∷ Buffer ∷ Linkage ∷ []

receiving_modes : map may_receive modes ≡ true ∷ false ∷ true ∷ false ∷ false ∷ []
receiving_modes = refl

driving_modes : map may_drive modes ≡ false ∷ true ∷ true ∷ true ∷ false ∷ []
driving_modes = refl

linkage_modes : map is_linkage modes ≡ false ∷ false ∷ false ∷ false ∷ true ∷ []
linkage_modes = refl

symbol_bits : map bit_of (Zero ∷ One ∷ Any ∷ []) ≡ false ∷ true ∷ false ∷ []
symbol_bits = refl

upward : range_indexes 1 3 ≡ 1 ∷ 2 ∷ 3 ∷ []
upward = refl

downward : range_indexes 3 1 ≡ 3 ∷ 2 ∷ 1 ∷ []
downward = refl

-- the name of the pin at port `b`: A, B and so on
abbrev letter : ℕ → List ℕ
letter b = (65 + b) ∷ []

-- plain ports of these modes, numbered from `b` after the ports of the test access port
abbrev plain : ℕ → List Mode → List PortBit
plain b [] = []
plain b (mode ∷ more) = port_bit (4 + b) None mode (Some (letter b)) false ∷ plain (b + 1) more

abbrev letters : ℕ → List Mode → List (List ℕ)
letters b [] = []
letters b (mode ∷ more) = letter b ∷ letters (b + 1) more

-- the pin at port `b` of part `k`
abbrev pub leg : ℕ → ℕ → NetPin
leg k b = record { part = (pin k 0).part; pin = letter b; at = (pin k b).at; inert = false }

-- Ports of all kinds, with one pin each. The compliance patterns name the last one.
abbrev kinds_of : List Mode
kinds_of =
    Linkage ∷ Linkage ∷ Inward ∷ Inward ∷ Inward ∷ Inward ∷ Outward ∷ Buffer ∷ Both ∷ Outward
    ∷ Buffer ∷ Both ∷ Both ∷ Both ∷ Inward ∷ []

abbrev marked : ℕ → PortBit → PortBit
marked port bit = record bit { compliance = bit.port == port }

abbrev pub mixed : RawDevice
mixed = device (letters 0 kinds_of) (map (marked 18) (plain 0 kinds_of))
    (entry 0 Input 5 None ∷ entry 1 Input 7 None ∷ entry 2 ObserveOnly 8 None ∷ entry 3 Clock 9 None
    ∷ entry 4 Input 10 None ∷ entry 5 Input 11 None ∷ entry 6 Input 12 None
    ∷ entry 7 Input 13 None ∷ entry 8 Output2 13 None ∷ entry 9 Input 14 None
    ∷ entry 10 Output3 14 (by 15) ∷ entry 11 Bidir 15 (by 15) ∷ entry 12 Input 16 None
    ∷ entry 13 Output3 16 (by 15) ∷ entry 14 Output3 17 (by 15) ∷ control 15 ∷ entry 16 Input 18 None ∷ []) 17

abbrev kinds : RawBoard
kinds = board (mixed ∷ []) []

kinds_rules : IsBoard kinds
kinds_rules = board_of kinds refl

-- three facts about a pin of part 0: whether it is dark, whether it is a receiver, and how its driver is enabled
abbrev is : RawBoard → ℕ → Bool × Bool × Option Drive
is b port = (is_dark b (leg 0 port), receives b (leg 0 port), drive b (net 0 None []) (leg 0 port))

-- a linkage pin is dark, and it is not a receiver, even if an entry reads it
linkage : is kinds 0 ≡ (true, false, None)
linkage = refl

linkage_read : is kinds 1 ≡ (true, false, None)
linkage_read = refl

-- an input without an entry is dark, and an input with a reading entry is not
input_alone : is kinds 2 ≡ (true, false, None)
input_alone = refl

input_read : is kinds 3 ≡ (false, true, None)
input_read = refl

-- an input with an OBSERVE_ONLY entry is not a receiver, and an input with a CLOCK entry is
input_observed : is kinds 4 ≡ (false, false, None)
input_observed = refl

input_clock : is kinds 5 ≡ (false, true, None)
input_clock = refl

-- An output, a buffer and a bidirectional pin are dark without a driving entry. An INPUT entry makes only the bidirectional pin a receiver.
output_read : is kinds 6 ≡ (true, false, None)
output_read = refl

buffer_read : is kinds 7 ≡ (true, false, None)
buffer_read = refl

both_read : is kinds 8 ≡ (true, true, None)
both_read = refl

-- Drivers are not dark. An INPUT entry does not make an output or a buffer a receiver.
output_driver : is kinds 9 ≡ (false, false, Some AlwaysOn)
output_driver = refl

buffer_driver : is kinds 10 ≡ (false, false, Some (By (c 0 15)))
buffer_driver = refl

-- a bidirectional pin receives by its BIDIR entry, or by an INPUT entry that it has in addition to its driving entry
both_ways : is kinds 11 ≡ (false, true, Some (By (c 0 15)))
both_ways = refl

both_entries : is kinds 12 ≡ (false, true, Some (By (c 0 15)))
both_entries = refl

both_drives : is kinds 13 ≡ (false, false, Some (By (c 0 15)))
both_drives = refl

-- a pin that the compliance patterns name is not dark, and can be a receiver
compliance_pin : is kinds 14 ≡ (false, true, None)
compliance_pin = refl

-- A pin of the test access port has no entry and is not dark. This is also true of TDO, although its mode is out.
abbrev tap_pins : List NetPin
tap_pins = clock 0 ∷ record (clock 0) { pin = codes "T2"; at = Some (record { part = 0; bit = 3 }) } ∷ []

tap_not_dark : map (is_dark kinds) tap_pins ≡ false ∷ false ∷ []
tap_not_dark = refl

-- the test pins are those of the test access port and those that the compliance patterns name
test_pins : map (is_test_pin kinds) (leg 0 3 ∷ leg 0 14 ∷ tap_pins) ≡ false ∷ true ∷ true ∷ true ∷ []
test_pins = refl

-- The bits of a vector can have different entries. The first bit of each of A(1 to 2), B(1 to 2) and C(1 to 2) has an entry. The second bit
-- of A has none, that of B has an OBSERVE_ONLY entry, and that of C has an INPUT entry.
abbrev half : ℕ → ℕ → Mode → ℕ → PortBit
half port index mode b = port_bit (4 + port) (Some index) mode (Some (letter b)) false

abbrev halves_device : RawDevice
halves_device = device (letter 0 ∷ letter 1 ∷ letter 2 ∷ [])
    (half 0 1 Both 0 ∷ half 0 2 Both 1 ∷ half 1 1 Inward 2 ∷ half 1 2 Inward 3 ∷ half 2 1 Outward 4 ∷ half 2 2 Outward 5 ∷ [])
    (entry 0 Bidir 4 (by 5) ∷ entry 1 Input 6 None ∷ entry 2 ObserveOnly 7 None
    ∷ entry 3 Output2 8 None ∷ entry 4 Input 9 None ∷ control 5 ∷ []) 6

abbrev halves : RawBoard
halves = board (halves_device ∷ []) []

halves_rules : IsBoard halves
halves_rules = board_of halves refl

halves_pins : map (is halves) (0 ∷ 1 ∷ 2 ∷ 3 ∷ 4 ∷ 5 ∷ []) ≡
    (false, true, Some (By (c 0 5))) ∷ (true, false, None) ∷ (false, true, None)
    ∷ (false, false, None) ∷ (false, false, Some AlwaysOn) ∷ (true, false, None) ∷ []
halves_pins = refl

-- A pin of a part outside the chain and a pin of a part without a description are dark. A pin of an inert part is not. None of these pins
-- receives or drives.
abbrev pub inert : NetPin
inert = record { part = codes "J1"; pin = codes "1"; at = None; inert = true }

abbrev undescribed : RawBoard
undescribed =
    record {
      chain = record { name = codes "U1"; kind = Bypass 4 }
          ∷ record { name = codes "U2"; kind = Described rcv } ∷ [];
      nets = [];
    }

abbrev bypass_pin : NetPin
bypass_pin = record { part = codes "U1"; pin = codes "1"; at = None; inert = false }

undescribed_dark : map (is_dark undescribed) (bypass_pin ∷ foreign (codes "RAM") ∷ inert ∷ []) ≡ true ∷ true ∷ false ∷ []
undescribed_dark = refl

undescribed_receives : map (receives undescribed) (bypass_pin ∷ foreign (codes "RAM") ∷ inert ∷ []) ≡ false ∷ false ∷ false ∷ []
undescribed_receives = refl

undescribed_drives : map (drive undescribed (net 0 None [])) (bypass_pin ∷ foreign (codes "RAM") ∷ inert ∷ []) ≡ None ∷ None ∷ None ∷ []
undescribed_drives = refl

-- The part without a description has an instruction register of known length and one data bit. The other part has 2 instruction bits and 2
-- cells.
undescribed_lengths : instruction_bits undescribed ∷ data_bits undescribed ∷ [] ≡ 6 ∷ 3 ∷ []
undescribed_lengths = refl

-- The net that has pin `p` and an input is guarded. The input alone does not guard it.
abbrev guarded_by : NetPin → Bool
guarded_by p = guarded kinds (net 0 None (leg 0 3 ∷ p ∷ []))

guarding : map guarded_by (leg 0 14 ∷ leg 0 2 ∷ leg 0 0 ∷ foreign (codes "RAM") ∷ tap_pins) ≡ true ∷ true ∷ true ∷ true ∷ true ∷ true ∷ []
guarding = refl

not_guarding : map guarded_by (leg 0 4 ∷ leg 0 9 ∷ leg 0 11 ∷ inert ∷ []) ≡ false ∷ false ∷ false ∷ false ∷ []
not_guarding = refl

supply_guarded : guarded kinds (record (net 0 None (leg 0 3 ∷ [])) { supply = true }) ≡ true
supply_guarded = refl

-- a driver that its own cell disables at 0 is a switching driver of an unguarded net that is pulled to 0, and of no other net
abbrev od0 : RawDevice
od0 =
    device (codes "Q" ∷ []) (port_bit 4 None Outward (Some (codes "1")) false ∷ [])
    (entry 0 Output2 4 (Some (record { cell = 0; disable = false })) ∷ []) 1

abbrev own : RawBoard
own = board (od ∷ od0 ∷ rcv ∷ []) []

abbrev held : Option Bool → List NetPin → Net
held pull more = net 0 pull (pin 2 0 ∷ more)

own_by_pull : map (λ pull. drive own (held pull []) (pin 1 0)) (Some false ∷ Some true ∷ None ∷ [])
    ≡ Some (By (c 1 0)) ∷ Some OneSided ∷ Some OneSided ∷ []
own_by_pull = refl

own_switches : map (λ pull. switches own (held pull []) (pin 1 0)) (Some false ∷ Some true ∷ None ∷ []) ≡ true ∷ false ∷ false ∷ []
own_switches = refl

own_guarded : map (λ p. drive own (held (Some true) (p ∷ [])) (pin 0 0))
    (inert ∷ foreign (codes "RAM") ∷ clock 2 ∷ [])
    ≡ Some (By (c 0 0)) ∷ Some OneSided ∷ Some OneSided ∷ []
own_guarded = refl

own_supply : drive own (record (held (Some true) []) { supply = true }) (pin 0 0) ≡ Some OneSided
own_supply = refl

-- a driver with another cell as its control is not a switching driver, whatever the pull
controlled_pulled : switches kinds (net 0 (Some true) (leg 0 10 ∷ [])) (leg 0 10) ≡ false
controlled_pulled = refl

-- The safe values of a device. Cell 0 has only a reading entry. Cell 1 has a reading entry before the entry
-- for its latch, and cell 2 has one after it. Cell 3 has an INTERNAL entry, and cell 4 has only an
-- OBSERVE_ONLY entry. The entry for the latch of cells 5 and 6 has the safe value X. Cell 7 has no entry.
abbrev kept : ℕ → Role → Option ℕ → Symbol → Cell
kept num role bit safe = record { num = num; role = role; bit = bit; safe = safe; ctl = None }

abbrev safes : RawDevice
safes = device [] [] (
    kept 0 Input (Some 4) One ∷ kept 1 Input (Some 5) Zero ∷ kept 1 ControlRole None One
    ∷ kept 2 ControlR None Zero ∷ kept 2 Clock (Some 6) One ∷ kept 3 Internal None One
    ∷ kept 4 ObserveOnly (Some 7) Zero ∷ kept 5 Output2 (Some 8) Any ∷ kept 6 Input (Some 9) One ∷ kept 6 Output2 (Some 10) Any ∷ []) 7

safe_values : map (safe_value safes) (0 ∷ 1 ∷ 2 ∷ 3 ∷ 4 ∷ 5 ∷ 6 ∷ 7 ∷ [])
    ≡ Some One ∷ Some One ∷ Some Zero ∷ Some One ∷ Some Zero ∷ Some Any ∷ Some Any ∷ None ∷ []
safe_values = refl

-- The disable values of four cells. Cell 15 disables its drivers at 1, and cell 8 controls no driver. The other two cells disable their
-- own drivers, at 0 and at 1.
disables : disable_of mixed 15 ∷ disable_of mixed 8 ∷ disable_of od0 0 ∷ disable_of od 0 ∷ []
    ≡ Some true ∷ None ∷ Some false ∷ Some true ∷ []
disables = refl
