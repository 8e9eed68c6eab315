-- Sample devices, boards and reasons. Each breaks one of the rules that are kept by every device, every board or every reason.
use Rattle.std.proofs.Common.{◌≡◌, ℕ, zero, suc, ◌<◌, true, false, List, [], ◌∷◌, ◌++◌, map, replicate, Option, Some, None, refl, inl, inr, arith}
use Rattle.std.specs.Prelude.{codes}
use Rattle.std.specs.List.{slice_index_or}
use Rattle.std.proofs.lemmas.List.{length-replicate}
use Rattle.board_defs.specs.declared.device.Mode.TheVariants.{Outward}
use Rattle.board_defs.specs.declared.device.Role.TheVariants.{Input, Output2, Output3}
use Rattle.board_defs.specs.declared.device.PortBit.{PortBit}
use Rattle.board_defs.specs.declared.device.RawDevice.{RawDevice}
use Rattle.board_defs.specs.declared.coverage.Reason.TheVariants.{Supply, NoReceiver}
use Rattle.board_defs.specs.DeviceRules.{AreIndexed, ArePort, AreOfPorts, IsDevice, range_indexes}
use Rattle.board_defs.specs.BoardRules.{IsBoard}
use Rattle.board_defs.specs.Coverage.{IsReason}
use Rattle.board_defs.proofs.BoardChecks.{board_of}
use Rattle.board_defs.proofs.Reasons.{reason_is}
use Rattle.board_defs.proofs.Samples.{port_bit, entry, taps, device, rcv, ts, pin, net, board, bus_net, bus}
use Rattle.board_defs.proofs.SampleRules.{pair, inert_in_chain}
use Rattle.board_defs.proofs.SampleLaws.{supplied, supply}

-- the device `ts` with these port bits behind those of the test access port
abbrev with_bits : List PortBit → RawDevice
with_bits bits = record ts { bits = taps ++ bits }

-- a bit of an output port, with this port number, index and pin
abbrev output : ℕ → Option ℕ → List ℕ → PortBit
output port index name = port_bit port index Outward (Some name) false

-- Two bits of one port must have indexes.
unindexed : (indexes : List ℕ) → None ∷ None ∷ [] ≡ map Some indexes → ⊥
unindexed [] same = cc same
unindexed (index ∷ indexes) same = cc same

two_plain : ArePort (output 4 None (codes "1") ∷ output 4 None (codes "2") ∷ []) → ⊥
two_plain rules = either rules.indexed
  where
    either : AreIndexed (output 4 None (codes "1") ∷ output 4 None (codes "2") ∷ []) → ⊥
    either (inl same) = cc same
    either (inr (left, right, same)) = unindexed (range_indexes left right) same

-- No two ports may have the same name. Each port bit must belong to a port, and the port bits must be in the order of the ports. The bits of
-- each port must make a plain port or a vector.
port_twice : AreOfPorts (record ts { ports = codes "TDI" ∷ codes "TMS" ∷ codes "TCK" ∷ codes "TDO" ∷ codes "TDI" ∷ [] }) → ⊥
port_twice rules = rules.ports_differ 0 4 (codes "TDI") (omega arith) (omega arith) refl

no_port : AreOfPorts (with_bits (output 5 None (codes "1") ∷ [])) → ⊥
no_port rules = let below = rules.of_ports 4 (output 5 None (codes "1")) (omega arith) in omega (arith, below)

ports_exchanged : AreOfPorts (with_bits (output 3 None (codes "1") ∷ output 2 None (codes "2") ∷ [])) → ⊥
ports_exchanged rules = let order = rules.in_order 4 5 0 (omega arith) (omega arith) in omega (arith, order)

two_plain_bits : AreOfPorts (with_bits (output 4 None (codes "1") ∷ output 4 None (codes "2") ∷ [])) → ⊥
two_plain_bits rules = two_plain (rules.each_port 4 (omega arith))

-- A device must keep the rules on its ports, on the test access port, on pins, on controls and on the ports of entries. Each of its cells
-- must have an entry. It has at most 65,535 port bits.
device_without_port : IsDevice (with_bits (output 5 None (codes "1") ∷ [])) → ⊥
device_without_port rules = no_port rules.ports

device_with_two_tdo : IsDevice (with_bits (port_bit 4 None Outward (Some (codes "1")) true ∷ [])) → ⊥
device_with_two_tdo rules = let two = rules.tap.outward in omega (arith, two)

device_with_pin_twice : IsDevice (with_bits (output 4 (Some 1) (codes "1") ∷ output 4 (Some 2) (codes "1") ∷ [])) → ⊥
device_with_pin_twice rules = let same = rules.pins_differ 4 5 _ _ _ refl refl refl refl in omega (arith, same)

device_with_three_cells : IsDevice (record ts { boundary = 3 }) → ⊥
device_with_three_cells rules = let found = rules.cells_all 2 (omega arith) in no_cell found.0 found.1 found.2
  where
    no_cell : (k : ℕ) → k < 2 → slice_index_or (map (λ entry. entry.num) ts.cells) k 2 ≡ 2 → ⊥
    no_cell zero below same = omega (arith, same)
    no_cell (suc zero) below same = omega (arith, same)
    no_cell (suc (suc k)) below same = omega (arith, below)

device_without_control : IsDevice (record ts { cells = entry 0 Output3 4 None ∷ entry 1 Output2 4 None ∷ [] }) → ⊥
device_without_control rules = let given : false ≡ true = rules.controls_given 0 (entry 0 Output3 4 None) (omega arith) in cc given

device_with_entry_on_tap : IsDevice (record ts { cells = entry 0 Input 0 None ∷ [] }) → ⊥
device_with_entry_on_tap rules = let free : true ≡ false = (rules.fits_ports 0 0 _ _ refl refl refl).0 in cc free

device_with_long_bits : IsDevice (record ts { bits = replicate 65536 (output 4 None (codes "1")) }) → ⊥
device_with_long_bits rules = let most = rules.bits_most in omega (arith, most, length-replicate 65536 (output 4 None (codes "1")))

-- A board must have no two nets of the same name, no inert pin of a part in the chain, and no driver that is always on on a supply net.
nets_twice : IsBoard (pair (net 0 None [] ∷ net 0 None [] ∷ [])) → ⊥
nets_twice rules = rules.nets_differ 0 1 (net 0 None []) (omega arith) (omega arith) refl

board_with_inert_pin : IsBoard (pair (net 0 None (record (pin 1 0) { inert = true } ∷ []) ∷ [])) → ⊥
board_with_inert_pin rules = inert_in_chain rules.inert

abbrev always_on : RawDevice
always_on = device (codes "Q" ∷ []) (output 4 None (codes "1") ∷ []) (entry 0 Output2 4 None ∷ []) 1

driver_on_supply : IsBoard (board (always_on ∷ rcv ∷ []) (supplied ∷ [])) → ⊥
driver_on_supply rules =
    let free = (rules.no_guarded_driver 0 0 supplied (pin 0 0) (record { on_board = refl; in_net = refl }) refl).0 in cc free

-- A reason must not be given for a covered net. It must hold, and no reason that is tried before it may hold.
reason_of_covered_net : IsReason bus 0 bus_net NoReceiver → ⊥
reason_of_covered_net rules = rules.uncovered (reason_is bus 0 bus_net (board_of bus refl) refl)

reason_that_fails : IsReason bus 0 bus_net Supply → ⊥
reason_that_fails rules = let given = rules.holds in cc given

reason_behind_another : IsReason supply 0 supplied NoReceiver → ⊥
reason_behind_another rules = rules.first Supply (omega arith) refl
