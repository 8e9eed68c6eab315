-- A draft is a device as its BSDL text states it. If the draft breaks no rule and its registers have lengths in their ranges, its record
-- keeps the rules of devices.
use Rattle.std.proofs.Common.{◌≡◌, ◌≤◌, map, length, None, sym, subst, arith}
use Rattle.std.proofs.lemmas.List.{length-map}
use Rattle.board_defs.specs.Limits.{most_bits}
use Rattle.board_defs.specs.DeviceRules.{PortPinsDiffer, IsDevice}
use Rattle.board_defs.specs.declared.device.RawDevice.{RawDevice}
use Rattle.device_rules.specs.declared.draft.Draft.{Draft}
use Rattle.device_rules.specs.Ports.{all_port_bits}
use Rattle.device_rules.specs.PinMap.{v4}
use Rattle.device_rules.specs.Rules.{first_rule, KeepsRules}
use Rattle.device_rules.specs.Raw.{port_bit, raw_bits, raw_device, HasLengths}
use Rattle.device_rules.proofs.RuleLemmas.{keeps_rules}
use Rattle.device_rules.proofs.IsDevicePorts.{PortsStand, ports_stand, bits_few}
use Rattle.device_rules.proofs.IsDevicePins.{pins_apart}
use Rattle.device_rules.proofs.IsDeviceBits.{are_of_ports}
use Rattle.device_rules.proofs.IsDeviceTaps.{has_tap}
use Rattle.device_rules.proofs.IsDeviceCodes.{has_codes}
use Rattle.device_rules.proofs.IsDeviceCells.{cells_below, cells_all, controls_given, controls_stand, controls_below, one_disable, one_loading, one_writing}
use Rattle.device_rules.proofs.IsDevicePlaces.{places, one_driver, fits_ports}

bits_most : (draft : Draft) → PortsStand draft.ports → length (raw_device draft).bits ≤ most_bits
unfolding raw_bits
bits_most draft stand =
    let made = port_bit draft.map draft.taps draft.compliance in
    let many : length (map made (all_port_bits draft.ports))
    ≡ length (all_port_bits draft.ports) = length-map (all_port_bits draft.ports) made in
    omega (arith, many, bits_few draft.ports stand)

pins_differ : (draft : Draft) → PortsStand draft.ports → v4 draft.ports draft.map ≡ None → PortPinsDiffer (raw_device draft)
unfolding raw_bits
pins_differ draft stand e = pins_apart draft.ports draft.map draft.taps draft.compliance stand e

pub device_is : (draft : Draft) → HasLengths draft → first_rule draft ≡ None → IsDevice (raw_device draft)
device_is draft lengths none =
    let kept : KeepsRules draft = keeps_rules draft none in
    let stand : PortsStand draft.ports = ports_stand draft.ports kept.v2 in
    record {
      ir_least = lengths.ir_least;
      ir_most = lengths.ir_most;
      boundary_least = lengths.boundary_least;
      boundary_most = lengths.boundary_most;
      bits_most = bits_most draft stand;
      codes = has_codes draft lengths kept.v5 kept.v6 kept.v7;
      ports = are_of_ports draft stand kept.v4;
      tap = has_tap draft stand kept.v3;
      pins_differ = pins_differ draft stand kept.v4;
      cells_below = cells_below draft kept.v8;
      cells_all = cells_all draft kept.v8;
      places = places draft kept.v9;
      controls_given = controls_given draft kept.v10;
      controls_stand = controls_stand draft kept.v10;
      controls_below = controls_below draft kept.v8 kept.v10;
      one_disable = one_disable draft kept.v8 kept.v10 kept.v11;
      one_loading = one_loading draft kept.v8 kept.v12;
      one_writing = one_writing draft kept.v8 kept.v12;
      one_driver = one_driver draft kept.v13;
      fits_ports = fits_ports draft stand kept.v14;
    }

pub device_of : (draft : Draft) (raw : RawDevice) → raw ≡ raw_device draft → HasLengths draft → first_rule draft ≡ None → IsDevice raw
device_of draft raw made lengths none = subst IsDevice (sym made) (device_is draft lengths none)
