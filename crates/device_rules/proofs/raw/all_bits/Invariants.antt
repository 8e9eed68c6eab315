use Rattle.std.proofs.Common.{◌≡◌, ◌++◌, map, drop}
use Rattle.device_rules.specs.Ports.{bits_from, all_port_bits}
use Rattle.device_rules.specs.Raw.{port_bit}
use Rattle.device_rules.proofs.raw.all_bits.Given as goal

-- the list of the bits made so far, followed by the list of the bits of the remaining ports, is the list of the bits of
-- all ports
abbrev pub invariant-loop-i : goal.invariant-loop-i
invariant-loop-i l =
    map (port_bit l.pins l.taps l.named) (all_port_bits l.ports)
    ≡ l.bits.items ++ map (port_bit l.pins l.taps l.named) (bits_from l.i (drop l.i l.ports))
