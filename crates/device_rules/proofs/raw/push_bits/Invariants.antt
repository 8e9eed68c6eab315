use Rattle.std.proofs.Common.{◌≡◌, ◌++◌, map, take}
use Rattle.device_rules.specs.Ports.{bits_in_port}
use Rattle.device_rules.specs.Raw.{port_bit}
use Rattle.device_rules.proofs.raw.push_bits.Given as goal

abbrev pub invariant-loop-place : goal.invariant-loop-place
invariant-loop-place l =
    l.bits.items
    ≡ l.fn.bits.items
    ++ map (port_bit l.pins l.taps l.named) (take l.place (bits_in_port l.number l.port))
