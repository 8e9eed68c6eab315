use Rattle.std.proofs.Common.{◌≡◌, map, take}
use Rattle.device_rules.proofs.raw.port_names.Given as goal

abbrev pub invariant-loop-port : goal.invariant-loop-port
invariant-loop-port l = l.names.items ≡ map (λ port. port.name) (take l.port-index l.ports)
