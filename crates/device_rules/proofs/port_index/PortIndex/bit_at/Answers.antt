use Rattle.std.proofs.Common.{sym, ap, ◌∙◌}
use Rattle.device_rules.specs.Ports.{bit_number}
use Rattle.device_rules.proofs.BitLemmas.{star_bit}
use Rattle.device_rules.proofs.port_index.PortIndex.bit_at.Goals as goal

pub returns-in-Star-clause-number : goal.returns-in-Star-clause-number
returns-in-Star-clause-number c = sym (ap (bit_number c.args.self.now) c.in-Star.is ∙ star_bit c.args.self.now)
