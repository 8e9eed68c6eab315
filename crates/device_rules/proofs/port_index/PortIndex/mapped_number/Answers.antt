use Rattle.std.proofs.Common.{ap, ◌∙◌}
use Rattle.device_rules.specs.Ports.{port_number}
use Rattle.device_rules.proofs.port_index.PortIndex.mapped_number.Goals as goal

pub returns : goal.returns
returns c = c.place_of.ensures ∙ ap (λ ports. port_number ports c.args.name.now) c.self.view_is
