-- A text that breaks no rule, and whose registers have lengths in their ranges, describes a device.
use Rattle.device_rules.proofs.IsDevice.{device_of}
use Rattle.device_rules.proofs.raw.raw_device.Goals as goal

pub returns-in-Ok-clause-device : goal.returns-in-Ok-clause-device
returns-in-Ok-clause-device c = λ lengths. device_of c.args.draft c.with_parts.result c.with_parts.ensures lengths c.in-Ok.ensures.0
