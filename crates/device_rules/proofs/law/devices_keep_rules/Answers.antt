use Rattle.device_rules.proofs.IsDevice.{device_is}
use Rattle.device_rules.proofs.law.devices_keep_rules.Goals as goal

pub returns : goal.returns
returns c = device_is
