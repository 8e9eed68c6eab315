use Rattle.device_rules.proofs.RuleLemmas.{keeps_rules}
use Rattle.device_rules.proofs.law.all_rules_hold.Goals as goal

pub returns : goal.returns
returns c = keeps_rules
