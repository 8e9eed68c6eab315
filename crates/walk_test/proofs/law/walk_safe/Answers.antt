use Rattle.walk_test.proofs.SettingLemmas.{setting_safe}
use Rattle.walk_test.proofs.law.walk_safe.Goals as goal

pub returns : goal.returns
returns c board walk rules is = setting_safe board walk is (c.passes_kept.ensures board rules).kept
