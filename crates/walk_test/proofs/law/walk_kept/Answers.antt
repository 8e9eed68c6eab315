use Rattle.walk_test.proofs.SettingLemmas.{setting_kept}
use Rattle.walk_test.proofs.law.walk_kept.Goals as goal

pub returns : goal.returns
returns c = setting_kept
