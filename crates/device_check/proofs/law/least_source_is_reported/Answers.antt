use Rattle.device_check.proofs.NumberedLemmas.{v1_reports}
use Rattle.device_check.proofs.law.least_source_is_reported.Goals as goal

pub returns : goal.returns
returns c = v1_reports
