use Rattle.series_parts.proofs.LineLemmas.{files_stay}
use Rattle.series_parts.proofs.law.unlinked_files.Goals as goal

pub returns : goal.returns
returns c = λ chain nets none. files_stay chain nets none
