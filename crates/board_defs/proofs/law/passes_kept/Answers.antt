use Rattle.board_defs.proofs.PassWords.{passes_said}
use Rattle.board_defs.proofs.PassesReach.{passes_kept}
use Rattle.board_defs.proofs.law.passes_kept.Goals as goal

pub returns : goal.returns
returns c board rules = record { said = passes_said board rules; kept = passes_kept board rules }
