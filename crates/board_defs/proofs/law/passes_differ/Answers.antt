use Rattle.board_defs.proofs.PassesDiffer.{passes_differ}
use Rattle.board_defs.proofs.law.passes_differ.Goals as goal

pub returns : goal.returns
returns c = λ board passes x y pass are less earlier later. passes_differ board passes x y pass are less earlier later
