use Rattle.board_files.proofs.LengthLemmas.{lengths_of_text}
use Rattle.board_files.proofs.law.lengths_are_in_bounds.Goals as goal

pub returns : goal.returns
returns c = lengths_of_text
