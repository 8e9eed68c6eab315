use Rattle.board_lines.proofs.NumberLemmas.{numbers_of_entities}
use Rattle.board_build.proofs.law.selected_are_entities.Goals as goal

pub returns : goal.returns
returns c = numbers_of_entities
