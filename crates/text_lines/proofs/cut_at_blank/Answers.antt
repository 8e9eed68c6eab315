use Rattle.text_lines.specs.Words.{is_line_blank}
use Rattle.text_lines.proofs.LineLemmas.{no_place, cut_there}
use Rattle.text_lines.proofs.cut_at_blank.Goals as goal

pub returns-in-Some : goal.returns-in-Some
returns-in-Some c = cut_there is_line_blank c.args.text.now c.in-Some.i c.in-Some.ensures

pub returns-in-None : goal.returns-in-None
returns-in-None c = no_place is_line_blank c.args.text.now c.in-None.ensures
