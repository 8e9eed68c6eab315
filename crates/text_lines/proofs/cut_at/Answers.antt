use Rattle.std.proofs.Common.{◌==◌}
use Rattle.text_lines.proofs.LineLemmas.{no_place, cut_there}
use Rattle.text_lines.proofs.cut_at.Goals as goal

pub returns-in-Some : goal.returns-in-Some
returns-in-Some c =
    cut_there (λ b. b == c.args.byte) c.args.text.now c.in-Some.i c.in-Some.ensures

pub returns-in-None : goal.returns-in-None
returns-in-None c = no_place (λ b. b == c.args.byte) c.args.text.now c.in-None.ensures
