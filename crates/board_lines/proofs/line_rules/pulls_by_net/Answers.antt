-- The keys of the map are borrowed names. A look-up by a borrowed name gives the same value as a
-- look-up by the name itself.
use Rattle.std.proofs.Common.{◌∙◌}
use Rattle.std.proofs.lemmas.Result.{IfOk-weaker}
use Rattle.board_files.specs.Names.{same_word}
use Rattle.board_lines.proofs.MapLemmas.{value_lent}
use Rattle.board_lines.proofs.line_rules.pulls_by_net.Goals as goal

pub returns : goal.returns
returns c =
    IfOk-weaker c.first_values.result _ _
    (λ known h q. h q ∙ value_lent (λ n. n.now) same_word c.args.pulls.now q) c.first_values.ensures
