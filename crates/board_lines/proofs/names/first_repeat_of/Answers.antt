-- The names in the list are borrowed. A list of borrowed names has the same first repeat as the
-- list of the names themselves.
use Rattle.std.proofs.Common.{◌∙◌}
use Rattle.std.proofs.lemmas.Result.{IfOk-weaker}
use Rattle.board_lines.proofs.NameLemmas.{first_repeat_lent}
use Rattle.board_lines.proofs.names.first_repeat_of.Goals as goal

pub returns : goal.returns
returns c = IfOk-weaker c.first_repeat.result _ _ (λ place e. e ∙ first_repeat_lent c.args.names.items.now) c.first_repeat.ensures
