use Rattle.std.proofs.Common.{◌∙◌, ℕ, List, ap, length}
use Rattle.commands.proofs.board_walk.Walked.log_rows.Goals as goal

pub returns : goal.returns
returns c = rw (← c.self.view_is) (ap (λ (nets : List ℕ). length nets) (c.nets.ensures ∙ c.self.invariant.nets))
