use Rattle.std.proofs.Common.{◌∙◌, ap, sym, length}
use Rattle.response_log.proofs.KeptLemmas.{length-kept_rows}
use Rattle.response_log.proofs.kept.Log.rows.Goals as goal

pub returns : goal.returns
returns c =
    sym (length-kept_rows c.self.inside.len c.self.inside.rows c.self.inside.digits.items) ∙ ap length c.self.view_is
