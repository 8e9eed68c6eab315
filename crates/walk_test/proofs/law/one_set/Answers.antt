use Rattle.walk_test.proofs.LawLemmas.{one_set}
use Rattle.walk_test.proofs.law.one_set.Goals as goal

pub returns : goal.returns
returns c = one_set c.walk_safe.ensures c.logs_by_rows.ensures c.rows_compared.ensures.walk c.scans_in_turn.ensures.walk
