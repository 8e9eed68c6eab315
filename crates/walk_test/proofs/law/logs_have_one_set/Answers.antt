use Rattle.walk_test.proofs.SetLemmas.{some_found}
use Rattle.walk_test.proofs.law.logs_have_one_set.Goals as goal

pub returns-clause-some : goal.returns-clause-some
returns-clause-some c = some_found c.walk_safe.ensures c.logs_by_rows.ensures c.rows_compared.ensures.walk c.scans_in_turn.ensures.walk
