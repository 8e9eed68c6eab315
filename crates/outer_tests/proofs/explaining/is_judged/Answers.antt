use Rattle.std.proofs.Common.{◌∙◌}
use Rattle.outer_tests.proofs.explaining.is_judged.Goals as goal

pub diagnose_in-verdict-requires-clause-log : goal.diagnose_in-verdict-requires-clause-log
diagnose_in-verdict-requires-clause-log g c = λ κs within.
    rw (c.in_ok-test.ensures ∙ c.of.ensures) (record { rows = c.requires.rows; bits = c.requires.bits })
