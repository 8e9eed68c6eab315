use Rattle.std.proofs.Common.{◌∙◌}
use Rattle.diagnoser.proofs.diagnosis.diagnose.Goals as goal

pub new-requires : goal.new-requires
new-requires g c =
    rw (c.in_ok-test.ensures ∙ c.of.ensures) (record { rows = c.requires.rows; bits = c.requires.bits })

pub returns-clause-faults : goal.returns-clause-faults
returns-clause-faults g c =
    let found = rw c.in_ok-search.ensures at c.explaining.ensures.faults in
    rw (c.in_ok-test.ensures ∙ c.of.ensures) at found

pub returns-clause-named : goal.returns-clause-named
returns-clause-named g c =
    let named = rw c.in_ok-search.ensures at c.explaining.ensures.named in
    rw (c.in_ok-test.ensures ∙ c.of.ensures) at named
