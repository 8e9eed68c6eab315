use Rattle.std.proofs.Common.{refl}
use Rattle.walk_test.specs.WalkTest.{walk_row_list}
use Rattle.walk_test.specs.Groups.{or_shorts}
use Rattle.walk_test.proofs.LawLemmas.{faults_are, in_turn}
use Rattle.walk_test.proofs.law.groups_respond.Goals as goal

pub returns-clause-faults : goal.returns-clause-faults
returns-clause-faults c = faults_are c.walk_safe.ensures

pub returns-clause-some : goal.returns-clause-some
returns-clause-some c board groups rules are =
    let r = c.one_log.ensures.some board (or_shorts groups) (walk_row_list board) rules
    (faults_are c.walk_safe.ensures board groups rules are) (λ n k i e. refl)
    (in_turn c.walk_safe.ensures c.scans_in_turn.ensures.walk board rules) in
    (r.0, record { are = are; explained = r.1 })

pub returns-clause-one : goal.returns-clause-one
returns-clause-one c board groups log other rules first second =
    c.one_log.ensures.one board (or_shorts groups) (walk_row_list board) log other rules
    (in_turn c.walk_safe.ensures c.scans_in_turn.ensures.walk board rules) first.explained
    second.explained
