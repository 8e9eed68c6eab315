use Rattle.diagnoser.proofs.LawLemmas.{passing_unexplained}
use Rattle.diagnoser.proofs.law.passing_unexplained.Goals as goal

pub returns : goal.returns
returns c board log faults rules expected explaining =
    passing_unexplained c.singles_listed.ensures board log faults rules explaining
    (c.singles_observable.ensures.observable board) c.singles_observable.ensures.nonempty
    (λ other observable nonempty explained. c.expected_logs.ensures.own_unexplained board rules log
    expected other observable nonempty explained)
