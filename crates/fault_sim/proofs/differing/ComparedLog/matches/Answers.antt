use Rattle.std.proofs.Common.{sym}
use Rattle.std.proofs.lemmas.Bool.{both_ways}
use Rattle.fault_sim.proofs.MatchLemmas.{decides_as, own_shown}
use Rattle.fault_sim.proofs.ExplainLemmas.{are_own, own_enough}
use Rattle.fault_sim.proofs.differing.ComparedLog.matches.Goals as goal

pub returns-then-not-are_of : goal.returns-then-not-are_of
returns-then-not-are_of c =
    let logged = c.args.self.now in
    let law = (rw c.logged-logged.ensures at c.laws.ensures.explains) c.args.fault c.requires in (
      λ bad. cc bad,
      λ explains. absurd
          (both_ways _ (sym c.if-not-are_of.ensures)
          (are_own logged.test.board logged.test.plan logged.log c.args.fault c.first_net.result
          c.second_net.result c.first_net.ensures c.second_net.ensures c.nets.result.now
          c.nets.ensures (law.0 explains))),
    )

pub returns : goal.returns
returns c =
    let logged = c.args.self.now in
    let board = logged.test.board in
    let law = (rw c.logged-logged.ensures at c.laws.ensures.explains) c.args.fault c.requires in
    decides_as c.shows_own.result (rw c.logged-logged.ensures at c.shows_own.ensures)
    (λ shown. law.1
    (own_enough board logged.test.plan logged.log c.args.fault c.first_net.result
    c.second_net.result c.first_net.ensures c.second_net.ensures c.nets.result.now c.nets.ensures
    (sym c.if-not-are_of.ensures) shown))
    (λ explains. own_shown board logged.test.plan logged.log c.args.fault c.requires (law.0 explains))
