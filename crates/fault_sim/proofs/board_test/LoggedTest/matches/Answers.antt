use Rattle.fault_sim.proofs.MatchLemmas.{decides_as, own_shown}
use Rattle.fault_sim.proofs.board_test.LoggedTest.matches.Goals as goal

pub returns-then-not-shows_own : goal.returns-then-not-shows_own
returns-then-not-shows_own c =
    let logged = c.args.self.now in
    let law = c.laws.ensures.explains c.args.fault c.requires in (
      λ bad. cc bad,
      λ explains. c.if-not-shows_own.ensures.1
          (own_shown logged.test.board logged.test.plan logged.log c.args.fault c.requires (law.0 explains)),
    )

pub returns : goal.returns
returns c =
    let law = c.laws.ensures.explains c.args.fault c.requires in
    decides_as c.shows_all.result c.shows_all.ensures law.1 law.0
