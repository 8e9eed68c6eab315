use Rattle.std.proofs.Common.{◌≡◌, true, refl, sym}
use Rattle.std.proofs.lemmas.Bool.{both_ways}
use Rattle.fault_sim.specs.Places.{observes_fault}
use Rattle.diagnoser.proofs.search.Search.explains.Goals as goal

pub returns-then-is_ruled_out : goal.returns-then-is_ruled_out
returns-then-is_ruled_out c = (λ bad. cc bad, λ both. absurd (c.if-is_ruled_out.ensures refl (c.requires both.0) both.1))

pub returns-then-not-observes : goal.returns-then-not-observes
returns-then-not-observes c =
    let s = c.args.self.now in
    let not_observed = sym (rw (c.test.ensures, c.logged.ensures, c.compared-compared.ensures) at c.if-not-observes.ensures) in
    (λ bad. cc bad, λ both. absurd (both_ways (observes_fault s.logged.test.plan c.args.fault) not_observed both.0))

pub matches-requires : goal.matches-requires
matches-requires c =
    let observed = sym (rw (c.test.ensures, c.logged.ensures, c.compared-compared.ensures) at c.if-not-observes.ensures) in
    rw c.compared-compared.ensures (c.requires observed)

pub returns : goal.returns
returns c =
    let s = c.args.self.now in
    let observed : observes_fault s.logged.test.plan c.args.fault ≡ true =
    sym (rw (c.test.ensures, c.logged.ensures, c.compared-compared.ensures) at c.if-not-observes.ensures) in
    let explained = rw c.compared-compared.ensures at c.matches.ensures in
    (λ e. (observed, explained.0 e), λ both. explained.1 both.1)
