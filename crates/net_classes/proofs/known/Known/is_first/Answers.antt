use Rattle.std.proofs.Common.{◌∙◌, ap}
use Rattle.std.specs.Prelude.{slice_get}
use Rattle.board_defs.specs.Decided.{is_by}
use Rattle.net_classes.specs.Pairs.{drivers_at}
use Rattle.net_classes.proofs.KnownLemmas.{first_at}
use Rattle.net_classes.proofs.known.Known.is_first.Goals as goal

pub returns-in-Some : goal.returns-in-Some
returns-in-Some c =
    let inside = c.self.inside in
    let first = first_at inside.board.now inside.facts.now c.deref.result.now c.args.net
    c.in-Some.first.now c.self.invariant.0 (c.deref.ensures.value ∙ c.self.invariant.1)
    c.in-Some.ensures.lookup.3.0 c.in-Some.ensures.lookup.1 in
    c.is_by.ensures ∙ ap (is_by c.args.c) first ∙ ap (λ k. is_by c.args.c (slice_get (drivers_at k.board c.args.net) 0)) c.self.view_is
