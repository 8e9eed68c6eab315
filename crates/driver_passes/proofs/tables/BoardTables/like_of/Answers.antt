use Rattle.std.proofs.Common.{◌≡◌, ◌<◌, ◌∙◌, ap, get_or, length, arith, sym}
use Rattle.std.proofs.lemmas.List.{get_or_default}
use Rattle.net_classes.specs.Pairs.{drivers_at}
use Rattle.driver_passes.proofs.tables.BoardTables.like_of.Goals as goal

pub returns-in-Some : goal.returns-in-Some
returns-in-Some c =
    let board = c.self.inside.classes in
    let are = c.self.invariant.2 in
    let likes = c.deref.result.now in
    let net = c.args.net in
    let like = c.in-Some.like.now in
    let there = c.in-Some.ensures.lookup.3.0 in
    let is : like
    ≡ get_or c.self.inside.likes.items net 0 = c.in-Some.ensures.lookup.1
    ∙ get_or_default likes net like 0 there
    ∙ ap (λ v. get_or v net 0) c.deref.ensures.value in
    let less : net < length board.nets = omega (arith, there, ap length c.deref.ensures.value, are.likes_length) in
    rw (sym c.self.view_is) (ap (drivers_at board) is ∙ are.likes_are net less)
