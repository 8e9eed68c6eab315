use Rattle.std.proofs.Common.{◌<◌, ◌∙◌, ◌++◌, ◌∷◌, [], Some, length, ap, sym, subst, arith}
use Rattle.std.specs.Prelude.{slice_set}
use Rattle.std.proofs.lemmas.List.{get_or_default}
use Rattle.std.proofs.lemmas.Option.{slice_get_within}
use Rattle.board_defs.specs.declared.board.Drive.{Drive}
use Rattle.board_defs.specs.Decided.{is_by}
use Rattle.board_defs.specs.Passes.{useful_controls}
use Rattle.driver_passes.specs.inner.Tested.{AreNoted}
use Rattle.driver_passes.proofs.TestedLemmas.{not_held, not_noted, noted}
use Rattle.driver_passes.proofs.tested.list_driver.Goals as goal

pub returns-in_ok-push : goal.returns-in_ok-push
returns-in_ok-push c =
    let board = c.args.board.now in
    let lists = c.args.lists.now in
    let q = c.in-Some.place in
    let net = c.args.net in
    let within : q < length lists = omega (arith, c.requires, slice_get_within (useful_controls board) q c.in-By.c c.in-Some.ensures) in
    let P : Drive → Type 0 = λ v. AreNoted board net (λ e. is_by e (Some v)) lists (slice_set lists q c.push.new.self) in
    subst P (sym c.in-By.is)
    (noted board lists net q c.in-By.c c.push.new.self
    c.laws.ensures.passes.said.useful_in_order c.requires c.in-Some.ensures
    (c.in_ok-push.ensures
    ∙ ap (λ v. v ++ net ∷ [])
    (get_or_default lists q c.index-lists-place.result [] within)))

pub returns-in_default-place_of : goal.returns-in_default-place_of
returns-in_default-place_of c =
    let board = c.args.board.now in
    not_noted board c.args.lists.now c.args.net (λ e. is_by e (Some c.args.d))
    (λ place e at. ap (λ d. is_by e (Some d)) c.in-By.is
    ∙ not_held (useful_controls board) place e c.in-By.c c.in_default-place_of.ensures at)
