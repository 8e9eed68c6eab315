use Rattle.std.proofs.Common.{◌<◌, ◌∙◌, ap, get_or, length, sym, arith}
use Rattle.std.specs.Prelude.{slice_get}
use Rattle.std.proofs.lemmas.Option.{slice_get-get_or}
use Rattle.board_defs.specs.declared.board.Ctl.{Ctl}
use Rattle.board_defs.specs.Passes.{useful_controls}
use Rattle.driver_passes.specs.inner.Drafts.{drafted}
use Rattle.driver_passes.proofs.WalkLemmas.{first_adds, first_passes}
use Rattle.driver_passes.proofs.draft.Draft.add_new.Goals as goal

pub returns-then-useful-place-clause-step : goal.returns-then-useful-place-clause-step
returns-then-useful-place-clause-step c =
    let inside = c.self.inside in
    let board = inside.board.now in
    let earlier = c.args.earlier.now in
    let place = c.first_outside-place.result in
    let known = rw (sym c.self.view_is) at c.requires.earlier in
    rw (sym c.self.view_is)
    (ap (drafted board)
    (sym
    (first_passes board inside.held inside.free earlier.passes.items earlier.held
    c.args.from place c.classes.ensures.laws.passes c.self.invariant known.held
    c.first_outside-place.ensures.further c.first_outside-place.ensures.passed)))

pub returns-clause-step : goal.returns-clause-step
returns-clause-step c =
    let inside = c.self.inside in
    let board = inside.board.now in
    let earlier = c.args.earlier.now in
    let place = c.first_outside-place.result in
    let known = rw (sym c.self.view_is) at c.requires.earlier in
    let within : place < length c.useful-useful.result.now = omega (arith, c.if-useful-place.false) in
    let none : Ctl = record { part = 0; cell = 0 } in
    let added : Ctl = get_or c.useful-useful.result.now place none in
    let at = ap (λ v. slice_get v place)
    (sym (c.useful-useful.ensures.controls ∙ ap useful_controls c.classes.ensures.same))
    ∙ slice_get-get_or c.useful-useful.result.now place none within in
    rw (sym c.self.view_is)
    (first_adds board inside.held inside.free earlier.passes.items earlier.held c.add.new.self
    c.args.from place added c.classes.ensures.laws.passes c.self.invariant known.held
    c.first_outside-place.ensures.further c.first_outside-place.ensures.passed at
    (c.first_outside-place.ensures.found within) (rw (sym c.self.view_is) at c.add.ensures))
