use Rattle.std.proofs.Common.{◌∙◌, ◌++◌, ◌∷◌, [], List, ap, sym, drop, arith}
use Rattle.std.proofs.lemmas.List.{append_assoc}
use Rattle.board_defs.specs.declared.board.Ctl.{Ctl}
use Rattle.driver_passes.specs.inner.Drafts.{passing_controls}
use Rattle.driver_passes.specs.inner.NumberSets.{is_in}
use Rattle.driver_passes.proofs.ChosenLemmas.{chosen_next, chosen_skip}
use Rattle.driver_passes.proofs.draft.controls_at.Goals as goal

pub loop-place-init : goal.loop-place-init
loop-place-init c =
    let controls = c.args.controls.now in
    let first = c.first_from-place.result in
    let rest : List Ctl = passing_controls (is_in c.args.places.now) first (drop first controls) in
    record {
      held = c.first_from-place.ensures.found;
      rest =
          ap (λ v. v ++ rest) c.new-found.ensures.items
          ∙ sym
          (chosen_skip (is_in c.args.places.now) controls 0 first (omega arith)
          c.first_from-place.ensures.passed);
    }

pub loop-place-preserved : goal.loop-place-preserved
loop-place-preserved c =
    let controls = c.args.controls.now in
    let place = c.loop-place.place in
    let next = c.first_from-place-in-loop-place.result in
    let rest : List Ctl = passing_controls (is_in c.args.places.now) next (drop next controls) in
    let within = c.loop-place-test.true in
    record {
      held = c.first_from-place-in-loop-place.ensures.found;
      rest = ap (λ v. v ++ rest) c.in_ok-push.ensures.items ∙ append_assoc c.loop-place.found.items (_ ∷ []) rest ∙
          ap (λ v. c.loop-place.found.items ++ v)
          (sym
          (chosen_next (is_in c.args.places.now) controls place next _ within
          (c.loop-place.invariant.held within)
          c.first_from-place-in-loop-place.ensures.further
          c.first_from-place-in-loop-place.ensures.passed)) ∙ c.loop-place.invariant.rest;
    }
