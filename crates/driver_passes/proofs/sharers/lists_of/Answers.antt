use Rattle.std.proofs.Common.{◌≡◌, ◌∙◌, ◌+◌, ℕ, List, ap, length, sym, subst}
use Rattle.std.specs.Prelude.{slice_get}
use Rattle.std.proofs.lemmas.List.{with_items_is}
use Rattle.std.proofs.lemmas.Option.{slice_get-get_or}
use Rattle.driver_passes.specs.inner.Sharers.{AreSharersBelow}
use Rattle.driver_passes.proofs.SharerLemmas.{AreMarked, shared_within, sharers_more}
use Rattle.driver_passes.proofs.sharers.lists_of.Goals as goal

pub shared_nets-requires : goal.shared_nets-requires
shared_nets-requires c =
    c.useful-c-items.ensures.cells c.loop-place.place _ c.loop-place-test.true

pub list_place-requires : goal.list_place-requires
list_place-requires c =
    shared_within c.args.board.now _ _ _ c.shared_nets.ensures
    (ap length c.deref_mut.ensures.value ∙ c.loop-place.invariant.sharers_length)

pub loop-place-preserved : goal.loop-place-preserved
loop-place-preserved c =
    let board = c.args.board.now in
    let before = c.loop-place.sharers in
    let place = c.loop-place.place in
    let nets = c.shared_nets.result.now in
    let after : List (List ℕ) = c.list_place.new.sharers in
    let size : length after ≡ before.len = c.list_place.auto.sharers ∙ c.deref_mut.ensures.len in
    let kept = with_items_is before c.list_place.new.sharers size in
    let P : List (List ℕ) → Type 0 = λ v. AreSharersBelow board (place + 1) v in
    let Q : List (List ℕ) → Type 0 = λ v. AreMarked place nets v after in
    let stands = ap (λ v. slice_get v place) (sym c.useful-c-items.ensures.controls)
    ∙ slice_get-get_or c.useful-c-items.result.now place _ c.loop-place-test.true in
    subst P (sym kept)
    (sharers_more board place _ nets before.items after c.loop-place.invariant stands
    c.shared_nets.ensures (c.list_place.auto.sharers ∙ ap length c.deref_mut.ensures.value)
    (subst Q c.deref_mut.ensures.value c.in_ok-list_place.ensures))
