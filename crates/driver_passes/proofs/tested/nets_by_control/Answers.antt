use Rattle.std.proofs.Common.{◌≡◌, ◌∙◌, ◌+◌, ℕ, List, ap, length, sym, subst}
use Rattle.std.proofs.lemmas.List.{with_items_is}
use Rattle.driver_passes.specs.inner.Tested.{AreListed, AreNoted, drives}
use Rattle.driver_passes.proofs.TestedLemmas.{listed_more}
use Rattle.driver_passes.proofs.tested.nets_by_control.Goals as goal

pub loop-net-preserved : goal.loop-net-preserved
loop-net-preserved c =
    let board = c.args.board.now in
    let before = c.loop-net.lists in
    let after : List (List ℕ) = c.list_drivers.new.lists in
    let drivers = c.tested_drivers.result.now in
    let size : length after ≡ before.len = c.list_drivers.auto.lists ∙ c.deref_mut.ensures.len in
    let kept = with_items_is before c.list_drivers.new.lists size in
    let P : List (List ℕ) → Type 0 = λ v. AreListed board (c.loop-net.net + 1) v in
    let Q : List (List ℕ) → Type 0 = λ v. AreNoted board c.loop-net.net (λ d. drives d drivers) v after in
    subst P (sym kept)
    (listed_more board c.loop-net.net before.items after drivers c.loop-net.invariant
    (c.list_drivers.auto.lists ∙ ap length c.deref_mut.ensures.value)
    c.tested_drivers.ensures.drivers
    (subst Q c.deref_mut.ensures.value c.in_ok-list_drivers.ensures))
