use Rattle.std.proofs.Common.{◌++◌, ◌∷◌, [], ℕ, Bool, List, Option, is_some, cond, ap, sym, ◌∙◌}
use Rattle.lists.proofs.ListLemmas.{filter_below_more}
use Rattle.board_defs.specs.Settings.{holds}
use Rattle.net_pins.specs.declared.nets.NetDriver.{NetDriver}
use Rattle.net_pins.specs.Enabled.{observer_on}
use Rattle.walk_test.specs.inner.Tables.{nets_in}
use Rattle.walk_test.proofs.nets.nets_in.Goals as goal

pub loop-n-preserved : goal.loop-n-preserved
loop-n-preserved c =
    let pins = c.args.pins.now in
    let walk = c.args.walk.now in
    let n = c.loop-n.n in
    c.in_ok-push_if.ensures
    ∙ ap (λ (l : List ℕ). l ++ cond c.is_some.result (n ∷ []) []) c.loop-n.invariant
    ∙ ap (λ (b : Bool). nets_in pins walk n ++ cond b (n ∷ []) [])
    (c.is_some.ensures ∙ ap (λ (o : Option NetDriver). is_some o) c.observer.ensures)
    ∙ sym (filter_below_more (λ m. is_some (observer_on pins.nets (holds walk) m)) n)
