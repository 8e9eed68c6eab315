-- An item is kept if and only if its key is new.
use Rattle.std.proofs.Common.{sym, ◌∙◌}
use Rattle.indexmap.specs.IndexSet.{contains}
use Rattle.first_places.specs.Places.{once}
use Rattle.first_places.proofs.OnceLemmas.{seen_step, once_step, unless}
use Rattle.first_places.proofs.once_by.Goals as goal

pub loop-item-preserved : goal.loop-item-preserved
loop-item-preserved g c =
    let eq = g.K.PartialEq.eq in
    let x = c.item-item.result in
    record {
      seen =
          λ q. seen_step (λ s. eq s.0 q) c.args.items.now c.loop-item.item-index x
          (contains eq c.was_seen.new.seen q) (contains eq c.loop-item.seen q) c.loop-item-test.true
          (sym c.item-item.is) (c.loop-item.invariant.seen q) (c.in_ok-again.ensures.seen q);
      kept =
          once_step (λ a b. eq a.0 b.0) c.args.items.now c.loop-item.item-index x
          c.loop-item.kept.items c.push_if.new.items.items
          (once (λ a b. eq a.0 b.0) c.args.items.now) c.in_ok-again.again c.loop-item-test.true
          (sym c.item-item.is) (c.in_ok-again.ensures.was ∙ c.loop-item.invariant.seen x.0)
          (c.in_ok-push_if.ensures ∙ unless c.in_ok-again.again c.loop-item.kept.items x) c.loop-item.invariant.kept;
    }
