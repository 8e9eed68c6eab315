-- If the key of an item is already in the set, an earlier item has the same key.
use Rattle.std.proofs.Common.{◌≡◌, true, false, take, ap, sym, ◌∙◌}
use Rattle.std.specs.Prelude.{option_map}
use Rattle.std.specs.List.{list_any}
use Rattle.indexmap.specs.IndexSet.{contains}
use Rattle.first_places.specs.Places.{first_repeated}
use Rattle.first_places.proofs.OnceLemmas.{seen_step, repeated_new, repeated_old}
use Rattle.first_places.proofs.first_repeated.Goals as goal

pub returns-then-again : goal.returns-then-again
returns-then-again g c =
    let eq = g.K.PartialEq.eq in
    let x = c.item-item.result in
    let there : list_any (λ s. eq s.0 x.0) (take c.loop-item.item-index c.args.items.now)
    ≡ true = sym (c.loop-item.invariant.seen x.0) ∙ sym c.in_ok-again.ensures.was
    ∙ c.if-again.true in
    let old = repeated_old (λ a b. eq a.0 b.0) c.args.items.now c.loop-item.item-index x
    (first_repeated (λ a b. eq a.0 b.0) c.args.items.now) c.loop-item-test.true
    (sym c.item-item.is) there c.loop-item.invariant.none in
    sym (ap (option_map (λ i. i.1)) old)

pub loop-item-preserved : goal.loop-item-preserved
loop-item-preserved g c =
    let eq = g.K.PartialEq.eq in
    let x = c.item-item.result in
    let fresh : list_any (λ s. eq s.0 x.0) (take c.loop-item.item-index c.args.items.now)
    ≡ false = sym (c.loop-item.invariant.seen x.0) ∙ sym c.in_ok-again.ensures.was
    ∙ c.if-again.false in
    record {
      seen =
          λ q. seen_step (λ s. eq s.0 q) c.args.items.now c.loop-item.item-index x
          (contains eq c.was_seen.new.seen q) (contains eq c.loop-item.seen q) c.loop-item-test.true
          (sym c.item-item.is) (c.loop-item.invariant.seen q) (c.in_ok-again.ensures.seen q);
      none =
          repeated_new (λ a b. eq a.0 b.0) c.args.items.now c.loop-item.item-index x
          (first_repeated (λ a b. eq a.0 b.0) c.args.items.now) c.loop-item-test.true
          (sym c.item-item.is) fresh c.loop-item.invariant.none;
    }
