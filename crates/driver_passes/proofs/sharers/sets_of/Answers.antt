use Rattle.std.proofs.Common.{◌≡◌, ◌∙◌, ◌<◌, [], ℕ, ap, arith, get_or, length, sym, take}
use Rattle.std.proofs.lemmas.List.{get_or_default, length-take-le, take_more, length_push}
use Rattle.driver_passes.specs.inner.Blocks.{has_place}
use Rattle.driver_passes.specs.inner.Drafts.{has_number}
use Rattle.driver_passes.proofs.SharerLemmas.{sets_more}
use Rattle.driver_passes.proofs.sharers.sets_of.Goals as goal

pub loop-places-preserved : goal.loop-places-preserved
loop-places-preserved c =
    let lists = c.args.lists.now in
    let i = c.loop-places.places-index in
    let sets = c.loop-places.sets.items in
    let set = c.in_ok-blocks_of.field-0 in
    let less : i < length lists = omega arith in
    let same : (q : ℕ)
    → has_place set q
    ≡ has_number (get_or lists i []) q = λ q. c.in_ok-blocks_of.ensures q
    ∙ ap (λ v. has_number v q)
    (c.as_slice.ensures ∙ c.places-item.is ∙ get_or_default lists i _ [] less) in
    record {
      size = omega (arith, ap length c.in_ok-push.ensures.items, length_push sets set, c.loop-places.invariant.size);
      sets = λ n q.
          ap (λ v. has_place (get_or v n []) q) c.in_ok-push.ensures.items
          ∙ sets_more sets (take i lists) set (get_or lists i [])
          (c.loop-places.invariant.size ∙ sym (length-take-le i lists (omega (arith, less))))
          c.loop-places.invariant.sets same n q ∙
          ap (λ v. has_number (get_or v n []) q) (sym (take_more lists i [] less));
    }
