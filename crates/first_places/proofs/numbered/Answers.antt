-- A new key is kept and gets the next number. Any other key already has a number.
use Rattle.std.proofs.Common.{◌≡◌, ◌+◌, ◌++◌, ◌∷◌, [], length, take, drop, cond, not, sym, ap, ◌∙◌, arith}
use Rattle.std.specs.List.{list_any, position_or_len}
use Rattle.std.proofs.lemmas.List.Sums.{prefix_len-le-length}
use Rattle.indexmap.specs.IndexSet.{contains}
use Rattle.first_places.specs.Places.{once, once_from}
use Rattle.first_places.proofs.OnceLemmas.{seen_step, once_step, one_more, unless}
use Rattle.first_places.proofs.CountLemmas.{number_step}
use Rattle.first_places.proofs.numbered.Goals as goal

pub overflow_cast-number : goal.overflow_cast-number
overflow_cast-number g c =
    let eq = g.K.PartialEq.eq in
    let x = c.key-item.result in
    let most = prefix_len-le-length (λ k. not (eq x k)) c.loop-key.seen.keys in
    let size = ap length c.loop-key.invariant.same in
    omega (
      arith,
      c.in_ok-number.ensures.number,
      most,
      size,
      c.loop-key.kept.ok.0,
      c.loop-key.invariant.few,
      c.loop-key-test.true,
      c.requires,
    )

pub loop-key-preserved : goal.loop-key-preserved
loop-key-preserved g c =
    let eq = g.K.PartialEq.eq in
    let x = c.key-item.result in
    let keys = c.args.keys.now in
    let i = c.loop-key.key-index in
    let was = c.in_ok-number.number.1 in
    let old = c.loop-key.kept.items in
    let pushed = c.in_ok-push_if.ensures ∙ unless was old x in
    let kept : once eq keys ≡ c.push_if.new.items.items ++ once_from eq (take (i + 1) keys) (drop (i + 1) keys) =
    once_step eq keys i x old c.push_if.new.items.items (once eq keys) was c.loop-key-test.true
    (sym c.key-item.is) (c.in_ok-number.ensures.was ∙ c.loop-key.invariant.seen x)
    pushed c.loop-key.invariant.kept in
    record {
      same =
          c.in_ok-number.ensures.keys
          ∙ ap (λ b. cond b c.loop-key.seen.keys (c.loop-key.seen.keys ++ x ∷ []))
          (sym c.in_ok-number.ensures.was)
          ∙ ap (λ v. cond was v (v ++ x ∷ [])) c.loop-key.invariant.same ∙ sym pushed;
      seen =
          λ q. seen_step (λ s. eq s q) keys i x (contains eq c.number_of.new.seen q)
          (contains eq c.loop-key.seen q) c.loop-key-test.true (sym c.key-item.is)
          (c.loop-key.invariant.seen q) (c.in_ok-number.ensures.seen q);
      kept = kept;
      few = omega (arith, ap length pushed, one_more was old x, c.loop-key.invariant.few);
      numbers =
          number_step eq g.met.K.Eq.laws keys i x old c.push_if.new.items.items
          (once_from eq (take (i + 1) keys) (drop (i + 1) keys)) (once eq keys) was
          c.in_ok-number.number.0 c.loop-key.numbers.items c.push.new.self.items
          c.loop-key-test.true (sym c.key-item.is)
          (c.in_ok-number.ensures.was ∙ ap (list_any (eq x)) c.loop-key.invariant.same)
          pushed kept
          (c.in_ok-number.ensures.number ∙ ap (position_or_len (eq x)) c.loop-key.invariant.same)
          c.loop-key.invariant.numbers c.in_ok-push.ensures.items;
    }
