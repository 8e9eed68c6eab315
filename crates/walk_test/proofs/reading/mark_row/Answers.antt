use Rattle.std.proofs.Common.{◌≡◌, ℕ, List, true, false, get_or, sym, ap, ◌∙◌, arith}
use Rattle.std.proofs.lemmas.List.{get_or_default, get_or-set_same, get_or-set_other}
use Rattle.walk_test.specs.inner.Digits.{is_one}
use Rattle.walk_test.proofs.DigitLemmas.{fresh_more, left_more, marked_more}
use Rattle.walk_test.proofs.reading.mark_row.Goals as goal
use Rattle.walk_test.proofs.reading.mark_row.Goals.{then-is_one+else-firsts-at, else-is_one}

pub loop-at-preserved : goal.loop-at-preserved
loop-at-preserved c =
    let row = c.args.row.now.digits.now in
    let mask = c.args.row.now.mask.now in
    let none = c.args.none in
    let old = c.args.firsts.now in
    let now = c.loop-at.firsts in
    let new = c.if-is_one.firsts in
    let at = c.loop-at.at in
    let next = c.position_after-at.result in
    let past = c.position_after-at.ensures.past in
    let gap = c.position_after-at.ensures.none in
    let inv = c.loop-at.invariant in
    elim c.if-is_one.branch [
      | then-is_one+else-firsts-at w ↦
          let one : is_one row mask at ≡ true = sym c.is_one.ensures ∙ w.if-is_one.true in
          let others : (p : ℕ) → (p ≡ at → ⊥)
          → get_or new p none
          ≡ get_or now p none = λ p other. ap (λ (l : List ℕ). get_or l p none) w.firsts-is
          ∙ get_or-set_other now at p c.args.j none other in
          record {
            long = c.if-is_one.auto.firsts ∙ inv.long;
            fresh =
                fresh_more row mask c.args.j none old at next past gap inv.fresh
                (λ within on. sym (inv.left at (omega arith))
                ∙ get_or_default now at none 0 c.loop-at-test.true ∙ w.if-firsts-at.false);
            marked = marked_more row mask c.args.j none old at next past gap now new inv.left others inv.marked
                (λ within on. ap (λ (l : List ℕ). get_or l at none) w.firsts-is ∙ get_or-set_same now at c.args.j none c.loop-at-test.true)
                (λ off. let bad : true ≡ false = sym one ∙ off in cc bad);
            left = left_more row mask c.args.j none old at next past gap now new inv.left others;
          }
      | else-is_one w ↦
          let none_here : is_one row mask at ≡ false = sym c.is_one.ensures ∙ w.if-is_one.false in
          let others : (p : ℕ) → (p ≡ at → ⊥)
          → get_or new p none
          ≡ get_or now p none = λ p other. ap (λ (l : List ℕ). get_or l p none) w.firsts-is in
          record {
            long = c.if-is_one.auto.firsts ∙ inv.long;
            fresh =
                fresh_more row mask c.args.j none old at next past gap inv.fresh
                (λ within on. let bad : false ≡ true = sym none_here ∙ on in cc bad);
            marked = marked_more row mask c.args.j none old at next past gap now new inv.left others inv.marked
                (λ within on. let bad : false ≡ true = sym none_here ∙ on in cc bad)
                (λ off. ap (λ (l : List ℕ). get_or l at none) w.firsts-is);
            left = left_more row mask c.args.j none old at next past gap now new inv.left others;
          }
    ]
