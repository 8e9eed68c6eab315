use Rattle.std.proofs.Common.{◌≡◌, ◌⊎◌, ◌++◌, length, sym, ap, ◌∙◌, append-nil, inl, inr}
use Rattle.btest_core.proofs.ChoiceLemmas.{no_pairs}
use Rattle.btest_core.proofs.devices.zipped.Goals as goal

pub returns : goal.returns
returns c =
    let ended : (length c.loop-number.number-iterator.a.rest.now ≡ 0) ⊎ (length c.loop-number.number-iterator.b.rest.now ≡ 0) =
    elim c.in-None.ensures.steps [ inl first ↦ inl first.1.0 | inr second ↦ inr second.1.0 ] in
    sym
    (c.loop-number.invariant
    ∙ ap (λ pairs. c.loop-number.list.items ++ pairs)
    (no_pairs c.loop-number.number-iterator.a.rest.now
    c.loop-number.number-iterator.b.rest.now ended) ∙ append-nil c.loop-number.list.items)
