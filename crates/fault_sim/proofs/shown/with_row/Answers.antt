use Rattle.std.proofs.Common.{◌≡◌, ◌⊎◌, inl, inr, ℕ, ◌<◌, ◌*◌, ◌%◌, ◌^◌, ◌==◌, ◌&&◌, ◌||◌, Bool, true, ap, sym, ◌∙◌, w32}
use Rattle.std.specs.Prelude.{bit_or}
use Rattle.std.proofs.Math.Bool.{or-false, or-true}
use Rattle.std.proofs.lemmas.Bool.{cases_eq, eq-eqb, ne_eqb}
use Rattle.std.proofs.lemmas.Nat.Bits.{bit_at_set_other, bit_at_set_same}
use Rattle.fault_sim.specs.inner.Words.{word_bit}
use Rattle.fault_sim.proofs.shown.with_row.Goals as goal

row_set : (word j : ℕ) → j < 32 → (i : ℕ) → (i ≡ j) ⊎ (i ≡ j → ⊥)
    → word_bit (bit_or word (1 * 2 ^ j % 4294967296)) i ≡ (word_bit word i || ((i == j) && true))
row_set word j less i (inl e) =
    ap (λ k. word_bit (bit_or word (1 * 2 ^ j % 4294967296)) k) e
    ∙ ap (λ k. k == 1) (bit_at_set_same w32 word j less)
    ∙ sym (ap (λ (b : Bool). word_bit word i || (b && true)) (eq-eqb i j e) ∙ or-true (word_bit word i))
row_set word j less i (inr other) =
    ap (λ k. k == 1) (bit_at_set_other w32 word j less i other)
    ∙ sym (ap (λ (b : Bool). word_bit word i || (b && true)) (ne_eqb i j other) ∙ or-false (word_bit word i))

pub returns-then-bit : goal.returns-then-bit
returns-then-bit c i less = rw c.if-bit.true (row_set c.args.word c.args.j c.requires i (cases_eq i c.args.j))
