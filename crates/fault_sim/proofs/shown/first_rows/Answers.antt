use Rattle.std.proofs.Common.{◌≡◌, ◌⊎◌, inl, inr, ℕ, ◌<◌, ◌≤◌, ◌-◌, ◌*◌, ◌%◌, ◌^◌, ◌==◌, ltb, ap, sym, ◌∙◌, arith}
use Rattle.std.proofs.Math.Nat.{mod-eq_of_lt}
use Rattle.std.proofs.Math.Pow.{pow-lt}
use Rattle.std.proofs.lemmas.Bool.{cases_lt, le-ltb, lt-ltb}
use Rattle.std.proofs.lemmas.Nat.Bits.{bit_at_ones, bit_at_ones_above}
use Rattle.fault_sim.specs.inner.Words.{word_bit}
use Rattle.fault_sim.proofs.shown.first_rows.Goals as goal

rows_are : (width j : ℕ) → (j < width) ⊎ (width ≤ j) → word_bit (2 ^ width - 1) j ≡ ltb j width
rows_are width j (inl less) = ap (λ k. k == 1) (bit_at_ones width j less) ∙ sym (lt-ltb j width less)
rows_are width j (inr past) = ap (λ k. k == 1) (bit_at_ones_above width j past) ∙ sym (le-ltb j width past)

pub returns : goal.returns
returns c j =
    let width = c.args.width in
    let below : 2 ^ width < 4294967296 = pow-lt c.requires in
    let fits : 1 * 2 ^ width < 4294967296 = omega (arith, below) in
    let mask : 1 * 2 ^ width % 4294967296 ≡ 2 ^ width = mod-eq_of_lt fits ∙ omega arith in
    ap (λ k. word_bit (k - 1) j) mask ∙ rows_are width j (cases_lt j width)
