-- Lemmas about codes below `2 ^ w`: those from 1 to `2 ^ w - 2` have a 0 bit and a 1 bit, and two
-- different codes differ in some bit.
use Rattle.std.proofs.Common.{◌≡◌, ◌≢◌, ℕ, zero, suc, ◌+◌, ◌/◌, ◌%◌, ◌^◌, ◌<◌, ◌≤◌, ◌⊎◌, inl, inr, refl, ◌∙◌, sym, arith}
use Rattle.std.specs.Int.{bit_at}
use Rattle.std.proofs.lemmas.Nat.Bits.{bit_at-suc, bit_at_lowest}
use Rattle.std.proofs.Math.Nat.{pow-suc}
use Rattle.std.proofs.lemmas.Bool.{cases_eq}

-- some bit of the code `c` below bit `w` has the value `v`
abbrev pub HasBit : ℕ → ℕ → ℕ → Type 0
HasBit c w v = (j : ℕ) × (j < w) × (bit_at c j ≡ v)

shifted : (c w v : ℕ) → HasBit (c / 2) w v → HasBit c (suc w) v
shifted c w v h = (suc h.0, omega (arith, h.1), bit_at-suc c h.0 ∙ h.2)

half_below : (c w : ℕ) → c < 2 ^ suc w → c / 2 < 2 ^ w
half_below c w h = omega (arith, pow-suc 2 w, h)

pub has_one : (w c : ℕ) → 1 ≤ c → c < 2 ^ w → HasBit c w 1
has_one zero c some fits = absurd (omega (arith, some, fits))
has_one (suc w) c some fits =
    by_parity (c % 2) refl
    (λ even. shifted c w 1 (has_one w (c / 2) (omega (arith, some, even)) (half_below c w fits)))
  where
    by_parity : (r : ℕ) → c % 2 ≡ r → (c % 2 ≡ 0 → HasBit c (suc w) 1) → HasBit c (suc w) 1
    by_parity zero e ih = ih e
    by_parity (suc zero) e ih = (0, omega arith, bit_at_lowest c ∙ e)
    by_parity (suc (suc r)) e ih = absurd (omega (arith, e))

pub has_zero : (w c : ℕ) → c + 2 ≤ 2 ^ w → HasBit c w 0
has_zero zero c fits = absurd (omega (arith, fits))
has_zero (suc w) c fits = by_parity (c % 2) refl (λ odd. shifted c w 0 (has_zero w (c / 2) (omega (arith, pow-suc 2 w, fits, odd))))
  where
    by_parity : (r : ℕ) → c % 2 ≡ r → (c % 2 ≡ 1 → HasBit c (suc w) 0) → HasBit c (suc w) 0
    by_parity zero e ih = (0, omega arith, bit_at_lowest c ∙ e)
    by_parity (suc zero) e ih = ih e
    by_parity (suc (suc r)) e ih = absurd (omega (arith, e))

-- the codes `c` and `d` differ in some bit below bit `w`
abbrev pub Differ : ℕ → ℕ → ℕ → Type 0
Differ c d w = (j : ℕ) × (j < w) × (bit_at c j ≢ bit_at d j)

lowest_differs : (c d w : ℕ) → c % 2 ≢ d % 2 → Differ c d (suc w)
lowest_differs c d w ne = (0, omega arith, λ e. ne (sym (bit_at_lowest c) ∙ e ∙ bit_at_lowest d))

pub codes_differ : (w c d : ℕ) → c < 2 ^ w → d < 2 ^ w → c ≢ d → Differ c d w
codes_differ zero c d fc fd ne = absurd (ne (omega (arith, fc, fd)))
codes_differ (suc w) c d fc fd ne =
    by_parity (cases_eq (c % 2) (d % 2))
    (λ same.
    let r = codes_differ w (c / 2) (d / 2) (half_below c w fc) (half_below d w fd) (λ e. ne (omega (arith, same, e))) in
    (suc r.0, omega (arith, r.1), λ e. r.2 (sym (bit_at-suc c r.0) ∙ e ∙ bit_at-suc d r.0)))
  where
    by_parity : (c % 2 ≡ d % 2) ⊎ (c % 2 ≡ d % 2 → ⊥) → (c % 2 ≡ d % 2 → Differ c d (suc w)) → Differ c d (suc w)
    by_parity (inl e) ih = ih e
    by_parity (inr other) ih = lowest_differs c d w other
