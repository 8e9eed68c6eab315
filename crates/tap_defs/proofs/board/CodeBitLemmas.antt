-- Among their lowest `w` bits, each code from 1 to `2 ^ w - 2` has a 0 bit and a 1 bit, and two different codes below
-- `2 ^ w` differ.
use Rattle.std.proofs.Common.{◌≡◌, ◌≢◌, ℕ, zero, suc, ◌+◌, ◌/◌, ◌%◌, ◌^◌, ◌<◌, ◌≤◌, ◌==◌, Bool, true, false, cond, not, List, [], ◌∷◌, take, Some, refl, sym, ◌∙◌, ap, arith}
use Rattle.std.specs.Prelude.{slice_get, count_by}
use Rattle.std.proofs.lemmas.Nat.Bits.{bit_at-suc, bit_at_lowest}
use Rattle.std.proofs.Math.Nat.{pow-suc}
use Rattle.std.proofs.lemmas.List.Sums.{sum_by-cons}
use Rattle.tap_defs.specs.board.TestRows.{code_bit, CodesTell}

later_bit : (c j : ℕ) → code_bit c (suc j) ≡ code_bit (c / 2) j
later_bit c j = ap (λ (b : ℕ). b == 1) (bit_at-suc c j)

first_bit : (c : ℕ) → code_bit c 0 ≡ ((c % 2) == 1)
first_bit c = ap (λ (b : ℕ). b == 1) (bit_at_lowest c)

is_one : (r : ℕ) → r ≡ 1 → (r == 1) ≡ true
is_one r e = grind arith

is_zero : (r : ℕ) → r ≡ 0 → (r == 1) ≡ false
is_zero r e = grind arith

-- one of the lowest `w` bits of the code `c` has the value `v`
abbrev HasBit : ℕ → ℕ → Bool → Type 0
HasBit c w v = (j : ℕ) × (j < w) × (code_bit c j ≡ v)

shifted : (c w : ℕ) (v : Bool) → HasBit (c / 2) w v → HasBit c (suc w) v
shifted c w v h = (suc h.0, omega (arith, h.1), later_bit c h.0 ∙ h.2)

half_below : (c w : ℕ) → c < 2 ^ suc w → c / 2 < 2 ^ w
half_below c w h = omega (arith, pow-suc 2 w, h)

pub has_one : (w c : ℕ) → 1 ≤ c → c < 2 ^ w → HasBit c w true
has_one zero c some fits = absurd (omega (arith, some, fits))
has_one (suc w) c some fits =
    by_parity (c % 2) refl
    (λ even. shifted c w true (has_one w (c / 2) (omega (arith, some, even)) (half_below c w fits)))
  where
    by_parity : (r : ℕ) → c % 2 ≡ r → (c % 2 ≡ 0 → HasBit c (suc w) true) → HasBit c (suc w) true
    by_parity zero e ih = ih e
    by_parity (suc zero) e ih = (0, omega arith, first_bit c ∙ is_one (c % 2) e)
    by_parity (suc (suc r)) e ih = absurd (omega (arith, e))

pub has_zero : (w c : ℕ) → c + 2 ≤ 2 ^ w → HasBit c w false
has_zero zero c fits = absurd (omega (arith, fits))
has_zero (suc w) c fits = by_parity (c % 2) refl (λ odd. shifted c w false (has_zero w (c / 2) (omega (arith, pow-suc 2 w, fits, odd))))
  where
    by_parity : (r : ℕ) → c % 2 ≡ r → (c % 2 ≡ 1 → HasBit c (suc w) false) → HasBit c (suc w) false
    by_parity zero e ih = (0, omega arith, first_bit c ∙ is_zero (c % 2) e)
    by_parity (suc zero) e ih = ih e
    by_parity (suc (suc r)) e ih = absurd (omega (arith, e))

-- the codes `c` and `d` differ in some of their lowest `w` bits
abbrev Differ : ℕ → ℕ → ℕ → Type 0
Differ c d w = (j : ℕ) × (j < w) × (code_bit c j ≡ not (code_bit d j))

pub codes_differ : (w c d : ℕ) → c < 2 ^ w → d < 2 ^ w → c ≢ d → Differ c d w
codes_differ zero c d fc fd ne = absurd (ne (omega (arith, fc, fd)))
codes_differ (suc w) c d fc fd ne =
    by_parity (c % 2) (d % 2) refl refl
    (λ same.
    let r = codes_differ w (c / 2) (d / 2) (half_below c w fc) (half_below d w fd) (λ e. ne (omega (arith, same, e))) in
    (suc r.0, omega (arith, r.1), later_bit c r.0 ∙ r.2 ∙ sym (ap not (later_bit d r.0))))
  where
    by_parity : (r s : ℕ) → c % 2 ≡ r → d % 2 ≡ s → (c % 2 ≡ d % 2 → Differ c d (suc w)) → Differ c d (suc w)
    by_parity zero zero e f ih = ih (e ∙ sym f)
    by_parity zero (suc zero) e f ih = (0, omega arith, first_bit c ∙ is_zero (c % 2) e ∙ sym (ap not (first_bit d ∙ is_one (d % 2) f)))
    by_parity (suc zero) zero e f ih = (0, omega arith, first_bit c ∙ is_one (c % 2) e ∙ sym (ap not (first_bit d ∙ is_zero (d % 2) f)))
    by_parity (suc zero) (suc zero) e f ih = ih (e ∙ sym f)
    by_parity (suc (suc r)) s e f ih = absurd (omega (arith, e))
    by_parity zero (suc (suc s)) e f ih = absurd (omega (arith, f))
    by_parity (suc zero) (suc (suc s)) e f ih = absurd (omega (arith, f))

pub count_up : {A : Type 0} (p : A → Bool) (xs : List A) (a b : ℕ) (x : A) → slice_get xs a ≡ Some x → p x ≡ true → a < b →
    count_by p (take a xs) < count_by p (take b xs)
count_up p [] a b x e h lt = cc e
count_up p (y ∷ xs) a zero x e h lt = absurd (omega (arith, lt))
count_up p (y ∷ xs) zero (suc b) x e h lt =
    let z : y ≡ x = cc e in
    let one : ◌≡◌ {A = ℕ} (cond (p y) 1 0) 1 = ap (λ (t : Bool). cond t 1 0) (ap p z ∙ h) in
    omega (arith, sum_by-cons (λ v. cond (p v) 1 0) y (take b xs), one)
count_up p (y ∷ xs) (suc a) (suc b) x e h lt =
    omega (
      arith,
      sum_by-cons (λ v. cond (p v) 1 0) y (take a xs),
      sum_by-cons (λ v. cond (p v) 1 0) y (take b xs),
      count_up p xs a b x e h (omega (arith, lt)),
    )

pub count_whole : {A : Type 0} (p : A → Bool) (xs : List A) (a : ℕ) (x : A) → slice_get xs a ≡ Some x → p x ≡ true →
    count_by p (take a xs) < count_by p xs
count_whole p [] a x e h = cc e
count_whole p (y ∷ xs) zero x e h =
    let z : y ≡ x = cc e in
    let one : ◌≡◌ {A = ℕ} (cond (p y) 1 0) 1 = ap (λ (t : Bool). cond t 1 0) (ap p z ∙ h) in
    omega (arith, sum_by-cons (λ v. cond (p v) 1 0) y xs, one)
count_whole p (y ∷ xs) (suc a) x e h =
    omega (arith, sum_by-cons (λ v. cond (p v) 1 0) y (take a xs), sum_by-cons (λ v. cond (p v) 1 0) y xs, count_whole p xs a x e h)

pub codes_tell : (n width : ℕ) → n + 2 ≤ 2 ^ width → CodesTell n width
codes_tell n width enough = record {
  has = has;
  differ = λ c d c_some c_most d_some d_most ne. codes_differ width c d (omega (arith, c_most, enough)) (omega (arith, d_most, enough)) ne;
}
  where
    has : (c : ℕ) (v : Bool) → 1 ≤ c → c ≤ n → HasBit c width v
    has c true some most = has_one width c some (omega (arith, most, enough))
    has c false some most = has_zero width c (omega (arith, most, enough))
