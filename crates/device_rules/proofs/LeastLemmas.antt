-- Lemmas about a loop that looks for the lowest number with a property.
use Rattle.std.proofs.Common.{◌≡◌, ℕ, zero, suc, ◌+◌, ◌-◌, ◌<◌, ◌≤◌, Bool, true, false, Option, Some, None, refl, sym, ◌∙◌, ap, arith, ◌⊎◌, inl, inr}
use Rattle.std.specs.Bool.{if◌then◌else◌}
use Rattle.std.proofs.Math.Numerals.{suc-eq-add-one}
use Rattle.first_places.specs.Items.{least_from, least_below, IsLeast}

one_on : (n bound : ℕ) → n < bound → bound - n ≡ suc (bound - (n + 1))
one_on n bound lt = omega arith

pub least_step : (is : ℕ → Bool) (n bound : ℕ) (o : Option ℕ) → n < bound → is n ≡ false
    → least_from is n (bound - n) ≡ o → least_from is (n + 1) (bound - (n + 1)) ≡ o
least_step is n bound o lt e so_far =
    sym (ap (λ m. least_from is m (bound - (n + 1))) (suc-eq-add-one n))
    ∙ sym (skips is n (bound - (n + 1)) e)
    ∙ sym (ap (λ k. least_from is n k) (one_on n bound lt)) ∙ so_far
  where
    skips : (is : ℕ → Bool) (n k : ℕ) → is n ≡ false → least_from is n (suc k) ≡ least_from is (suc n) k
    skips is n k e = rw e refl

pub least_hit : (is : ℕ → Bool) (n bound : ℕ) (o : Option ℕ) → n < bound → is n ≡ true → least_from is n (bound - n) ≡ o → Some n ≡ o
least_hit is n bound o lt e so_far = sym (found is n (bound - (n + 1)) e) ∙ sym (ap (λ k. least_from is n k) (one_on n bound lt)) ∙ so_far
  where
    found : (is : ℕ → Bool) (n k : ℕ) → is n ≡ true → least_from is n (suc k) ≡ Some n
    found is n k e = rw e refl

same_from : (p q : ℕ → Bool) (n count : ℕ) → ((m : ℕ) → m < n + count → p m ≡ q m) → least_from p n count ≡ least_from q n count
same_from p q n zero h = refl
same_from p q n (suc count) h =
    ap (λ b. if b then Some n else least_from p (suc n) count) (h n (omega arith))
    ∙ ap (λ o. if q n then Some n else o)
    (same_from p q (suc n) count (λ m less. h m (omega arith)))

pub least_same : (p q : ℕ → Bool) (bound : ℕ) → ((n : ℕ) → n < bound → p n ≡ q n) → least_below p bound ≡ least_below q bound
least_same p q bound h = same_from p q 0 bound (λ m less. h m (omega arith))

none_left : (bound n : ℕ) → bound ≤ n → bound - n ≡ zero
none_left bound n le = omega arith

pub least_end : (is : ℕ → Bool) (n bound : ℕ) (o : Option ℕ) → bound ≤ n → least_from is n (bound - n) ≡ o → None ≡ o
least_end is n bound o le so_far = sym (ap (λ k. least_from is n k) (none_left bound n le)) ∙ so_far

-- the result is the lowest number in `from..from + count` that has the property, or None if no
-- number in this range has it
abbrev LeastFrom : (ℕ → Bool) → ℕ → ℕ → Option ℕ → Type 0
LeastFrom is from count None = (n : ℕ) → from ≤ n → n < from + count → is n ≡ false
LeastFrom is from count (Some least) =
    (from ≤ least) × (least < from + count) × (is least ≡ true)
    × ((n : ℕ) → from ≤ n → n < least → is n ≡ false)

one_of : (from n : ℕ) → from ≤ n → (n ≡ from) ⊎ (suc from ≤ n)
one_of from n le = grind arith

later : (is : ℕ → Bool) (from : ℕ) → is from ≡ false → (n : ℕ) → from ≤ n → (suc from ≤ n → is n ≡ false) → is n ≡ false
later is from e n le h = elim (one_of from n le) [ inl same ↦ ap is same ∙ e | inr more ↦ h more ]

found_later : (is : ℕ → Bool) (from count : ℕ) (o : Option ℕ) → is from ≡ false
    → LeastFrom is (suc from) count o → LeastFrom is from (suc count) o
found_later is from count None e h = λ n le lt. later is from e n le (λ more. h n more (omega arith))
found_later is from count (Some least) e h = (
  omega (arith, h.0),
  omega (arith, h.1),
  h.2,
  λ n le lt. later is from e n le (λ more. h.3 n more lt),
)

found_now : (is : ℕ → Bool) (from count : ℕ) (b : Bool) → is from ≡ b
    → LeastFrom is (suc from) count (least_from is (suc from) count)
    → LeastFrom is from (suc count) (if b then Some from else least_from is (suc from) count)
found_now is from count true e h = (omega arith, omega arith, e, λ n le lt. absurd (omega arith))
found_now is from count false e h = found_later is from count (least_from is (suc from) count) e h

from_least : (is : ℕ → Bool) (from count : ℕ) → LeastFrom is from count (least_from is from count)
from_least is from zero = λ n le lt. absurd (omega arith)
from_least is from (suc count) = found_now is from count (is from) refl (from_least is (suc from) count)

is_least_of : (is : ℕ → Bool) (bound : ℕ) (o : Option ℕ) → LeastFrom is 0 bound o → IsLeast is bound o
is_least_of is bound None h = λ n lt. h n (omega arith) (omega arith)
is_least_of is bound (Some least) h = (omega (arith, h.1), h.2, λ n lt. h.3 n (omega arith) lt)

pub is_least : (is : ℕ → Bool) (bound : ℕ) → IsLeast is bound (least_below is bound)
is_least is bound = is_least_of is bound (least_from is 0 bound) (from_least is 0 bound)
