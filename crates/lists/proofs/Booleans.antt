-- Lemmas about truth values that std does not have (std has `and_parts`, `not-true`,
-- `false_from_ne_true`, `or-false` and others).
use Rattle.std.proofs.Common.{◌≡◌, ℕ, suc, ◌<◌, ◌==◌, Bool, true, false, not, ◌&&◌, ◌||◌, refl, sym, arith}
use Rattle.std.proofs.lemmas.Bool.{both_ways, eq-eqb, ne_eqb}

pub same_truth : (a b : Bool) → (a ≡ true → b ≡ true) → (b ≡ true → a ≡ true) → a ≡ b
same_truth true b f g = sym (f refl)
same_truth false true f g = g refl
same_truth false false f g = refl

-- No truth value is both true and false. This is `both_ways` of std with the two proofs in the
-- other order.
pub clash : (b : Bool) → b ≡ true → b ≡ false → ⊥
clash b yes_b no_b = both_ways b no_b yes_b

pub not_itself : (b : Bool) → not b ≡ b → ⊥
not_itself true h = cc h
not_itself false h = cc h

pub and_left : (a b : Bool) → (a && b) ≡ true → a ≡ true
and_left true b h = refl
and_left false b h = cc h

pub and_right : (a b : Bool) → (a && b) ≡ true → b ≡ true
and_right true b h = h
and_right false b h = cc h

pub true_of_or_false : (b : Bool) → (b || false) ≡ true → b ≡ true
true_of_or_false true h = refl
true_of_or_false false h = h

pub or_swap : (a b c : Bool) → (a || (b || c)) ≡ (b || (a || c))
or_swap true true c = refl
or_swap true false c = refl
or_swap false b c = refl

pub eqb_refl : (n : ℕ) → (n == n) ≡ true
eqb_refl n = eq-eqb n n refl

pub eqb_swap : (a b : ℕ) → (a == b) ≡ false → (b == a) ≡ false
eqb_swap a b h = ne_eqb b a (λ same. both_ways (a == b) h (eq-eqb a b (sym same)))

pub lt-eqb : (a b : ℕ) → a < b → (a == b) ≡ false
lt-eqb a b h = ne_eqb a b (λ same. omega (arith, h, same))

pub gt-eqb : (a b : ℕ) → b < a → (a == b) ≡ false
gt-eqb a b h = ne_eqb a b (λ same. omega (arith, h, same))

pub suc-eqb_zero : (n : ℕ) → (suc n == 0) ≡ false
suc-eqb_zero n = ne_eqb (suc n) 0 (λ same. omega (arith, same))
