-- Lemmas about the number of bytes that a call of `put` may take, if some calls of `put` are chosen to fail.
use Rattle.std.proofs.Common.{◌≡◌, ℕ, ◌≤◌, Bool, true, false, List, [], ◌∷◌, min, nat_eq, cond, refl, arith}
use Rattle.std.specs.Prelude.{◌||◌}
use Rattle.bt_base.specs.declared.memory.FailingPut.{FailingPut}
use Rattle.bt_base.specs.Chosen.{is_chosen, allowed}

within_more : (failing : List FailingPut) (call most taken : ℕ) (same : Bool)
    → ((m : ℕ) → allowed failing call m ≤ m) → allowed failing call (cond same (min most taken) most) ≤ most
within_more failing call most taken true rest =
    let less : allowed failing call (min most taken) ≤ min most taken = rest (min most taken) in
    omega arith
within_more failing call most taken false rest = rest most

pub allowed_within : (failing : List FailingPut) (call most : ℕ) → allowed failing call most ≤ most
allowed_within [] call most = omega arith
allowed_within (f ∷ failing) call most = within_more failing call most f.taken (nat_eq f.call call) (λ m. allowed_within failing call m)

whole_more : (failing : List FailingPut) (call most taken : ℕ) (same : Bool)
    → (same || is_chosen call failing) ≡ false
    → (is_chosen call failing ≡ false → allowed failing call most ≡ most)
    → allowed failing call (cond same (min most taken) most) ≡ most
whole_more failing call most taken true none rest = let clash : true ≡ false = none in absurd cc
whole_more failing call most taken false none rest = rest none

pub allowed_whole : (failing : List FailingPut) (call most : ℕ) → is_chosen call failing ≡ false → allowed failing call most ≡ most
allowed_whole [] call most none = refl
allowed_whole (f ∷ failing) call most none =
    whole_more failing call most f.taken (nat_eq f.call call) none
    (λ n. allowed_whole failing call most n)
