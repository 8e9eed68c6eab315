-- The places at which the items of a list satisfy a predicate: none, one, or several. The place is known only if there is just one.
use Rattle.std.specs.Prelude.{ℕ, zero, suc, ◌==◌, Bool, true, false, not, cond}
use Rattle.net_facts.specs.declared.found.Found.{Found}
use Rattle.net_facts.specs.declared.found.Found.TheVariants.{Nowhere, At, Several}

-- the places after `place` is added
abbrev pub found_with : Found → ℕ → Found
found_with Nowhere place = At place
found_with (At other) place = Several
found_with Several place = Several

-- one of the places differs from `place`
abbrev pub is_elsewhere_of : Found → ℕ → Bool
is_elsewhere_of Nowhere place = false
is_elsewhere_of (At other) place = not (other == place)
is_elsewhere_of Several place = true

-- the places below the given bound that satisfy `test`
abbrev pub found_below : (ℕ → Bool) → ℕ → Found
found_below test zero = Nowhere
found_below test (suc k) = cond (test k) (found_with (found_below test k) k) (found_below test k)
