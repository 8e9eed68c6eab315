-- Sets of the names that a loop has seen.
use Rattle.std.specs.Prelude.{◌≡◌, ℕ, List}
use Rattle.std.specs.Borrow.{Bor}
use Rattle.std.specs.Str.{bytes_eq}
use Rattle.std.specs.HashSet.{HashSet, contains}
use Rattle.device_rules.specs.Taps.{is_named_among}

-- the set has exactly these names
abbrev pub HasNames : {S : Type 0} → HashSet (Bor (List ℕ)) S → List (List ℕ) → Type 0
HasNames seen names = (q : Bor (List ℕ)) → contains (λ x y. bytes_eq x.now y.now) seen q ≡ is_named_among names q.now
