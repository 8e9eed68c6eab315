-- A lemma about the bytes that a read took from a reader.
use Rattle.std.proofs.Common.{◌≡◌, ℕ, List, length, take, Option, None, Some, IfSome, sym, ◌∙◌, ap, subst}
use Rattle.std.proofs.Math.Seq.{take-append_seam}
use Rattle.std.specs.Io.KnownBytes.{Consumes}

pub consumes_first : (left rest : Option (List ℕ)) (xs : List ℕ) (n : ℕ) → Consumes left rest xs
    → length xs ≡ n → IfSome left (λ l. xs ≡ take n l)
consumes_first None rest xs n took long = tt
consumes_first (Some l) None xs n took long = absurd took
consumes_first (Some l) (Some r) xs n took long =
    subst (λ (m : ℕ). xs ≡ take m l) long (sym (ap (take (length xs)) took ∙ take-append_seam xs r))
