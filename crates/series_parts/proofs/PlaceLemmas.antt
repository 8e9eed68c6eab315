-- A lemma about a loop that writes the same value into a map for several pins.
use Rattle.std.proofs.Common.{◌≡◌, Bool, true, false, cond, ◌||◌, refl}

-- writing a value if `b` is true, and again if `rest` is true, is the same as writing it once if
-- either is true
pub put_more : {A : Type 0} (b rest : Bool) (value : A) (before : A) → cond rest value (cond b value before) ≡ cond (b || rest) value before
put_more true true value before = refl
put_more true false value before = refl
put_more false true value before = refl
put_more false false value before = refl
