-- A number of at most 9 digits fits into 32 bits.
use Rattle.std.proofs.Common.{ℕ, ◌<◌, ◌≤◌, ◌^◌, List, length, IsTrue, arith, lit<}
use Rattle.std.proofs.Math.Nat.{pow-le-pow_right}
use Rattle.std.proofs.lemmas.Bool.Decides.{nat_tests}
use Rattle.grammars.specs.Values.{is_integer}

pub at_most_nine : (xs : List ℕ) → IsTrue (is_integer xs) → length xs ≤ 9
at_most_nine xs h = grind (arith, nat_tests)

pub below_limit : (number index len : ℕ) → number < 10 ^ index → index < len → len ≤ 9 → number < 100_000_000
below_limit number index len below within short =
    let p : 10 ^ index
    ≤ 10 ^ 8 = pow-le-pow_right {n = 10} (lit< tt) {i = index} {j = 8} (omega arith) in
    omega (arith, p)
