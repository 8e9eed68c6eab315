-- The length of a decimal number.
use Rattle.std.proofs.Common.{ℕ, ◌^◌, ◌<◌, ◌≤◌, length, rules}
use Rattle.std.specs.Prelude.{decimal}
use Rattle.std.proofs.lemmas.Fmt.{length-decimal-le}

pub decimal_is_short : (n : ℕ) → n < 2 ^ 64 → length (decimal n) ≤ 20
decimal_is_short n fits = search (rules, length-decimal-le 20)
