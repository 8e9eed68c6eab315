-- Samples of a log's digits and of the one first offense of a text.
use Rattle.std.proofs.Common.{◌≡◌, ℕ, true, false, List, [], ◌∷◌, get_or, ap, sym, arith}
use Rattle.std.specs.Prelude.{codes}
use Rattle.response_log.specs.declared.fault.LogFault.TheVariants.{Length}
use Rattle.response_log.specs.FirstOffense.{HasOneOffense}
use Rattle.response_log.specs.Kept.{AreRowDigits}
use Rattle.response_log.proofs.OffenseLemmas.{first_offense_is_told}
use Rattle.response_log.proofs.SampleTests.{short_wrong_digit}

-- The text has one digit where a row of five bits needs two. The first offense of the text is the length of line 1, and nothing else.
one_offense : (has : HasOneOffense (codes "G") 1 5) → has.fault ≡ Length 1
one_offense has = sym (has.one (Length 1) ((first_offense_is_told (codes "G") 1 5 (Length 1)).0 short_wrong_digit))

-- The bits of digit 3 that a row of one bit has are right. But a bit above the row is 1.
high_bit : AreRowDigits (true ∷ []) (3 ∷ []) → ⊥
high_bit digits = let first : 3 ≡ 1 = ap (λ (list : List ℕ). get_or list 0 0) digits.values in omega (arith, first)

-- the digits of a row of five bits
five_bits : (digits : List ℕ) → AreRowDigits (false ∷ true ∷ false ∷ true ∷ true ∷ []) digits → digits ≡ 10 ∷ 1 ∷ []
five_bits digits are = are.values
