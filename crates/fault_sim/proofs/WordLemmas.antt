-- Lemmas about the bits of combined words and about the common bits of two shorted nets.
use Rattle.std.proofs.Common.{◌≡◌, ℕ, zero, suc, ◌-◌, ◌<◌, ◌^◌, ◌==◌, Bool, true, false, cond, not, ◌&&◌, ◌||◌, Some, None, refl, ap, ◌∙◌, arith, min, max, w32}
use Rattle.std.specs.Prelude.{bit_and, bit_or}
use Rattle.std.specs.Int.{bit_at}
use Rattle.std.proofs.lemmas.Nat.Bits.{bit_at-lt, bit_at_and, bit_at_not, bit_at_ones, bit_at_or}
use Rattle.board_defs.specs.declared.fault.Kind.TheVariants.{And, Or}
use Rattle.tap_defs.specs.board.SingleBits.{shorted}
use Rattle.fault_sim.specs.inner.Words.{word_bit}

pub and_word : (a b j : ℕ) → word_bit (bit_and a b) j ≡ (word_bit a j && word_bit b j)
and_word a b j = ap (λ k. k == 1) (bit_at_and a b j) ∙ by_bits (bit_at a j) (bit_at b j) (bit_at-lt a j) (bit_at-lt b j)
  where
    by_bits : (x y : ℕ) → x < 2 → y < 2 → (min x y == 1) ≡ ((x == 1) && (y == 1))
    by_bits zero zero p q = refl
    by_bits zero (suc zero) p q = refl
    by_bits (suc zero) zero p q = refl
    by_bits (suc zero) (suc zero) p q = refl
    by_bits (suc (suc x)) y p q = absurd (omega (arith, p))
    by_bits x (suc (suc y)) p q = absurd (omega (arith, q))

pub or_word : (a b j : ℕ) → word_bit (bit_or a b) j ≡ (word_bit a j || word_bit b j)
or_word a b j = ap (λ k. k == 1) (bit_at_or a b j) ∙ by_bits (bit_at a j) (bit_at b j) (bit_at-lt a j) (bit_at-lt b j)
  where
    by_bits : (x y : ℕ) → x < 2 → y < 2 → (max x y == 1) ≡ ((x == 1) || (y == 1))
    by_bits zero zero p q = refl
    by_bits zero (suc zero) p q = refl
    by_bits (suc zero) zero p q = refl
    by_bits (suc zero) (suc zero) p q = refl
    by_bits (suc (suc x)) y p q = absurd (omega (arith, p))
    by_bits x (suc (suc y)) p q = absurd (omega (arith, q))

pub not_word : (a j : ℕ) → a < 2 ^ 32 → j < 32 → word_bit (4294967295 - a) j ≡ not (word_bit a j)
not_word a j fits less = ap (λ k. k == 1) (bit_at_not w32 a j fits less) ∙ by_bit (bit_at a j) (bit_at-lt a j)
  where
    by_bit : (x : ℕ) → x < 2 → (1 - x == 1) ≡ not (x == 1)
    by_bit zero p = refl
    by_bit (suc zero) p = refl
    by_bit (suc (suc x)) p = absurd (omega (arith, p))

pub full_word : (j : ℕ) → j < 32 → word_bit 4294967295 j ≡ true
full_word j less = ap (λ k. k == 1) (bit_at_ones 32 j less)

pub chosen_bit : (rows inside outside : Bool) → ((inside && rows) || (outside && not rows)) ≡ cond rows inside outside
chosen_bit true true true = refl
chosen_bit true true false = refl
chosen_bit true false true = refl
chosen_bit true false false = refl
chosen_bit false true true = refl
chosen_bit false true false = refl
chosen_bit false false true = refl
chosen_bit false false false = refl

-- The formula for the common bit of two nets with an And short is correct. `first` and `second` say whether each net is driven in the row,
-- and a and b are the bits to which the nets are driven.
pub and_bits : (first second a b : Bool)
    → cond (first || second) (Some (cond first a true && cond second b true)) None
    ≡ shorted And (cond first (Some a) None) (cond second (Some b) None)
and_bits true true a b = refl
and_bits true false true b = refl
and_bits true false false b = refl
and_bits false true a b = refl
and_bits false false a b = refl

pub or_bits : (first second a b : Bool)
    → cond (first || second) (Some ((a && first) || (b && second))) None
    ≡ shorted Or (cond first (Some a) None) (cond second (Some b) None)
or_bits true true true true = refl
or_bits true true true false = refl
or_bits true true false true = refl
or_bits true true false false = refl
or_bits true false true true = refl
or_bits true false true false = refl
or_bits true false false true = refl
or_bits true false false false = refl
or_bits false true true true = refl
or_bits false true true false = refl
or_bits false true false true = refl
or_bits false true false false = refl
or_bits false false a b = refl
