-- Samples of rows that are stored side by side, with values computed by hand.
use Rattle.std.proofs.Common.{◌≡◌, true, false, [], ◌∷◌, get_or, refl, ap, arith}
use Rattle.bt_bits.specs.Digits.{digit_row}
use Rattle.bt_bits.specs.Stacks.{AreStacked, Stack, column_bit, digit_in, stacked}

-- Two words. The first has the digits 2, 5 and A for rows 0, 1 and 2, and the second has the digits
-- 1, 3 and 0. All other digits are 0.
abbrev rows : Stack
rows = record { words = 2642 ∷ 49 ∷ []; len = 6; room = 8 }

-- the word 2642 is A52 in hexadecimal
digits : digit_in 0 2642 ∷ digit_in 1 2642 ∷ digit_in 2 2642 ∷ digit_in 3 2642 ∷ [] ≡ 2 ∷ 5 ∷ 10 ∷ 0 ∷ []
digits = refl

first : stacked rows 0 ≡ false ∷ true ∷ false ∷ false ∷ true ∷ false ∷ []
unfolding digit_row
first = refl

second : stacked rows 1 ≡ true ∷ false ∷ true ∷ false ∷ true ∷ true ∷ []
unfolding digit_row
second = refl

third : stacked rows 2 ≡ false ∷ true ∷ false ∷ true ∷ false ∷ false ∷ []
unfolding digit_row
third = refl

-- in the word 4354, which is 1102 in hexadecimal, only digits 2 and 3 have their lowest bit set
column : column_bit (record { word = 4354 }) 0 ∷ column_bit (record { word = 4354 }) 1
    ∷ column_bit (record { word = 4354 }) 2 ∷ column_bit (record { word = 4354 }) 3 ∷ []
    ≡ false ∷ false ∷ true ∷ true ∷ []
column = refl

-- With rows of six bits, bits 2 and 3 of a digit in the second word are past the end. So no row may have the digit 4
-- there.
none_past_the_end : AreStacked 6 (2642 ∷ 52 ∷ []) → ⊥
unfolding digit_row
none_past_the_end are = let four : 4 ≡ 0 = ap (λ digits. get_or digits 1 0) (are 0 (omega arith)).values in absurd (omega (arith, four))
