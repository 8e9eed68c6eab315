-- Definitions for the proofs about digits of four bits each.
use Rattle.std.specs.Prelude.{◌≡◌, ℕ, ◌<◌, drop, Some, None, MatchBool, All, ◌+◌, ◌-◌, ◌*◌, ◌/◌, ◌%◌, ◌^◌, nat_lt, if◌then◌else◌, Bool, List, [], ◌∷◌, ◌++◌}
use Rattle.bt_bits.specs.Digits.{bit_value, bits_of}
use Rattle.bt_bits.specs.Hex.{digit_bits, text_bits}

-- a digit with its bit `k` replaced by `bit`
abbrev pub with_bit : ℕ → ℕ → Bool → ℕ
with_bit digit k bit = digit - digit / 2 ^ k % 2 * 2 ^ k + bit_value bit * 2 ^ k

-- the hexadecimal character of a digit, in upper case
abbrev pub digit_char : ℕ → ℕ
digit_char value = if nat_lt value 10 then 48 + value else 55 + value

-- the hexadecimal text of digits; the first digit is the rightmost character
abbrev pub digits_text : List ℕ → List ℕ
digits_text [] = []
digits_text (x ∷ xs) = digits_text xs ++ digit_char x ∷ []

-- `x` is the value of byte `c` as a digit, or at least 16 if the byte is not a digit
abbrev pub IsValueOf : ℕ → ℕ → Type 0
IsValueOf c x = MatchBool (nat_lt x 16) (digit_bits c ≡ Some (bits_of (x ∷ []))) (digit_bits c ≡ None)

-- If `all` is true, the bytes of the text from byte `at` on are digits, `digits` has their values, the
-- rightmost first, and each value is less than 16. If `all` is false, some byte of the text is not a digit.
abbrev pub AreDigitsFrom : List ℕ → ℕ → List ℕ → Bool → Type 0
AreDigitsFrom text at digits all =
    MatchBool all ((text_bits (drop at text) ≡ Some (bits_of digits)) × All (λ x. x < 16) digits) (text_bits text ≡ None)
