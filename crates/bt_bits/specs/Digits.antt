-- Digits of four bits each. A row stores its bits in such digits.
use Rattle.std.specs.Prelude.{ℕ, ◌+◌, ◌*◌, ◌/◌, ◌%◌, ◌^◌, ◌==◌, Bool, true, false, List, [], ◌∷◌, take}

-- the value of a bit, 0 or 1
abbrev pub bit_value : Bool → ℕ
bit_value false = 0
bit_value true = 1

-- the value of the digit that has these four bits, the lowest first
abbrev pub digit_value : Bool → Bool → Bool → Bool → ℕ
digit_value a b c d = bit_value a + 2 * bit_value b + 4 * bit_value c + 8 * bit_value d

-- the digits of a list of bits; the first four bits make the first digit, and missing bits of the
-- last digit are 0
abbrev pub digits_of : List Bool → List ℕ
digits_of [] = []
digits_of (a ∷ []) = digit_value a false false false ∷ []
digits_of (a ∷ b ∷ []) = digit_value a b false false ∷ []
digits_of (a ∷ b ∷ c ∷ []) = digit_value a b c false ∷ []
digits_of (a ∷ b ∷ c ∷ d ∷ bits) = digit_value a b c d ∷ digits_of bits

-- bit `k` of a number; bit 0 is the lowest
abbrev pub digit_bit : ℕ → ℕ → Bool
digit_bit value k = value / 2 ^ k % 2 == 1

-- the bits of a list of digits, four for each digit, the lowest first
abbrev pub bits_of : List ℕ → List Bool
bits_of [] = []
bits_of (x ∷ xs) = digit_bit x 0 ∷ digit_bit x 1 ∷ digit_bit x 2 ∷ digit_bit x 3 ∷ bits_of xs

-- the first `len` bits of a list of digits
unfoldable pub digit_row : ℕ → List ℕ → List Bool
digit_row len digits = take len (bits_of digits)
