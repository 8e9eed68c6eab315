-- Bits as hexadecimal text in the order of SVF: the rightmost digit has the bits that are shifted
-- first.
use Rattle.std.specs.Prelude.{ℕ, ◌+◌, ◌/◌, ◌==◌, Bool, true, false, not, ◌||◌, List, [], ◌∷◌, ◌++◌, length, take, drop, Option, Some, None, option_and_then, if◌then◌else◌}
use Rattle.std.specs.List.{list_all}

-- the character of the digit that has these four bits, the lowest first, in upper case
abbrev pub hex_digit : Bool → Bool → Bool → Bool → ℕ
hex_digit false false false false = 48
hex_digit true false false false = 49
hex_digit false true false false = 50
hex_digit true true false false = 51
hex_digit false false true false = 52
hex_digit true false true false = 53
hex_digit false true true false = 54
hex_digit true true true false = 55
hex_digit false false false true = 56
hex_digit true false false true = 57
hex_digit false true false true = 65
hex_digit true true false true = 66
hex_digit false false true true = 67
hex_digit true false true true = 68
hex_digit false true true true = 69
hex_digit true true true true = 70

-- the hexadecimal text of a list of bits; the first four bits make the rightmost digit, and missing
-- bits are 0
abbrev pub hex_text : List Bool → List ℕ
hex_text [] = []
hex_text (a ∷ []) = hex_digit a false false false ∷ []
hex_text (a ∷ b ∷ []) = hex_digit a b false false ∷ []
hex_text (a ∷ b ∷ c ∷ []) = hex_digit a b c false ∷ []
hex_text (a ∷ b ∷ c ∷ d ∷ bits) = hex_text bits ++ hex_digit a b c d ∷ []

-- the number of hexadecimal digits that `n` bits need
abbrev pub digit_count : ℕ → ℕ
digit_count n = (n + 3) / 4

-- the four bits of a hexadecimal digit in either case, the lowest first, or None for a byte that is not a digit
abbrev pub digit_bits : ℕ → Option (List Bool)
digit_bits c =
    if c == 48 then Some (false ∷ false ∷ false ∷ false ∷ []) else (
    if c == 49 then Some (true ∷ false ∷ false ∷ false ∷ []) else (
    if c == 50 then Some (false ∷ true ∷ false ∷ false ∷ []) else (
    if c == 51 then Some (true ∷ true ∷ false ∷ false ∷ []) else (
    if c == 52 then Some (false ∷ false ∷ true ∷ false ∷ []) else (
    if c == 53 then Some (true ∷ false ∷ true ∷ false ∷ []) else (
    if c == 54 then Some (false ∷ true ∷ true ∷ false ∷ []) else (
    if c == 55 then Some (true ∷ true ∷ true ∷ false ∷ []) else (
    if c == 56 then Some (false ∷ false ∷ false ∷ true ∷ []) else (
    if c == 57 then Some (true ∷ false ∷ false ∷ true ∷ []) else (
    if (c == 65) || (c == 97) then Some (false ∷ true ∷ false ∷ true ∷ []) else (
    if (c == 66) || (c == 98) then Some (true ∷ true ∷ false ∷ true ∷ []) else (
    if (c == 67) || (c == 99) then Some (false ∷ false ∷ true ∷ true ∷ []) else (
    if (c == 68) || (c == 100) then Some (true ∷ false ∷ true ∷ true ∷ []) else (
    if (c == 69) || (c == 101) then Some (false ∷ true ∷ true ∷ true ∷ []) else (
    if (c == 70) || (c == 102) then Some (true ∷ true ∷ true ∷ true ∷ []) else None)))))))))))))))

abbrev pub joined_bits : Option (List Bool) → Option (List Bool) → Option (List Bool)
joined_bits None b = None
joined_bits (Some a) None = None
joined_bits (Some a) (Some b) = Some (a ++ b)

-- the bits of the text's digits, or None if a byte is not a digit
abbrev pub text_bits : List ℕ → Option (List Bool)
text_bits [] = Some []
text_bits (c ∷ cs) = joined_bits (text_bits cs) (digit_bits c)

-- the first `n` bits, or None if a later bit is 1
abbrev pub cut_to : ℕ → List Bool → Option (List Bool)
cut_to n bits = if list_all not (drop n bits) then Some (take n bits) else None

-- the `n` bits of a field, or None if the text is not such a field. A field has exactly as many
-- digits as `n` bits need, and its bits from `n` on are 0.
abbrev pub field_bits : ℕ → List ℕ → Option (List Bool)
field_bits n digits = if length digits == digit_count n then option_and_then (cut_to n) (text_bits digits) else None
