-- Lemmas which say that a row of a log has as many bits as the log needs.
use Rattle.std.proofs.Common.{◌≡◌, ℕ, suc, ◌*◌, ◌≤◌, ◌==◌, Bool, true, false, cond, Option, Some, None, option_and_then, List, [], ◌∷◌, length, map, drop, take, refl, subst, ◌∙◌, length-append, arith}
use Rattle.std.specs.Prelude.{◌||◌, All, IfSome, not}
use Rattle.std.specs.List.{list_all}
use Rattle.std.proofs.lemmas.Bool.{eqb-true}
use Rattle.std.proofs.lemmas.List.{length-take-le}
use Rattle.std.proofs.lemmas.List.Elements.{All-nil, All-cons}
use Rattle.bt_bits.specs.Hex.{digit_count, digit_bits, joined_bits, text_bits, cut_to, field_bits}
use Rattle.text_lines.specs.Words.{Word}
use Rattle.response_log.specs.LogRows.{NumberedLine, bits_of_line, only_word}

-- `bits` is `None` or has `n` bits
abbrev AreMany : ℕ → Option (List Bool) → Type 0
AreMany n bits = IfSome bits (λ b. length b ≡ n)

-- `bits` is `None` or has four bits. This is a record so that a proof can go through the tests of a hexadecimal digit without naming the
-- cases that each test leaves.
record AreFour (bits : Option (List Bool)) : Type 0 where
  four : AreMany 4 bits

or_these : (test : Bool) (bits : List Bool) (others : Option (List Bool)) → length bits ≡ 4
    → AreFour others → AreFour (cond test (Some bits) others)
or_these true bits others four later = record { four = four }
or_these false bits others four later = later

digit_four : (c : ℕ) → AreFour (digit_bits c)
digit_four c =
    or_these (c == 48) _ _ refl (or_these (c == 49) _ _ refl (or_these (c == 50) _ _ refl (or_these (c == 51) _ _ refl (
    or_these (c == 52) _ _ refl (or_these (c == 53) _ _ refl (or_these (c == 54) _ _ refl (or_these (c == 55) _ _ refl (
    or_these (c == 56) _ _ refl
    (or_these (c == 57) _ _ refl
    (or_these ((c == 65) || (c == 97)) _ _ refl (or_these ((c == 66) || (c == 98)) _ _ refl (
    or_these ((c == 67) || (c == 99)) _ _ refl
    (or_these ((c == 68) || (c == 100)) _ _ refl
    (or_these ((c == 69) || (c == 101)) _ _ refl
    (or_these ((c == 70) || (c == 102)) _ _ refl (record { four = tt }))))))))))))))))

joined_many : (n : ℕ) (bits digit : Option (List Bool)) → AreMany (4 * n) bits → AreMany 4 digit
    → AreMany (4 * suc n) (joined_bits bits digit)
joined_many n None digit many four = tt
joined_many n (Some bits) None many four = tt
joined_many n (Some bits) (Some digit) many four = length-append bits digit ∙ omega (arith, many, four)

text_many : (text : List ℕ) → AreMany (4 * length text) (text_bits text)
text_many [] = refl
text_many (c ∷ cs) = joined_many (length cs) (text_bits cs) (digit_bits c) (text_many cs) (digit_four c).four

cut_many : (len : ℕ) (bits : List Bool) (none_above : Bool) → len ≤ length bits → AreMany len (cond none_above (Some (take len bits)) None)
cut_many len bits true enough = length-take-le len bits enough
cut_many len bits false enough = tt

sized_many : (len n : ℕ) (bits : Option (List Bool)) → len ≤ 4 * n → AreMany (4 * n) bits → AreMany len (option_and_then (cut_to len) bits)
sized_many len n None enough many = tt
sized_many len n (Some bits) enough many = cut_many len bits (list_all not (drop len bits)) (omega (arith, enough, many))

enough_digits : (len n : ℕ) → n ≡ digit_count len → len ≤ 4 * n
enough_digits len n is = omega (arith, is)

field_many : (len : ℕ) (digits : List ℕ) → AreMany len (field_bits len digits)
field_many len digits = by_size (length digits == digit_count len) refl
  where
    by_size : (sized : Bool) → (length digits == digit_count len) ≡ sized
        → AreMany len (cond sized (option_and_then (cut_to len) (text_bits digits)) None)
    by_size true is =
        sized_many len (length digits) (text_bits digits)
        (enough_digits len (length digits) (eqb-true (length digits) (digit_count len) is))
        (text_many digits)
    by_size false is = tt

word_many : (len : ℕ) (word : Option Word) → AreMany len (option_and_then (field_bits len) word)
word_many len None = tt
word_many len (Some word) = field_many len word

row_many : (len : ℕ) (line : NumberedLine) (bits : List Bool) → bits_of_line len line ≡ Some bits → length bits ≡ len
row_many len line bits is = subst (AreMany len) is (word_many len (only_word line.words))

pub rows_many : (len : ℕ) (lines : List NumberedLine) (log : List (List Bool))
    → map (bits_of_line len) lines ≡ map Some log → All (λ row. length row ≡ len) log
rows_many len [] [] is = All-nil (λ (row : List Bool). length row ≡ len)
rows_many len [] (bits ∷ log) is = absurd cc
rows_many len (line ∷ lines) [] is = absurd cc
rows_many len (line ∷ lines) (bits ∷ log) is =
    let here : bits_of_line len line ≡ Some bits = cc in
    let behind : map (bits_of_line len) lines ≡ map Some log = cc in
    All-cons (λ (row : List Bool). length row ≡ len) bits log (row_many len line bits here) (rows_many len lines log behind)
