-- Lemmas about bits that are stored in digits of four bits each.
use Rattle.std.proofs.Common.{◌≡◌, ℕ, ◌+◌, ◌-◌, ◌*◌, ◌/◌, ◌%◌, ◌^◌, ◌<◌, ◌≤◌, zero, suc, Bool, true, false, not, List, [], ◌∷◌, ◌++◌, length, take, drop, get_or, set, replicate, refl, sym, ap, ◌∙◌, arith, eqb, length-set}
use Rattle.std.specs.Prelude.{All, bit_and, ◌||◌, ◌==◌}
use Rattle.std.specs.List.{list_all, list_any}
use Rattle.std.proofs.lemmas.Nat.Bits.{and_pow}
use Rattle.std.proofs.lemmas.List.{take_more_set, take_all, take-append-drop, length-take-le, drop_all}
use Rattle.std.proofs.lemmas.Bool.{false≢true}
use Rattle.std.proofs.lemmas.List.Elements.{All-nil, All-cons, All-head, All-tail}
use Rattle.bt_bits.specs.Hex.{digit_count}
use Rattle.bt_bits.specs.Rows.{AreDigitsOf}
use Rattle.bt_bits.proofs.HexLemmas.{take_four}
use Rattle.bt_bits.specs.Digits.{bit_value, digit_value, digits_of, digit_bit, bits_of, digit_row}
use Rattle.bt_bits.specs.inner.Digits.{with_bit}

pub bit_value-le : (bit : Bool) → bit_value bit ≤ 1
bit_value-le true = omega arith
bit_value-le false = omega arith

is_one : (bit : Bool) (n : ℕ) → n ≡ bit_value bit → eqb n 1 ≡ bit
is_one true n is = ap (λ m. eqb m 1) is
is_one false n is = ap (λ m. eqb m 1) is

digit_bit-0 : (a b c d : Bool) → digit_bit (digit_value a b c d) 0 ≡ a
digit_bit-0 a b c d =
    let is : digit_value a b c d / 2 ^ 0 % 2
    ≡ bit_value a = omega
    (arith, bit_value-le a, bit_value-le b, bit_value-le c, bit_value-le d) in
    is_one a _ is

digit_bit-1 : (a b c d : Bool) → digit_bit (digit_value a b c d) 1 ≡ b
digit_bit-1 a b c d =
    let is : digit_value a b c d / 2 ^ 1 % 2
    ≡ bit_value b = omega
    (arith, bit_value-le a, bit_value-le b, bit_value-le c, bit_value-le d) in
    is_one b _ is

digit_bit-2 : (a b c d : Bool) → digit_bit (digit_value a b c d) 2 ≡ c
digit_bit-2 a b c d =
    let is : digit_value a b c d / 2 ^ 2 % 2
    ≡ bit_value c = omega
    (arith, bit_value-le a, bit_value-le b, bit_value-le c, bit_value-le d) in
    is_one c _ is

digit_bit-3 : (a b c d : Bool) → digit_bit (digit_value a b c d) 3 ≡ d
digit_bit-3 a b c d =
    let is : digit_value a b c d / 2 ^ 3 % 2
    ≡ bit_value d = omega
    (arith, bit_value-le a, bit_value-le b, bit_value-le c, bit_value-le d) in
    is_one d _ is

with_bit-0 : (a b c d bit : Bool) → with_bit (digit_value a b c d) 0 bit ≡ digit_value bit b c d
with_bit-0 a b c d bit = omega (arith, bit_value-le a, bit_value-le b, bit_value-le c, bit_value-le d)

with_bit-1 : (a b c d bit : Bool) → with_bit (digit_value a b c d) 1 bit ≡ digit_value a bit c d
with_bit-1 a b c d bit = omega (arith, bit_value-le a, bit_value-le b, bit_value-le c, bit_value-le d)

with_bit-2 : (a b c d bit : Bool) → with_bit (digit_value a b c d) 2 bit ≡ digit_value a b bit d
with_bit-2 a b c d bit = omega (arith, bit_value-le a, bit_value-le b, bit_value-le c, bit_value-le d)

with_bit-3 : (a b c d bit : Bool) → with_bit (digit_value a b c d) 3 bit ≡ digit_value a b c bit
with_bit-3 a b c d bit = omega (arith, bit_value-le a, bit_value-le b, bit_value-le c, bit_value-le d)

pub length-digits_of : (bits : List Bool) → length (digits_of bits) ≡ digit_count (length bits)
length-digits_of [] = refl
length-digits_of (a ∷ []) = refl
length-digits_of (a ∷ b ∷ []) = refl
length-digits_of (a ∷ b ∷ c ∷ []) = refl
length-digits_of (a ∷ b ∷ c ∷ d ∷ bits) = omega (arith, length-digits_of bits)

pub digits_of-below : (bits : List Bool) → All (λ x. x < 16) (digits_of bits)
digits_of-below [] = All-nil (λ x. x < 16)
digits_of-below (a ∷ []) =
    All-cons (λ x. x < 16) _ [] (omega (arith, bit_value-le a)) (All-nil (λ x. x < 16))
digits_of-below (a ∷ b ∷ []) =
    All-cons (λ x. x < 16) _ [] (omega (arith, bit_value-le a, bit_value-le b)) (All-nil (λ x. x < 16))
digits_of-below (a ∷ b ∷ c ∷ []) =
    All-cons (λ x. x < 16) _ [] (omega (arith, bit_value-le a, bit_value-le b, bit_value-le c)) (All-nil (λ x. x < 16))
digits_of-below (a ∷ b ∷ c ∷ d ∷ bits) =
    All-cons (λ x. x < 16) _ (digits_of bits)
    (omega (arith, bit_value-le a, bit_value-le b, bit_value-le c, bit_value-le d))
    (digits_of-below bits)

some_of : (a b c d : Bool) → not (digit_value a b c d == 0) ≡ a || b || c || d
some_of true true true true = refl
some_of true true true false = refl
some_of true true false true = refl
some_of true true false false = refl
some_of true false true true = refl
some_of true false true false = refl
some_of true false false true = refl
some_of true false false false = refl
some_of false true true true = refl
some_of false true true false = refl
some_of false true false true = refl
some_of false true false false = refl
some_of false false true true = refl
some_of false false true false = refl
some_of false false false true = refl
some_of false false false false = refl

or_rest : (a b c d rest : Bool) → (a || b || c || d) || rest ≡ a || (b || (c || (d || rest)))
or_rest true b c d rest = refl
or_rest false true c d rest = refl
or_rest false false true d rest = refl
or_rest false false false true rest = refl
or_rest false false false false rest = refl

pub any_digit : (bits : List Bool) → list_any (λ x. not (x == 0)) (digits_of bits) ≡ list_any (λ bit. bit) bits
any_digit [] = refl
any_digit (a ∷ []) = ap (λ some. some || false) (some_of a false false false) ∙ or_rest a false false false false
any_digit (a ∷ b ∷ []) = ap (λ some. some || false) (some_of a b false false) ∙ or_rest a b false false false
any_digit (a ∷ b ∷ c ∷ []) = ap (λ some. some || false) (some_of a b c false) ∙ or_rest a b c false false
any_digit (a ∷ b ∷ c ∷ d ∷ bits) =
    ap (λ some. some || list_any (λ x. not (x == 0)) (digits_of bits)) (some_of a b c d)
    ∙ ap (λ rest. (a || b || c || d) || rest) (any_digit bits) ∙ or_rest a b c d (list_any (λ bit. bit) bits)

pub row_bits-digits_of : (bits : List Bool) → digit_row (length bits) (digits_of bits) ≡ bits
unfolding digit_row
row_bits-digits_of [] = refl
row_bits-digits_of (a ∷ []) = ap (λ x. x ∷ []) (digit_bit-0 a false false false)
row_bits-digits_of (a ∷ b ∷ []) =
    ap (λ x. x ∷ digit_bit (digit_value a b false false) 1 ∷ []) (digit_bit-0 a b false false)
    ∙ ap (λ x. a ∷ x ∷ []) (digit_bit-1 a b false false)
row_bits-digits_of (a ∷ b ∷ c ∷ []) =
    ap (λ x. x ∷ digit_bit (digit_value a b c false) 1 ∷ digit_bit (digit_value a b c false) 2 ∷ [])
    (digit_bit-0 a b c false)
    ∙ ap (λ x. a ∷ x ∷ digit_bit (digit_value a b c false) 2 ∷ []) (digit_bit-1 a b c false)
    ∙ ap (λ x. a ∷ b ∷ x ∷ []) (digit_bit-2 a b c false)
row_bits-digits_of (a ∷ b ∷ c ∷ d ∷ bits) =
    let next : length (a ∷ b ∷ c ∷ d ∷ bits) ≡ suc (suc (suc (suc (length bits)))) = omega arith in
    ap (λ n. take n (bits_of (digits_of (a ∷ b ∷ c ∷ d ∷ bits)))) next
    ∙ ap
    (λ x. x ∷ digit_bit (digit_value a b c d) 1 ∷ digit_bit (digit_value a b c d) 2
    ∷ digit_bit (digit_value a b c d) 3 ∷ take (length bits) (bits_of (digits_of bits)))
    (digit_bit-0 a b c d)
    ∙ ap
    (λ x. a ∷ x ∷ digit_bit (digit_value a b c d) 2 ∷ digit_bit (digit_value a b c d) 3
    ∷ take (length bits) (bits_of (digits_of bits))) (digit_bit-1 a b c d)
    ∙ ap (λ x. a ∷ b ∷ x ∷ digit_bit (digit_value a b c d) 3 ∷ take (length bits) (bits_of (digits_of bits))) (digit_bit-2 a b c d)
    ∙ ap (λ x. a ∷ b ∷ c ∷ x ∷ take (length bits) (bits_of (digits_of bits))) (digit_bit-3 a b c d)
    ∙ ap (λ t. a ∷ b ∷ c ∷ d ∷ t) (row_bits-digits_of bits)

pub digits_of-get : (bits : List Bool) (i : ℕ) → i < length bits
    → digit_bit (get_or (digits_of bits) (i / 4) 0) (i % 4) ≡ get_or bits i false
digits_of-get [] i within = absurd (omega arith)
digits_of-get (a ∷ []) zero within = digit_bit-0 a false false false
digits_of-get (a ∷ []) (suc i) within = absurd (omega arith)
digits_of-get (a ∷ b ∷ []) zero within = digit_bit-0 a b false false
digits_of-get (a ∷ b ∷ []) (suc zero) within = digit_bit-1 a b false false
digits_of-get (a ∷ b ∷ []) (suc (suc i)) within = absurd (omega arith)
digits_of-get (a ∷ b ∷ c ∷ []) zero within = digit_bit-0 a b c false
digits_of-get (a ∷ b ∷ c ∷ []) (suc zero) within = digit_bit-1 a b c false
digits_of-get (a ∷ b ∷ c ∷ []) (suc (suc zero)) within = digit_bit-2 a b c false
digits_of-get (a ∷ b ∷ c ∷ []) (suc (suc (suc i))) within = absurd (omega arith)
digits_of-get (a ∷ b ∷ c ∷ d ∷ bits) zero within = digit_bit-0 a b c d
digits_of-get (a ∷ b ∷ c ∷ d ∷ bits) (suc zero) within = digit_bit-1 a b c d
digits_of-get (a ∷ b ∷ c ∷ d ∷ bits) (suc (suc zero)) within = digit_bit-2 a b c d
digits_of-get (a ∷ b ∷ c ∷ d ∷ bits) (suc (suc (suc zero))) within = digit_bit-3 a b c d
digits_of-get (a ∷ b ∷ c ∷ d ∷ bits) (suc (suc (suc (suc i)))) within =
    let place : suc (suc (suc (suc i))) / 4 ≡ suc (i / 4) = omega arith in
    let bit : suc (suc (suc (suc i))) % 4 ≡ i % 4 = omega arith in
    ap (λ p. digit_bit (get_or (digits_of (a ∷ b ∷ c ∷ d ∷ bits)) p 0) (suc (suc (suc (suc i))) % 4)) place
    ∙ ap (λ k. digit_bit (get_or (digits_of bits) (i / 4) 0) k) bit ∙ digits_of-get bits i (omega arith)

pub digits_of-set : (bits : List Bool) (i : ℕ) (bit : Bool) → i < length bits
    → set (digits_of bits) (i / 4) (with_bit (get_or (digits_of bits) (i / 4) 0) (i % 4) bit)
    ≡ digits_of (set bits i bit)
digits_of-set [] i bit within = absurd (omega arith)
digits_of-set (a ∷ []) zero bit within = ap (λ x. x ∷ []) (with_bit-0 a false false false bit)
digits_of-set (a ∷ []) (suc i) bit within = absurd (omega arith)
digits_of-set (a ∷ b ∷ []) zero bit within = ap (λ x. x ∷ []) (with_bit-0 a b false false bit)
digits_of-set (a ∷ b ∷ []) (suc zero) bit within = ap (λ x. x ∷ []) (with_bit-1 a b false false bit)
digits_of-set (a ∷ b ∷ []) (suc (suc i)) bit within = absurd (omega arith)
digits_of-set (a ∷ b ∷ c ∷ []) zero bit within = ap (λ x. x ∷ []) (with_bit-0 a b c false bit)
digits_of-set (a ∷ b ∷ c ∷ []) (suc zero) bit within = ap (λ x. x ∷ []) (with_bit-1 a b c false bit)
digits_of-set (a ∷ b ∷ c ∷ []) (suc (suc zero)) bit within = ap (λ x. x ∷ []) (with_bit-2 a b c false bit)
digits_of-set (a ∷ b ∷ c ∷ []) (suc (suc (suc i))) bit within = absurd (omega arith)
digits_of-set (a ∷ b ∷ c ∷ d ∷ bits) zero bit within = ap (λ x. x ∷ digits_of bits) (with_bit-0 a b c d bit)
digits_of-set (a ∷ b ∷ c ∷ d ∷ bits) (suc zero) bit within = ap (λ x. x ∷ digits_of bits) (with_bit-1 a b c d bit)
digits_of-set (a ∷ b ∷ c ∷ d ∷ bits) (suc (suc zero)) bit within = ap (λ x. x ∷ digits_of bits) (with_bit-2 a b c d bit)
digits_of-set (a ∷ b ∷ c ∷ d ∷ bits) (suc (suc (suc zero))) bit within = ap (λ x. x ∷ digits_of bits) (with_bit-3 a b c d bit)
digits_of-set (a ∷ b ∷ c ∷ d ∷ bits) (suc (suc (suc (suc i)))) bit within =
    let place : suc (suc (suc (suc i))) / 4 ≡ suc (i / 4) = omega arith in
    let at : suc (suc (suc (suc i))) % 4 ≡ i % 4 = omega arith in
    ap
    (λ p. set (digits_of (a ∷ b ∷ c ∷ d ∷ bits)) p
    (with_bit (get_or (digits_of (a ∷ b ∷ c ∷ d ∷ bits)) p 0) (suc (suc (suc (suc i))) % 4)
    bit)) place
    ∙ ap (λ k. digit_value a b c d ∷ set (digits_of bits) (i / 4) (with_bit (get_or (digits_of bits) (i / 4) 0) k bit)) at
    ∙ ap (λ t. digit_value a b c d ∷ t) (digits_of-set bits i bit (omega arith))

pub digits_of-zeros : (len : ℕ) → digits_of (replicate len false) ≡ replicate (digit_count len) 0
digits_of-zeros zero = refl
digits_of-zeros (suc zero) = refl
digits_of-zeros (suc (suc zero)) = refl
digits_of-zeros (suc (suc (suc zero))) = refl
digits_of-zeros (suc (suc (suc (suc len)))) =
    let count : digit_count (suc (suc (suc (suc len)))) ≡ suc (digit_count len) = omega arith in
    ap (λ t. 0 ∷ t) (digits_of-zeros len) ∙ sym (ap (λ n. replicate n 0) count)

-- The computation of the function `with_bit`: it subtracts the value of bit `k` and adds the value of the new bit.
pub with_bit-sum : (digit k from : ℕ) (bit : Bool) → k < 4 → digit < 256 → from ≡ bit_value bit
    → digit - bit_and digit (1 * 2 ^ k % 256) + from * 2 ^ k % 256 ≡ with_bit digit k bit
with_bit-sum digit zero from bit few fits is = omega (arith, and_pow digit 0, bit_value-le bit)
with_bit-sum digit (suc zero) from bit few fits is = omega (arith, and_pow digit 1, bit_value-le bit)
with_bit-sum digit (suc (suc zero)) from bit few fits is = omega (arith, and_pow digit 2, bit_value-le bit)
with_bit-sum digit (suc (suc (suc zero))) from bit few fits is = omega (arith, and_pow digit 3, bit_value-le bit)
with_bit-sum digit (suc (suc (suc (suc k)))) from bit few fits is = absurd (omega arith)

pub with_bit-lt : (digit k : ℕ) (bit : Bool) → k < 4 → digit < 256 → with_bit digit k bit < 256
with_bit-lt digit zero bit few fits = omega (arith, bit_value-le bit)
with_bit-lt digit (suc zero) bit few fits = omega (arith, bit_value-le bit)
with_bit-lt digit (suc (suc zero)) bit few fits = omega (arith, bit_value-le bit)
with_bit-lt digit (suc (suc (suc zero))) bit few fits = omega (arith, bit_value-le bit)
with_bit-lt digit (suc (suc (suc (suc k)))) bit few fits = absurd (omega arith)

digits_of-append : (k : ℕ) (low high : List Bool) → length low ≡ 4 * k → digits_of (low ++ high) ≡ digits_of low ++ digits_of high
digits_of-append k [] high whole = refl
digits_of-append k (a ∷ []) high whole = absurd (omega arith)
digits_of-append k (a ∷ b ∷ []) high whole = absurd (omega arith)
digits_of-append k (a ∷ b ∷ c ∷ []) high whole = absurd (omega arith)
digits_of-append k (a ∷ b ∷ c ∷ d ∷ low) high whole =
    let fewer : length low ≡ 4 * (k - 1) = omega arith in
    ap (λ t. digit_value a b c d ∷ t) (digits_of-append (k - 1) low high fewer)

-- One step of the loop in `fill_values`: digit `k` is set to the digit of the next four bits.
pub filled_values-more : (bits : List Bool) (digits : List ℕ) (k d : ℕ) → k < length digits
    → 4 * k + 3 < length bits → take k digits ≡ digits_of (take (4 * k) bits)
    → d
    ≡ digit_value (get_or bits (4 * k) false) (get_or bits (4 * k + 1) false)
    (get_or bits (4 * k + 2) false) (get_or bits (4 * k + 3) false)
    → take (k + 1) (set digits k d) ≡ digits_of (take (4 * (k + 1)) bits)
filled_values-more bits digits k d place within so_far is_d =
    let next : 4 * (k + 1) ≡ 4 * k + 4 = omega arith in
    let whole : length (take (4 * k) bits) ≡ 4 * k = length-take-le (4 * k) bits (omega arith) in
    take_more_set digits k d place ∙ ap (λ t. t ++ d ∷ []) so_far ∙ ap (λ x. digits_of (take (4 * k) bits) ++ x ∷ []) is_d
    ∙ sym
    (ap (λ n. digits_of (take n bits)) next ∙ ap digits_of (take_four bits (4 * k) within)
    ∙ digits_of-append k (take (4 * k) bits) _ whole)

-- The last step of `fill_values`: the last digit is set to the digit of the bits that are left.
pub filled_values-top : (bits : List Bool) (digits : List ℕ) (w top : ℕ) → length digits ≡ w + 1
    → 4 * w ≤ length bits → take w digits ≡ digits_of (take (4 * w) bits)
    → top ∷ [] ≡ digits_of (drop (4 * w) bits) → set digits w top ≡ digits_of bits
filled_values-top bits digits w top sized few so_far is_top =
    let whole : length (take (4 * w) bits) ≡ 4 * w = length-take-le (4 * w) bits few in
    sym (take_all (w + 1) (set digits w top) (omega (arith, length-set {A = ℕ}))) ∙ take_more_set digits w top (omega arith)
    ∙ ap (λ t. t ++ top ∷ []) so_far ∙ ap (λ t. digits_of (take (4 * w) bits) ++ t) is_top
    ∙ sym (digits_of-append w (take (4 * w) bits) (drop (4 * w) bits) whole) ∙ ap digits_of (take-append-drop (4 * w) bits)

pub length-bits_of : (digits : List ℕ) → length (bits_of digits) ≡ 4 * length digits
length-bits_of [] = refl
length-bits_of (x ∷ xs) = omega (arith, length-bits_of xs)

pub bits_of-append : (low high : List ℕ) → bits_of (low ++ high) ≡ bits_of low ++ bits_of high
bits_of-append [] high = refl
bits_of-append (x ∷ low) high =
    ap (λ t. digit_bit x 0 ∷ digit_bit x 1 ∷ digit_bit x 2 ∷ digit_bit x 3 ∷ t) (bits_of-append low high)

pub drop-bits_of : (digits : List ℕ) (len : ℕ) → length digits ≡ digit_count len → 0 < len % 4
    → drop len (bits_of digits) ≡ drop (len % 4) (bits_of (get_or digits (len / 4) 0 ∷ []))
drop-bits_of [] len sized some = absurd (omega arith)
drop-bits_of (x ∷ []) zero sized some = absurd (omega arith)
drop-bits_of (x ∷ []) (suc zero) sized some = refl
drop-bits_of (x ∷ []) (suc (suc zero)) sized some = refl
drop-bits_of (x ∷ []) (suc (suc (suc zero))) sized some = refl
drop-bits_of (x ∷ []) (suc (suc (suc (suc len)))) sized some = absurd (omega arith)
drop-bits_of (x ∷ y ∷ ys) zero sized some = absurd (omega arith)
drop-bits_of (x ∷ y ∷ ys) (suc zero) sized some = absurd (omega arith)
drop-bits_of (x ∷ y ∷ ys) (suc (suc zero)) sized some = absurd (omega arith)
drop-bits_of (x ∷ y ∷ ys) (suc (suc (suc zero))) sized some = absurd (omega arith)
drop-bits_of (x ∷ y ∷ ys) (suc (suc (suc (suc len)))) sized some =
    let place : suc (suc (suc (suc len))) / 4 ≡ suc (len / 4) = omega arith in
    let at : suc (suc (suc (suc len))) % 4 ≡ len % 4 = omega arith in
    drop-bits_of (y ∷ ys) len (omega arith) (omega arith)
    ∙ sym
    (ap (λ p. drop (suc (suc (suc (suc len))) % 4) (bits_of (get_or (x ∷ y ∷ ys) p 0 ∷ [])))
    place ∙ ap (λ k. drop k (bits_of (get_or (y ∷ ys) (len / 4) 0 ∷ []))) at)

pub drop-bits_of-whole : (digits : List ℕ) (len : ℕ) → length digits ≡ digit_count len → len % 4 ≡ 0 → drop len (bits_of digits) ≡ []
drop-bits_of-whole digits len sized whole =
    drop_all len (bits_of digits) (omega (arith, length-bits_of digits))

pub bit_value-test : (n : ℕ) → n < 2 → bit_value (eqb n 1) ≡ n
bit_value-test zero small = refl
bit_value-test (suc zero) small = refl
bit_value-test (suc (suc n)) small = absurd (omega arith)

digit_value-bits : (x : ℕ) → x < 16 → digit_value (digit_bit x 0) (digit_bit x 1) (digit_bit x 2) (digit_bit x 3) ≡ x
digit_value-bits x small =
    omega (
      arith,
      bit_value-test (x / 2 ^ 0 % 2) (omega arith),
      bit_value-test (x / 2 ^ 1 % 2) (omega arith),
      bit_value-test (x / 2 ^ 2 % 2) (omega arith),
      bit_value-test (x / 2 ^ 3 % 2) (omega arith),
    )

first_zero : (bit : Bool) (bits : List Bool) → list_all not (bit ∷ bits) ≡ true → bit ≡ false
first_zero false bits zeros = refl
first_zero true bits zeros = absurd (false≢true zeros)

other_zeros : (bit : Bool) (bits : List Bool) → list_all not (bit ∷ bits) ≡ true → list_all not bits ≡ true
other_zeros false bits zeros = zeros
other_zeros true bits zeros = absurd (false≢true zeros)

pub kept_digits : (digits : List ℕ) (len : ℕ) → All (λ x. x < 16) digits
    → length digits ≡ digit_count len → list_all not (drop len (bits_of digits)) ≡ true
    → digits ≡ digits_of (digit_row len digits)
unfolding digit_row
kept_digits [] zero below sized zeros = refl
kept_digits [] (suc len) below sized zeros = absurd (omega arith)
kept_digits (x ∷ []) zero below sized zeros = absurd (omega arith)
kept_digits (x ∷ []) (suc zero) below sized zeros =
    let b = digit_bit x 1 in
    let rest = other_zeros (digit_bit x 1) (digit_bit x 2 ∷ digit_bit x 3 ∷ []) zeros in
    sym
    (ap (λ v. v ∷ [])
    (ap (λ t. digit_value (digit_bit x 0) t false false)
    (sym (first_zero (digit_bit x 1) (digit_bit x 2 ∷ digit_bit x 3 ∷ []) zeros))
    ∙ ap (λ t. digit_value (digit_bit x 0) (digit_bit x 1) t false) (sym (first_zero (digit_bit x 2) (digit_bit x 3 ∷ []) rest))
    ∙ ap (λ t. digit_value (digit_bit x 0) (digit_bit x 1) (digit_bit x 2) t)
    (sym (first_zero (digit_bit x 3) [] (other_zeros (digit_bit x 2) (digit_bit x 3 ∷ []) rest)))
    ∙ digit_value-bits x (All-head (λ x. x < 16) x [] below)))
kept_digits (x ∷ []) (suc (suc zero)) below sized zeros =
    sym
    (ap (λ v. v ∷ [])
    (ap (λ t. digit_value (digit_bit x 0) (digit_bit x 1) t false)
    (sym (first_zero (digit_bit x 2) (digit_bit x 3 ∷ []) zeros))
    ∙ ap (λ t. digit_value (digit_bit x 0) (digit_bit x 1) (digit_bit x 2) t)
    (sym
    (first_zero (digit_bit x 3) [] (other_zeros (digit_bit x 2) (digit_bit x 3 ∷ []) zeros)))
    ∙ digit_value-bits x (All-head (λ x. x < 16) x [] below)))
kept_digits (x ∷ []) (suc (suc (suc zero))) below sized zeros =
    sym
    (ap (λ v. v ∷ [])
    (ap (λ t. digit_value (digit_bit x 0) (digit_bit x 1) (digit_bit x 2) t)
    (sym (first_zero (digit_bit x 3) [] zeros))
    ∙ digit_value-bits x (All-head (λ x. x < 16) x [] below)))
kept_digits (x ∷ y ∷ ys) zero below sized zeros = absurd (omega arith)
kept_digits (x ∷ y ∷ ys) (suc zero) below sized zeros = absurd (omega arith)
kept_digits (x ∷ y ∷ ys) (suc (suc zero)) below sized zeros = absurd (omega arith)
kept_digits (x ∷ y ∷ ys) (suc (suc (suc zero))) below sized zeros = absurd (omega arith)
kept_digits (x ∷ xs) (suc (suc (suc (suc len)))) below sized zeros =
    ap (λ t. x ∷ t) (kept_digits xs len (All-tail (λ x. x < 16) x xs below) (omega arith) zeros)
    ∙ sym (ap (λ v. v ∷ digits_of (take len (bits_of xs))) (digit_value-bits x (All-head (λ x. x < 16) x xs below)))

pub row_bits-is : (bits : List Bool) (len : ℕ) (digits : List ℕ) → length bits ≡ len → digits ≡ digits_of bits → digit_row len digits ≡ bits
row_bits-is bits len digits sized is =
    sym (ap (λ n. digit_row n digits) sized) ∙ ap (digit_row (length bits)) is ∙ row_bits-digits_of bits

pub digits_of-row : (bits : List Bool) (len : ℕ) (digits : List ℕ) → length bits ≡ len
    → digits ≡ digits_of bits → AreDigitsOf (digit_row len digits) len digits
digits_of-row bits len digits sized is = record {
  count = ap length (row_bits-is bits len digits sized is) ∙ sized;
  values = is ∙ ap digits_of (sym (row_bits-is bits len digits sized is));
}

pub seen_digits : (seen bits : List Bool) (len : ℕ) (digits : List ℕ) → AreDigitsOf seen len digits
    → seen ≡ bits → AreDigitsOf bits len digits
seen_digits seen bits len digits are is = record {
  count = ap length (sym is) ∙ are.count;
  values = are.values ∙ ap digits_of is;
}
