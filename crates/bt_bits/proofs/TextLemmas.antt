-- Lemmas about digits and the hexadecimal text of digits.
use Rattle.std.proofs.Common.{◌≡◌, ℕ, ◌+◌, ◌-◌, ◌<◌, ◌≤◌, suc, subst, Some, None, Bool, true, false, not, cond, option_and_then, List, [], ◌∷◌, ◌++◌, length, take, drop, get_or, set, refl, sym, ap, ◌∙◌, append_assoc, length-append, length-drop, arith}
use Rattle.std.specs.List.{list_all}
use Rattle.std.proofs.lemmas.List.{append-nil, take_all, take_more, take_more_set, length-take-le, drop-set, take-append-drop, take_at, drop_at}
use Rattle.bt_bits.specs.Hex.{hex_digit, hex_text, digit_count, text_bits, joined_bits, digit_bits, cut_to, field_bits}
use Rattle.bt_bits.specs.Digits.{digit_value, digits_of, bits_of, digit_row}
use Rattle.bt_bits.specs.inner.Digits.{AreDigitsFrom, IsValueOf, digit_char, digits_text}
use Rattle.std.specs.Prelude.{MatchBool, All, max, ◌&&◌, nat_lt}
use Rattle.std.proofs.Math.Seq.{drop-cons}
use Rattle.bt_bits.proofs.HexLemmas.{field_bits-sized, text_bits-none}
use Rattle.std.proofs.lemmas.List.Elements.{All-push, All-same}
use Rattle.bt_bits.proofs.DigitLemmas.{bits_of-append, length-bits_of, kept_digits}
use Rattle.std.specs.Bool.{OnTrue}
use Rattle.bt_bits.specs.Rows.{AreDigitsOf}

digit_char-value : (a b c d : Bool) → digit_char (digit_value a b c d) ≡ hex_digit a b c d
digit_char-value false false false false = refl
digit_char-value true false false false = refl
digit_char-value false true false false = refl
digit_char-value true true false false = refl
digit_char-value false false true false = refl
digit_char-value true false true false = refl
digit_char-value false true true false = refl
digit_char-value true true true false = refl
digit_char-value false false false true = refl
digit_char-value true false false true = refl
digit_char-value false true false true = refl
digit_char-value true true false true = refl
digit_char-value false false true true = refl
digit_char-value true false true true = refl
digit_char-value false true true true = refl
digit_char-value true true true true = refl

pub hex_text-digits : (bits : List Bool) → hex_text bits ≡ digits_text (digits_of bits)
hex_text-digits [] = refl
hex_text-digits (a ∷ []) = ap (λ x. x ∷ []) (sym (digit_char-value a false false false))
hex_text-digits (a ∷ b ∷ []) = ap (λ x. x ∷ []) (sym (digit_char-value a b false false))
hex_text-digits (a ∷ b ∷ c ∷ []) = ap (λ x. x ∷ []) (sym (digit_char-value a b c false))
hex_text-digits (a ∷ b ∷ c ∷ d ∷ bits) =
    ap (λ t. t ++ hex_digit a b c d ∷ []) (hex_text-digits bits)
    ∙ ap (λ x. digits_text (digits_of bits) ++ x ∷ []) (sym (digit_char-value a b c d))

digits_text-append : (low high : List ℕ) → digits_text (low ++ high) ≡ digits_text high ++ digits_text low
digits_text-append [] high = sym (append-nil (digits_text high))
digits_text-append (x ∷ low) high =
    ap (λ t. t ++ digit_char x ∷ []) (digits_text-append low high) ∙ append_assoc (digits_text high) (digits_text low) (digit_char x ∷ [])

length-digits_text : (digits : List ℕ) → length (digits_text digits) ≡ length digits
length-digits_text [] = refl
length-digits_text (x ∷ xs) = omega (arith, length-append (digits_text xs) (digit_char x ∷ []), length-digits_text xs)

digits_text-take_more : (digits : List ℕ) (k : ℕ) → k < length digits
    → digits_text (take (k + 1) digits)
    ≡ digit_char (get_or digits k 0) ∷ digits_text (take k digits)
digits_text-take_more digits k within =
    ap digits_text (take_more digits k 0 within) ∙ digits_text-append (take k digits) (get_or digits k 0 ∷ [])

-- One step of the loop in `fill_text`: the character before the last `k` is set to the character of digit `k`.
pub filled_more : (digits text : List ℕ) (n k d : ℕ) → n ≡ length text → k < n → k < length digits
    → drop (n - k) text ≡ digits_text (take k digits) → d ≡ digit_char (get_or digits k 0)
    → drop (n - (k + 1)) (set text (n - 1 - k) d) ≡ digits_text (take (k + 1) digits)
filled_more digits text n k d is_n below within so_far is_d =
    let place : n - (k + 1) ≡ n - 1 - k = omega arith in
    let after : n - 1 - k + 1 ≡ n - k = omega arith in
    ap (λ i. drop i (set text (n - 1 - k) d)) place ∙ drop-set text (n - 1 - k) d (omega arith)
    ∙ ap (λ i. d ∷ drop i text) after ∙ ap (λ t. d ∷ t) so_far
    ∙ ap (λ x. x ∷ digits_text (take k digits)) is_d
    ∙ sym (digits_text-take_more digits k within)

pub text_piece : (digits : List ℕ) (from count : ℕ) → from + count ≤ length digits
    → digits_text (take count (drop (length digits - from - count) digits))
    ≡ take count (drop from (digits_text digits))
text_piece digits from count within =
    let low : ℕ = length digits - from - count in
    let rest = drop (length digits - from - count) digits in
    let bottom = digits_text (take (length digits - from - count) digits) in
    let mid = digits_text (take count (drop (length digits - from - count) digits)) in
    let top = digits_text (drop count (drop (length digits - from - count) digits)) in
    let few : length (drop (length digits - from - count) digits)
    ≡ from + count = length-drop (length digits - from - count) digits ∙ omega arith in
    let upper : digits_text (drop (length digits - from - count) digits) ≡ top ++ mid =
    sym (ap digits_text (take-append-drop count (drop (length digits - from - count) digits)))
    ∙ digits_text-append (take count (drop (length digits - from - count) digits))
    (drop count (drop (length digits - from - count) digits)) in
    let all : digits_text digits ≡ top ++ (mid ++ bottom) =
    sym (ap digits_text (take-append-drop (length digits - from - count) digits))
    ∙ digits_text-append (take (length digits - from - count) digits)
    (drop (length digits - from - count) digits) ∙ ap (λ t. t ++ bottom) upper
    ∙ append_assoc top mid bottom in
    let above : length top
    ≡ from = length-digits_text (drop count (drop (length digits - from - count) digits))
    ∙ length-drop count (drop (length digits - from - count) digits) ∙ omega (arith, few) in
    let part : length mid
    ≡ count = length-digits_text (take count (drop (length digits - from - count) digits))
    ∙ length-take-le count (drop (length digits - from - count) digits) (omega (arith, few))
    in
    sym (ap (λ t. take count (drop from t)) all ∙ ap (take count) (drop_at top (mid ++ bottom) from above) ∙ take_at mid bottom count part)

max_below : (a b : ℕ) → nat_lt (max a b) 16 ≡ (nat_lt b 16 && nat_lt a 16)
max_below a b = grind arith

-- A text is read from its last digit to its first. So the bits of the digit at `at` come after the
-- bits of the digits that were read before it.
read_more : (text : List ℕ) (at : ℕ) (digits : List ℕ) (x : ℕ) → at < length text
    → text_bits (drop (suc at) text) ≡ Some (bits_of digits)
    → digit_bits (get_or text at 0) ≡ Some (bits_of (x ∷ []))
    → text_bits (drop at text) ≡ Some (bits_of (digits ++ x ∷ []))
read_more text at digits x within so_far is =
    ap text_bits (drop-cons text at 0 within) ∙ ap (λ o. joined_bits o (digit_bits (get_or text at 0))) so_far
    ∙ ap (λ o. joined_bits (Some (bits_of digits)) o) is ∙ ap (λ t. Some t) (sym (bits_of-append digits (x ∷ [])))

both : {A B C D E F : Type 0} (first second : Bool) → MatchBool first A B → MatchBool second C D
    → (A → C → second ≡ true → E) → (B → F) → (D → F) → MatchBool (first && second) E F
both true true a c e f g = e a c refl
both true false a d e f g = g d
both false second b other e f g = f b

is_below : (x : ℕ) → nat_lt x 16 ≡ true → x < 16
is_below x small = grind arith

-- One step of the loop in `fill_digits`: the value of the byte before the last `k` is stored as digit `k`.
pub read_digit : (text digits : List ℕ) (n k most x next : ℕ) → n ≡ length text → length digits ≡ n
    → k < n → next ≡ max x most → IsValueOf (get_or text (n - 1 - k) 0) x
    → AreDigitsFrom text (n - k) (take k digits) (nat_lt most 16)
    → AreDigitsFrom text (n - (k + 1)) (take (k + 1) (set digits k x)) (nat_lt next 16)
read_digit text digits n k most x next is_n sized within is_next value so_far =
    let at : n - (k + 1) ≡ n - 1 - k = omega arith in
    let before : suc (n - 1 - k) ≡ n - k = omega arith in
    let pushed = take_more_set digits k x (omega arith) in
    let all : nat_lt next 16 ≡ (nat_lt most 16 && nat_lt x 16) = ap (λ m. nat_lt m 16) is_next ∙ max_below x most in
    subst (AreDigitsFrom text (n - (k + 1)) (take (k + 1) (set digits k x))) (sym all) (both (nat_lt most 16) (nat_lt x 16) so_far value
    (λ read digit small. (
      ap (λ i. text_bits (drop i text)) at
          ∙ read_more text (n - 1 - k) (take k digits) x (omega arith)
          (ap (λ i. text_bits (drop i text)) before ∙ read.0) digit
          ∙ ap (λ t. Some (bits_of t)) (sym pushed),
      All-same (λ x. x < 16) _ _ pushed (All-push (λ x. x < 16) (take k digits) x read.1 (is_below x small)),
    ))
    (λ none. none)
    (λ none. text_bits-none text (n - 1 - k) (omega arith) none))

pub read_whole : (text digits : List ℕ) (n k : ℕ) (all : Bool) → length digits ≡ n → n ≤ k
    → AreDigitsFrom text (n - k) (take k digits) all → AreDigitsFrom text 0 digits all
read_whole text digits n k all sized whole read =
    let at : n - k ≡ 0 = omega arith in
    subst (λ i. AreDigitsFrom text i digits all) at (subst (λ ds. AreDigitsFrom text (n - k) ds all) (take_all k digits (omega arith)) read)

pub field_bits-read : (len : ℕ) (text digits : List ℕ) (cut : Bool) → length text ≡ digit_count len
    → text_bits text ≡ Some (bits_of digits) → cut ≡ list_all not (drop len (bits_of digits))
    → MatchBool cut (field_bits len text ≡ Some (digit_row len digits)) (field_bits len text ≡ None)
unfolding digit_row
field_bits-read len text digits cut sized read is =
    by cut
    (field_bits-sized len text sized ∙ ap (option_and_then (cut_to len)) read
    ∙ ap (λ b. cond b (Some (take len (bits_of digits))) None) (sym is))
  where
    by : (cut : Bool) → field_bits len text ≡ cond cut (Some (take len (bits_of digits))) None
        → MatchBool cut (field_bits len text ≡ Some (take len (bits_of digits)))
        (field_bits len text ≡ None)
    by true e = e
    by false e = e

pub length-row_bits : (len : ℕ) (digits : List ℕ) → length digits ≡ digit_count len → length (digit_row len digits) ≡ len
unfolding digit_row
length-row_bits len digits sized =
    length-take-le len (bits_of digits) (omega (arith, length-bits_of digits))

pub field_kept : (len : ℕ) (digits : List ℕ) (cut : Bool) → length digits ≡ digit_count len
    → All (λ x. x < 16) digits → cut ≡ list_all not (drop len (bits_of digits))
    → OnTrue cut (AreDigitsOf (digit_row len digits) len digits)
field_kept len digits false sized below is = tt
field_kept len digits true sized below is = record {
  count = length-row_bits len digits sized;
  values = kept_digits digits len below sized (sym is);
}
