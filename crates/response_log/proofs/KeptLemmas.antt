-- Lemmas about rows of bits that a log keeps as digits, row after row.
use Rattle.std.proofs.Common.{◌≡◌, ℕ, ◌+◌, ◌*◌, ◌/◌, ◌%◌, ◌<◌, ◌≤◌, zero, suc, Bool, false, Some, List, [], ◌∷◌, ◌++◌, length, take, drop, get_or, refl, sym, ap, ◌∙◌, arith, length-drop, length-append, option_and_then, subst, append_assoc}
use Rattle.std.specs.Prelude.{All, slice_get}
use Rattle.std.proofs.Math.Nat.{suc-mul}
use Rattle.std.proofs.lemmas.List.{take_all, take_at, take-append-le, drop-append-le, length-take-le, get_or-take, get_or-drop, nil_from_length, drop-drop}
use Rattle.std.proofs.lemmas.Slice.{drop-append-drop}
use Rattle.std.proofs.lemmas.List.Elements.{All-nil, All-cons}
use Rattle.std.proofs.lemmas.Nat.{mul-le}
use Rattle.std.proofs.lemmas.Option.{get_or_from_slice_get, slice_get-get_or}
use Rattle.bt_bits.specs.Hex.{digit_count}
use Rattle.bt_bits.specs.Digits.{bits_of, digit_bit, digits_of, digit_row}
use Rattle.bt_bits.proofs.DigitLemmas.{length-digits_of, row_bits-is}
use Rattle.bt_bits.proofs.TextLemmas.{length-row_bits}
use Rattle.response_log.specs.Kept.{AreRowDigits, AreWhole, kept_rows}
use Rattle.response_log.specs.LogRows.{HasSize, log_bit}

pub length-kept_rows : (len rows : ℕ) (digits : List ℕ) → length (kept_rows len rows digits) ≡ rows
length-kept_rows len zero digits = refl
length-kept_rows len (suc rows) digits = ap suc (length-kept_rows len rows (drop (digit_count len) digits))

length-behind : (width rows : ℕ) (digits : List ℕ) → length digits ≡ suc rows * width → length (drop width digits) ≡ rows * width
length-behind width rows digits sized = omega (arith, length-drop width digits, suc-mul rows width, sized)

has_first : (width rows : ℕ) (digits : List ℕ) → length digits ≡ suc rows * width → width ≤ length digits
has_first width rows digits sized = omega (arith, suc-mul rows width, sized)

pub kept_rows-lengths : (len rows : ℕ) (digits : List ℕ) → length digits ≡ rows * digit_count len
    → All (λ bits. length bits ≡ len) (kept_rows len rows digits)
kept_rows-lengths len zero digits sized = All-nil (λ (bits : List Bool). length bits ≡ len)
kept_rows-lengths len (suc rows) digits sized =
    All-cons (λ (bits : List Bool). length bits ≡ len)
    (digit_row len (take (digit_count len) digits))
    (kept_rows len rows (drop (digit_count len) digits))
    (length-row_bits len (take (digit_count len) digits)
    (length-take-le (digit_count len) digits (has_first (digit_count len) rows digits sized)))
    (kept_rows-lengths len rows (drop (digit_count len) digits) (length-behind (digit_count len) rows digits sized))

kept_rows-push : (len rows : ℕ) (digits : List ℕ) (bits : List Bool)
    → length digits ≡ rows * digit_count len → length bits ≡ len
    → kept_rows len (suc rows) (digits ++ digits_of bits) ≡ kept_rows len rows digits ++ bits ∷ []
kept_rows-push len zero digits bits sized long =
    let none : digits ≡ [] = nil_from_length digits (omega arith) in
    let all : length (digits_of bits) ≤ digit_count len = omega (arith, length-digits_of bits, long) in
    ap (λ ds. digit_row len (take (digit_count len) (ds ++ digits_of bits)) ∷ []) none
    ∙ ap (λ ds. digit_row len ds ∷ []) (take_all (digit_count len) (digits_of bits) all)
    ∙ ap (λ row. row ∷ []) (row_bits-is bits len (digits_of bits) long refl)
kept_rows-push len (suc rows) digits bits sized long =
    let first = has_first (digit_count len) rows digits sized in
    ap
    (λ ds. digit_row len ds
    ∷ kept_rows len (suc rows) (drop (digit_count len) (digits ++ digits_of bits)))
    (take-append-le (digit_count len) digits (digits_of bits) first)
    ∙ ap (λ ds. digit_row len (take (digit_count len) digits) ∷ kept_rows len (suc rows) ds)
    (drop-append-le (digit_count len) digits (digits_of bits) first)
    ∙ ap (λ log. digit_row len (take (digit_count len) digits) ∷ log)
    (kept_rows-push len rows (drop (digit_count len) digits) bits
    (length-behind (digit_count len) rows digits sized) long)

-- like `kept_rows-push`, but names the longer list of digits `next`
pub kept_rows-more : (len rows : ℕ) (digits next : List ℕ) (bits : List Bool)
    → next ≡ digits ++ digits_of bits → length digits ≡ rows * digit_count len → length bits ≡ len
    → kept_rows len (rows + 1) next ≡ kept_rows len rows digits ++ bits ∷ []
kept_rows-more len rows digits next bits is sized long =
    let more : rows + 1 ≡ suc rows = omega arith in
    ap (λ n. kept_rows len n next) more ∙ ap (kept_rows len (suc rows)) is ∙ kept_rows-push len rows digits bits sized long

pub length-more : (len rows : ℕ) (digits next : List ℕ) (bits : List Bool)
    → next ≡ digits ++ digits_of bits → length digits ≡ rows * digit_count len → length bits ≡ len
    → length next ≡ (rows + 1) * digit_count len
length-more len rows digits next bits is sized long =
    let more : (rows + 1) * digit_count len
    ≡ rows * digit_count len + digit_count len = ap (λ n. n * digit_count len) (omega arith)
    ∙ suc-mul rows (digit_count len) in
    ap length is ∙ length-append digits (digits_of bits) ∙ omega (arith, more, sized, length-digits_of bits, long)

whole-push : (len rows : ℕ) (digits bits : List ℕ) → length digits ≡ rows * digit_count len
    → length bits ≡ digit_count len → bits ≡ digits_of (digit_row len bits)
    → AreWhole len rows digits → AreWhole len (suc rows) (digits ++ bits)
whole-push len zero digits bits sized long own whole =
    let none : digits ≡ [] = nil_from_length digits (omega arith) in
    let same : take (digit_count len) (digits ++ bits) ≡ bits = ap
    (λ ds. take (digit_count len) (ds ++ bits)) none ∙ take_all (digit_count len) bits
    (omega arith) in (
      same ∙ own ∙ sym (ap (λ ds. digits_of (digit_row len ds)) same),
      tt,
    )
whole-push len (suc rows) digits bits sized long own whole =
    let first = has_first (digit_count len) rows digits sized in
    let same = take-append-le (digit_count len) digits bits first in
    let behind = whole-push len rows (drop (digit_count len) digits) bits
    (length-behind (digit_count len) rows digits sized) long own whole.1 in (
      same ∙ whole.0 ∙ sym (ap (λ ds. digits_of (digit_row len ds)) same),
      subst (AreWhole len (suc rows)) (sym (drop-append-le (digit_count len) digits bits first)) behind,
    )

-- like `whole-push`, but names the longer list of digits `next`
pub whole-more : (len rows : ℕ) (digits next bits : List ℕ) → next ≡ digits ++ bits
    → length digits ≡ rows * digit_count len → length bits ≡ digit_count len
    → bits ≡ digits_of (digit_row len bits) → AreWhole len rows digits
    → AreWhole len (rows + 1) next
whole-more len rows digits next bits is sized long own whole =
    let more : suc rows ≡ rows + 1 = omega arith in
    subst (λ (n : ℕ). AreWhole len n next) more
    (subst (AreWhole len (suc rows)) (sym is)
    (whole-push len rows digits bits sized long own whole))

whole-get : (len rows : ℕ) (digits : List ℕ) (row : ℕ) → row < rows → AreWhole len rows digits
    → take (digit_count len) (drop (row * digit_count len) digits)
    ≡ digits_of (digit_row len (take (digit_count len) (drop (row * digit_count len) digits)))
whole-get len zero digits row within whole = absurd (omega arith)
whole-get len (suc rows) digits zero within whole =
    let none : 0 * digit_count len ≡ 0 = omega arith in
    subst
    (λ (n : ℕ). take (digit_count len) (drop n digits)
    ≡ digits_of (digit_row len (take (digit_count len) (drop n digits)))) (sym none) whole.0
whole-get len (suc rows) digits (suc row) within whole =
    let place : digit_count len + row * digit_count len ≡ suc row * digit_count len = omega (arith, suc-mul row (digit_count len)) in
    let there : drop (row * digit_count len) (drop (digit_count len) digits)
    ≡ drop (suc row * digit_count len) digits = drop-drop (row * digit_count len)
    (digit_count len) digits ∙ ap (λ n. drop n digits) place in
    subst
    (λ (ds : List ℕ). take (digit_count len) ds
    ≡ digits_of (digit_row len (take (digit_count len) ds))) there
    (whole-get len rows (drop (digit_count len) digits) row (omega arith) whole.1)

put_length : (text row : List ℕ) (at end : ℕ) → end ≡ at + length row → end ≤ length text → length (take at text ++ row) ≡ end
put_length text row at end ends within =
    omega (arith, length-append (take at text) row, length-take-le at text (omega arith))

pub put_before : (text row next : List ℕ) (at end : ℕ)
    → next ≡ take at text ++ (row ++ drop (at + length row) text) → end ≡ at + length row
    → end ≤ length text → take end next ≡ take at text ++ row
put_before text row next at end is ends within =
    ap (take end) (is ∙ sym (append_assoc (take at text) row (drop (at + length row) text)))
    ∙ take_at (take at text ++ row) (drop (at + length row) text) end (put_length text row at end ends within)

pub put_behind : (text row next : List ℕ) (at end n : ℕ)
    → next ≡ take at text ++ (row ++ drop (at + length row) text) → end ≡ at + length row
    → end ≤ length text → end ≤ n → drop n next ≡ drop n text
put_behind text row next at end n is ends within behind =
    ap (drop n)
    (is ∙ sym (append_assoc (take at text) row (drop (at + length row) text))
    ∙ ap (λ k. (take at text ++ row) ++ drop k text) (sym ends))
    ∙ drop-append-drop end text (take at text ++ row) n behind (put_length text row at end ends within)

kept_rows-get : (len rows : ℕ) (digits : List ℕ) (row : ℕ) → row < rows
    → slice_get (kept_rows len rows digits) row
    ≡ Some (digit_row len (take (digit_count len) (drop (row * digit_count len) digits)))
kept_rows-get len zero digits row within = absurd (omega arith)
kept_rows-get len (suc rows) digits zero within =
    let none : 0 * digit_count len ≡ 0 = omega arith in
    ap (λ n. Some (digit_row len (take (digit_count len) (drop n digits)))) (sym none)
kept_rows-get len (suc rows) digits (suc row) within =
    let place : digit_count len + row * digit_count len ≡ suc row * digit_count len = omega (arith, suc-mul row (digit_count len)) in
    kept_rows-get len rows (drop (digit_count len) digits) row (omega arith)
    ∙ ap (λ ds. Some (digit_row len (take (digit_count len) ds)))
    (drop-drop (row * digit_count len) (digit_count len) digits ∙ ap (λ n. drop n digits) place)

bits_of-get : (digits : List ℕ) (i : ℕ) → i < 4 * length digits
    → get_or (bits_of digits) i false ≡ digit_bit (get_or digits (i / 4) 0) (i % 4)
bits_of-get [] i within = absurd (omega arith)
bits_of-get (x ∷ xs) zero within = refl
bits_of-get (x ∷ xs) (suc zero) within = refl
bits_of-get (x ∷ xs) (suc (suc zero)) within = refl
bits_of-get (x ∷ xs) (suc (suc (suc zero))) within = refl
bits_of-get (x ∷ xs) (suc (suc (suc (suc i)))) within =
    let place : suc (suc (suc (suc i))) / 4 ≡ suc (i / 4) = omega arith in
    let bit : suc (suc (suc (suc i))) % 4 ≡ i % 4 = omega arith in
    bits_of-get xs i (omega arith)
    ∙ sym (ap (λ p. digit_bit (get_or (x ∷ xs) p 0) (suc (suc (suc (suc i))) % 4)) place ∙ ap (λ k. digit_bit (get_or xs (i / 4) 0) k) bit)

row_bits-get : (len : ℕ) (digits : List ℕ) (at : ℕ) → length digits ≡ digit_count len → at < len
    → slice_get (digit_row len digits) at ≡ Some (digit_bit (get_or digits (at / 4) 0) (at % 4))
unfolding digit_row
row_bits-get len digits at sized within =
    let long = length-row_bits len digits sized in
    slice_get-get_or (take len (bits_of digits)) at false (omega (arith, long))
    ∙ ap (λ b. Some b) (get_or-take len (bits_of digits) at false within ∙ bits_of-get digits at (omega (arith, sized)))

row_within : (width rows : ℕ) (digits : List ℕ) (row : ℕ) → length digits ≡ rows * width → row < rows → row * width + width ≤ length digits
row_within width rows digits row sized within =
    let most : suc row * width ≤ rows * width = mul-le (suc row) width rows width (omega arith) (omega arith) in
    omega (arith, most, suc-mul row width, sized)

digit_of : (len rows : ℕ) (digits : List ℕ) (row at : ℕ) → length digits ≡ rows * digit_count len
    → row < rows → at < len → row * digit_count len + at / 4 < length digits
digit_of len rows digits row at sized within in_row =
    let place : at / 4 < digit_count len = omega arith in
    omega (arith, place, row_within (digit_count len) rows digits row sized within)

pub kept_bit : (len rows : ℕ) (digits : List ℕ) (row at : ℕ)
    → length digits ≡ rows * digit_count len → row < rows → at < len
    → log_bit (kept_rows len rows digits) row at
    ≡ Some (digit_bit (get_or digits (row * digit_count len + at / 4) 0) (at % 4))
kept_bit len rows digits row at sized within in_row =
    let place : at / 4 < digit_count len = omega arith in
    let some = row_within (digit_count len) rows digits row sized within in
    ap (option_and_then (λ bits. slice_get bits at)) (kept_rows-get len rows digits row within)
    ∙ row_bits-get len (take (digit_count len) (drop (row * digit_count len) digits)) at
    (length-take-le (digit_count len) (drop (row * digit_count len) digits)
    (omega (arith, length-drop (row * digit_count len) digits, some))) in_row
    ∙ ap (λ x. Some (digit_bit x (at % 4)))
    (get_or-take (digit_count len) (drop (row * digit_count len) digits) (at / 4) 0 place
    ∙ get_or-drop (row * digit_count len) digits (at / 4) 0)

-- row `row` and its bit `at` are within the log, and the digit of this bit is among the kept digits
pub record HasPlace (len rows : ℕ) (digits : List ℕ) (row at : ℕ) : Type 0 where
  pub row_within : row < rows
  pub bit_within : at < len
  pub digit_within : row * digit_count len + at / 4 < length digits

pub seen_place : (len rows : ℕ) (digits : List ℕ) (log : List (List Bool)) (row at : ℕ)
    → length digits ≡ rows * digit_count len → kept_rows len rows digits ≡ log → row < length log
    → at < length (get_or log row []) → HasPlace len rows digits row at
seen_place len rows digits log row at sized is within in_row =
    let here : row < rows = omega (arith, within, ap length is, length-kept_rows len rows digits) in
    let long : length (get_or (kept_rows len rows digits) row [])
    ≡ len = kept_rows-lengths len rows digits sized row []
    (omega (arith, here, length-kept_rows len rows digits)) in
    let bit : at < len = omega (arith, in_row, long, ap (λ log. length (get_or log row [])) is) in
    record { row_within = here; bit_within = bit; digit_within = digit_of len rows digits row at sized here bit }

pub kept_rows-size : (len rows : ℕ) (digits : List ℕ) → length digits ≡ rows * digit_count len
    → HasSize rows len (kept_rows len rows digits)
kept_rows-size len rows digits sized = record {
  rows = length-kept_rows len rows digits;
  bits = kept_rows-lengths len rows digits sized;
}

pub kept_digits : (len rows : ℕ) (digits : List ℕ) (log : List (List Bool)) (row : ℕ)
    → length digits ≡ rows * digit_count len → AreWhole len rows digits
    → kept_rows len rows digits ≡ log → row < length log →
    (row * digit_count len + digit_count len ≤ length digits)
    × AreRowDigits (get_or log row [])
    (take (digit_count len) (drop (row * digit_count len) digits))
kept_digits len rows digits log row sized whole is within =
    let here : row < rows = omega (arith, within, ap length is, length-kept_rows len rows digits) in
    let inside = row_within (digit_count len) rows digits row sized here in
    let mine : List ℕ = take (digit_count len) (drop (row * digit_count len) digits) in
    let long : length mine
    ≡ digit_count len = length-take-le (digit_count len) (drop (row * digit_count len) digits)
    (omega (arith, length-drop (row * digit_count len) digits, inside)) in
    let row_is : get_or log row [] ≡ digit_row len mine =
    ap (λ (l : List (List Bool)). get_or l row []) (sym is)
    ∙ get_or_from_slice_get (kept_rows len rows digits) row (digit_row len mine) []
    (kept_rows-get len rows digits row here) in
    let sized_row : length (get_or log row []) ≡ len = ap length row_is ∙ length-row_bits len mine long in (
      inside,
      record {
        values = whole-get len rows digits row here whole ∙ ap digits_of (sym row_is);
        count = long ∙ ap digit_count (sym sized_row);
        bits = λ at below. ap (λ (l : List Bool). get_or l at false) row_is
            ∙ get_or_from_slice_get (digit_row len mine) at
            (digit_bit (get_or mine (at / 4) 0) (at % 4)) false
            (row_bits-get len mine at long (omega (arith, below, sized_row)));
      },
    )
