-- No token at the front is longer than the token that `token_at` finds.
use Rattle.std.proofs.Common.{◌≡◌, ℕ, suc, ◌+◌, ◌<◌, ◌≤◌, List, [], ◌∷◌, ◌++◌, length, take, drop, Bool, true, false, cond, IsTrue, inl, inr, refl, sym, ◌∙◌, ap, subst, arith, append_assoc, append-nil, length-append, nat_eq, Some, slice_get}
use Rattle.std.proofs.lemmas.Bool.Decides.{nat_tests}
use Rattle.std.specs.List.{prefix_len, list_all}
use Rattle.std.specs.Char.{is_ascii_alphabetic, is_ascii_digit}
use Rattle.std.proofs.lemmas.Bool.{and_parts}
use Rattle.bsdl_lexer.specs.declared.token.TokenKind.{TokenKind}
use Rattle.bsdl_lexer.specs.declared.token.TokenKind.TheVariants.{Word, Number, Text, Mark}
use Rattle.bsdl_lexer.specs.Forms.{IsWord, IsDigits, IsFraction, IsSigned, IsExponent, IsNumber, IsQuoted, HasForm, is_word_byte, is_text_byte, is_mark_byte, is_exponent_letter, is_sign, begins_comment, quote, point}
use Rattle.bsdl_lexer.specs.inner.Lengths.{with_digits, fraction_len, signed_len, exponent_len, number_len, closed_len, token_at}

at_least : (p : ℕ → Bool) (xs ys : List ℕ) → list_all p xs ≡ true → length xs ≤ prefix_len p (xs ++ ys)
at_least p [] ys h = omega arith
at_least p (x ∷ xs) ys h =
    let k = and_parts (p x) (list_all p xs) h in
    let others : length xs ≤ prefix_len p (xs ++ ys) = at_least p xs ys k.1 in
    rw k.0 (omega arith)

exactly : (p : ℕ → Bool) (xs : List ℕ) (y : ℕ) (ys : List ℕ) → list_all p xs ≡ true → p y ≡ false → prefix_len p (xs ++ y ∷ ys) ≡ length xs
exactly p [] y ys h n = rw n
exactly p (x ∷ xs) y ys h n =
    let k = and_parts (p x) (list_all p xs) h in
    rw (k.0, exactly p xs y ys k.1 n) (omega arith)

passes_more : (p : ℕ → Bool) (x : ℕ) (xs : List ℕ) (b : Bool) → p x ≡ b
    → list_all p (take (prefix_len p xs) xs) ≡ true
    → list_all p (take (cond b (1 + prefix_len p xs) 0) (x ∷ xs)) ≡ true
passes_more p x xs true e h = let more : 1 + prefix_len p xs ≡ suc (prefix_len p xs) = omega arith in rw more (rw e h)
passes_more p x xs false e h = refl

pub passes : (p : ℕ → Bool) (xs : List ℕ) → list_all p (take (prefix_len p xs) xs) ≡ true
passes p [] = refl
passes p (x ∷ xs) = passes_more p x xs (p x) refl (passes p xs)

more_digits : (front n len : ℕ) → 0 < n → n ≤ len → front + n ≤ cond (nat_eq len 0) 0 (front + len)
more_digits front n len some le = grind (arith, nat_tests)

same_digits : (front n : ℕ) → 0 < n → cond (nat_eq n 0) 0 (front + n) ≡ front + n
same_digits front n some = grind (arith, nat_tests)

digits_at_least : (front : ℕ) (xs ys : List ℕ) → IsDigits xs → front + length xs ≤ with_digits front (xs ++ ys)
digits_at_least front [] ys h = absurd h
digits_at_least front (x ∷ xs) ys h =
    more_digits front (length (x ∷ xs)) (prefix_len is_ascii_digit ((x ∷ xs) ++ ys)) (omega arith)
    (at_least is_ascii_digit (x ∷ xs) ys h)

digits_exactly : (front : ℕ) (xs : List ℕ) (y : ℕ) (ys : List ℕ) → IsDigits xs
    → is_ascii_digit y ≡ false → with_digits front (xs ++ y ∷ ys) ≡ front + length xs
digits_exactly front [] y ys h n = absurd h
digits_exactly front (x ∷ xs) y ys h n =
    let e : prefix_len is_ascii_digit ((x ∷ xs) ++ y ∷ ys) ≡ length (x ∷ xs) = exactly is_ascii_digit (x ∷ xs) y ys h n in
    ap (λ len. cond (nat_eq len 0) 0 (front + len)) e ∙ same_digits front (length (x ∷ xs)) (omega arith)

digit_no_sign : (b : ℕ) → is_ascii_digit b ≡ true → is_sign b ≡ false
digit_no_sign b h = grind (arith, nat_tests)

letter_no_digit : (b : ℕ) → is_exponent_letter b ≡ true → is_ascii_digit b ≡ false
letter_no_digit b h = grind (arith, nat_tests)

letter_no_point : (b : ℕ) → is_exponent_letter b ≡ true → nat_eq b point ≡ false
letter_no_point b h = grind (arith, nat_tests)

signed_at_least : (xs ys : List ℕ) → IsSigned xs → 1 + length xs ≤ signed_len (xs ++ ys)
signed_at_least [] ys h = absurd h
signed_at_least (x ∷ xs) ys (inl h) =
    let digit : is_ascii_digit x ≡ true = (and_parts (is_ascii_digit x) (list_all is_ascii_digit xs) h).0 in
    rw (digit_no_sign x digit) (digits_at_least 1 (x ∷ xs) ys h)
signed_at_least (x ∷ xs) ys (inr h) = rw h.0 (let k : 2 + length xs ≤ with_digits 2 (xs ++ ys) = digits_at_least 2 xs ys h.1 in omega arith)

exponent_at_least : (xs ys : List ℕ) → IsExponent xs → length xs ≤ exponent_len (xs ++ ys)
exponent_at_least [] ys h = omega arith
exponent_at_least (x ∷ xs) ys h = rw h.0 (let k : 1 + length xs ≤ signed_len (xs ++ ys) = signed_at_least xs ys h.1 in omega arith)

drop-front : (xs ys : List ℕ) → drop (length xs) (xs ++ ys) ≡ ys
drop-front [] ys = refl
drop-front (x ∷ xs) ys = drop-front xs ys

behind_fraction : (fraction exponent more : List ℕ) (n : ℕ) → n ≡ length fraction
    → IsExponent exponent
    → length (fraction ++ exponent) ≤ n + exponent_len (drop n (fraction ++ (exponent ++ more)))
behind_fraction fraction exponent more n e x =
    rw (e, drop-front fraction (exponent ++ more))
    (let k : length exponent
    ≤ exponent_len (exponent ++ more) = exponent_at_least exponent more x in
    omega (arith, k, length-append fraction exponent))

rest_at_least : (fraction exponent more : List ℕ) → IsFraction fraction → IsExponent exponent
    → length (fraction ++ exponent)
    ≤ fraction_len (fraction ++ (exponent ++ more)) + exponent_len
    (drop (fraction_len (fraction ++ (exponent ++ more))) (fraction ++ (exponent ++ more)))
rest_at_least [] [] more f x = omega arith
rest_at_least [] (e ∷ exponent) more f x =
    behind_fraction [] (e ∷ exponent) more (fraction_len (e ∷ (exponent ++ more)))
    (rw (letter_no_point e x.0) refl) x
rest_at_least (p ∷ digits) [] more f x =
    rw f.0
    (let k : 1 + length digits
    ≤ with_digits 1 (digits ++ more) = digits_at_least 1 digits more f.1 in
    rw (append-nil digits) (omega arith))
rest_at_least (p ∷ digits) (e ∷ exponent) more f x =
    behind_fraction (p ∷ digits) (e ∷ exponent) more (fraction_len ((p ∷ digits) ++ ((e ∷ exponent) ++ more)))
    (rw f.0 (digits_exactly 1 digits e (exponent ++ more) f.1 (letter_no_digit e x.0) ∙ omega arith)) x

number_behind : (whole rest : List ℕ) (n : ℕ)
    → prefix_len is_ascii_digit (whole ++ rest) ≡ length whole
    → n ≤ fraction_len rest + exponent_len (drop (fraction_len rest) rest)
    → length whole + n ≤ number_len (whole ++ rest)
number_behind whole rest n e h = rw (e, drop-front whole rest) (omega arith)

digits_all : (xs : List ℕ) → IsDigits xs → list_all is_ascii_digit xs ≡ true
digits_all [] h = absurd h
digits_all (x ∷ xs) h = h

point_no_digit : (p : ℕ) → p ≡ point → is_ascii_digit p ≡ false
point_no_digit p e = rw e refl

parts_at_least : (whole fraction exponent more : List ℕ) → IsDigits whole → IsFraction fraction → IsExponent exponent
    → length whole + length (fraction ++ exponent) ≤ number_len (whole ++ (fraction ++ (exponent ++ more)))
parts_at_least whole [] [] more d f x =
    let k : length whole
    ≤ prefix_len is_ascii_digit (whole ++ more) = at_least is_ascii_digit whole more
    (digits_all whole d) in
    omega arith
parts_at_least whole [] (e ∷ exponent) more d f x =
    number_behind whole ((e ∷ exponent) ++ more) (length (e ∷ exponent))
    (exactly is_ascii_digit whole e (exponent ++ more) (digits_all whole d)
    (letter_no_digit e x.0)) (rest_at_least [] (e ∷ exponent) more f x)
parts_at_least whole (p ∷ digits) exponent more d f x =
    number_behind whole ((p ∷ digits) ++ (exponent ++ more)) (length ((p ∷ digits) ++ exponent))
    (exactly is_ascii_digit whole p (digits ++ (exponent ++ more)) (digits_all whole d)
    (point_no_digit p f.0)) (rest_at_least (p ∷ digits) exponent more f x)

number_at_least : (xs more : List ℕ) → IsNumber xs → length xs ≤ number_len (xs ++ more)
number_at_least xs more h =
    let e : xs ++ more ≡ h.whole ++ (h.fraction ++ (h.exponent ++ more)) =
    ap (λ ys. ys ++ more) h.parts ∙ append_assoc h.whole (h.fraction ++ h.exponent) more
    ∙ ap (λ ys. h.whole ++ ys) (append_assoc h.fraction h.exponent more) in
    let len : length xs
    ≡ length h.whole + length (h.fraction ++ h.exponent) = ap length h.parts
    ∙ length-append h.whole (h.fraction ++ h.exponent) in
    let k : length h.whole + length (h.fraction ++ h.exponent)
    ≤ number_len (h.whole ++ (h.fraction ++ (h.exponent ++ more))) = parts_at_least h.whole
    h.fraction h.exponent more h.digits h.after_point h.after_letter in
    let P : List ℕ → Type 0 = λ ys. length xs ≤ number_len ys in
    subst P (sym e) (omega arith)

letter_no_digit_quote : (b : ℕ) → is_ascii_digit b ≡ true → is_ascii_alphabetic b ≡ false
letter_no_digit_quote b h = grind (arith, nat_tests)

mark_kinds : (b : ℕ) → is_mark_byte b ≡ true → (is_ascii_alphabetic b ≡ false) × (is_ascii_digit b ≡ false) × (nat_eq b quote ≡ false)
mark_kinds b h = (grind (arith, nat_tests), grind (arith, nat_tests), grind (arith, nat_tests))

-- `token_at` finds a token of this kind at the front, and it has at least `n` bytes
pub record IsWithin (left : List ℕ) (kind : TokenKind) (n : ℕ) : Type 0 where
  pub len : ℕ
  pub found : token_at left ≡ Some (kind, len)
  pub longer : n ≤ len

word_within : (first : ℕ) (others more : List ℕ) → begins_comment (first ∷ (others ++ more)) ≡ false
    → IsWord (first ∷ others) → IsWithin (first ∷ (others ++ more)) Word (length (first ∷ others))
word_within first others more n h = record {
  len = suc (prefix_len is_word_byte (others ++ more));
  found = rw (n, h.0);
  longer = let k : length others ≤ prefix_len is_word_byte (others ++ more) = at_least is_word_byte others more h.1 in omega arith;
}

pub number_first : (first : ℕ) (others : List ℕ) → IsNumber (first ∷ others) → is_ascii_digit first ≡ true
number_first first others h = starts h.whole h.parts h.digits
  where
    starts : (whole : List ℕ) → first ∷ others ≡ whole ++ (h.fraction ++ h.exponent) → IsDigits whole → is_ascii_digit first ≡ true
    starts [] e d = absurd d
    starts (x ∷ xs) e d = let same : first ≡ x = cc in rw same (and_parts (is_ascii_digit x) (list_all is_ascii_digit xs) d).0

number_within : (first : ℕ) (others more : List ℕ)
    → begins_comment (first ∷ (others ++ more)) ≡ false → IsNumber (first ∷ others)
    → IsWithin (first ∷ (others ++ more)) Number (length (first ∷ others))
number_within first others more n h =
    let digit : is_ascii_digit first ≡ true = number_first first others h in
    record {
      len = number_len (first ∷ (others ++ more));
      found = rw (n, letter_no_digit_quote first digit, digit);
      longer = number_at_least (first ∷ others) more h;
    }

mark_within : (first : ℕ) (more : List ℕ) → begins_comment (first ∷ more) ≡ false
    → IsTrue (is_mark_byte first) → IsWithin (first ∷ more) Mark 1
mark_within first more n h =
    let k = mark_kinds first h in
    record { len = 1; found = rw (n, h, k.0, k.1, k.2); longer = omega arith }

get_behind : (inner more : List ℕ) (byte : ℕ) → slice_get (inner ++ byte ∷ more) (length inner) ≡ Some byte
get_behind [] more byte = refl
get_behind (x ∷ inner) more byte = get_behind inner more byte

text_within : (first : ℕ) (others more : List ℕ) → IsQuoted (first ∷ others)
    → IsWithin (first ∷ (others ++ more)) Text (length (first ∷ others))
text_within first others more h =
    let is_quote : first ≡ quote = cc h.quoted in
    let rest : others ≡ h.inner ++ quote ∷ [] = cc h.quoted in
    let whole : others ++ more ≡ h.inner ++ quote ∷ more = ap (λ ys. ys ++ more) rest ∙ append_assoc h.inner (quote ∷ []) more in
    let len : prefix_len is_text_byte (h.inner ++ quote ∷ more) ≡ length h.inner = exactly is_text_byte h.inner quote more h.allowed refl in
    let count : length others ≡ suc (length h.inner) = ap length rest ∙ length-append h.inner (quote ∷ []) ∙ omega arith in
    record {
      len = suc (suc (length h.inner));
      found = rw (is_quote, whole) (not_comment (h.inner ++ quote ∷ more) (rw len (rw (get_behind h.inner more quote) refl)));
      longer = omega arith;
    }
  where
    not_comment : (ys : List ℕ)
        → closed_len (slice_get ys (prefix_len is_text_byte ys)) (prefix_len is_text_byte ys)
        ≡ Some (Text, suc (suc (length h.inner)))
        → token_at (quote ∷ ys) ≡ Some (Text, suc (suc (length h.inner)))
    not_comment [] e = e
    not_comment (y ∷ ys) e = e

pub no_empty : (kind : TokenKind) → HasForm kind [] → ⊥
no_empty Word h = h
no_empty Number h = empty h.whole h.parts h.digits
  where
    empty : (whole : List ℕ) → [] ≡ whole ++ (h.fraction ++ h.exponent) → IsDigits whole → ⊥
    empty [] e d = d
    empty (x ∷ xs) e d = cc
no_empty Text h = cc h.quoted
no_empty Mark h = h

pub within : (kind : TokenKind) (word more : List ℕ) → HasForm kind word
    → begins_comment (word ++ more) ≡ false → IsWithin (word ++ more) kind (length word)
within kind [] more h n = absurd (no_empty kind h)
within Word (first ∷ others) more h n = word_within first others more n h
within Number (first ∷ others) more h n = number_within first others more n h
within Text (first ∷ others) more h n = text_within first others more h
within Mark (first ∷ []) more h n = mark_within first more n h
within Mark (first ∷ second ∷ others) more h n = absurd h
