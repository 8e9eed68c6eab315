-- If `token_at` finds a token at the front, the bytes there have the form of the token's kind.
use Rattle.std.proofs.Common.{◌≡◌, ℕ, zero, suc, ◌+◌, ◌<◌, ◌≤◌, List, [], ◌∷◌, ◌++◌, length, take, drop, Bool, true, false, cond, ◌⊎◌, inl, inr, refl, sym, ◌∙◌, ap, subst, arith, length-drop, nat_eq, Option, Some, None, slice_get}
use Rattle.std.proofs.Math.Seq.{take-add}
use Rattle.std.proofs.lemmas.Bool.Decides.{nat_tests}
use Rattle.std.proofs.lemmas.List.Sums.{prefix_len-le-length}
use Rattle.std.specs.List.{prefix_len, list_all}
use Rattle.std.specs.Char.{is_ascii_alphabetic, is_ascii_digit}
use Rattle.bsdl_lexer.specs.declared.token.TokenKind.{TokenKind}
use Rattle.bsdl_lexer.specs.declared.token.TokenKind.TheVariants.{Word, Number, Text, Mark}
use Rattle.bsdl_lexer.specs.Forms.{IsDigits, IsFraction, IsSigned, IsExponent, IsNumber, HasForm, is_word_byte, is_text_byte, is_mark_byte, is_exponent_letter, is_sign, begins_comment, quote, point}
use Rattle.bsdl_lexer.specs.inner.Lengths.{with_digits, fraction_len, signed_len, exponent_len, number_len, closed_len, token_at}
use Rattle.bsdl_lexer.proofs.Longest.{passes}

chosen : {A : Type 0} (b : Bool) (x y z : A) → cond b x y ≡ z → ((b ≡ true) × (x ≡ z)) ⊎ ((b ≡ false) × (y ≡ z))
chosen true x y z e = inl (refl, e)
chosen false x y z e = inr (refl, e)

-- a token of this kind begins at the front: the first `len` bytes, at least one, have its form, and
-- no comment begins here
pub record IsFront (left : List ℕ) (kind : TokenKind) (len : ℕ) : Type 0 where
  pub form : HasForm kind (take len left)
  pub within : len ≤ length left
  pub some : 0 < len
  pub no_comment : begins_comment left ≡ false

digits_front : (xs : List ℕ) (n : ℕ) → n ≡ prefix_len is_ascii_digit xs → nat_eq n 0 ≡ false → IsDigits (take n xs)
digits_front [] n e h = absurd (let k : n ≡ 0 = e in grind (arith, nat_tests))
digits_front (x ∷ xs) zero e h = cc
digits_front (x ∷ xs) (suc n) e h = subst (λ m. list_all is_ascii_digit (take m (x ∷ xs)) ≡ true) (sym e) (passes is_ascii_digit (x ∷ xs))

fraction_digits : (others : List ℕ) (first : ℕ) (b : Bool)
    → nat_eq (prefix_len is_ascii_digit others) 0 ≡ b → first ≡ point
    → IsFraction (take (cond b 0 (1 + prefix_len is_ascii_digit others)) (first ∷ others))
fraction_digits others first true e p = tt
fraction_digits others first false e p =
    let more : 1 + prefix_len is_ascii_digit others ≡ suc (prefix_len is_ascii_digit others) = omega arith in
    rw more (p, digits_front others (prefix_len is_ascii_digit others) refl e)

fraction_first : (first : ℕ) (others : List ℕ) (b : Bool) → nat_eq first point ≡ b
    → IsFraction (take (cond b (with_digits 1 others) 0) (first ∷ others))
fraction_first first others true e =
    fraction_digits others first (nat_eq (prefix_len is_ascii_digit others) 0) refl
    (grind (arith, nat_tests))
fraction_first first others false e = tt

fraction_front : (bytes : List ℕ) → IsFraction (take (fraction_len bytes) bytes)
fraction_front [] = tt
fraction_front (first ∷ others) = fraction_first first others (nat_eq first point) refl

exponent_signed : (e s : ℕ) (others : List ℕ) (b : Bool)
    → nat_eq (prefix_len is_ascii_digit others) 0 ≡ b → is_exponent_letter e ≡ true
    → is_sign s ≡ true
    → IsExponent (take (cond b 0 (2 + prefix_len is_ascii_digit others)) (e ∷ s ∷ others))
exponent_signed e s others true none h k = tt
exponent_signed e s others false some h k =
    let more : 2 + prefix_len is_ascii_digit others ≡ suc (suc (prefix_len is_ascii_digit others)) = omega arith in
    rw more (h, inr (k, digits_front others (prefix_len is_ascii_digit others) refl some))

exponent_plain : (e : ℕ) (others : List ℕ) (b : Bool) → nat_eq (prefix_len is_ascii_digit others) 0 ≡ b → is_exponent_letter e ≡ true
    → IsExponent (take (cond b 0 (1 + prefix_len is_ascii_digit others)) (e ∷ others))
exponent_plain e others true none h = tt
exponent_plain e others false some h =
    let more : 1 + prefix_len is_ascii_digit others ≡ suc (prefix_len is_ascii_digit others) = omega arith in
    rw more (h, signed (take (prefix_len is_ascii_digit others) others) (digits_front others (prefix_len is_ascii_digit others) refl some))
  where
    signed : (xs : List ℕ) → IsDigits xs → IsSigned xs
    signed [] d = d
    signed (x ∷ xs) d = inl d

exponent_sign : (e s : ℕ) (others : List ℕ) (b : Bool) → is_sign s ≡ b → is_exponent_letter e ≡ true
    → IsExponent
    (take (cond b (with_digits 2 others) (with_digits 1 (s ∷ others))) (e ∷ s ∷ others))
exponent_sign e s others true k h = exponent_signed e s others (nat_eq (prefix_len is_ascii_digit others) 0) refl h k
exponent_sign e s others false k h = exponent_plain e (s ∷ others) (nat_eq (prefix_len is_ascii_digit (s ∷ others)) 0) refl h

exponent_first : (e : ℕ) (others : List ℕ) (b : Bool) → is_exponent_letter e ≡ b
    → IsExponent (take (cond b (signed_len others) 0) (e ∷ others))
exponent_first e others false h = tt
exponent_first e [] true h = tt
exponent_first e (s ∷ others) true h = exponent_sign e s others (is_sign s) refl h

exponent_front : (bytes : List ℕ) → IsExponent (take (exponent_len bytes) bytes)
exponent_front [] = tt
exponent_front (e ∷ others) = exponent_first e others (is_exponent_letter e) refl

number_front : (first : ℕ) (others : List ℕ) → is_ascii_digit first ≡ true → IsNumber (take (number_len (first ∷ others)) (first ∷ others))
number_front first others h =
    let bytes : List ℕ = first ∷ others in
    let whole : ℕ = prefix_len is_ascii_digit bytes in
    let fraction : ℕ = fraction_len (drop whole bytes) in
    let exponent : ℕ = exponent_len (drop fraction (drop whole bytes)) in
    record {
      whole = take whole bytes;
      fraction = take fraction (drop whole bytes);
      exponent = take exponent (drop fraction (drop whole bytes));
      parts =
          take-add whole (fraction + exponent) bytes
          ∙ ap (λ xs. take whole bytes ++ xs) (take-add fraction exponent (drop whole bytes));
      digits = digits_front bytes whole refl (rw h (grind (arith, nat_tests)));
      after_point = fraction_front (drop whole bytes);
      after_letter = exponent_front (drop fraction (drop whole bytes));
    }

number_len-positive : (first : ℕ) (others : List ℕ) → is_ascii_digit first ≡ true → 0 < number_len (first ∷ others)
number_len-positive first others h = rw h (omega arith)

with_digits-le : (front n len : ℕ) → n ≤ len → cond (nat_eq n 0) 0 (front + n) ≤ front + len
with_digits-le front n len le = grind (arith, nat_tests)

fraction_len-le : (bytes : List ℕ) → fraction_len bytes ≤ length bytes
fraction_len-le [] = omega arith
fraction_len-le (first ∷ others) = cases (nat_eq first point)
  where
    cases : (b : Bool) → cond b (with_digits 1 others) 0 ≤ length (first ∷ others)
    cases true =
        let k : with_digits 1 others
        ≤ 1 + length others = with_digits-le 1 (prefix_len is_ascii_digit others) (length others)
        (prefix_len-le-length is_ascii_digit others) in
        omega arith
    cases false = omega arith

signed_len-le : (bytes : List ℕ) → signed_len bytes ≤ 1 + length bytes
signed_len-le [] = omega arith
signed_len-le (first ∷ others) = cases (is_sign first)
  where
    cases : (b : Bool) → cond b (with_digits 2 others) (with_digits 1 (first ∷ others)) ≤ 1 + length (first ∷ others)
    cases true =
        let k : with_digits 2 others
        ≤ 2 + length others = with_digits-le 2 (prefix_len is_ascii_digit others) (length others)
        (prefix_len-le-length is_ascii_digit others) in
        omega arith
    cases false =
        with_digits-le 1 (prefix_len is_ascii_digit (first ∷ others)) (length (first ∷ others))
        (prefix_len-le-length is_ascii_digit (first ∷ others))

exponent_len-le : (bytes : List ℕ) → exponent_len bytes ≤ length bytes
exponent_len-le [] = omega arith
exponent_len-le (first ∷ others) = cases (is_exponent_letter first)
  where
    cases : (b : Bool) → cond b (signed_len others) 0 ≤ length (first ∷ others)
    cases true = let k : signed_len others ≤ 1 + length others = signed_len-le others in omega arith
    cases false = omega arith

number_len-le : (bytes : List ℕ) → number_len bytes ≤ length bytes
number_len-le bytes =
    let w : prefix_len is_ascii_digit bytes ≤ length bytes = prefix_len-le-length is_ascii_digit bytes in
    let f : fraction_len (drop (prefix_len is_ascii_digit bytes) bytes)
    ≤ length (drop (prefix_len is_ascii_digit bytes) bytes) = fraction_len-le
    (drop (prefix_len is_ascii_digit bytes) bytes) in
    let e = exponent_len-le
    (drop (fraction_len (drop (prefix_len is_ascii_digit bytes) bytes))
    (drop (prefix_len is_ascii_digit bytes) bytes)) in
    omega (
      arith,
      w,
      f,
      e,
      length-drop (prefix_len is_ascii_digit bytes) bytes,
      length-drop (fraction_len (drop (prefix_len is_ascii_digit bytes) bytes))
          (drop (prefix_len is_ascii_digit bytes) bytes),
    )

take_to : (n : ℕ) (xs : List ℕ) (byte : ℕ) → slice_get xs n ≡ Some byte → (take (suc n) xs ≡ take n xs ++ byte ∷ []) × (n < length xs)
take_to n [] byte e = cc
take_to zero (x ∷ xs) byte e = (let same : x ≡ byte = cc in cc, omega arith)
take_to (suc n) (x ∷ xs) byte e = let k = take_to n xs byte e in (ap (λ ys. x ∷ ys) k.0, let l : n < length xs = k.1 in omega arith)

abbrev pub some_token : TokenKind → ℕ → Option (TokenKind × ℕ)
some_token kind len = let token : TokenKind × ℕ = (kind, len) in Some token

pub same_token : (k kind : TokenKind) (n len : ℕ) → some_token k n ≡ some_token kind len → (k ≡ kind) × (n ≡ len)
same_token k kind n len e =
    let first : TokenKind × ℕ = (k, n) in
    let second : TokenKind × ℕ = (kind, len) in
    let same : first ≡ second = cc in
    (ap (λ (x : TokenKind × ℕ). x.0) same, ap (λ (x : TokenKind × ℕ). x.1) same)

same_front : (left : List ℕ) (k kind : TokenKind) (n len : ℕ) → IsFront left k n
    → some_token k n ≡ some_token kind len → IsFront left kind len
same_front left k kind n len h e =
    let both = same_token k kind n len e in
    let P : TokenKind → Type 0 = λ x. IsFront left x len in
    let Q : ℕ → Type 0 = λ m. IsFront left k m in
    subst P both.0 (subst Q both.1 h)

closed_front : (others : List ℕ) (kind : TokenKind) (len n : ℕ) → n ≡ prefix_len is_text_byte others
    → (o : Option ℕ) → slice_get others n ≡ o → begins_comment (quote ∷ others) ≡ false
    → closed_len o n ≡ some_token kind len → IsFront (quote ∷ others) kind len
closed_front others kind len n is None at plain e = cc
closed_front others kind len n is (Some byte) at plain e = elim
    (chosen (nat_eq byte quote) (some_token Text (suc (suc n))) None (some_token kind len) e) [
      | inl k ↦ same_front (quote ∷ others) Text kind (suc (suc n)) len (closed byte at (grind (arith, nat_tests))) k.1
      | inr k ↦ (let z : None ≡ some_token kind len = k.1 in cc)
    ]
  where
    closed : (byte : ℕ) → slice_get others n ≡ Some byte → byte ≡ quote → IsFront (quote ∷ others) Text (suc (suc n))
    closed byte at same =
        let k = take_to n others quote (at ∙ ap Some same) in
        record {
          form =
              record {
                inner = take n others;
                quoted = ap (λ xs. quote ∷ xs) k.0;
                allowed = subst
                    (λ m. list_all is_text_byte (take m others) ≡ true) (sym is)
                    (passes is_text_byte others);
              };
          within = (let l : n < length others = k.1 in omega arith);
          some = omega arith;
          no_comment = plain;
        }

pub found_front : (left : List ℕ) (kind : TokenKind) (len : ℕ) → token_at left ≡ some_token kind len → IsFront left kind len
found_front [] kind len e = cc
found_front (first ∷ others) kind len e = elim (chosen (begins_comment (first ∷ others)) _ _ _ e) [
  | inl k ↦ (let z : None ≡ some_token kind len = k.1 in cc)
  | inr plain ↦ elim (chosen (is_ascii_alphabetic first) _ _ _ plain.1) [
    | inl k ↦ same_front (first ∷ others) Word kind (suc (prefix_len is_word_byte others)) len
        (record {
          form = (k.0, passes is_word_byte others);
          within =
              (let l : prefix_len is_word_byte others
              ≤ length others = prefix_len-le-length is_word_byte others in
              omega arith);
          some = omega arith;
          no_comment = plain.0;
        }) k.1
    | inr letter ↦ elim (chosen (is_ascii_digit first) _ _ _ letter.1) [
      | inl k ↦ same_front (first ∷ others) Number kind (number_len (first ∷ others)) len
          (record {
            form = number_front first others k.0;
            within = number_len-le (first ∷ others);
            some = number_len-positive first others k.0;
            no_comment = plain.0;
          }) k.1
      | inr digit ↦ elim (chosen (nat_eq first quote) _ _ _ digit.1) [
        | inl k ↦ (let same : first ≡ quote = grind (arith, nat_tests) in
            let P : ℕ → Type 0 = λ b. IsFront (b ∷ others) kind len in
            subst P (sym same)
            (closed_front others kind len (prefix_len is_text_byte others) refl
            (slice_get others (prefix_len is_text_byte others)) refl
            (subst (λ b. begins_comment (b ∷ others) ≡ false) same plain.0) k.1))
        | inr no_quote ↦ elim (chosen (is_mark_byte first) _ _ _ no_quote.1) [
          | inl k ↦ same_front (first ∷ others) Mark kind 1 len
              (record { form = k.0; within = omega arith; some = omega arith; no_comment = plain.0 })
              k.1
          | inr k ↦ (let z : None ≡ some_token kind len = k.1 in cc)
        ]
      ]
    ]
  ]
]
