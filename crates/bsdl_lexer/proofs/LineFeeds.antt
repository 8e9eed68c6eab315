-- Tokens contain no line feeds, so lines end only between tokens.
use Rattle.std.proofs.Common.{◌≡◌, ℕ, ◌+◌, List, [], ◌∷◌, ◌++◌, Bool, true, false, inl, inr, refl, ◌∙◌, ap, arith, nat_eq, cond, sym}
use Rattle.std.proofs.lemmas.Bool.Decides.{nat_tests}
use Rattle.std.proofs.lemmas.List.Sums.{sum_by-cons, sum_by-append}
use Rattle.std.specs.List.{list_all}
use Rattle.std.specs.Char.{is_ascii_alphabetic, is_ascii_digit}
use Rattle.std.proofs.lemmas.Bool.{and_parts}
use Rattle.bsdl_lexer.specs.declared.token.TokenKind.{TokenKind}
use Rattle.bsdl_lexer.specs.declared.token.TokenKind.TheVariants.{Word, Number, Text, Mark}
use Rattle.bsdl_lexer.specs.Forms.{HasForm, IsDigits, IsSigned, IsFraction, IsExponent, is_word_byte, is_text_byte, is_sign, is_exponent_letter, point, is_mark_byte, quote, line_feed}
use Rattle.bsdl_lexer.specs.Tokens.{line_feeds}

pub line_feeds-append : (xs ys : List ℕ) → line_feeds (xs ++ ys) ≡ line_feeds xs + line_feeds ys
line_feeds-append xs ys = sum_by-append (λ byte. cond (nat_eq byte line_feed) 1 0) xs ys

line_feeds-cons : (x : ℕ) (xs : List ℕ) → line_feeds (x ∷ xs) ≡ cond (nat_eq x line_feed) 1 0 + line_feeds xs
line_feeds-cons x xs = sum_by-cons (λ byte. cond (nat_eq byte line_feed) 1 0) x xs

other_byte : (p : ℕ → Bool) (x : ℕ) → p line_feed ≡ false → p x ≡ true → nat_eq x line_feed ≡ false
other_byte p x n h = go (nat_eq x line_feed) refl
  where
    go : (b : Bool) → nat_eq x line_feed ≡ b → b ≡ false
    go false e = refl
    go true e = let same : x ≡ line_feed = grind (arith, nat_tests) in let z : p line_feed ≡ true = ap p (sym same) ∙ h in cc

none_more : (x : ℕ) (xs : List ℕ) → nat_eq x line_feed ≡ false → line_feeds xs ≡ 0 → line_feeds (x ∷ xs) ≡ 0
none_more x xs n h =
    let e : line_feeds (x ∷ xs) ≡ cond {A = ℕ} (nat_eq x line_feed) 1 0 + line_feeds xs = line_feeds-cons x xs in
    let first : cond {A = ℕ} (nat_eq x line_feed) 1 0 ≡ 0 = ap (λ b. cond {A = ℕ} b 1 0) n in
    omega arith

none_in : (p : ℕ → Bool) (xs : List ℕ) → p line_feed ≡ false → list_all p xs ≡ true → line_feeds xs ≡ 0
none_in p [] n h = refl
none_in p (x ∷ xs) n h =
    let k = and_parts (p x) (list_all p xs) h in
    none_more x xs (other_byte p x n k.0) (none_in p xs n k.1)

none_at : (p : ℕ → Bool) (x : ℕ) (xs : List ℕ) → p line_feed ≡ false → p x ≡ true → line_feeds xs ≡ 0 → line_feeds (x ∷ xs) ≡ 0
none_at p x xs n h k = none_more x xs (other_byte p x n h) k

digits_none : (xs : List ℕ) → IsDigits xs → line_feeds xs ≡ 0
digits_none [] h = absurd h
digits_none (x ∷ xs) h = none_in is_ascii_digit (x ∷ xs) refl h

signed_none : (xs : List ℕ) → IsSigned xs → line_feeds xs ≡ 0
signed_none [] h = absurd h
signed_none (x ∷ xs) (inl h) = digits_none (x ∷ xs) h
signed_none (x ∷ xs) (inr h) = none_at is_sign x xs refl h.0 (digits_none xs h.1)

fraction_none : (xs : List ℕ) → IsFraction xs → line_feeds xs ≡ 0
fraction_none [] h = refl
fraction_none (x ∷ xs) h = none_at (λ b. nat_eq b point) x xs refl (rw h.0 refl) (digits_none xs h.1)

exponent_none : (xs : List ℕ) → IsExponent xs → line_feeds xs ≡ 0
exponent_none [] h = refl
exponent_none (x ∷ xs) h = none_at is_exponent_letter x xs refl h.0 (signed_none xs h.1)

pub no_line_feeds : (kind : TokenKind) (bytes : List ℕ) → HasForm kind bytes → line_feeds bytes ≡ 0
no_line_feeds Word [] h = absurd h
no_line_feeds Word (x ∷ xs) h = none_at is_ascii_alphabetic x xs refl h.0 (none_in is_word_byte xs refl h.1)
no_line_feeds Number bytes h =
    ap line_feeds h.parts ∙ line_feeds-append h.whole (h.fraction ++ h.exponent)
    ∙ (let a : line_feeds h.whole ≡ 0 = digits_none h.whole h.digits in
    let b : line_feeds h.fraction ≡ 0 = fraction_none h.fraction h.after_point in
    let c : line_feeds h.exponent ≡ 0 = exponent_none h.exponent h.after_letter in
    let d : line_feeds (h.fraction ++ h.exponent)
    ≡ line_feeds h.fraction + line_feeds h.exponent = line_feeds-append h.fraction h.exponent in
    omega arith)
no_line_feeds Text bytes h =
    ap line_feeds h.quoted ∙ line_feeds-cons quote (h.inner ++ quote ∷ []) ∙ (
    let a : line_feeds h.inner ≡ 0 = none_in is_text_byte h.inner refl h.allowed in
    let d : line_feeds (h.inner ++ quote ∷ []) ≡ line_feeds h.inner + line_feeds (quote ∷ []) = line_feeds-append h.inner (quote ∷ []) in
    let e : line_feeds (quote ∷ []) ≡ 0 = refl in
    omega arith)
no_line_feeds Mark [] h = absurd h
no_line_feeds Mark (x ∷ []) h = none_at is_mark_byte x [] refl h refl
no_line_feeds Mark (x ∷ y ∷ xs) h = absurd h
