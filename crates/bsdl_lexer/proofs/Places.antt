-- `gap_len` finds the gap (blanks and comments) at a place of a text, and `token_at` finds the token at a place, if
-- there is one. Each gap and each token that they find is a gap or a token of the text.
use Rattle.std.proofs.Common.{◌≡◌, ℕ, zero, suc, ◌+◌, ◌-◌, ◌<◌, ◌≤◌, List, [], ◌∷◌, ◌++◌, length, take, drop, true, false, refl, sym, ◌∙◌, ap, subst, arith, length-drop, ◌⊎◌, inl, inr}
use Rattle.std.proofs.lemmas.Bool.{cases_lt}
use Rattle.std.proofs.lemmas.Bool.Decides.{nat_tests}
use Rattle.std.proofs.lemmas.List.{length-take-le, drop-drop}
use Rattle.std.proofs.lemmas.List.Folds.{drop_split}
use Rattle.std.specs.List.{slice_range}
use Rattle.std.specs.Char.{is_ascii_alphabetic, is_ascii_digit}
use Rattle.bsdl_lexer.specs.declared.token.Token.{Token}
use Rattle.bsdl_lexer.specs.declared.token.TokenKind.{TokenKind}
use Rattle.bsdl_lexer.specs.declared.token.TokenKind.TheVariants.{Word, Number, Text, Mark}
use Rattle.bsdl_lexer.specs.Forms.{HasForm, IsGap, is_bsdl_blank, is_mark_byte, begins_comment, begins_gap, quote}
use Rattle.bsdl_lexer.specs.Tokens.{line_of_place, Separates, IsToken}
use Rattle.bsdl_lexer.specs.inner.Lengths.{gap_len, token_at}
use Rattle.bsdl_lexer.specs.inner.Steps.{token_of}
use Rattle.bsdl_lexer.proofs.Longest.{IsWithin, within, no_empty, number_first}
use Rattle.bsdl_lexer.proofs.Found.{IsFront, found_front, some_token, same_token}
use Rattle.bsdl_lexer.proofs.Gaps.{gap_front, only_gap, gap_len-le}

pub drop-sum : (a b : ℕ) (xs : List ℕ) → drop (a + b) xs ≡ drop b (drop a xs)
drop-sum a b xs = sym (drop-drop b a xs)

pub range_from : (text : List ℕ) (from n : ℕ) → slice_range text from (from + n) ≡ take n (drop from text)
range_from text from n = let e : from + n - from ≡ n = omega arith in ap (λ m. take m (drop from text)) e

pub length-range : (text : List ℕ) (from to : ℕ) → to ≤ length text → length (slice_range text from to) ≡ to - from
length-range text from to le = length-take-le (to - from) (drop from text) (omega (arith, length-drop from text))

pub separates_found : (text : List ℕ) (from : ℕ) → from ≤ length text → Separates text from (from + gap_len false (drop from text))
separates_found text from le =
    let left : List ℕ = drop from text in
    let n : ℕ = gap_len false left in
    record {
      order = omega arith;
      within = omega (arith, gap_len-le left, length-drop from text);
      gap =
          subst (λ xs. IsGap (drop (from + n) text) xs) (sym (range_from text from n))
          (subst (λ xs. IsGap xs (take n left)) (sym (drop-sum from n text)) (gap_front left));
    }

pub separates_to : (text : List ℕ) (from to : ℕ) → Separates text from to
    → begins_gap (drop to text) ≡ false → from + gap_len false (drop from text) ≡ to
separates_to text from to h none =
    let split : drop from text ≡ slice_range text from to ++ drop to text = drop_split text from to h.order in
    let len : gap_len false (drop from text)
    ≡ length (slice_range text from to) = ap (gap_len false) split
    ∙ only_gap (drop to text) (slice_range text from to) h.gap none in
    let long : length (slice_range text from to) ≡ to - from = length-range text from to h.within in
    omega (arith, h.order, len, long)

letter_no_blank : (b : ℕ) → is_ascii_alphabetic b ≡ true → is_bsdl_blank b ≡ false
letter_no_blank b h = grind (arith, nat_tests)

digit_no_blank : (b : ℕ) → is_ascii_digit b ≡ true → is_bsdl_blank b ≡ false
digit_no_blank b h = grind (arith, nat_tests)

mark_no_blank : (b : ℕ) → is_mark_byte b ≡ true → is_bsdl_blank b ≡ false
mark_no_blank b h = grind (arith, nat_tests)

first_no_blank : (kind : TokenKind) (first : ℕ) (others : List ℕ) → HasForm kind (first ∷ others) → is_bsdl_blank first ≡ false
first_no_blank Word first others h = letter_no_blank first h.0
first_no_blank Number first others h = digit_no_blank first (number_first first others h)
first_no_blank Text first others h = let same : first ≡ quote = cc h.quoted in rw same refl
first_no_blank Mark first [] h = mark_no_blank first h
first_no_blank Mark first (second ∷ others) h = absurd h

pub no_gap : (kind : TokenKind) (n : ℕ) (rest : List ℕ) → HasForm kind (take n rest) → begins_comment rest ≡ false → begins_gap rest ≡ false
no_gap kind n [] h c = refl
no_gap kind zero (first ∷ others) h c = absurd (no_empty kind h)
no_gap kind (suc n) (first ∷ others) h c = rw (first_no_blank kind first (take n others) h, c)

pub range_within : (text : List ℕ) (start to : ℕ) (kind : TokenKind) → start ≤ to → to ≤ length text
    → HasForm kind (slice_range text start to) → begins_comment (drop start text) ≡ false
    → IsWithin (drop start text) kind (to - start)
range_within text start to kind order le form plain =
    let word : List ℕ = slice_range text start to in
    let split : drop start text ≡ word ++ drop to text = drop_split text start to order in
    let h : IsWithin (word ++ drop to text) kind (length word) = within kind word (drop to text)
    form (subst (λ xs. begins_comment xs ≡ false) split plain) in
    subst (λ n. IsWithin (drop start text) kind n) (length-range text start to le)
    (subst (λ xs. IsWithin xs kind (length word)) (sym split) h)

pub some_bytes : (text : List ℕ) (start to : ℕ) (kind : TokenKind) → HasForm kind (slice_range text start to) → start < to
some_bytes text start to kind form = go (cases_lt start to)
  where
    go : (start < to) ⊎ (to ≤ start) → start < to
    go (inl h) = h
    go (inr h) =
        let e : to - start ≡ 0 = omega arith in
        absurd (no_empty kind (subst (λ n. HasForm kind (take n (drop start text))) e form))

pub token_is_found : (text : List ℕ) (token : Token) → IsToken text token
    → token_at (drop token.start text) ≡ some_token token.kind (token.«end» - token.start)
token_is_found text token h =
    let some : token.start < token.«end» = some_bytes text token.start token.«end» token.kind h.form in
    let w : IsWithin (drop token.start text) token.kind (token.«end» - token.start) = range_within
    text token.start token.«end» token.kind (omega arith) h.within h.form h.no_comment in
    let f : IsFront (drop token.start text) token.kind w.len = found_front (drop token.start text) token.kind w.len w.found in
    let fits : token.start + w.len ≤ length text = omega (arith, f.within, length-drop token.start text, h.within) in
    let same : w.len ≡ token.«end» - token.start = exact (cases_lt token.«end» (token.start + w.len)) fits f.form w.longer some in
    w.found ∙ ap (some_token token.kind) same
  where
    exact : {len : ℕ} → (token.«end» < token.start + len) ⊎ (token.start + len ≤ token.«end»)
        → token.start + len ≤ length text → HasForm token.kind (take len (drop token.start text))
        → token.«end» - token.start ≤ len → token.start < token.«end»
        → len ≡ token.«end» - token.start
    exact {len} (inl longer) fits form ge some =
        absurd
        (h.longest token.kind (token.start + len) longer fits
        (subst (HasForm token.kind) (sym (range_from text token.start len)) form))
    exact {len} (inr le) fits form ge some = omega arith

pub found_is_token : (text : List ℕ) (start line : ℕ) (kind : TokenKind) (len : ℕ)
    → start ≤ length text → token_at (drop start text) ≡ some_token kind len
    → line ≡ line_of_place text start → IsToken text (token_of start line (kind, len))
found_is_token text start line kind len le e l =
    let f : IsFront (drop start text) kind len = found_front (drop start text) kind len e in
    record {
      within = omega (arith, f.within, length-drop start text);
      form = subst (HasForm kind) (sym (range_from text start len)) f.form;
      longest = λ other to longer fits form. (
          let w : IsWithin (drop start text) other (to - start) = range_within text start to other (omega arith) fits form f.no_comment in
          let both = same_token other kind w.len len (sym w.found ∙ e) in
          let is : w.len ≡ len = both.1 in
          let ge : to - start ≤ w.len = w.longer in
          omega arith);
      no_comment = f.no_comment;
      line = l;
    }
