-- Lemmas about cutting a text into lines, and a line into words.
use Rattle.std.proofs.Common.{◌≡◌, ℕ, ◌+◌, ◌<◌, ◌≤◌, Bool, true, false, cond, List, [], ◌∷◌, length, Option, Some, None, refl, ap, ◌∙◌, arith, not, map, subst, take, drop, get_or, suc, sym, ◌-◌, length-drop}
use Rattle.std.specs.Prelude.{IfSome, IfNone, option_map, filter, take_while, ◌==◌}
use Rattle.memchr.specs.Find.{Nowhere, NoneBefore, Passes}
use Rattle.std.proofs.lemmas.List.Sums.{prefix_len_is, take_while-cons}
use Rattle.std.specs.List.{slice_split, position_or_len, onto_first, before_first}
use Rattle.text_lines.specs.Words.{words_of, IsCutAt, is_line_blank, is_filled, begins_no_comment, begins_blank, begins_word}
use Rattle.std.proofs.lemmas.List.Splits.{slice_split-cons_yes, slice_split-cons_no}
use Rattle.std.proofs.lemmas.List.{take_rest, length-take-le}
use Rattle.std.proofs.lemmas.Bool.{false≢true, not_from_false, false_from_ne_true}

pub no_place : (p : ℕ → Bool) (xs : List ℕ) → Nowhere (Passes p xs) 0 (length xs) → position_or_len p xs ≡ length xs
no_place p xs nowhere =
    prefix_len_is (λ x. not (p x)) xs (length xs) 0 (omega arith)
    (λ k within. not_from_false (p (get_or xs k 0))
    (false_from_ne_true (p (get_or xs k 0)) (nowhere k (omega arith) within)))
    (λ within. absurd (omega arith))

pub first_place : (p : ℕ → Bool) (xs : List ℕ) (k : ℕ) → NoneBefore (Passes p xs) 0 (length xs) k → Passes p xs k → position_or_len p xs ≡ k
first_place p xs k before passes =
    prefix_len_is (λ x. not (p x)) xs k 0 (omega (arith, before.high))
    (λ j within. not_from_false (p (get_or xs j 0))
    (false_from_ne_true (p (get_or xs j 0)) (before.before j (omega arith) within)))
    (λ within. ap not passes)

pub cut_there : (p : ℕ → Bool) (xs : List ℕ) (k : ℕ)
    → (NoneBefore (Passes p xs) 0 (length xs) k × Passes p xs k)
    → IsCutAt p xs (Some (take k xs, take (length xs - (k + 1)) (drop (k + 1) xs)))
cut_there p xs k (before, passes) =
    let place = first_place p xs k before passes in (
      omega (arith, place, before.high),
      sym (ap (λ n. take n xs) place),
      take_rest xs (k + 1) ∙ sym (ap (λ n. drop (n + 1) xs) place),
    )

pub cut_within : (p : ℕ → Bool) (text before behind : List ℕ)
    → IsCutAt p text (Some (before, behind)) → length before + length behind ≤ length text
cut_within p text before behind (place, first, rest) =
    omega (
      arith,
      place,
      ap length first,
      ap length rest,
      length-take-le (position_or_len p text) text (omega arith),
      length-drop (position_or_len p text + 1) text,
    )

split_behind : (p : ℕ → Bool) (x : ℕ) (xs : List ℕ) (b : Bool)
    → cond (not b) (1 + position_or_len p xs) 0 ≡ 1 + length xs
    → (position_or_len p xs ≡ length xs → slice_split p xs ≡ xs ∷ [])
    → cond b ([] ∷ slice_split p xs) (onto_first x (slice_split p xs)) ≡ (x ∷ xs) ∷ []
split_behind p x xs true e ih = absurd (omega arith)
split_behind p x xs false e ih = let same : position_or_len p xs ≡ length xs = omega arith in ap (onto_first x) (ih same)

pub split_whole : (p : ℕ → Bool) (xs : List ℕ) → position_or_len p xs ≡ length xs → slice_split p xs ≡ xs ∷ []
split_whole p [] h = refl
split_whole p (x ∷ xs) h = split_behind p x xs (p x) (h ∙ omega arith) (split_whole p xs)

pub words_of_empty : (line : List ℕ) → length line ≡ 0 → words_of line ≡ []
unfolding words_of
words_of_empty [] h = refl
words_of_empty (b ∷ bs) h = absurd (omega arith)

-- the number of bytes that are left plus one, or 0 if no text is left; this number falls with each line
abbrev pub text_left : Option (List ℕ) → ℕ
text_left None = 0
text_left (Some text) = 1 + length text

no_words : {A : Type 0} (view : A → List ℕ) (words : List A) → map view words ≡ words_of [] → 0 < length words → ⊥
unfolding words_of
no_words view [] e h = omega arith
no_words view (w ∷ ws) e h = cc e

pub has_bytes : {A : Type 0} (view : A → List ℕ) (words : List A) (line : List ℕ)
    → map view words ≡ words_of line → 0 < length words → 0 < length line
has_bytes view words [] e h = absurd (no_words view words e h)
has_bytes view words (b ∷ bs) e h = omega arith

pub at_some : {A : Type 0} (P : A → Type 0) (o : Option A) (x : A) → o ≡ Some x → IfSome o P → P x
at_some P o x e h = subst (λ v. IfSome v P) e h

-- One step of a loop over lines: the number of the current line, plus the length of the text from this line on, stays
-- at most `1 + b`.
pub next_place : {A : Type 0} (view : A → List ℕ) (r : Option A) (line text : List ℕ) (n b : ℕ)
    → IfSome r (λ rest. length line + length (view rest) + 1 ≡ length text)
    → n + length text ≤ 1 + b → IfSome r (λ rest. n + 1 + length (view rest) ≤ 1 + b)
next_place view None line text n b h place = tt
next_place view (Some rest) line text n b h place = omega arith

pub line_within : {A : Type 0} (view : A → List ℕ) (r : Option A) (line text : List ℕ)
    → IfSome r (λ rest. length line + length (view rest) + 1 ≡ length text)
    → IfNone r (length line ≡ length text) → length line ≤ length text
line_within view None line text h whole = omega arith
line_within view (Some rest) line text h whole = omega arith

-- the number of bytes that are left, or 0 if no text is left
abbrev pub bytes_left : Option (List ℕ) → ℕ
bytes_left None = 0
bytes_left (Some text) = length text

pub count_at : (left : Option (List ℕ)) (text : List ℕ) (count b : ℕ) → left ≡ Some text
    → count + bytes_left left ≤ b → count + length text ≤ b
count_at left text count b is within = subst (λ (o : Option (List ℕ)). count + bytes_left o ≤ b) is within

-- One step of a loop that counts nonempty lines: the count, plus the number of bytes that are left, stays at most `b`.
pub count_more : {A : Type 0} (view : A → List ℕ) (r : Option A) (line text : List ℕ) (count b : ℕ)
    → IfSome r (λ rest. length line + length (view rest) + 1 ≡ length text)
    → IfNone r (length line ≡ length text)
    → 0 < length line → count + length text ≤ b → count + 1 + bytes_left (option_map view r) ≤ b
count_more view None line text count b shorter whole filled within = omega arith
count_more view (Some rest) line text count b shorter whole filled within = omega arith

pub count_same : {A : Type 0} (view : A → List ℕ) (r : Option A) (line text : List ℕ) (count b : ℕ)
    → IfSome r (λ rest. length line + length (view rest) + 1 ≡ length text)
    → count + length text ≤ b → count + bytes_left (option_map view r) ≤ b
count_same view None line text count b shorter within = omega arith
count_same view (Some rest) line text count b shorter within = omega arith

pub words_of-blank : (b : ℕ) (bs : List ℕ) → is_line_blank b ≡ true → words_of (b ∷ bs) ≡ words_of bs
unfolding words_of
words_of-blank b bs blank =
    ap (λ pieces. take_while begins_no_comment (filter is_filled pieces)) (slice_split-cons_yes is_line_blank b bs blank)

taken_first : (b : ℕ) (bs : List ℕ) (pieces : List (List ℕ)) → not (b == 35) ≡ true
    → take_while begins_no_comment ((b ∷ bs) ∷ pieces)
    ≡ (b ∷ bs) ∷ take_while begins_no_comment pieces
taken_first b bs pieces word =
    take_while-cons begins_no_comment (b ∷ bs) pieces ∙ ap (λ t. cond t ((b ∷ bs) ∷ take_while begins_no_comment pieces) []) word

pub words_of-cons : (line before behind : List ℕ)
    → slice_split is_line_blank line ≡ before ∷ slice_split is_line_blank behind
    → begins_word before ≡ true → words_of line ≡ before ∷ words_of behind
unfolding words_of
words_of-cons line [] behind split word = absurd (false≢true word)
words_of-cons line (b ∷ bs) behind split word =
    ap (λ pieces. take_while begins_no_comment (filter is_filled pieces)) split
    ∙ taken_first b bs (filter is_filled (slice_split is_line_blank behind)) word

pub begins_word-before : (text : List ℕ) → begins_blank text ≡ false → begins_word text ≡ true
    → begins_word (before_first is_line_blank text) ≡ true
begins_word-before [] blank word = absurd (false≢true word)
begins_word-before (b ∷ bs) blank word =
    let more : 1 + position_or_len is_line_blank bs ≡ suc (position_or_len is_line_blank bs) = omega arith in
    ap (λ t. begins_word (take (cond (not t) (1 + position_or_len is_line_blank bs) 0) (b ∷ bs))) blank
    ∙ ap (λ n. begins_word (take n (b ∷ bs))) more ∙ word

comment_first : (b : ℕ) (pieces : List (List ℕ)) → not (b == 35) ≡ false
    → take_while begins_no_comment (filter is_filled (onto_first b pieces)) ≡ []
comment_first b [] comment =
    take_while-cons begins_no_comment (b ∷ []) [] ∙ ap (λ t. cond t ((b ∷ []) ∷ take_while begins_no_comment []) []) comment
comment_first b (piece ∷ pieces) comment =
    take_while-cons begins_no_comment (b ∷ piece) (filter is_filled pieces)
    ∙ ap (λ t. cond t ((b ∷ piece) ∷ take_while begins_no_comment (filter is_filled pieces)) [])
    comment

pub words_of-comment : (text : List ℕ) → begins_blank text ≡ false → begins_word text ≡ false → words_of text ≡ []
unfolding words_of
words_of-comment [] blank word = refl
words_of-comment (b ∷ bs) blank word =
    ap (λ pieces. take_while begins_no_comment (filter is_filled pieces))
    (slice_split-cons_no is_line_blank b bs blank)
    ∙ comment_first b (slice_split is_line_blank bs) word

pub words_of-whole : (text : List ℕ) → position_or_len is_line_blank text ≡ length text
    → begins_word text ≡ true → words_of text ≡ text ∷ words_of []
unfolding words_of
words_of-whole [] whole word = absurd (false≢true word)
words_of-whole (b ∷ bs) whole word =
    ap (λ pieces. take_while begins_no_comment (filter is_filled pieces))
    (split_whole is_line_blank (b ∷ bs) whole) ∙ taken_first b bs [] word
