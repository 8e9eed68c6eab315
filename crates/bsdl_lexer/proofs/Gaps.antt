-- A gap consists of blanks and comments. `gap_len` is the length of a gap at the front, and no blank or comment begins
-- after this gap. Every gap at the front with this property has this length.
use Rattle.std.proofs.Common.{◌≡◌, ℕ, suc, ◌+◌, ◌≤◌, List, [], ◌∷◌, ◌++◌, length, take, drop, Bool, true, false, ◌&&◌, ◌||◌, not, ◌==◌, cond, IsTrue, ◌⊎◌, inl, inr, refl, sym, ◌∙◌, ap, subst, arith, append_assoc, append-nil, length-append, nat_eq}
use Rattle.std.proofs.lemmas.Bool.Decides.{nat_tests}
use Rattle.std.specs.List.{list_all}
use Rattle.std.proofs.lemmas.Bool.{and_parts}
use Rattle.bsdl_lexer.specs.Forms.{IsGap, nothing, blank, comment, last_comment, is_bsdl_blank, begins_comment, begins_gap, line_feed, dash}
use Rattle.bsdl_lexer.specs.inner.Lengths.{gap_len}

abbrev pub stays : ℕ → Bool
stays byte = not (byte == line_feed)

-- `rest` is the rest of a comment, and then a gap in front of `more`. If the comment ends with the text, `rest` is only
-- the rest of the comment, and `more` is empty.
record CommentRest (more rest : List ℕ) : Type 0 where
  words : List ℕ
  tail : List ℕ
  split : rest ≡ words ++ tail
  free : IsTrue (list_all stays words)
  ends : ((tail ≡ []) × (more ≡ [])) ⊎ ((gap : List ℕ) × (tail ≡ line_feed ∷ gap) × IsGap more (line_feed ∷ gap))

abbrev GapOrRest : Bool → List ℕ → List ℕ → Type 0
GapOrRest true more rest = CommentRest more rest
GapOrRest false more rest = IsGap more rest

from_rest : (more rest : List ℕ) → CommentRest more rest → IsGap more (dash ∷ dash ∷ rest)
from_rest more rest h = elim h.ends [
  | inl k ↦ (let same : rest ≡ h.words = h.split ∙ ap (λ xs. h.words ++ xs) k.0 ∙ append-nil h.words in
      subst (λ xs. IsGap more (dash ∷ dash ∷ xs)) (sym same) (last_comment h.words h.free k.1))
  | inr k ↦ (let same : rest ≡ h.words ++ line_feed ∷ k.0 = h.split ∙ ap (λ xs. h.words ++ xs) k.1 in
      subst (λ xs. IsGap more (dash ∷ dash ∷ xs)) (sym same) (comment h.words k.0 h.free k.2))
]

behind_dash : (more rest : List ℕ) → CommentRest more (dash ∷ rest) → CommentRest more rest
behind_dash more rest h = go h.words h.split h.free
  where
    go : (words : List ℕ) → dash ∷ rest ≡ words ++ h.tail → IsTrue (list_all stays words) → CommentRest more rest
    go [] e f = elim h.ends [
      | inl k ↦ (let z : dash ∷ rest ≡ [] = e ∙ k.0 in cc)
      | inr k ↦ (let z : dash ∷ rest ≡ line_feed ∷ k.0 = e ∙ k.1 in absurd (let y : dash ≡ line_feed = cc in omega arith))
    ]
    go (w ∷ words) e f =
        record {
          words = words;
          tail = h.tail;
          split = cc;
          free =
              (and_parts (stays w) (list_all stays words) f).1;
          ends = h.ends;
        }

longer_rest : (first : ℕ) (more rest : List ℕ) → nat_eq first line_feed ≡ false → CommentRest more rest → CommentRest more (first ∷ rest)
longer_rest first more rest n h =
    record {
      words = first
          ∷ h.words;
      tail = h.tail;
      split = ap (λ xs. first ∷ xs) h.split;
      free = rw n h.free;
      ends =
          h.ends;
    }

line_ends : (first : ℕ) (more rest : List ℕ) → first ≡ line_feed → IsGap more rest → CommentRest more (first ∷ rest)
line_ends first more rest e h = record {
  words = [];
  tail = first ∷ rest;
  split = refl;
  free = refl;
  ends = inr (rest, ap (λ b. b ∷ rest) e, blank line_feed rest refl h);
}

front_true : (first : ℕ) (others : List ℕ)
    → ((b : Bool) → GapOrRest b (drop (gap_len b others) others) (take (gap_len b others) others))
    → (b : Bool) → nat_eq first line_feed ≡ b
    → CommentRest (drop (gap_len (cond b false true) others) others) (first ∷ take (gap_len (cond b false true) others) others)
front_true first others each true e = line_ends first _ _ (grind (arith, nat_tests)) (each false)
front_true first others each false e = longer_rest first _ _ e (each true)

comment_front : (first : ℕ) (others : List ℕ) → begins_comment (first ∷ others) ≡ true
    → CommentRest (drop (gap_len true others) others) (take (gap_len true others) others)
    → IsGap (drop (gap_len true others) others) (first ∷ take (gap_len true others) others)
comment_front first [] c h = cc
comment_front first (second ∷ others) c h =
    let dashes : (first ≡ dash) × (second ≡ dash) = both first second c in
    let P : ℕ
    → Type 0 = λ b. IsGap (drop (gap_len true (second ∷ others)) (second ∷ others))
    (b ∷ take (gap_len true (second ∷ others)) (second ∷ others)) in
    subst P (sym dashes.0) (with_dash second others dashes.1 h)
  where
    both : (a b : ℕ) → (nat_eq a dash && nat_eq b dash) ≡ true → (a ≡ dash) × (b ≡ dash)
    both a b e = (grind (arith, nat_tests), grind (arith, nat_tests))

    with_dash : (second : ℕ) (others : List ℕ) → second ≡ dash
        → CommentRest (drop (gap_len true (second ∷ others)) (second ∷ others))
        (take (gap_len true (second ∷ others)) (second ∷ others))
        → IsGap (drop (gap_len true (second ∷ others)) (second ∷ others)) (dash ∷ take (gap_len true (second ∷ others)) (second ∷ others))
    with_dash second others e h =
        let Q : ℕ
        → Type 0 = λ b. CommentRest (drop (gap_len true (b ∷ others)) (b ∷ others))
        (take (gap_len true (b ∷ others)) (b ∷ others))
        → IsGap (drop (gap_len true (b ∷ others)) (b ∷ others))
        (dash ∷ take (gap_len true (b ∷ others)) (b ∷ others)) in
        subst Q (sym e) (λ k. from_rest _ _ (behind_dash _ _ k)) h

front_false : (first : ℕ) (others : List ℕ)
    → ((b : Bool) → GapOrRest b (drop (gap_len b others) others) (take (gap_len b others) others))
    → (a b : Bool) → is_bsdl_blank first ≡ a → begins_comment (first ∷ others) ≡ b
    → IsGap
    (drop (cond a (suc (gap_len false others)) (cond b (suc (gap_len true others)) 0))
    (first ∷ others))
    (take (cond a (suc (gap_len false others)) (cond b (suc (gap_len true others)) 0))
    (first ∷ others))
front_false first others each true b h k = blank first _ h (each false)
front_false first others each false true h k = comment_front first others k (each true)
front_false first others each false false h k = nothing

fronts : (bytes : List ℕ) (b : Bool) → GapOrRest b (drop (gap_len b bytes) bytes) (take (gap_len b bytes) bytes)
fronts [] true = record { words = []; tail = []; split = refl; free = refl; ends = inl (refl, refl) }
fronts [] false = nothing
fronts (first ∷ others) true = front_true first others (fronts others) (nat_eq first line_feed) refl
fronts (first ∷ others) false = front_false first others (fronts others) (is_bsdl_blank first) (begins_comment (first ∷ others)) refl refl

pub gap_front : (bytes : List ℕ) → IsGap (drop (gap_len false bytes) bytes) (take (gap_len false bytes) bytes)
gap_front bytes = fronts bytes false

ends_gap_true : (others : List ℕ)
    → ((b : Bool) → begins_gap (drop (gap_len b others) others) ≡ false) → (b : Bool)
    → begins_gap (drop (gap_len (cond b false true) others) others) ≡ false
ends_gap_true others each true = each false
ends_gap_true others each false = each true

ends_gap_false : (first : ℕ) (others : List ℕ)
    → ((b : Bool) → begins_gap (drop (gap_len b others) others) ≡ false) → (a b : Bool)
    → is_bsdl_blank first ≡ a → begins_comment (first ∷ others) ≡ b
    → begins_gap (drop (cond a (suc (gap_len false others)) (cond b (suc (gap_len true others)) 0)) (first ∷ others)) ≡ false
ends_gap_false first others each true b h k = each false
ends_gap_false first others each false true h k = each true
ends_gap_false first others each false false h k = rw (h, k)

ends_gaps : (bytes : List ℕ) (b : Bool) → begins_gap (drop (gap_len b bytes) bytes) ≡ false
ends_gaps [] true = refl
ends_gaps [] false = refl
ends_gaps (first ∷ others) true = ends_gap_true others (ends_gaps others) (nat_eq first line_feed)
ends_gaps (first ∷ others) false =
    ends_gap_false first others (ends_gaps others) (is_bsdl_blank first)
    (begins_comment (first ∷ others)) refl refl

pub ends_gap : (bytes : List ℕ) → begins_gap (drop (gap_len false bytes) bytes) ≡ false
ends_gap bytes = ends_gaps bytes false

gap_len-le-any : (bytes : List ℕ) (b : Bool) → gap_len b bytes ≤ length bytes
gap_len-le-any [] true = omega arith
gap_len-le-any [] false = omega arith
gap_len-le-any (first ∷ others) true =
    let k : gap_len (cond (nat_eq first line_feed) false true) others
    ≤ length others = gap_len-le-any others (cond (nat_eq first line_feed) false true) in
    omega arith
gap_len-le-any (first ∷ others) false =
    cases (is_bsdl_blank first) (begins_comment (first ∷ others)) (gap_len-le-any others true)
    (gap_len-le-any others false)
  where
    cases : (a b : Bool) → gap_len true others ≤ length others
        → gap_len false others ≤ length others
        → cond a (suc (gap_len false others)) (cond b (suc (gap_len true others)) 0)
        ≤ length (first ∷ others)
    cases true b k l = omega arith
    cases false true k l = omega arith
    cases false false k l = omega arith

pub gap_len-le : (bytes : List ℕ) → gap_len false bytes ≤ length bytes
gap_len-le bytes = gap_len-le-any bytes false

no_gap : (more : List ℕ) → begins_gap more ≡ false → gap_len false more ≡ 0
no_gap [] e = refl
no_gap (first ∷ others) e = cases (is_bsdl_blank first) (begins_comment (first ∷ others)) e
  where
    cases : (a b : Bool) → (a || b) ≡ false → cond a (suc (gap_len false others)) (cond b (suc (gap_len true others)) 0) ≡ 0
    cases true b e = cc
    cases false true e = cc
    cases false false e = refl

through_words : (words tail : List ℕ) → list_all stays words ≡ true → gap_len true (words ++ tail) ≡ length words + gap_len true tail
through_words [] tail h = omega arith
through_words (w ∷ words) tail h = go (nat_eq w line_feed) h (λ k. through_words words tail k)
  where
    go : (b : Bool) → (not b && list_all stays words) ≡ true
        → (list_all stays words ≡ true
        → gap_len true (words ++ tail) ≡ length words + gap_len true tail)
        → suc (gap_len (cond b false true) (words ++ tail)) ≡ length (w ∷ words) + gap_len true tail
    go true h f = cc
    go false h f = let k : gap_len true (words ++ tail) ≡ length words + gap_len true tail = f h in omega arith

pub only_gap : (more gap : List ℕ) → IsGap more gap → begins_gap more ≡ false → gap_len false (gap ++ more) ≡ length gap
only_gap more _ nothing e = no_gap more e
only_gap more _ (blank byte gap h k) e = rw h (ap suc (only_gap more gap k e))
only_gap more _ (comment words gap h k) e =
    let behind : suc (gap_len false (gap ++ more)) ≡ suc (length gap) = only_gap more (line_feed ∷ gap) k e in
    let through : gap_len true (words ++ line_feed ∷ (gap ++ more))
    ≡ length words + suc (gap_len false (gap ++ more)) = through_words words
    (line_feed ∷ (gap ++ more)) h in
    let same : gap_len true ((words ++ line_feed ∷ gap) ++ more)
    ≡ gap_len true (words ++ line_feed ∷ (gap ++ more)) = ap (gap_len true)
    (append_assoc words (line_feed ∷ gap) more) in
    omega (arith, behind, through, same, length-append words (line_feed ∷ gap))
only_gap more _ (last_comment words h is) e =
    let through : gap_len true (words ++ more) ≡ length words + gap_len true more = through_words words more h in
    let none_left : gap_len true more ≡ 0 = ap (gap_len true) is in
    omega (arith, through, none_left)
