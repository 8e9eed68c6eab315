-- Lemmas about words of 64 bits that say which numbers satisfy a predicate.
use Rattle.std.proofs.Common.{◌≡◌, ◌≢◌, ◌⊎◌, inl, inr, ℕ, zero, suc, ◌+◌, ◌*◌, ◌/◌, ◌%◌, ◌<◌, Bool, true, false, ◌||◌, List, length, set, replicate, refl, sym, ◌∙◌, ap, arith, cond, max}
use Rattle.std.specs.Prelude.{slice_index}
use Rattle.std.specs.Int.{bit_at}
use Rattle.std.specs.Int.Bits.{bit_or}
use Rattle.std.proofs.lemmas.Bool.{cases_eq}
use Rattle.std.proofs.lemmas.Nat.Bits.{bit_at-zero, bit_at_or}
use Rattle.std.proofs.lemmas.List.{get_or-set_other, get_or-set_same}
use Rattle.net_classes.specs.NetRows.{AreRowBits}
use Rattle.net_classes.specs.Pairs.{AreWordBits}

pub no_word : (w : ℕ) → AreWordBits (λ n. false) w 0
no_word w i less = bit_at-zero i

pub same_word : (p q : ℕ → Bool) → ((n : ℕ) → p n ≡ q n) → (w word : ℕ) → AreWordBits p w word → AreWordBits q w word
same_word p q same w word are i less = are i less ∙ ap (λ t. cond t 1 0) (same (64 * w + i))

pub either_word : (p q : ℕ → Bool) (w x y : ℕ) → AreWordBits p w x → AreWordBits q w y → AreWordBits (λ n. p n || q n) w (bit_or x y)
either_word p q w x y first second i less =
    bit_at_or x y i ∙ ap (λ k. max k (bit_at y i)) (first i less)
    ∙ ap (max (cond (p (64 * w + i)) 1 0)) (second i less)
    ∙ by_bits (p (64 * w + i)) (q (64 * w + i))
  where
    by_bits : (s t : Bool) → max (cond s 1 0) (cond t 1 0) ≡ cond (s || t) 1 0
    by_bits true true = refl
    by_bits true false = refl
    by_bits false true = refl
    by_bits false false = refl

pub same_row : (p q : ℕ → Bool) → ((n : ℕ) → p n ≡ q n) → (row : List ℕ) → AreRowBits p row → AreRowBits q row
same_row p q same row are w = same_word p q same w (slice_index row w) (are w)

no_words : (count w : ℕ) → slice_index (replicate count 0) w ≡ 0
no_words zero w = refl
no_words (suc count) zero = refl
no_words (suc count) (suc w) = no_words count w

pub blank_bits : (count : ℕ) → AreRowBits (λ n. false) (replicate count 0)
blank_bits count w i less = ap (λ word. bit_at word i) (no_words count w) ∙ bit_at-zero i

pub row_put : (before after : ℕ → Bool) (row : List ℕ) (n word : ℕ) → AreRowBits before row
    → n / 64 < length row → bit_at word (n % 64) ≡ cond (after n) 1 0
    → ((i : ℕ) → i < 64 → i ≢ n % 64 → bit_at word i ≡ bit_at (slice_index row (n / 64)) i)
    → ((k : ℕ) → k ≢ n → after k ≡ before k) → AreRowBits after (set row (n / 64) word)
row_put before after row n word are within here others same w i less = by_word (cases_eq w (n / 64))
  where
    unlike : 64 * w + i ≢ n → ◌≡◌ {A = ℕ} (cond (before (64 * w + i)) 1 0) (cond (after (64 * w + i)) 1 0)
    unlike other = ap (λ t. cond t 1 0) (sym (same (64 * w + i) other))

    by_bit : w ≡ n / 64 → (i ≡ n % 64) ⊎ (i ≡ n % 64 → ⊥) → bit_at word i ≡ cond (after (64 * w + i)) 1 0
    by_bit e (inl f) = ap (bit_at word) f ∙ here ∙ ap (λ k. cond (after k) 1 0) (let whole : n ≡ 64 * w + i = omega (arith, e, f) in whole)
    by_bit e (inr f) =
        others i less f ∙ ap (λ k. bit_at (slice_index row k) i) (sym e) ∙ are w i less
        ∙ unlike (λ g. f (omega (arith, e, g)))

    by_word : (w ≡ n / 64) ⊎ (w ≡ n / 64 → ⊥) → bit_at (slice_index (set row (n / 64) word) w) i ≡ cond (after (64 * w + i)) 1 0
    by_word (inl e) =
        ap (λ v. bit_at v i)
        (ap (slice_index (set row (n / 64) word)) e ∙ get_or-set_same row (n / 64) word 0 within)
        ∙ by_bit e (cases_eq i (n % 64))
    by_word (inr e) =
        ap (λ v. bit_at v i) (get_or-set_other row (n / 64) w word 0 e) ∙ are w i less
        ∙ unlike (λ g. e (omega (arith, g, less)))
