-- Lemmas about the words of the bits that the compared cells of a net show.
use Rattle.std.proofs.Common.{◌≡◌, ◌⊎◌, inl, inr, ℕ, zero, suc, ◌+◌, ◌-◌, ◌<◌, ◌≤◌, ◌^◌, ◌==◌, ltb, Bool, true, false, not, ◌&&◌, ◌||◌, List, [], get_or, Option, Some, None, refl, sym, ap, ◌∙◌, arith}
use Rattle.std.specs.Prelude.{bit_and, bit_or, option_and_then, slice_get}
use Rattle.std.specs.Int.{bit_at}
use Rattle.std.proofs.Math.Bool.{or-false}
use Rattle.std.proofs.lemmas.Bool.{both_ways, cases_eq, cases_lt, eq-eqb, le-ltb, lt-ltb, ne_eqb}
use Rattle.std.proofs.lemmas.Nat.Bits.{bit_at-lt, bit_at-zero, bit_at_above, same_from_bits}
use Rattle.std.proofs.lemmas.Option.{get_or_from_slice_get}
use Rattle.board_defs.specs.Pins.{is_same}
use Rattle.response_log.specs.LogRows.{log_bit, bit_in}
use Rattle.fault_sim.specs.declared.shown.ShownWords.{ShownWords}
use Rattle.fault_sim.specs.inner.Words.{AgreesWith, word_bit}
use Rattle.fault_sim.proofs.WordLemmas.{and_word, not_word, or_word}

-- the word of the rows in which some cell shows a bit other than the bit of `word`
abbrev pub clashes : ShownWords → ℕ → ℕ
clashes shown word = bit_or (bit_and shown.ones (4294967295 - word)) (bit_and shown.zeros word)

clashes_is : (shown : ShownWords) (word j : ℕ)
    → word_bit (clashes shown word) j
    ≡ ((word_bit shown.ones j && word_bit (4294967295 - word) j)
    || (word_bit shown.zeros j && word_bit word j))
clashes_is shown word j =
    or_word (bit_and shown.ones (4294967295 - word)) (bit_and shown.zeros word) j
    ∙ ap (λ (b : Bool). b || word_bit (bit_and shown.zeros word) j) (and_word shown.ones (4294967295 - word) j)
    ∙ ap (λ (b : Bool). (word_bit shown.ones j && word_bit (4294967295 - word) j) || b) (and_word shown.zeros word j)

clashes_there : (shown : ShownWords) (word j : ℕ) → word < 2 ^ 32 → j < 32
    → word_bit (clashes shown word) j
    ≡ ((word_bit shown.ones j && not (word_bit word j))
    || (word_bit shown.zeros j && word_bit word j))
clashes_there shown word j fits less =
    clashes_is shown word j
    ∙ ap
    (λ (b : Bool). (word_bit shown.ones j && b) || (word_bit shown.zeros j && word_bit word j))
    (not_word word j fits less)

pub agreeing : (shown : ShownWords) (word : ℕ) → word < 2 ^ 32 → clashes shown word ≡ 0 → AgreesWith shown word
agreeing shown word fits none j less =
    by_bits (word_bit shown.ones j) (word_bit shown.zeros j) (word_bit word j)
    (sym (clashes_there shown word j fits less) ∙ ap (λ k. word_bit k j) none
    ∙ ap (λ k. k == 1) (bit_at-zero j))
  where
    by_bits : (one zeroed bit : Bool) → ((one && not bit) || (zeroed && bit)) ≡ false
        → (one ≡ true → bit ≡ true) × (zeroed ≡ true → bit ≡ false)
    by_bits one true true e = absurd (both_ways (one && false || true) e (either one))
      where
        either : (b : Bool) → ((b && false) || true) ≡ true
        either true = refl
        either false = refl
    by_bits one false true e = (λ p. refl, λ p. absurd (both_ways false refl p))
    by_bits true zeroed false e = absurd (both_ways true e refl)
    by_bits false zeroed false e = (λ p. p, λ p. refl)

pub clashes_nowhere : (shown : ShownWords) (word : ℕ) → word < 2 ^ 32 → AgreesWith shown word → clashes shown word ≡ 0
clashes_nowhere shown word fits agrees = same_from_bits (clashes shown word) 0 (λ j. off j (cases_lt j 32) ∙ sym (bit_at-zero j))
  where
    none : (b : ℕ) → b < 2 → (b == 1) ≡ false → b ≡ 0
    none zero p e = refl
    none (suc zero) p e = absurd (both_ways true e refl)
    none (suc (suc b)) p e = absurd (omega (arith, p))

    inside : (one zeroed bit : Bool) → (one ≡ true → bit ≡ true) → (zeroed ≡ true → bit ≡ false)
        → ((one && not bit) || (zeroed && bit)) ≡ false
    inside true true bit p q = absurd (both_ways bit (q refl) (p refl))
    inside true false true p q = refl
    inside true false false p q = sym (p refl)
    inside false true true p q = q refl
    inside false true false p q = refl
    inside false false bit p q = refl

    above : (one zeroed : Bool) → ((one && false) || (zeroed && false)) ≡ false
    above true true = refl
    above true false = refl
    above false true = refl
    above false false = refl

    off : (j : ℕ) → (j < 32) ⊎ (32 ≤ j) → bit_at (clashes shown word) j ≡ 0
    off j (inl less) =
        none (bit_at (clashes shown word) j) (bit_at-lt (clashes shown word) j)
        (clashes_there shown word j fits less
        ∙ inside (word_bit shown.ones j) (word_bit shown.zeros j) (word_bit word j)
        (agrees j less).0 (agrees j less).1)
    off j (inr past) =
        none (bit_at (clashes shown word) j) (bit_at-lt (clashes shown word) j)
        (clashes_is shown word j
        ∙ ap
        (λ k. (word_bit shown.ones j && (k == 1)) || (word_bit shown.zeros j && word_bit word j))
        (bit_at_above (4294967295 - word) 32 j (omega arith) past)
        ∙ ap (λ k. (word_bit shown.ones j && false) || (word_bit shown.zeros j && (k == 1))) (bit_at_above word 32 j fits past)
        ∙ above (word_bit shown.ones j) (word_bit shown.zeros j))

-- adding the bit of row j to the bits of the first j rows gives the bits of the first j + 1 rows
pub row_more : (bits : ℕ → Bool) (i j : ℕ) (bit : Bool) → bits j ≡ bit
    → ((ltb i j && bits i) || ((i == j) && bit)) ≡ (ltb i (j + 1) && bits i)
row_more bits i j bit is = by_place (cases_lt i j) (cases_eq i j)
  where
    by_place : (i < j) ⊎ (j ≤ i) → (i ≡ j) ⊎ (i ≡ j → ⊥) → ((ltb i j && bits i) || ((i == j) && bit)) ≡ (ltb i (j + 1) && bits i)
    by_place (inl less) same =
        ap (λ (b : Bool). (b && bits i) || ((i == j) && bit)) (lt-ltb i j less)
        ∙ ap (λ (b : Bool). bits i || (b && bit)) (ne_eqb i j (λ e. omega (arith, e, less)))
        ∙ or-false (bits i)
        ∙ sym (ap (λ (b : Bool). b && bits i) (lt-ltb i (j + 1) (omega (arith, less))))
    by_place (inr past) (inl e) =
        ap (λ (b : Bool). (b && bits i) || ((i == j) && bit)) (le-ltb i j past)
        ∙ ap (λ (b : Bool). b && bit) (eq-eqb i j e)
        ∙ sym is ∙ ap bits (sym e)
        ∙ sym (ap (λ (b : Bool). b && bits i) (lt-ltb i (j + 1) (omega (arith, e))))
    by_place (inr past) (inr other) =
        ap (λ (b : Bool). (b && bits i) || ((i == j) && bit)) (le-ltb i j past)
        ∙ ap (λ (b : Bool). b && bit) (ne_eqb i j other)
        ∙ sym (ap (λ (b : Bool). b && bits i) (le-ltb i (j + 1) (omega (arith, past, other))))

pub bit_is : (log : List (List Bool)) (row at : ℕ) (bit : Bool) → log_bit log row at ≡ Some bit → bit_in log row at ≡ bit
bit_is log row at bit is = by_row (slice_get log row) refl is
  where
    by_row : (o : Option (List Bool)) → slice_get log row ≡ o
        → option_and_then (λ bits. slice_get bits at) o ≡ Some bit → bit_in log row at ≡ bit
    by_row None e found = let bad : None ≡ Some bit = found in cc bad
    by_row (Some bits) e found =
        ap (λ (l : List Bool). get_or l at false) (get_or_from_slice_get log row bits [] e)
        ∙ get_or_from_slice_get bits at bit false found

-- `within` says whether the pass has the row, `same` says whether the net's only cell reads the driver's pin, and `bit` is the cell's bit
pub one_shown : (within same bit : Bool) → same ≡ false → (within && bit) ≡ (within && ((not same && is_same bit true) || false))
one_shown false same bit p = refl
one_shown true true bit p = absurd (both_ways true p refl)
one_shown true false true p = refl
one_shown true false false p = refl

pub zero_shown : (within same bit : Bool) → same ≡ false
    → (within && not (within && bit)) ≡ (within && ((not same && is_same bit false) || false))
zero_shown false same bit p = refl
zero_shown true true bit p = absurd (both_ways true p refl)
zero_shown true false true p = refl
zero_shown true false false p = refl
