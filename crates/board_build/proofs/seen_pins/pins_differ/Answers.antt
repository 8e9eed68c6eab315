-- No word names the pin of an earlier word, so all words name different pins.
use Rattle.std.proofs.Common.{◌≡◌, ℕ, ◌+◌, ◌<◌, Bool, true, false, cond, List, length, take, drop, get_or, refl, sym, ◌∙◌, arith}
use Rattle.std.specs.List.{list_any}
use Rattle.std.proofs.lemmas.List.{get_or_default}
use Rattle.first_places.specs.Places.{first_repeated, repeated_from}
use Rattle.first_places.proofs.OnceLemmas.{repeated_new, seen_step}
use Rattle.board_build.specs.declared.marked.MarkedWord.{MarkedWord}
use Rattle.board_build.specs.inner.Marked.{seen_word}
use Rattle.board_build.specs.inner.SeenPins.{are_one, is_known_pin}
use Rattle.board_build.proofs.PlaceLemmas.{differ_seen}
use Rattle.board_build.proofs.seen_pins.pins_differ.Goals as goal

unknown : (among known : Bool) → (among ≡ true → known ≡ true) → known ≡ false → among ≡ false
unknown true known is e = sym (is refl) ∙ e
unknown false known is e = refl

either : (now same among : Bool) → (same ≡ true → now ≡ true) → (among ≡ true → now ≡ true) → cond same true among ≡ true → now ≡ true
either now true among here before e = here refl
either now false among here before e = before e

-- one step of the loop: no earlier word names the pin of word `i`; the set of known pins then gains
-- this pin and loses none
pins_more : (words : List MarkedWord) (i : ℕ) (x : MarkedWord) (old now : MarkedWord → Bool) → i < length words → get_or words i x ≡ x →
    old x ≡ false → ((m : MarkedWord) → are_one (seen_word x) (seen_word m) ≡ true → now m ≡ true)
    → ((m : MarkedWord) → old m ≡ true → now m ≡ true) →
    first_repeated (λ a b. are_one (seen_word a) (seen_word b)) words
    ≡ repeated_from (λ a b. are_one (seen_word a) (seen_word b)) (take i words) (drop i words) →
    ((m : MarkedWord) → list_any (λ s. are_one (seen_word s) (seen_word m)) (take i words) ≡ true → old m ≡ true) →
    (first_repeated (λ a b. are_one (seen_word a) (seen_word b)) words
    ≡ repeated_from (λ a b. are_one (seen_word a) (seen_word b)) (take (i + 1) words)
    (drop (i + 1) words))
    × ((m : MarkedWord) → list_any (λ s. are_one (seen_word s) (seen_word m)) (take (i + 1) words) ≡ true → now m ≡ true)
pins_more words i x old now within read fresh added kept differ known = (
  repeated_new (λ a b. are_one (seen_word a) (seen_word b)) words i x
      (first_repeated (λ a b. are_one (seen_word a) (seen_word b)) words) within read
      (unknown (list_any (λ s. are_one (seen_word s) (seen_word x)) (take i words)) (old x)
      (known x) fresh) differ,
  λ m among. either (now m) (are_one (seen_word x) (seen_word m))
      (list_any (λ s. are_one (seen_word s) (seen_word m)) (take i words)) (added m)
      (λ e. kept m (known m e))
      (seen_step (λ s. are_one (seen_word s) (seen_word m)) words i x
      (cond (are_one (seen_word x) (seen_word m)) true
      (list_any (λ s. are_one (seen_word s) (seen_word m)) (take i words)))
      (list_any (λ s. are_one (seen_word s) (seen_word m)) (take i words)) within read refl
      refl ∙ among),
)

-- like `pins_more`, but for any default of the look-up
pins_at : (words : List MarkedWord) (i : ℕ) (d : MarkedWord) (old now : MarkedWord → Bool) → i < length words →
    old (get_or words i d) ≡ false
    → ((m : MarkedWord) → are_one (seen_word (get_or words i d)) (seen_word m) ≡ true
    → now m ≡ true) → ((m : MarkedWord) → old m ≡ true → now m ≡ true) →
    first_repeated (λ a b. are_one (seen_word a) (seen_word b)) words
    ≡ repeated_from (λ a b. are_one (seen_word a) (seen_word b)) (take i words) (drop i words) →
    ((m : MarkedWord) → list_any (λ s. are_one (seen_word s) (seen_word m)) (take i words) ≡ true → old m ≡ true) →
    (first_repeated (λ a b. are_one (seen_word a) (seen_word b)) words
    ≡ repeated_from (λ a b. are_one (seen_word a) (seen_word b)) (take (i + 1) words)
    (drop (i + 1) words))
    × ((m : MarkedWord) → list_any (λ s. are_one (seen_word s) (seen_word m)) (take (i + 1) words) ≡ true → now m ≡ true)
pins_at words i d old now within = pins_more words i (get_or words i d) old now within (get_or_default words i (get_or words i d) d within)

pub loop-word-preserved : goal.loop-word-preserved
loop-word-preserved c =
    let more = pins_at c.args.words.now c.loop-word.word-index _
    (λ m. is_known_pin c.loop-word.known.rows.items c.loop-word.known.unplaced m)
    (λ m. is_known_pin c.is_new.new.self.rows.items c.is_new.new.self.unplaced m)
    c.loop-word-test.true (c.in_ok-is_new.ensures.fresh c.if-not-branch.false)
    (c.in_ok-is_new.ensures.added c.if-not-branch.false) c.in_ok-is_new.ensures.kept
    c.loop-word.invariant.differ c.loop-word.invariant.known in
    record { differ = more.0; known = more.1 }

pub returns : goal.returns
returns c = λ _. differ_seen c.args.words.now c.loop-word.word-index (omega (arith, c.loop-word-test.false)) c.loop-word.invariant.differ
