use Rattle.std.proofs.Common.{◌≡◌, true, take, drop}
use Rattle.std.specs.List.{list_any}
use Rattle.first_places.specs.Places.{first_repeated, repeated_from}
use Rattle.board_build.specs.declared.marked.MarkedWord.{MarkedWord}
use Rattle.board_build.specs.inner.Marked.{seen_word}
use Rattle.board_build.specs.inner.SeenPins.{are_one, is_known_pin}
use Rattle.board_build.proofs.seen_pins.pins_differ.Given as goal

-- the words visited so far name different pins, and the set of known pins has these pins
abbrev pub invariant-loop-word : goal.invariant-loop-word
invariant-loop-word l = record {
  differ : first_repeated (λ a b. are_one (seen_word a) (seen_word b)) l.words
      ≡ repeated_from (λ a b. are_one (seen_word a) (seen_word b)) (take l.word-index l.words)
      (drop l.word-index l.words);
  known : (m : MarkedWord)
      → list_any (λ s. are_one (seen_word s) (seen_word m)) (take l.word-index l.words) ≡ true
      → is_known_pin l.known.rows.items l.known.unplaced m ≡ true;
}
