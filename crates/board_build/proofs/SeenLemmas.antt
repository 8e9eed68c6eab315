-- The Rust functions that check marked words find the same faults as the rules of the definitions. A
-- marked word is a word of a net file with facts about the pin that it names.
use Rattle.std.proofs.Common.{◌≡◌, ℕ, zero, suc, ◌==◌, Bool, false, cond, ◌&&◌, List, [], ◌∷◌, length, map, get_or, Some, refl, sym, ap, ◌∙◌, Bor}
use Rattle.std.specs.Prelude.{slice_get, find, option_map, is_none}
use Rattle.std.proofs.lemmas.List.{length-map}
use Rattle.first_places.specs.Places.{once, first_repeated}
use Rattle.board_defs.specs.declared.spot.Spot.{Spot}
use Rattle.board_defs.specs.declared.board.Net.{Net}
use Rattle.board_defs.specs.declared.board.RawBoard.{RawBoard}
use Rattle.board_lines.specs.declared.fault.BoardFault.TheVariants.{NoPin, PinTwice, GuardedDriver, TwoAlwaysOn}
use Rattle.board_build.specs.declared.marked.MarkedWord.{MarkedWord}
use Rattle.board_build.specs.BoardRules.{is_kept}
use Rattle.board_build.specs.inner.Marked.{Marked, seen_word, same_pins, marked_spot, marked_net, marked_unknown, marked_twice, marked_guarded, marked_two}
use Rattle.board_lines.proofs.MapLemmas.{find-map, once-map, repeated-map}
use Rattle.board_lines.proofs.DifferLemmas.{same_lent}

-- the pin of a word, and the line and number of the word
abbrev pub by_pin : MarkedWord → (Bor (List ℕ) × Bor (List ℕ)) × Spot
by_pin w = ((w.part, w.pin), w.spot)

pub pins_counted : (words : List MarkedWord) → length (once same_lent (map by_pin words)) ≡ length (once same_pins (map seen_word words))
pins_counted words =
    ap length (sym (once-map by_pin same_lent words)) ∙ length-map (once (λ a b. same_lent (by_pin a) (by_pin b)) words) by_pin
    ∙ sym (length-map (once (λ a b. same_pins (seen_word a) (seen_word b)) words) seen_word)
    ∙ ap length (once-map seen_word same_pins words)

pub twice_seen : (words : List MarkedWord)
    → option_map (λ (p : (Bor (List ℕ) × Bor (List ℕ)) × Spot). PinTwice p.1)
    (first_repeated same_lent (map by_pin words)) ≡ marked_twice (map seen_word words)
unfolding marked_twice
twice_seen words =
    repeated-map by_pin same_lent _ words
    ∙ sym (repeated-map seen_word same_pins (λ (m : Marked). PinTwice (marked_spot m)) words)

pub unknown_seen : (words : List MarkedWord)
    → option_map (λ (w : MarkedWord). NoPin w.spot) (find (λ w. w.described && is_none w.at) words)
    ≡ marked_unknown (map seen_word words)
unfolding marked_unknown
unknown_seen words = sym (find-map seen_word (λ (m : Marked). m.described && is_none m.at) (λ (m : Marked). NoPin (marked_spot m)) words)

find_agree : {A : Type 0} (p q : A → Bool) → ((a : A) → p a ≡ q a) → (xs : List A) → find p xs ≡ find q xs
find_agree p q h [] = refl
find_agree p q h (x ∷ xs) = ap (λ b. cond b (Some x) (find p xs)) (h x) ∙ ap (cond (q x) (Some x)) (find_agree p q h xs)

kept_at : (board : RawBoard) (nets : List Net) (n : ℕ)
    → get_or (map (λ (net : Net). is_kept board (Some net)) nets) n false
    ≡ is_kept board (slice_get nets n)
kept_at board [] n = refl
kept_at board (net ∷ nets) zero = refl
kept_at board (net ∷ nets) (suc n) = kept_at board nets n

pub guarded_seen : (board : RawBoard) (kept : List Bool) (drivers : List MarkedWord)
    → kept ≡ map (λ (net : Net). is_kept board (Some net)) board.nets →
    option_map (λ (w : MarkedWord). GuardedDriver w.spot)
    (find (λ w. get_or kept w.net false) drivers) ≡ marked_guarded board (map seen_word drivers)
unfolding marked_guarded
guarded_seen board kept drivers e =
    ap (option_map (λ (w : MarkedWord). GuardedDriver w.spot))
    (find_agree _ _
    (λ (w : MarkedWord). ap (λ (v : List Bool). get_or v w.net false) e
    ∙ kept_at board board.nets w.net) drivers)
    ∙ sym
    (find-map seen_word (λ (m : Marked). is_kept board (slice_get board.nets (marked_net m)))
    (λ (m : Marked). GuardedDriver (marked_spot m)) drivers)

abbrev pub by_net : MarkedWord → ℕ × Spot
by_net w = (w.net, w.spot)

pub two_seen : (drivers : List MarkedWord)
    → option_map (λ (p : ℕ × Spot). TwoAlwaysOn p.1)
    (first_repeated (λ (a b : ℕ × Spot). a.0 == b.0) (map by_net drivers))
    ≡ marked_two (map seen_word drivers)
unfolding marked_two
two_seen drivers =
    repeated-map by_net (λ (a b : ℕ × Spot). a.0 == b.0) _ drivers
    ∙ sym
    (repeated-map seen_word (λ (a b : Marked). marked_net a == marked_net b)
    (λ (m : Marked). TwoAlwaysOn (marked_spot m)) drivers)
