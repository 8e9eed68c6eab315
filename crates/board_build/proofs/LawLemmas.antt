-- If no rule finds a fault, the files denote a board that keeps the rules of a board.
use Rattle.std.proofs.Common.{◌≡◌, ◌≢◌, ℕ, ◌<◌, ◌≤◌, ◌==◌, true, false, List, length, map, Some, None, refl, sym, ap, subst, ◌∙◌, arith, ◌⊎◌, inl, inr}
use Rattle.std.specs.Prelude.{slice_get, find, All, AllPairs}
use Rattle.std.specs.List.{list_any, AllByRecursion, slice_index_or}
use Rattle.std.proofs.lemmas.Bool.{eqb-true, eq-eqb, cases_order, or_parts}
use Rattle.std.proofs.lemmas.List.{length-map, get_or-map}
use Rattle.std.proofs.lemmas.List.Elements.{All-from_recursion}
use Rattle.std.proofs.lemmas.List.Kept.{AllPairs-filter}
use Rattle.std.proofs.lemmas.Option.{slice_get-get_or}
use Rattle.board_defs.specs.Limits.{most_nets}
use Rattle.board_defs.proofs.Members.{Has, has_at, has_filter, find_none}
use Rattle.board_files.specs.declared.chain_file.ChainLine.{ChainLine}
use Rattle.board_files.specs.declared.net_file.NetLine.{NetLine}
use Rattle.board_defs.specs.declared.board.Part.{Part}
use Rattle.board_defs.specs.declared.board.NetPin.{NetPin}
use Rattle.board_defs.specs.declared.board.Net.{Net}
use Rattle.board_defs.specs.declared.board.RawBoard.{RawBoard}
use Rattle.board_defs.specs.declared.board.Drive.TheVariants.{AlwaysOn}
use Rattle.board_defs.specs.Pins.{drive, is_test_pin}
use Rattle.board_defs.specs.BoardRules.{IsBoard, IsPart, IsPlaced, PinsDiffer, AreInertAlike, NoGuardedDriver, OneAlwaysOn}
use Rattle.board_lines.specs.declared.names.Naming.TheVariants.{Part as PartName, Inert}
use Rattle.board_files.specs.Names.{same_word}
use Rattle.board_lines.specs.Names.{named, names_of}
use Rattle.board_lines.specs.NetWords.{NetWord, word_net, word_pin, is_among, net_names, standing_words, have_same_pin}
use Rattle.board_lines.specs.ChainParts.{IsChain, pin_places, described_names}
use Rattle.board_build.specs.BoardNets.{NetMarks, marks_of, net_pin, board_nets, board_with}
use Rattle.board_defs.specs.Decided.{is_always_on}
use Rattle.board_build.specs.BoardRules.{board_fault, drives_always, always_on_words, is_kept, is_unknown}
use Rattle.board_lines.proofs.ApartLemmas.{Apart, each_map, apart_pairs, apart_passing, pairs_at, Passing, passing, once_apart}
use Rattle.first_places.specs.Places.{once}
use Rattle.board_build.proofs.PartLemmas.{placed}
use Rattle.board_build.proofs.NetLemmas.{words_on, PinAtWord, pin_at_word, SameWord, one_word, nets_differ, count_nets, pins_fit}
use Rattle.board_lines.proofs.FaultLemmas.{then_none}
use Rattle.board_build.proofs.RuleLemmas.{LimitsKept, limits_kept, PinsKept, pins_kept, not_inert, inert_kept, DriversKept, drivers_kept}

-- the board with these parts and with nets of these names; `words` has the words that name the
-- nets' pins, and `marks` has the places of pins and the names and values on INERT, SUPPLY and PULL
-- lines
abbrev board_on : List Part → NetMarks → List NetWord → List (List ℕ) → RawBoard
board_on parts marks words names = record { chain = parts; nets = board_nets marks words names }

pins_differ : (parts : List Part) (marks : NetMarks) (words : List NetWord) (names : List (List ℕ))
    → Apart (λ a b. have_same_pin a b ≡ false) words → PinsDiffer (board_on parts marks words names)
pins_differ parts marks words names apart m n i j first second p q at_p at_q same_part same_pins =
    let a : PinAtWord marks words m i p = pin_at_word marks words names m first i p at_p.on_board at_p.in_net in
    let b : PinAtWord marks words n j q = pin_at_word marks words names n second j q at_q.on_board at_q.in_net in
    let part : (word_pin a.word).0
    ≡ (word_pin b.word).0 = sym (ap (λ (v : NetPin). v.part) a.is) ∙ same_part
    ∙ ap (λ (v : NetPin). v.part) b.is in
    let pin : (word_pin a.word).1
    ≡ (word_pin b.word).1 = sym (ap (λ (v : NetPin). v.pin) a.is) ∙ same_pins
    ∙ ap (λ (v : NetPin). v.pin) b.is in
    let r : SameWord m n i j = one_word words apart m n i j a.word b.word a.stands b.stands part pin in
    (r.net, r.place)

-- if `P` holds for the pin made from each word, it holds for each pin of each net
each_pin : (P : NetPin → Type 0) (parts : List Part) (marks : NetMarks) (words : List NetWord)
    (names : List (List ℕ))
    → ((word : NetWord) → Has words word → P (net_pin marks (word_pin word)))
    → All (λ (net : Net). All P net.pins) (board_nets marks words names)
each_pin P parts marks words names h n d within place e inside =
    let net : Net = slice_index_or (board_nets marks words names) n d in
    let at = slice_get-get_or (board_nets marks words names) n d within in
    let pin_at = slice_get-get_or net.pins place e inside in
    let r : PinAtWord marks words n place (slice_index_or net.pins place e) = pin_at_word marks
    words names n net place (slice_index_or net.pins place e) at pin_at in
    let there : Passing (λ word. word_net word == n) words r.word = passing (λ word. word_net word == n) words place r.word r.stands in
    subst P (sym r.is) (h r.word (has_at words there.place r.word there.stands))

all_placed : (parts : List Part) (marks : NetMarks) (words : List NetWord) (names : List (List ℕ))
    → marks.places ≡ pin_places parts
    → find (λ word. is_unknown (described_names parts) (pin_places parts) (word_pin word)) words
    ≡ None →
    All
    (λ (net : Net). All
    (λ (pin : NetPin). IsPlaced (board_on parts marks words names) pin pin.at) net.pins)
    (board_nets marks words names)
all_placed parts marks words names same known =
    each_pin (λ (pin : NetPin). IsPlaced (board_on parts marks words names) pin pin.at) parts marks
    words names
    (λ word h. placed (board_on parts marks words names) marks (word_pin word) same
    (known_at word h))
  where
    known_at : (word : NetWord) → Has words word → is_unknown (described_names parts) marks.places (word_pin word) ≡ false
    known_at word h =
        ap (λ v. is_unknown (described_names parts) v (word_pin word)) same
        ∙ find_none (λ w. is_unknown (described_names parts) (pin_places parts) (word_pin w)) words
        word known h

inert_alike : (parts : List Part) (marks : NetMarks) (words : List NetWord) (names : List (List ℕ))
    → ((x : List ℕ) → is_among marks.inerts x ≡ true → All (λ (part : Part). part.name ≢ x) parts)
    → AreInertAlike (board_on parts marks words names)
inert_alike parts marks words names none = record {
  in_chain =
      each_pin
      (λ (pin : NetPin). pin.inert ≡ true → All (λ (part : Part). part.name ≢ pin.part) parts) parts
      marks words names (λ word h inert. none (word_pin word).0 inert);
  agree = λ m n i j first second p q at_p at_q same.
      let a : PinAtWord marks words m i p = pin_at_word marks words names m first i p at_p.on_board at_p.in_net in
      let b : PinAtWord marks words n j q = pin_at_word marks words names n second j q at_q.on_board at_q.in_net in
      let part : (word_pin a.word).0
      ≡ (word_pin b.word).0 = sym (ap (λ (v : NetPin). v.part) a.is) ∙ same
      ∙ ap (λ (v : NetPin). v.part) b.is in
      ap (λ (v : NetPin). v.inert) a.is ∙ ap (is_among marks.inerts) part ∙ sym (ap (λ (v : NetPin). v.inert) b.is);
}

-- if a pin is an always-on driver and is made from the word `r.word`, `drives_always` returns true
-- for the pin that this word names
drives_at : (parts : List Part) (marks : NetMarks) (words : List NetWord) (names : List (List ℕ))
    (n place : ℕ) (net : Net) (pin : NetPin) → slice_get (board_nets marks words names) n ≡ Some net
    →
    drive (board_on parts marks words names) net pin ≡ Some AlwaysOn → (r : PinAtWord marks words n place pin) →
    drives_always (board_on parts marks words names) marks (word_pin r.word)
    (slice_get (board_nets marks words names) (word_net r.word)) ≡ true
drives_at parts marks words names n place net pin at drives r =
    let board = board_on parts marks words names in
    let there : Passing (λ word. word_net word == n) words r.word = passing (λ word. word_net word == n) words place r.word r.stands in
    let number : word_net r.word ≡ n = eqb-true (word_net r.word) n there.passes in
    let got : slice_get (board_nets marks words names) (word_net r.word)
    ≡ Some net = ap (slice_get (board_nets marks words names)) number ∙ at in
    ap (drives_always board marks (word_pin r.word)) got ∙ ap is_always_on (sym (ap (drive board net) r.is) ∙ drives)

no_guarded : (parts : List Part) (marks : NetMarks) (words : List NetWord) (names : List (List ℕ))
    → find
    (λ word. is_kept (board_on parts marks words names)
    (slice_get (board_nets marks words names) (word_net word)))
    (always_on_words (board_on parts marks words names) marks words) ≡ None →
    NoGuardedDriver (board_on parts marks words names)
no_guarded parts marks words names none n place net pin stands drives =
    let board = board_on parts marks words names in
    let r : PinAtWord marks words n place pin = pin_at_word marks words names n net place pin stands.on_board stands.in_net in
    let there : Passing (λ word. word_net word == n) words r.word = passing (λ word. word_net word == n) words place r.word r.stands in
    let number : word_net r.word ≡ n = eqb-true (word_net r.word) n there.passes in
    let got : slice_get (board_nets marks words names) (word_net r.word)
    ≡ Some net = ap (slice_get (board_nets marks words names)) number ∙ stands.on_board in
    let driver : Has (always_on_words board marks words) r.word = has_filter
    (λ word. drives_always board marks (word_pin word) (slice_get board.nets (word_net word)))
    words r.word (has_at words there.place r.word there.stands)
    (drives_at parts marks words names n place net pin stands.on_board drives r) in
    let kept : is_kept board (slice_get (board_nets marks words names) (word_net r.word))
    ≡ false = find_none (λ word. is_kept board (slice_get board.nets (word_net word)))
    (always_on_words board marks words) r.word none driver in
    or_parts net.supply (list_any (is_test_pin board) net.pins) (sym (ap (is_kept board) got) ∙ kept)

one_always_on : (parts : List Part) (marks : NetMarks) (words : List NetWord)
    (names : List (List ℕ))
    → Apart (λ a b. (word_net a == word_net b) ≡ false)
    (always_on_words (board_on parts marks words names) marks words) →
    OneAlwaysOn (board_on parts marks words names)
one_always_on parts marks words names single n net i j p q at at_p at_q differ drives_p drives_q =
    let a : PinAtWord marks words n i p = pin_at_word marks words names n net i p at at_p in
    let b : PinAtWord marks words n j q = pin_at_word marks words names n net j q at at_q in
    let on_a = drives_at parts marks words names n i net p at drives_p a in
    let on_b = drives_at parts marks words names n j net q at drives_q b in
    let net_a : word_net a.word ≡ n = eqb-true (word_net a.word) n (passing (λ word. word_net word == n) words i a.word a.stands).passes in
    let net_b : word_net b.word ≡ n = eqb-true (word_net b.word) n (passing (λ word. word_net word == n) words j b.word b.stands).passes in
    by_order (cases_order i j) a.word b.word a.stands b.stands on_a on_b net_a net_b
  where
    apart : AllPairs
        (λ a b. drives_always (board_on parts marks words names) marks (word_pin a)
        (slice_get (board_nets marks words names) (word_net a)) ≡ true
        → drives_always (board_on parts marks words names) marks (word_pin b)
        (slice_get (board_nets marks words names) (word_net b)) ≡ true
        → (word_net a == word_net b) ≡ false) (words_on words n)
    apart =
        AllPairs-filter
        (λ (a b : NetWord). drives_always (board_on parts marks words names) marks (word_pin a)
        (slice_get (board_nets marks words names) (word_net a)) ≡ true
        → drives_always (board_on parts marks words names) marks (word_pin b)
        (slice_get (board_nets marks words names) (word_net b)) ≡ true
        → (word_net a == word_net b) ≡ false) (λ word. word_net word == n) words
        (apart_pairs
        (λ (a b : NetWord). drives_always (board_on parts marks words names) marks (word_pin a)
        (slice_get (board_nets marks words names) (word_net a)) ≡ true
        → drives_always (board_on parts marks words names) marks (word_pin b)
        (slice_get (board_nets marks words names) (word_net b)) ≡ true
        → (word_net a == word_net b) ≡ false) words
        (apart_passing
        (λ word. drives_always (board_on parts marks words names) marks (word_pin word)
        (slice_get (board_nets marks words names) (word_net word)))
        (λ a b. (word_net a == word_net b) ≡ false) words single))

    wrong : (x y : NetWord) → word_net x ≡ n → word_net y ≡ n → (word_net x == word_net y) ≡ false → ⊥
    wrong x y e f h = cc (sym (eq-eqb (word_net x) (word_net y) (e ∙ sym f)) ∙ h)

    by_order : (i ≡ j) ⊎ ((i < j) ⊎ (j < i)) → (x y : NetWord)
        → slice_get (words_on words n) i ≡ Some x → slice_get (words_on words n) j ≡ Some y →
        drives_always (board_on parts marks words names) marks (word_pin x)
        (slice_get (board_nets marks words names) (word_net x)) ≡ true
        → drives_always (board_on parts marks words names) marks (word_pin y)
        (slice_get (board_nets marks words names) (word_net y)) ≡ true → word_net x ≡ n
        → word_net y ≡ n → ⊥
    by_order (inl e) x y ex ey on_x on_y net_x net_y = differ e
    by_order (inr (inl less)) x y ex ey on_x on_y net_x net_y =
        wrong x y net_x net_y
        (pairs_at
        (λ (a b : NetWord). drives_always (board_on parts marks words names) marks (word_pin a)
        (slice_get (board_nets marks words names) (word_net a)) ≡ true
        → drives_always (board_on parts marks words names) marks (word_pin b)
        (slice_get (board_nets marks words names) (word_net b)) ≡ true
        → (word_net a == word_net b) ≡ false) (words_on words n) apart i j x y less ex ey on_x
        on_y)
    by_order (inr (inr less)) x y ex ey on_x on_y net_x net_y =
        wrong y x net_y net_x
        (pairs_at
        (λ (a b : NetWord). drives_always (board_on parts marks words names) marks (word_pin a)
        (slice_get (board_nets marks words names) (word_net a)) ≡ true
        → drives_always (board_on parts marks words names) marks (word_pin b)
        (slice_get (board_nets marks words names) (word_net b)) ≡ true
        → (word_net a == word_net b) ≡ false) (words_on words n) apart j i y x less ey ex on_y
        on_x)

part_count : (chain : List ChainLine) (parts : List Part)
    → map (λ part. part.name) parts ≡ names_of (named PartName chain)
    → length parts ≡ length (named PartName chain)
part_count chain parts e = sym (length-map parts (λ part. part.name)) ∙ ap length e ∙ length-map (named PartName chain) (λ n. n.1)

pairs_map : {X Y : Type 0} (f : X → Y) (R : Y → Y → Type 0) (xs : List X) → AllPairs R (map f xs) → AllPairs (λ x y. R (f x) (f y)) xs
pairs_map {X} {Y} f R xs h i j d less within =
    let count : length (map f xs) ≡ length xs = length-map xs f in
    let inside : j < length (map f xs) = omega (arith, count, within) in
    let low : i < length xs = omega (arith, less, within) in
    let P : Y → Type 0 = λ v. R v (slice_index_or (map f xs) j (f d)) in
    let Q : Y → Type 0 = λ v. R (f (slice_index_or xs i d)) v in
    subst Q (get_or-map f xs j d (f d) within) (subst P (get_or-map f xs i d (f d) low) (h i j (f d) less inside))

pub is_board : (chain : List ChainLine) (nets : List NetLine) (parts : List Part) → IsChain chain
    → map (λ part. part.name) parts ≡ names_of (named PartName chain)
    → All (λ part. IsPart part.kind) parts → board_fault chain nets parts ≡ None
    → IsBoard (board_with chain nets parts)
unfolding board_fault
is_board chain nets parts selected names kinds e =
    let first = then_none _ _ e in
    let second = then_none _ _ first.1 in
    let third = then_none _ _ second.1 in
    let words = standing_words nets in
    let limits : LimitsKept parts (net_names nets) words = limits_kept parts (net_names nets) words first.0 in
    let pins : PinsKept parts words = pins_kept parts words second.0 in
    let lines = inert_kept chain (net_names nets) third.0 in
    let drivers : DriversKept (board_with chain nets parts)
    (always_on_words (board_with chain nets parts) (marks_of chain parts) words) = drivers_kept
    (board_with chain nets parts)
    (always_on_words (board_with chain nets parts) (marks_of chain parts) words) third.1 in
    let count : length parts ≡ length (named PartName chain) = part_count chain parts names in
    let P : List (List ℕ) → Type 0 = λ v. AllPairs (λ a b. a ≢ b) v in
    let fit = pins_fit (marks_of chain parts) words (net_names nets) in
    let whole : length (once have_same_pin words) ≡ length words = ap length pins.whole in
    let Q : List (List ℕ) → Type 0 = λ v. (x : List ℕ)
    → is_among (names_of (named Inert chain)) x ≡ true → AllByRecursion (λ name. name ≢ x) v in
    let not_inerts : Q (map (λ (part : Part). part.name) parts) = subst Q (sym names)
    (not_inert (named Inert chain) (names_of (named PartName chain)) lines) in
    record {
      chain_some = omega (arith, count, selected.some);
      chain_most = omega (arith, count, selected.most);
      names_differ = pairs_map (λ (part : Part). part.name) (λ a b. a ≢ b) parts (subst P (sym names) selected.differ);
      parts = kinds;
      data_most = limits.bits;
      nets_most = subst (λ n. n ≤ most_nets) (sym (count_nets (marks_of chain parts) words 0 (net_names nets))) limits.nets;
      nets_differ = nets_differ (marks_of chain parts) words (net_names nets) (once_apart same_word (map (λ line. line.name) nets));
      pins_most = omega (arith, fit, whole, limits.pins);
      pins_differ = pins_differ parts (marks_of chain parts) words (net_names nets) pins.differ;
      placed = all_placed parts (marks_of chain parts) words (net_names nets) refl pins.known;
      inert =
          inert_alike parts (marks_of chain parts) words (net_names nets)
          (λ x among. All-from_recursion _ _
          (each_map (λ (part : Part). part.name) (λ name. name ≢ x) parts (not_inerts x among)));
      no_guarded_driver = no_guarded parts (marks_of chain parts) words (net_names nets) drivers.free;
      one_always_on = one_always_on parts (marks_of chain parts) words (net_names nets) drivers.single;
    }
