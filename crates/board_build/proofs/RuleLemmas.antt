-- Facts about files in which a rule finds no fault.
use Rattle.std.proofs.Common.{◌≡◌, ◌≢◌, ℕ, ◌+◌, ◌<◌, ◌≤◌, ◌==◌, Bool, true, false, cond, List, [], ◌∷◌, length, get_or, Option, Some, None, refl, sym, ap, subst, ◌∙◌, ◌⊎◌, inl, inr}
use Rattle.std.specs.Prelude.{slice_get, find, sum_by, is_some, position, option_map, option_and_then}
use Rattle.std.specs.List.{AllByRecursion, position_from}
use Rattle.std.specs.Cmp.Lexicographic.{same_text}
use Rattle.std.proofs.lemmas.Iterator.Adapters.{position_from-zero}
use Rattle.std.proofs.lemmas.List.Quantifiers.{position-Some}
use Rattle.std.proofs.lemmas.List.{length-map}
use Rattle.std.proofs.lemmas.Option.{slice_get-get_or}
use Rattle.board_defs.specs.Limits.{most_bits, most_nets, most_pins}
use Rattle.board_defs.proofs.Members.{Has, has_map}
use Rattle.first_places.specs.Places.{once, first_place}
use Rattle.first_places.proofs.OnceLemmas.{unrepeated}
use Rattle.board_files.specs.declared.chain_file.ChainLine.{ChainLine}
use Rattle.board_defs.specs.declared.board.Part.{Part}
use Rattle.board_defs.specs.declared.board.RawBoard.{RawBoard}
use Rattle.board_defs.specs.declared.spot.Spot.{Spot}
use Rattle.board_defs.specs.Pins.{data_length}
use Rattle.board_lines.specs.declared.fault.BoardFault.{BoardFault}
use Rattle.board_lines.specs.declared.fault.BoardFault.TheVariants.{InertInChain}
use Rattle.board_lines.specs.declared.names.Naming.TheVariants.{Part as PartName, Inert}
use Rattle.board_files.specs.Names.{same_word}
use Rattle.board_lines.specs.Names.{Named, named, names_of}
use Rattle.board_lines.specs.NetWords.{NetWord, word_net, word_pin, is_among, have_same_pin}
use Rattle.board_lines.specs.Selection.{spot_at}
use Rattle.board_lines.specs.ChainParts.{pin_places, described_names}
use Rattle.board_lines.specs.LineRules.{first_places_among, inert_in_chain, line_fault}
use Rattle.board_build.specs.BoardRules.{data_limit, net_limit, pin_limit, is_unknown, no_pin, pin_twice, is_kept, guarded_driver, two_always_on, limit_fault, pin_fault, driver_fault}
use Rattle.board_lines.proofs.ApartLemmas.{Apart, unrepeated_apart}
use Rattle.board_build.proofs.PartLemmas.{not_among}
use Rattle.board_lines.proofs.FaultLemmas.{limit_kept, then_none}

pub map_none : {A B : Type 0} (f : A → B) (o : Option A) → option_map f o ≡ None → o ≡ None
map_none f None e = refl
map_none f (Some a) e = cc e

-- the limits that files keep if the rules on limits find no fault
pub record LimitsKept (parts : List Part) (names : List (List ℕ)) (words : List NetWord) : Type 0 where
  pub bits : sum_by (λ part. data_length part.kind) parts ≤ most_bits
  pub nets : length names ≤ most_nets
  pub pins : length (once have_same_pin words) ≤ most_pins

pub limits_kept : (parts : List Part) (names : List (List ℕ)) (words : List NetWord)
    → limit_fault parts names words ≡ None → LimitsKept parts names words
unfolding limit_fault data_limit net_limit pin_limit
limits_kept parts names words e =
    let first = then_none _ _ e in
    let second = then_none _ _ first.1 in
    record {
      bits = limit_kept most_bits (sum_by (λ part. data_length part.kind) parts) _ first.0;
      nets = limit_kept most_nets (length names) _ second.0;
      pins = limit_kept most_pins (length (once have_same_pin words)) _ second.1;
    }

pub record PinsKept (parts : List Part) (words : List NetWord) : Type 0 where
  pub known : find (λ word. is_unknown (described_names parts) (pin_places parts) (word_pin word)) words ≡ None
  pub whole : once have_same_pin words ≡ words
  pub differ : Apart (λ a b. have_same_pin a b ≡ false) words

pub pins_kept : (parts : List Part) (words : List NetWord) → pin_fault parts words ≡ None → PinsKept parts words
unfolding pin_fault no_pin pin_twice
pins_kept parts words e =
    let first = then_none _ _ e in
    let once_ = map_none _ _ first.1 in
    record {
      known = map_none _ _ first.0;
      whole = unrepeated have_same_pin have_same_pin (λ a b h. h) words once_;
      differ = unrepeated_apart have_same_pin words once_;
    }

-- A rule reports the line of the first item that passes its test. If the rule finds no fault, no
-- item passes the test.
no_place : {A : Type 0} (fault : Spot → BoardFault) (list : List Named) (test : A → Bool)
    (xs : List A) → length xs ≡ length list
    → option_map fault (option_and_then (spot_at list) (position test xs)) ≡ None
    → position test xs ≡ None
no_place {A} fault list test xs count e = by_place (position test xs) refl e
  where
    by_place : (o : Option ℕ) → position test xs ≡ o → option_map fault (option_and_then (spot_at list) o) ≡ None → o ≡ None
    by_place None f k = refl
    by_place (Some n) f k = absurd (there (slice_get list n) (stands n f) k)
      where
        there : (s : Option Named) → s ≢ None
            → option_map fault
            (option_map
            (λ (m : Named). let spot : Spot = record { line = m.0; word = 1 } in spot) s) ≡ None → ⊥
        there None wrong h = wrong refl
        there (Some m) wrong h = cc h

        low : (ys : List A) (n : ℕ) → position test ys ≡ Some n → n < length ys
        low [] n f = cc f
        low (y ∷ ys) n f = (position-Some test (y ∷ ys) n y f).0

        stands : (n : ℕ) → position test xs ≡ Some n → slice_get list n ≢ None
        stands n f none =
            let d : Named = (0, []) in
            let within : n < length xs = low xs n f in
            let less : n < length list = subst (λ m. n < m) count within in
            let got : slice_get list n ≡ Some (get_or list n d) = slice_get-get_or list n d less in
            cc (sym got ∙ none)

none_at : {A : Type 0} (test : A → Bool) (n : ℕ) (xs : List A) (x : A) → position_from test n xs ≡ None → Has xs x → test x ≡ false
none_at test n [] x e h = absurd h
none_at {A} test n (y ∷ ys) x e h = by_test (none_at test (n + 1) ys x) (test y) refl e h
  where
    by_test : (position_from test (n + 1) ys ≡ None → Has ys x → test x ≡ false) → (b : Bool)
        → test y ≡ b → cond b (Some n) (position_from test (n + 1) ys) ≡ None → (y ≡ x) ⊎ Has ys x
        → test x ≡ false
    by_test rest true t k p = cc k
    by_test rest false t k (inl same) = sym (ap test same) ∙ t
    by_test rest false t k (inr p) = rest k p

among_has : (names : List (List ℕ)) (x : List ℕ) (n : ℕ) → is_some (position_from (λ k. same_word k x) n names) ≡ true → Has names x
among_has [] x n h = cc h
among_has (name ∷ names) x n h = by_test (among_has names x (n + 1)) (same_word name x) refl h
  where
    by_test : (is_some (position_from (λ k. same_word k x) (n + 1) names) ≡ true → Has names x)
        → (b : Bool) → same_word name x ≡ b
        → is_some (cond b (Some n) (position_from (λ k. same_word k x) (n + 1) names)) ≡ true
        → (name ≡ x) ⊎ Has names x
    by_test rest true e k = inl (same_text name x (sym e))
    by_test rest false e k = inr (rest k)

-- if the rule on INERT lines finds no fault, no part of the chain has a name that an INERT line has
pub not_inert : (inerts : List Named) (parts : List (List ℕ)) → inert_in_chain inerts parts ≡ None
    → (x : List ℕ) → is_among (names_of inerts) x ≡ true → AllByRecursion (λ name. name ≢ x) parts
unfolding inert_in_chain
not_inert inerts parts e x among =
    let count : length (first_places_among inerts parts)
    ≡ length inerts = length-map (names_of inerts) (first_place same_word parts)
    ∙ length-map inerts (λ n. n.1) in
    let none : position is_some (first_places_among inerts parts)
    ≡ None = no_place InertInChain inerts is_some (first_places_among inerts parts) count e in
    let from : position_from is_some 0 (first_places_among inerts parts)
    ≡ None = sym (position_from-zero is_some (first_places_among inerts parts)) ∙ none in
    not_among parts x
    (none_at is_some 0 (first_places_among inerts parts) (first_place same_word parts x) from
    (has_map (first_place same_word parts) (names_of inerts) x
    (among_has (names_of inerts) x 0 among)))

pub inert_kept : (chain : List ChainLine) (names : List (List ℕ)) → line_fault chain names ≡ None
    → inert_in_chain (named Inert chain) (names_of (named PartName chain)) ≡ None
unfolding line_fault
inert_kept chain names e = (then_none _ _ e).0

pub record DriversKept (board : RawBoard) (drivers : List NetWord) : Type 0 where
  pub free : find (λ word. is_kept board (slice_get board.nets (word_net word))) drivers ≡ None
  pub single : Apart (λ a b. (word_net a == word_net b) ≡ false) drivers

pub drivers_kept : (board : RawBoard) (drivers : List NetWord) → driver_fault board drivers ≡ None → DriversKept board drivers
unfolding driver_fault guarded_driver two_always_on
drivers_kept board drivers e =
    let both = then_none _ _ e in
    record {
      free = map_none _ _ both.0;
      single = unrepeated_apart (λ a b. word_net a == word_net b) drivers (map_none _ _ both.1);
    }
