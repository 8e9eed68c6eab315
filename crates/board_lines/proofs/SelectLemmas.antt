-- The selection of a chain finds the entity of each DEVICE line. If it finds no fault, the chain
-- has 1 to 255 parts with different names.
use Rattle.std.proofs.Common.{◌≡◌, ℕ, suc, ◌+◌, ◌<◌, ◌≤◌, Bool, true, false, cond, List, [], ◌∷◌, ◌++◌, length, map, get_or, Option, Some, None, Result, Ok, Err, refl, sym, ap, ◌∙◌, arith}
use Rattle.std.specs.Prelude.{slice_get, option_map, option_and_then, unwrap_or, IfOk}
use Rattle.std.specs.List.{list_any}
use Rattle.std.specs.Cmp.Lexicographic.{other_text}
use Rattle.std.proofs.lemmas.List.{length-map}
use Rattle.std.proofs.lemmas.Option.{slice_get-get_or}
use Rattle.board_defs.specs.Limits.{most_parts}
use Rattle.first_places.specs.Places.{first_place, repeat_from, first_repeat, repeated_from}
use Rattle.board_files.specs.declared.chain_file.ChainLine.{ChainLine}
use Rattle.bsdl_parser.specs.declared.entity.Entity.{Entity}
use Rattle.board_defs.specs.declared.spot.Spot.{Spot}
use Rattle.board_lines.specs.declared.fault.BoardFault.{BoardFault}
use Rattle.board_lines.specs.declared.fault.BoardFault.TheVariants.{PartTwice}
use Rattle.board_lines.specs.declared.names.Naming.TheVariants.{Part as PartName, Entity as EntityName}
use Rattle.answers.specs.Gives.{Gives}
use Rattle.board_lines.specs.Faults.{unless, board_told}
use Rattle.board_files.specs.Names.{same_word}
use Rattle.board_lines.specs.Names.{Named, named, names_of}
use Rattle.board_lines.specs.Selection.{spot_at, no_chain, part_twice, chain_limit, first_fault, entity_names, entity_places, answer, selection}
use Rattle.board_lines.specs.ChainParts.{IsChain}
use Rattle.board_lines.proofs.ApartLemmas.{apart_pairs, apart_weaker, unrepeated_apart}
use Rattle.board_lines.proofs.FaultLemmas.{then_none, limit_kept}

-- `k` is below `n + count`: it is not past the last of `count` items that are numbered from `n` on
pub record Repeat (n count k : ℕ) : Type 0 where
  pub below : k < n + count

repeat_within : {K : Type 0} (eq : K → K → Bool) (seen : List K) (n : ℕ) (keys : List K) (k : ℕ)
    → repeat_from eq seen n keys ≡ Some k → Repeat n (length keys) k
repeat_within eq seen n [] k e = cc e
repeat_within {K} eq seen n (x ∷ keys) k e = by_test (repeat_within eq (seen ++ x ∷ []) (n + 1) keys k) (list_any (λ s. eq s x) seen) e
  where
    by_test :
        (repeat_from eq (seen ++ x ∷ []) (n + 1) keys ≡ Some k → Repeat (n + 1) (length keys) k)
        → (b : Bool) → cond b (Some n) (repeat_from eq (seen ++ x ∷ []) (n + 1) keys) ≡ Some k
        → Repeat n (suc (length keys)) k
    by_test rest true f = let same : n ≡ k = cc f in record { below = omega (arith, same) }
    by_test rest false f = let r : Repeat (n + 1) (length keys) k = rest f in record { below = omega (arith, r.below) }

no_repeat : {K : Type 0} (eq : K → K → Bool) (seen : List K) (n : ℕ) (keys : List K)
    → repeat_from eq seen n keys ≡ None → repeated_from eq seen keys ≡ None
no_repeat eq seen n [] e = refl
no_repeat {K} eq seen n (x ∷ keys) e = by_test (no_repeat eq (seen ++ x ∷ []) (n + 1) keys) (list_any (λ s. eq s x) seen) e
  where
    by_test :
        (repeat_from eq (seen ++ x ∷ []) (n + 1) keys ≡ None
        → repeated_from eq (seen ++ x ∷ []) keys ≡ None) → (b : Bool)
        → cond b (Some n) (repeat_from eq (seen ++ x ∷ []) (n + 1) keys) ≡ None
        → cond b (Some x) (repeated_from eq (seen ++ x ∷ []) keys) ≡ None
    by_test rest true f = cc f
    by_test rest false f = rest f

there : (s : Option Named)
    → option_map PartTwice
    (option_map (λ (m : Named). let spot : Spot = record { line = m.0; word = 1 } in spot) s)
    ≡ None → s ≡ None
there None e = refl
there (Some m) e = cc e

parts_differ : (parts : List Named) → part_twice parts ≡ None → first_repeat same_word (names_of parts) ≡ None
unfolding part_twice
parts_differ parts e = by_place (first_repeat same_word (names_of parts)) refl e
  where
    by_place : (o : Option ℕ) → first_repeat same_word (names_of parts) ≡ o
        → option_map PartTwice (option_and_then (spot_at parts) o) ≡ None → o ≡ None
    by_place None f k = refl
    by_place (Some n) f k =
        let r : Repeat 0 (length (names_of parts)) n = repeat_within same_word [] 0 (names_of parts) n f in
        let count : length (names_of parts) ≡ length parts = length-map parts (λ m. m.1) in
        let within : n < length parts = omega (arith, r.below, count) in
        let d : Named = (0, []) in
        let got : slice_get parts n ≡ Some (get_or parts n d) = slice_get-get_or parts n d within in
        let none : slice_get parts n ≡ None = there (slice_get parts n) k in
        cc (sym got ∙ none)

some_parts : (parts : List Named) → no_chain parts ≡ None → 1 ≤ length parts
unfolding no_chain
some_parts [] e = cc e
some_parts (p ∷ parts) e = omega arith

few_parts : (parts : List Named) → chain_limit parts ≡ None → length parts ≤ most_parts
unfolding chain_limit
few_parts parts e = limit_kept most_parts (length parts) _ e

unless_ok : {V : Type 0} (o : Option BoardFault) (v w : V) → unless o v ≡ Ok w → (o ≡ None) × (v ≡ w)
unless_ok None v w e = (refl, cc e)
unless_ok (Some f) v w e = cc e

chain_kept : (lines : List ChainLine) (devices : List Named) (places : List (Option ℕ))
    (entities : List (List ℕ)) → first_fault (named PartName lines) devices places entities ≡ None
    → IsChain lines
unfolding first_fault
chain_kept lines devices places entities e =
    let first = then_none _ _ e in
    let second = then_none _ _ first.1 in
    let third = then_none _ _ second.1 in
    let fourth = then_none _ _ third.1 in
    let once_ = no_repeat same_word [] 0 (names_of (named PartName lines)) (parts_differ (named PartName lines) second.0) in
    record {
      some = some_parts (named PartName lines) first.0;
      most = few_parts (named PartName lines) fourth.1;
      differ =
          apart_pairs _ _
          (apart_weaker _ _ (λ a b h. other_text a b (sym h)) (names_of (named PartName lines))
          (unrepeated_apart same_word (names_of (named PartName lines)) once_));
    }

pub selected_chain : {U : Type 0} (view : U → List ℕ) (lines : List ChainLine)
    (entities : List Entity) (r : Result U BoardFault)
    → Gives board_told view (λ said. selection lines entities ≡ said) r
    → IfOk r (λ v. IsChain lines × (length (view v) ≡ length (named EntityName lines)))
unfolding answer
selected_chain view lines entities (Err e) g = tt
selected_chain view lines entities (Ok v) g =
    let devices = named EntityName lines in
    let places = entity_places devices (entity_names entities) in
    let ok = unless_ok (first_fault (named PartName lines) devices places (entity_names entities))
    (map (λ (place : Option ℕ). unwrap_or place 0) places) (view v) g in
    let count : length (view v)
    ≡ length devices = sym (ap length ok.1)
    ∙ length-map places (λ (place : Option ℕ). unwrap_or place 0)
    ∙ length-map (names_of devices) (first_place same_word (entity_names entities))
    ∙ length-map devices (λ n. n.1) in
    (chain_kept lines devices places (entity_names entities) ok.0, count)
