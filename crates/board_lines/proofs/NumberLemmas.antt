-- The selection of a chain finds the entity of each DEVICE line. Each number that it returns is the
-- index of an entity.
use Rattle.std.proofs.Common.{◌≡◌, ℕ, ◌+◌, ◌<◌, Bool, true, false, cond, List, [], ◌∷◌, length, map, Option, Some, None, Result, Ok, Err, Vec, Global, refl, ap, sym, ◌∙◌, subst, arith, inl, inr}
use Rattle.std.specs.Prelude.{IfOk, option_map, option_and_then, position, is_none, unwrap_or}
use Rattle.std.specs.List.{All, AllByRecursion, position_from}
use Rattle.std.proofs.lemmas.Option.{slice_get_cases}
use Rattle.std.proofs.lemmas.Iterator.Adapters.{position_from-zero}
use Rattle.std.proofs.lemmas.List.{length-map}
use Rattle.std.proofs.lemmas.List.Elements.{All-from_recursion}
use Rattle.first_places.specs.Places.{first_place}
use Rattle.board_files.specs.declared.chain_file.ChainLine.{ChainLine}
use Rattle.bsdl_parser.specs.declared.entity.Entity.{Entity}
use Rattle.board_defs.specs.declared.spot.Spot.{Spot}
use Rattle.board_lines.specs.declared.fault.BoardFault.{BoardFault}
use Rattle.board_lines.specs.declared.fault.BoardFault.TheVariants.{NoEntity}
use Rattle.board_lines.specs.declared.names.Naming.TheVariants.{Part, Entity as EntityName}
use Rattle.answers.specs.Gives.{Gives}
use Rattle.board_lines.specs.Faults.{◌then◌, unless, board_told}
use Rattle.board_files.specs.Names.{same_word}
use Rattle.board_lines.specs.Names.{Named, named, names_of}
use Rattle.board_lines.specs.Selection.{spot_at, selection, answer, first_fault, no_chain, part_twice, no_entity, entity_twice, chain_limit, entity_places, entity_names}

unless_none : {V : Type 0} (f : Option BoardFault) (v w : V) → unless f v ≡ Ok w → f ≡ None
unless_none None v w e = refl
unless_none (Some fault) v w e = absurd cc

unless_value : {V : Type 0} (f : Option BoardFault) (v w : V) → unless f v ≡ Ok w → v ≡ w
unless_value None v w e = cc
unless_value (Some fault) v w e = absurd cc

then_first : (a b : Option BoardFault) → (a then b) ≡ None → a ≡ None
then_first None b e = refl
then_first (Some fault) b e = absurd cc

then_second : (a b : Option BoardFault) → (a then b) ≡ None → b ≡ None
then_second None b e = e
then_second (Some fault) b e = absurd cc

spot_there : (list : List Named) (place : ℕ) → place < length list → (spot : Spot) × (spot_at list place ≡ Some spot)
spot_there list place within =
    elim (slice_get_cases list place).1 [
      | inl (named, _, there, _) ↦ (record { line = named.0; word = 1 }, ap (option_map (λ n. record { line = n.0; word = 1 })) there)
      | inr (past, _) ↦ absurd (omega (arith, past, within))
    ]

-- A rule reports the line of the name at index `place`, unless `place` is None. If the rule reports
-- no fault, `place` is None.
found_none : (fault : Spot → BoardFault) (list : List Named) (place : Option ℕ)
    → ((k : ℕ) → place ≡ Some k → k < length list)
    → option_map fault (option_and_then (spot_at list) place) ≡ None → place ≡ None
found_none fault list None within e = refl
found_none fault list (Some k) within e =
    let there = spot_there list k (within k refl) in
    let clash : ◌≡◌ {A = Option BoardFault} (Some (fault there.0)) None = sym (ap (option_map fault) there.1) ∙ e in
    absurd cc

within_more : {X : Type 0} (n k : ℕ) (x : X) (xs : List X) (rest : Option ℕ)
    → (rest ≡ Some k → k < (n + 1) + length xs) → (b : Bool) → cond b (Some n) rest ≡ Some k
    → k < n + length (x ∷ xs)
within_more n k x xs rest more true found =
    let same : n ≡ k = cc in
    omega (arith, same)
within_more n k x xs rest more false found = omega (arith, more found)

place_within : (n : ℕ) (entities : List (List ℕ)) (name : List ℕ) (k : ℕ)
    → position_from (λ e. same_word e name) n entities ≡ Some k → k < n + length entities
place_within n [] name k e = absurd cc
place_within n (entity ∷ entities) name k e =
    within_more n k entity entities _ (place_within (n + 1) entities name k) (same_word entity name)
    e

unwrapped_within : (entities : List (List ℕ)) (name : List ℕ) (place : Option ℕ)
    → first_place same_word entities name ≡ place → is_none place ≡ false
    → unwrap_or place 0 < length entities
unwrapped_within entities name None is e = absurd cc
unwrapped_within entities name (Some k) is e = omega (arith, place_within 0 entities name k is)

-- no item of the list is None
abbrev none_missing : List (Option ℕ) → Type 0
none_missing places = AllByRecursion (λ place. is_none place ≡ false) places

no_position : (n : ℕ) (places : List (Option ℕ)) → position_from is_none n places ≡ None → none_missing places
no_position n [] e = tt
no_position n (Some k ∷ places) e = (refl, no_position (n + 1) places e)
no_position n (None ∷ places) e = absurd cc

position_within : (n : ℕ) (places : List (Option ℕ)) (k : ℕ) → position_from is_none n places ≡ Some k → k < n + length places
position_within n [] k e = absurd cc
position_within n (None ∷ places) k e =
    let same : n ≡ k = cc in
    omega (arith, same)
position_within n (Some p ∷ places) k e = omega (arith, position_within (n + 1) places k e)

numbers_within : (entities : List (List ℕ)) (names : List (List ℕ))
    → none_missing (map (first_place same_word entities) names)
    → AllByRecursion (λ number. number < length entities)
    (map (λ place. unwrap_or place 0) (map (first_place same_word entities) names))
numbers_within entities [] all = tt
numbers_within entities (name ∷ names) all = (
  unwrapped_within entities name (first_place same_word entities name) refl all.0,
  numbers_within entities names all.1,
)

pub numbers_of_entities : (lines : List ChainLine) (entities : List Entity) (numbers : List ℕ)
    → selection lines entities ≡ Ok numbers → All (λ number. number < length entities) numbers
unfolding answer first_fault no_entity
numbers_of_entities lines entities numbers e =
    let parts : List Named = named Part lines in
    let devices : List Named = named EntityName lines in
    let texts : List (List ℕ) = entity_names entities in
    let places : List (Option ℕ) = entity_places devices texts in
    let twice : Option BoardFault = entity_twice texts then chain_limit parts in
    let entity : Option BoardFault = no_entity devices places then twice in
    let part : Option BoardFault = part_twice parts then entity in
    let none = unless_none (no_chain parts then part) _ _ e in
    let after_part = then_second (part_twice parts) entity (then_second (no_chain parts) part none) in
    let value : map (λ place. unwrap_or place 0) places ≡ numbers = unless_value (no_chain parts then part) _ _ e in
    let place_count : length places ≡ length devices = rw (length-map, length-map) refl in
    let missing = found_none NoEntity devices (position is_none places)
    (λ k found. omega (
      arith,
      place_count,
      position_within 0 places k (sym (position_from-zero is_none places) ∙ found),
    ))
    (then_first (no_entity devices places) twice after_part) in
    let entity_count : length texts ≡ length entities = rw length-map refl in
    subst (λ ns. All (λ number. number < length entities) ns) value
    (subst (λ n. All (λ number. number < n) (map (λ place. unwrap_or place 0) places)) entity_count
    (All-from_recursion (λ number. number < length texts) _
    (numbers_within texts (names_of devices)
    (no_position 0 places (sym (position_from-zero is_none places) ∙ missing)))))

pub if_selected : (lines : List ChainLine) (entities : List Entity)
    (answer : Result (Vec ℕ Global) BoardFault)
    → Gives board_told (λ numbers. numbers.items) (λ said. selection lines entities ≡ said) answer
    → IfOk answer (λ numbers. All (λ number. number < length entities) numbers.items)
if_selected lines entities (Ok numbers) is = numbers_of_entities lines entities numbers.items is
if_selected lines entities (Err fault) is = tt
