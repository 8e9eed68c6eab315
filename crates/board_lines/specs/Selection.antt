-- The rules on the parts of a chain, and the entity of each DEVICE line. A rule gives a fault, or
-- None if nothing breaks the rule.
use Rattle.std.specs.Prelude.{ℕ, List, length, map, nat_eq, nat_lt, slice_get, Option, Some, None, Result, option_map, option_and_then, is_none, unwrap_or, position, if◌then◌else◌}
use Rattle.board_defs.specs.Limits.{most_parts}
use Rattle.first_places.specs.Places.{first_place, first_repeat}
use Rattle.board_files.specs.declared.chain_file.ChainLine.{ChainLine}
use Rattle.bsdl_parser.specs.declared.entity.Entity.{Entity}
use Rattle.board_defs.specs.declared.spot.Spot.{Spot}
use Rattle.board_lines.specs.declared.fault.BoardFault.{BoardFault}
use Rattle.board_lines.specs.declared.fault.BoardFault.TheVariants.{NoChain, PartTwice, NoEntity, EntityTwice, Limit}
use Rattle.board_lines.specs.declared.limit.Limit.TheVariants.{ChainParts}
use Rattle.board_lines.specs.declared.names.Naming.TheVariants.{Part, Entity as EntityName}
use Rattle.board_files.specs.Names.{same_word}
use Rattle.board_lines.specs.Names.{Named, named, names_of}
use Rattle.board_lines.specs.BoardLimits.{limit_number}
use Rattle.board_lines.specs.Faults.{◌then◌, unless}

-- the line of the name at index `place` of the list, as a spot, or None past the end of the list;
-- the word is always 1, since the faults that are made from these spots report only the line
abbrev pub spot_at : List Named → ℕ → Option Spot
spot_at list place = option_map (λ n. record { line = n.0; word = 1 }) (slice_get list place)

-- the fault of a chain without parts, that is, with no DEVICE line and no BYPASS line
unfoldable pub no_chain : List Named → Option BoardFault
no_chain parts = if nat_eq (length parts) 0 then Some NoChain else None

-- the fault of the first part whose name an earlier part has
unfoldable pub part_twice : List Named → Option BoardFault
part_twice parts = option_map PartTwice (option_and_then (spot_at parts) (first_repeat same_word (names_of parts)))

-- the index in `entities` of each DEVICE line's entity, or None if the entity is not there
abbrev pub entity_places : List Named → List (List ℕ) → List (Option ℕ)
entity_places devices entities = map (first_place same_word entities) (names_of devices)

-- the fault of the first DEVICE line whose entity no BSDL text describes
unfoldable pub no_entity : List Named → List (Option ℕ) → Option BoardFault
no_entity devices places = option_map NoEntity (option_and_then (spot_at devices) (position is_none places))

-- the fault of the first BSDL text whose entity an earlier text describes
unfoldable pub entity_twice : List (List ℕ) → Option BoardFault
entity_twice entities = option_map EntityTwice (first_repeat same_word entities)

-- the fault of a chain with more than 255 parts
unfoldable pub chain_limit : List Named → Option BoardFault
chain_limit parts = if nat_lt most_parts (length parts) then Some (Limit (limit_number ChainParts)) else None

-- the first fault of the chain; the rules are checked in the order written here
unfoldable pub first_fault : List Named → List Named → List (Option ℕ) → List (List ℕ) → Option BoardFault
first_fault parts devices places entities =
    no_chain parts then part_twice parts then no_entity devices places then entity_twice entities
    then chain_limit parts

abbrev pub entity_names : List Entity → List (List ℕ)
entity_names entities = map (λ e. e.name) entities

-- the index of each DEVICE line's entity, or the first fault
unfoldable pub answer : List Named → List Named → List (Option ℕ) → List (List ℕ) → Result (List ℕ) BoardFault
answer parts devices places entities = unless (first_fault parts devices places entities) (map (λ place. unwrap_or place 0) places)

-- the index in `entities` of each DEVICE line's entity, or the first fault
abbrev pub selection : List ChainLine → List Entity → Result (List ℕ) BoardFault
selection lines entities =
    answer (named Part lines) (named EntityName lines)
    (entity_places (named EntityName lines) (entity_names entities)) (entity_names entities)
