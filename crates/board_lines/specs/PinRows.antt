-- Pin rows. A pin row lists the pin of each port bit of a part. A port bit is one bit of a port.
-- Parts with the same pins can share a row.
use Rattle.std.specs.Prelude.{◌≡◌, ◌≢◌, ℕ, Bool, false, List, [], map, Option, Some, None, option_and_then, option_map, slice_get, AllPairs}
use Rattle.std.specs.List.{position_from}
use Rattle.std.proofs.Common.{Bor}
use Rattle.indexmap.specs.IndexMap.{IndexMap, get_by}
use Rattle.first_places.specs.Places.{first_place}
use Rattle.board_defs.specs.declared.device.PortBit.{PortBit}
use Rattle.board_defs.specs.declared.board.PartKind.{PartKind}
use Rattle.board_defs.specs.declared.board.PartKind.TheVariants.{Described, Bypass}
use Rattle.board_defs.specs.declared.board.Part.{Part}
use Rattle.board_defs.specs.declared.board.PinAt.{PinAt}
use Rattle.board_files.specs.Names.{same_word}

-- there is a pin, and it has this name
abbrev pub has_pin_named : List ℕ → Option (List ℕ) → Bool
has_pin_named name None = false
has_pin_named name (Some pin) = same_word pin name

-- the number of the first port bit whose pin has this name, or None if there is none; `pins` has
-- the pin of each port bit
abbrev pub bit_of_pin : List (Option (List ℕ)) → List ℕ → Option ℕ
bit_of_pin pins name = position_from (has_pin_named name) 0 pins

-- the pin of each port bit, or None for a port bit without a pin
abbrev pub pins_of_bits : List PortBit → List (Option (List ℕ))
pins_of_bits bits = map (λ bit. bit.pin) bits

-- the pin of each port bit of a part; a part in BYPASS has no port bits
abbrev pub pins_of_part : PartKind → List (Option (List ℕ))
pins_of_part (Described device) = pins_of_bits device.bits
pins_of_part (Bypass bits) = []

-- the row of part `part`; `numbers` has the number of each part's row
abbrev pub row_at : List (List (Option (List ℕ))) → List ℕ → ℕ → Option (List (Option (List ℕ)))
row_at rows numbers part = option_and_then (λ number. slice_get rows number) (slice_get numbers part)

-- the row of each part has the pins of the part
abbrev pub ArePinRows : List (List (Option (List ℕ))) → List ℕ → List Part → Type 0
ArePinRows rows numbers parts = map (λ number. slice_get rows number) numbers ≡ map (λ part. Some (pins_of_part part.kind)) parts

-- the place of this pin of part `part`: the number of the part, and the number of the part's first
-- port bit with the pin; None if there is no such part or if none of its port bits has the pin
abbrev pub place_by_part : List (List (Option (List ℕ))) → List ℕ → Option ℕ → List ℕ → Option PinAt
place_by_part rows numbers None pin = None
place_by_part rows numbers (Some part) pin =
    option_map (λ bit. record { part = part; bit = bit })
    (option_and_then (λ row. bit_of_pin row pin) (row_at rows numbers part))

-- no two parts have the same name; the map gives the number of each part by its name; the row of
-- each part has the part's pins
pub record ArePlaces {S : Type 0} (by_name : IndexMap (Bor (List ℕ)) ℕ S)
    (rows : List (List (Option (List ℕ)))) (numbers : List ℕ) (parts : List Part) : Type 0 where
  pub named : (q : Bor (List ℕ)) → get_by (λ n. same_word q.now n.now) by_name ≡ first_place same_word (map (λ part. part.name) parts) q.now
  pub pinned : ArePinRows rows numbers parts
  pub differ : AllPairs (λ a b. a ≢ b) (map (λ part. part.name) parts)
