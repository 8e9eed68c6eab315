-- Samples of the pins of parts and their port bits, with values computed by hand.
use Rattle.std.proofs.Common.{◌≡◌, ℕ, List, [], ◌∷◌, Option, Some, None, refl}
use Rattle.std.specs.Prelude.{codes, false, map}
use Rattle.board_defs.specs.declared.device.Symbol.TheVariants.{Zero, One}
use Rattle.board_defs.specs.declared.device.Mode.TheVariants.{Outward}
use Rattle.board_defs.specs.declared.device.Edition.TheVariants.{Old}
use Rattle.board_defs.specs.declared.device.PortBit.{PortBit}
use Rattle.board_defs.specs.declared.device.RawDevice.{RawDevice}
use Rattle.board_defs.specs.declared.board.PartKind.TheVariants.{Described, Bypass}
use Rattle.board_defs.specs.declared.board.Part.{Part}
use Rattle.board_defs.specs.declared.board.PinAt.{PinAt}
use Rattle.board_lines.specs.ChainParts.{pin_places, place_of_pin}
use Rattle.board_lines.specs.PinRows.{ArePinRows, bit_of_pin, place_by_part, pins_of_part}

-- a port bit with this pin, or without a pin
abbrev bit : Option (List ℕ) → PortBit
bit pin = record { port = 0; index = None; mode = Outward; pin = pin; tap = false; compliance = false }

abbrev device : RawDevice
device = record {
  entity = codes "E";
  «package» = codes "P";
  edition = Old;
  ports = codes "Q" ∷ [];
  ir = 2;
  sample = Zero ∷ One ∷ [];
  extest = Zero ∷ Zero ∷ [];
  idcode = None;
  boundary = 1;
  bits = bit (Some (codes "T1")) ∷ bit (Some (codes "A2")) ∷ bit None ∷ bit (Some (codes "7")) ∷ [];
  cells = [];
}

abbrev row : List (Option (List ℕ))
row = Some (codes "T1") ∷ Some (codes "A2") ∷ None ∷ Some (codes "7") ∷ []

-- a described part has the pins of its port bits, and a part in BYPASS has no pins
pins : map pins_of_part (Described device ∷ Bypass 4 ∷ []) ≡ row ∷ [] ∷ []
pins = refl

-- port bits without a pin are numbered, too, but no name finds them
bits : map (bit_of_pin row) (codes "T1" ∷ codes "A2" ∷ codes "7" ∷ codes "" ∷ codes "8" ∷ []) ≡ Some 0 ∷ Some 1 ∷ Some 3 ∷ None ∷ None ∷ []
bits = refl

-- only the whole name matches, and case matters; the readers of files put pin names in upper case
whole : map (bit_of_pin row) (codes "a2" ∷ codes "A" ∷ codes "A22" ∷ []) ≡ None ∷ None ∷ None ∷ []
whole = refl

-- if two port bits have the same pin, the look-up finds the first
first : bit_of_pin (None ∷ Some (codes "A2") ∷ row) (codes "A2") ≡ Some 1
first = refl

-- a chain in which U1 and U3 are the same device and share a row, and U2 is in BYPASS
abbrev parts : List Part
parts =
    record { name = codes "U1"; kind = Described device }
    ∷ record { name = codes "U2"; kind = Bypass 4 }
    ∷ record { name = codes "U3"; kind = Described device } ∷ []

abbrev numbers : List ℕ
numbers = 1 ∷ 0 ∷ 1 ∷ []

rows : ArePinRows ([] ∷ row ∷ []) numbers parts
rows = refl

-- the place of a pin, by the number of its part and its own name
abbrev place : Option ℕ → List ℕ → Option PinAt
place = place_by_part ([] ∷ row ∷ []) numbers

-- look-ups of a pin of a described part, a pin that this part does not have, a pin of the part in
-- BYPASS, a pin of no part, and a pin of a part without a row
places : place (Some 2) (codes "7") ∷ place (Some 2) (codes "9") ∷ place (Some 1) (codes "7")
    ∷ place None (codes "7") ∷ place (Some 3) (codes "7") ∷ []
    ≡ Some (record { part = 2; bit = 3 }) ∷ None ∷ None ∷ None ∷ None ∷ []
places = refl

-- look-ups among the places of all pins: a pin of a described part, a pin that this part does not
-- have, a pin of the part in BYPASS, and pins of two parts that the chain does not have
all_places : map (place_of_pin (pin_places parts))
    ((codes "U3", codes "7") ∷ (codes "U3", codes "9") ∷ (codes "U2", codes "7")
    ∷ (codes "RAM", codes "7") ∷ (codes "u3", codes "7") ∷ [])
    ≡ Some (record { part = 2; bit = 3 }) ∷ None ∷ None ∷ None ∷ None ∷ []
all_places = refl
