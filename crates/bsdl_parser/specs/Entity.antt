-- Properties of the entities that the grammar derives: the kind of each attribute's value and, for
-- a text of fewer than 2^32 bytes, the number of its ports and the lengths of its texts.
use Rattle.std.specs.Prelude.{◌≡◌, ℕ, ◌^◌, ◌<◌, List, [], ◌∷◌, length, Bool, ◌==◌, IsTrue, All}
use Rattle.std.specs.List.{list_any}
use Rattle.bsdl_parser.specs.declared.entity.AttrValue.{AttrValue}
use Rattle.bsdl_parser.specs.declared.entity.AttrValue.TheVariants as values
use Rattle.bsdl_parser.specs.declared.entity.Attribute.{Attribute}
use Rattle.bsdl_parser.specs.declared.entity.Attribute.TheVariants.{PinMap, TapScanIn, TapScanOut, TapScanMode, TapScanClock, InstructionLength, InstructionOpcode, InstructionCapture, BoundaryLength, BoundaryRegister, TapScanReset, IdcodeRegister, CompliancePatterns, ComponentConformance}
use Rattle.bsdl_parser.specs.declared.entity.Entity.{Entity}
use Rattle.bsdl_parser.specs.AttributeNumbers.{attribute_number}

-- one of these attributes has this number
abbrev pub is_number_among : List Attribute → ℕ → Bool
is_number_among attributes number = list_any (λ attribute. attribute_number attribute == number) attributes

-- the attributes whose values are ports
abbrev pub port_attributes : List Attribute
port_attributes = TapScanIn ∷ TapScanOut ∷ TapScanMode ∷ TapScanClock ∷ TapScanReset ∷ []

-- the attributes whose values are numbers
abbrev pub number_attributes : List Attribute
number_attributes = InstructionLength ∷ BoundaryLength ∷ []

-- the attributes whose values are strings
abbrev pub text_attributes : List Attribute
text_attributes =
    InstructionOpcode ∷ InstructionCapture ∷ BoundaryRegister ∷ IdcodeRegister ∷ CompliancePatterns
    ∷ ComponentConformance ∷ []

-- an attribute with this number may have a value of this kind
abbrev pub HasKind : ℕ → AttrValue → Type 0
HasKind number values.Plain = number ≡ attribute_number PinMap
HasKind number (values.Port port) = IsTrue (is_number_among port_attributes number)
HasKind number (values.Number value) = IsTrue (is_number_among number_attributes number)
HasKind number (values.Text text) = IsTrue (is_number_among text_attributes number)

-- each attribute has a number from 1 to 14, and its value has the kind that this number requires
abbrev pub HaveKinds : Entity → Type 0
HaveKinds entity = All (λ attribute. HasKind attribute.number attribute.value) entity.attributes

-- the list has fewer than 2^32 items
abbrev pub IsShort : {X : Type 0} → List X → Type 0
IsShort xs = length xs < 2 ^ 32

abbrev pub HasShortText : AttrValue → Type 0
HasShortText values.Plain = Unit {0}
HasShortText (values.Port port) = IsShort port
HasShortText (values.Number value) = Unit {0}
HasShortText (values.Text text) = IsShort text

-- the entity has fewer than 2^32 ports, and each text of a constant or of an attribute has fewer than 2^32
-- bytes
pub record IsSmall (entity : Entity) : Type 0 where
  pub ports : IsShort entity.ports
  pub constant_texts : All (λ constant. IsShort constant.text) entity.constants
  pub attribute_texts : All (λ attribute. HasShortText attribute.value) entity.attributes
