-- The values of an entity's attributes and constants. Names and values are in upper case.
use Rattle.std.specs.Prelude.{ℕ, ◌==◌, List, Bool, false, ◌||◌, if◌then◌else◌, Option, Some, None, codes, count_by, find, option_map, option_and_then}
use Rattle.std.specs.List.{list_any}
use Rattle.std.specs.Str.{bytes_eq}
use Rattle.board_defs.specs.declared.device.Edition.{Edition}
use Rattle.board_defs.specs.declared.device.Edition.TheVariants.{Old, Of2001}
use Rattle.bsdl_parser.specs.declared.entity.Attr.{Attr}
use Rattle.bsdl_parser.specs.declared.entity.AttrValue.{AttrValue}
use Rattle.bsdl_parser.specs.declared.entity.AttrValue.TheVariants as values
use Rattle.bsdl_parser.specs.declared.entity.Constant.{Constant}
use Rattle.bsdl_parser.specs.declared.entity.Entity.{Entity}
use Rattle.bsdl_parser.specs.declared.entity.Attribute.{Attribute}
use Rattle.bsdl_parser.specs.declared.entity.Attribute.TheVariants.{ComponentConformance}
use Rattle.bsdl_parser.specs.AttributeNumbers.{attribute_number}

abbrev pub is_numbered : ℕ → Attr → Bool
is_numbered number attribute = attribute.number == number

-- the number of times that the entity has the attribute
abbrev pub times : Entity → Attribute → ℕ
times entity attribute = count_by (is_numbered (attribute_number attribute)) entity.attributes

-- the attribute's value, which is the first one if the entity has several, or None if the entity does not have the attribute
abbrev pub value_of_attribute : Entity → Attribute → Option AttrValue
value_of_attribute entity attribute = option_map (λ found. found.value) (find (is_numbered (attribute_number attribute)) entity.attributes)

-- the attribute's value, if the entity has the attribute exactly once
abbrev pub only_value : Entity → Attribute → Option AttrValue
only_value entity attribute = if times entity attribute == 1 then value_of_attribute entity attribute else None

abbrev pub port_in : AttrValue → Option (List ℕ)
port_in values.Plain = None
port_in (values.Port port) = Some port
port_in (values.Number number) = None
port_in (values.Text text) = None

abbrev pub number_of_value : AttrValue → Option ℕ
number_of_value values.Plain = None
number_of_value (values.Port port) = None
number_of_value (values.Number number) = Some number
number_of_value (values.Text text) = None

abbrev pub text_in : AttrValue → Option (List ℕ)
text_in values.Plain = None
text_in (values.Port port) = None
text_in (values.Number number) = None
text_in (values.Text text) = Some text

-- the port that is the attribute's first value, if the entity has the attribute and this value is a port
abbrev pub port_of_attribute : Entity → Attribute → Option (List ℕ)
port_of_attribute entity attribute = option_and_then port_in (value_of_attribute entity attribute)

-- the string that is the attribute's first value, if the entity has the attribute and this value is a string
abbrev pub text_of_attribute : Entity → Attribute → Option (List ℕ)
text_of_attribute entity attribute = option_and_then text_in (value_of_attribute entity attribute)

-- the port that is the attribute's value, if the entity has the attribute exactly once and its value is a port
abbrev pub only_port : Entity → Attribute → Option (List ℕ)
only_port entity attribute = option_and_then port_in (only_value entity attribute)

-- the number that is the attribute's value, if the entity has the attribute exactly once and its value is a number
abbrev pub only_number : Entity → Attribute → Option ℕ
only_number entity attribute = option_and_then number_of_value (only_value entity attribute)

-- the string that is the attribute's value, if the entity has the attribute exactly once and its value is a string
abbrev pub only_text : Entity → Attribute → Option (List ℕ)
only_text entity attribute = option_and_then text_in (only_value entity attribute)

-- the package that the caller gives; if the caller gives none, the default package of the entity's generic item, if
-- there is one
abbrev pub chosen_package : Entity → Option (List ℕ) → Option (List ℕ)
chosen_package entity (Some name) = Some name
chosen_package entity None = entity.fallback

abbrev pub is_constant : List ℕ → Constant → Bool
is_constant name constant = bytes_eq constant.name name

-- the constant with this name, if there is exactly one
abbrev pub only_constant : Entity → List ℕ → Option Constant
only_constant entity name = if count_by (is_constant name) entity.constants == 1 then find (is_constant name) entity.constants else None

-- there is a text, and the text equals `wanted`
abbrev pub has_text : List ℕ → Option (List ℕ) → Bool
has_text wanted None = false
has_text wanted (Some text) = bytes_eq text wanted

-- COMPONENT_CONFORMANCE or a `use` item names the edition of 2001
abbrev pub is_of_2001 : Entity → Bool
is_of_2001 entity =
    has_text (codes "STD_1149_1_2001") (text_of_attribute entity ComponentConformance)
    || list_any (λ name. bytes_eq name (codes "STD_1149_1_2001")) entity.uses

abbrev pub edition : Entity → Edition
edition entity = if is_of_2001 entity then Of2001 else Old
