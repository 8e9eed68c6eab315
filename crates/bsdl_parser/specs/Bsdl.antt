-- The grammar of a BSDL text, as far as an interconnect test needs it (IEEE 1149.1-2001, B.8). The
-- comment above a production is its EBNF rule.
use Rattle.std.specs.Prelude.{ℕ, List, [], ◌∷◌, ◌++◌, map, Bool, true, false, ◌&&◌, not, if◌then◌else◌, Option, Some, None, codes}
use Rattle.std.specs.Str.{bytes_eq}
use Rattle.board_defs.specs.declared.device.Mode.{Mode}
use Rattle.grammars.specs.Turn.{Turn, again, last, turn_of}
use Rattle.grammars.specs.Grammar.{place, done, turns, ◌>>=◌}
use Rattle.bsdl_parser.specs.declared.entity.Range.{Range}
use Rattle.bsdl_parser.specs.declared.entity.Port.{Port}
use Rattle.bsdl_parser.specs.declared.entity.Constant.{Constant}
use Rattle.bsdl_parser.specs.declared.entity.Attr.{Attr}
use Rattle.bsdl_parser.specs.declared.entity.AttrValue.{AttrValue}
use Rattle.bsdl_parser.specs.declared.entity.AttrValue.TheVariants as values
use Rattle.bsdl_parser.specs.declared.entity.Attribute.{Attribute}
use Rattle.bsdl_parser.specs.declared.entity.Attribute.TheVariants as attributes
use Rattle.bsdl_parser.specs.declared.entity.Entity.{Entity}
use Rattle.bsdl_parser.specs.declared.draft.ItemWord.{ItemWord}
use Rattle.bsdl_parser.specs.declared.draft.ItemWord.TheVariants as words
use Rattle.bsdl_parser.specs.declared.draft.AttrForm.{AttrForm}
use Rattle.bsdl_parser.specs.declared.draft.AttrForm.TheVariants as forms
use Rattle.grammars.specs.Values.{some_if}
use Rattle.bsdl_parser.specs.AttributeNumbers.{attribute_number}
use Rattle.bsdl_parser.specs.Places.{Phrase, is_word_token, keyword, mark, either_word, either_mark, any_word, any_number, any_text, integer, mode, other_than, word_or_mark}

-- text ( "&" | close ), which is one turn of text { "&" text } close. Here string = text { "&" text }, a text is one
-- string token, and `close` is the mark after the string.
unfoldable pub string_piece : List ℕ → List ℕ → Phrase (Turn (List ℕ) (List ℕ))
string_piece close before = do
  piece ← any_text
  joined ← either_mark (codes "&") close
  done (turn_of joined (before ++ piece))

abbrev pub string : List ℕ → Phrase (List ℕ)
string close = turns (string_piece close) []

-- [ ":" "=" string ] ")", after its first mark
abbrev pub fallback : Bool → Phrase (Option (List ℕ))
fallback false = done None
fallback true = do
  _ ← mark (codes "=")
  text ← string (codes ")")
  done (Some text)

-- generic = "generic" "(" "PHYSICAL_PIN_MAP" ":" "string" [ ":" "=" string ] ")" ";", after its first word
unfoldable pub generic : Phrase (Option (List ℕ))
generic = do
  _ ← mark (codes "(")
  _ ← keyword (codes "PHYSICAL_PIN_MAP")
  _ ← mark (codes ":")
  _ ← keyword (codes "STRING")
  given ← either_mark (codes ":") (codes ")")
  text ← fallback given
  _ ← mark (codes ";")
  done text

-- word ( "," | ":" ), which is one turn of word { "," word } ":"
unfoldable pub port_name : List (List ℕ) → Phrase (Turn (List (List ℕ)) (List (List ℕ)))
port_name before = do
  name ← any_word
  goes_on ← either_mark (codes ",") (codes ":")
  done (turn_of goes_on (before ++ name ∷ []))

-- "(" integer ("to" | "downto") integer ")"
unfoldable pub range : Phrase Range
range = do
  _ ← mark (codes "(")
  left ← integer
  up ← either_word (codes "TO") (codes "DOWNTO")
  right ← integer
  _ ← mark (codes ")")
  done (record { left = left; right = right; up = up })

-- type = "bit" | "bit_vector" "(" integer ("to" | "downto") integer ")", after its first word
abbrev pub range_of : Bool → Phrase (Option Range)
range_of false = done None
range_of true = do
  bounds ← range
  done (Some bounds)

-- the ports of a group, which have one mode and one range
abbrev pub ports_of : List (List ℕ) → Mode → Option Range → List Port
ports_of names direction bounds = map (λ name. record { name = name; mode = direction; range = bounds }) names

-- group = word { "," word } ":" mode type
unfoldable pub group : Phrase (List Port)
group = do
  names ← turns port_name []
  direction ← mode
  is_vector ← either_word (codes "BIT_VECTOR") (codes "BIT")
  bounds ← range_of is_vector
  done (ports_of names direction bounds)

-- group ( ";" | ")" ), which is one turn of group { ";" group } ")"
unfoldable pub port_group : List Port → Phrase (Turn (List Port) (List Port))
port_group before = do
  ports ← group
  goes_on ← either_mark (codes ";") (codes ")")
  done (turn_of goes_on (before ++ ports))

-- port = "port" "(" group { ";" group } ")" ";", after its first word
unfoldable pub ports : Phrase (List Port)
ports = do
  _ ← mark (codes "(")
  all ← turns port_group []
  _ ← mark (codes ";")
  done all

-- use = "use" word "." "all" ";", after its first word
unfoldable pub used_package : Phrase (List ℕ)
used_package = do
  name ← any_word
  _ ← mark (codes ".")
  _ ← keyword (codes "ALL")
  _ ← mark (codes ";")
  done name

-- constant = "constant" word ":" "PIN_MAP_STRING" ":" "=" string ";", after its first word
unfoldable pub constant : Phrase Constant
constant = do
  name ← any_word
  _ ← mark (codes ":")
  _ ← keyword (codes "PIN_MAP_STRING")
  _ ← mark (codes ":")
  _ ← mark (codes "=")
  text ← string (codes ";")
  done (record { name = name; text = text })

-- the attribute with this name, which is in upper case, and the form of its value; or None if this
-- program does not use the attribute
abbrev pub used : List ℕ → Option (Attribute × AttrForm)
used name =
    if bytes_eq name (codes "PIN_MAP") then Some (attributes.PinMap, forms.Plain) else
    if bytes_eq name (codes "TAP_SCAN_IN") then Some (attributes.TapScanIn, forms.Port) else
    if bytes_eq name (codes "TAP_SCAN_OUT") then Some (attributes.TapScanOut, forms.Port) else
    if bytes_eq name (codes "TAP_SCAN_MODE") then Some (attributes.TapScanMode, forms.Port) else
    if bytes_eq name (codes "TAP_SCAN_CLOCK") then Some (attributes.TapScanClock, forms.Clock) else
    if bytes_eq name (codes "INSTRUCTION_LENGTH") then Some (attributes.InstructionLength, forms.Number) else
    if bytes_eq name (codes "INSTRUCTION_OPCODE") then Some (attributes.InstructionOpcode, forms.Text) else
    if bytes_eq name (codes "INSTRUCTION_CAPTURE") then Some (attributes.InstructionCapture, forms.Text) else
    if bytes_eq name (codes "BOUNDARY_LENGTH") then Some (attributes.BoundaryLength, forms.Number) else
    if bytes_eq name (codes "BOUNDARY_REGISTER") then Some (attributes.BoundaryRegister, forms.Text) else
    if bytes_eq name (codes "TAP_SCAN_RESET") then Some (attributes.TapScanReset, forms.Port) else
    if bytes_eq name (codes "IDCODE_REGISTER") then Some (attributes.IdcodeRegister, forms.Text) else
    if bytes_eq name (codes "COMPLIANCE_PATTERNS") then Some (attributes.CompliancePatterns, forms.Text) else
    some_if (bytes_eq name (codes "COMPONENT_CONFORMANCE")) (attributes.ComponentConformance, forms.Text)

-- "of" word ":" class "is"
unfoldable pub of_class : List ℕ → Phrase (List ℕ)
of_class class = do
  _ ← keyword (codes "OF")
  word ← any_word
  _ ← mark (codes ":")
  _ ← keyword class
  _ ← keyword (codes "IS")
  done word

-- "of" word ":" "entity" "is" "PHYSICAL_PIN_MAP" ";"
unfoldable pub plain_value : Phrase AttrValue
plain_value = do
  _ ← of_class (codes "ENTITY")
  _ ← keyword (codes "PHYSICAL_PIN_MAP")
  _ ← mark (codes ";")
  done values.Plain

-- "of" port ":" "signal" "is" "true" ";"
unfoldable pub port_value : Phrase AttrValue
port_value = do
  port ← of_class (codes "SIGNAL")
  _ ← keyword (codes "TRUE")
  _ ← mark (codes ";")
  done (values.Port port)

-- "of" port ":" "signal" "is" "(" number "," ("BOTH" | "LOW") ")" ";"
unfoldable pub clock_value : Phrase AttrValue
clock_value = do
  port ← of_class (codes "SIGNAL")
  _ ← mark (codes "(")
  _ ← any_number
  _ ← mark (codes ",")
  _ ← either_word (codes "BOTH") (codes "LOW")
  _ ← mark (codes ")")
  _ ← mark (codes ";")
  done (values.Port port)

-- "of" word ":" "entity" "is" integer ";"
unfoldable pub number_value : Phrase AttrValue
number_value = do
  _ ← of_class (codes "ENTITY")
  number ← integer
  _ ← mark (codes ";")
  done (values.Number number)

-- "of" word ":" "entity" "is" string ";"
unfoldable pub text_value : Phrase AttrValue
text_value = do
  _ ← of_class (codes "ENTITY")
  text ← string (codes ";")
  done (values.Text text)

-- the value of an attribute that this program uses and its ";", after the attribute's name
abbrev pub value_of : AttrForm → Phrase AttrValue
value_of forms.Plain = plain_value
value_of forms.Port = port_value
value_of forms.Clock = clock_value
value_of forms.Number = number_value
value_of forms.Text = text_value

-- any token but ";" | ";", which is one turn of { any token but ";" } ";"
unfoldable pub skipped_token : Unit {0} → Phrase (Turn (Unit {0}) (Unit {0}))
skipped_token before = do
  goes_on ← other_than (codes ";")
  done (turn_of goes_on tt)

-- the rest of an attribute item after the attribute's name, which is { any token but ";" } ";" if this program does not use the attribute
abbrev pub attribute_of : Option (Attribute × AttrForm) → Phrase (Option Attr)
attribute_of None = do
  _ ← turns skipped_token tt
  done None
attribute_of (Some known) = do
  value ← value_of known.1
  done (Some (record { number = attribute_number known.0; value = value }))

abbrev pub attribute_name : Phrase (Option (Attribute × AttrForm))
attribute_name = do
  name ← any_word
  done (used name)

-- attribute = "attribute" used ";" | "attribute" other { any token but ";" } ";", after its first word. "used" is the
-- name and the value of an attribute that this program uses, and "other" is the name of any other attribute.
unfoldable pub attribute : Phrase (Option Attr)
attribute = do
  known ← attribute_name
  attribute_of known

abbrev pub listed : {A : Type 0} → Option A → List A
listed None = []
listed (Some a) = a ∷ []

-- the items of an entity that the reader has read so far
pub record Items : Type 0 where
  pub has_generic : Bool
  pub fallback : Option (List ℕ)
  pub has_port : Bool
  pub ports : List Port
  pub uses : List (List ℕ)
  pub constants : List Constant
  pub attributes : List Attr

abbrev pub no_items : Items
no_items = record { has_generic = false; fallback = None; has_port = false; ports = []; uses = []; constants = []; attributes = [] }

-- The kind of item that begins with the word, or `End` if the word is `end`, which follows the last
-- item. A file has exactly one generic item and one port item. So the result is None if the word
-- begins a second generic or port item, or if the word is `end` and one of them is missing in
-- `before`. The result is also None for any word that begins no item.
abbrev pub item_word : Items → List ℕ → Option ItemWord
item_word before word =
    if bytes_eq word (codes "GENERIC") then some_if (not before.has_generic) words.Generic else
    if bytes_eq word (codes "PORT") then some_if (not before.has_port) words.Port else
    if bytes_eq word (codes "USE") then Some words.Use else
    if bytes_eq word (codes "CONSTANT") then Some words.Constant else
    if bytes_eq word (codes "ATTRIBUTE") then Some words.Attribute else
    some_if (bytes_eq word (codes "END") && (before.has_generic && before.has_port)) words.End

abbrev pub item_begin : Items → Phrase ItemWord
item_begin before = place (λ token. if is_word_token token.kind then item_word before token.spelled else None)

-- the rest of an item after its first word, or the end of the items
unfoldable pub item_after : Items → ItemWord → Phrase (Turn Items Items)
item_after before words.Generic = do
  text ← generic
  done (again (record before { has_generic = true; fallback = text }))
item_after before words.Port = do
  all ← ports
  done (again (record before { has_port = true; ports = all }))
item_after before words.Use = do
  name ← used_package
  done (again (record before { uses = before.uses ++ name ∷ [] }))
item_after before words.Constant = do
  one ← constant
  done (again (record before { constants = before.constants ++ one ∷ [] }))
item_after before words.Attribute = do
  one ← attribute
  done (again (record before { attributes = before.attributes ++ listed one }))
item_after before words.End = done (last before)

-- one turn of { item } "end", in which item = generic | port | use | constant | attribute
unfoldable pub item : Items → Phrase (Turn Items Items)
item before = do
  first ← item_begin before
  item_after before first

-- [ word ] ";", after its first token
abbrev pub close_of : Bool → Phrase (Unit {0})
close_of true = mark (codes ";")
close_of false = done tt

abbrev pub entity_from_items : List ℕ → Items → Entity
entity_from_items name items = record {
  name = name;
  fallback = items.fallback;
  ports = items.ports;
  uses = items.uses;
  constants = items.constants;
  attributes = items.attributes;
}

-- file = "entity" word "is" { item } "end" [ word ] ";"
unfoldable pub file : Phrase Entity
file = do
  _ ← keyword (codes "ENTITY")
  name ← any_word
  _ ← keyword (codes "IS")
  items ← turns item no_items
  named ← word_or_mark (codes ";")
  _ ← close_of named
  done (entity_from_items name items)
