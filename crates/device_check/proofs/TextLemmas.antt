-- If all names, texts and lists of an entity are shorter than 2^32, so are the strings that are read from it.
use Rattle.std.proofs.Common.{◌≡◌, ◌==◌, ℕ, ◌<◌, ◌^◌, Bool, true, false, if◌then◌else◌, List, [], ◌∷◌, length, Option, Some, None, Ok, subst, ap}
use Rattle.std.specs.List.{All, count_by, find}
use Rattle.std.specs.Option.{IfSome, option_map, option_and_then}
use Rattle.std.proofs.lemmas.List.Elements.{All-head, All-tail}
use Rattle.bsdl_parser.specs.declared.entity.Attr.{Attr}
use Rattle.bsdl_parser.specs.declared.entity.AttrValue.{AttrValue}
use Rattle.bsdl_parser.specs.declared.entity.AttrValue.TheVariants as values
use Rattle.bsdl_parser.specs.declared.entity.Constant.{Constant}
use Rattle.bsdl_parser.specs.declared.entity.Entity.{Entity}
use Rattle.bsdl_parser.specs.Entity.{IsShort, HasShortText, IsSmall}
use Rattle.bsdl_parser.specs.declared.entity.Attribute.{Attribute}
use Rattle.bsdl_parser.specs.declared.entity.Attribute.TheVariants.{InstructionOpcode, InstructionCapture, BoundaryRegister}
use Rattle.bsdl_parser.specs.AttributeNumbers.{attribute_number}
use Rattle.device_check.specs.Attributes.{is_numbered, times, value_of_attribute, text_in, text_of_attribute, only_text, is_constant, only_constant, chosen_package}
use Rattle.device_check.specs.Needed.{FoundPackage, FoundValues, pin_map_in, found_package, v1}
use Rattle.device_check.specs.inner.Reading.{HasShortStrings}
use Rattle.device_check.proofs.FoundLemmas.{IsFound, found_is}

found_holds : {X : Type 0} (P : X → Type 0) (test : X → Bool) (xs : List X) → All P xs → IfSome (find test xs) P
found_holds P test [] all = tt
found_holds P test (x ∷ xs) all = by_x (test x) (found_holds P test xs (All-tail P x xs all))
  where
    by_x : (t : Bool) → IfSome (find test xs) P → IfSome (if t then Some x else find test xs) P
    by_x true rest = All-head P x xs all
    by_x false rest = rest

short_value : (value : AttrValue) (text : List ℕ) → HasShortText value → text_in value ≡ Some text → length text < 2 ^ 32
short_value values.Plain text h e = cc
short_value (values.Port port) text h e = cc
short_value (values.Number number) text h e = cc
short_value (values.Text own) text h e = let same : own ≡ text = cc in subst (λ xs. length xs < 2 ^ 32) same h

short_found : (found : Option Attr) (text : List ℕ)
    → IfSome found (λ attribute. HasShortText attribute.value)
    → option_and_then text_in (option_map (λ attribute. attribute.value) found) ≡ Some text
    → length text < 2 ^ 32
short_found None text h e = cc
short_found (Some attribute) text h e = short_value attribute.value text h e

pub short_text : (entity : Entity) (attribute : Attribute) (text : List ℕ)
    → All (λ attribute. HasShortText attribute.value) entity.attributes
    → text_of_attribute entity attribute ≡ Some text → length text < 2 ^ 32
short_text entity attribute text all e =
    let numbered = is_numbered (attribute_number attribute) in
    short_found (find numbered entity.attributes) text
    (found_holds (λ attribute. HasShortText attribute.value) numbered entity.attributes all) e

short_only : (entity : Entity) (attribute : Attribute) (text : List ℕ)
    → All (λ attribute. HasShortText attribute.value) entity.attributes
    → only_text entity attribute ≡ Some text → length text < 2 ^ 32
short_only entity attribute text all e = by_test (times entity attribute == 1) e
  where
    by_test : (b : Bool)
        → option_and_then text_in (if b then value_of_attribute entity attribute else None)
        ≡ Some text → length text < 2 ^ 32
    by_test true h = short_text entity attribute text all h
    by_test false h = cc

short_constant : (name : List ℕ) (found : Option Constant) (chosen_package : FoundPackage)
    → IfSome found (λ constant. IsShort constant.text) → pin_map_in name found ≡ Some chosen_package
    → length chosen_package.pin_map < 2 ^ 32
short_constant name None chosen_package h e = cc
short_constant name (Some constant) chosen_package h e =
    let same : constant.text ≡ chosen_package.pin_map = ap (λ o. pin_map_or o) e in
    subst (λ xs. length xs < 2 ^ 32) same h
  where
    pin_map_or : Option FoundPackage → List ℕ
    pin_map_or None = []
    pin_map_or (Some found) = found.pin_map

short_only_constant : (entity : Entity) (name : List ℕ) (chosen_package : FoundPackage)
    → All (λ constant. IsShort constant.text) entity.constants
    → pin_map_in name (only_constant entity name) ≡ Some chosen_package
    → length chosen_package.pin_map < 2 ^ 32
short_only_constant entity name chosen_package all e = by_test (count_by (is_constant name) entity.constants == 1) e
  where
    by_test : (b : Bool)
        → pin_map_in name (if b then find (is_constant name) entity.constants else None)
        ≡ Some chosen_package → length chosen_package.pin_map < 2 ^ 32
    by_test true h =
        short_constant name (find (is_constant name) entity.constants) chosen_package
        (found_holds (λ constant. IsShort constant.text) (is_constant name) entity.constants all) h
    by_test false h = cc

short_pin_map : (entity : Entity) (name : Option (List ℕ)) (chosen_package : FoundPackage)
    → All (λ constant. IsShort constant.text) entity.constants
    → found_package entity name ≡ Some chosen_package → length chosen_package.pin_map < 2 ^ 32
short_pin_map entity None chosen_package all e = cc
short_pin_map entity (Some name) chosen_package all e = short_only_constant entity name chosen_package all e

pub short_strings : (entity : Entity) (given : Option (List ℕ)) (found : FoundValues)
    → IsSmall entity → v1 entity given ≡ Ok found → HasShortStrings found
short_strings entity given found small e =
    let is : IsFound entity given found = found_is entity given found e in
    record {
      pin_map = short_pin_map entity (chosen_package entity given) found.chosen small.constant_texts is.chosen_is;
      opcodes = short_only entity InstructionOpcode found.registers.opcodes small.attribute_texts is.opcodes_are;
      capture = short_only entity InstructionCapture found.registers.capture small.attribute_texts is.capture_is;
      boundary = short_only entity BoundaryRegister found.registers.boundary small.attribute_texts is.boundary_is;
    }
