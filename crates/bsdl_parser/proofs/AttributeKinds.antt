-- In every entity that the grammar derives, each attribute has the kind of value that its number requires.
use Rattle.std.proofs.Common.{◌≡◌, ℕ, List, [], Bool, true, false, cond, IsTrue, Option, Some, None, refl, codes}
use Rattle.std.proofs.lemmas.List.Elements.{All-nil, All-cons, All-append}
use Rattle.std.specs.List.{All}
use Rattle.std.specs.Str.{bytes_eq}
use Rattle.grammars.proofs.Keeps.{Keeps, BehindTurn, keeps_done, keeps_in_turn, keeps_turns, keeps_nothing}
use Rattle.bsdl_parser.specs.declared.entity.Attr.{Attr}
use Rattle.bsdl_parser.specs.declared.entity.Attribute.{Attribute}
use Rattle.bsdl_parser.specs.declared.entity.Attribute.TheVariants as attributes
use Rattle.bsdl_parser.specs.declared.entity.Entity.{Entity}
use Rattle.bsdl_parser.specs.AttributeNumbers.{attribute_number}
use Rattle.bsdl_parser.specs.declared.draft.ItemWord.{ItemWord}
use Rattle.bsdl_parser.specs.declared.draft.ItemWord.TheVariants as words
use Rattle.bsdl_parser.specs.declared.draft.AttrForm.{AttrForm}
use Rattle.bsdl_parser.specs.declared.draft.AttrForm.TheVariants as forms
use Rattle.bsdl_parser.specs.Lexeme.{Lexeme}
use Rattle.grammars.specs.Values.{some_if}
use Rattle.bsdl_parser.specs.Places.{Phrase}
use Rattle.bsdl_parser.specs.Bsdl.{used, plain_value, port_value, clock_value, number_value, text_value, value_of, attribute_of, attribute_name, attribute, listed, Items, no_items, item_after, item, file}
use Rattle.bsdl_parser.specs.Answer.{Derives}
use Rattle.bsdl_parser.specs.Entity.{is_number_among, port_attributes, number_attributes, text_attributes, HasKind, HaveKinds}

-- `Fact` holds for each value that the phrase derives; a phrase is a grammar of a part of a BSDL text
abbrev Yields : {A : Type 0} → Phrase A → (A → Type 0) → Type 0
Yields g Fact = (n : ℕ) → Keeps (λ token. 0) g n (λ m a. Fact a)

-- the attribute with this number has a value of this form
abbrev FitsForm : ℕ → AttrForm → Type 0
FitsForm number forms.Plain = number ≡ attribute_number attributes.PinMap
FitsForm number forms.Port = IsTrue (is_number_among port_attributes number)
FitsForm number forms.Clock = IsTrue (is_number_among port_attributes number)
FitsForm number forms.Number = IsTrue (is_number_among number_attributes number)
FitsForm number forms.Text = IsTrue (is_number_among text_attributes number)

abbrev FitsKnown : Option (Attribute × AttrForm) → Type 0
FitsKnown None = Unit {0}
FitsKnown (Some known) = FitsForm (attribute_number known.0) known.1

fits_if : (b : Bool) (known rest : Option (Attribute × AttrForm)) → FitsKnown known → FitsKnown rest → FitsKnown (cond b known rest)
fits_if true known rest h k = h
fits_if false known rest h k = k

used_fits : (name : List ℕ) → FitsKnown (used name)
used_fits name =
    fits_if (bytes_eq name (codes "PIN_MAP")) _ _ refl (
    fits_if (bytes_eq name (codes "TAP_SCAN_IN")) _ _ refl (
    fits_if (bytes_eq name (codes "TAP_SCAN_OUT")) _ _ refl (
    fits_if (bytes_eq name (codes "TAP_SCAN_MODE")) _ _ refl (
    fits_if (bytes_eq name (codes "TAP_SCAN_CLOCK")) _ _ refl (
    fits_if (bytes_eq name (codes "INSTRUCTION_LENGTH")) _ _ refl (
    fits_if (bytes_eq name (codes "INSTRUCTION_OPCODE")) _ _ refl (
    fits_if (bytes_eq name (codes "INSTRUCTION_CAPTURE")) _ _ refl (
    fits_if (bytes_eq name (codes "BOUNDARY_LENGTH")) _ _ refl (
    fits_if (bytes_eq name (codes "BOUNDARY_REGISTER")) _ _ refl (
    fits_if (bytes_eq name (codes "TAP_SCAN_RESET")) _ _ refl (
    fits_if (bytes_eq name (codes "IDCODE_REGISTER")) _ _ refl (
    fits_if (bytes_eq name (codes "COMPLIANCE_PATTERNS")) _ _ refl (
    last_fits (bytes_eq name (codes "COMPONENT_CONFORMANCE")))))))))))))))
  where
    last_fits : (b : Bool) → FitsKnown (some_if b (attributes.ComponentConformance, forms.Text))
    last_fits true = refl
    last_fits false = tt

value_kind : (form : AttrForm) → Yields (value_of form) (λ value. (number : ℕ) → FitsForm number form → HasKind number value)
unfolding plain_value port_value clock_value number_value text_value
value_kind forms.Plain n =
    keeps_in_turn keeps_nothing
    (λ _ _ _. keeps_in_turn keeps_nothing
    (λ _ _ _. keeps_in_turn keeps_nothing (λ _ _ _. keeps_done (λ number h. h))))
value_kind forms.Port n =
    keeps_in_turn keeps_nothing
    (λ _ _ _. keeps_in_turn keeps_nothing
    (λ _ _ _. keeps_in_turn keeps_nothing (λ _ _ _. keeps_done (λ number h. h))))
value_kind forms.Clock n =
    keeps_in_turn keeps_nothing
    (λ _ _ _. keeps_in_turn keeps_nothing
    (λ _ _ _. keeps_in_turn keeps_nothing (λ _ _ _. keeps_in_turn keeps_nothing (λ _ _ _.
    keeps_in_turn keeps_nothing
    (λ _ _ _. keeps_in_turn keeps_nothing
    (λ _ _ _. keeps_in_turn keeps_nothing (λ _ _ _. keeps_done (λ number h. h))))))))
value_kind forms.Number n =
    keeps_in_turn keeps_nothing
    (λ _ _ _. keeps_in_turn keeps_nothing
    (λ _ _ _. keeps_in_turn keeps_nothing (λ _ _ _. keeps_done (λ number h. h))))
value_kind forms.Text n = keeps_in_turn keeps_nothing (λ _ _ _. keeps_in_turn keeps_nothing (λ _ _ _. keeps_done (λ number h. h)))

abbrev AttrKind : Attr → Type 0
AttrKind attr = HasKind attr.number attr.value

attribute_of_kind : (known : Option (Attribute × AttrForm)) → FitsKnown known
    → Yields (attribute_of known) (λ one. All AttrKind (listed one))
attribute_of_kind None fits n = keeps_in_turn keeps_nothing (λ _ _ _. keeps_done (All-nil AttrKind))
attribute_of_kind (Some known) fits n =
    keeps_in_turn (value_kind known.1 n)
    (λ value m h. keeps_done
    (All-cons AttrKind _ [] (h (attribute_number known.0) fits) (All-nil AttrKind)))

attribute_kind : Yields attribute (λ one. All AttrKind (listed one))
unfolding attribute
attribute_kind n = keeps_in_turn (name_fits n) (λ known m fits. attribute_of_kind known fits m)
  where
    name_fits : Yields attribute_name FitsKnown
    name_fits n = keeps_in_turn keeps_nothing (λ name m _. keeps_done (used_fits name))

abbrev ItemKinds : Items → Type 0
ItemKinds items = All AttrKind items.attributes

item_of_kind : (before : Items) → ItemKinds before → (word : ItemWord) → (n : ℕ)
    → Keeps (λ token. 0) (item_after before word) n
    (BehindTurn (λ m items. ItemKinds items) (λ m items. ItemKinds items))
unfolding item_after
item_of_kind before h words.Generic n = keeps_in_turn keeps_nothing (λ _ _ _. keeps_done h)
item_of_kind before h words.Port n = keeps_in_turn keeps_nothing (λ _ _ _. keeps_done h)
item_of_kind before h words.Use n = keeps_in_turn keeps_nothing (λ _ _ _. keeps_done h)
item_of_kind before h words.Constant n = keeps_in_turn keeps_nothing (λ _ _ _. keeps_done h)
item_of_kind before h words.Attribute n =
    keeps_in_turn (attribute_kind n)
    (λ one m k. keeps_done (All-append AttrKind before.attributes (listed one) h k))
item_of_kind before h words.End n = keeps_done h

item_kind : (before : Items) (n : ℕ) → ItemKinds before
    → Keeps (λ token. 0) (item before) n
    (BehindTurn (λ m items. ItemKinds items) (λ m items. ItemKinds items))
unfolding item
item_kind before n h = keeps_in_turn keeps_nothing (λ word m _. item_of_kind before h word m)

file_kinds : Yields file HaveKinds
unfolding file
file_kinds n =
    keeps_in_turn keeps_nothing (λ _ _ _. keeps_in_turn keeps_nothing (λ name _ _. keeps_in_turn keeps_nothing (λ _ m _.
    keeps_in_turn (keeps_turns item_kind no_items m (All-nil AttrKind))
    (λ items _ h. keeps_in_turn keeps_nothing
    (λ _ _ _. keeps_in_turn keeps_nothing (λ _ _ _. keeps_done h))))))

pub have_kinds : (tokens : List Lexeme) (entity : Entity) → Derives tokens entity → HaveKinds entity
have_kinds tokens entity h = (file_kinds 0).kept tokens entity h
