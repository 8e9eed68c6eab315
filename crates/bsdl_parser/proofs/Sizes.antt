-- The names and texts of an entity are no longer than the BSDL text, and the entity's lists have no more items than
-- this text has bytes. In the proof, each name has a cost, which is its length, but at least 1. Each token has a
-- weight, which is the cost of its bytes. The cost of a value is at most the total weight of the tokens from which it
-- is read.
use Rattle.std.proofs.Common.{◌≡◌, ℕ, ◌+◌, ◌-◌, ◌<◌, ◌≤◌, List, [], ◌∷◌, ◌++◌, ◌^◌, ◌∙◌, length, map, drop, Bool, true, false, Option, Some, None, refl, ap, subst, arith, length-append, length-drop, length-take}
use Rattle.std.proofs.lemmas.List.{length-map}
use Rattle.std.proofs.lemmas.List.Elements.{All-nil, All-cons, All-weaker}
use Rattle.std.specs.List.{All, slice_range}
use Rattle.std.specs.Char.{to_ascii_uppercase}
use Rattle.bsdl_lexer.specs.declared.token.Token.{Token}
use Rattle.bsdl_lexer.specs.Tokens.{IsToken, Stand, AreTokens}
use Rattle.bsdl_lexer.proofs.Places.{some_bytes, length-range}
use Rattle.board_defs.specs.declared.device.Mode.{Mode}
use Rattle.grammars.specs.Turn.{Turn, turn_of}
use Rattle.grammars.proofs.Keeps.{Keeps, BehindTurn, total, total-append, keeps_place, keeps_done, keeps_in_turn, keeps_turns, keeps_more}
use Rattle.bsdl_parser.specs.declared.entity.Range.{Range}
use Rattle.bsdl_parser.specs.declared.entity.Port.{Port}
use Rattle.bsdl_parser.specs.declared.entity.Constant.{Constant}
use Rattle.bsdl_parser.specs.declared.entity.Attr.{Attr}
use Rattle.bsdl_parser.specs.declared.entity.AttrValue.{AttrValue}
use Rattle.bsdl_parser.specs.declared.entity.AttrValue.TheVariants as values
use Rattle.bsdl_parser.specs.declared.entity.Attribute.{Attribute}
use Rattle.bsdl_parser.specs.declared.entity.Entity.{Entity}
use Rattle.bsdl_parser.specs.declared.draft.ItemWord.{ItemWord}
use Rattle.bsdl_parser.specs.declared.draft.ItemWord.TheVariants as words
use Rattle.bsdl_parser.specs.declared.draft.AttrForm.{AttrForm}
use Rattle.bsdl_parser.specs.declared.draft.AttrForm.TheVariants as forms
use Rattle.bsdl_parser.specs.Lexeme.{Lexeme, lexeme_of, lexemes}
use Rattle.grammars.specs.Values.{some_if}
use Rattle.bsdl_parser.specs.Places.{Phrase, is_word_token, is_text, any_word, any_text, contents}
use Rattle.bsdl_parser.specs.Bsdl.{string_piece, string, fallback, generic, port_name, ports_of, group, port_group, ports, used_package, constant, of_class, plain_value, port_value, clock_value, number_value, text_value, value_of, attribute_of, attribute, listed, Items, no_items, item_after, item_begin, item, file}
use Rattle.bsdl_parser.specs.Answer.{Derives}
use Rattle.bsdl_parser.specs.Entity.{HasShortText, IsSmall}

-- the cost of a name: its length, but at least 1
abbrev pub cost : List ℕ → ℕ
cost [] = 1
cost (x ∷ xs) = length (x ∷ xs)

pub length-cost : (xs : List ℕ) → length xs ≤ cost xs
length-cost [] = omega arith
length-cost (x ∷ xs) = omega arith

pub cost_some : (xs : List ℕ) → 0 < cost xs
cost_some [] = omega arith
cost_some (x ∷ xs) = omega arith

abbrev pub weight : Lexeme → ℕ
weight token = cost token.spelled

-- If the phrase, which is a grammar of a part of a BSDL text, derives a value from tokens, the cost of the
-- value is at most the total weight of the tokens.
abbrev Covers : {A : Type 0} → Phrase A → (A → ℕ) → Type 0
Covers g cost_of = (n : ℕ) → Keeps weight g n (λ m a. n + cost_of a ≤ m)

some_value : {A : Type 0} (b : Bool) (v a : A) → some_if b v ≡ Some a → v ≡ a
some_value true v a e = cc
some_value false v a e = cc

word_cost : Covers any_word cost
word_cost n =
    keeps_place
    (λ token name e. let same : token.spelled
    ≡ name = some_value (is_word_token token.kind) token.spelled name e in
    subst (λ xs. n + cost xs ≤ n + weight token) same (omega arith))

contents_short : (spelled : List ℕ) → length (contents spelled) ≤ length spelled
contents_short spelled = omega (arith, length-take (length spelled - 1 - 1) (drop 1 spelled), length-drop 1 spelled)

text_cost : Covers any_text length
text_cost n = keeps_place (λ token text e. (
    let same : contents token.spelled ≡ text = some_value (is_text token.kind) (contents token.spelled) text e in
    let short : length (contents token.spelled) ≤ length token.spelled = contents_short token.spelled in
    let fits : length token.spelled ≤ weight token = length-cost token.spelled in
    subst (λ xs. n + length xs ≤ n + weight token) same (omega arith)))

-- The cost of the items that a turn adds is at most the total weight of the turn's tokens. `n` is a bound for
-- `base` plus the cost of the items before the turn.
abbrev AddsTo : {A : Type 0} → (List A → Phrase (Turn (List A) (List A))) → (List A → ℕ) → Type 0
AddsTo {A} turn cost_of =
    (base : ℕ) (before : List A) (n : ℕ) → base + cost_of before ≤ n
    → Keeps weight (turn before) n
    (BehindTurn (λ m xs. base + cost_of xs ≤ m) (λ m xs. base + cost_of xs ≤ m))

turn_done : {A : Type 0} (goes_on : Bool) (xs : List A) (Fact : ℕ → List A → Type 0) (n : ℕ)
    → Fact n xs → BehindTurn Fact Fact n (turn_of goes_on xs)
turn_done true xs Fact n h = h
turn_done false xs Fact n h = h

piece_cost : (close : List ℕ) → AddsTo (string_piece close) length
unfolding string_piece
piece_cost close base before n h = keeps_in_turn (text_cost n) (λ piece m k. keeps_in_turn keeps_more (λ joined m' k'.
    keeps_done (turn_done joined (before ++ piece) (λ m xs. base + length xs ≤ m) m' (omega (arith, length-append before piece)))))

string_cost : (close : List ℕ) → Covers (string close) length
string_cost close n = keeps_turns (piece_cost close n) [] n (omega arith)

abbrev option_cost : Option (List ℕ) → ℕ
option_cost None = 0
option_cost (Some text) = length text

fallback_cost : (given : Bool) → Covers (fallback given) option_cost
fallback_cost false n = keeps_done (omega arith)
fallback_cost true n = keeps_in_turn keeps_more (λ _ m k. keeps_in_turn (string_cost _ m) (λ text m' k'. keeps_done (omega arith)))

generic_cost : Covers generic option_cost
unfolding generic
generic_cost n = keeps_in_turn keeps_more
    (λ _ a ha. keeps_in_turn keeps_more
    (λ _ b hb. keeps_in_turn keeps_more (λ _ c hc. keeps_in_turn keeps_more (λ _ d hd.
    keeps_in_turn keeps_more
    (λ given e he. keeps_in_turn (fallback_cost given e)
    (λ text f hf. keeps_in_turn keeps_more (λ _ g hg. keeps_done (omega arith))))))))

name_cost : AddsTo port_name (total cost)
unfolding port_name
name_cost base before n h = keeps_in_turn (word_cost n) (λ name m k. keeps_in_turn keeps_more (λ goes_on m' k'.
    keeps_done
    (turn_done goes_on (before ++ name ∷ []) (λ m xs. base + total cost xs ≤ m) m'
    (omega (arith, total-append cost before (name ∷ []))))))

abbrev port_cost : Port → ℕ
port_cost port = cost port.name

ports_of_cost : (names : List (List ℕ)) (direction : Mode) (bounds : Option Range)
    → total port_cost (ports_of names direction bounds) ≡ total cost names
ports_of_cost [] direction bounds = refl
ports_of_cost (name ∷ names) direction bounds = ap (λ n. cost name + n) (ports_of_cost names direction bounds)

group_cost : Covers group (total port_cost)
unfolding group
group_cost n = keeps_in_turn (keeps_turns (name_cost n) [] n (omega arith))
    (λ names a ha. keeps_in_turn keeps_more
    (λ direction b hb. keeps_in_turn keeps_more (λ is_vector c hc.
    keeps_in_turn keeps_more (λ bounds d hd. keeps_done (omega (arith, ports_of_cost names direction bounds))))))

port_group_cost : AddsTo port_group (total port_cost)
unfolding port_group
port_group_cost base before n h = keeps_in_turn (group_cost n) (λ added m k. keeps_in_turn keeps_more (λ goes_on m' k'.
    keeps_done
    (turn_done goes_on (before ++ added) (λ m xs. base + total port_cost xs ≤ m) m'
    (omega (arith, total-append port_cost before added)))))

ports_cost : Covers ports (total port_cost)
unfolding ports
ports_cost n =
    keeps_in_turn keeps_more
    (λ _ a ha. keeps_in_turn (keeps_turns (port_group_cost a) [] a (omega arith))
    (λ all b hb. keeps_in_turn keeps_more (λ _ c hc. keeps_done (omega arith))))

used_cost : Covers used_package cost
unfolding used_package
used_cost n =
    keeps_in_turn (word_cost n)
    (λ name a ha. keeps_in_turn keeps_more
    (λ _ b hb. keeps_in_turn keeps_more
    (λ _ c hc. keeps_in_turn keeps_more (λ _ d hd. keeps_done (omega arith)))))

abbrev constant_cost : Constant → ℕ
constant_cost one = cost one.name + length one.text

constant_covers : Covers constant constant_cost
unfolding constant
constant_covers n = keeps_in_turn (word_cost n)
    (λ name a ha. keeps_in_turn keeps_more
    (λ _ b hb. keeps_in_turn keeps_more
    (λ _ c hc. keeps_in_turn keeps_more (λ _ d hd. keeps_in_turn keeps_more (λ _ e he.
    keeps_in_turn (string_cost _ e) (λ text f hf. keeps_done (omega arith)))))))

class_cost : (class : List ℕ) → Covers (of_class class) length
unfolding of_class
class_cost class n = keeps_in_turn keeps_more
    (λ _ a ha. keeps_in_turn (word_cost a)
    (λ word b hb. keeps_in_turn keeps_more
    (λ _ c hc. keeps_in_turn keeps_more (λ _ d hd. keeps_in_turn keeps_more (λ _ e he.
    keeps_done (omega (arith, length-cost word)))))))

abbrev value_cost : AttrValue → ℕ
value_cost values.Plain = 0
value_cost (values.Port port) = length port
value_cost (values.Number number) = 0
value_cost (values.Text text) = length text

value_covers : (form : AttrForm) → Covers (value_of form) value_cost
unfolding plain_value port_value clock_value number_value text_value
value_covers forms.Plain n =
    keeps_in_turn keeps_more
    (λ _ a ha. keeps_in_turn keeps_more
    (λ _ b hb. keeps_in_turn keeps_more (λ _ c hc. keeps_done (omega arith))))
value_covers forms.Port n =
    keeps_in_turn (class_cost _ n)
    (λ port a ha. keeps_in_turn keeps_more
    (λ _ b hb. keeps_in_turn keeps_more (λ _ c hc. keeps_done (omega arith))))
value_covers forms.Clock n = keeps_in_turn (class_cost _ n)
    (λ port a ha. keeps_in_turn keeps_more
    (λ _ b hb. keeps_in_turn keeps_more (λ _ c hc. keeps_in_turn keeps_more (λ _ d hd.
    keeps_in_turn keeps_more
    (λ _ e he. keeps_in_turn keeps_more
    (λ _ f hf. keeps_in_turn keeps_more (λ _ g hg. keeps_done (omega arith))))))))
value_covers forms.Number n =
    keeps_in_turn keeps_more
    (λ _ a ha. keeps_in_turn keeps_more
    (λ number b hb. keeps_in_turn keeps_more (λ _ c hc. keeps_done (omega arith))))
value_covers forms.Text n = keeps_in_turn keeps_more (λ _ a ha. keeps_in_turn (string_cost _ a) (λ text b hb. keeps_done (omega arith)))

-- the cost of an attribute item, which is 1 for the item's first word plus the cost of the attribute's value
abbrev attr_cost : Attr → ℕ
attr_cost attr = 1 + value_cost attr.value

attribute_of_cost : (known : Option (Attribute × AttrForm)) (n : ℕ)
    → Keeps weight (attribute_of known) n (λ m one. n + total attr_cost (listed one) ≤ m + 1)
attribute_of_cost None n = keeps_in_turn keeps_more (λ _ a ha. keeps_done (omega arith))
attribute_of_cost (Some known) n = keeps_in_turn (value_covers known.1 n) (λ value a ha. keeps_done (omega arith))

attribute_cost : (n : ℕ) → Keeps weight attribute n (λ m one. n + total attr_cost (listed one) ≤ m + 1)
unfolding attribute
attribute_cost n = keeps_in_turn keeps_more (λ known a ha. weaker a known ha)
  where
    weaker : (a : ℕ) (known : Option (Attribute × AttrForm)) → n ≤ a
        → Keeps weight (attribute_of known) a (λ m one. n + total attr_cost (listed one) ≤ m + 1)
    weaker a known ha =
        record {
          kept = λ tokens one whole. let k : a + total attr_cost (listed one)
              ≤ a + total weight tokens + 1 = (attribute_of_cost known a).kept tokens one whole in
              omega arith;
        }

abbrev items_cost : Items → ℕ
items_cost items =
    option_cost items.fallback +
    (total port_cost items.ports +
    (total cost items.uses +
    (total constant_cost items.constants + total attr_cost items.attributes)))

begin_cost : (before : Items) → Covers (item_begin before) (λ word. 1)
begin_cost before n = keeps_place (λ token word e. let some : 0 < weight token = cost_some token.spelled in omega arith)

abbrev Within : ℕ → ℕ → Items → Type 0
Within base n items = base + items_cost items ≤ n

item_of_cost : (base : ℕ) (before : Items) (word : ItemWord) (n : ℕ)
    → base + items_cost before + 1 ≤ n
    → Keeps weight (item_after before word) n (BehindTurn (Within base) (Within base))
unfolding item_after
item_of_cost base before words.Generic n h = keeps_in_turn (generic_cost n) (λ text a ha. keeps_done (omega arith))
item_of_cost base before words.Port n h = keeps_in_turn (ports_cost n) (λ all a ha. keeps_done (omega arith))
item_of_cost base before words.Use n h =
    keeps_in_turn (used_cost n)
    (λ name a ha. keeps_done (omega (arith, total-append cost before.uses (name ∷ []))))
item_of_cost base before words.Constant n h =
    keeps_in_turn (constant_covers n)
    (λ one a ha. keeps_done (omega (arith, total-append constant_cost before.constants (one ∷ []))))
item_of_cost base before words.Attribute n h =
    keeps_in_turn (attribute_cost n)
    (λ one a ha. keeps_done (omega (arith, total-append attr_cost before.attributes (listed one))))
item_of_cost base before words.End n h = keeps_done (omega arith)

item_cost : (base : ℕ) (before : Items) (n : ℕ) → Within base n before
    → Keeps weight (item before) n (BehindTurn (Within base) (Within base))
unfolding item
item_cost base before n h = keeps_in_turn (begin_cost before n) (λ word a ha. item_of_cost base before word a (omega arith))

abbrev entity_cost : Entity → ℕ
entity_cost entity =
    cost entity.name +
    (option_cost entity.fallback +
    (total port_cost entity.ports +
    (total cost entity.uses +
    (total constant_cost entity.constants + total attr_cost entity.attributes))))

file_cost : Covers file entity_cost
unfolding file
file_cost n = keeps_in_turn keeps_more (λ _ a ha. keeps_in_turn (word_cost a) (λ name b hb. keeps_in_turn keeps_more (λ _ c hc.
    keeps_in_turn (keeps_turns (item_cost c) no_items c (omega arith))
    (λ items d hd. keeps_in_turn keeps_more
    (λ _ e he. keeps_in_turn keeps_more (λ _ f hf. keeps_done (omega arith)))))))

some_each : {X : Type 0} (f : X → ℕ) → ((x : X) → 0 < f x) → (xs : List X) → length xs ≤ total f xs
some_each f h [] = omega arith
some_each f h (x ∷ xs) = let others : length xs ≤ total f xs = some_each f h xs in let first : 0 < f x = h x in omega arith

each_below : {X : Type 0} (f : X → ℕ) (limit : ℕ) (xs : List X) → total f xs < limit → All (λ x. f x < limit) xs
each_below f limit [] h = All-nil (λ x. f x < limit)
each_below f limit (x ∷ xs) h = All-cons (λ x. f x < limit) x xs (omega arith) (each_below f limit xs (omega arith))

value_short : (value : AttrValue) → value_cost value < 2 ^ 32 → HasShortText value
value_short values.Plain h = tt
value_short (values.Port port) h = h
value_short (values.Number number) h = tt
value_short (values.Text text) h = h

small : (entity : Entity) → entity_cost entity < 2 ^ 32 → IsSmall entity
small entity h = record {
  ports =
      let k : length entity.ports
      ≤ total port_cost entity.ports = some_each port_cost (λ port. cost_some port.name)
      entity.ports in
      omega arith;
  constant_texts =
      All-weaker (λ (one : Constant). constant_cost one < 2 ^ 32)
      (λ (one : Constant). length one.text < 2 ^ 32) (λ one k. omega arith) entity.constants
      (each_below constant_cost (2 ^ 32) entity.constants (omega arith));
  attribute_texts =
      All-weaker (λ (one : Attr). attr_cost one < 2 ^ 32) (λ (one : Attr). HasShortText one.value)
      (λ one k. value_short one.value (omega arith)) entity.attributes
      (each_below attr_cost (2 ^ 32) entity.attributes (omega arith));
}

token_weight : (text : List ℕ) (token : Token) → IsToken text token → weight (lexeme_of text token) ≡ token.«end» - token.start
token_weight text token h =
    let some : token.start < token.«end» = some_bytes text token.start token.«end» token.kind h.form in
    let long : length (slice_range text token.start token.«end»)
    ≡ token.«end» - token.start = length-range text token.start token.«end» h.within in
    let spelled : length (map to_ascii_uppercase (slice_range text token.start token.«end»))
    ≡ token.«end» - token.start = length-map (slice_range text token.start token.«end»)
    to_ascii_uppercase ∙ long in
    exact (map to_ascii_uppercase (slice_range text token.start token.«end»)) spelled (omega arith)
  where
    exact : (xs : List ℕ) → length xs ≡ token.«end» - token.start → 0 < token.«end» - token.start → cost xs ≡ token.«end» - token.start
    exact [] e some = omega arith
    exact (x ∷ xs) e some = e

tokens_weight : (text : List ℕ) (tokens : List Token) (from to : ℕ) → Stand text from tokens to
    → from + total weight (lexemes text tokens) ≤ to
tokens_weight text [] from to h = let order : from ≤ to = h.order in omega arith
tokens_weight text (token ∷ tokens) from to h =
    let order : from ≤ token.start = h.0.order in
    let some : token.start < token.«end» = some_bytes text token.start token.«end» token.kind h.1.form in
    let first : weight (lexeme_of text token) ≡ token.«end» - token.start = token_weight text token h.1 in
    let others : token.«end» + total weight (lexemes text tokens) ≤ to = tokens_weight text tokens token.«end» to h.2 in
    omega arith

pub is_small : (text : List ℕ) (tokens : List Token) (entity : Entity) → length text < 2 ^ 32
    → AreTokens text tokens → Derives (lexemes text tokens) entity → IsSmall entity
is_small text tokens entity short h derives =
    let covers : 0 + entity_cost entity
    ≤ 0 + total weight (lexemes text tokens) = (file_cost 0).kept (lexemes text tokens) entity
    derives in
    let fits : 0 + total weight (lexemes text tokens) ≤ length text = tokens_weight text tokens 0 (length text) h.whole in
    small entity (omega arith)
