-- The contents of the index of the ports, of the index of the pin map, and of the set of port bits that the compliance
-- patterns name.
use Rattle.std.specs.Prelude.{◌≡◌, ℕ, ◌+◌, ◌-◌, ◌≤◌, List, [], length, map, take, nat_eq, Bool, false, ◌&&◌, if◌then◌else◌, Option, Some, None, nat_le, slice_index}
use Rattle.std.specs.Borrow.{Bor}
use Rattle.std.specs.Str.{bytes_eq}
use Rattle.std.specs.List.{list_any, position_from}
use Rattle.std.specs.Option.{option_eq}
use Rattle.std.specs.HashSet.{HashSet, contains}
use Rattle.indexmap.specs.IndexMap.{IndexMap, get_by}
use Rattle.bsdl_parser.specs.declared.entity.Port.{Port}
use Rattle.bsdl_parser.specs.declared.entity.Range.{Range}
use Rattle.bsdl_strings.specs.declared.values.Compliance.{Compliance}
use Rattle.bsdl_strings.specs.declared.values.PortWord.{PortWord}
use Rattle.bsdl_strings.specs.declared.values.PortWord.TheVariants.{Star, Plain, Index}
use Rattle.device_rules.specs.Ports.{Bit, bit_total, v2}

-- `lent` borrows the names in `names`, in the same order
abbrev pub AreLent : List (Bor (List ℕ)) → List (List ℕ) → Type 0
AreLent lent names = map (λ n. n.now) lent ≡ names

-- for every name, the look-up in the map returns what `place` returns
abbrev pub FindsPlaces : {S : Type 0} → IndexMap (Bor (List ℕ)) ℕ S → (List ℕ → Option ℕ) → Type 0
FindsPlaces places place = (q : Bor (List ℕ)) → get_by (λ n. bytes_eq q.now n.now) places ≡ place q.now

-- `starts` has the number of bits before each port, followed by the number of all bits
pub record AreBitStarts (ports : List Port) (starts : List ℕ) : Type 0 where
  pub size : length starts ≡ length ports + 1
  pub each : (n : ℕ) → n ≤ length ports → slice_index starts n ≡ bit_total (take n ports)

-- the ports keep rule V2, and `starts` has the number of bits before each port, followed by the number of all
-- bits
pub record IsIndex (ports : List Port) (starts : List ℕ) : Type 0 where
  pub rule : v2 ports ≡ None
  pub counted : AreBitStarts ports starts

abbrev pub is_item_called : {A : Type 0} → (A → List ℕ) → List ℕ → A → Bool
is_item_called name_in name = λ item. bytes_eq (name_in item) name

-- the place of the first item with this name, counted from 0, or None if no item has the name
abbrev pub place_called : {A : Type 0} → (A → List ℕ) → List A → List ℕ → Option ℕ
place_called name_in items name = position_from (is_item_called name_in name) 0 items

-- The place of an index in a range, counted from 0 and from left to right, or None if the range does not contain the
-- index. A port without a range has one bit, which has no index and place 0.
abbrev pub index_place : Option Range → Option ℕ → Option ℕ
index_place None None = Some 0
index_place None (Some number) = None
index_place (Some range) None = None
index_place (Some range) (Some number) =
    if range.up then (if nat_le range.left number && nat_le number range.right then Some (number - range.left) else None) else
    if nat_le range.right number && nat_le number range.left then Some (range.left - number) else None

-- The index at a place of a range, or None if there is no range. Places count from 0, from left to right.
abbrev pub index_at : Option Range → ℕ → Option ℕ
index_at None place = None
index_at (Some range) place = Some (if range.up then range.left + place else range.left - place)

-- the bit at `place` of the port
abbrev pub bit_of_port : ℕ → Port → ℕ → Bit
bit_of_port number port place =
    record {
      port = number;
      name = port.name;
      index = index_at port.range place;
      place = place;
      mode =
          port.mode;
    }

-- the key of a word: the name and the index of the bit that the word names, or None for `*`
abbrev pub key_of : PortWord → Option (List ℕ × Option ℕ)
key_of Star = None
key_of (Plain name) = Some (name, None)
key_of (Index name number) = Some (name, Some number)

abbrev pub is_key : Option (List ℕ × Option ℕ) → List ℕ → Option ℕ → Bool
is_key None name index = false
is_key (Some key) name index = bytes_eq key.0 name && option_eq nat_eq key.1 index

-- the word names the bit with this name and index
abbrev pub names_bit : List ℕ → Option ℕ → PortWord → Bool
names_bit name index word = is_key (key_of word) name index

-- the words that name the bits of the compliance patterns; no words if there are no patterns
abbrev pub compliance_words : Option Compliance → List PortWord
compliance_words None = []
compliance_words (Some compliance) = compliance.ports

-- the set has the bit with this name and this index
abbrev pub has_key : {S : Type 0} → HashSet (Bor (List ℕ) × Option ℕ) S → Bor (List ℕ) × Option ℕ → Bool
has_key bits key = contains (λ x y. bytes_eq x.0.now y.0.now && option_eq nat_eq x.1 y.1) bits key

-- the set has exactly the bits that these words name
abbrev pub HasBits : {S : Type 0} → HashSet (Bor (List ℕ) × Option ℕ) S → List PortWord → Type 0
HasBits bits words = (name : Bor (List ℕ)) (index : Option ℕ) → has_key bits (name, index) ≡ list_any (names_bit name.now index) words
