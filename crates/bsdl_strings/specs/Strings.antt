-- The grammars of the strings inside a BSDL text, as far as an interconnect test needs them (IEEE 1149.1b-1994 and IEEE
-- 1149.1-2001, Annex B), and the values of the strings. The comment above a production is its EBNF rule. The pieces of
-- a string are its tokens. A mark is a piece of one byte, such as a comma.
use Rattle.std.specs.Prelude.{◌≡◌, ℕ, ◌+◌, List, [], ◌∷◌, ◌++◌, length, Bool, true, false, Option, Some, None, IsTrue, ◌⊎◌}
use Rattle.std.specs.List.{take_while}
use Rattle.board_defs.specs.declared.device.Symbol.{Symbol}
use Rattle.board_defs.specs.declared.device.Control.{Control}
use Rattle.grammars.specs.Turn.{Turn, turn_of}
use Rattle.grammars.specs.Production.{Follows}
use Rattle.grammars.specs.Grammar.{done, turns, production_of, ◌>>=◌}
use Rattle.grammars.specs.Lists.{list_of, GoesWrongAt}
use Rattle.bsdl_strings.specs.declared.values.MapEntry.{MapEntry}
use Rattle.bsdl_strings.specs.declared.values.Opcode.{Opcode}
use Rattle.bsdl_strings.specs.declared.values.PortWord.{PortWord}
use Rattle.bsdl_strings.specs.declared.values.PortWord.TheVariants.{Star, Plain, Index}
use Rattle.bsdl_strings.specs.declared.values.Entry.{Entry}
use Rattle.bsdl_strings.specs.declared.values.Compliance.{Compliance}
use Rattle.bsdl_strings.specs.Pieces.{pieces}
use Rattle.bsdl_strings.specs.Places.{Part, mark, either_mark, comma_or_end, word, pin, pin_or_open, word_or_star, after_bit, the_end, index, code, safe_symbol, bit_mark, role, result_word, open_mark, close_mark, comma, colon, is_symbol, is_code_piece, code_of}

-- a comma or a closing parenthesis; the value is true for the comma
abbrev pub comma_or_close : Part Bool
comma_or_close = either_mark comma close_mark

-- The pins of a map entry after the first piece of its pins. If this piece is a pin, nothing more
-- is read. If it is "(", the rest is pin { "," pin } ")".
abbrev pub entry_pins : Option (List ℕ) → Part (List (List ℕ))
entry_pins (Some name) = done (name ∷ [])
entry_pins None = list_of pin comma_or_close

-- map = word ":" pin | word ":" "(" pin { "," pin } ")"
unfoldable pub map_entry : Part MapEntry
map_entry = do
  port ← word
  _ ← mark colon
  first ← pin_or_open
  pins ← entry_pins first
  done (record { port = port; pins = pins })

-- op = word "(" code { "," code } ")"
unfoldable pub opcode : Part Opcode
opcode = do
  name ← word
  _ ← mark open_mark
  codes ← list_of code comma_or_close
  done (record { name = name; codes = codes })

-- The rest of a place after its port name and the next mark. A place is the port of an entry, or `*` if the
-- entry has none. The flag is true if the mark is "(". The rest is then index ")" ",". If the mark is ",", nothing
-- more is read.
abbrev pub indexed : List ℕ → Bool → Part PortWord
indexed name false = done (Plain name)
indexed name true = do
  i ← index
  _ ← mark close_mark
  _ ← mark comma
  done (Index name i)

-- The rest of a place after `*` or the port name.
abbrev pub rest_of_place : Option (List ℕ) → Part PortWord
rest_of_place None = do
  _ ← mark comma
  done Star
rest_of_place (Some name) = do
  opens ← either_mark open_mark comma
  indexed name opens

-- place = "*" | word | word "(" index ")", and the comma that follows it
unfoldable pub port_place : Part PortWord
port_place = do
  first ← word_or_star
  rest_of_place first

-- The rest of a control after its first mark. A control is the last part of an entry: a control cell, a
-- disable value and a disable result, if the entry has them. After "," the rest is index "," value "," result
-- ")". After ")" nothing more is read. The disable result is not part of the value.
abbrev pub control_of : Bool → Part (Option Control)
control_of false = done None
control_of true = do
  cell ← index
  _ ← mark comma
  disable ← bit_mark
  _ ← mark comma
  _ ← result_word
  _ ← mark close_mark
  done (Some (record { cell = cell; disable = disable }))

-- [ "," index "," value "," result ] ")"
unfoldable pub control : Part (Option Control)
control = do
  more ← comma_or_close
  control_of more

-- index "(" word ",", in which the word is the cell name, such as BC_1; this name is not used
unfoldable pub cell : Part ℕ
cell = do
  num ← index
  _ ← mark open_mark
  _ ← word
  _ ← mark comma
  done num

-- entry = index "(" word "," place "," function "," safe [ "," index "," value "," result ] ")"
unfoldable pub entry : Part Entry
entry = do
  num ← cell
  port ← port_place
  role ← role
  _ ← mark comma
  safe ← safe_symbol
  ctl ← control
  done (record { num = num; port = port; role = role; safe = safe; ctl = ctl })

-- The rest of a compliance bit after its port name and the next mark. After "(" the rest is index ")" and a
-- comma or ")". After any other mark nothing more is read. The second value is true if another bit follows.
abbrev pub bit_behind : List ℕ → Option Bool → Part (PortWord × Bool)
bit_behind name (Some more) = done (Plain name, more)
bit_behind name None = do
  i ← index
  _ ← mark close_mark
  more ← comma_or_close
  done (Index name i, more)

-- bit = word | word "(" index ")", followed by a mark; the second value is true if the mark is a
-- comma, so that another bit follows
unfoldable pub bit : Part (PortWord × Bool)
bit = do
  name ← word
  next ← after_bit
  bit_behind name next

-- one bit and the mark after it, which is a comma if another bit follows
unfoldable pub bit_turn : List PortWord → Part (Turn (List PortWord) (List PortWord))
bit_turn before = do
  one ← bit
  done (turn_of one.1 (before ++ one.0 ∷ []))

-- bit { "," bit } ")"
abbrev pub bits : Part (List PortWord)
bits = turns bit_turn []

-- "(" bit { "," bit } ")"
unfoldable pub first_parenthesis : Part (List PortWord)
first_parenthesis = do
  _ ← mark open_mark
  bits

-- "(" code { "," code } ")", and the end of the string
unfoldable pub second_parenthesis : Part (List (List Symbol))
second_parenthesis = do
  _ ← mark open_mark
  patterns ← list_of code comma_or_close
  _ ← the_end
  done patterns

-- compliance = "(" bit { "," bit } ")" "(" code { "," code } ")"
unfoldable pub compliance : Part Compliance
compliance = do
  ports ← first_parenthesis
  patterns ← second_parenthesis
  done (record { ports = ports; patterns = patterns })

-- the string is a list of these entries, separated by commas, and the values of the entries are
-- `values`
abbrev pub IsListOf : {A : Type 0} → Part A → List ℕ → List A → Type 0
IsListOf entry text values = (production_of (list_of entry comma_or_end)).Whole (pieces text) values

-- The string is not a list of these entries. Entry `number`, counted from 1, is the first wrong
-- entry: each entry before it is whole and followed by a comma.
abbrev pub IsNoListOf : {A : Type 0} → Part A → List ℕ → ℕ → Type 0
IsNoListOf entry text number = GoesWrongAt entry comma_or_end number (pieces text)

-- pin map = map { "," map }
abbrev pub IsPinMap : List ℕ → List MapEntry → Type 0
IsPinMap text = IsListOf map_entry text

-- the string is not a pin map, and entry `number`, counted from 1, is the first wrong entry
abbrev pub IsNoPinMap : List ℕ → ℕ → Type 0
IsNoPinMap text = IsNoListOf map_entry text

-- opcodes = op { "," op }
abbrev pub AreOpcodes : List ℕ → List Opcode → Type 0
AreOpcodes text = IsListOf opcode text

-- the string is not an opcode string, and entry `number`, counted from 1, is the first wrong entry
abbrev pub AreNoOpcodes : List ℕ → ℕ → Type 0
AreNoOpcodes text = IsNoListOf opcode text

-- boundary = entry { "," entry }
abbrev pub IsBoundary : List ℕ → List Entry → Type 0
IsBoundary text = IsListOf entry text

-- the string is not a boundary register, and entry `number`, counted from 1, is the first wrong
-- entry
abbrev pub IsNoBoundary : List ℕ → ℕ → Type 0
IsNoBoundary text = IsNoListOf entry text

-- pattern = code, without any other characters: one or more of 0, 1 and X
abbrev pub IsPattern : List ℕ → List Symbol → Type 0
IsPattern text value = IsTrue (is_code_piece text) × (value ≡ code_of text)

-- The string is not a pattern. `number` is the place of the first character that is not 0, 1 or X, counted from 1, or 1 for an empty
-- string.
pub record IsNoPattern (text : List ℕ) (number : ℕ) : Type 0 where
  pub no_value : (value : List Symbol) → IsPattern text value → ⊥
  pub place : number ≡ length (take_while is_symbol text) + 1

-- the string is a compliance string with this value
abbrev pub IsCompliance : List ℕ → Compliance → Type 0
IsCompliance text value = (production_of compliance).Whole (pieces text) value

-- the string begins with a whole list of port bits in parentheses
abbrev pub HasFirstParenthesis : List ℕ → Type 0
HasFirstParenthesis text = Follows (production_of first_parenthesis) (λ ports rest. Unit {0}) (pieces text)

-- The string is not a compliance string. `number` is 2 if the string begins with a whole list of port bits in
-- parentheses, and otherwise 1.
pub record IsNoCompliance (text : List ℕ) (number : ℕ) : Type 0 where
  pub no_value : (value : Compliance) → IsCompliance text value → ⊥
  pub place : ((number ≡ 1) × ¬ HasFirstParenthesis text) ⊎ ((number ≡ 2) × HasFirstParenthesis text)
