-- An entity has at least one answer for each package. The answer is its device or its first fault.
use Rattle.std.proofs.Common.{◌≡◌, ℕ, List, [], ◌∷◌, Option, Some, None, Result, Ok, Err, ◌⊎◌, inl, inr, refl, sym, ◌∙◌}
use Rattle.board_defs.specs.declared.device.RawDevice.{RawDevice}
use Rattle.bsdl_parser.specs.declared.entity.Entity.{Entity}
use Rattle.bsdl_strings.specs.declared.values.Compliance.{Compliance}
use Rattle.bsdl_strings.specs.declared.values.PortWord.{PortWord}
use Rattle.grammars.specs.inner.Reader.{Outcome, found, refused}
use Rattle.grammars.specs.Grammar.{production_of, reader_of_grammar}
use Rattle.grammars.proofs.Exact.{Decides}
use Rattle.grammars.proofs.Grammars.{EachTurnTakes, decides_grammar}
use Rattle.grammars.proofs.ListReaders.{CanRead, read_front, found_front}
use Rattle.bsdl_strings.specs.Pieces.{pieces}
use Rattle.bsdl_strings.specs.Places.{Part, comma_or_end}
use Rattle.bsdl_strings.specs.Strings.{first_parenthesis, IsListOf, IsNoListOf, IsPinMap, AreOpcodes, IsPattern, IsNoPattern, IsCompliance, IsNoCompliance, HasFirstParenthesis, IsBoundary}
use Rattle.bsdl_strings.specs.Strings as grammar
use Rattle.bsdl_strings.proofs.Lists.{can_maps, can_opcodes, can_entries}
use Rattle.bsdl_strings.proofs.ComplianceLemmas.{compliance_takes}
use Rattle.device_rules.specs.declared.broken.Rule.TheVariants.{Mandatory}
use Rattle.device_rules.specs.RuleNumbers.{rule_number}
use Rattle.device_rules.specs.declared.broken.Broken.{Broken}
use Rattle.device_rules.specs.Rules.{first_rule}
use Rattle.device_rules.specs.Raw.{raw_device}
use Rattle.device_check.specs.declared.fault.DeviceFault.{DeviceFault}
use Rattle.device_check.specs.declared.fault.DeviceFault.TheVariants.{Rule, Text}
use Rattle.device_check.specs.declared.strings.Strings.{Strings}
use Rattle.bsdl_parser.specs.declared.entity.Attribute.TheVariants.{IdcodeRegister, CompliancePatterns}
use Rattle.device_check.specs.declared.sources.Source.{Source}
use Rattle.device_check.specs.Sources.{source_number}
use Rattle.device_check.specs.Attributes.{text_of_attribute}
use Rattle.device_check.specs.Needed.{FoundValues, v1}
use Rattle.device_check.specs.DeviceStrings.{MayBe, MayLeave, DeviceString, pin_map, opcodes, capture, idcode, compliance, boundary, string_number, IsReadString, Leaves, LeavesFirst, strings_in_order, AreStrings}
use Rattle.device_check.specs.SoundDevice.{draft_of, IsDeviceAnswer}
use Rattle.device_check.proofs.OrderLemmas.{in_pin_map, in_opcodes, in_capture, in_idcode, in_compliance, in_boundary}
use Rattle.device_check.proofs.StringLemmas.{Answered, listed, wrong, answered, pattern_answered}

list_answered : {A : Type 0} {entry : Part A} → CanRead entry comma_or_end → (text : List ℕ)
    → ((values : List A) × IsListOf entry text values) ⊎ ((n : ℕ) × IsNoListOf entry text n)
list_answered {A} {entry} can text = by_answer (answered can text)
  where
    by_answer : Answered entry comma_or_end (pieces text)
        → ((values : List A) × IsListOf entry text values) ⊎ ((n : ℕ) × IsNoListOf entry text n)
    by_answer (listed values whole size) = inl (values, whole)
    by_answer (wrong n h) = inr (n, h)

first_takes : EachTurnTakes first_parenthesis
unfolding grammar.compliance
first_takes = compliance_takes.0

-- the number in the fault of COMPLIANCE_PATTERNS is 2 if the string begins with a whole list of port bits in
-- parentheses, and otherwise 1
which_parenthesis : (text : List ℕ) → (n : ℕ) × (((n ≡ 1) × ¬ HasFirstParenthesis text) ⊎ ((n ≡ 2) × HasFirstParenthesis text))
which_parenthesis text = by_reader (reader_of_grammar first_parenthesis (pieces text)) refl
  where
    by_reader : (o : Outcome (List ℕ) (List PortWord))
        → reader_of_grammar first_parenthesis (pieces text) ≡ o
        → (n : ℕ) × (((n ≡ 1) × ¬ HasFirstParenthesis text) ⊎ ((n ≡ 2) × HasFirstParenthesis text))
    by_reader (found ports mid) e =
        let k = read_front first_parenthesis first_takes (pieces text) ports mid e in
        (2, inr (refl, record { front = k.front; back = mid; value = ports; split = k.split; first = k.whole; next = tt }))
    by_reader (refused rest) e = (
      1,
      inl (
        refl,
        λ h. (let k = found_front first_parenthesis first_takes (pieces text) h.front h.back
            h.value h.split h.first in
            cc (e, k)),
      ),
    )

not_whole : (text : List ℕ) (o : Outcome (List ℕ) Compliance)
    → reader_of_grammar grammar.compliance (pieces text) ≡ o
    → ((value : Compliance) → o ≡ found value [] → ⊥) → (n : ℕ) × IsNoCompliance text n
not_whole text o e never =
    let d : Decides (production_of grammar.compliance) (reader_of_grammar grammar.compliance) =
    decides_grammar grammar.compliance compliance_takes in
    let k = which_parenthesis text in
    (k.0, record { no_value = λ value whole. never value (sym e ∙ d.whole (pieces text) value whole); place = k.1 })

compliance_answered : (text : List ℕ) → ((value : Compliance) × IsCompliance text value) ⊎ ((n : ℕ) × IsNoCompliance text n)
compliance_answered text = by_reader (reader_of_grammar grammar.compliance (pieces text)) refl
  where
    by_reader : (o : Outcome (List ℕ) Compliance)
        → reader_of_grammar grammar.compliance (pieces text) ≡ o
        → ((value : Compliance) × IsCompliance text value) ⊎ ((n : ℕ) × IsNoCompliance text n)
    by_reader (found value []) e = inl (value, (decides_grammar grammar.compliance compliance_takes).is_whole (pieces text) value e)
    by_reader (found value (t ∷ rest)) e = inr (not_whole text (found value (t ∷ rest)) e (λ other k. cc k))
    by_reader (refused rest) e = inr (not_whole text (refused rest) e (λ other k. cc k))

maybe_answered : {A : Type 0} (Is : List ℕ → A → Type 0) (IsNo : List ℕ → ℕ → Type 0)
    → ((text : List ℕ) → ((value : A) × Is text value) ⊎ ((n : ℕ) × IsNo text n))
    → (text : Option (List ℕ))
    → ((value : Option A) × MayBe Is text value) ⊎ ((n : ℕ) × MayLeave IsNo text n)
maybe_answered Is IsNo answers None = inl (None, tt)
maybe_answered {A} Is IsNo answers (Some text) = by_answer (answers text)
  where
    by_answer : ((value : A) × Is text value) ⊎ ((n : ℕ) × IsNo text n)
        → ((value : Option A) × MayBe Is (Some text) value)
        ⊎ ((n : ℕ) × MayLeave IsNo (Some text) n)
    by_answer (inl x) = inl (Some x.0, x.1)
    by_answer (inr y) = inr y

read_or_left : (entity : Entity) (needs : FoundValues) (string : DeviceString)
    → IsReadString entity needs string ⊎ ((n : ℕ) × Leaves entity needs string n)
read_or_left entity needs pin_map = list_answered can_maps needs.chosen.pin_map
read_or_left entity needs opcodes = list_answered can_opcodes needs.registers.opcodes
read_or_left entity needs capture = pattern_answered needs.registers.capture
read_or_left entity needs idcode = maybe_answered IsPattern IsNoPattern pattern_answered (text_of_attribute entity IdcodeRegister)
read_or_left entity needs compliance =
    maybe_answered IsCompliance IsNoCompliance compliance_answered
    (text_of_attribute entity CompliancePatterns)
read_or_left entity needs boundary = list_answered can_entries needs.registers.boundary

-- either all strings have values, or some string is the first that does not fit its grammar
pub data Gathered (entity : Entity) (needs : FoundValues) : Type 0 where
  values : (strings : Strings) → AreStrings entity needs strings → Gathered entity needs
  leaves : (attribute entry : ℕ) → LeavesFirst entity needs strings_in_order attribute entry → Gathered entity needs

module _ (entity : Entity) (needs : FoundValues) where
  from_boundary : IsReadString entity needs pin_map → IsReadString entity needs opcodes
      → IsReadString entity needs capture → IsReadString entity needs idcode
      → IsReadString entity needs compliance
      → IsReadString entity needs boundary ⊎ ((n : ℕ) × Leaves entity needs boundary n)
      → Gathered entity needs
  from_boundary m o c i p (inl b) =
      values (record { map = m.0; opcodes = o.0; capture = c.0; idcode = i.0; compliance = p.0; entries = b.0 })
      (record { map_is = m.1; opcodes_are = o.1; capture_is = c.1; idcode_is = i.1; compliance_is = p.1; entries_are = b.1 })
  from_boundary m o c i p (inr l) =
      leaves (string_number boundary) l.0
      (in_boundary entity needs (Text (string_number boundary) l.0) m.0 o.0 c.0 i.0 p.0 m.1 o.1 c.1
      i.1 p.1 (refl, l.1))

  from_compliance : IsReadString entity needs pin_map → IsReadString entity needs opcodes
      → IsReadString entity needs capture → IsReadString entity needs idcode
      → IsReadString entity needs compliance ⊎ ((n : ℕ) × Leaves entity needs compliance n)
      → Gathered entity needs
  from_compliance m o c i (inl p) = from_boundary m o c i p (read_or_left entity needs boundary)
  from_compliance m o c i (inr l) =
      leaves (string_number compliance) l.0
      (in_compliance entity needs (Text (string_number compliance) l.0) m.0 o.0 c.0 i.0 m.1 o.1 c.1
      i.1 (refl, l.1))

  from_idcode : IsReadString entity needs pin_map → IsReadString entity needs opcodes
      → IsReadString entity needs capture
      → IsReadString entity needs idcode ⊎ ((n : ℕ) × Leaves entity needs idcode n)
      → Gathered entity needs
  from_idcode m o c (inl i) = from_compliance m o c i (read_or_left entity needs compliance)
  from_idcode m o c (inr l) =
      leaves (string_number idcode) l.0
      (in_idcode entity needs (Text (string_number idcode) l.0) m.0 o.0 c.0 m.1 o.1 c.1 (refl, l.1))

  from_capture : IsReadString entity needs pin_map → IsReadString entity needs opcodes
      → IsReadString entity needs capture ⊎ ((n : ℕ) × Leaves entity needs capture n)
      → Gathered entity needs
  from_capture m o (inl c) = from_idcode m o c (read_or_left entity needs idcode)
  from_capture m o (inr l) =
      leaves (string_number capture) l.0
      (in_capture entity needs (Text (string_number capture) l.0) m.0 o.0 m.1 o.1 (refl, l.1))

  from_opcodes : IsReadString entity needs pin_map
      → IsReadString entity needs opcodes ⊎ ((n : ℕ) × Leaves entity needs opcodes n)
      → Gathered entity needs
  from_opcodes m (inl o) = from_capture m o (read_or_left entity needs capture)
  from_opcodes m (inr l) =
      leaves (string_number opcodes) l.0
      (in_opcodes entity needs (Text (string_number opcodes) l.0) m.0 m.1 (refl, l.1))

  from_pin_map : IsReadString entity needs pin_map ⊎ ((n : ℕ) × Leaves entity needs pin_map n) → Gathered entity needs
  from_pin_map (inl m) = from_opcodes m (read_or_left entity needs opcodes)
  from_pin_map (inr l) = leaves (string_number pin_map) l.0 (in_pin_map entity needs (Text (string_number pin_map) l.0) (refl, l.1))

module _ (entity : Entity) (given : Option (List ℕ)) where
  by_rule : (needs : FoundValues) (strings : Strings) → v1 entity given ≡ Ok needs
      → AreStrings entity needs strings → (o : Option Broken)
      → first_rule (draft_of entity needs strings) ≡ o
      → (answer : Result RawDevice DeviceFault) × IsDeviceAnswer entity given answer
  by_rule needs strings e read None f = (
    Ok (raw_device (draft_of entity needs strings)),
    record
        { found = needs; needed = e; strings = strings; read = read; kept = f; device_is = refl },
  )
  by_rule needs strings e read (Some broken) f = (
    Err (Rule broken.rule broken.item),
    inr (record { found = needs; needed = e; strings = strings; read = read; broken = f }),
  )

  by_strings : (needs : FoundValues) → v1 entity given ≡ Ok needs → Gathered entity needs
      → (answer : Result RawDevice DeviceFault) × IsDeviceAnswer entity given answer
  by_strings needs e (values strings read) = by_rule needs strings e read (first_rule (draft_of entity needs strings)) refl
  by_strings needs e (leaves attribute entry l) = (Err (Text attribute entry), record { found = needs; needed = e; leaves = l })

  by_need : (r : Result FoundValues Source) → v1 entity given ≡ r
      → (answer : Result RawDevice DeviceFault) × IsDeviceAnswer entity given answer
  by_need (Err source) e = (
    Err (Rule (rule_number Mandatory) (source_number source)),
    inl (record { number_is = refl; source = source; wrong = e; item_is = refl }),
  )
  by_need (Ok needs) e = by_strings needs e (from_pin_map entity needs (read_or_left entity needs pin_map))

  pub some_answer : (answer : Result RawDevice DeviceFault) × IsDeviceAnswer entity given answer
  some_answer = by_need (v1 entity given) refl
