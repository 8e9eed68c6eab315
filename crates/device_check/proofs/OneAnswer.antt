-- An entity has at most one answer for each package. The answer is its device or its first fault.
use Rattle.std.proofs.Common.{◌≡◌, ℕ, List, [], ◌∷◌, Option, Some, None, Result, Ok, Err, inl, inr, refl, sym, ◌∙◌, ap, subst}
use Rattle.std.proofs.lemmas.Option.{IfSome_then}
use Rattle.answers.specs.Gives.{Gives}
use Rattle.board_defs.specs.declared.device.RawDevice.{RawDevice}
use Rattle.board_defs.specs.declared.device.Symbol.{Symbol}
use Rattle.bsdl_parser.specs.declared.entity.Entity.{Entity}
use Rattle.bsdl_strings.specs.declared.values.Compliance.{Compliance}
use Rattle.grammars.specs.Lists.{list_of}
use Rattle.grammars.proofs.ListReaders.{each_takes, one_value}
use Rattle.bsdl_strings.specs.Pieces.{pieces}
use Rattle.bsdl_strings.specs.Places.{comma_or_end}
use Rattle.bsdl_strings.specs.Strings.{map_entry, opcode, entry, IsListOf, IsNoListOf, IsPattern, IsNoPattern, IsCompliance, IsNoCompliance, HasFirstParenthesis}
use Rattle.bsdl_strings.specs.Strings as strings_of
use Rattle.bsdl_strings.proofs.Lists.{can_maps, can_opcodes, can_entries}
use Rattle.bsdl_strings.proofs.ComplianceLemmas.{compliance_takes}
use Rattle.device_rules.specs.declared.broken.Broken.{Broken}
use Rattle.device_rules.specs.Rules.{first_rule}
use Rattle.device_rules.specs.Raw.{raw_device}
use Rattle.device_check.specs.declared.fault.DeviceFault.{DeviceFault}
use Rattle.device_check.specs.declared.fault.DeviceFault.TheVariants.{Rule, Text, Memory}
use Rattle.device_check.specs.declared.strings.Strings.{Strings}
use Rattle.bsdl_parser.specs.declared.entity.Attribute.TheVariants.{IdcodeRegister, CompliancePatterns}
use Rattle.device_check.specs.declared.sources.Source.{Source}
use Rattle.device_check.specs.Sources.{source_number}
use Rattle.device_check.specs.Attributes.{text_of_attribute}
use Rattle.device_check.specs.Needed.{FoundValues, v1}
use Rattle.device_check.specs.DeviceStrings.{MayBe, MayLeave, DeviceString, pin_map, opcodes, capture, idcode, compliance, boundary, IsReadString, Leaves, LeavesFirst, strings_in_order, AreStrings}
use Rattle.device_check.specs.SoundDevice.{FailsNeed, FailsRule, FailsText, IsSound, draft_of, IsDeviceAnswer, device_told}
use Rattle.device_check.proofs.StringLemmas.{one_number}

one_place : (text : List ℕ) (n m : ℕ) → IsNoPattern text n → IsNoPattern text m → n ≡ m
one_place text n m x y = x.place ∙ sym y.place

one_parenthesis : (text : List ℕ) (n m : ℕ) → IsNoCompliance text n → IsNoCompliance text m → n ≡ m
one_parenthesis text n m x y = elim x.place [
  | inl a ↦ elim y.place [ inl b ↦ a.0 ∙ sym b.0 | inr b ↦ absurd (a.1 b.1) ]
  | inr a ↦ elim y.place [ inl b ↦ absurd (b.1 a.1) | inr b ↦ a.0 ∙ sym b.0 ]
]

maybe_once : (IsNo : List ℕ → ℕ → Type 0)
    → ((text : List ℕ) (n m : ℕ) → IsNo text n → IsNo text m → n ≡ m)
    → (text : Option (List ℕ)) (n m : ℕ) → MayLeave IsNo text n → MayLeave IsNo text m → n ≡ m
maybe_once IsNo once None n m x y = absurd x
maybe_once IsNo once (Some text) n m x y = once text n m x y

leaves_once : (entity : Entity) (found : FoundValues) (string : DeviceString) (n m : ℕ)
    → Leaves entity found string n → Leaves entity found string m → n ≡ m
leaves_once entity found pin_map n m x y = one_number (pieces found.chosen.pin_map) n m x y
leaves_once entity found opcodes n m x y = one_number (pieces found.registers.opcodes) n m x y
leaves_once entity found capture n m x y = one_place found.registers.capture n m x y
leaves_once entity found idcode n m x y = maybe_once IsNoPattern one_place (text_of_attribute entity IdcodeRegister) n m x y
leaves_once entity found compliance n m x y =
    maybe_once IsNoCompliance one_parenthesis (text_of_attribute entity CompliancePatterns) n m x y
leaves_once entity found boundary n m x y = one_number (pieces found.registers.boundary) n m x y

maybe_not : {A : Type 0} (Is : List ℕ → A → Type 0) (IsNo : List ℕ → ℕ → Type 0)
    → ((text : List ℕ) (value : A) (n : ℕ) → Is text value → IsNo text n → ⊥)
    → (text : Option (List ℕ)) (value : Option A) (n : ℕ) → MayBe Is text value
    → MayLeave IsNo text n → ⊥
maybe_not Is IsNo never None value n x y = y
maybe_not Is IsNo never (Some text) None n x y = x
maybe_not Is IsNo never (Some text) (Some value) n x y = never text value n x y

read_not_left : (entity : Entity) (found : FoundValues) (string : DeviceString) (n : ℕ)
    → IsReadString entity found string → Leaves entity found string n → ⊥
read_not_left entity found pin_map n x y = y.no_value x.0 x.1
read_not_left entity found opcodes n x y = y.no_value x.0 x.1
read_not_left entity found capture n x y = y.no_value x.0 x.1
read_not_left entity found idcode n x y =
    maybe_not IsPattern IsNoPattern (λ text value n a b. b.no_value value a)
    (text_of_attribute entity IdcodeRegister) x.0 n x.1 y
read_not_left entity found compliance n x y =
    maybe_not IsCompliance IsNoCompliance (λ text value n a b. b.no_value value a)
    (text_of_attribute entity CompliancePatterns) x.0 n x.1 y
read_not_left entity found boundary n x y = y.no_value x.0 x.1

one_first : (entity : Entity) (found : FoundValues) (strings : List DeviceString) (a n b m : ℕ)
    → LeavesFirst entity found strings a n → LeavesFirst entity found strings b m
    → (a ≡ b) × (n ≡ m)
one_first entity found [] a n b m x y = absurd x
one_first entity found (string ∷ strings) a n b m x y = by x y (λ u v. one_first entity found strings a n b m u v)
  where
    by : LeavesFirst entity found (string ∷ strings) a n
        → LeavesFirst entity found (string ∷ strings) b m
        → (LeavesFirst entity found strings a n → LeavesFirst entity found strings b m
        → (a ≡ b) × (n ≡ m)) → (a ≡ b) × (n ≡ m)
    by (inl u) (inl v) again = (u.0 ∙ sym v.0, leaves_once entity found string n m u.1 v.1)
    by (inl u) (inr v) again = absurd (read_not_left entity found string n v.0 u.1)
    by (inr u) (inl v) again = absurd (read_not_left entity found string m u.0 v.1)
    by (inr u) (inr v) again = again u.1 v.1

none_first : (entity : Entity) (found : FoundValues) (strings : List DeviceString) (a n : ℕ)
    → ((string : DeviceString) → IsReadString entity found string)
    → LeavesFirst entity found strings a n → ⊥
none_first entity found [] a n read x = x
none_first entity found (string ∷ strings) a n read x =
    elim x [
      | inl u ↦ read_not_left entity found string n (read string) u.1
      | inr u ↦ none_first entity
          found strings a n read u.1
    ]

each_read : (entity : Entity) (found : FoundValues) (strings : Strings)
    → AreStrings entity found strings → (string : DeviceString) → IsReadString entity found string
each_read entity found strings h pin_map = (strings.map, h.map_is)
each_read entity found strings h opcodes = (strings.opcodes, h.opcodes_are)
each_read entity found strings h capture = (strings.capture, h.capture_is)
each_read entity found strings h idcode = (strings.idcode, h.idcode_is)
each_read entity found strings h compliance = (strings.compliance, h.compliance_is)
each_read entity found strings h boundary = (strings.entries, h.entries_are)

maybe_same : {A : Type 0} (Is : List ℕ → A → Type 0)
    → ((text : List ℕ) (a b : A) → Is text a → Is text b → a ≡ b)
    → (text : Option (List ℕ)) (a b : Option A) → MayBe Is text a → MayBe Is text b → a ≡ b
maybe_same Is same None None None x y = refl
maybe_same Is same None None (Some b) x y = absurd y
maybe_same Is same None (Some a) b x y = absurd x
maybe_same Is same (Some text) None b x y = absurd x
maybe_same Is same (Some text) (Some a) None x y = absurd y
maybe_same Is same (Some text) (Some a) (Some b) x y = ap Some (same text a b x y)

one_code : (text : List ℕ) (a b : List Symbol) → IsPattern text a → IsPattern text b → a ≡ b
one_code text a b x y = x.1 ∙ sym y.1

one_compliance : (text : List ℕ) (a b : Compliance) → IsCompliance text a → IsCompliance text b → a ≡ b
one_compliance text a b x y = one_value strings_of.compliance compliance_takes (pieces text) a b x y

-- each string has at most one value
one_strings : (entity : Entity) (found : FoundValues) (s t : Strings) → AreStrings entity found s → AreStrings entity found t → s ≡ t
one_strings entity found s t x y =
    let map = one_value (list_of map_entry comma_or_end) (each_takes can_maps)
    (pieces found.chosen.pin_map) s.map t.map x.map_is y.map_is in
    let ops = one_value (list_of opcode comma_or_end) (each_takes can_opcodes)
    (pieces found.registers.opcodes) s.opcodes t.opcodes x.opcodes_are y.opcodes_are in
    let code = one_code found.registers.capture s.capture t.capture x.capture_is y.capture_is in
    let id = maybe_same IsPattern one_code (text_of_attribute entity IdcodeRegister) s.idcode t.idcode x.idcode_is y.idcode_is in
    let comp = maybe_same IsCompliance one_compliance (text_of_attribute entity CompliancePatterns)
    s.compliance t.compliance x.compliance_is y.compliance_is in
    let cells = one_value (list_of entry comma_or_end) (each_takes can_entries)
    (pieces found.registers.boundary) s.entries t.entries x.entries_are y.entries_are in
    let same : ◌≡◌ {A = Strings}
    (record {
      map = s.map;
      opcodes = s.opcodes;
      capture = s.capture;
      idcode = s.idcode;
      compliance =
          s.compliance;
      entries = s.entries;
    })
    (record {
      map = t.map;
      opcodes = t.opcodes;
      capture = t.capture;
      idcode = t.idcode;
      compliance =
          t.compliance;
      entries = t.entries;
    }) =
    rw (map, ops, code, id, comp, cells) refl in
    same

some_is : {A : Type 0} (a b : A) → ◌≡◌ {A = Option A} (Some a) (Some b) → a ≡ b
some_is a b e = cc e

ok_is : (a b : FoundValues) → ◌≡◌ {A = Result FoundValues Source} (Ok a) (Ok b) → a ≡ b
ok_is a b e = cc e

err_is : (a b : Source) → ◌≡◌ {A = Result FoundValues Source} (Err a) (Err b) → a ≡ b
err_is a b e = cc e

none_is_some : {A : Type 0} {P : Type 0} (o : Option A) (a : A) → o ≡ None → o ≡ Some a → P
none_is_some o a e f = cc (e, f)

ok_is_err : {P : Type 0} (r : Result FoundValues Source) (found : FoundValues) (source : Source) → r ≡ Ok found → r ≡ Err source → P
ok_is_err r found source e f = cc (e, f)

same_rule : (a n b m : ℕ) → ◌≡◌ {A = Broken} (record { rule = a; item = n }) (record { rule = b; item = m }) → Rule a n ≡ Rule b m
same_rule a n b m e = ap (λ broken. Rule broken.rule broken.item) e

both_rules : (a n b m : ℕ) → a ≡ b → n ≡ m → ◌≡◌ {A = DeviceFault} (Rule a n) (Rule b m)
both_rules a n b m e f = rw (e, f) refl

both_texts : (a n b m : ℕ) → a ≡ b → n ≡ m → ◌≡◌ {A = DeviceFault} (Text a n) (Text b m)
both_texts a n b m e f = rw (e, f) refl

one_found : (entity : Entity) (given : Option (List ℕ)) (f g : FoundValues) → v1 entity given ≡ Ok f → v1 entity given ≡ Ok g → f ≡ g
one_found entity given f g x y = ok_is f g (sym x ∙ y)

one_draft : (entity : Entity) (given : Option (List ℕ)) (f g : FoundValues) (s t : Strings)
    → v1 entity given ≡ Ok f → v1 entity given ≡ Ok g → AreStrings entity f s
    → AreStrings entity g t → draft_of entity f s ≡ draft_of entity g t
one_draft entity given f g s t e d x y =
    let found = one_found entity given f g e d in
    let strings = one_strings entity g s t (subst (λ (h : FoundValues). AreStrings entity h s) found x) y in
    rw (found, strings) refl

same_sound : (entity : Entity) (given : Option (List ℕ)) (d e : RawDevice) → IsSound entity given d → IsSound entity given e → d ≡ e
same_sound entity given d e x y =
    x.device_is
    ∙ ap raw_device
    (one_draft entity given x.found y.found x.strings y.strings x.needed y.needed x.read y.read)
    ∙ sym y.device_is

same_broken : (entity : Entity) (given : Option (List ℕ)) (a n b m : ℕ) → FailsRule entity given a n
    → FailsRule entity given b m → Rule a n ≡ Rule b m
same_broken entity given a n b m x y =
    let same = one_draft entity given x.found y.found x.strings y.strings x.needed y.needed x.read y.read in
    same_rule a n b m
    (some_is (record { rule = a; item = n }) (record { rule = b; item = m })
    (sym x.broken ∙ ap first_rule same ∙ y.broken))

same_need : (entity : Entity) (given : Option (List ℕ)) (a n b m : ℕ) → FailsNeed entity given a n
    → FailsNeed entity given b m → Rule a n ≡ Rule b m
same_need entity given a n b m x y =
    both_rules a n b m (x.number_is ∙ sym y.number_is)
    (x.item_is ∙ ap source_number (err_is x.source y.source (sym x.wrong ∙ y.wrong))
    ∙ sym y.item_is)

same_text : (entity : Entity) (given : Option (List ℕ)) (a n b m : ℕ) → FailsText entity given a n
    → FailsText entity given b m → Text a n ≡ Text b m
same_text entity given a n b m x y =
    let found = one_found entity given x.found y.found x.needed y.needed in
    let same = one_first entity y.found strings_in_order a n b m
    (subst (λ (h : FoundValues). LeavesFirst entity h strings_in_order a n) found x.leaves)
    y.leaves in
    both_texts a n b m same.0 same.1

not_broken : (entity : Entity) (given : Option (List ℕ)) (d : RawDevice) (b m : ℕ) {P : Type 0}
    → IsSound entity given d → FailsRule entity given b m → P
not_broken entity given d b m x y =
    let same = one_draft entity given x.found y.found x.strings y.strings x.needed y.needed x.read y.read in
    none_is_some (first_rule (draft_of entity y.found y.strings)) (record { rule = b; item = m })
    (sym (ap first_rule same) ∙ x.kept) y.broken

not_left : (entity : Entity) (given : Option (List ℕ)) (found : FoundValues) (strings : Strings)
    (b m : ℕ) {P : Type 0} → v1 entity given ≡ Ok found → AreStrings entity found strings
    → FailsText entity given b m → P
not_left entity given found strings b m e read y =
    let same = one_found entity given found y.found e y.needed in
    absurd
    (none_first entity y.found strings_in_order b m
    (each_read entity y.found strings
    (subst (λ (h : FoundValues). AreStrings entity h strings) same read)) y.leaves)

pub one_answer : (entity : Entity) (given : Option (List ℕ)) (x y : Result RawDevice DeviceFault)
    → IsDeviceAnswer entity given x → IsDeviceAnswer entity given y → x ≡ y
one_answer entity given (Ok d) (Ok e) x y = ap Ok (same_sound entity given d e x y)
one_answer entity given (Ok d) (Err (Rule b m)) x (inl y) = ok_is_err (v1 entity given) x.found y.source x.needed y.wrong
one_answer entity given (Ok d) (Err (Rule b m)) x (inr y) = not_broken entity given d b m x y
one_answer entity given (Ok d) (Err (Text b m)) x y = not_left entity given x.found x.strings b m x.needed x.read y
one_answer entity given (Ok d) (Err (Memory e)) x y = absurd y
one_answer entity given (Err (Rule a n)) (Ok d) (inl x) y = ok_is_err (v1 entity given) y.found x.source y.needed x.wrong
one_answer entity given (Err (Rule a n)) (Ok d) (inr x) y = not_broken entity given d a n y x
one_answer entity given (Err (Rule a n)) (Err (Rule b m)) (inl x) (inl y) = ap Err (same_need entity given a n b m x y)
one_answer entity given (Err (Rule a n)) (Err (Rule b m)) (inl x) (inr y) = ok_is_err (v1 entity given) y.found x.source y.needed x.wrong
one_answer entity given (Err (Rule a n)) (Err (Rule b m)) (inr x) (inl y) = ok_is_err (v1 entity given) x.found y.source x.needed y.wrong
one_answer entity given (Err (Rule a n)) (Err (Rule b m)) (inr x) (inr y) = ap Err (same_broken entity given a n b m x y)
one_answer entity given (Err (Rule a n)) (Err (Text b m)) (inl x) y = ok_is_err (v1 entity given) y.found x.source y.needed x.wrong
one_answer entity given (Err (Rule a n)) (Err (Text b m)) (inr x) y = not_left entity given x.found x.strings b m x.needed x.read y
one_answer entity given (Err (Rule a n)) (Err (Memory e)) x y = absurd y
one_answer entity given (Err (Text a n)) (Ok d) x y = not_left entity given y.found y.strings a n y.needed y.read x
one_answer entity given (Err (Text a n)) (Err (Rule b m)) x (inl y) = ok_is_err (v1 entity given) x.found y.source x.needed y.wrong
one_answer entity given (Err (Text a n)) (Err (Rule b m)) x (inr y) = not_left entity given y.found y.strings a n y.needed y.read x
one_answer entity given (Err (Text a n)) (Err (Text b m)) x y = ap Err (same_text entity given a n b m x y)
one_answer entity given (Err (Text a n)) (Err (Memory e)) x y = absurd y
one_answer entity given (Err (Memory e)) y x z = absurd x

pub only_answer : (entity : Entity) (given : Option (List ℕ))
    (result : Result RawDevice DeviceFault)
    → Gives device_told (λ device. device) (IsDeviceAnswer entity given) result
    → Gives device_told (λ device. device)
    (λ answer. (other : Result RawDevice DeviceFault) → IsDeviceAnswer entity given other
    → other ≡ answer) result
only_answer entity given (Ok d) h = λ other k. one_answer entity given other (Ok d) k h
only_answer entity given (Err fault) h = IfSome_then (device_told fault) h (λ f is other k. one_answer entity given other (Err f) k is)
