-- The answer of an entity, which is its device or its first fault, from the results of three steps:
-- V1, the strings, and the rules V2 to V14.
use Rattle.std.proofs.Common.{◌≡◌, ℕ, List, Option, Result, Ok, Err, inl, inr, refl, sym, subst}
use Rattle.std.specs.Option.{IfSome}
use Rattle.board_defs.specs.Limits.{most_bits, most_instruction_bits}
use Rattle.answers.specs.Gives.{Gives}
use Rattle.board_defs.specs.declared.device.RawDevice.{RawDevice}
use Rattle.bsdl_parser.specs.declared.entity.Entity.{Entity}
use Rattle.bsdl_parser.specs.Entity.{IsSmall}
use Rattle.bsdl_strings.proofs.Lists.{can_maps, can_opcodes, can_entries}
use Rattle.device_rules.specs.declared.broken.Rule.TheVariants.{Mandatory}
use Rattle.device_rules.specs.RuleNumbers.{rule_number}
use Rattle.device_rules.specs.declared.draft.Draft.{Draft}
use Rattle.device_rules.specs.Rules.{HasShortLists}
use Rattle.device_rules.specs.Raw.{HasLengths}
use Rattle.device_check.specs.declared.fault.DeviceFault.{DeviceFault}
use Rattle.device_check.specs.declared.fault.DeviceFault.TheVariants.{Rule, Text, Memory}
use Rattle.bsdl_parser.specs.declared.entity.Attribute.TheVariants.{InstructionLength, BoundaryLength}
use Rattle.device_check.specs.declared.sources.Source.{Source}
use Rattle.device_check.specs.declared.strings.Strings.{Strings}
use Rattle.device_check.specs.Sources.{source_number}
use Rattle.device_check.specs.Attributes.{only_number}
use Rattle.device_check.specs.Needed.{FoundValues, v1}
use Rattle.device_check.specs.DeviceStrings.{AreStrings, LeavesFirst, strings_in_order}
use Rattle.device_check.specs.inner.Reading.{NamesPlace, IsJudgedDraft}
use Rattle.device_check.specs.SoundDevice.{draft_of, IsDeviceAnswer, device_told}
use Rattle.device_check.proofs.FoundLemmas.{found_is, lies_within}
use Rattle.device_check.proofs.StringLemmas.{few_entries}
use Rattle.device_check.proofs.TextLemmas.{short_strings}

pub needs_answer : (entity : Entity) (given : Option (List ℕ)) (source : Source)
    → v1 entity given ≡ Err source
    → IsDeviceAnswer entity given (Err (Rule (rule_number Mandatory) (source_number source)))
needs_answer entity given source e = inl (record { number_is = refl; source = source; wrong = e; item_is = refl })

pub text_answer : (entity : Entity) (given : Option (List ℕ)) (found : FoundValues)
    (fault : DeviceFault) → v1 entity given ≡ Ok found
    → NamesPlace (LeavesFirst entity found strings_in_order) fault
    → IfSome (device_told fault) (λ f. IsDeviceAnswer entity given (Err f))
text_answer entity given found (Rule number item) e h = absurd h
text_answer entity given found (Text attribute entry) e h = record { found = found; needed = e; leaves = h }
text_answer entity given found (Memory error) e h = tt

pub judged_answer : (entity : Entity) (given : Option (List ℕ)) (found : FoundValues)
    (strings : Strings) (draft : Draft) (result : Result RawDevice DeviceFault)
    → v1 entity given ≡ Ok found → AreStrings entity found strings
    → draft ≡ draft_of entity found strings
    → IsJudgedDraft draft result → Gives device_told (λ device. device) (IsDeviceAnswer entity given) result
judged_answer entity given found strings draft result e read is h = by_result result (subst (λ d. IsJudgedDraft d result) is h)
  where
    by_result : (result : Result RawDevice DeviceFault)
        → IsJudgedDraft (draft_of entity found strings) result
        → Gives device_told (λ device. device) (IsDeviceAnswer entity given) result
    by_result (Ok device) k = record { found = found; needed = e; strings = strings; read = read; kept = k.0; device_is = k.1 }
    by_result (Err (Rule number item)) k = inr (record { found = found; needed = e; strings = strings; read = read; broken = k })
    by_result (Err (Text attribute entry)) k = absurd k
    by_result (Err (Memory error)) k = tt

short_lists : (entity : Entity) (given : Option (List ℕ)) (found : FoundValues) (strings : Strings)
    → IsSmall entity → v1 entity given ≡ Ok found → AreStrings entity found strings
    → HasShortLists (draft_of entity found strings)
short_lists entity given found strings small e read =
    let short = short_strings entity given found small e in
    record {
      ports = small.ports;
      map = few_entries can_maps found.chosen.pin_map strings.map read.map_is short.pin_map;
      opcodes = few_entries can_opcodes found.registers.opcodes strings.opcodes read.opcodes_are short.opcodes;
      entries = few_entries can_entries found.registers.boundary strings.entries read.entries_are short.boundary;
    }

pub short_draft : (entity : Entity) (given : Option (List ℕ)) (found : FoundValues)
    (strings : Strings) (draft : Draft) → IsSmall entity → v1 entity given ≡ Ok found
    → AreStrings entity found strings → draft ≡ draft_of entity found strings → HasShortLists draft
short_draft entity given found strings draft small e read is =
    subst HasShortLists (sym is) (short_lists entity given found strings small e read)

pub lengths_hold : (entity : Entity) (given : Option (List ℕ)) (found : FoundValues)
    (strings : Strings) → v1 entity given ≡ Ok found → HasLengths (draft_of entity found strings)
lengths_hold entity given found strings e =
    let is = found_is entity given found e in
    let ir = lies_within 2 most_instruction_bits (only_number entity InstructionLength) found.registers.instruction_length is.length_is in
    let boundary = lies_within 1 most_bits (only_number entity BoundaryLength) found.registers.boundary_length is.cells_are in
    record { ir_least = ir.0; ir_most = ir.1; boundary_least = boundary.0; boundary_most = boundary.1 }

pub has_lengths : (entity : Entity) (given : Option (List ℕ)) (found : FoundValues)
    (strings : Strings) (draft : Draft) → v1 entity given ≡ Ok found
    → draft ≡ draft_of entity found strings → HasLengths draft
has_lengths entity given found strings draft e is = subst HasLengths (sym is) (lengths_hold entity given found strings e)
