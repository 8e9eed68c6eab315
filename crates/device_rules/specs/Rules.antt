-- The first rule that a draft breaks. A draft is a device as its BSDL text states it.
use Rattle.std.specs.Prelude.{◌≡◌, ℕ, ◌^◌, ◌<◌, length, Option, Some, None, Result, Ok, Err}
use Rattle.device_rules.specs.declared.draft.Draft.{Draft}
use Rattle.device_rules.specs.declared.broken.Broken.{Broken}
use Rattle.device_rules.specs.declared.fault.DraftFault.{DraftFault}
use Rattle.device_rules.specs.declared.fault.DraftFault.TheVariants as faults
use Rattle.device_rules.specs.declared.broken.Rule.{Rule}
use Rattle.device_rules.specs.declared.broken.Rule.TheVariants.{Ports, TestPort, PinMap, Opcodes, Instructions, Patterns, Cells, Places, Controls, DisableValues, Stages, Drivers, Modes}
use Rattle.device_rules.specs.RuleNumbers.{broken_at}
use Rattle.device_rules.specs.Ports.{v2}
use Rattle.device_rules.specs.Taps.{v3}
use Rattle.device_rules.specs.PinMap.{v4}
use Rattle.instruction_rules.specs.Instructions.{v5, v6, v7}
use Rattle.device_rules.specs.Cells.{v8, v10, v11, v12}
use Rattle.device_rules.specs.Places.{v9, v13, v14}

-- If an item breaks the rule, the result is the rule and this item. Otherwise it is `after`, the result for the later
-- rules.
abbrev pub rule : Rule → Option ℕ → Option Broken → Option Broken
rule which None after = after
rule which (Some item) after = Some (broken_at which item)

-- the first of the rules V11 to V14 that the draft breaks, with the first item that breaks it
unfoldable pub from_11 : Draft → Option Broken
from_11 draft =
    rule DisableValues (v11 draft.boundary draft.entries) (
    rule Stages (v12 draft.boundary draft.entries) (
    rule Drivers (v13 draft.ports draft.entries) (
    rule Modes (v14 draft.ports draft.taps draft.entries) None)))

-- the first of the rules V9 to V14 that the draft breaks, with the first item that breaks it
unfoldable pub from_9 : Draft → Option Broken
from_9 draft =
    rule Places (v9 draft.ports draft.entries) (
    rule Controls (v10 draft.entries) (
    from_11 draft))

-- the first of the rules V8 to V14 that the draft breaks, with the first item that breaks it
unfoldable pub from_8 : Draft → Option Broken
from_8 draft = rule Cells (v8 draft.boundary draft.entries) (from_9 draft)

-- the first of the rules V5 to V14 that the draft breaks, with the first item that breaks it
unfoldable pub from_5 : Draft → Option Broken
from_5 draft =
    rule Opcodes (v5 draft.ir draft.opcodes) (
    rule Instructions (v6 draft.edition draft.opcodes) (
    rule Patterns (v7 draft.ir draft.capture draft.idcode) (
    from_8 draft)))

-- the first of the rules V3 to V14 that the draft breaks, with the first item that breaks it
unfoldable pub from_3 : Draft → Option Broken
from_3 draft =
    rule TestPort (v3 draft.ports draft.taps draft.compliance) (
    rule PinMap (v4 draft.ports draft.map) (
    from_5 draft))

-- the first of the rules V2 to V14 that the draft breaks, with the first item that breaks it
unfoldable pub first_rule : Draft → Option Broken
first_rule draft = rule Ports (v2 draft.ports) (from_3 draft)

-- If the result is a value, the draft breaks none of the rules V2 to V14, and `IsWanted` holds for the value. If the
-- result names a rule and an item, the rule is the first of these that the draft breaks, and the item is the first
-- that breaks the rule. If memory ran out, nothing is claimed.
abbrev pub IfSound : {A : Type 0} → Draft → (A → Type 0) → Result A DraftFault → Type 0
IfSound draft IsWanted (Ok value) = (first_rule draft ≡ None) × IsWanted value
IfSound draft IsWanted (Err (faults.Rule broken)) = first_rule draft ≡ Some broken
IfSound draft IsWanted (Err (faults.Memory error)) = Unit {0}

-- the draft breaks none of the rules V2 to V14
pub record KeepsRules (draft : Draft) : Type 0 where
  pub v2 : v2 draft.ports ≡ None
  pub v3 : v3 draft.ports draft.taps draft.compliance ≡ None
  pub v4 : v4 draft.ports draft.map ≡ None
  pub v5 : v5 draft.ir draft.opcodes ≡ None
  pub v6 : v6 draft.edition draft.opcodes ≡ None
  pub v7 : v7 draft.ir draft.capture draft.idcode ≡ None
  pub v8 : v8 draft.boundary draft.entries ≡ None
  pub v9 : v9 draft.ports draft.entries ≡ None
  pub v10 : v10 draft.entries ≡ None
  pub v11 : v11 draft.boundary draft.entries ≡ None
  pub v12 : v12 draft.boundary draft.entries ≡ None
  pub v13 : v13 draft.ports draft.entries ≡ None
  pub v14 : v14 draft.ports draft.taps draft.entries ≡ None

-- the lists of ports, of pin map entries, of opcodes and of boundary entries each have fewer than
-- 2^32 items
pub record HasShortLists (draft : Draft) : Type 0 where
  pub ports : length draft.ports < 2 ^ 32
  pub map : length draft.map < 2 ^ 32
  pub opcodes : length draft.opcodes < 2 ^ 32
  pub entries : length draft.entries < 2 ^ 32
