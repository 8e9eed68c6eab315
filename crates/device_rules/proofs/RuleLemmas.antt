-- If a draft, which is a device as its BSDL text states it, breaks no rule, the function of each rule returns None, so each rule holds.
use Rattle.std.proofs.Common.{◌≡◌, ℕ, List, Option, Some, None, Bool, refl, subst}
use Rattle.device_rules.specs.declared.draft.Draft.{Draft}
use Rattle.device_rules.specs.declared.broken.Broken.{Broken}
use Rattle.device_rules.specs.declared.broken.Rule.{Rule}
use Rattle.device_rules.specs.declared.broken.Rule.TheVariants.{Ports, TestPort, PinMap, Opcodes, Instructions, Patterns, Cells, Places, Controls, DisableValues, Stages, Drivers, Modes}
use Rattle.first_places.specs.Items.{first_break, least_below, KeepsRule, IsFound, IsLeast}
use Rattle.device_rules.specs.Ports.{v2}
use Rattle.device_rules.specs.Taps.{v3}
use Rattle.device_rules.specs.PinMap.{v4}
use Rattle.instruction_rules.specs.Instructions.{v5, v6, v7}
use Rattle.device_rules.specs.Cells.{v8, v10, v11, v12}
use Rattle.device_rules.specs.Places.{v9, v13, v14}
use Rattle.device_rules.specs.Rules.{rule, from_3, from_5, from_8, from_9, from_11, first_rule, KeepsRules}
use Rattle.device_rules.proofs.ItemLemmas.{first_is_found}
use Rattle.device_rules.proofs.LeastLemmas.{is_least}

abbrev BothNone : Option ℕ → Option Broken → Type 0
BothNone item after = (item ≡ None) × (after ≡ None)

none_found : (which : Rule) (item : Option ℕ) (after : Option Broken) → rule which item after ≡ None → BothNone item after
none_found which None after e = (refl, e)
none_found which (Some item) after e = cc e

from_11_none : (draft : Draft) → from_11 draft ≡ None
    → (v11 draft.boundary draft.entries ≡ None) × (v12 draft.boundary draft.entries ≡ None)
    × (v13 draft.ports draft.entries ≡ None) × (v14 draft.ports draft.taps draft.entries ≡ None)
unfolding from_11
from_11_none draft e =
    let a = none_found DisableValues _ _ e in
    let b = none_found Stages _ _ a.1 in
    let c = none_found Drivers _ _ b.1 in
    let d = none_found Modes _ _ c.1 in
    (a.0, b.0, c.0, d.0)

from_9_none : (draft : Draft) → from_9 draft ≡ None
    → (v9 draft.ports draft.entries ≡ None) × (v10 draft.entries ≡ None) × (from_11 draft ≡ None)
unfolding from_9
from_9_none draft e =
    let a = none_found Places _ _ e in
    let b = none_found Controls _ _ a.1 in
    (a.0, b.0, b.1)

from_8_none : (draft : Draft) → from_8 draft ≡ None → (v8 draft.boundary draft.entries ≡ None) × (from_9 draft ≡ None)
unfolding from_8
from_8_none draft e = none_found Cells _ _ e

from_5_none : (draft : Draft) → from_5 draft ≡ None
    → (v5 draft.ir draft.opcodes ≡ None) × (v6 draft.edition draft.opcodes ≡ None)
    × (v7 draft.ir draft.capture draft.idcode ≡ None) × (from_8 draft ≡ None)
unfolding from_5
from_5_none draft e =
    let a = none_found Opcodes _ _ e in
    let b = none_found Instructions _ _ a.1 in
    let c = none_found Patterns _ _ b.1 in
    (a.0, b.0, c.0, c.1)

from_3_none : (draft : Draft) → from_3 draft ≡ None
    → (v3 draft.ports draft.taps draft.compliance ≡ None) × (v4 draft.ports draft.map ≡ None)
    × (from_5 draft ≡ None)
unfolding from_3
from_3_none draft e =
    let a = none_found TestPort _ _ e in
    let b = none_found PinMap _ _ a.1 in
    (a.0, b.0, b.1)

from_2_none : (draft : Draft) → first_rule draft ≡ None → (v2 draft.ports ≡ None) × (from_3 draft ≡ None)
unfolding first_rule
from_2_none draft e = none_found Ports _ _ e

pub keeps_rules : (draft : Draft) → first_rule draft ≡ None → KeepsRules draft
keeps_rules draft e =
    let p = from_2_none draft e in
    let a = from_3_none draft p.1 in
    let b = from_5_none draft a.2 in
    let f = from_8_none draft b.3 in
    let c = from_9_none draft f.1 in
    let d = from_11_none draft c.2 in
    record {
      v2 = p.0;
      v3 = a.0;
      v4 = a.1;
      v5 = b.0;
      v6 = b.1;
      v7 = b.2;
      v8 = f.0;
      v9 = c.0;
      v10 = c.1;
      v11 = d.0;
      v12 = d.1;
      v13 = d.2;
      v14 = d.3;
    }

pub holds : {A : Type 0} (breaks : List A → A → Bool) (items : List A) → first_break breaks items ≡ None → KeepsRule breaks items
holds breaks items e = subst (IsFound breaks items) e (first_is_found breaks items)

pub none_below : (is : ℕ → Bool) (bound : ℕ) → least_below is bound ≡ None → IsLeast is bound None
none_below is bound e = subst (IsLeast is bound) e (is_least is bound)
