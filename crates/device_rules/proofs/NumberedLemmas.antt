-- The rules V3 (on attributes), V6 (on instruction codes) and V7 (on patterns) find the lowest number of an item that
-- breaks the rule. V8 finds the first entry outside the register, or otherwise the lowest cell number without an entry.
use Rattle.std.proofs.Common.{◌≡◌, ℕ, List, [], ◌∷◌, ◌++◌, Bool, true, false, not, if◌then◌else◌, Option, Some, None, inl, inr, refl, ap, subst}
use Rattle.std.specs.Prelude.{nat_le, find, option_map}
use Rattle.board_defs.specs.declared.device.Symbol.{Symbol}
use Rattle.board_defs.specs.declared.device.Edition.{Edition}
use Rattle.bsdl_parser.specs.declared.entity.Attribute.{Attribute}
use Rattle.bsdl_parser.specs.declared.entity.Attribute.TheVariants.{TapScanIn, TapScanOut, TapScanMode, TapScanClock, TapScanReset, CompliancePatterns}
use Rattle.bsdl_parser.specs.declared.entity.Port.{Port}
use Rattle.bsdl_parser.specs.AttributeNumbers.{attribute_number}
use Rattle.bsdl_strings.specs.declared.values.Compliance.{Compliance}
use Rattle.bsdl_strings.specs.declared.values.Entry.{Entry}
use Rattle.bsdl_strings.specs.declared.values.Opcode.{Opcode}
use Rattle.device_rules.specs.declared.draft.TapPorts.{TapPorts}
use Rattle.first_places.specs.Items.{or_else, broken_by, least_below, KeepsRule, IsLeast}
use Rattle.instruction_rules.specs.Instructions.{v6, v7}
use Rattle.device_rules.specs.Taps.{v3}
use Rattle.device_rules.specs.Cells.{too_large, is_missing, v8}
use Rattle.device_rules.specs.Numbered.{breaks_attribute, lacks_code, breaks_pattern, is_outside, IsOutside, IsMissing, IsWrongCell}
use Rattle.device_rules.proofs.LeastLemmas.{is_least}

six_cases : (a b c d e f : Bool) → ◌≡◌ {A = Option ℕ}
    (if a then Some (attribute_number TapScanIn) else if b then Some (attribute_number TapScanOut)
    else if c then Some (attribute_number TapScanMode) else
    if d then Some (attribute_number TapScanClock) else if e then Some
    (attribute_number TapScanReset) else if f then Some (attribute_number CompliancePatterns)
    else None)
    (or_else
    (or_else (broken_by (attribute_number TapScanIn) a)
    (or_else (broken_by (attribute_number TapScanOut) b)
    (or_else (broken_by (attribute_number TapScanMode) c)
    (or_else (broken_by (attribute_number TapScanClock) d)
    (broken_by (attribute_number TapScanReset) e)))))
    (broken_by (attribute_number CompliancePatterns) f))
six_cases true b c d e f = refl
six_cases false true c d e f = refl
six_cases false false true d e f = refl
six_cases false false false true e f = refl
six_cases false false false false true f = refl
six_cases false false false false false true = refl
six_cases false false false false false false = refl

pub v3_finds : (ports : List Port) (taps : TapPorts) (compliance : Option Compliance)
    → IsLeast (breaks_attribute ports taps compliance) 14 (v3 ports taps compliance)
unfolding v3
v3_finds ports taps compliance =
    let breaks = breaks_attribute ports taps compliance in
    let by : Attribute → Bool = λ attribute. breaks (attribute_number attribute) in
    subst (IsLeast breaks 14)
    (six_cases (by TapScanIn) (by TapScanOut) (by TapScanMode) (by TapScanClock)
    (by TapScanReset) (by CompliancePatterns)) (is_least breaks 14)

three_cases : (a b c : Bool)
    → ◌≡◌ {A = Option ℕ}
    (if not a then Some 1 else if not b then Some 2 else if not c then Some 3 else None)
    (if not a then Some 1 else if not b then Some 2 else if c then None else Some 3)
three_cases true true true = refl
three_cases true true false = refl
three_cases true false c = refl
three_cases false b c = refl

two_cases : (a b : Bool)
    → ◌≡◌ {A = Option ℕ} (if not a then Some 1 else if not b then Some 2 else None)
    (if not a then Some 1 else if b then None else Some 2)
two_cases true true = refl
two_cases true false = refl
two_cases false b = refl

pub v6_finds : (edition : Edition) (ops : List Opcode) → IsLeast (lacks_code edition ops) 4 (v6 edition ops)
unfolding v6
v6_finds edition ops = subst (IsLeast (lacks_code edition ops) 4) (three_cases _ _ _) (is_least (lacks_code edition ops) 4)

pub v7_finds : (ir : ℕ) (capture : List Symbol) (idcode : Option (List Symbol))
    → IsLeast (breaks_pattern ir capture idcode) 3 (v7 ir capture idcode)
unfolding v7
v7_finds ir capture idcode =
    subst (IsLeast (breaks_pattern ir capture idcode) 3) (two_cases _ _)
    (is_least (breaks_pattern ir capture idcode) 3)

none_outside : (boundary : ℕ) → KeepsRule (is_outside boundary) []
none_outside boundary [] item back e = cc
none_outside boundary (x ∷ front) item back e = cc

none_more : (boundary : ℕ) (entry : Entry) (entries : List Entry)
    → nat_le boundary entry.num ≡ false → KeepsRule (is_outside boundary) entries
    → KeepsRule (is_outside boundary) (entry ∷ entries)
none_more boundary entry entries e h [] item back split =
    let same : entry ≡ item = cc in
    subst (λ (x : Entry). nat_le boundary x.num ≡ false) same e
none_more boundary entry entries e h (x ∷ front) item back split =
    let rest : entries ≡ front ++ item ∷ back = cc in
    h front item back rest

-- if there is a cell number, it belongs to the first entry outside the register; if there is none,
-- no entry is outside
abbrev FindsOutside : ℕ → List Entry → Option ℕ → Type 0
FindsOutside boundary entries None = KeepsRule (is_outside boundary) entries
FindsOutside boundary entries (Some cell) = IsOutside boundary entries cell

outside_later : (boundary : ℕ) (entry : Entry) (entries : List Entry) (cell : Option ℕ)
    → nat_le boundary entry.num ≡ false → FindsOutside boundary entries cell
    → FindsOutside boundary (entry ∷ entries) cell
outside_later boundary entry entries None e h = none_more boundary entry entries e h
outside_later boundary entry entries (Some cell) e h = record {
  before = entry ∷ h.before;
  entry = h.entry;
  after = h.after;
  split = ap (λ xs. entry ∷ xs) h.split;
  cell_is = h.cell_is;
  large = h.large;
  held = none_more boundary entry h.before e h.held;
}

finds_outside : (boundary : ℕ) (entries : List Entry) → FindsOutside boundary entries (too_large boundary entries)
finds_outside boundary [] = none_outside boundary
finds_outside boundary (entry ∷ entries) = by_test (nat_le boundary entry.num) refl (finds_outside boundary entries)
  where
    by_test : (b : Bool) → nat_le boundary entry.num ≡ b → FindsOutside boundary entries (too_large boundary entries)
        → FindsOutside boundary (entry ∷ entries)
        (option_map (λ (found : Entry). found.num)
        (if b then Some entry else find (λ found. nat_le boundary found.num) entries))
    by_test true e h =
        record {
          before = [];
          entry = entry;
          after = entries;
          split = refl;
          cell_is = refl;
          large = e;
          held
              = none_outside boundary;
        }
    by_test false e h = outside_later boundary entry entries (too_large boundary entries) e h

pub v8_finds : (boundary : ℕ) (entries : List Entry) → IsWrongCell boundary entries (v8 boundary entries)
unfolding v8
v8_finds boundary entries = by_outside (too_large boundary entries) (finds_outside boundary entries)
  where
    by_missing : (cell : Option ℕ) → IsMissing boundary entries cell → IsWrongCell boundary entries cell
    by_missing None h = h
    by_missing (Some cell) h = inr h

    by_outside : (cell : Option ℕ) → FindsOutside boundary entries cell
        → IsWrongCell boundary entries (or_else cell (least_below (is_missing entries) boundary))
    by_outside (Some cell) h = inl h
    by_outside None h = by_missing (least_below (is_missing entries) boundary) (h, is_least (is_missing entries) boundary)
