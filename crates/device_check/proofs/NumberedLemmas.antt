-- Rule V1 reports the lowest number of an item that breaks it. The items are the attributes, and the pin map with
-- number 15.
use Rattle.std.proofs.Common.{◌≡◌, ℕ, zero, suc, ◌+◌, arith, List, Bool, true, false, not, if◌then◌else◌, Option, Some, None, Result, Ok, Err, refl, sym, ◌∙◌, ap, subst}
use Rattle.std.specs.Prelude.{is_none, option_map}
use Rattle.board_defs.specs.Limits.{most_bits, most_instruction_bits}
use Rattle.first_places.specs.Items.{least_from, least_below, or_else, IsLeast}
use Rattle.device_rules.proofs.LeastLemmas.{is_least}
use Rattle.bsdl_parser.specs.declared.entity.Entity.{Entity}
use Rattle.bsdl_parser.specs.declared.entity.Attribute.{Attribute}
use Rattle.bsdl_parser.specs.declared.entity.Attribute.TheVariants.{PinMap, TapScanIn, TapScanOut, TapScanMode, TapScanClock, InstructionLength, InstructionOpcode, InstructionCapture, BoundaryLength, BoundaryRegister, TapScanReset, IdcodeRegister, CompliancePatterns, ComponentConformance}
use Rattle.device_check.specs.declared.sources.Source.{Source}
use Rattle.device_check.specs.declared.sources.Source.TheVariants as sources
use Rattle.bsdl_parser.specs.AttributeNumbers.{attribute_number}
use Rattle.device_check.specs.Sources.{source_number}
use Rattle.device_check.specs.Attributes.{only_value, only_port, only_number, only_text, chosen_package}
use Rattle.device_check.specs.Needed.{need, and_then, unless_bad, within, is_repeated, conforms, found_taps, found_registers, wrong_option, found_package, v1}
use Rattle.device_check.specs.NumberedSources.{breaks_source, reported}

needed : {A B : Type 0} (source : Source) (value : Option A) (next : A → Result B Source)
    (rest : Option ℕ) → ((it : A) → reported (next it) ≡ rest)
    → reported (need source value next) ≡ (if is_none value then Some (source_number source) else rest)
needed source None next rest h = refl
needed source (Some it) next rest h = h it

both : {A B : Type 0} (first : Result A Source) (next : A → Result B Source) (mine rest : Option ℕ)
    → reported first ≡ mine → ((it : A) → reported (next it) ≡ rest)
    → reported (and_then first next) ≡ or_else mine rest
both (Err source) next mine rest e h = ap (λ o. or_else o rest) e
both (Ok it) next mine rest e h = h it ∙ ap (λ o. or_else o rest) e

after : {B : Type 0} (attribute : Option Attribute) (next : Result B Source) (mine rest : Option ℕ)
    → option_map attribute_number attribute ≡ mine → reported next ≡ rest
    → reported (unless_bad attribute next) ≡ or_else mine rest
after (Some attribute) next mine rest e h = ap (λ o. or_else o rest) e
after None next mine rest e h = h ∙ ap (λ o. or_else o rest) e

four_cases : (a b c d : Bool)
    → option_map attribute_number
    (if a then Some TapScanReset else if b then Some IdcodeRegister else if c
    then Some CompliancePatterns else if d then None else Some ComponentConformance)
    ≡ (if a then Some 11 else if b then Some 12 else if c then Some 13 else if not d then Some 14 else None)
four_cases true b c d = refl
four_cases false true c d = refl
four_cases false false true d = refl
four_cases false false false true = refl
four_cases false false false false = refl

least_split : (is : ℕ → Bool) (from a b : ℕ) → least_from is from (a + b) ≡ or_else (least_from is from a) (least_from is (from + a) b)
least_split is from zero b =
    let none : zero + b ≡ b = omega arith in
    let here : from ≡ from + zero = omega arith in
    ap (λ k. least_from is from k) none ∙ ap (λ k. least_from is k b) here
least_split is from (suc a) b =
    let one : suc a + b ≡ suc (a + b) = omega arith in
    ap (λ k. least_from is from k) one ∙ by_test (is from) (least_split is (suc from) a b)
  where
    next : suc from + a ≡ from + suc a
    next = omega arith

    by_test : (t : Bool) → least_from is (suc from) (a + b) ≡ or_else (least_from is (suc from) a) (least_from is (suc from + a) b)
        → (if t then Some from else least_from is (suc from) (a + b))
        ≡ or_else (if t then Some from else least_from is (suc from) a)
        (least_from is (from + suc a) b)
    by_test true h = refl
    by_test false h = h ∙ ap (λ k. or_else (least_from is (suc from) a) (least_from is k b)) next

module _ (entity : Entity) (given : Option (List ℕ)) where
  abbrev breaks : ℕ → Bool
  breaks = breaks_source entity given

  taps_reported : reported (found_taps entity) ≡ least_from breaks 1 5
  unfolding found_taps
  taps_reported =
      needed (sources.Attribute PinMap) (only_value entity PinMap) _ (least_from breaks 2 4) (λ _.
      needed (sources.Attribute TapScanIn) (only_port entity TapScanIn) _ (least_from breaks 3 3) (λ scan_in.
      needed (sources.Attribute TapScanOut) (only_port entity TapScanOut) _ (least_from breaks 4 2) (λ scan_out.
      needed (sources.Attribute TapScanMode) (only_port entity TapScanMode) _ (least_from breaks 5 1) (λ mode.
      needed (sources.Attribute TapScanClock) (only_port entity TapScanClock) _ None (λ clock. refl)))))

  registers_reported : reported (found_registers entity) ≡ least_from breaks 6 5
  unfolding found_registers
  registers_reported =
      needed (sources.Attribute InstructionLength)
      (within 2 most_instruction_bits (only_number entity InstructionLength)) _
      (least_from breaks 7 4) (λ instruction_length.
      needed (sources.Attribute InstructionOpcode) (only_text entity InstructionOpcode) _ (least_from breaks 8 3) (λ opcodes.
      needed (sources.Attribute InstructionCapture) (only_text entity InstructionCapture) _ (least_from breaks 9 2) (λ capture.
      needed (sources.Attribute BoundaryLength)
      (within 1 most_bits (only_number entity BoundaryLength)) _ (least_from breaks 10 1)
      (λ boundary_length.
      needed (sources.Attribute BoundaryRegister) (only_text entity BoundaryRegister) _ None (λ boundary. refl)))))

  options_reported : option_map attribute_number (wrong_option entity) ≡ least_from breaks 11 4
  unfolding wrong_option
  options_reported =
      four_cases (is_repeated entity TapScanReset) (is_repeated entity IdcodeRegister)
      (is_repeated entity CompliancePatterns) (conforms entity)

  parts_reported : reported (v1 entity given)
      ≡ or_else (least_from breaks 1 5)
      (or_else (least_from breaks 6 5) (or_else (least_from breaks 11 4) (least_from breaks 15 1)))
  unfolding v1
  parts_reported =
      both (found_taps entity) _ (least_from breaks 1 5)
      (or_else (least_from breaks 6 5)
      (or_else (least_from breaks 11 4) (least_from breaks 15 1))) taps_reported (λ taps.
      both (found_registers entity) _ (least_from breaks 6 5)
      (or_else (least_from breaks 11 4) (least_from breaks 15 1)) registers_reported
      (λ registers.
      after (wrong_option entity) _ (least_from breaks 11 4) (least_from breaks 15 1) options_reported (
      needed sources.PinMapConstant (found_package entity (chosen_package entity given)) _ None (λ chosen_package. refl))))

  parts_are_all : least_below breaks 16
      ≡ or_else (least_from breaks 1 5)
      (or_else (least_from breaks 6 5) (or_else (least_from breaks 11 4) (least_from breaks 15 1)))
  parts_are_all =
      least_split breaks 1 5 10
      ∙ ap (λ o. or_else (least_from breaks 1 5) o)
      (least_split breaks 6 5 5
      ∙ ap (λ o. or_else (least_from breaks 6 5) o) (least_split breaks 11 4 1))

  pub v1_reports : IsLeast breaks 16 (reported (v1 entity given))
  v1_reports = subst (IsLeast breaks 16) (parts_are_all ∙ sym parts_reported) (is_least breaks 16)
