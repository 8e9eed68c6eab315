-- Rule V1 is about the attributes and the pin map that an entity must have. If V1 holds, the values that it returns are
-- the values of the entity's attributes and of the package.
use Rattle.std.proofs.Common.{◌≡◌, ℕ, ◌≤◌, ◌&&◌, nat_le, if◌then◌else◌, Bool, true, false, List, Option, Some, None, Result, Ok, Err, refl, subst}
use Rattle.std.proofs.lemmas.Bool.{and_parts, leb-true}
use Rattle.board_defs.specs.Limits.{most_bits, most_instruction_bits}
use Rattle.bsdl_parser.specs.declared.entity.Entity.{Entity}
use Rattle.bsdl_parser.specs.declared.entity.Attribute.{Attribute}
use Rattle.bsdl_parser.specs.declared.entity.Attribute.TheVariants.{InstructionLength, InstructionOpcode, InstructionCapture, BoundaryLength, BoundaryRegister}
use Rattle.device_check.specs.declared.sources.Source.{Source}
use Rattle.device_check.specs.declared.sources.Source.TheVariants as sources
use Rattle.device_check.specs.Attributes.{only_number, only_text, chosen_package}
use Rattle.device_check.specs.Needed.{FoundRegisters, FoundValues, need, and_then, unless_bad, within, found_taps, found_registers, wrong_option, found_package, v1}

-- there is a value, and the next step applied to it returns `Ok result`
record Has {A B : Type 0} (value : Option A) (next : A → Result B Source) (result : B) : Type 0 where
  it : A
  value_is : value ≡ Some it
  goes_on : next it ≡ Ok result

has : {A B : Type 0} (source : Source) (value : Option A) (next : A → Result B Source) (result : B)
    → need source value next ≡ Ok result → Has value next result
has source None next result e = cc
has source (Some it) next result e = record { it = it; value_is = refl; goes_on = e }

-- the search returned a value, and the next step applied to it returns `Ok result`
record Goes {A B : Type 0} (value : Result A Source) (next : A → Result B Source) (result : B) : Type 0 where
  it : A
  value_is : value ≡ Ok it
  goes_on : next it ≡ Ok result

goes : {A B : Type 0} (value : Result A Source) (next : A → Result B Source) (result : B)
    → and_then value next ≡ Ok result → Goes value next result
goes (Err source) next result e = cc
goes (Ok it) next result e = record { it = it; value_is = refl; goes_on = e }

none_wrong : {B : Type 0} (wrong : Option Attribute) (next : Result B Source) (result : B)
    → unless_bad wrong next ≡ Ok result → next ≡ Ok result
none_wrong (Some attribute) next result e = cc
none_wrong None next result e = e

same_value : {B : Type 0} (x y : B) → ◌≡◌ {A = Result B Source} (Ok x) (Ok y) → x ≡ y
same_value x y e = cc e

-- the found values are the values of the attributes of the instruction register and the boundary
-- register, and the two lengths are in their ranges
record AreRegisters (entity : Entity) (found : FoundRegisters) : Type 0 where
  length_is : within 2 most_instruction_bits (only_number entity InstructionLength) ≡ Some found.instruction_length
  opcodes_are : only_text entity InstructionOpcode ≡ Some found.opcodes
  capture_is : only_text entity InstructionCapture ≡ Some found.capture
  cells_are : within 1 most_bits (only_number entity BoundaryLength) ≡ Some found.boundary_length
  boundary_is : only_text entity BoundaryRegister ≡ Some found.boundary

registers_are : (entity : Entity) (found : FoundRegisters) → found_registers entity ≡ Ok found → AreRegisters entity found
unfolding found_registers
registers_are entity found e =
    let a = has _ _ _ _ e in
    let b = has _ _ _ _ a.goes_on in
    let c = has _ _ _ _ b.goes_on in
    let d = has _ _ _ _ c.goes_on in
    let f = has _ _ _ _ d.goes_on in
    let same : ◌≡◌ {A = FoundRegisters}
    (record {
      instruction_length = a.it;
      opcodes = b.it;
      capture = c.it;
      boundary_length = d.it;
      boundary = f.it;
    }) found = same_value _ _ f.goes_on in
    subst (AreRegisters entity) same
    (record {
      length_is = a.value_is;
      opcodes_are = b.value_is;
      capture_is = c.value_is;
      cells_are =
          d.value_is;
      boundary_is = f.value_is;
    })

-- The found values of the two registers are the values of the entity's attributes, and the two
-- lengths are in their ranges. The found package is the package that was chosen.
pub record IsFound (entity : Entity) (given : Option (List ℕ)) (found : FoundValues) : Type 0 where
  pub length_is : within 2 most_instruction_bits (only_number entity InstructionLength) ≡ Some found.registers.instruction_length
  pub opcodes_are : only_text entity InstructionOpcode ≡ Some found.registers.opcodes
  pub capture_is : only_text entity InstructionCapture ≡ Some found.registers.capture
  pub cells_are : within 1 most_bits (only_number entity BoundaryLength) ≡ Some found.registers.boundary_length
  pub boundary_is : only_text entity BoundaryRegister ≡ Some found.registers.boundary
  pub chosen_is : found_package entity (chosen_package entity given) ≡ Some found.chosen

pub found_is : (entity : Entity) (given : Option (List ℕ)) (found : FoundValues) → v1 entity given ≡ Ok found → IsFound entity given found
unfolding v1
found_is entity given found e =
    let a = goes (found_taps entity) _ found e in
    let b = goes (found_registers entity) _ found a.goes_on in
    let c = has sources.PinMapConstant (found_package entity (chosen_package entity given)) _ found
    (none_wrong (wrong_option entity) _ found b.goes_on) in
    let same : ◌≡◌ {A = FoundValues} (record { taps = a.it; registers = b.it; chosen = c.it }) found = same_value _ _ c.goes_on in
    let are : AreRegisters entity b.it = registers_are entity b.it b.value_is in
    subst (IsFound entity given) same
    (record {
      length_is = are.length_is;
      opcodes_are = are.opcodes_are;
      capture_is = are.capture_is;
      cells_are = are.cells_are;
      boundary_is = are.boundary_is;
      chosen_is = c.value_is;
    })

pub lies_within : (least most : ℕ) (number : Option ℕ) (found : ℕ)
    → within least most number ≡ Some found → (least ≤ found) × (found ≤ most)
lies_within least most None found e = cc
lies_within least most (Some number) found e = by_test (nat_le least number && nat_le number most) refl e
  where
    by_test : (b : Bool) → nat_le least number && nat_le number most ≡ b
        → ◌≡◌ {A = Option ℕ} (if b then Some number else None) (Some found)
        → (least ≤ found) × (found ≤ most)
    by_test true h k =
        let same : number ≡ found = cc k in
        let parts = and_parts (nat_le least number) (nat_le number most) h in
        subst (λ n. (least ≤ n) × (n ≤ most)) same (leb-true least number parts.0, leb-true number most parts.1)
    by_test false h k = cc k
