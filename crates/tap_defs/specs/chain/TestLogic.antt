-- The test logic of a part, as far as it is known, and the instructions that its codes mean (IEEE 1149.1-1990, sections 6 and 7).
use Rattle.std.specs.Prelude.{ℕ, Bool, false, cond, List, Option, Some, None}
use Rattle.std.specs.Bool.{beq}
use Rattle.std.specs.Cmp.Lexicographic.{pointwise}
use Rattle.std.specs.List.{list_all}

-- The current instruction. Sample is SAMPLE/PRELOAD or PRELOAD. Idcode is IDCODE in a part whose identification code is
-- known. Other is any other instruction.
pub data Instruction : Type 0 where
  Extest : Instruction
  Sample : Instruction
  Bypass : Instruction
  Idcode : Instruction
  Other : Instruction

-- The known properties of a part's test logic. The first bit of a code is nearest TDO.
pub record TestLogic : Type 0 where
  -- the lengths of the instruction register and of the boundary register, in bits
  pub ir_length : ℕ
  pub boundary_length : ℕ
  -- the EXTEST code and the preload code, if the part is described
  pub extest : Option (List Bool)
  pub preload : Option (List Bool)
  -- the instruction that Test-Logic-Reset selects, if it is known
  pub at_reset : Option Instruction
  -- the identification code that Idcode loads
  pub idcode : List Bool

-- true if no bit is 0
abbrev pub all_ones : List Bool → Bool
all_ones bits = list_all (λ b. b) bits

-- true if there is a code and it has these bits
abbrev pub has_these_bits : Option (List Bool) → List Bool → Bool
has_these_bits None bits = false
has_these_bits (Some code) bits = pointwise beq code bits

-- The instruction that this code means. A code of ones means BYPASS in each part.
abbrev pub instruction_of : TestLogic → List Bool → Instruction
instruction_of logic code =
    cond (all_ones code) Bypass (cond (has_these_bits logic.extest code) Extest (cond (has_these_bits logic.preload code) Sample Other))

-- The instruction in Test-Logic-Reset. If it is not known, the free bit `other` decides whether it is Other or BYPASS.
abbrev pub reset_instruction : Option Instruction → Bool → Instruction
reset_instruction (Some instruction) other = instruction
reset_instruction None other = cond other Other Bypass
