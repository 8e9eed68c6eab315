-- The guarantee of the chain test, which checks the number of parts.
use Rattle.std.specs.Prelude.{◌≡◌, ◌≢◌, ℕ, ◌≤◌, List, length, map, sum, All, Some}
use Rattle.tap_defs.specs.chain.TestLogic.{TestLogic}
use Rattle.tap_defs.specs.chain.Run.{Clock, Wiring, PassesOn, FailsOn}
use Rattle.tap_defs.specs.chain.Svf.{meaning}

-- the instruction lengths of parts
abbrev pub ir_lengths : List TestLogic → List ℕ
ir_lengths parts = map (λ p. p.ir_length) parts

-- There is at least one length, and each is 2 or more, as IEEE 1149.1-1990, section 6, requires of instruction
-- registers.
pub record AreIrLengths (lengths : List ℕ) : Type 0 where
  pub some : 1 ≤ length lengths
  pub wide : All (λ n. 2 ≤ n) lengths

-- The text has a meaning. It passes on every chain of parts with these instruction lengths, described or not. It fails
-- on every chain with these four properties: it has at least one part; each part has two or more instruction bits; the
-- number of parts is different; and the total number of instruction bits is no larger. Both are true whatever the pins
-- capture.
pub record IsChainTest (lengths : List ℕ) (text : List ℕ) : Type 0 where
  pub clocks : List Clock
  pub means : meaning text ≡ Some clocks
  pub passes : (wiring : Wiring) (parts : List TestLogic) → ir_lengths parts ≡ lengths → PassesOn wiring parts clocks
  pub fails : (wiring : Wiring) (parts : List TestLogic) → AreIrLengths (ir_lengths parts) → length parts ≢ length lengths →
      sum (ir_lengths parts) ≤ sum lengths → FailsOn wiring parts clocks
