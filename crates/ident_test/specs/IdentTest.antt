-- The guarantee of the identity test: it shows whether the code of each part fits the part's pattern.
use Rattle.std.specs.Prelude.{◌≡◌, ℕ, ◌≤◌, true, false, List, length, Option, Some, All, IfSome}
use Rattle.board_defs.specs.Limits.{most_parts}
use Rattle.board_defs.specs.declared.device.Symbol.{Symbol}
use Rattle.tap_defs.specs.chain.TestLogic.{TestLogic}
use Rattle.tap_defs.specs.chain.Chain.{ChainPart, IsChainOf}
use Rattle.tap_defs.specs.chain.Run.{Clock, Choices, Wiring, PassesOn, FailsOn, tdos, run_passes}
use Rattle.tap_defs.specs.chain.Svf.{meaning}
use Rattle.ident_test.specs.CodedParts.{AreCoded, all_fit}

-- There is an item for each of 1 to 255 parts, and each item that is a pattern has 32 symbols.
pub record ArePatterns (patterns : List (Option (List Symbol))) : Type 0 where
  pub some : 1 ≤ length patterns
  pub few : length patterns ≤ most_parts
  pub whole : All (λ pattern. IfSome pattern (λ code. length code ≡ 32)) patterns

-- The text has a meaning. On each chain of parts that are coded for these patterns, the test passes if all codes fit,
-- and fails if some code does not fit. Both are true whatever the pins capture.
pub record IsIdentTest (patterns : List (Option (List Symbol))) (text : List ℕ) : Type 0 where
  pub clocks : List Clock
  pub means : meaning text ≡ Some clocks
  pub passes : (wiring : Wiring) (parts : List TestLogic) → AreCoded patterns parts → all_fit patterns parts ≡ true →
      PassesOn wiring parts clocks
  pub fails : (wiring : Wiring) (parts : List TestLogic) → AreCoded patterns parts → all_fit patterns parts ≡ false →
      FailsOn wiring parts clocks

-- Each run of the text on any chain of parts that are coded for these patterns passes if and only if all codes fit.
abbrev pub EachRunTells : List (Option (List Symbol)) → List ℕ → Type 0
EachRunTells patterns text =
    (clocks : List Clock) (wiring : Wiring) (parts : List TestLogic) (chain : List ChainPart)
    (choices : Choices) → meaning text ≡ Some clocks → AreCoded patterns parts
    → IsChainOf parts chain →
    run_passes clocks (tdos wiring clocks choices chain) ≡ all_fit patterns parts
