-- Samples of the properties of a part that scans do not change, and texts that are no chain tests.
use Rattle.std.proofs.Common.{◌≡◌, ℕ, zero, suc, ◌≤◌, List, [], ◌∷◌, ◌++◌, All, Some, None, refl, sym, ◌∙◌, ap, subst, arith}
use Rattle.std.specs.Prelude.{codes}
use Rattle.std.proofs.lemmas.Bool.{both_ways}
use Rattle.tap_defs.specs.chain.Part.{PartState}
use Rattle.tap_defs.specs.chain.Chain.{ChainPart, IsChainOf}
use Rattle.tap_defs.specs.chain.Run.{Clock, PassesOn, FailsOn, tdos}
use Rattle.tap_defs.specs.chain.Codes.{sent}
use Rattle.tap_defs.specs.chain.Clocks.{head_clocks, reset_clocks, sir_clocks}
use Rattle.tap_defs.specs.chain.Text.{head_text}
use Rattle.tap_defs.specs.chain.SvfTokens.{tokens_from}
use Rattle.tap_defs.specs.chain.Svf.{text_statements, meaning}
use Rattle.tap_defs.specs.chain.Transport.{data_frame, code_frame}
use Rattle.tap_defs.specs.chain.ChainTest.{IsChainTest}
use Rattle.tap_defs.proofs.chain.SampleTexts.{on, off, read, lines, idle_late}
use Rattle.tap_defs.proofs.chain.SampleRun.{plain_logic, pausing, no_wiring, choices, one}

-- Parts with different instruction registers must have different data frames. Parts with different test logic or different boundary
-- registers must have different code frames.
abbrev part : ℕ → PartState → ChainPart
part n state = record { logic = plain_logic n; state = state }

other_codes : data_frame (part 4 pausing) ≡ data_frame (part 4 (record pausing { ir = on ∷ off ∷ off ∷ off ∷ [] })) → ⊥
other_codes same = let ir : off ∷ off ∷ off ∷ off ∷ [] ≡ on ∷ off ∷ off ∷ off ∷ [] = ap (λ frame. frame.ir) same in cc ir

other_logics : code_frame (part 4 pausing) ≡ code_frame (part 5 pausing) → ⊥
other_logics same = let ir_length = ap (λ frame. frame.logic.ir_length) same in omega (arith, ir_length)

other_cells : code_frame (part 4 (record pausing { boundary = off ∷ [] })) ≡ code_frame (part 4 (record pausing { boundary = on ∷ [] })) → ⊥
other_cells same = let boundary : off ∷ [] ≡ on ∷ [] = ap (λ frame. frame.boundary) same in cc boundary

-- A text that has no meaning. STATE IDLE is not right after STATE RESET.
abbrev pub meaningless : List ℕ
meaningless = codes "STATE RESET; ENDDR IDLE; STATE IDLE;"

-- a text that only resets the parts
abbrev pub resetting : List ℕ
resetting = codes "STATE RESET;"

pub resetting_means : meaning resetting ≡ Some reset_clocks
unfolding meaning text_statements tokens_from
resetting_means = refl

-- A text that always fails. It expects 0 where Capture-IR loads 1.
abbrev pub failing : List ℕ
failing = head_text ++ lines (codes "SIR 4 TDI (F) TDO (0) MASK (1);" ∷ [])

abbrev pub failing_clocks : List Clock
failing_clocks = head_clocks ++ sir_clocks (read on off ∷ sent on ∷ sent on ∷ sent on ∷ [])

pub failing_means : meaning failing ≡ Some failing_clocks
unfolding meaning text_statements tokens_from
failing_means = refl

-- a text has only one meaning
pub one_meaning : (text : List ℕ) (a b : List Clock) → meaning text ≡ Some a → meaning text ≡ Some b → a ≡ b
one_meaning text a b first second = let same : Some a ≡ Some b = sym first ∙ second in cc same

-- A chain test must have a meaning, pass on the chain, and fail on a chain with another number of parts.
test_without_meaning : IsChainTest (4 ∷ []) meaningless → ⊥
test_without_meaning test = let same : None ≡ Some test.clocks = sym idle_late ∙ test.means in cc same

abbrev four : List ChainPart
four = part 4 pausing ∷ []

four_start : IsChainOf (plain_logic 4 ∷ []) four
four_start = record { logics_are = refl; states_are = (record { ir = refl; boundary = refl; identification = refl; latches = refl }, tt) }

test_that_fails : IsChainTest (4 ∷ []) failing → ⊥
unfolding tdos
test_that_fails test =
    let passes : PassesOn no_wiring (plain_logic 4 ∷ []) failing_clocks =
    subst (λ (clocks : List Clock). PassesOn no_wiring (plain_logic 4 ∷ []) clocks)
    (one_meaning failing test.clocks failing_clocks test.means failing_means)
    (test.passes no_wiring (plain_logic 4 ∷ []) refl) in
    both_ways _ refl (passes four choices four_start)

one_start : IsChainOf (plain_logic 6 ∷ []) one
one_start = record { logics_are = refl; states_are = (record { ir = refl; boundary = refl; identification = refl; latches = refl }, tt) }

one_wide : All (λ n. 2 ≤ n) (6 ∷ [])
one_wide zero d below = omega arith
one_wide (suc k) d below = absurd (omega (arith, below))

test_that_compares_nothing : IsChainTest (4 ∷ 2 ∷ []) resetting → ⊥
unfolding tdos
test_that_compares_nothing test =
    let fails : FailsOn no_wiring (plain_logic 6 ∷ []) reset_clocks =
    subst (λ (clocks : List Clock). FailsOn no_wiring (plain_logic 6 ∷ []) clocks)
    (one_meaning resetting test.clocks reset_clocks test.means resetting_means)
    (test.fails no_wiring (plain_logic 6 ∷ []) (record { some = omega arith; wide = one_wide }) (λ e. omega (arith, e)) (omega arith)) in
    both_ways _ (fails one choices one_start) refl
