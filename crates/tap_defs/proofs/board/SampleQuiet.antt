-- Tests that are not quiet (`IsQuiet`), on a board that has a net with two drivers.
use Rattle.std.proofs.Common.{◌≡◌, ℕ, zero, suc, Bool, true, false, List, [], ◌∷◌, ◌++◌, take, drop, Some, refl, inl, inr, subst, arith}
use Rattle.std.specs.Prelude.{slice_get}
use Rattle.board_defs.specs.declared.board.PartKind.TheVariants.{Described}
use Rattle.board_defs.specs.declared.board.RawBoard.{RawBoard}
use Rattle.tap_defs.specs.declared.tap.TapState.TheVariants.{RunTestIdle}
use Rattle.tap_defs.specs.chain.TestLogic.{Extest, Bypass}
use Rattle.tap_defs.specs.chain.Part.{PartState, PinState}
use Rattle.tap_defs.specs.chain.Chain.{ChainPart, pin_states}
use Rattle.tap_defs.specs.chain.Run.{Clock, Choices, choices_after, run, shown}
use Rattle.tap_defs.specs.chain.Codes.{sent}
use Rattle.tap_defs.specs.chain.Clocks.{test_clocks}
use Rattle.tap_defs.specs.board.FaultSet.{no_faults, IsFaultSet}
use Rattle.tap_defs.specs.board.OnBoard.{test_logic, board_wiring, IsBoardChain}
use Rattle.tap_defs.specs.board.BoardScans.{svf_scans}
use Rattle.tap_defs.specs.board.Quiet.{IsSafelySet, IsQuietMoment, IsUncontested, StaysQuiet, IsQuiet}
use Rattle.tap_defs.proofs.chain.SampleTexts.{on, off, sdr}
use Rattle.tap_defs.proofs.chain.SampleRun.{free_bits}
use Rattle.tap_defs.proofs.board.SampleBoards.{ts, rcv1, bus}

pub uncontested_at : (board : RawBoard) (before : List PinState) (moments : List (List PinState))
    → StaysQuiet board before moments → (k : ℕ) (now next : List PinState) →
    slice_get (before ∷ moments) k ≡ Some now → slice_get moments k ≡ Some next → IsUncontested board now next
uncontested_at board before [] h k now next e f = cc f
uncontested_at board before (m ∷ moments) h zero now next e f =
    let now_is : before ≡ now = cc e in
    let next_is : m ≡ next = cc f in
    subst (λ (x : List PinState). IsUncontested board x next) now_is
    (subst (λ (x : List PinState). IsUncontested board before x) next_is h.1)
uncontested_at board before (m ∷ moments) h (suc k) now next e f = uncontested_at board m moments h.2 k now next e f

pub moment_at : (board : RawBoard) (before : List PinState) (moments : List (List PinState))
    → StaysQuiet board before moments → (k : ℕ) (now : List PinState) →
    slice_get moments k ≡ Some now → IsQuietMoment board now
moment_at board before [] h k now e = cc e
moment_at board before (m ∷ moments) h zero now e =
    let now_is : m ≡ now = cc e in subst (λ (x : List PinState). IsQuietMoment board x) now_is h.0
moment_at board before (m ∷ moments) h (suc k) now e = moment_at board m moments h.2 k now e

pub no_set : (board : RawBoard) → IsFaultSet board no_faults
no_set board = record {
  disjoint = λ n v e. refl;
  several = λ n k e. cc e;
  covered = λ n k e. cc e;
  dominant = λ n k d e f. cc e;
}

-- the state of a part in Run-Test/Idle, with these bits in its boundary register and its latches
abbrev pub resting : List Bool → PartState
resting cells =
    record {
      tap = RunTestIdle;
      ir = off ∷ off
          ∷ [];
      current = Bypass;
      boundary = cells;
      bypass = off;
      identification = [];
      latches = cells;
    }

abbrev chain : List ChainPart
chain =
    record { logic = test_logic (Described ts); state = resting (off ∷ off ∷ []) }
    ∷ record { logic = test_logic (Described ts); state = resting (off ∷ off ∷ []) }
    ∷ record { logic = test_logic (Described rcv1); state = resting (off ∷ []) } ∷ []

start : IsBoardChain bus chain
start = record {
  logics_are = refl;
  states_are = (
    record { ir = refl; boundary = refl; identification = refl; latches = refl },
    (
      record { ir = refl; boundary = refl; identification = refl; latches = refl },
      (record { ir = refl; boundary = refl; identification = refl; latches = refl }, tt),
    ),
  );
}

abbrev pub choices : Choices
choices k = record { parts = λ j. free_bits; shorts = λ j. off; tdi = on }

-- the chain after the fifth clock, its visible states then, and those after each later clock
abbrev fifth : List Clock → Choices → List ChainPart
fifth clocks free = run (board_wiring bus no_faults) (take 5 clocks) free chain

abbrev after_reset : List Clock → Choices → List PinState
after_reset clocks free = pin_states (fifth clocks free)

abbrev later_moments : List Clock → Choices → List (List PinState)
later_moments clocks free = shown (board_wiring bus no_faults) (drop 5 clocks) (choices_after (take 5 clocks) free) (fifth clocks free)

-- a test that enables the second driver in the update that disables the first
abbrev without_quiet_row : List Clock
without_quiet_row = test_clocks (take 3 (svf_scans bus)
    ++ sdr (sent off ∷ sent off ∷ sent on ∷ sent on ∷ sent off ∷ []) ∷ sdr (sent off ∷ sent on ∷ sent off ∷ sent off ∷ sent on ∷ []) ∷ [])

abbrev under_test : List Bool → PinState
under_test latches = record { current = Extest; latches = latches }

abbrev first_on : List PinState
first_on = under_test (on ∷ off ∷ []) ∷ under_test (off ∷ on ∷ []) ∷ under_test (off ∷ []) ∷ []

abbrev second_on : List PinState
second_on = under_test (off ∷ on ∷ []) ∷ under_test (on ∷ off ∷ []) ∷ under_test (off ∷ []) ∷ []

quiet_row_between : IsQuiet bus without_quiet_row → ⊥
unfolding run shown
quiet_row_between quiet =
    let moments = (quiet no_faults chain choices (no_set bus) start).1 in
    uncontested_at bus (after_reset without_quiet_row choices)
    (later_moments without_quiet_row choices) moments 53 first_on second_on refl refl 0 _ 0 1 _
    _ refl refl refl (λ e. omega (arith, e)) refl refl

-- a test that selects EXTEST right after the reset, when both control cells may have 0 and so enable both drivers
abbrev pub without_preload : List Clock
without_preload = test_clocks (take 1 (drop 2 (svf_scans bus)))

abbrev any_latches : Choices
any_latches k = record { parts = λ j. record free_bits { latches = λ cell. off }; shorts = λ j. off; tdi = on }

abbrev both_on : List PinState
both_on = under_test (off ∷ off ∷ []) ∷ under_test (off ∷ off ∷ []) ∷ under_test (off ∷ []) ∷ []

both_unsafe : IsSafelySet bus both_on → ⊥
both_unsafe (inl none) = let z : true ≡ false = none 0 ts refl in cc z
both_unsafe (inr all) = all.1.one 0 _ 0 1 _ _ refl refl refl (λ e. omega (arith, e)) refl refl

pub preload_before_extest : IsQuiet bus without_preload → ⊥
unfolding run shown
preload_before_extest quiet =
    let moments = (quiet no_faults chain any_latches (no_set bus) start).1 in
    both_unsafe
    (moment_at bus (after_reset without_preload any_latches)
    (later_moments without_preload any_latches) moments 11 both_on refl).0
