-- Scans that are not those of a board's test, code widths that are not enough, and texts that are no tests of a board.
use Rattle.std.proofs.Common.{◌≡◌, ℕ, zero, suc, ◌<◌, Bool, false, not, List, [], ◌∷◌, map, take, drop, Option, Some, None, refl, sym, ◌∙◌, ap, subst, arith, true≢false}
use Rattle.std.specs.List.{list_any}
use Rattle.std.proofs.lemmas.Bool.{both_ways}
use Rattle.board_defs.specs.declared.board.RawBoard.{RawBoard}
use Rattle.board_defs.specs.declared.fault.Single.TheVariants.{StuckNet}
use Rattle.board_defs.specs.Coverage.{IsCovered}
use Rattle.board_defs.proofs.BoardChecks.{board_of}
use Rattle.board_defs.proofs.Covered.{covered_is}
use Rattle.board_defs.proofs.Samples.{pin, net, board}
use Rattle.tap_defs.specs.chain.Run.{Clock, tdos}
use Rattle.tap_defs.specs.chain.Scan.{Scan, tdi_bits}
use Rattle.tap_defs.specs.chain.Codes.{sent, instructs}
use Rattle.tap_defs.specs.chain.Clocks.{reset_clocks}
use Rattle.tap_defs.specs.chain.Text.{svf_text}
use Rattle.tap_defs.specs.chain.Svf.{meaning}
use Rattle.tap_defs.specs.board.FaultSet.{no_faults}
use Rattle.tap_defs.specs.board.OnBoard.{PassOnBoard, FailOnBoard}
use Rattle.tap_defs.specs.board.TestRows.{CodesTell, code_bit}
use Rattle.tap_defs.specs.board.BoardScans.{AreTestScans, preload_code, extest_code, first_row_scan, scan_of_row, test_scans, svf_scans}
use Rattle.tap_defs.specs.board.Quiet.{IsQuiet}
use Rattle.tap_defs.specs.board.BoardTest.{IsHarmless, IsBoardTest}
use Rattle.tap_defs.specs.board.Explaining.{set_of}
use Rattle.tap_defs.proofs.chain.MeaningLemmas.{text_means}
use Rattle.tap_defs.proofs.chain.SampleTexts.{on, off, sdr, idle_late}
use Rattle.tap_defs.proofs.chain.SampleRun.{choices}
use Rattle.tap_defs.proofs.chain.SampleFields.{meaningless, resetting, resetting_means, failing, failing_clocks, failing_means, one_meaning}
use Rattle.tap_defs.proofs.board.SingleLemmas.{single_observable, single_nonempty}
use Rattle.tap_defs.proofs.board.SampleBoards.{drv, rcv, wires, bus}
use Rattle.tap_defs.proofs.board.SampleBoardRuns.{chain, start}
use Rattle.tap_defs.proofs.board.SampleQuiet.{without_preload, preload_before_extest}

-- The scans of the test of two wires, with these three in place of the first three. The test has one pass, which enables no control, and
-- codes of two bits. The first scan must have the preload codes, the second the quiet row, and the third the EXTEST codes.
abbrev beginning_with : Scan → Scan → Scan → List Scan
beginning_with first second third = first ∷ second ∷ third ∷ drop 3 (test_scans wires ([] ∷ []) 2)

abbrev preload : Scan
preload = instructs (map (λ part. preload_code part.kind) wires.chain)

abbrev extest : Scan
extest = instructs (map (λ part. extest_code part.kind) wires.chain)

abbrev quiet : Scan
quiet = scan_of_row wires first_row_scan

-- the scan of the first row
abbrev first_row : Scan
first_row = sdr (sent off ∷ sent off ∷ sent on ∷ sent off ∷ [])

-- true if the scan shifts in a 1
abbrev shifts_one : Option Scan → Bool
shifts_one None = false
shifts_one (Some scan) = list_any (λ b. b) (tdi_bits scan.bits)

extest_twice : AreTestScans wires ([] ∷ []) 2 (beginning_with extest quiet extest) → ⊥
extest_twice rules = true≢false (sym (ap shifts_one rules.preload))

row_without_quiet_row : AreTestScans wires ([] ∷ []) 2 (beginning_with preload first_row extest) → ⊥
row_without_quiet_row rules = true≢false (ap shifts_one rules.quiet)

preload_twice : AreTestScans wires ([] ∷ []) 2 (beginning_with preload quiet preload) → ⊥
preload_twice rules = true≢false (ap shifts_one rules.extest)

-- Each code must have a 0 bit and a 1 bit, and every two codes must differ. With a width of 1, code 1 has no 0 bit, and the codes 1
-- and 3 are alike.
code_without_zero : CodesTell 1 1 → ⊥
code_without_zero tell = let found = tell.has 1 false (omega arith) (omega arith) in bit_is found.0 found.1 found.2
  where
    bit_is : (j : ℕ) → j < 1 → code_bit 1 j ≡ false → ⊥
    bit_is zero below same = cc same
    bit_is (suc j) below same = omega (arith, below)

codes_alike : CodesTell 3 1 → ⊥
codes_alike tell =
    let found = tell.differ 1 3 (omega arith) (omega arith) (omega arith) (omega arith) (λ e. omega (arith, e)) in
    bits_are found.0 found.1 found.2
  where
    bits_are : (j : ℕ) → j < 1 → code_bit 1 j ≡ not (code_bit 3 j) → ⊥
    bits_are zero below same = cc same
    bits_are (suc j) below same = omega (arith, below)

-- a text that selects EXTEST right after the reset
abbrev extest_first : List ℕ
extest_first = svf_text (take 1 (drop 2 (svf_scans bus)))

extest_first_means : meaning extest_first ≡ Some without_preload
extest_first_means = text_means (take 1 (drop 2 (svf_scans bus))) ((omega arith, omega arith), tt)

failing_not_passing : (clocks : List Clock) → meaning failing ≡ Some clocks → PassOnBoard wires no_faults clocks → ⊥
unfolding tdos
failing_not_passing clocks means passes =
    let always : PassOnBoard wires no_faults failing_clocks =
    subst (λ (c : List Clock). PassOnBoard wires no_faults c) (one_meaning failing clocks failing_clocks means failing_means) passes in
    both_ways _ refl (always chain choices start)

extest_first_not_quiet : (clocks : List Clock) → meaning extest_first ≡ Some clocks → IsQuiet bus clocks → ⊥
extest_first_not_quiet clocks means quiet =
    let same = one_meaning extest_first clocks without_preload means extest_first_means in
    preload_before_extest (subst (λ (c : List Clock). IsQuiet bus c) same quiet)

-- A harmless text must have a meaning, pass on the board, and be quiet.
harmless_without_meaning : IsHarmless wires meaningless → ⊥
harmless_without_meaning text = let same : None ≡ Some text.clocks = sym idle_late ∙ text.means in cc same

harmless_that_fails : IsHarmless wires failing → ⊥
harmless_that_fails text = failing_not_passing text.clocks text.means text.passes

harmless_with_extest_first : IsHarmless bus extest_first → ⊥
harmless_with_extest_first text = extest_first_not_quiet text.clocks text.means text.quiet

-- A test of a board must have a meaning, pass on the board, and be quiet. It must fail if a covered net is stuck.
test_without_meaning : IsBoardTest wires meaningless → ⊥
test_without_meaning test = let same : None ≡ Some test.clocks = sym idle_late ∙ test.means in cc same

test_that_fails : IsBoardTest wires failing → ⊥
test_that_fails test = failing_not_passing test.clocks test.means test.passes

test_with_extest_first : IsBoardTest bus extest_first → ⊥
test_with_extest_first test = extest_first_not_quiet test.clocks test.means test.quiet

-- a board that keeps all rules, with one net from a driver to a receiver
abbrev wire : RawBoard
wire = board (drv ∷ rcv ∷ []) (net 0 None (pin 0 0 ∷ pin 1 0 ∷ []) ∷ [])

wire_covered : IsCovered wire 0
wire_covered = covered_is wire 0 (net 0 None (pin 0 0 ∷ pin 1 0 ∷ [])) (board_of wire refl) refl refl

test_that_compares_nothing : IsBoardTest wire resetting → ⊥
unfolding tdos
test_that_compares_nothing test =
    let stuck = StuckNet 0 false in
    let fails : FailOnBoard wire (set_of stuck) reset_clocks =
    subst (λ (c : List Clock). FailOnBoard wire (set_of stuck) c)
    (one_meaning resetting test.clocks reset_clocks test.means resetting_means)
    (test.fails (set_of stuck) (single_observable wire stuck wire_covered) (single_nonempty stuck)) in
    both_ways _ (fails chain choices start) refl
