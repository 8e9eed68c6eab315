-- Lemmas which say that the line with the counts of a board is the board's summary.
use Rattle.std.proofs.Common.{◌≡◌, ℕ, ◌+◌, List, Option, Some, None, Result, Ok, Err, length, ap, ◌∙◌, sym, inl, inr, arith}
use Rattle.std.specs.Prelude.{min}
use Rattle.bt_base.specs.Counts.{Rose, last_count}
use Rattle.bt_base.specs.Puts.{Puts, Shown, Takes}
use Rattle.board_defs.specs.declared.board.RawBoard.{RawBoard}
use Rattle.board_defs.specs.declared.board.Ctl.{Ctl}
use Rattle.board_defs.specs.Passes.{passes_of}
use Rattle.tap_defs.specs.board.BoardScans.{AreTestScans, pass_text, svf_scans, test_scans}
use Rattle.tap_defs.specs.board.TestRows.{code_width, observed_count}
use Rattle.coverage_list.specs.CoverText.{covered}
use Rattle.plan_tables.specs.declared.tables.PlanTables.{PlanTables}
use Rattle.scan_planner.specs.Plans.{IsPlanOf, scan_count}
use Rattle.commands.specs.Summary.{counts_line, summary_text}
use Rattle.commands.proofs.TestLemmas.{plan_text}

-- if the sink's count of faults does not rise during a write, the sink takes the whole text
takes_all : {T E : Type 0} {old new : Shown} {text : List ℕ} (result : Result T E)
    → Puts old new text result → (Rose old.faults new.faults → ⊥) → Takes old new text
takes_all (Ok x) puts calm = puts.whole
takes_all (Err e) puts calm = absurd (calm puts.cause)

none_rose : Rose 0 0 → ⊥
none_rose (inl rose) = omega (arith, rose)
none_rose (inr last) = omega (arith, last)

same_amount : {a b : ℕ} → ◌≡◌ {A = Option ℕ} (Some a) (Some b) → a ≡ b
same_amount e = cc

-- The state of a sink that only counts bytes. Such a sink never fails.
abbrev counter : ℕ → Shown
counter count = record { taken = None; amount = Some count; faults = 0 }

pub counts_all : {T E : Type 0} {old new : ℕ} {text : List ℕ} (result : Result T E)
    → Puts (counter old) (counter new) text result → old ≡ 0 → new ≡ min (length text) last_count
counts_all {old = old} {text = text} result puts none =
    let counted = same_amount (takes_all result puts none_rose).amount in
    let whole : old + length text ≡ length text = omega (arith, none) in
    counted ∙ ap (λ (n : ℕ). min n last_count) whole

same_counts : {a a' b b' c c' d d' e e' f f' : ℕ} → a ≡ a' → b ≡ b' → c ≡ c' → d ≡ d' → e ≡ e'
    → f ≡ f' → counts_line a b c d e f ≡ counts_line a' b' c' d' e' f'
same_counts {a} {a'} {b} {b'} {c} {c'} {d} {d'} {e} {e'} {f} {f'} p q r s t u =
    ap (λ n. counts_line n b c d e f) p ∙ ap (λ n. counts_line a' n c d e f) q
    ∙ ap (λ n. counts_line a' b' n d e f) r ∙ ap (λ n. counts_line a' b' c' n e f) s
    ∙ ap (λ n. counts_line a' b' c' d' n f) t ∙ ap (λ n. counts_line a' b' c' d' e' n) u

-- if a plan has the board's passes, the plan's number of scans is the number of scans of the board's test
scans_of : (board : RawBoard) (plan : PlanTables) → IsPlanOf board plan
    → plan.passes ≡ passes_of board
    → ((b : RawBoard) (passes : List (List Ctl)) (width : ℕ)
    → AreTestScans b passes width (test_scans b passes width))
    → scan_count plan ≡ length (svf_scans board)
scans_of board plan planned passes placed =
    sym (placed board plan.passes plan.width).count
    ∙ ap (λ (w : ℕ). length (test_scans board plan.passes w)) planned.width_is
    ∙ ap (λ (p : List (List Ctl)). length (test_scans board p (code_width (observed_count board p)))) passes

pub summary_is : {devices nets covers passes scans bytes : ℕ} (board : RawBoard) (plan : PlanTables)
    → IsPlanOf board plan → plan.passes ≡ passes_of board
    → ((b : RawBoard) (passes : List (List Ctl)) (width : ℕ)
    → AreTestScans b passes width (test_scans b passes width))
    → devices ≡ length board.chain → nets ≡ length board.nets → covers ≡ length (covered board)
    → passes ≡ length plan.passes → scans ≡ scan_count plan
    → bytes ≡ min (length (pass_text board plan.passes plan.width)) last_count
    → counts_line devices nets covers passes scans bytes ≡ summary_text board
summary_is board plan planned same placed devices nets covers passes scans bytes =
    same_counts devices nets covers (passes ∙ ap length same)
    (scans ∙ scans_of board plan planned same placed)
    (bytes ∙ ap (λ text. min (length text) last_count) (plan_text board plan planned same))
