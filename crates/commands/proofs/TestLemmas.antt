-- Lemmas for the loop that writes the text of a test scan by scan.
use Rattle.std.proofs.Common.{◌≡◌, ◌<◌, ◌≤◌, ℕ, zero, suc, ◌+◌, ◌*◌, List, [], ◌∷◌, ◌++◌, length, take, drop, Option, Some, slice_get, Result, Ok, Err, IsErr, refl, sym, ap, ◌∙◌, subst, append_assoc, append-nil, arith}
use Rattle.std.specs.Prelude.{IfSome}
use Rattle.std.proofs.lemmas.List.{take_all}
use Rattle.std.proofs.Math.Numerals.{suc-eq-add-one}
use Rattle.bt_base.specs.Puts.{Puts, Shown}
use Rattle.bt_base.proofs.Cuts.{puts_ok, puts_cut}
use Rattle.board_defs.specs.declared.board.RawBoard.{RawBoard}
use Rattle.board_defs.specs.declared.board.Ctl.{Ctl}
use Rattle.board_defs.specs.Passes.{passes_of}
use Rattle.tap_defs.specs.chain.Scan.{Scan}
use Rattle.tap_defs.specs.chain.Text.{scan_text, scan_texts}
use Rattle.tap_defs.specs.board.TestRows.{code_width, observed_count}
use Rattle.tap_defs.specs.board.BoardScans.{AreTestScans, board_text, pass_text, test_scans}
use Rattle.plan_tables.specs.declared.tables.PlanTables.{PlanTables}
use Rattle.scan_planner.specs.Plans.{IsPlanOf}
use Rattle.command_line.specs.Words.{Text}
use Rattle.commands.specs.LogRead.{test_rows}

same_scan : (x y : Scan) → ◌≡◌ {A = Option Scan} (Some x) (Some y) → x ≡ y
same_scan x y e = cc

pub scan_at : (scans : List Scan) (k : ℕ) → k < length scans → (scan : Scan) × (slice_get scans k ≡ Some scan)
scan_at [] k within = absurd (omega (arith, within))
scan_at (s ∷ scans) zero within = (s, refl)
scan_at (s ∷ scans) (suc k) within = scan_at scans k (omega (arith, within))

texts_more : (scans : List Scan) (k : ℕ) (scan : Scan) → slice_get scans k ≡ Some scan
    → scan_texts (take (suc k) scans) ≡ scan_texts (take k scans) ++ scan_text scan
texts_more [] k scan at = absurd cc
texts_more (s ∷ scans) zero scan at = append-nil (scan_text s) ∙ ap scan_text (same_scan s scan at)
texts_more (s ∷ scans) (suc k) scan at =
    ap (λ t. scan_text s ++ t) (texts_more scans k scan at)
    ∙ sym (append_assoc (scan_text s) (scan_texts (take k scans)) (scan_text scan))

texts_split : (scans : List Scan) (k : ℕ) (scan : Scan) → slice_get scans k ≡ Some scan
    → scan_texts scans
    ≡ scan_texts (take k scans) ++ (scan_text scan ++ scan_texts (drop (suc k) scans))
texts_split [] k scan at = absurd cc
texts_split (s ∷ scans) zero scan at = ap (λ x. scan_text x ++ scan_texts scans) (same_scan s scan at)
texts_split (s ∷ scans) (suc k) scan at =
    ap (λ t. scan_text s ++ t) (texts_split scans k scan at)
    ∙ sym
    (append_assoc (scan_text s) (scan_texts (take k scans))
    (scan_text scan ++ scan_texts (drop (suc k) scans)))

pub below_count : (board : RawBoard) (passes : List (List Ctl)) (width k count : ℕ)
    → AreTestScans board passes width (test_scans board passes width)
    → count ≡ 3 + length passes * suc width → k < count → k < length (test_scans board passes width)
below_count board passes width k count placed is below = subst (λ n. k < n) (is ∙ sym placed.count) below

pub past_count : (board : RawBoard) (passes : List (List Ctl)) (width k count : ℕ)
    → AreTestScans board passes width (test_scans board passes width)
    → count ≡ 3 + length passes * suc width → count ≤ k → length (test_scans board passes width) ≤ k
past_count board passes width k count placed is past = subst (λ n. n ≤ k) (is ∙ sym placed.count) past

pub below : (scans : List Scan) (k count : ℕ) → count ≡ length scans → k < count → k < length scans
below scans k count is within = subst (λ n. k < n) is within

pub past : (scans : List Scan) (k count : ℕ) → count ≡ length scans → count ≤ k → length scans ≤ k
past scans k count is beyond = subst (λ n. n ≤ k) is beyond

-- if the sink has taken the head and the first `k` scans, and then takes scan `k`, it has taken the head and the first `k + 1` scans
pub puts_scan : {E : Type 0} {old mid new : Shown} {r : Result (Unit {0}) E} {x : Unit {0}}
    (head : Text) (scans : List Scan) (k : ℕ) → k < length scans
    → Puts {T = Unit {0}} {E = E} old mid (head ++ scan_texts (take k scans)) (Ok tt)
    → IfSome (slice_get scans k) (λ scan. Puts mid new (scan_text scan) r) → r ≡ Ok x
    → Puts {T = Unit {0}} {E = E} old new (head ++ scan_texts (take (k + 1) scans)) (Ok tt)
puts_scan {E} {old} {mid} {new} {r} {x} head scans k within before put ok =
    let at = scan_at scans k within in
    let one = subst (λ (o : Option Scan). IfSome o (λ scan. Puts mid new (scan_text scan) r)) at.1 put in
    let done = puts_ok before refl (subst (λ (q : Result (Unit {0}) E). Puts mid new (scan_text at.0) q) ok one) in
    let text : (head ++ scan_texts (take k scans)) ++ scan_text at.0 ≡ head ++ scan_texts (take (k + 1) scans) =
    append_assoc head (scan_texts (take k scans)) (scan_text at.0)
    ∙ ap (λ t. head ++ t) (sym (texts_more scans k at.0 at.1))
    ∙ ap (λ n. head ++ scan_texts (take n scans)) (suc-eq-add-one k) in
    unit_put text done
  where
    unit_put : {E : Type 0} {old new : Shown} {a b : Text} {x : Unit {0}} → a ≡ b
        → Puts {T = Unit {0}} {E = E} old new a (Ok x)
        → Puts {T = Unit {0}} {E = E} old new b (Ok tt)
    unit_put {E} {old} {new} {a} {b} {x} same put = subst (λ (t : Text). Puts {T = Unit {0}} {E = E} old new t (Ok tt)) same put

-- if the sink has taken the head and the first `k` scans, and then takes only a prefix of scan `k`'s text, it has taken only a prefix
-- of the whole text
pub cut_scan : {E : Type 0} {old mid new : Shown} {r s : Result (Unit {0}) E} {e : E}
    (head tail : Text) (scans : List Scan) (k : ℕ) → k < length scans
    → Puts {T = Unit {0}} {E = E} old mid (head ++ scan_texts (take k scans)) (Ok tt)
    → IfSome (slice_get scans k) (λ scan. Puts mid new (scan_text scan) r) → r ≡ Err e → IsErr s
    → Puts old new (head ++ (scan_texts scans ++ tail)) s
cut_scan {E} {old} {mid} {new} {r} {s} {e} head tail scans k within before put err fails =
    let at = scan_at scans k within in
    let one = subst (λ (o : Option Scan). IfSome o (λ scan. Puts mid new (scan_text scan) r)) at.1 put in
    let front : Text = scan_texts (take k scans) in
    let rest : Text = scan_texts (drop (suc k) scans) in
    let text : head ++ (scan_texts scans ++ tail) ≡ (head ++ front) ++ (scan_text at.0 ++ (rest ++ tail)) =
    ap (λ t. head ++ (t ++ tail)) (texts_split scans k at.0 at.1)
    ∙ ap (λ t. head ++ t)
    (append_assoc front (scan_text at.0 ++ rest) tail
    ∙ ap (λ t. front ++ t) (append_assoc (scan_text at.0) rest tail))
    ∙ sym (append_assoc head front (scan_text at.0 ++ (rest ++ tail))) in
    puts_cut (rest ++ tail) before one err fails text

-- if the sink has taken the head and all scans, writing the tail completes the text
pub puts_tail : {E : Type 0} {old mid new : Shown} {r : Result (Unit {0}) E} (head tail : Text)
    (scans : List Scan) (k : ℕ) → length scans ≤ k
    → Puts {T = Unit {0}} {E = E} old mid (head ++ scan_texts (take k scans)) (Ok tt)
    → Puts mid new tail r → Puts old new (head ++ (scan_texts scans ++ tail)) r
puts_tail {E} {old} {mid} {new} {r} head tail scans k past before put =
    let text : (head ++ scan_texts (take k scans)) ++ tail ≡ head ++ (scan_texts scans ++ tail) =
    append_assoc head (scan_texts (take k scans)) tail ∙ ap (λ l. head ++ (scan_texts l ++ tail)) (take_all k scans past) in
    subst (λ (t : Text). Puts old new t r) text (puts_ok before refl put)

-- if a plan has the board's passes, the text of the plan's test is the text of the board's test
pub plan_text : (board : RawBoard) (plan : PlanTables) → IsPlanOf board plan
    → plan.passes ≡ passes_of board → pass_text board plan.passes plan.width ≡ board_text board
plan_text board plan is passes =
    ap (pass_text board plan.passes) is.width_is
    ∙ ap (λ ps. pass_text board ps (code_width (observed_count board ps))) passes

-- if a plan has the board's passes, the plan's number of rows is the number of rows of a log of the board's test
pub rows_are : (board : RawBoard) (plan : PlanTables) → IsPlanOf board plan
    → plan.passes ≡ passes_of board → length plan.passes * plan.width ≡ test_rows board
rows_are board plan planned same =
    ap (λ (w : ℕ). length plan.passes * w) planned.width_is
    ∙ ap (λ (p : List (List Ctl)). length p * code_width (observed_count board p)) same
