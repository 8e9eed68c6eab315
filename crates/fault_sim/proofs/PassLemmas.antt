-- Lemmas about the passes of a test and about their rows in a log.
use Rattle.std.proofs.Common.{◌≡◌, ◌⊎◌, inl, inr, ℕ, suc, ◌+◌, ◌*◌, ◌<◌, ◌≤◌, Bool, List, length, sym, subst, arith}
use Rattle.std.proofs.lemmas.Bool.{cases_eq}
use Rattle.std.proofs.lemmas.Nat.{mul-le}
use Rattle.std.proofs.Math.Nat.{suc-mul}
use Rattle.fault_sim.specs.Kept.{IsLogOfTest}
use Rattle.fault_sim.specs.Planned.{PlannedBoard}

pub passes_more : (P : ℕ → Type 0) (x : ℕ) → ((k : ℕ) → k < x → P k) → P x → (k : ℕ) → k < x + 1 → P k
passes_more P x before here k less = by_pass (cases_eq k x)
  where
    by_pass : (k ≡ x) ⊎ (k ≡ x → ⊥) → P k
    by_pass (inl same) = subst P (sym same) here
    by_pass (inr differ) = before k (lower differ)
      where
        lower : (k ≡ x → ⊥) → k < x
        lower ne = grind arith

pub rows_within : (test : PlannedBoard) (log : List (List Bool)) (x : ℕ) → IsLogOfTest test log
    → x < length test.plan.passes → x * test.plan.width + test.plan.width ≤ length log
rows_within test log x is less =
    omega (
      arith,
      is.rows,
      suc-mul x test.plan.width,
      mul-le (suc x) test.plan.width (length test.plan.passes) test.plan.width less (omega arith),
    )
