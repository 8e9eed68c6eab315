use Rattle.std.proofs.Common.{◌≡◌, ◌+◌, ◌*◌, ◌-◌, ◌<◌, ℕ, suc, length, subst, arith}
use Rattle.std.proofs.Math.Nat.{div-lt_iff_lt-mul}
use Rattle.scan_planner.proofs.board_plan.BoardPlan.fill.Goals as goal

pub overflow_cast-k : goal.overflow_cast-k
overflow_cast-k c =
    let plan = c.args.self.now.plan in
    let scans : suc plan.width ≡ c.from-scans.result + 1 = omega (arith, c.from-scans.ensures, c.width.ensures) in
    let within = subst (λ (n : ℕ). c.args.k - 3 < length plan.passes * n) scans (omega (arith, c.requires.scan)) in
    omega (
      arith,
      (div-lt_iff_lt-mul {k = c.from-scans.result + 1} {x = c.args.k - 3}
          {y = length plan.passes} (omega arith)).1 within,
      c.laws.ensures.counted,
    )
