use Rattle.std.proofs.Common.{◌≡◌, ℕ, true, take}
use Rattle.plan_tables.specs.Assigned.{code_bit_of_driver}
use Rattle.scan_planner.specs.inner.Passes.{with_compared_bits, driven}
use Rattle.scan_planner.proofs.pass_cells.PassControls.drive.Given as goal

abbrev pub invariant-loop-c : goal.invariant-loop-c
invariant-loop-c g l = record {
  shifted_kind : g.S.CodeRows.kind l.shifted ≡ g.S.CodeRows.kind l.fn.shifted;
  expected_kind : g.E.CodeRows.kind l.expected ≡ g.E.CodeRows.kind l.fn.expected;
  mask_kind : g.M.CodeRows.kind l.mask ≡ g.M.CodeRows.kind l.fn.mask;
  shifted : (j : ℕ) → g.S.CodeRows.shows (g.S.CodeRows.kind l.fn.shifted) j
      → g.S.CodeRows.bits l.shifted j
      ≡ driven l.self.board.now l.self.tables.now (code_bit_of_driver l.self.tables.now.codes j)
      (g.S.CodeRows.bits l.fn.shifted j) (take l.c-index l.c-items);
  expected : (j : ℕ) → g.E.CodeRows.shows (g.E.CodeRows.kind l.fn.expected) j
      → g.E.CodeRows.bits l.expected j
      ≡ with_compared_bits l.self.board.now l.self.tables.now
      (code_bit_of_driver l.self.tables.now.codes j) (g.E.CodeRows.bits l.fn.expected j)
      (take l.c-index l.c-items);
  mask : (j : ℕ) → g.M.CodeRows.shows (g.M.CodeRows.kind l.fn.mask) j
      → g.M.CodeRows.bits l.mask j
      ≡ with_compared_bits l.self.board.now l.self.tables.now (λ d. true)
      (g.M.CodeRows.bits l.fn.mask j) (take l.c-index l.c-items);
}
