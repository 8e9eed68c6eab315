use Rattle.std.proofs.Common.{◌≡◌, ℕ, true, take}
use Rattle.plan_tables.specs.Assigned.{set_readers}
use Rattle.scan_planner.proofs.pass_cells.expect_net.Given as goal

abbrev pub invariant-loop-cell : goal.invariant-loop-cell
invariant-loop-cell g l = record {
  expected_kind : g.E.CodeRows.kind l.expected ≡ g.E.CodeRows.kind l.fn.expected;
  mask_kind : g.M.CodeRows.kind l.mask ≡ g.M.CodeRows.kind l.fn.mask;
  expected : (j : ℕ) → g.E.CodeRows.shows (g.E.CodeRows.kind l.fn.expected) j
      → g.E.CodeRows.bits l.expected j
      ≡ set_readers l.place (g.E.CodeRows.bit_in l.code j) (g.E.CodeRows.bits l.fn.expected j)
      (take l.cell-index l.readers);
  mask : (j : ℕ) → g.M.CodeRows.shows (g.M.CodeRows.kind l.fn.mask) j
      → g.M.CodeRows.bits l.mask j
      ≡ set_readers l.place true (g.M.CodeRows.bits l.fn.mask j) (take l.cell-index l.readers);
}
