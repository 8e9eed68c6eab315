use Rattle.std.proofs.Common.{◌≡◌, ℕ, true, take}
use Rattle.plan_tables.specs.Assigned.{assigned, code_bit_of_driver, set_compared}
use Rattle.scan_planner.proofs.pass_cells.drive_nets.Given as goal

abbrev pub invariant-loop-driver : goal.invariant-loop-driver
invariant-loop-driver g l = record {
  shifted_kind : g.S.CodeRows.kind l.shifted ≡ g.S.CodeRows.kind l.fn.shifted;
  expected_kind : g.E.CodeRows.kind l.expected ≡ g.E.CodeRows.kind l.fn.expected;
  mask_kind : g.M.CodeRows.kind l.mask ≡ g.M.CodeRows.kind l.fn.mask;
  shifted : (j : ℕ) → g.S.CodeRows.shows (g.S.CodeRows.kind l.fn.shifted) j
      → g.S.CodeRows.bits l.shifted j
      ≡ assigned (λ d. d.position) (code_bit_of_driver l.codes j)
      (g.S.CodeRows.bits l.fn.shifted j) (take l.driver-index l.drivers);
  expected : (j : ℕ) → g.E.CodeRows.shows (g.E.CodeRows.kind l.fn.expected) j
      → g.E.CodeRows.bits l.expected j
      ≡ set_compared (code_bit_of_driver l.codes j) l.nets.readers
      (g.E.CodeRows.bits l.fn.expected j) (take l.driver-index l.drivers);
  mask : (j : ℕ) → g.M.CodeRows.shows (g.M.CodeRows.kind l.fn.mask) j
      → g.M.CodeRows.bits l.mask j
      ≡ set_compared (λ d. true) l.nets.readers (g.M.CodeRows.bits l.fn.mask j)
      (take l.driver-index l.drivers);
}
