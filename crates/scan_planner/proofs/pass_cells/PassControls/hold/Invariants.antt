use Rattle.std.proofs.Common.{◌≡◌, ℕ, map, take}
use Rattle.plan_tables.specs.Assigned.{assigned}
use Rattle.plan_tables.specs.Tables.{held_cell}
use Rattle.scan_planner.proofs.pass_cells.PassControls.hold.Given as goal

abbrev pub invariant-loop-c : goal.invariant-loop-c
invariant-loop-c g l = record {
  kind : g.S.CodeRows.kind l.rows ≡ g.S.CodeRows.kind l.fn.rows;
  bits : (j : ℕ) → g.S.CodeRows.shows (g.S.CodeRows.kind l.fn.rows) j
      → g.S.CodeRows.bits l.rows j
      ≡ assigned (λ h. h.position) (λ h. h.bit) (g.S.CodeRows.bits l.fn.rows j)
      (map (held_cell l.self.board.now l.self.tables.now.quiet.bits) (take l.c-index l.c-items));
}
