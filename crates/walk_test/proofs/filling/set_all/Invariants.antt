use Rattle.std.proofs.Common.{◌≡◌, true, take}
use Rattle.plan_tables.specs.Assigned.{assigned}
use Rattle.walk_test.proofs.filling.set_all.Given as goal

abbrev pub invariant-loop-position : goal.invariant-loop-position
invariant-loop-position l = record {
  bits : l.row.bits ≡ assigned (λ p. p) (λ p. true) l.fn.row.bits (take l.position-index l.positions);
  room : l.row.room ≡ l.fn.row.room;
}
