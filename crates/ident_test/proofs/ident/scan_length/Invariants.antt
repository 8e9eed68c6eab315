use Rattle.std.proofs.Common.{◌≡◌, ◌*◌, ◌≤◌, length, take}
use Rattle.std.specs.Prelude.{sum_by}
use Rattle.ident_test.specs.Patterns.{register_pattern}
use Rattle.ident_test.proofs.ident.scan_length.Given as goal

abbrev pub invariant-loop-part : goal.invariant-loop-part
invariant-loop-part l = record {
  bits : l.bits ≡ sum_by (λ part. length (register_pattern part)) (take l.part-index l.parts);
  few : l.bits ≤ l.part-index * 32;
}
