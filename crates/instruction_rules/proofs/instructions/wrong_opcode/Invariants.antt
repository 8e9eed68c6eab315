use Rattle.std.proofs.Common.{◌≡◌, List, ℕ, take, drop}
use Rattle.std.specs.Borrow.{Bor}
use Rattle.std.specs.List.{list_any}
use Rattle.std.specs.Str.{bytes_eq}
use Rattle.std.specs.HashSet.{contains}
use Rattle.first_places.specs.Items.{first_from}
use Rattle.instruction_rules.specs.Instructions.{is_called, breaks_opcode, v5}
use Rattle.instruction_rules.proofs.instructions.wrong_opcode.Given as goal

abbrev pub invariant-loop-i : goal.invariant-loop-i
invariant-loop-i l = record {
  seen : (q : Bor (List ℕ)) → contains (λ x y. bytes_eq x.now y.now) l.seen q ≡ list_any (is_called q.now) (take l.i l.ops);
  found : first_from (breaks_opcode l.ir) (take l.i l.ops) (drop l.i l.ops) ≡ v5 l.ir l.ops;
}
