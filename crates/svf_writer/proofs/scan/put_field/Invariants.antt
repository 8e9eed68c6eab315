use Rattle.std.proofs.Common.{◌-◌, ◌≤◌, ◌++◌, length, drop, Result}
use Rattle.bt_base.specs.Puts.{Puts, Shown}
use Rattle.bt_base.specs.declared.sink.PutFault.{PutFault}
use Rattle.bt_bits.specs.Hex.{hex_text}
use Rattle.tap_defs.specs.chain.Text.{broken}
use Rattle.svf_writer.proofs.scan.put_field.Given as goal

-- Writing the text that is left completes the text of the whole field.
abbrev pub invariant-loop-from : goal.invariant-loop-from
invariant-loop-from g l = record {
  within : l.from ≤ l.count;
  short : length l.line ≤ 6;
  completes : (new : Shown) (end : Result (Unit {0}) PutFault)
      → Puts (g.K.Sink.shown l.out) new
      (l.line ++ (broken 64 (drop l.from (hex_text l.row.bits)) ++ l.end)) end
      → Puts (g.K.Sink.shown l.fn.out) new (l.label ++ (broken 64 (hex_text l.row.bits) ++ l.end))
      end;
}

abbrev pub decreases-loop-from : goal.decreases-loop-from
decreases-loop-from g l = l.count - l.from
