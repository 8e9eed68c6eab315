use Rattle.std.proofs.Common.{◌+◌, ◌≤◌, length}
use Rattle.std.specs.Prelude.{IfSome, option_copied}
use Rattle.text_lines.proofs.LineLemmas.{text_left}
use Rattle.batch_diag.specs.inner.Cutting.{is_of_kind}
use Rattle.batch_diag.proofs.CutLemmas.{Passes}
use Rattle.batch_diag.proofs.lines.find_line.Given as goal

-- no line before `rest` is of this kind
abbrev pub invariant-loop-rest : goal.invariant-loop-rest
invariant-loop-rest l = record {
  passes : Passes (is_of_kind l.kind) l.text l.number l.line_number (option_copied l.rest);
  place : IfSome l.rest (λ left. l.line_number + length left.now ≤ l.number + length l.text);
  later : l.number ≤ l.line_number;
}

abbrev pub decreases-loop-rest : goal.decreases-loop-rest
decreases-loop-rest l = text_left (option_copied l.rest)
