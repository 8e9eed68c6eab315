use Rattle.std.proofs.Common.{◌≡◌, drop}
use Rattle.std.specs.Prelude.{find}
use Rattle.btest_core.specs.IdentsRead.{is_bypass}
use Rattle.btest_core.proofs.idents.first_bypass.Given as goal

-- none of the lines visited so far is a BYPASS line
abbrev pub invariant-loop-line : goal.invariant-loop-line
invariant-loop-line l =
    find (λ line. is_bypass line.statement) l.lines
    ≡ find (λ line. is_bypass line.statement) (drop l.line-index l.lines)
