use Rattle.std.proofs.Common.{◌≡◌, take, fold}
use Rattle.plan_tables.specs.Tables.{controlled}
use Rattle.plan_tables.specs.inner.Codes.{with_nets_marked}
use Rattle.plan_tables.proofs.codes.mark_pass.Given as goal

abbrev pub invariant-loop-c : goal.invariant-loop-c
invariant-loop-c l =
    l.flags
    ≡ fold (λ done c. with_nets_marked done (controlled l.placed.board.now l.table.rows c))
    l.initial.flags (take l.c-index l.c-items)
