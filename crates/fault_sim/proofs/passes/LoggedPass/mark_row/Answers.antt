use Rattle.std.proofs.Common.{length, refl}
use Rattle.std.proofs.lemmas.Option.{slice_get_read}
use Rattle.fault_sim.proofs.passes.LoggedPass.mark_row.Goals as goal

pub mark_by-requires-clause-compared : goal.mark_by-requires-clause-compared
mark_by-requires-clause-compared c =
    let rows = c.kept_rows.result.now in
    let found = c.in-Some.ensures.lookup in
    rw (← c.self.view_is)
    (c.kept_rows.ensures c.args.j c.in-Some.row.now
    (slice_get_read rows (length rows) c.args.j c.in-Some.row.now refl found.3.0 found.1))
