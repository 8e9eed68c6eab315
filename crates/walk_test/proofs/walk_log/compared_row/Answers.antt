use Rattle.std.proofs.Common.{◌≡◌, ℕ, List, Bool, true, ap, ◌∙◌}
use Rattle.plan_tables.specs.Assigned.{assigned}
use Rattle.walk_test.specs.declared.tables.NetCells.{NetCells}
use Rattle.walk_test.specs.inner.Reading.{with_compared}
use Rattle.walk_test.proofs.ReadLemmas.{compared_more}
use Rattle.walk_test.proofs.walk_log.compared_row.Goals as goal

pub loop-net-preserved : goal.loop-net-preserved
loop-net-preserved c =
    let net : NetCells = c.net-item.result in
    let old : List Bool = c.loop-net.row.bits in
    let set : c.set_all.new.row.bits
    ≡ with_compared old net = c.set_all.ensures.bits
    ∙ ap (λ (l : List ℕ). assigned (λ at. at) (λ at. true) old l) c.as_slice.ensures in
    set ∙ ap (λ (b : List Bool). with_compared b net) c.loop-net.invariant
    ∙ compared_more c.args.len c.args.nets.now c.loop-net.net-index net c.loop-net-test.true
    c.net-item.is
