use Rattle.std.proofs.Common.{◌≡◌, length, arith, refl, ◌∙◌, ap, sym}
use Rattle.net_facts.specs.inner.Rows.{note_nets, note_pins}
use Rattle.net_facts.specs.Cells.{table}
use Rattle.net_facts.proofs.RowLemmas.{note_nets_more}
use Rattle.net_facts.proofs.controls.note_all.Goals as goal

pub loop-n-init : goal.loop-n-init
loop-n-init c = refl

pub loop-n-preserved : goal.loop-n-preserved
loop-n-preserved c =
    let k = c.index-nets-n.result in
    c.in_ok-note_net.ensures ∙
    ap (λ r. note_pins c.loop-n.n k.closed r c.as_slice.result.now) c.loop-n.invariant ∙
    ap (λ p. note_pins c.loop-n.n k.closed (note_nets c.args.nets.now c.loop-n.n (table c.args.rows.now)) p) c.as_slice.ensures ∙
    sym (note_nets_more c.args.nets.now c.loop-n.n k (table c.args.rows.now) (omega arith) c.index-nets-n.is)

pub returns : goal.returns
returns c =
    let e : c.loop-n.n ≡ length c.args.nets.now = omega arith in
    c.loop-n.invariant ∙ ap (λ n. note_nets c.args.nets.now n (table c.args.rows.now)) e
