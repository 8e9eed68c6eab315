use Rattle.std.proofs.Common.{◌≡◌, ◌<◌, ◌≤◌, ◌++◌, get_or, length, arith, ◌∙◌, ap, sym}
use Rattle.std.specs.Prelude.{filter}
use Rattle.board_defs.specs.Passes.{cells_of}
use Rattle.net_facts.specs.Cells.{table}
use Rattle.net_facts.specs.inner.Answers.{useful_in}
use Rattle.net_facts.proofs.UsefulLemmas.{cells_more, cells_whole}
use Rattle.net_facts.proofs.useful.useful_controls.Goals as goal

pub loop-part-preserved : goal.loop-part-preserved
loop-part-preserved c =
    let p = useful_in (table c.args.rows.now) in
    let chain = c.args.board.now.chain in
    let item = c.item-item.result in
    let same = c.as_slice-item-items.ensures ∙ ap (λ b. b.chain) c.raw.ensures.value in
    let n = ap length same in
    let less : c.loop-part.part < length chain = omega (arith, n) in
    let is : item ≡ get_or chain c.loop-part.part item = c.item-item.is ∙ ap (λ v. get_or v c.loop-part.part item) same in
    c.in_ok-add_part.ensures
    ∙ ap (λ v. v ++ filter p (cells_of c.loop-part.part item.kind)) c.loop-part.invariant
    ∙ sym (cells_more p chain c.loop-part.part item less is)

pub returns : goal.returns
returns c =
    let n = ap length (c.as_slice-item-items.ensures ∙ ap (λ b. b.chain) c.raw.ensures.value) in
    let most : length c.args.board.now.chain ≤ c.loop-part.part = omega (arith, n) in
    c.loop-part.invariant ∙ ap (filter (useful_in (table c.args.rows.now))) (cells_whole c.args.board.now c.loop-part.part most)
