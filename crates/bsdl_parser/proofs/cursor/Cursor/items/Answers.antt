use Rattle.std.proofs.lemmas.Result.{err_from_is_err_and}
use Rattle.grammars.proofs.Grammars.{turn_shrinks}
use Rattle.grammars.proofs.Loops.{another, no_other}
use Rattle.bsdl_parser.specs.Bsdl.{item}
use Rattle.bsdl_parser.specs.inner.Views.{items_of}
use Rattle.bsdl_parser.proofs.Decided.{item_takes}
use Rattle.bsdl_parser.proofs.Stopped.{stopped}
use Rattle.bsdl_parser.proofs.cursor.Cursor.items.Goals as goal

pub returns-in_err-item : goal.returns-in_err-item
returns-in_err-item c =
    let p = err_from_is_err_and c.from_residual.result c.from_residual.ensures.1 in
    rw (p.1, p.2)
    (stopped item item_takes (items_of c.loop-draft.draft) c.loop-draft.self c.item.new.self
    c.in_err-item.field-0.0 _ c.loop-draft.invariant c.in_err-item.ensures)

pub loop-draft-smaller : goal.loop-draft-smaller
loop-draft-smaller c = turn_shrinks item item_takes (items_of c.loop-draft.draft) _ c.loop-draft.self c.item.new.self c.in_ok-item.ensures

pub loop-draft-preserved : goal.loop-draft-preserved
loop-draft-preserved c =
    another item item_takes (items_of c.loop-draft.draft) (items_of c.item.new.draft)
    c.in_ok-item.field-0 c.loop-draft.self c.item.new.self _ c.loop-draft.invariant c.if-branch.true
    c.in_ok-item.ensures

pub returns : goal.returns
returns c =
    no_other item item_takes (items_of c.loop-draft.draft) (items_of c.item.new.draft)
    c.in_ok-item.field-0 c.loop-draft.self c.item.new.self _ c.loop-draft.invariant
    c.if-branch.false c.in_ok-item.ensures
