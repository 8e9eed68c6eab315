use Rattle.std.proofs.Common.{length, ◌∙◌, ap}
use Rattle.net_facts.specs.Kept.{pin_class_of}
use Rattle.lists.proofs.ListLemmas.{item_there}
use Rattle.net_classes.proofs.Lists.{numbered_length, numbered_item}
use Rattle.net_classes.proofs.questions.BoardClasses.pin.Goals as goal

pub bounds-as_slice-pin : goal.bounds-as_slice-pin
bounds-as_slice-pin c =
    let board = c.args.self.now in
    let net = item_there board.nets c.args.pin.net c.requires.0 in
    numbered_length (pin_class_of board net.0) _ (length net.0.pins) c.args.pin.place
    (c.as_slice.ensures ∙ ap (λ kept. kept.pins) (c.net.ensures net.0 net.1))
    (c.requires.1 net.0 net.1)

pub returns : goal.returns
returns c net e =
    numbered_item (pin_class_of c.args.self.now net) _ (length net.pins) c.args.pin.place _
    (c.as_slice.ensures ∙ ap (λ kept. kept.pins) (c.net.ensures net e)) (c.requires.1 net e)
