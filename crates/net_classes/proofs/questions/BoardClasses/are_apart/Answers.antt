use Rattle.std.proofs.Common.{not, ◌||◌, sym, ◌∙◌, ap}
use Rattle.board_defs.specs.Decided.{share_net}
use Rattle.net_classes.proofs.ContendedLemmas.{ascends, shared_is}
use Rattle.net_classes.proofs.questions.BoardClasses.are_apart.Goals as goal

pub meet-requires-clause-first : goal.meet-requires-clause-first
meet-requires-clause-first c = ascends c.args.self.now c.args.a _ c.shared_nets.ensures

pub meet-requires-clause-second : goal.meet-requires-clause-second
meet-requires-clause-second c = ascends c.args.self.now c.args.b _ c.shared_nets-2.ensures

pub returns : goal.returns
returns c =
    let board = c.args.self.now in
    ap not
    (shared_is board c.args.a c.args.b c.meet.result _ _
    (sym c.is_same.ensures ∙ c.if-is_same.false) c.shared_nets.ensures
    c.shared_nets-2.ensures c.meet.ensures)
    ∙ ap (λ t. t || not (share_net board c.args.a c.args.b))
    (sym (sym c.is_same.ensures ∙ c.if-is_same.false))
