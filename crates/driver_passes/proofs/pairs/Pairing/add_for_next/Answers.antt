use Rattle.std.proofs.Common.{◌∙◌, length, ap, arith}
use Rattle.board_defs.specs.Passes.{useful_controls}
use Rattle.net_classes.specs.Pairs.{drivers_at}
use Rattle.driver_passes.proofs.PairLemmas.{one_done}
use Rattle.driver_passes.proofs.DoneLemmas.{done_kept, done_now, none_wanted, skipped_to, unshown, with_last}
use Rattle.driver_passes.proofs.pairs.Pairing.add_for_next.Goals as goal

pub add_for_nets-requires-clause-unshown : goal.add_for_nets-requires-clause-unshown
add_for_nets-requires-clause-unshown c =
    let first = rw c.classes-classes.ensures.same at c.in-Some.ensures.next in
    unshown c.args.board.now c.args.self.now.passes.items c.args.self.now.left c.args.a c.in-Some.b
    c.requires.looks.left (omega (arith, first.least, c.requires.later))
    (rw c.classes-classes.ensures.same at c.in-Some.ensures.within) first.found

pub returns-in_ok-add_for_nets-in-Some-clause-added : goal.returns-in_ok-add_for_nets-in-Some-clause-added
returns-in_ok-add_for_nets-in-Some-clause-added c =
    let board = c.args.board.now in
    let before = c.args.self.now in
    let a = c.args.a in
    let b = c.in-Some.b in
    let first = rw c.classes-classes.ensures.same at c.in-Some.ensures.next in
    let less = rw c.classes-classes.ensures.same at c.in-Some.ensures.within in
    one_done board (useful_controls board) before.passes.items c.add_for_nets.new.self.passes.items
    a b less c.in_ok-add_for_nets-in-Some.ensures.added ∙
    skipped_to board (useful_controls board) before.passes.items a c.args.from b first.least
    (omega (arith, less))
    (none_wanted board before.passes.items before.left a c.args.from b
    c.pairs_have_drivers.ensures c.requires.looks.left c.requires.later
    (omega (arith, less)) first.earlier)

pub returns-in_ok-add_for_nets-in-Some-clause-done : goal.returns-in_ok-add_for_nets-in-Some-clause-done
returns-in_ok-add_for_nets-in-Some-clause-done c =
    let board = c.args.board.now in
    let before = c.args.self.now in
    let after = c.add_for_nets.new.self.passes.items in
    let a = c.args.a in
    let b = c.in-Some.b in
    let first = rw c.classes-classes.ensures.same at c.in-Some.ensures.next in
    let less = rw c.classes-classes.ensures.same at c.in-Some.ensures.within in
    let added = c.in_ok-add_for_nets-in-Some.ensures.added in
    with_last board before.passes.items after a c.args.from b
    (done_kept board (useful_controls board) before.passes.items after
    (drivers_at board a, drivers_at board b) added)
    (none_wanted board before.passes.items before.left a c.args.from b c.pairs_have_drivers.ensures
    c.requires.looks.left c.requires.later (omega (arith, less)) first.earlier)
    (done_now board (useful_controls board) before.passes.items after a b c.requires.looks.net less added)

pub returns-in-None-clause-done : goal.returns-in-None-clause-done
returns-in-None-clause-done c =
    let before = c.args.self.now in
    let end = c.net_count.ensures.value ∙ ap (λ b. length b.nets) c.classes-classes.ensures.same in
    none_wanted c.args.board.now before.passes.items before.left c.args.a c.args.from
    c.net_count.result c.pairs_have_drivers.ensures c.requires.looks.left c.requires.later
    (omega (arith, end))
    (λ n least below. (rw c.classes-classes.ensures.same at c.in-None.ensures.next) n least
    (omega (arith, below, end)))

pub returns-in-None-clause-added : goal.returns-in-None-clause-added
returns-in-None-clause-added c =
    let board = c.args.board.now in
    let end = c.net_count.ensures.value ∙ ap (λ b. length b.nets) c.classes-classes.ensures.same in
    skipped_to board (useful_controls board) c.args.self.now.passes.items c.args.a c.args.from
    c.net_count.result (omega (arith, end, c.requires.second)) (omega (arith, end))
    (returns-in-None-clause-done c)
