use Rattle.std.proofs.Common.{◌≡◌, ℕ, ◌+◌, ◌≤◌, List, sym, subst, arith}
use Rattle.std.specs.Option.{option_to_list}
use Rattle.board_defs.specs.declared.fault.Single.{Single}
use Rattle.diagnoser.specs.inner.Search.{AreFoundBetween}
use Rattle.diagnoser.proofs.FoundLemmas.{found_append, found_nothing}
use Rattle.diagnoser.proofs.search.Search.search_piece.Goals as goal

pub loop-i-init : goal.loop-i-init
loop-i-init g c =
    subst
    (λ (l : List Single). AreFoundBetween c.args.self.now c.args.piece.first c.args.piece.first l)
    (sym c.new-faults.ensures.items) (found_nothing c.args.self.now c.args.piece.first)

pub loop-i-preserved : goal.loop-i-preserved
loop-i-preserved g c =
    let s = c.args.self.now in
    let from = c.args.piece.first in
    let i = c.loop-i.i in
    subst (λ (l : List Single). AreFoundBetween s from (i + 1) l) (sym {A = List Single} c.in_ok-push_some.ensures)
    (found_append s from i (i + 1) c.loop-i.faults.items
    (option_to_list c.try_candidate-fault.result) c.loop-i.auto.i (omega arith)
    c.loop-i.invariant c.try_candidate-fault.ensures)

pub returns : goal.returns
returns g c =
    let last : c.loop-i.i ≤ c.args.piece.end = c.loop-i.auto.i-end c.requires.order in
    let end : c.loop-i.i ≡ c.args.piece.end = omega (arith, last, c.loop-i-test.false) in
    subst (λ (n : ℕ). AreFoundBetween c.args.self.now c.args.piece.first n c.loop-i.faults.items) end c.loop-i.invariant
