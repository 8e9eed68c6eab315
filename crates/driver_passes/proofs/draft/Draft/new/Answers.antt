use Rattle.std.proofs.Common.{◌∙◌, ◌+◌, ◌/◌, ◌<◌, ap, length, sym, subst}
use Rattle.board_defs.specs.Passes.{useful_controls}
use Rattle.driver_passes.specs.inner.Drafts.{drafted}
use Rattle.driver_passes.proofs.DraftLemmas.{blank_draft, blank_empty}
use Rattle.driver_passes.proofs.draft.Draft.new.Goals as goal

pub invariant_of-result : goal.invariant_of-result
invariant_of-result c =
    let useful = c.useful-useful.ensures.controls ∙ ap useful_controls c.classes.ensures.same in
    blank_draft c.args.board.now c.in_ok-held.held c.in_ok-free.free
    (c.in_ok-held.ensures.room ∙ ap (λ v. length v / 64 + 1) useful) c.in_ok-held.ensures.none
    (λ n within. c.in_ok-free.ensures n (subst (λ v. n < length v) (sym useful) within))

pub returns : goal.returns
returns c = ap (drafted c.args.board.now) (blank_empty c.args.board.now c.in_ok-held.held c.in_ok-held.ensures.none)
