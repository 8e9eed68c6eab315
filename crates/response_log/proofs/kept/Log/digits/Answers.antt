use Rattle.std.proofs.Common.{◌∙◌, ◌*◌, [], ℕ, List, ap, sym, subst, arith, get_or, take, drop}
use Rattle.response_log.specs.Kept.{AreRowDigits}
use Rattle.response_log.proofs.KeptLemmas.{kept_digits}
use Rattle.response_log.proofs.kept.Log.digits.Goals as goal

pub overflow_mul-first : goal.overflow_mul-first
overflow_mul-first c =
    let kept = kept_digits c.self.inside.len c.self.inside.rows c.self.inside.digits.items
    c.args.self.now c.args.row c.self.invariant.0 c.self.invariant.1 c.self.view_is c.requires
    in
    omega (arith, kept.0, ap (λ w. c.args.row * w) c.digit_count-count.ensures, c.digit_count-count.ensures, c.self.inside.digits.ok.0)

pub digits_from-requires : goal.digits_from-requires
digits_from-requires c =
    let kept = kept_digits c.self.inside.len c.self.inside.rows c.self.inside.digits.items
    c.args.self.now c.args.row c.self.invariant.0 c.self.invariant.1 c.self.view_is c.requires
    in
    omega (arith, kept.0, ap (λ w. c.args.row * w) c.digit_count-count.ensures, c.digit_count-count.ensures, c.deref.ensures.len)

pub returns : goal.returns
returns c =
    let kept = kept_digits c.self.inside.len c.self.inside.rows c.self.inside.digits.items
    c.args.self.now c.args.row c.self.invariant.0 c.self.invariant.1 c.self.view_is c.requires
    in
    let same = c.digits_from.ensures
    ∙ ap (λ (l : List ℕ). take c.digit_count-count.result (drop (c.args.row * c.digit_count-count.result) l)) c.deref.ensures.value
    ∙ ap (λ (w : ℕ). take w (drop (c.args.row * w) c.self.inside.digits.items)) c.digit_count-count.ensures in
    subst (λ (l : List ℕ). AreRowDigits (get_or c.args.self.now c.args.row []) l) (sym same) kept.1
