use Rattle.std.proofs.Common.{◌∙◌, ◌+◌, ◌*◌, ◌/◌, ◌%◌, Some, ap, sym, arith, get_or}
use Rattle.std.proofs.lemmas.List.{get_or_default}
use Rattle.bt_bits.specs.Digits.{digit_bit}
use Rattle.bt_bits.specs.Hex.{digit_count}
use Rattle.response_log.specs.LogRows.{log_bit}
use Rattle.response_log.proofs.KeptLemmas.{kept_bit, seen_place}
use Rattle.response_log.proofs.kept.Log.bit.Goals as goal

pub overflow_mul-first : goal.overflow_mul-first
overflow_mul-first c =
    let place = seen_place c.self.inside.len c.self.inside.rows c.self.inside.digits.items
    c.args.self.now c.args.row c.args.at c.self.invariant.0 c.self.view_is c.requires.row
    c.requires.bit in
    omega (arith, place.digit_within, ap (λ w. c.args.row * w) c.digit_count.ensures, c.self.inside.digits.ok.0)

pub overflow_add-first : goal.overflow_add-first
overflow_add-first c =
    let place = seen_place c.self.inside.len c.self.inside.rows c.self.inside.digits.items
    c.args.self.now c.args.row c.args.at c.self.invariant.0 c.self.view_is c.requires.row
    c.requires.bit in
    omega (arith, place.digit_within, ap (λ w. c.args.row * w) c.digit_count.ensures, c.self.inside.digits.ok.0)

pub index-requires : goal.index-requires
index-requires c =
    let place = seen_place c.self.inside.len c.self.inside.rows c.self.inside.digits.items
    c.args.self.now c.args.row c.args.at c.self.invariant.0 c.self.view_is c.requires.row
    c.requires.bit in
    omega (arith, place.digit_within, ap (λ w. c.args.row * w) c.digit_count.ensures, c.self.inside.digits.ok.0)

pub returns : goal.returns
returns c =
    let len = c.self.inside.len in
    let digits = c.self.inside.digits.items in
    let place = seen_place c.self.inside.len c.self.inside.rows c.self.inside.digits.items
    c.args.self.now c.args.row c.args.at c.self.invariant.0 c.self.view_is c.requires.row
    c.requires.bit in
    let at_digit = ap (λ w. c.args.row * w + c.args.at / 4) c.digit_count.ensures in
    ap (λ log. log_bit log c.args.row c.args.at) (sym c.self.view_is)
    ∙ kept_bit len c.self.inside.rows digits c.args.row c.args.at c.self.invariant.0 place.row_within place.bit_within
    ∙ ap (λ b. Some b)
    (sym
    (c.digit_bit.ensures
    ∙ ap (λ x. digit_bit x (c.args.at % 4))
    (c.index.ensures ∙ ap (λ i. get_or digits i c.index.result.now) at_digit
    ∙ get_or_default digits (c.args.row * digit_count len + c.args.at / 4)
    c.index.result.now 0 place.digit_within)))
