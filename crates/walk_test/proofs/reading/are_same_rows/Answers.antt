use Rattle.std.proofs.Common.{ℕ, List, length, ap, sym, ◌∙◌}
use Rattle.walk_test.proofs.MaskLemmas.{same_rows}
use Rattle.walk_test.proofs.reading.are_same_rows.Goals as goal

pub is_alike-requires : goal.is_alike-requires
is_alike-requires c =
    sym c.row-2.result.long
    ∙ ap (λ (l : List ℕ). length l) (c.row-2.ensures.mask ∙ sym c.row.ensures.mask)
    ∙ c.row.result.long

pub returns : goal.returns
returns c =
    let log = c.args.log.now in
    same_rows log.log log.mask c.row.result.mask.now c.row.ensures.mask c.args.j c.args.other
    c.row.result.digits.now c.row-2.result.digits.now c.row.ensures.digits
    c.row-2.ensures.digits
    c.row.ensures.bits c.row-2.ensures.bits c.is_alike.result c.is_alike.ensures
