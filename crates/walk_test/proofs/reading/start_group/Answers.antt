use Rattle.std.proofs.Common.{ℕ, ap, sym, ◌∙◌}
use Rattle.std.proofs.lemmas.Bool.{OnTrue_at, OnTrue_from}
use Rattle.bt_bits.specs.Hex.{digit_count}
use Rattle.walk_test.specs.inner.Reading.{AreStarted}
use Rattle.walk_test.proofs.MaskLemmas.{marks_count, not_started, starts, started}
use Rattle.walk_test.proofs.reading.start_group.Goals as goal

pub mark_row-requires : goal.mark_row-requires
mark_row-requires c =
    let row = c.row-row in
    sym row.result.long ∙ marks_count c.args.log.now.mask row.result.mask.now row.ensures.mask
    ∙ ap (λ (n : ℕ). digit_count n) (sym c.requires.firsts)

pub returns-else-is_one-clause-starts : goal.returns-else-is_one-clause-starts
returns-else-is_one-clause-starts c =
    let row = c.row-row in
    not_started c.args.log.now.log c.args.log.now.mask row.result.mask.now row.ensures.mask c.args.j
    row.result.digits.now row.ensures.digits row.ensures.bits
    c.args.at c.args.none c.args.firsts.now c.is_one.result c.is_one.ensures c.if-is_one.false

pub returns-then-is_one-clause-starts : goal.returns-then-is_one-clause-starts
returns-then-is_one-clause-starts c =
    let row = c.row-row in
    starts c.args.log.now.log c.args.log.now.mask row.result.mask.now row.ensures.mask c.args.j
    row.result.digits.now row.ensures.digits row.ensures.bits
    c.args.none c.args.firsts.now c.requires.firsts c.args.at
    (sym c.is_one.ensures ∙ c.if-is_one.true) c.mark_row.result c.mark_row.ensures.fresh

pub returns-then-is_one-clause-started : goal.returns-then-is_one-clause-started
returns-then-is_one-clause-started c =
    let row = c.row-row in
    let log = c.args.log.now in
    OnTrue_from c.mark_row.result (AreStarted log.log log.mask c.args.j c.args.none c.args.firsts.now c.mark_row.new.firsts)
    (λ is. started log.log log.mask row.result.mask.now row.ensures.mask c.args.j row.result.digits.now row.ensures.digits row.ensures.bits
    c.args.none c.args.firsts.now c.requires.firsts c.mark_row.new.firsts (OnTrue_at is c.mark_row.ensures.marked))
