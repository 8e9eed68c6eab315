use Rattle.std.proofs.Common.{List, Bool, length, ap, ◌∙◌, arith}
use Rattle.plan_tables.proofs.SeenLemmas.{length-seen_in}
use Rattle.plan_tables.proofs.codes.net_codes.Goals as goal

pub number_nets-requires : goal.number_nets-requires
number_nets-requires c =
    omega (
      arith,
      c.requires.few,
      ap (λ (l : List Bool). length l) (c.deref.ensures.value ∙ c.in_ok-seen.ensures),
      length-seen_in c.args.placed.now.board.now c.args.nets c.args.tables.now.steady
          c.args.tables.now.by_control c.args.passes.now,
    )
