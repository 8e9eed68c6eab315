use Rattle.std.proofs.Common.{◌∙◌, ap, map, sym, subst}
use Rattle.board_defs.specs.Pins.{instruction_length}
use Rattle.btest_core.specs.BoardRead.{AreLengths}
use Rattle.btest_core.proofs.LengthLemmas.{lengths_in_bounds}
use Rattle.btest_core.proofs.chain.lengths_of.Goals as goal

pub returns-clause-bounds : goal.returns-clause-bounds
returns-clause-bounds c =
    let same = c.in_ok-lengths.ensures ∙ ap (map (λ part. instruction_length part.kind)) c.deref.ensures.value in
    subst AreLengths (sym same)
    (lengths_in_bounds c.args.file.now c.in_ok-parts.parts.items c.requires.chain
    c.in_ok-parts.ensures.names c.in_ok-parts.ensures.kinds)
