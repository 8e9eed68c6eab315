-- The parts have the names on the chain's DEVICE and BYPASS lines, in the order of the lines.
use Rattle.std.proofs.Common.{◌≡◌, length, map, ap, sym, ◌∙◌, arith}
use Rattle.board_lines.specs.declared.names.Naming.TheVariants.{Part as PartName, Entity}
use Rattle.board_lines.specs.Names.{named, names_of}
use Rattle.board_lines.specs.ChainParts.{chain_parts}
use Rattle.board_build.proofs.PartLemmas.{parts_named}
use Rattle.board_build.proofs.building.board.Goals as goal

pub of-requires-clause-names : goal.of-requires-clause-names
of-requires-clause-names c =
    let count : length c.args.devices.items
    ≡ length (named Entity c.args.chain.now) = omega
    (arith, c.requires.devices, c.args.devices.ok.0) in
    ap (map (λ part. part.name))
    (c.in_ok-parts.ensures.parts
    ∙ ap (λ v. chain_parts v c.args.devices.items) c.lines-lines.ensures.lines)
    ∙ parts_named c.args.chain.now c.args.devices.items count
    ∙ sym (ap (λ v. names_of (named PartName v)) c.lines-lines.ensures.lines)
