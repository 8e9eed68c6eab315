-- The parts have the names on the chain's DEVICE and BYPASS lines, in the order of the lines.
use Rattle.std.proofs.Common.{◌≡◌, length, map, ap, ◌∙◌, arith}
use Rattle.board_lines.specs.declared.names.Naming.TheVariants.{Entity}
use Rattle.board_lines.specs.Names.{named}
use Rattle.board_lines.specs.ChainParts.{chain_parts}
use Rattle.board_build.proofs.PartLemmas.{parts_named}
use Rattle.board_build.proofs.building.parts_of_chain.Goals as goal

pub returns-clause-names : goal.returns-clause-names
returns-clause-names c =
    let count : length c.args.devices.items ≡ length (named Entity c.args.chain.now) = omega (arith, c.requires, c.args.devices.ok.0) in
    ap (map (λ part. part.name))
    (c.in_ok-parts.ensures.parts
    ∙ ap (λ v. chain_parts v c.args.devices.items) c.lines-lines.ensures.lines)
    ∙ parts_named c.args.chain.now c.args.devices.items count
