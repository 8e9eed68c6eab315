use Rattle.std.proofs.Common.{refl}
use Rattle.std.proofs.lemmas.List.{length-map}
use Rattle.board_files.specs.declared.chain_file.ChainLine.{ChainLine}
use Rattle.board_files.specs.declared.net_file.NetLine.{NetLine}
use Rattle.series_parts.specs.Joining.{renaming, joined_line, joined_net}
use Rattle.series_parts.proofs.LineLemmas.{no_links, same_parts, same_lengths, map_after}
use Rattle.series_parts.proofs.law.kept_lines.Goals as goal

pub returns-clause-links : goal.returns-clause-links
returns-clause-links c = λ chain nets. no_links (renaming chain nets) chain

pub returns-clause-parts : goal.returns-clause-parts
returns-clause-parts c = λ chain nets. same_parts (renaming chain nets) chain

pub returns-clause-lengths : goal.returns-clause-lengths
returns-clause-lengths c = λ chain nets h. same_lengths (renaming chain nets) chain h

pub returns-clause-chain_lines : goal.returns-clause-chain_lines
returns-clause-chain_lines c =
    λ chain nets. map_after (joined_line (renaming chain nets)) (λ (line : ChainLine). line.line)
    (λ line. refl) chain

pub returns-clause-net_lines : goal.returns-clause-net_lines
returns-clause-net_lines c = λ chain nets. map_after (joined_net (renaming chain nets)) (λ (line : NetLine). line.line) (λ line. refl) nets

pub returns-clause-pins : goal.returns-clause-pins
returns-clause-pins c = λ chain nets. map_after (joined_net (renaming chain nets)) (λ (line : NetLine). line.pins) (λ line. refl) nets

pub returns-clause-chain_count : goal.returns-clause-chain_count
returns-clause-chain_count c = λ chain nets. length-map chain (joined_line (renaming chain nets))

pub returns-clause-net_count : goal.returns-clause-net_count
returns-clause-net_count c = λ chain nets. length-map nets (joined_net (renaming chain nets))
