-- The files that the function returns are the joined files of the chain file and the net file.
use Rattle.std.proofs.Common.{◌≡◌, ap, sym, subst, List}
use Rattle.board_files.specs.declared.chain_file.ChainLine.{ChainLine}
use Rattle.board_files.specs.declared.net_file.NetLine.{NetLine}
use Rattle.series_parts.specs.declared.joining.Joined.{Joined}
use Rattle.series_parts.specs.JoinedFiles.{AreJoinedFiles}
use Rattle.series_parts.specs.Joining.{joined_chain, joined_nets}
use Rattle.series_parts.proofs.RelationLemmas.{files_joined}
use Rattle.series_parts.proofs.joining.join.Goals as goal

pub returns-clause-joined : goal.returns-clause-joined
returns-clause-joined c =
    let chain = c.args.chain.now in
    let nets = c.args.nets.now in
    let whole = c.in_ok-renamed_files.ensures in
    let new_chain : c.in_ok-renamed_files.field-0.chain ≡ joined_chain chain nets = ap (λ (j : Joined). j.chain) whole in
    let new_nets : c.in_ok-renamed_files.field-0.nets ≡ joined_nets chain nets = ap (λ (j : Joined). j.nets) whole in
    subst (λ (lines : List ChainLine). AreJoinedFiles chain nets lines c.in_ok-renamed_files.field-0.nets) (sym new_chain)
    (subst (λ (lines : List NetLine). AreJoinedFiles chain nets (joined_chain chain nets) lines) (sym new_nets) (files_joined chain nets))
