-- The files with the new names of nets, and with INERT lines in place of LINK lines, are the joined
-- files.
use Rattle.std.proofs.Common.{◌≡◌, map, ap, ◌∙◌, sym, subst, Bor, List, ℕ}
use Rattle.board_files.specs.Files.{IsChainFile, IsNetFile}
use Rattle.series_parts.specs.inner.Edges.{renamed}
use Rattle.series_parts.specs.Joining.{joined_line, joined_net, joined_chain, joined_nets, joined_name, links}
use Rattle.series_parts.proofs.EdgeLemmas.{renaming_is}
use Rattle.series_parts.proofs.FileLemmas.{chain_file_joined, net_file_joined}
use Rattle.series_parts.proofs.joining.renamed_files.Goals as goal

pub of-requires-2 : goal.of-requires-2
of-requires-2 c = subst IsChainFile (sym c.in_ok-joined_chain.ensures) (chain_file_joined _ _ c.lines-chain.ensures.file)

pub of-requires-3 : goal.of-requires-3
of-requires-3 c = subst IsNetFile (sym c.in_ok-joined_nets.ensures) (net_file_joined _ _ c.lines-nets.ensures.file)

pub returns : goal.returns
returns c =
    let chain = c.lines-chain.result.now in
    let nets = c.lines-nets.result.now in
    let names = c.in_ok-names.names in
    let least = map (λ (n : Bor (List ℕ)). n.now) c.in_ok-least.least.items in
    let h : (name : List ℕ)
    → renamed names least name
    ≡ joined_name (links nets chain) names name = λ name. c.in_ok-least.ensures name
    ∙ ap (λ lines. joined_name (links lines chain) names name)
    (c.requires ∙ sym c.lines-nets.ensures.lines) in
    let first = renaming_is nets chain names least
    (map (λ (n : Bor (List ℕ)). n.now) c.deref.result.now) c.in_ok-names.ensures
    (ap (map (λ (n : Bor (List ℕ)). n.now)) c.deref.ensures.value) h in
    let second = renaming_is nets chain names least
    (map (λ (n : Bor (List ℕ)). n.now) c.deref-2.result.now) c.in_ok-names.ensures
    (ap (map (λ (n : Bor (List ℕ)). n.now)) c.deref-2.ensures.value) h in
    let new_chain : c.of-2.result
    ≡ joined_chain chain nets = c.of-2.ensures ∙ c.in_ok-joined_chain.ensures
    ∙ ap (λ f. map (joined_line f) chain) first in
    let new_nets : c.of-3.result
    ≡ joined_nets chain nets = c.of-3.ensures ∙ c.in_ok-joined_nets.ensures
    ∙ ap (λ f. map (joined_net f) nets) second in
    let same_chain : c.of-2.result
    ≡ joined_chain c.args.chain.now c.args.nets.now = new_chain
    ∙ (λ i. joined_chain (c.lines-chain.ensures.lines i) (c.lines-nets.ensures.lines i)) in
    let same_nets : c.of-3.result
    ≡ joined_nets c.args.chain.now c.args.nets.now = new_nets
    ∙ (λ i. joined_nets (c.lines-chain.ensures.lines i) (c.lines-nets.ensures.lines i)) in
    λ i. record { chain = same_chain i; nets = same_nets i }
