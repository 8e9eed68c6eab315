use Rattle.std.proofs.Common.{◌≡◌, Bool, true, false, List, map, sym, ◌∙◌, ap, subst}
use Rattle.board_defs.specs.declared.board.Part.{Part}
use Rattle.net_facts.specs.Facts.{net_facts_of}
use Rattle.net_facts.specs.declared.facts.NetFacts.{NetFacts}
use Rattle.net_facts.specs.inner.Switching.{pulled_bits, SaysPulled}
use Rattle.net_facts.proofs.Pulled.{says_pulled}
use Rattle.net_facts.proofs.pulled_board.PulledBoard.of.Goals as goal

pub invariant_of-result : goal.invariant_of-result
invariant_of-result c =
    let board = c.args.board.now in
    let chain : c.as_slice-chain.result.now ≡ board.chain = c.as_slice-chain.ensures ∙ ap (λ b. b.chain) c.raw.ensures.value in
    let bits : Bool → List (List Bool) = pulled_bits board.chain (map (net_facts_of board) board.nets) in
    let made : (value : Bool) → pulled_bits c.as_slice-chain.result.now c.args.nets.now value ≡ bits value = λ value.
    ap (λ (l : List Part). pulled_bits l c.args.nets.now value) chain ∙ ap
    (λ (facts : List NetFacts). pulled_bits board.chain facts value) c.requires in (
      subst (λ (rows : List (List Bool)). SaysPulled board rows false) (sym (c.in_ok-low.ensures ∙ made false)) (says_pulled board false),
      subst (λ (rows : List (List Bool)). SaysPulled board rows true) (sym (c.in_ok-high.ensures ∙ made true)) (says_pulled board true),
    )
