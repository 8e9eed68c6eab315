use Rattle.std.proofs.Common.{sym, subst, ◌≤◌, length}
use Rattle.board_gen.proofs.LengthLemmas.{chain_short, net_short, bsdl_short}
use Rattle.board_gen.proofs.make.Goals as goal

pub returns-clause-short : goal.returns-clause-short
returns-clause-short c = record {
  chain = subst (λ text. length text ≤ 4194304) (sym c.in_ok-chain.ensures) (chain_short c.args.number c.requires.few);
  nets = subst (λ text. length text ≤ 4194304) (sym c.in_ok-nets.ensures) (net_short c.args.number c.requires.few);
  bsdl = subst (λ text. length text ≤ 4194304) (sym c.in_ok-bsdl.ensures) bsdl_short;
}
