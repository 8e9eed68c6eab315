-- The search proves these clauses without the law, too. These answers need the law's clauses.
use Rattle.outer_calls.proofs.board_laws.kept_lines.Goals as goal

pub returns-clause-chain_count : goal.returns-clause-chain_count
returns-clause-chain_count c = c.kept_lines.ensures.chain_count

pub returns-clause-net_count : goal.returns-clause-net_count
returns-clause-net_count c = c.kept_lines.ensures.net_count
