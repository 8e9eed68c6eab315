use Rattle.std.proofs.Common.{Ok}
use Rattle.board_lines.proofs.SelectLemmas.{selected_chain}
use Rattle.board_build.proofs.law.selected_are_chains.Goals as goal

pub returns-clause-chain : goal.returns-clause-chain
returns-clause-chain c = λ lines entities numbers is. (selected_chain (λ v. v) lines entities (Ok numbers) is).0

pub returns-clause-count : goal.returns-clause-count
returns-clause-count c = λ lines entities numbers is. (selected_chain (λ v. v) lines entities (Ok numbers) is).1
