use Rattle.tap_defs.proofs.chain.CodeLemmas.{code_transport, long_code_transport}
use Rattle.tap_defs.proofs.chain_law.code_scans.Goals as goal

pub returns : goal.returns
returns c = record { transport = code_transport; any_length = long_code_transport }
