use Rattle.tap_defs.proofs.chain.DataLemmas.{data_transport, long_data_transport}
use Rattle.tap_defs.proofs.chain_law.data_scans.Goals as goal

pub returns : goal.returns
returns c = record { transport = data_transport; any_length = long_data_transport }
