use Rattle.tap_defs.proofs.chain.ChainTestLemmas.{chain_test}
use Rattle.tap_defs.proofs.chain_law.chain_tests.Goals as goal

pub returns : goal.returns
returns c = chain_test
