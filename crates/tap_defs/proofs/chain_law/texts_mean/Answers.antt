use Rattle.tap_defs.proofs.chain.MeaningLemmas.{text_means}
use Rattle.tap_defs.proofs.chain_law.texts_mean.Goals as goal

pub returns : goal.returns
returns c = text_means
