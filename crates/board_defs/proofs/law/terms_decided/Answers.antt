use Rattle.board_defs.proofs.SafeSettings.{alone_safe, safe_alone, together_safe, safe_together}
use Rattle.board_defs.proofs.Covered.{useful_is, useful_true, covered_is, covered_true, paired_is, paired_true, tested_driver_is, tested_driver_true, tested_receiver_is, tested_receiver_true}
use Rattle.board_defs.proofs.Reasons.{reason_is}
use Rattle.board_defs.proofs.law.terms_decided.Goals as goal

pub returns : goal.returns
returns c board rules = record {
  safe = λ a. (alone_safe board a rules, safe_alone board a);
  together = λ a b. (together_safe board a b rules, safe_together board a b);
  useful = λ a. (useful_is board a rules, useful_true board a rules);
  covered = λ n net en. (covered_is board n net rules en, covered_true board n net rules en);
  paired = λ m n a b ea eb ne. (paired_is board m n a b rules ea eb ne, paired_true board m n a b rules ea eb);
  tested_driver = λ n net place en. (tested_driver_is board n net place rules en, tested_driver_true board n net place rules en);
  reason = λ n net en. reason_is board n net rules en;
  tested_receiver = λ n net place en. (tested_receiver_is board n net place rules en, tested_receiver_true board n net place rules en);
}
