use Rattle.board_defs.proofs.SingleFaults.{single_is, single_listed, singles_order}
use Rattle.board_defs.proofs.law.singles_listed.Goals as goal

pub returns : goal.returns
returns c board rules =
    record {
      exactly = λ single. (single_is board rules single, single_listed board rules single);
      in_order
          = singles_order board;
    }
