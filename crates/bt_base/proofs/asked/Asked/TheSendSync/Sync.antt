-- A list of names owns nothing at run time, so several threads may share it.
use denote.Param.Send.{IsSync, owning_send, part_keyless}
use Rattle.bt_base.specs.contracts.asked.Asked.{the_row, the_type}

pub sync : IsSync the_row
sync = record { shared = λ d b o κ q. part_keyless the_row (owning_send the_type tt (λ e. tt) (λ k x w. tt)) q d b o }
