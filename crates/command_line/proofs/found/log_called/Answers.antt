use Rattle.std.proofs.Common.{◌≡◌, codes, false, rules}
use Rattle.std.specs.Str.{bytes_eq}
use Rattle.clap.specs.Matches.{found_of}
use Rattle.clap.specs.Walk.{rows_of}
use Rattle.command_line.proofs.CalledLemmas.{log_other}
use Rattle.command_line.proofs.found.log_called.Goals as goal

pub returns-else-eq-3 : goal.returns-else-eq-3
returns-else-eq-3 c =
    let diagnose : bytes_eq (codes "diagnose") c.args.name.now ≡ false = search rules in
    let groups : bytes_eq (codes "groups") c.args.name.now ≡ false = search rules in
    let batch : bytes_eq (codes "batch") c.args.name.now ≡ false = search rules in
    log_other c.args.name.now (rows_of (found_of c.args.found.now)) diagnose groups batch
