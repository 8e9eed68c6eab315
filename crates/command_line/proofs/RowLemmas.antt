-- The values that `clap` found for the arguments are in rows, one row for each argument. The
-- getters of `clap` return the values in these rows.
use Rattle.std.proofs.Common.{◌≡◌, option_map}
use Rattle.clap.specs.Matches.{first_value, matched_of, raw_values}
use Rattle.clap.specs.Walk.{Text, all_of, first_of, rows_of}
use Rattle.clap.specs.declared.parser.matches.Found.{Found}
use Rattle.clap.proofs.WalkLemmas.{first_value-rows, raw_values-rows}

pub first_row : (f : Found) (id : Text) → first_value f id ≡ first_of id (rows_of f)
first_row f id = first_value-rows f id

pub all_rows : (f : Found) (id : Text) → option_map raw_values (matched_of f id) ≡ all_of id (rows_of f)
all_rows f id = raw_values-rows f id
