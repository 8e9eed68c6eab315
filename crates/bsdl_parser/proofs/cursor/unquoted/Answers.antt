use Rattle.std.proofs.lemmas.List.{take-map, drop-map, length-map}
use Rattle.bsdl_parser.proofs.cursor.unquoted.Goals as goal

pub returns-in-len2-up : goal.returns-in-len2-up
returns-in-len2-up c = rw (length-map, drop-map, take-map)
