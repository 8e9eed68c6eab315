use Rattle.std.proofs.Common.{◌∙◌, sym, string_bytes}
use Rattle.std.proofs.lemmas.List.Folds.{list_all-map}
use Rattle.command_line.specs.Words.{is_plain}
use Rattle.command_line.proofs.words.are_plain.Goals as goal

pub returns : goal.returns
returns c = c.all_plain.ensures ∙ sym (list_all-map is_plain string_bytes c.args.words.now)
