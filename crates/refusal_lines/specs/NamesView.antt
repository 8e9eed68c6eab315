-- The names of a command's texts, as lists of bytes.
use Rattle.std.specs.Prelude.{List, [], ◌∷◌, map}
use Rattle.refusal_lines.specs.declared.names.Names.{Names as Lent}
use Rattle.refusal_lines.specs.declared.names.TextNames.{TextNames}
use Rattle.refusal_lines.specs.declared.names.TextNames.TheVariants as given
use Rattle.refusal_lines.specs.Refusals.{Names, Text}

abbrev pub text_names_view : TextNames → List Text
text_names_view (given.One name) = name.now ∷ []
text_names_view (given.Several names) = map (λ name. name.now) names.now

abbrev pub names_view : Lent → Names
names_view names = record { log = names.log.now; chain = names.chain.now; nets = names.nets.now; bsdl = text_names_view names.bsdl }
