-- Each turn of each repetition in the grammar of a file takes at least one token. So the grammar's reader finds the
-- entity of each token list that the grammar derives, and refuses every other token list.
use Rattle.std.proofs.Common.{ℕ, List, Bool, true, false, Option, Some, None, inl, inr}
use Rattle.bsdl_parser.specs.declared.entity.Attribute.{Attribute}
use Rattle.bsdl_parser.specs.declared.draft.ItemWord.{ItemWord}
use Rattle.bsdl_parser.specs.declared.draft.ItemWord.TheVariants as words
use Rattle.bsdl_parser.specs.declared.draft.AttrForm.{AttrForm}
use Rattle.bsdl_parser.specs.declared.draft.AttrForm.TheVariants as forms
use Rattle.grammars.specs.Grammar.{production_of, reader_of_grammar}
use Rattle.bsdl_parser.specs.Bsdl.{string_piece, fallback, generic, port_name, range, range_of, group, port_group, ports, used_package, constant, of_class, plain_value, port_value, clock_value, number_value, text_value, value_of, skipped_token, attribute_of, attribute, Items, item_after, item, close_of, file}
use Rattle.grammars.proofs.Exact.{Decides}
use Rattle.grammars.proofs.Grammars.{TakesToken, EachTurnTakes, decides_grammar}

pub string_takes : (close before : List ℕ) → TakesToken (string_piece close before) × EachTurnTakes (string_piece close before)
unfolding string_piece
string_takes close before = (inl tt, (tt, λ piece. (tt, λ joined. tt)))

fallback_takes : (given : Bool) → EachTurnTakes (fallback given)
fallback_takes false = tt
fallback_takes true = (tt, λ _. (string_takes _, λ text. tt))

generic_takes : EachTurnTakes generic
unfolding generic
generic_takes = (tt, λ _. (tt, λ _. (tt, λ _. (tt, λ _. (tt, λ given. (fallback_takes given, λ text. (tt, λ _. tt)))))))

pub port_name_takes : (before : List (List ℕ)) → TakesToken (port_name before) × EachTurnTakes (port_name before)
unfolding port_name
port_name_takes before = (inl tt, (tt, λ name. (tt, λ goes_on. tt)))

range_takes : EachTurnTakes range
unfolding range
range_takes = (tt, λ _. (tt, λ left. (tt, λ up. (tt, λ right. (tt, λ _. tt)))))

range_of_takes : (is_vector : Bool) → EachTurnTakes (range_of is_vector)
range_of_takes false = tt
range_of_takes true = (range_takes, λ bounds. tt)

pub group_takes : EachTurnTakes group
unfolding group
group_takes = (port_name_takes, λ names. (tt, λ direction. (tt, λ is_vector. (range_of_takes is_vector, λ bounds. tt))))

pub port_group_takes : (before : List _) → TakesToken (port_group before) × EachTurnTakes (port_group before)
unfolding port_group
port_group_takes before = (inr (λ ports. inl tt), (group_takes, λ ports. (tt, λ goes_on. tt)))

ports_takes : EachTurnTakes ports
unfolding ports
ports_takes = (tt, λ _. (port_group_takes, λ all. (tt, λ _. tt)))

used_package_takes : EachTurnTakes used_package
unfolding used_package
used_package_takes = (tt, λ name. (tt, λ _. (tt, λ _. (tt, λ _. tt))))

constant_takes : EachTurnTakes constant
unfolding constant
constant_takes = (tt, λ name. (tt, λ _. (tt, λ _. (tt, λ _. (tt, λ _. (string_takes _, λ text. tt))))))

of_class_takes : (class : List ℕ) → EachTurnTakes (of_class class)
unfolding of_class
of_class_takes class = (tt, λ _. (tt, λ word. (tt, λ _. (tt, λ _. (tt, λ _. tt)))))

value_takes : (form : AttrForm) → EachTurnTakes (value_of form)
unfolding plain_value port_value clock_value number_value text_value
value_takes forms.Plain = (of_class_takes _, λ _. (tt, λ _. (tt, λ _. tt)))
value_takes forms.Port = (of_class_takes _, λ port. (tt, λ _. (tt, λ _. tt)))
value_takes forms.Clock = (of_class_takes _, λ port. (tt, λ _. (tt, λ _. (tt, λ _. (tt, λ _. (tt, λ _. (tt, λ _. tt)))))))
value_takes forms.Number = (of_class_takes _, λ _. (tt, λ number. (tt, λ _. tt)))
value_takes forms.Text = (of_class_takes _, λ _. (string_takes _, λ text. tt))

pub skipped_takes : (before : Unit {0}) → TakesToken (skipped_token before) × EachTurnTakes (skipped_token before)
unfolding skipped_token
skipped_takes before = (inl tt, (tt, λ goes_on. tt))

attribute_of_takes : (known : Option (Attribute × AttrForm)) → EachTurnTakes (attribute_of known)
attribute_of_takes None = (skipped_takes, λ _. tt)
attribute_of_takes (Some known) = (value_takes known.1, λ value. tt)

attribute_takes : EachTurnTakes attribute
unfolding attribute
attribute_takes = ((tt, λ name. tt), attribute_of_takes)

item_of_takes : (before : Items) (first : ItemWord) → EachTurnTakes (item_after before first)
unfolding item_after
item_of_takes before words.Generic = (generic_takes, λ text. tt)
item_of_takes before words.Port = (ports_takes, λ all. tt)
item_of_takes before words.Use = (used_package_takes, λ name. tt)
item_of_takes before words.Constant = (constant_takes, λ one. tt)
item_of_takes before words.Attribute = (attribute_takes, λ one. tt)
item_of_takes before words.End = tt

pub item_takes : (before : Items) → TakesToken (item before) × EachTurnTakes (item before)
unfolding item
item_takes before = (inl tt, (tt, λ first. item_of_takes before first))

close_takes : (named : Bool) → EachTurnTakes (close_of named)
close_takes true = tt
close_takes false = tt

file_takes : EachTurnTakes file
unfolding file
file_takes = (tt, λ _. (tt, λ name. (tt, λ _. (item_takes, λ items. (tt, λ named. (close_takes named, λ _. tt))))))

pub decides_file : Decides (production_of file) (reader_of_grammar file)
decides_file = decides_grammar file file_takes
