-- Each entry of a list takes at least one piece (a token of the string), and so does each turn of each repetition in an
-- entry. So lists of such entries can be read.
use Rattle.std.specs.Prelude.{ℕ, List, Bool, true, false, Option, Some, None}
use Rattle.std.proofs.Common.{inl}
use Rattle.grammars.proofs.Grammars.{TakesToken, EachTurnTakes}
use Rattle.grammars.proofs.ListReaders.{CanRead, each_takes}
use Rattle.bsdl_strings.specs.Places.{Part, pin, code, comma_or_end}
use Rattle.bsdl_strings.specs.Strings.{comma_or_close, entry_pins, map_entry, opcode, indexed, rest_of_place, port_place, control_of, control, cell, entry}

abbrev pub Takes : {A : Type 0} → Part A → Type 0
Takes grammar = TakesToken grammar × EachTurnTakes grammar

pub can_all : {A : Type 0} {entry : Part A} → Takes entry → CanRead entry comma_or_end
can_all takes = record { takes = takes.0; takes_mark = tt; entries = takes.1; marks = tt }

pub can_group : {A : Type 0} {entry : Part A} → Takes entry → CanRead entry comma_or_close
can_group takes = record { takes = takes.0; takes_mark = tt; entries = takes.1; marks = tt }

pub pin_takes : Takes pin
pin_takes = (tt, tt)

pub code_takes : Takes code
code_takes = (tt, tt)

pins_take : (first : Option (List ℕ)) → EachTurnTakes (entry_pins first)
pins_take (Some name) = tt
pins_take None = each_takes (can_group pin_takes)

pub map_takes : Takes map_entry
unfolding map_entry
map_takes = (inl tt, (tt, λ port. (tt, λ u. (tt, λ first. (pins_take first, λ pins. tt)))))

pub opcode_takes : Takes opcode
unfolding opcode
opcode_takes = (inl tt, (tt, λ name. (tt, λ u. (each_takes (can_group code_takes), λ codes. tt))))

indexed_takes : (name : List ℕ) (opens : Bool) → EachTurnTakes (indexed name opens)
indexed_takes name false = tt
indexed_takes name true = (tt, λ i. (tt, λ u. (tt, λ v. tt)))

place_takes : (first : Option (List ℕ)) → EachTurnTakes (rest_of_place first)
place_takes None = (tt, λ u. tt)
place_takes (Some name) = (tt, λ opens. indexed_takes name opens)

port_takes : EachTurnTakes port_place
unfolding port_place
port_takes = (tt, λ first. place_takes first)

control_of_takes : (more : Bool) → EachTurnTakes (control_of more)
control_of_takes false = tt
control_of_takes true = (tt, λ cell. (tt, λ u. (tt, λ disable. (tt, λ v. (tt, λ w. (tt, λ x. tt))))))

control_takes : EachTurnTakes control
unfolding control
control_takes = (tt, λ more. control_of_takes more)

cell_takes : Takes cell
unfolding cell
cell_takes = (inl tt, (tt, λ num. (tt, λ u. (tt, λ name. (tt, λ v. tt)))))

pub entry_takes : Takes entry
unfolding entry
entry_takes = (
  inl cell_takes.0,
  (cell_takes.1, λ num. (port_takes, λ port. (tt, λ role. (tt, λ u. (tt, λ safe. (control_takes, λ ctl. tt)))))),
)
