-- Lemmas about the facts that `Known` has about a board.
use Rattle.std.proofs.Common.{◌≡◌, ℕ, ◌<◌, List, map, length, get_or, Option, Some, None, sym, ◌∙◌, ap}
use Rattle.std.specs.Prelude.{slice_get, option_map}
use Rattle.std.proofs.lemmas.Option.{slice_get-get_or, slice_get-map}
use Rattle.lists.proofs.ListLemmas.{map-map}
use Rattle.board_defs.specs.declared.board.Net.{Net}
use Rattle.board_defs.specs.declared.board.RawBoard.{RawBoard}
use Rattle.board_defs.specs.declared.board.Drive.{Drive}
use Rattle.net_facts.specs.declared.classes.BoardFacts.{BoardFacts}
use Rattle.net_classes.specs.Pairs.{drivers_at, drivers_there}
use Rattle.net_facts.specs.Kept.{AreBoardFacts, net_class_of}

pub first_at : (board : RawBoard) (facts : BoardFacts) (firsts : List (Option Drive)) (n : ℕ)
    (first : Option Drive) → AreBoardFacts board facts
    → firsts ≡ map (λ net. slice_get net.drivers 0) facts.nets.items → n < length firsts
    → first ≡ get_or firsts n first → first ≡ slice_get (drivers_at board n) 0
first_at board facts firsts n first are is less e =
    by_net (slice_get board.nets n)
    (sym (slice_get-map f board.nets n)
    ∙ sym
    (ap (λ v. slice_get v n)
    (is ∙ ap (map (λ net. slice_get net.drivers 0)) are.nets_are
    ∙ map-map (net_class_of board) (λ net. slice_get net.drivers 0) board.nets))
    ∙ slice_get-get_or firsts n first less ∙ ap Some (sym e))
  where
    f : Net → Option Drive
    f net = slice_get (net_class_of board net).drivers 0

    by_net : (net : Option Net) → option_map f net ≡ Some first → first ≡ slice_get (drivers_there board net) 0
    by_net None h = cc h
    by_net (Some net) h = cc h
