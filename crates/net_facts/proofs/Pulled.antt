-- Lemmas about the tables of port bits on pulled nets. The tables say which pins satisfy `is_switching`.
use Rattle.std.proofs.Common.{◌≡◌, ℕ, ◌<◌, Bool, true, false, not, ◌&&◌, ◌||◌, List, [], ◌∷◌, map, replicate, Option, Some, None, refl, sym, ◌∙◌, ap, arith, cond}
use Rattle.std.specs.Prelude.{slice_get, option_map, option_and_then, fold}
use Rattle.std.specs.List.{list_any}
use Rattle.std.proofs.lemmas.List.{get_or-replicate, length-replicate}
use Rattle.std.proofs.lemmas.Option.{slice_get-get_or, slice_get-map}
use Rattle.std.proofs.Math.Bool.{or-false}
use Rattle.lists.proofs.ListLemmas.{list_any-map, list_any_same}
use Rattle.board_defs.specs.declared.board.PinAt.{PinAt}
use Rattle.board_defs.specs.declared.board.Part.{Part}
use Rattle.board_defs.specs.declared.board.Ctl.{Ctl}
use Rattle.board_defs.specs.declared.board.RawBoard.{RawBoard}
use Rattle.board_defs.specs.Pins.{described, is_pulled_to, lets_switch}
use Rattle.board_defs.specs.Settings.{same_ctl}
use Rattle.board_defs.specs.Decided.{bit_count, count_port_bits, is_at, is_switched}
use Rattle.board_defs.proofs.ControlOrder.{same_equal}
use Rattle.net_facts.specs.declared.facts.PinFacts.{PinFacts}
use Rattle.net_facts.specs.declared.facts.NetFacts.{NetFacts}
use Rattle.net_facts.specs.Cells.{put, item_of_cell, at_control, holds_there}
use Rattle.net_facts.specs.Facts.{pin_facts_of, net_facts_of}
use Rattle.net_facts.specs.inner.Switching.{mark_at, mark_pins, mark_pulled, blank_bits, pulled_bits, SaysPulled}
use Rattle.net_facts.proofs.Notes.{at_same, at_other}

mark_none : (o : Option Bool) → o ≡ option_map (λ b. false || b) o
mark_none None = refl
mark_none (Some b) = refl

mark_some : (o : Option Bool) → option_map (put true) o ≡ option_map (λ b. true || b) o
mark_some None = refl
mark_some (Some b) = refl

mark_join : (s t : Bool) (o : Option Bool) → option_map (λ b. t || b) (option_map (λ b. s || b) o) ≡ option_map (λ b. (s || t) || b) o
mark_join s t None = refl
mark_join true true (Some b) = refl
mark_join true false (Some b) = refl
mark_join false t (Some b) = refl

abbrev bit_of : Ctl → PinAt
bit_of c = record { part = c.part; bit = c.cell }

at_row : (at : Option PinAt) (rows : List (List Bool)) (c : Ctl)
    → item_of_cell (mark_at at rows) c
    ≡ option_map (λ b. is_at (bit_of c) at || b) (item_of_cell rows c)
at_row None rows c = mark_none (item_of_cell rows c)
at_row (Some at) rows c = by_same (same_ctl own c) refl
  where
    own : Ctl
    own = record { part = at.part; cell = at.bit }

    by_same : (t : Bool) → same_ctl own c ≡ t
        → item_of_cell (at_control own (put true) rows) c
        ≡ option_map (λ b. same_ctl own c || b) (item_of_cell rows c)
    by_same true e =
        ap (λ (x : Ctl). item_of_cell (at_control x (put true) rows) c) (same_equal own c e)
        ∙ at_same c (put true) rows ∙ mark_some (item_of_cell rows c)
        ∙ ap (λ (t : Bool). option_map (λ (b : Bool). t || b) (item_of_cell rows c)) (sym e)
    by_same false e =
        at_other own c (put true) rows e ∙ mark_none (item_of_cell rows c)
        ∙ ap (λ (t : Bool). option_map (λ (b : Bool). t || b) (item_of_cell rows c)) (sym e)

abbrev stands_at : Ctl → PinFacts → Bool
stands_at c pin = is_at (bit_of c) pin.at

pins_row : (pins : List PinFacts) (rows : List (List Bool)) (c : Ctl)
    → item_of_cell (mark_pins rows pins) c
    ≡ option_map (λ b. list_any (stands_at c) pins || b) (item_of_cell rows c)
pins_row [] rows c = mark_none (item_of_cell rows c)
pins_row (pin ∷ pins) rows c =
    pins_row pins (mark_at pin.at rows) c ∙
    ap (option_map (λ b. list_any (stands_at c) pins || b)) (at_row pin.at rows c) ∙
    mark_join (stands_at c pin) (list_any (stands_at c) pins) (item_of_cell rows c)

abbrev pulls : Bool → Ctl → NetFacts → Bool
pulls value c net = not net.guarded && is_pulled_to value net.pull && list_any (stands_at c) net.pins

net_row : (value : Bool) (net : NetFacts) (rows : List (List Bool)) (c : Ctl)
    → item_of_cell (mark_pulled value rows net) c
    ≡ option_map (λ b. pulls value c net || b) (item_of_cell rows c)
net_row value net rows c = by_pull (not net.guarded && is_pulled_to value net.pull)
  where
    by_pull : (t : Bool)
        → item_of_cell (cond t (mark_pins rows net.pins) rows) c
        ≡ option_map (λ b. (t && list_any (stands_at c) net.pins) || b) (item_of_cell rows c)
    by_pull true = pins_row net.pins rows c
    by_pull false = mark_none (item_of_cell rows c)

nets_row : (value : Bool) (nets : List NetFacts) (rows : List (List Bool)) (c : Ctl)
    → item_of_cell (fold (mark_pulled value) rows nets) c
    ≡ option_map (λ b. list_any (pulls value c) nets || b) (item_of_cell rows c)
nets_row value [] rows c = mark_none (item_of_cell rows c)
nets_row value (net ∷ nets) rows c =
    nets_row value nets (mark_pulled value rows net) c ∙
    ap (option_map (λ b. list_any (pulls value c) nets || b)) (net_row value net rows c) ∙
    mark_join (pulls value c net) (list_any (pulls value c) nets) (item_of_cell rows c)

replicate_get : (n k : ℕ) → k < n → slice_get (replicate n false) k ≡ Some false
replicate_get n k less =
    slice_get-get_or (replicate n false) k false
    (omega (arith, less, length-replicate {A = Bool} n false))
    ∙ ap Some (get_or-replicate {A = Bool} n k false false less)

blank_at : (board : RawBoard) (at : PinAt) → at.bit < count_port_bits board at.part
    → item_of_cell (blank_bits board.chain) (record { part = at.part; cell = at.bit }) ≡ Some false
blank_at board at h =
    ap (option_and_then (λ r. slice_get r at.bit))
    (slice_get-map (λ (part : Part). replicate (bit_count (described part.kind)) false)
    board.chain at.part) ∙ by_part (slice_get board.chain at.part) h
  where
    by_part : (part : Option Part)
        → at.bit < bit_count (option_and_then (λ (p : Part). described p.kind) part)
        → option_and_then (λ r. slice_get r at.bit)
        (option_map (λ (p : Part). replicate (bit_count (described p.kind)) false) part)
        ≡ Some false
    by_part None g = absurd (omega arith)
    by_part (Some part) g = replicate_get (bit_count (described part.kind)) at.bit g

pub says_pulled : (board : RawBoard) (value : Bool)
    → SaysPulled board (pulled_bits board.chain (map (net_facts_of board) board.nets) value) value
says_pulled board value at h =
    let c : Ctl = record { part = at.part; cell = at.bit } in
    ap holds_there
    (nets_row value (map (net_facts_of board) board.nets) (blank_bits board.chain) c
    ∙ ap
    (option_map
    (λ b. list_any (pulls value c) (map (net_facts_of board) board.nets) || b))
    (blank_at board at h)) ∙
    or-false (list_any (pulls value c) (map (net_facts_of board) board.nets)) ∙
    list_any-map (net_facts_of board) (pulls value c) board.nets ∙
    list_any_same (λ net. pulls value c (net_facts_of board net)) (is_switched board at value)
    (λ net. ap (λ t. lets_switch board net value && t)
    (list_any-map (pin_facts_of board net) (stands_at c) net.pins)) board.nets
