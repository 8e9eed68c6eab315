-- Proofs that the nets with a driver cell in some pass are the nets that some pass observes.
use Rattle.std.proofs.Common.{◌≡◌, ℕ, ◌+◌, ◌<◌, Bool, true, false, List, [], ◌∷◌, ◌++◌, fold, set, length, map, get_or, replicate, Option, Some, None, is_some, refl, sym, ap, ◌∙◌, arith, ◌⊎◌, inl, inr}
use Rattle.std.specs.Prelude.{slice_get, option_map}
use Rattle.std.specs.Cmp.{both_ways}
use Rattle.std.specs.List.{flat_map}
use Rattle.std.proofs.lemmas.List.Sums.{fold-append}
use Rattle.std.proofs.lemmas.List.{ext_get_or, length-map, length-replicate, get_or-replicate}
use Rattle.std.proofs.lemmas.Option.{slice_get-map, get_or_from_slice_get, slice_get_within}
use Rattle.lists.proofs.ListLemmas.{item_there}
use Rattle.board_defs.specs.declared.board.Net.{Net}
use Rattle.board_defs.specs.declared.board.RawBoard.{RawBoard}
use Rattle.board_defs.specs.declared.board.Ctl.{Ctl}
use Rattle.board_defs.specs.Settings.{holds, enables_where, enables_entry}
use Rattle.board_defs.proofs.Members.{Has, has_at, has_place, contains_has, has_contains, has_append, has_left, has_right, has_flat_map, flat_map_has}
use Rattle.board_defs.proofs.Places.{any_place, any_at}
use Rattle.tap_defs.specs.board.TestRows.{is_observed, observing_driver}
use Rattle.plan_tables.specs.declared.tables.DriverCell.{DriverCell}
use Rattle.plan_tables.specs.Tables.{IsDriverCell, pass_cells_of, first_position}
use Rattle.plan_tables.specs.declared.controls.DriverTable.{DriverTable}
use Rattle.plan_tables.specs.inner.Steady.{ArePassTables}
use Rattle.plan_tables.specs.Assigned.{assigned}
use Rattle.plan_tables.specs.inner.Codes.{with_nets_marked, marked_on, seen_in}
use Rattle.plan_tables.proofs.AssignLemmas.{length-assigned, has_mark, mark_has}
use Rattle.plan_tables.proofs.PassLemmas.{fold_on}
use Rattle.board_defs.specs.declared.device.Cell.{Cell}
use Rattle.board_defs.specs.declared.board.PinAt.{PinAt}
use Rattle.board_defs.specs.Pins.{entry_at}
use Rattle.tap_defs.proofs.board.FeedingLemmas.{Observing, observing_at}

pub driver_cell : (board : RawBoard) (pass : List Ctl) (n : ℕ) (net : Net) (place : ℕ)
    → slice_get board.nets n ≡ Some net → observing_driver board (holds pass) net ≡ Some place →
    (d : DriverCell) × IsDriverCell board pass d × (d.net ≡ n) × (d.place ≡ place)
driver_cell board pass n net place is_net observing = by_at o.pin.at refl o.enabled
  where
    o : Observing board (holds pass) net place
    o = observing_at board (holds pass) net place observing

    by_entry : (at : PinAt) → o.pin.at ≡ Some at → (w : Option Cell) → entry_at board at ≡ w → enables_entry (holds pass) at.part w ≡ true →
        (d : DriverCell) × IsDriverCell board pass d × (d.net ≡ n) × (d.place ≡ place)
    by_entry at is_at None is_entry on = cc on
    by_entry at is_at (Some entry) is_entry on =
        let d : DriverCell = record { net = n; place = place; position = first_position board at.part + entry.num } in (
          d,
          record {
            net = net;
            is_net = is_net;
            observing = observing;
            pin = o.pin;
            is_pin = o.stands;
            at = at;
            is_at = is_at;
            entry = entry;
            is_entry = is_entry;
            position_is = refl;
          },
          refl,
          refl,
        )

    by_at : (w : Option PinAt) → o.pin.at ≡ w → enables_where board (holds pass) w ≡ true →
        (d : DriverCell) × IsDriverCell board pass d × (d.net ≡ n) × (d.place ≡ place)
    by_at None is_at on = cc on
    by_at (Some at) is_at on = by_entry at is_at (entry_at board at) refl on

-- the steady driver cells, which are the same in all passes, followed by the other driver cells of each pass
abbrev all_cells : RawBoard → List Bool → List (List Ctl) → List DriverCell → DriverTable → List DriverCell
all_cells board quiet passes steady table = steady ++ flat_map (λ pass. (pass_cells_of board quiet table pass).drivers) passes

marked_passes : (board : RawBoard) (quiet : List Bool) (table : DriverTable) (passes : List (List Ctl)) (flags : List Bool) →
    fold (marked_on board table) flags passes
    ≡ with_nets_marked flags
    (flat_map (λ pass. (pass_cells_of board quiet table pass).drivers) passes)
marked_passes board quiet table [] flags = refl
marked_passes board quiet table (pass ∷ passes) flags =
    let mark : List Bool → DriverCell → List Bool = λ done d. set done d.net true in
    let own : List DriverCell = (pass_cells_of board quiet table pass).drivers in
    let others : List DriverCell = flat_map (λ q. (pass_cells_of board quiet table q).drivers) passes in
    marked_passes board quiet table passes (marked_on board table flags pass)
    ∙ ap (λ (l : List Bool). with_nets_marked l others) (fold_on board quiet table pass mark flags)
    ∙ sym (fold-append mark flags own others)

marked_all : (board : RawBoard) (quiet : List Bool) (nets : ℕ) (passes : List (List Ctl)) (steady : List DriverCell) (table : DriverTable) →
    seen_in board nets steady table passes ≡ with_nets_marked (replicate nets false) (all_cells board quiet passes steady table)
marked_all board quiet nets passes steady table =
    marked_passes board quiet table passes (with_nets_marked (replicate nets false) steady)
    ∙ sym
    (fold-append (λ flags (d : DriverCell). set flags d.net true) (replicate nets false) steady
    (flat_map (λ pass. (pass_cells_of board quiet table pass).drivers) passes))

pub length-seen_in : (board : RawBoard) (nets : ℕ) (steady : List DriverCell) (table : DriverTable)
    (passes : List (List Ctl)) → length (seen_in board nets steady table passes) ≡ nets
length-seen_in board nets steady table passes =
    ap (λ (l : List Bool). length l) (marked_all board [] nets passes steady table)
    ∙ length-assigned (λ (d : DriverCell). d.net) (λ d. true) (replicate nets false) (all_cells board [] passes steady table)
    ∙ length-replicate nets false

module _ (board : RawBoard) (quiet : List Bool) (passes : List (List Ctl))
    (steady : List DriverCell) (table : DriverTable)
    (are : ArePassTables board passes steady (pass_cells_of board quiet table)) where
  abbrev own_cells : List Ctl → List DriverCell
  own_cells pass = (pass_cells_of board quiet table pass).drivers

  abbrev seen : List Bool
  seen = seen_in board (length board.nets) steady table passes

  abbrev all : List DriverCell
  all = all_cells board quiet passes steady table

  is_marked : seen ≡ assigned (λ d. d.net) (λ d. true) (replicate (length board.nets) false) all
  is_marked = marked_all board quiet (length board.nets) passes steady table

  -- `d` is a driver cell of some pass
  pub record InPass (d : DriverCell) : Type 0 where
    pub number : ℕ
    pub pass : List Ctl
    pub is_pass : slice_get passes number ≡ Some pass
    pub is_cell : IsDriverCell board pass d

  in_pass : (d : DriverCell) → Has all d → InPass d
  in_pass d h = by_part (has_append steady (flat_map own_cells passes) d h)
    where
      of : (x : ℕ) (pass : List Ctl) → slice_get passes x ≡ Some pass → Has (steady ++ own_cells pass) d → InPass d
      of x pass e has =
          record {
            number = x;
            pass = pass;
            is_pass = e;
            is_cell = ((are.each x pass e).drivers d).0
                (has_contains (steady ++ own_cells pass) d has);
          }

      by_part : Has steady d ⊎ Has (flat_map own_cells passes) d → InPass d
      by_part (inl k) =
          let pass = item_there passes 0 (are.some d (has_contains steady d k)) in
          of 0 (pass.0) pass.1 (has_left steady (own_cells (pass.0)) d k)
      by_part (inr k) =
          let m = flat_map_has own_cells passes d k in
          let place = has_place passes (m.0) m.1 in
          of (place.0) (m.0) place.1 (has_right steady (own_cells (m.0)) d m.2)

  of_pass : (x : ℕ) (pass : List Ctl) → slice_get passes x ≡ Some pass → (d : DriverCell) → IsDriverCell board pass d → Has all d
  of_pass x pass e d is =
      by_part
      (has_append steady (own_cells pass) d
      (contains_has (steady ++ own_cells pass) d (((are.each x pass e).drivers d).1 is)))
    where
      by_part : Has steady d ⊎ Has (own_cells pass) d → Has all d
      by_part (inl k) = has_left steady (flat_map own_cells passes) d k
      by_part (inr k) = has_right steady (flat_map own_cells passes) d (has_flat_map own_cells passes pass d (has_at passes x pass e) k)

  module _ (n : ℕ) (net : Net) (is_net : slice_get board.nets n ≡ Some net) where
    within : n < length board.nets
    within = slice_get_within board.nets n net is_net

    seen_observed : get_or seen n false ≡ true → is_observed board passes net ≡ true
    seen_observed e =
        by_mark
        (mark_has (λ (d : DriverCell). d.net) all (replicate (length board.nets) false) n
        (sym (ap (λ (l : List Bool). get_or l n false) is_marked) ∙ e))
      where
        by_mark : (get_or (replicate (length board.nets) false) n false ≡ true)
            ⊎ ((d : DriverCell) × Has all d × (d.net ≡ n)) → is_observed board passes net ≡ true
        by_mark (inl k) = let bad : false ≡ true = sym (get_or-replicate (length board.nets) n false false within) ∙ k in cc bad
        by_mark (inr (d, has, at)) =
            let i : InPass d = in_pass d has in
            let s : IsDriverCell board i.pass d = i.is_cell in
            let two : Some s.net ≡ Some net = sym s.is_net ∙ ap (λ (k : ℕ). slice_get board.nets k) at ∙ is_net in
            let same : s.net ≡ net = cc two in
            any_at (λ (q : List Ctl). is_some (observing_driver board (holds q) net)) passes i.number i.pass i.is_pass
            (ap (λ (y : Net). is_some (observing_driver board (holds i.pass) y)) (sym same) ∙ ap (λ (o : Option ℕ). is_some o) s.observing)

    observed_seen : is_observed board passes net ≡ true → get_or seen n false ≡ true
    observed_seen e =
        let f = any_place (λ (q : List Ctl). is_some (observing_driver board (holds q) net)) passes e in
        by_driver f.place f.item f.stands (observing_driver board (holds f.item) net) refl f.passes
      where
        by_driver : (x : ℕ) (pass : List Ctl) → slice_get passes x ≡ Some pass → (o : Option ℕ)
            → observing_driver board (holds pass) net ≡ o → is_some o ≡ true
            → get_or seen n false ≡ true
        by_driver x pass stands None o some = cc some
        by_driver x pass stands (Some place) o some =
            let d = driver_cell board pass n net place is_net o in
            let has : Has all (d.0) = of_pass x pass stands (d.0) d.1 in
            ap (λ (l : List Bool). get_or l n false) is_marked
            ∙ ap
            (λ (k : ℕ). get_or
            (assigned (λ (c : DriverCell). c.net) (λ c. true)
            (replicate (length board.nets) false) all) k false) (sym d.2)
            ∙ has_mark (λ (c : DriverCell). c.net) all (replicate (length board.nets) false) (d.0)
            has (omega (arith, within, d.2, length-replicate (length board.nets) false))

  pub seen_are : seen ≡ map (is_observed board passes) board.nets
  seen_are =
      ext_get_or false seen (map (is_observed board passes) board.nets)
      (length-seen_in board (length board.nets) steady table passes ∙ sym (length-map board.nets (is_observed board passes)))
      (λ n less. each n (item_there board.nets n (omega (arith, less, length-seen_in board (length board.nets) steady table passes))))
    where
      each : (n : ℕ) → ((net : Net) × (slice_get board.nets n ≡ Some net))
          → get_or seen n false ≡ get_or (map (is_observed board passes) board.nets) n false
      each n (net, e) =
          both_ways (get_or seen n false) (is_observed board passes net) (seen_observed n net e) (observed_seen n net e)
          ∙ sym (get_or_from_slice_get (map (is_observed board passes) board.nets) n (is_observed board passes net) false
          (slice_get-map (is_observed board passes) board.nets n ∙ ap (λ (o : Option Net). option_map (is_observed board passes) o) e))
