-- Lemmas about the steady driver cells, which are driver cells of every pass, and about the cells of each pass. An observer is a driver by
-- which its net can be observed.
use Rattle.std.proofs.Common.{◌≡◌, ℕ, suc, ◌<◌, ◌≤◌, ◌==◌, nat_lt, Bool, true, false, not, cond, ◌&&◌, List, [], ◌∷◌, ◌++◌, length, map, get_or, set, replicate, Option, Some, None, refl, sym, ap, ◌∙◌, subst, arith, length-set, ◌⊎◌, inl, inr}
use Rattle.std.specs.Prelude.{slice_get, filter, Contains}
use Rattle.std.specs.List.{flat_map}
use Rattle.std.proofs.lemmas.Bool.{and_parts, cases_eq, cases_lt, eqb-true, ltb-true, not-true, both_ways}
use Rattle.std.proofs.lemmas.List.{get_or-set_same, get_or-set_other, get_or_past, length-replicate, get_or-map}
use Rattle.std.proofs.lemmas.Option.{slice_get_within, get_or_from_slice_get}
use Rattle.board_defs.specs.declared.board.RawBoard.{RawBoard}
use Rattle.board_defs.specs.declared.board.Ctl.{Ctl}
use Rattle.board_defs.specs.BoardRules.{IsBoard}
use Rattle.board_defs.specs.Pins.{device_at, cell_count, data_bits}
use Rattle.board_defs.specs.Settings.{holds}
use Rattle.board_defs.proofs.Members.{Has, has_at, contains_has, has_contains, has_append, has_left, has_right, has_map, map_has, has_filter, filter_has, has_flat_map}
use Rattle.plan_tables.specs.declared.tables.HeldCell.{HeldCell}
use Rattle.plan_tables.specs.declared.tables.DriverCell.{DriverCell}
use Rattle.plan_tables.specs.Tables.{PassCells, ArePassCells, held_cell, cells_on, pass_cells_of}
use Rattle.plan_tables.specs.declared.observers.Observer.{Observer}
use Rattle.plan_tables.specs.declared.uses.Uses.{Uses}
use Rattle.plan_tables.specs.inner.Laid.{bits_of_parts, quiet_bits}
use Rattle.plan_tables.specs.Plans.{controls_some, ArePlannable}
use Rattle.plan_tables.specs.inner.Building.{observers, table_of}
use Rattle.plan_tables.specs.inner.Steady.{held_by, run_at, all_run, HoldsAt, AreRuns, AreUses, is_common, is_steady, steady_cells, moving, ArePassTables}
use Rattle.plan_tables.proofs.LaidLemmas.{length-laid}
use Rattle.plan_tables.proofs.AssignLemmas.{assigned_groups, has_mark}
use Rattle.plan_tables.proofs.DriverTableLemmas.{IsOn, OnBy, cells_has, has_cells}
use Rattle.plan_tables.proofs.ObserverLemmas.{observer_below, observer_stands, is_cell, cell_is_on}
use Rattle.plan_tables.proofs.PlanLemmas.{held_only, is_held_cell}
use Rattle.plan_tables.proofs.HeldLemmas.{control_cells}

run_goes_on : (passes : List (List HeldCell)) (runs : List ℕ) (k : ℕ) (h : HeldCell)
    → Has (get_or passes k []) h → AreRuns passes runs → AreRuns passes (run_at k runs h.position)
run_goes_on passes runs k h has are position x less = by_test (get_or runs h.position 0 == k) refl less
  where
    p : ℕ
    p = h.position

    here : get_or runs h.position 0 ≡ k → (x ≡ k) ⊎ (x ≡ k → ⊥) → x < suc k → HoldsAt (get_or passes x []) h.position
    here e (inl same) below =
        subst (λ (n : ℕ). HoldsAt (get_or passes n []) h.position) (sym same)
        (h, has_contains (get_or passes k []) h has, refl)
    here e (inr other) below = are h.position x (omega (arith, e, other, below))

    by_place : get_or runs h.position 0 ≡ k → (position ≡ h.position) ⊎ (position ≡ h.position → ⊥)
        → (h.position < length runs) ⊎ (length runs ≤ h.position) →
        x < get_or (set runs h.position (suc k)) position 0 → HoldsAt (get_or passes x []) position
    by_place e (inr other) there below = are position x (omega (arith, below, get_or-set_other runs h.position position (suc k) 0 other))
    by_place e (inl same) (inl within) below =
        subst (λ (n : ℕ). HoldsAt (get_or passes x []) n) (sym same)
        (here e (cases_eq x k)
        (omega (
          arith,
          below,
          ap (λ (n : ℕ). get_or (set runs h.position (suc k)) n 0) same,
          get_or-set_same runs h.position (suc k) 0 within,
        )))
    by_place e (inl same) (inr past) below =
        absurd
        (omega (
          arith,
          below,
          get_or_past (set runs h.position (suc k)) position 0
              (omega (arith, past, same, length-set runs h.position (suc k))),
        ))

    by_test : (t : Bool) → (get_or runs h.position 0 == k) ≡ t
        → x < get_or (cond t (set runs h.position (suc k)) runs) position 0
        → HoldsAt (get_or passes x []) position
    by_test true e below =
        by_place (eqb-true (get_or runs h.position 0) k e) (cases_eq position h.position)
        (cases_lt h.position (length runs)) below
    by_test false e below = are position x below

pub runs_go_on : (passes : List (List HeldCell)) (k : ℕ) (held : List HeldCell) (runs : List ℕ)
    → ((h : HeldCell) → Has held h → Has (get_or passes k []) h) → AreRuns passes runs →
    AreRuns passes (all_run k runs held)
runs_go_on passes k [] runs of_pass are = are
runs_go_on passes k (h ∷ held) runs of_pass are =
    runs_go_on passes k held (run_at k runs h.position) (λ x has. of_pass x (inr has))
    (run_goes_on passes runs k h (of_pass h (inl refl)) are)

pub held_at : (board : RawBoard) (quiet : List Bool) (passes : List (List Ctl)) (x : ℕ)
    (d : List Ctl) → x < length passes
    → get_or (held_by board quiet passes) x [] ≡ map (held_cell board quiet) (get_or passes x d)
held_at board quiet passes x d less = get_or-map (λ (pass : List Ctl). map (held_cell board quiet) pass) passes x d [] less

pub flagged : (board : RawBoard) (quiet : List Bool) (passes : List (List Ctl)) (uses : Uses)
    → AreUses board quiet passes uses → (x : ℕ) (pass : List Ctl) → slice_get passes x ≡ Some pass
    → (h : HeldCell) →
    Has (map (held_cell board quiet) pass) h → h.position < length quiet → get_or uses.held h.position false ≡ true
flagged board quiet passes uses are x pass e h own within =
    let cells : List Ctl → List HeldCell = λ q. map (held_cell board quiet) q in
    ap (λ (l : List Bool). get_or l h.position false)
    (are.flags
    ∙ assigned_groups (λ (c : HeldCell). c.position) (λ c. true) cells passes
    (replicate (length quiet) false))
    ∙ has_mark (λ (c : HeldCell). c.position) (flat_map cells passes)
    (replicate (length quiet) false) h
    (has_flat_map cells passes pass h (has_at passes x pass e) own)
    (omega (arith, within, length-replicate (length quiet) false))

-- observer `x` is steady: `passes` is not 0, no pass has the observer's own cell as a control, and the observer has no control or the run
-- of its control's position is exactly `passes`
pub record Steady (uses : Uses) (passes : ℕ) (x : Observer) : Type 0 where
  pub some : 0 < passes
  pub free : get_or uses.held x.cell.position false ≡ false
  pub common : is_common uses passes x.control ≡ true

pub steady_parts : (uses : Uses) (passes : ℕ) (x : Observer) → is_steady uses passes x ≡ true → Steady uses passes x
steady_parts uses passes x e =
    let a = and_parts (nat_lt 0 passes) (not (get_or uses.held x.cell.position false) && is_common uses passes x.control) e in
    let b = and_parts (not (get_or uses.held x.cell.position false)) (is_common uses passes x.control) a.1 in
    record { some = ltb-true 0 passes a.0; free = not-true (get_or uses.held x.cell.position false) b.0; common = b.1 }

pub record SteadyOf (uses : Uses) (passes : ℕ) (observers : List Observer) (d : DriverCell) : Type 0 where
  pub observer : Observer
  pub is_in : Has observers observer
  pub steady : Steady uses passes observer
  pub cell_is : observer.cell ≡ d

pub steady_of : (uses : Uses) (passes : ℕ) (observers : List Observer) (d : DriverCell)
    → Has (steady_cells uses passes observers) d → SteadyOf uses passes observers d
steady_of uses passes observers d h =
    let m = map_has (λ (x : Observer). x.cell) (filter (is_steady uses passes) observers) d h in
    let f = filter_has (is_steady uses passes) observers (m.0) m.1 in
    record { observer = m.0; is_in = f.0; steady = steady_parts uses passes (m.0) f.1; cell_is = m.2 }

common_on : (passes : List (List HeldCell)) (n : ℕ) (uses : Uses) → AreRuns passes uses.runs
    → (control : Option ℕ) → is_common uses n control ≡ true → (x : ℕ) → x < n
    → IsOn (get_or passes x []) control
common_on passes n uses are None e x less p c = let bad : None ≡ Some p = c in cc bad
common_on passes n uses are (Some q) e x less p c =
    let two : Some q ≡ Some p = c in
    let same : q ≡ p = cc two in
    let h = are q x (omega (arith, less, eqb-true (get_or uses.runs q 0) n e)) in
    (h.0, contains_has (get_or passes x []) (h.0) h.1, h.2 ∙ same)

module _ (board : RawBoard) (rules : IsBoard board) (quiet : List Bool)
    (quiet_is : quiet ≡ bits_of_parts (quiet_bits board) board) (passes : List (List Ctl))
    (plannable : ArePlannable board passes) (bits : ℕ) (bits_are : bits ≡ data_bits board)
    (uses : Uses) (are : AreUses board quiet passes uses) where
  abbrev all : List Observer
  all = observers board board.nets

  abbrev steady : List DriverCell
  steady = steady_cells uses (length passes) all

  abbrev others : List Observer
  others = moving uses (length passes) all

  abbrev cells_of : List Ctl → PassCells
  cells_of pass = pass_cells_of board quiet (table_of others bits) pass

  steady_cell : (d : DriverCell) → Contains steady d → SteadyOf uses (length passes) all d
  steady_cell d h = steady_of uses (length passes) all d (contains_has steady d h)

  module _ (x : ℕ) (pass : List Ctl) (e : slice_get passes x ≡ Some pass) where
    abbrev held : List HeldCell
    held = map (held_cell board quiet) pass

    abbrev own : List DriverCell
    own = cells_on (table_of others bits) held

    below : x < length passes
    below = slice_get_within passes x pass e

    controls : (c : Ctl) → holds pass c ≡ true → controls_some board c ≡ true
    controls c on = plannable.controls x pass c e on

    there : (c : Ctl) → holds pass c ≡ true → c.cell < cell_count (device_at board c.part)
    there c on = control_cells board rules c (controls c on)

    held_is : get_or (held_by board quiet passes) x [] ≡ held
    held_is =
        held_at board quiet passes x pass below
        ∙ ap (λ (l : List Ctl). map (held_cell board quiet) l)
        (get_or_from_slice_get passes x pass pass e)

    steady_on : (d : DriverCell) → SteadyOf uses (length passes) all d → OnBy all held d
    steady_on d s = record {
      observer = s.observer;
      is_in = s.is_in;
      is_on =
          subst (λ (l : List HeldCell). IsOn l s.observer.control) held_is
          (common_on (held_by board quiet passes) (length passes) uses are.runs s.observer.control
          s.steady.common x below);
      cell_is = s.cell_is;
    }

    own_on : (d : DriverCell) → OnBy others held d → OnBy all held d
    own_on d o = record {
      observer = o.observer;
      is_in = (filter_has (λ (y : Observer). not (is_steady uses (length passes) y)) all o.observer o.is_in).0;
      is_on = o.is_on;
      cell_is = o.cell_is;
    }

    on_all : (d : DriverCell) → Has steady d ⊎ Has own d → OnBy all held d
    on_all d (inl h) = steady_on d (steady_of uses (length passes) all d h)
    on_all d (inr h) = own_on d (cells_has others bits held d h)

    all_on : (d : DriverCell) → OnBy all held d → Has (steady ++ own) d
    all_on d o = by_test (is_steady uses (length passes) o.observer) refl
      where
        by_test : (t : Bool) → is_steady uses (length passes) o.observer ≡ t → Has (steady ++ own) d
        by_test true s =
            has_left steady own d
            (subst (λ (c : DriverCell). Has steady c) o.cell_is
            (has_map (λ (y : Observer). y.cell) (filter (is_steady uses (length passes)) all)
            o.observer (has_filter (is_steady uses (length passes)) all o.observer o.is_in s)))
        by_test false s =
            let moves : not (is_steady uses (length passes) o.observer) ≡ true = ap (λ (t : Bool). not t) s in
            has_right steady own d
            (has_cells others bits held d
            (λ y p h k.
            let within : p
            < data_bits board = observer_below board rules y p
            ((filter_has (λ (z : Observer). not (is_steady uses (length passes) z)) all y h).0)
            k in
            omega (arith, within, bits_are))
            (record {
              observer = o.observer;
              is_in = has_filter (λ (y : Observer). not (is_steady uses (length passes) y)) all o.observer o.is_in moves;
              is_on = o.is_on;
              cell_is = o.cell_is;
            }))

    apart : (h : HeldCell) (d : DriverCell) → Has held h → SteadyOf uses (length passes) all d → h.position ≡ d.position → ⊥
    apart h d has s same =
        let at : h.position ≡ s.observer.cell.position = same ∙ ap (λ (c : DriverCell). c.position) (sym s.cell_is) in
        let within : h.position < data_bits board = omega (arith, at, (observer_stands board rules s.observer s.is_in).1) in
        let marked : get_or uses.held h.position false ≡ true =
        flagged board quiet passes uses are x pass e h has
        (omega (
          arith,
          within,
          ap (λ (l : List Bool). length l) quiet_is,
          length-laid (quiet_bits board) board,
        )) in
        both_ways (get_or uses.held s.observer.cell.position false) s.steady.free
        (ap (λ (n : ℕ). get_or uses.held n false) (sym at) ∙ marked)

    pass_cells_are : ArePassCells board steady pass (cells_of pass)
    pass_cells_are = record {
      held = λ h. (
        (λ has. held_only board rules quiet quiet_is pass controls h (contains_has held h has)),
        λ s. has_contains held h (is_held_cell board rules quiet quiet_is pass controls h s),
      );
      drivers = λ d. (
        (λ has. is_cell board rules quiet pass (plannable.safe x pass e) there d
            (on_all d (has_append steady own d (contains_has (steady ++ own) d has)))),
        λ s. has_contains (steady ++ own) d (all_on d (cell_is_on board rules quiet pass (plannable.safe x pass e) there d s)),
      );
      apart = λ h d has s same. apart h d (contains_has held h has) (steady_cell d s) same;
    }

  pub tables_are : ArePassTables board passes
      (steady_cells uses (length passes) (observers board board.nets))
      (pass_cells_of board quiet
      (table_of (moving uses (length passes) (observers board board.nets)) bits))
  tables_are = record {
    each = pass_cells_are;
    some = λ d h. (steady_cell d h).steady.some;
    nets =
        λ d h. let s = steady_cell d h in
        subst (λ (c : DriverCell). c.net < length board.nets) s.cell_is
        (observer_stands board rules s.observer s.is_in).0;
    within =
        λ d h. let s = steady_cell d h in
        subst (λ (c : DriverCell). c.position < data_bits board) s.cell_is
        (observer_stands board rules s.observer s.is_in).1;
  }
