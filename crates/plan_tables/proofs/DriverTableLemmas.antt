-- Lemmas about the cells that the table of driver cells contains for the controls of a pass. An observer is a driver by
-- which its net can be observed.
use Rattle.std.proofs.Common.{◌≡◌, ℕ, ◌<◌, ◌≤◌, true, List, [], ◌∷◌, ◌++◌, length, get_or, set, replicate, Option, Some, None, refl, sym, ap, ◌∙◌, subst, arith, length-set, ◌⊎◌, inl, inr}
use Rattle.std.specs.Prelude.{filter, is_none}
use Rattle.std.specs.List.{flat_map}
use Rattle.std.proofs.lemmas.Bool.{cases_eq, cases_lt}
use Rattle.std.proofs.lemmas.List.{get_or-set_same, get_or-set_other, get_or-replicate, length-replicate, get_or_past}
use Rattle.lists.specs.Rows.{noted}
use Rattle.lists.proofs.RowLemmas.{length-noted}
use Rattle.board_defs.proofs.Members.{Has, has_append, has_left, has_right, has_map, map_has, has_filter, filter_has, has_flat_map, flat_map_has}
use Rattle.plan_tables.specs.declared.tables.HeldCell.{HeldCell}
use Rattle.plan_tables.specs.declared.tables.DriverCell.{DriverCell}
use Rattle.plan_tables.specs.declared.observers.Observer.{Observer}
use Rattle.plan_tables.specs.Tables.{cells_on}
use Rattle.plan_tables.specs.inner.Building.{always_on_cells, observers_noted, table_of}

-- some observer in the list has this control and this cell
pub record Noted (observers : List Observer) (control : ℕ) (cell : DriverCell) : Type 0 where
  pub observer : Observer
  pub is_in : Has observers observer
  pub control_is : observer.control ≡ Some control
  pub cell_is : observer.cell ≡ cell

row_has : (rows : List (List DriverCell)) (q : ℕ) (cell : DriverCell) (p : ℕ) (d : DriverCell)
    → Has (get_or (noted rows (Some q) cell) p []) d
    → Has (get_or rows p []) d ⊎ ((q ≡ p) × (cell ≡ d))
row_has rows q cell p d h = by_there (cases_lt p (length rows))
  where
    row : List DriverCell
    row = get_or rows q [] ++ cell ∷ []

    by_part : (p ≡ q) → Has (get_or rows q []) d ⊎ Has (cell ∷ []) d → Has (get_or rows p []) d ⊎ ((q ≡ p) × (cell ≡ d))
    by_part e (inl k) = inl (subst (λ (n : ℕ). Has (get_or rows n []) d) (sym e) k)
    by_part e (inr (inl same)) = inr (sym e, same)
    by_part e (inr (inr none)) = absurd none

    by_place : p < length rows → (p ≡ q) ⊎ (p ≡ q → ⊥) → Has (get_or rows p []) d ⊎ ((q ≡ p) × (cell ≡ d))
    by_place less (inl e) =
        let here : get_or (set rows q row) p []
        ≡ row = ap (λ (n : ℕ). get_or (set rows q row) n []) e
        ∙ get_or-set_same rows q row [] (omega (arith, less, e)) in
        by_part e (has_append (get_or rows q []) (cell ∷ []) d (subst (λ (l : List DriverCell). Has l d) here h))
    by_place less (inr ne) = inl (subst (λ (l : List DriverCell). Has l d) (get_or-set_other rows q p row [] ne) h)

    by_there : (p < length rows) ⊎ (length rows ≤ p) → Has (get_or rows p []) d ⊎ ((q ≡ p) × (cell ≡ d))
    by_there (inl less) = by_place less (cases_eq p q)
    by_there (inr past) =
        let none : get_or (set rows q row) p [] ≡ [] = get_or_past (set rows q row) p [] (omega (arith, past, length-set rows q row)) in
        absurd (subst (λ (l : List DriverCell). Has l d) none h)

has_row : (rows : List (List DriverCell)) (q : ℕ) (cell : DriverCell) (p : ℕ) (d : DriverCell)
    → p < length rows → Has (get_or rows p []) d ⊎ ((q ≡ p) × (cell ≡ d))
    → Has (get_or (noted rows (Some q) cell) p []) d
has_row rows q cell p d less h = by_place (cases_eq p q) h
  where
    row : List DriverCell
    row = get_or rows q [] ++ cell ∷ []

    here : (p ≡ q) → row ≡ get_or (set rows q row) p []
    here e = sym (ap (λ (n : ℕ). get_or (set rows q row) n []) e ∙ get_or-set_same rows q row [] (omega (arith, less, e)))

    by_place : (p ≡ q) ⊎ (p ≡ q → ⊥) → Has (get_or rows p []) d ⊎ ((q ≡ p) × (cell ≡ d)) → Has (get_or (set rows q row) p []) d
    by_place (inl e) (inl k) =
        subst (λ (l : List DriverCell). Has l d) (here e)
        (has_left (get_or rows q []) (cell ∷ []) d (subst (λ (n : ℕ). Has (get_or rows n []) d) e k))
    by_place (inl e) (inr k) = subst (λ (l : List DriverCell). Has l d) (here e) (has_right (get_or rows q []) (cell ∷ []) d (inl k.1))
    by_place (inr ne) (inl k) = subst (λ (l : List DriverCell). Has l d) (sym (get_or-set_other rows q p row [] ne)) k
    by_place (inr ne) (inr k) = absurd (ne (sym k.0))

pub noted_has : (observers : List Observer) (rows : List (List DriverCell)) (p : ℕ) (d : DriverCell)
    → Has (get_or (observers_noted rows observers) p []) d
    → Has (get_or rows p []) d ⊎ Noted observers p d
noted_has [] rows p d h = inl h
noted_has (x ∷ observers) rows p d h = by_rest (noted_has observers (noted rows x.control x.cell) p d h)
  where
    by_first : (o : Option ℕ) → x.control ≡ o → Has (get_or (noted rows o x.cell) p []) d
        → Has (get_or rows p []) d ⊎ Noted (x ∷ observers) p d
    by_first None e k = inl k
    by_first (Some q) e k = by_row (row_has rows q x.cell p d k)
      where
        by_row : Has (get_or rows p []) d ⊎ ((q ≡ p) × (x.cell ≡ d)) → Has (get_or rows p []) d ⊎ Noted (x ∷ observers) p d
        by_row (inl k) = inl k
        by_row (inr k) = inr (record { observer = x; is_in = inl refl; control_is = e ∙ ap (λ (n : ℕ). Some n) k.0; cell_is = k.1 })

    by_rest : Has (get_or (noted rows x.control x.cell) p []) d ⊎ Noted observers p d → Has (get_or rows p []) d ⊎ Noted (x ∷ observers) p d
    by_rest (inl k) = by_first x.control refl k
    by_rest (inr n) = inr (record { observer = n.observer; is_in = inr n.is_in; control_is = n.control_is; cell_is = n.cell_is })

pub has_noted : (observers : List Observer) (rows : List (List DriverCell)) (p : ℕ) (d : DriverCell)
    → p < length rows → Has (get_or rows p []) d ⊎ Noted observers p d
    → Has (get_or (observers_noted rows observers) p []) d
has_noted [] rows p d less (inl h) = h
has_noted [] rows p d less (inr n) = absurd n.is_in
has_noted (x ∷ observers) rows p d less h =
    has_noted observers (noted rows x.control x.cell) p d
    (omega (arith, less, length-noted rows x.control x.cell)) (by_case h)
  where
    added : (o : Option ℕ) → Has (get_or rows p []) d ⊎ ((o ≡ Some p) × (x.cell ≡ d)) → Has (get_or (noted rows o x.cell) p []) d
    added None (inl k) = k
    added None (inr k) = let bad : None ≡ Some p = k.0 in cc bad
    added (Some q) (inl k) = has_row rows q x.cell p d less (inl k)
    added (Some q) (inr k) =
        let two : Some q ≡ Some p = k.0 in
        let same : q ≡ p = cc two in
        has_row rows q x.cell p d less (inr (same, k.1))

    by_in : (n : Noted (x ∷ observers) p d) → (x ≡ n.observer) ⊎ Has observers n.observer
        → Has (get_or (noted rows x.control x.cell) p []) d ⊎ Noted observers p d
    by_in n (inl same) =
        inl
        (added x.control
        (inr (
          ap (λ (y : Observer). y.control) same ∙ n.control_is,
          ap (λ (y : Observer). y.cell) same ∙ n.cell_is,
        )))
    by_in n (inr later) = inr (record { observer = n.observer; is_in = later; control_is = n.control_is; cell_is = n.cell_is })

    by_case : Has (get_or rows p []) d ⊎ Noted (x ∷ observers) p d → Has (get_or (noted rows x.control x.cell) p []) d ⊎ Noted observers p d
    by_case (inl k) = inl (added x.control (inl k))
    by_case (inr n) = by_in n n.is_in

-- if there is a control, its cell is one of the cells `held`
abbrev pub IsOn : List HeldCell → Option ℕ → Type 0
IsOn held control = (p : ℕ) → control ≡ Some p → (h : HeldCell) × Has held h × (h.position ≡ p)

-- some observer in the list has this cell, and the observer is always on or has a control whose cell is held
pub record OnBy (observers : List Observer) (held : List HeldCell) (cell : DriverCell) : Type 0 where
  pub observer : Observer
  pub is_in : Has observers observer
  pub is_on : IsOn held observer.control
  pub cell_is : observer.cell ≡ cell

no_control : (o : Option ℕ) (p : ℕ) → is_none o ≡ true → o ≡ Some p → ⊥
no_control None p none e = cc e
no_control (Some q) p none e = cc none

pub cells_has : (observers : List Observer) (bits : ℕ) (held : List HeldCell) (d : DriverCell)
    → Has (cells_on (table_of observers bits) held) d → OnBy observers held d
cells_has observers bits held d h = by_part (has_append (always_on_cells observers) (flat_map (λ x. get_or rows x.position []) held) d h)
  where
    rows : List (List DriverCell)
    rows = observers_noted (replicate bits []) observers

    blank : (p : ℕ) → Has (get_or (replicate {A = List DriverCell} bits []) p []) d → ⊥
    blank p k = by_there (cases_lt p bits)
      where
        by_there : (p < bits) ⊎ (bits ≤ p) → ⊥
        by_there (inl less) = subst (λ (l : List DriverCell). Has l d) (get_or-replicate {A = List DriverCell} bits p [] [] less) k
        by_there (inr past) =
            subst (λ (l : List DriverCell). Has l d)
            (get_or_past (replicate {A = List DriverCell} bits []) p []
            (omega (arith, past, length-replicate {A = List DriverCell} bits []))) k

    controlled : (x : HeldCell) → Has held x
        → Has (get_or (replicate {A = List DriverCell} bits []) x.position []) d
        ⊎ Noted observers x.position d → OnBy observers held d
    controlled x has (inl k) = absurd (blank x.position k)
    controlled x has (inr n) =
        record {
          observer = n.observer;
          is_in = n.is_in;
          is_on = λ p e. let two : Some x.position ≡ Some p = sym n.control_is ∙ e in let same : x.position ≡ p = cc two in (x, has, same);
          cell_is = n.cell_is;
        }

    by_part : Has (always_on_cells observers) d ⊎ Has (flat_map (λ x. get_or rows x.position []) held) d → OnBy observers held d
    by_part (inl k) =
        let m = map_has (λ (x : Observer). x.cell) (filter (λ x. is_none x.control) observers) d k in
        let f = filter_has (λ (x : Observer). is_none x.control) observers (m.0) m.1 in
        record { observer = m.0; is_in = f.0; is_on = λ p e. absurd (no_control (m.0.control) p f.1 e); cell_is = m.2 }
    by_part (inr k) =
        let m = flat_map_has (λ (x : HeldCell). get_or rows x.position []) held d k in
        controlled (m.0) m.1 (noted_has observers (replicate bits []) (m.0.position) d m.2)

pub has_cells : (observers : List Observer) (bits : ℕ) (held : List HeldCell) (d : DriverCell)
    → ((x : Observer) (p : ℕ) → Has observers x → x.control ≡ Some p → p < bits) →
    OnBy observers held d → Has (cells_on (table_of observers bits) held) d
has_cells observers bits held d below on = by_control on.observer.control refl
  where
    rows : List (List DriverCell)
    rows = observers_noted (replicate bits []) observers

    by_control : (o : Option ℕ) → on.observer.control ≡ o
        → Has (always_on_cells observers ++ flat_map (λ x. get_or rows x.position []) held) d
    by_control None e =
        has_left (always_on_cells observers) (flat_map (λ x. get_or rows x.position []) held) d
        (subst (λ (c : DriverCell). Has (always_on_cells observers) c) on.cell_is
        (has_map (λ (x : Observer). x.cell) (filter (λ x. is_none x.control) observers) on.observer
        (has_filter (λ (x : Observer). is_none x.control) observers on.observer on.is_in
        (ap (λ (c : Option ℕ). is_none c) e))))
    by_control (Some p) e =
        let k = on.is_on p e in
        let less : p
        < length (replicate {A = List DriverCell} bits []) = omega
        (arith, below on.observer p on.is_in e, length-replicate {A = List DriverCell} bits [])
        in
        let noted : Has (get_or rows p []) d = has_noted observers (replicate bits []) p d less
        (inr
        (record
        { observer = on.observer; is_in = on.is_in; control_is = e; cell_is = on.cell_is })) in
        has_right (always_on_cells observers) (flat_map (λ x. get_or rows x.position []) held) d
        (has_flat_map (λ (x : HeldCell). get_or rows x.position []) held (k.0) d k.1
        (subst (λ (n : ℕ). Has (get_or rows n []) d) (sym k.2) noted))
