-- Lemmas about diagnoses. A log of a board's test has exactly one diagnosis. Each single fault explains some log, and a comparison with
-- that log decides whether the fault explains the given log.
use Rattle.std.proofs.Common.{◌≡◌, ℕ, zero, suc, ◌==◌, Bool, true, false, cond, ◌&&◌, inl, inr, List, [], ◌∷◌, length, Option, Some, None, Decides, refl, sym, ap, ◌∙◌, subst, arith}
use Rattle.std.specs.Prelude.{slice_get, filter, count_by}
use Rattle.std.specs.Bool.{beq}
use Rattle.std.specs.List.{list_all}
use Rattle.std.specs.Cmp.{booleans_Decides}
use Rattle.std.proofs.lemmas.Bool.Decides.{same_from_decides, not_from_Decides, Decides-like, Decides-and, Decides-eqb, Decides-by_and}
use Rattle.std.proofs.lemmas.Option.{slice_get_within, get_or_from_slice_get}
use Rattle.lists.proofs.ListLemmas.{item_there}
use Rattle.board_defs.specs.declared.board.RawBoard.{RawBoard}
use Rattle.board_defs.specs.declared.fault.Single.{Single}
use Rattle.board_defs.specs.BoardRules.{IsBoard}
use Rattle.board_defs.specs.Pins.{data_bits}
use Rattle.board_defs.specs.Faults.{singles, IsSingle}
use Rattle.board_defs.proofs.Members.{Has, has_contains}
use Rattle.board_defs.proofs.SingleFaults.{single_is}
use Rattle.tap_defs.specs.chain.Scan.{ScanBit, joined}
use Rattle.tap_defs.specs.board.BoardScans.{RowScan, row_bits, board_scans, svf_row_scans}
use Rattle.tap_defs.specs.board.Explaining.{set_of, is_compared, compared_scans, HasShape, ExplainedBy, Explains, are_expected, IsExpected, AreInTurn, IsCapturedBy, AgreeOn}
use Rattle.tap_defs.specs.board.FaultSet.{FaultSet}
use Rattle.tap_defs.specs.board.RowCaptures.{row_captured, AgreeAt, AgreeWhereCompared}
use Rattle.tap_defs.proofs.chain.ListLemmas.{cons_path}
use Rattle.tap_defs.proofs.board.LogLemmas.{length-row_bits}
use Rattle.tap_defs.proofs.board.SingleLemmas.{single_observable, single_no_open_shorted}
use Rattle.tap_defs.proofs.board.ResponseLogLemmas.{explained_by_rows, logs_agree, some_log, own_in_turn}
use Rattle.fault_sim.specs.Diagnosis.{Picks, IsDiagnosis}

-- there is a boolean that is true if and only if the statement holds
abbrev IsDecided : Type 0 → Type 0
IsDecided P = (t : Bool) × Decides t P

both : {P Q : Type 0} → IsDecided P → IsDecided Q → IsDecided (P × Q)
both h k = (h.0 && k.0, Decides-and h.0 k.0 h.1 k.1)

same : {P Q : Type 0} → (P → Q) → (Q → P) → IsDecided P → IsDecided Q
same to back h = (h.0, Decides-like h.0 to back h.1)

-- Lemmas about the list of the items for which P holds, in order. If P is decided for each item, there is exactly one such list, and
-- filtering the items by a test that decides P gives this list.
module _ {A : Type 0} (P : A → Type 0) where
  some_picked : (xs : List A) → ((x : A) → Has xs x → IsDecided (P x)) → (picked : List A) × Picks P xs picked
  some_picked [] each = ([], refl)
  some_picked (x ∷ xs) each = let d = each x (inl refl) in by_test d.0 d.1 (some_picked xs (λ y has. each y (inr has)))
    where
      by_test : (t : Bool) → Decides t (P x) → (rest : List A) × Picks P xs rest → (picked : List A) × Picks P (x ∷ xs) picked
      by_test true d (rest, picks) = (x ∷ rest, inl (rest, d.0 refl, refl, picks))
      by_test false d (rest, picks) = (rest, inr (not_from_Decides false d refl, picks))

  one_picked : (xs ys zs : List A) → Picks P xs ys → Picks P xs zs → ys ≡ zs
  one_picked [] ys zs h k = h ∙ sym k
  one_picked (x ∷ xs) ys zs (inl (rest, holds, e, h)) (inl (more, also, f, k)) = e ∙ cons_path refl (one_picked xs rest more h k) ∙ sym f
  one_picked (x ∷ xs) ys zs (inl (rest, holds, e, h)) (inr k) = absurd (k.0 holds)
  one_picked (x ∷ xs) ys zs (inr h) (inl (rest, holds, e, k)) = absurd (h.0 holds)
  one_picked (x ∷ xs) ys zs (inr h) (inr k) = one_picked xs ys zs h.1 k.1

  filter_picks : (test : A → Bool) (xs : List A) → ((x : A) → Has xs x → Decides (test x) (P x)) → Picks P xs (filter test xs)
  filter_picks test [] each = refl
  filter_picks test (x ∷ xs) each = by_test (test x) (each x (inl refl)) (filter_picks test xs (λ y has. each y (inr has)))
    where
      by_test : (t : Bool) → Decides t (P x) → Picks P xs (filter test xs) → Picks P (x ∷ xs) (cond t (x ∷ filter test xs) (filter test xs))
      by_test true d picks = inl (filter test xs, d.0 refl, refl, picks)
      by_test false d picks = inr (not_from_Decides false d refl, picks)

agree_at : (o : Option Bool) (x y : Bool) → IsDecided (AgreeAt o x y)
agree_at None x y = (true, (λ e. tt, λ h. refl))
agree_at (Some v) x y = (beq x y, booleans_Decides x y)

rows_agree : (bits : List ScanBit) (xs ys : List Bool) → IsDecided (AgreeWhereCompared bits xs ys)
rows_agree [] xs ys = (true, (λ e. tt, λ h. refl))
rows_agree (b ∷ bits) [] ys = (true, (λ e. tt, λ h. refl))
rows_agree (b ∷ bits) (x ∷ xs) [] = (true, (λ e. tt, λ h. refl))
rows_agree (b ∷ bits) (x ∷ xs) (y ∷ ys) = both (agree_at b.expect x y) (rows_agree bits xs ys)

agree_at_through : (o : Option Bool) (x y z : Bool) → AgreeAt o x y → AgreeAt o y z → AgreeAt o x z
agree_at_through None x y z h k = tt
agree_at_through (Some v) x y z h k = h ∙ k

agree_through : (bits : List ScanBit) (xs ys zs : List Bool) → length bits ≡ length ys
    → AgreeWhereCompared bits xs ys → AgreeWhereCompared bits ys zs → AgreeWhereCompared bits xs zs
agree_through [] xs ys zs l h k = tt
agree_through (b ∷ bits) [] ys zs l h k = tt
agree_through (b ∷ bits) (x ∷ xs) [] zs l h k = absurd (omega (arith, l))
agree_through (b ∷ bits) (x ∷ xs) (y ∷ ys) [] l h k = tt
agree_through (b ∷ bits) (x ∷ xs) (y ∷ ys) (z ∷ zs) l h k =
    (agree_at_through b.expect x y z h.0 k.0, agree_through bits xs ys zs (omega (arith, l)) h.1 k.1)

module _ (board : RawBoard) where
  abbrev AgreeEach : List RowScan → List (List Bool) → List (List Bool) → Type 0
  AgreeEach cs log other =
      (x : ℕ) (scan : RowScan) (logged second : List Bool) → slice_get cs x ≡ Some scan
      → slice_get log x ≡ Some logged → slice_get other x ≡ Some second →
      AgreeWhereCompared (joined (row_bits board scan)) logged second

  logs_compared : (cs : List RowScan) (log other : List (List Bool)) → IsDecided (AgreeEach cs log other)
  logs_compared [] log other = (true, (λ e x scan logged second c l o. cc c, λ h. refl))
  logs_compared (t ∷ cs) [] other = (true, (λ e x scan logged second c l o. cc l, λ h. refl))
  logs_compared (t ∷ cs) (row ∷ log) [] = (true, (λ e x scan logged second c l o. cc o, λ h. refl))
  logs_compared (t ∷ cs) (row ∷ log) (next ∷ other) =
      same together apart
      (both (rows_agree (joined (row_bits board t)) row next) (logs_compared cs log other))
    where
      together : AgreeWhereCompared (joined (row_bits board t)) row next × AgreeEach cs log other
          → AgreeEach (t ∷ cs) (row ∷ log) (next ∷ other)
      together h zero scan logged second c l o =
          let first : t ≡ scan = cc c in
          let mine : row ≡ logged = cc l in
          let others : next ≡ second = cc o in
          subst (λ (u : RowScan). AgreeWhereCompared (joined (row_bits board u)) logged second) first
          (subst (λ (r : List Bool). AgreeWhereCompared (joined (row_bits board t)) r second) mine
          (subst (λ (r : List Bool). AgreeWhereCompared (joined (row_bits board t)) row r) others h.0))
      together h (suc x) scan logged second c l o = h.1 x scan logged second c l o

      apart : AgreeEach (t ∷ cs) (row ∷ log) (next ∷ other)
          → AgreeWhereCompared (joined (row_bits board t)) row next × AgreeEach cs log other
      apart h = (h 0 t row next refl refl refl, λ x. h (suc x))

  module _ (scans : List RowScan) (log : List (List Bool)) where
    shape_decided : IsDecided (HasShape board scans log)
    shape_decided =
        same (λ h. record { rows = h.0; bits = h.1 }) (λ s. (s.rows, s.bits))
        (both (
          length log == count_by is_compared (board_scans board scans),
          Decides-eqb (length log)
              (count_by is_compared (board_scans board scans)),
        ) (
          list_all long log,
          Decides-by_and long (λ (row : List Bool). length row ≡ data_bits board)
              (list_all long) (λ row. Decides-eqb (length row) (data_bits board)) refl
              (λ row rows. refl) log,
        ))
      where
        long : List Bool → Bool
        long row = length row == data_bits board

    expected_decided : IsDecided (IsExpected board scans log)
    expected_decided =
        same (λ h. record { shape = h.0; bits = h.1 }) (λ e. (e.shape, e.bits))
        (both shape_decided (are_expected (filter is_compared (board_scans board scans)) log, (λ e. e, λ e. e)))

    module _ (rules : IsBoard board) (faults : FaultSet) (turn : AreInTurn board scans)
        (other : List (List Bool)) (explained : ExplainedBy board faults scans other) where
      explained_with : HasShape board scans log × AgreeOn board scans log other → ExplainedBy board faults scans log
      explained_with (shape, agree) = (explained_by_rows board rules faults scans turn.follow log).1 (shape, captures)
        where
          captures : IsCapturedBy board faults scans log
          captures x scan logged choice e f =
              let second = item_there other x (omega (arith, slice_get_within log x logged f, shape.rows, explained.shape.rows)) in
              let long : length (second.0) ≡ data_bits board =
              sym
              (ap (λ (row : List Bool). length row)
              (get_or_from_slice_get other x (second.0) [] second.1))
              ∙ explained.shape.bits x [] (slice_get_within other x (second.0) second.1) in
              agree_through (joined (row_bits board scan)) logged (second.0)
              (row_captured board faults scan.before choice)
              (length-row_bits board scan ∙ sym long)
              (agree x scan logged (second.0) e f second.1)
              (((explained_by_rows board rules faults scans turn.follow other).0 explained).1 x scan (second.0) choice e second.1)

      one_decided : IsDecided (ExplainedBy board faults scans log)
      one_decided =
          same explained_with (λ h. (h.shape, logs_agree board rules faults scans turn.follow log other h explained))
          (both shape_decided (logs_compared (compared_scans board scans) log other))

module _ (board : RawBoard) (log : List (List Bool)) (rules : IsBoard board) where
  abbrev Explaining : Single → Type 0
  Explaining single = Explains board single log

  single_decided : (single : Single) → IsSingle board single → IsDecided (Explains board single log)
  single_decided single is_single =
      let turn = own_in_turn board rules in
      let response = some_log board rules (set_of single) (svf_row_scans board) turn.follow
      (single_observable board single is_single).is_set (single_no_open_shorted single)
      turn.safe in
      one_decided board (svf_row_scans board) log rules (set_of single) turn (response.0) response.1

  listed : (single : Single) → Has (singles board) single → IsSingle board single
  listed single has = single_is board rules single (has_contains (singles board) single has)

  pub some_diagnosis : (pass : Bool) × (faults : List Single) × IsDiagnosis board log pass faults
  some_diagnosis =
      let passes = expected_decided board (svf_row_scans board) log in
      let picked = some_picked Explaining (singles board) (λ single has. single_decided single (listed single has)) in
      (passes.0, picked.0, record { passes = passes.1; list = picked.1 })

  pub explaining_picked : (test : Single → Bool)
      → ((single : Single) → IsSingle board single
      → Decides (test single) (Explains board single log))
      → Picks Explaining (singles board) (filter test (singles board))
  explaining_picked test decides = filter_picks Explaining test (singles board) (λ single has. decides single (listed single has))

pub one_diagnosis : (board : RawBoard) (log : List (List Bool)) (pass other_pass : Bool)
    (faults others : List Single) → IsDiagnosis board log pass faults
    → IsDiagnosis board log other_pass others →
    (pass ≡ other_pass) × (faults ≡ others)
one_diagnosis board log pass other_pass faults others h k = (
  same_from_decides pass other_pass h.passes k.passes,
  one_picked (λ (single : Single). Explains board single log) (singles board) faults others
      h.list k.list,
)
