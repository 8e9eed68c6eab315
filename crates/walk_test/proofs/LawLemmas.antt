-- Lemmas from which the laws of the walking test follow.
use Rattle.std.proofs.Common.{◌≡◌, ◌⊎◌, inl, inr, ℕ, suc, ◌+◌, ◌<◌, Bool, List, [], ◌∷◌, length, get_or, Option, Some, None, refl, sym, ◌∙◌, ap, subst, arith, length-append}
use Rattle.std.specs.Prelude.{◌↔◌, slice_get, count_by, Contains}
use Rattle.std.specs.Option.{option_to_list}
use Rattle.std.proofs.lemmas.Bool.{cases_eq}
use Rattle.std.proofs.lemmas.List.{length-map}
use Rattle.std.proofs.lemmas.Option.{slice_get_within, slice_get-get_or}
use Rattle.board_defs.specs.declared.board.RawBoard.{RawBoard}
use Rattle.board_defs.specs.declared.board.Ctl.{Ctl}
use Rattle.board_defs.specs.BoardRules.{IsBoard}
use Rattle.board_defs.specs.Settings.{holds, IsSafe}
use Rattle.board_defs.proofs.Members.{Has, has_at, has_place, has_contains, contains_has, has_from_all}
use Rattle.tap_defs.specs.board.BoardScans.{RowScan, scan_of_row, board_scans, pass_scans, is_walked, walk_row, walk_row_scans, pass_text, walk_text}
use Rattle.tap_defs.specs.board.BoardTest.{IsHarmless}
use Rattle.tap_defs.specs.board.Explaining.{compared_scans, CompareRows, HasShape, ExplainedBy, AreInTurn, IsCapturedBy}
use Rattle.tap_defs.specs.board.FaultSet.{FaultSet}
use Rattle.tap_defs.specs.board.TestRows.{quiet_row}
use Rattle.tap_defs.specs.chain.Text.{svf_text}
use Rattle.tap_defs.proofs.board.ScanPlaceLemmas.{length-pass_scans}
use Rattle.walk_test.specs.WalkTest.{walk_setting, walk_nets, scans_by, walk_row_list, walk_scans, board_walk_text}
use Rattle.walk_test.specs.Groups.{AreGroups, group_of, or_shorts, Explain}
use Rattle.walk_test.specs.inner.Reading.{are_joined}
use Rattle.walk_test.specs.Tables.{AreNetCells, rows_count, count_walk_scans}
use Rattle.walk_test.specs.Laws.{WalkSafe, WalkHarmless, ShortsAreFaults, OneSet, ScansCounted}
use Rattle.walk_test.proofs.GroupLemmas.{AreOrdered, groups_ordered, Together, joined_cases, joined_in, one_list}
use Rattle.walk_test.proofs.SettingLemmas.{none_switches}
use Rattle.walk_test.proofs.CellLemmas.{IsWalkSetting}
use Rattle.walk_test.proofs.NetLemmas.{walk_has, count_is, no_nets}
use Rattle.walk_test.proofs.RowLemmas.{cells_there}
use Rattle.walk_test.proofs.ExplainLemmas.{ShowJoined, explained_shows, explained_rows, shorts_are_faults}

pub walk_harmless : WalkSafe
    → ((board : RawBoard) (walk : List Ctl) → IsBoard board → IsSafe board (holds walk)
    → IsHarmless board (walk_text board walk)) →
    ((board : RawBoard) (passes : List (List Ctl)) (width : ℕ) → IsBoard board
    → ((x : ℕ) (pass : List Ctl) → slice_get passes x ≡ Some pass
    → IsSafe board (holds pass)) → IsHarmless board (pass_text board passes width))
    → WalkHarmless
walk_harmless safe walks passes board rules = by_setting (walk_setting board) refl
  where
    by_setting : (o : Option (List Ctl)) → walk_setting board ≡ o → IsHarmless board (board_walk_text board)
    by_setting None e =
        subst
        (λ (o : Option (List Ctl)). IsHarmless board
        (svf_text (board_scans board (scans_by board o)))) (sym e)
        (passes board [] 0 rules (λ x pass at. cc at))
    by_setting (Some walk) e =
        subst
        (λ (o : Option (List Ctl)). IsHarmless board
        (svf_text (board_scans board (scans_by board o)))) (sym e)
        (walks board walk rules (safe board walk rules e))

pub scans_counted : ScansCounted
scans_counted board t is = by_setting (walk_setting board) refl
  where
    by_setting : (o : Option (List Ctl)) → walk_setting board ≡ o → count_walk_scans t ≡ length (walk_scans board)
    by_setting None e =
        let passes : t.plan.passes ≡ [] = is.passes ∙ ap (λ (o : Option (List Ctl)). option_to_list o) e in
        ap (λ (l : List (List Ctl)). 3 + rows_count l t.nets) passes
        ∙ sym (ap (λ (o : Option (List Ctl)). length (board_scans board (scans_by board o))) e)
    by_setting (Some walk) e =
        let passes : t.plan.passes ≡ walk ∷ [] = is.passes ∙ ap (λ (o : Option (List Ctl)). option_to_list o) e in
        let m : ℕ = count_by (is_walked board walk) board.nets in
        let rows : List RowScan = walk_row_scans board walk in
        let nets : length t.nets ≡ m = ap (λ (l : List ℕ). length l) is.nets ∙ count_is board walk e in
        let long : length rows
        ≡ suc m = length-append (pass_scans (walk_row board walk) m 0 quiet_row) []
        ∙ omega (arith, length-pass_scans (walk_row board walk) m 0 quiet_row) in
        let all : length (board_scans board rows) ≡ 3 + length rows = omega (arith, length-map rows (scan_of_row board)) in
        ap (λ (l : List (List Ctl)). 3 + rows_count l t.nets) passes
        ∙ omega (arith, nets, long, all)
        ∙ sym (ap (λ (o : Option (List Ctl)). length (board_scans board (scans_by board o))) e)

pub in_turn : WalkSafe
    → ((board : RawBoard) (walk : List Ctl) → IsSafe board (holds walk)
    → AreInTurn board (walk_row_scans board walk)) → (board : RawBoard) → IsBoard board
    → AreInTurn board (walk_row_list board)
in_turn safe walks board rules = by_setting (walk_setting board) refl
  where
    by_setting : (o : Option (List Ctl)) → walk_setting board ≡ o → AreInTurn board (walk_row_list board)
    by_setting None e =
        subst (λ (o : Option (List Ctl)). AreInTurn board (scans_by board o)) (sym e)
        (record { follow = tt; safe = λ x scan at. cc at })
    by_setting (Some walk) e =
        subst (λ (o : Option (List Ctl)). AreInTurn board (scans_by board o)) (sym e)
        (walks board walk (safe board walk rules e))

pub setting_is : WalkSafe → (board : RawBoard) → IsBoard board → (walk : List Ctl)
    → walk_setting board ≡ Some walk → IsWalkSetting board walk
setting_is safe board rules walk is = record { safe = safe board walk rules is; none = none_switches board walk is }

pub faults_are : WalkSafe → ShortsAreFaults
faults_are safe board groups rules are = shorts_are_faults board groups (λ walk is. safe board walk rules is) are

no_groups : (board : RawBoard) (groups : List (List ℕ)) → walk_setting board ≡ None → AreGroups board groups → groups ≡ []
no_groups board [] none are = refl
no_groups board (group ∷ groups) none are =
    let ordered = groups_ordered board (group ∷ groups) are in
    let least = Rattle.walk_test.proofs.GroupLemmas.least_has group (ordered.several group (inl refl)) in
    let walked = has_from_all (λ (n : ℕ). Contains (walk_nets board) n) group _
    (has_from_all
    (λ (g : List ℕ). Rattle.std.specs.Prelude.All (λ n. Contains (walk_nets board) n) g)
    (group ∷ groups) group are.walked (inl refl)) least in
    absurd
    (contains_has [] _
    (subst (λ (l : List ℕ). Contains l (Rattle.walk_test.specs.Groups.least_of group))
    (no_nets board none) walked))

module _ (safe : WalkSafe)
    (by_rows : (board : RawBoard) (faults : FaultSet) (scans : List RowScan)
    (log : List (List Bool)) → IsBoard board → AreInTurn board scans
    → ExplainedBy board faults scans log
    ↔ (HasShape board scans log × IsCapturedBy board faults scans log))
    (compare : (board : RawBoard) (walk : List Ctl) → IsBoard board
    → CompareRows (walk_row board) (count_by (is_walked board walk) board.nets) (walk ∷ [])
    (compared_scans board (walk_row_scans board walk)))
    (turns : (board : RawBoard) (walk : List Ctl) → IsSafe board (holds walk) → AreInTurn board (walk_row_scans board walk)) where
  pub shown_by : (board : RawBoard) (walk : List Ctl) (log : List (List Bool))
      (groups : List (List ℕ)) → IsBoard board → walk_setting board ≡ Some walk
      → Explain board log groups →
      ShowJoined board walk log groups × (length log ≡ length (walk_nets board))
  shown_by board walk log groups rules is explain =
      let set = setting_is safe board rules walk is in
      let e : ExplainedBy board (or_shorts groups) (walk_row_scans board walk) log = subst
      (λ (o : Option (List Ctl)). ExplainedBy board (or_shorts groups) (scans_by board o) log)
      is explain.explained in
      let rows : (l : List (List Bool))
      → ExplainedBy board (or_shorts groups) (walk_row_scans board walk) l
      ↔ (HasShape board (walk_row_scans board walk) l
      × IsCapturedBy board (or_shorts groups) (walk_row_scans board walk) l) =
      λ l. by_rows board (or_shorts groups) (walk_row_scans board walk) l rules (turns board walk set.safe) in (
        explained_shows board rules walk is set (compare board walk rules) groups explain.are rows log e,
        explained_rows board rules walk is set (compare board walk rules) groups explain.are rows log e,
      )

  -- If two sets of groups explain one log, two walk nets are in one group of the first set if and only if they are in one group of the
  -- second set.
  module _ (board : RawBoard) (walk : List Ctl) (log : List (List Bool))
      (groups others : List (List ℕ)) (rules : IsBoard board) (is : walk_setting board ≡ Some walk)
      (first : Explain board log groups) (second : Explain board log others) where
    joined_alike : (a b : ℕ) → Contains (walk_nets board) a → Contains (walk_nets board) b → are_joined groups a b ≡ are_joined others a b
    joined_alike a b has_a has_b =
        let one = shown_by board walk log groups rules is first in
        let two = shown_by board walk log others rules is second in
        let place = has_place (walk_nets board) b (contains_has (walk_nets board) b has_b) in
        let c = cells_there board walk a (walk_has board walk is a has_a) in
        let p : ℕ = get_or c.0.compared 0 0 in
        let r = (c.1.compared p).0 (has_contains c.0.compared p (has_at c.0.compared 0 p (slice_get-get_or c.0.compared 0 0 c.1.some))) in
        let within : place.0 < length log = omega (arith, slice_get_within (walk_nets board) place.0 b place.1, one.1) in
        let at = slice_get-get_or log place.0 [] within in
        let reader = subst
        (λ (n : Rattle.board_defs.specs.declared.board.Net.Net). Rattle.plan_tables.specs.Tables.IsReaderCell
        board n r.0) (same_net a c.0 c.1) r.1 in
        let left = one.0 place.0 b (get_or log place.0 []) c.1.driver c.1.is_driver r.0 reader r.2 place.1 at in
        let right = two.0 place.0 b (get_or log place.0 []) c.1.driver c.1.is_driver r.0 reader r.2 place.1 at in
        sym (ap (λ (n : ℕ). are_joined groups n b) c.1.of_net) ∙ sym left ∙ right ∙ ap (λ (n : ℕ). are_joined others n b) c.1.of_net
      where
        same_net : (a : ℕ) (cells : Rattle.walk_test.specs.declared.tables.NetCells.NetCells)
            (c : AreNetCells board walk a cells) → c.net ≡ c.is_driver.net
        same_net a cells c =
            let both : Some c.net
            ≡ Some c.is_driver.net = sym c.is_net
            ∙ ap (λ (n : ℕ). slice_get board.nets n) (sym c.of_net) ∙ c.is_driver.is_net in
            cc both

    net_of : (list : List (List ℕ)) → AreGroups board list → (a b : ℕ) → Together list a b
        → Contains (walk_nets board) a × Contains (walk_nets board) b
    net_of list are a b (group, has, in_a, in_b) =
        let all = has_from_all
        (λ (g : List ℕ). Rattle.std.specs.Prelude.All (λ n. Contains (walk_nets board) n) g)
        list group are.walked has in (
          has_from_all (λ (n : ℕ). Contains (walk_nets board) n) group a all in_a,
          has_from_all (λ (n : ℕ). Contains (walk_nets board) n) group b all in_b,
        )

  together_in : (board : RawBoard) (list other : List (List ℕ)) → AreGroups board list
      → ((a b : ℕ) → Contains (walk_nets board) a → Contains (walk_nets board) b
      → are_joined list a b ≡ are_joined other a b) →
      ((a b : ℕ) → Together list a b → Contains (walk_nets board) a × Contains (walk_nets board) b)
      → (a b : ℕ) → Together list a b → Together other a b
  together_in board list other are alike nets a b t = by_case (cases_eq a b)
    where
      ordered : AreOrdered list
      ordered = groups_ordered board list are

      apart : (x : ℕ) → Together list a x → (a ≡ x → ⊥) → Together other a x
      apart x u ne = by_joined (joined_cases other a x (sym (alike a x (nets a x u).0 (nets a x u).1) ∙ joined_in list ordered a x u))
        where
          by_joined : (a ≡ x) ⊎ Together other a x → Together other a x
          by_joined (inl same) = absurd (ne same)
          by_joined (inr v) = v

      by_case : (a ≡ b) ⊎ (a ≡ b → ⊥) → Together other a b
      by_case (inr ne) = apart b t ne
      by_case (inl same) =
          let m = Rattle.walk_test.proofs.ExplainLemmas.another t.0 a (ordered.several t.0 t.1) (ordered.rise t.0 t.1) in
          let v = apart m.0 (t.0, t.1, t.2, m.1) (λ e. m.2 (sym e)) in
          (v.0, v.1, v.2, subst (λ (n : ℕ). Has v.0 n) same v.2)

  pub one_set : OneSet
  one_set board log groups others rules first second = by_setting (walk_setting board) refl
    where
      by_setting : (o : Option (List Ctl)) → walk_setting board ≡ o → groups ≡ others
      by_setting None e = no_groups board groups e first.are ∙ sym (no_groups board others e second.are)
      by_setting (Some walk) e =
          one_list groups others (groups_ordered board groups first.are) (groups_ordered board others second.are)
          (together_in board groups others first.are
          (λ a b h k. joined_alike board walk log groups others rules e first second a b h k)
          (net_of board walk log groups others rules e first second groups first.are))
          (together_in board others groups second.are
          (λ a b h k. sym
          (joined_alike board walk log groups others rules e first second a b h k))
          (net_of board walk log groups others rules e first second others second.are))
