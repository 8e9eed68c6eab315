-- Proofs that the labels of the walk nets give the only set of groups that explains a log. A net's label is the place, in the list of walk
-- nets, of the first walk net whose 1 the net reads.
use Rattle.std.proofs.Common.{◌≡◌, inl, inr, ℕ, zero, suc, ◌<◌, ◌≤◌, ◌==◌, Bool, true, false, cond, ◌&&◌, List, [], ◌∷◌, length, take, map, get_or, Option, Some, None, Decides, refl, sym, ◌∙◌, ap, subst, arith}
use Rattle.std.specs.Prelude.{◌↔◌, slice_get, count_by, All, Contains, Result, Ok, Err, IfOk, option_map}
use Rattle.std.specs.List.{list_all}
use Rattle.std.specs.Option.{option_to_list}
use Rattle.std.specs.Cmp.{both_ways as same_answer}
use Rattle.std.proofs.lemmas.Bool.{eqb-true, eq-eqb}
use Rattle.std.proofs.lemmas.Bool.Decides.{Decides-like, Decides-and, Decides-eqb, Decides-by_and}
use Rattle.std.proofs.lemmas.List.{length-map}
use Rattle.std.proofs.lemmas.Option.{slice_get_within, slice_get-get_or, slice_get-map, get_or_from_slice_get}
use Rattle.std.proofs.Math.Nat.{one-mul}
use Rattle.board_defs.specs.declared.board.Net.{Net}
use Rattle.board_defs.specs.declared.board.RawBoard.{RawBoard}
use Rattle.board_defs.specs.declared.board.Ctl.{Ctl}
use Rattle.board_defs.specs.BoardRules.{IsBoard}
use Rattle.board_defs.specs.Pins.{data_bits}
use Rattle.board_defs.specs.Settings.{holds, IsSafe}
use Rattle.board_defs.proofs.Members.{Has, has_at, has_place, has_contains, contains_has, has_from_all, all_from_has}
use Rattle.board_defs.proofs.Ordered.{order_pairs}
use Rattle.tap_defs.specs.board.BoardScans.{RowScan, board_scans, is_walked, walk_row, walk_row_scans}
use Rattle.tap_defs.specs.board.Explaining.{is_compared, compared_scans, CompareRows, HasShape, ExplainedBy, AreInTurn, IsCapturedBy}
use Rattle.tap_defs.specs.board.FaultSet.{FaultSet}
use Rattle.tap_defs.proofs.board.LogLemmas.{rows_counted}
use Rattle.plan_tables.specs.declared.tables.DriverCell.{DriverCell}
use Rattle.net_pins.specs.declared.nets.ReaderCell.{ReaderCell}
use Rattle.net_pins.specs.NetCells.{readers_of as readers_in_order}
use Rattle.plan_tables.specs.Tables.{IsDriverCell, IsReaderCell}
use Rattle.plan_tables.proofs.SeenLemmas.{driver_cell}
use Rattle.plan_tables.proofs.TableLemmas.{reader_is, is_reader}
use Rattle.response_log.specs.LogRows.{bit_in}
use Rattle.walk_test.specs.declared.tables.NetCells.{NetCells}
use Rattle.walk_test.specs.declared.tables.WalkTables.{WalkTables}
use Rattle.walk_test.specs.WalkTest.{walk_setting, walk_nets, scans_by}
use Rattle.walk_test.specs.Groups.{Rise, AreGroups, or_shorts, Explain, AreFound, IsGroupOnBoard, AreNamed}
use Rattle.walk_test.specs.inner.Reading.{are_joined, label_of, HasPlaces, LoggedNets, ShowsLabels, groups_by}
use Rattle.walk_test.specs.Tables.{AreNetCells, AreWalkTables, IsWalkOf}
use Rattle.walk_test.specs.Laws.{WalkSafe}
use Rattle.walk_test.proofs.GroupLemmas.{AreOrdered, groups_ordered, joined_self, joined_same, joined_by}
use Rattle.walk_test.proofs.CellLemmas.{IsWalkSetting, WalkedBy}
use Rattle.walk_test.proofs.NetLemmas.{walk_has, place_of_walk, count_is, nets_rise, no_nets}
use Rattle.walk_test.proofs.RowLemmas.{CellsOf, one_driver, laid_here, cells_there}
use Rattle.walk_test.proofs.ExplainLemmas.{ShowJoined, shaped, shows_explained}
use Rattle.walk_test.proofs.LawLemmas.{setting_is, shown_by}
use Rattle.walk_test.proofs.LabelLemmas.{first_low, first_holds, first_same, label_is, first_compared, each_shows, shows_each, own_label, IsDecided, shows_decided, are_groups, joined_labels}

-- driver cells by which the setting observes nets; they include the driver cells of all nets in `nets`
record DriversOf (board : RawBoard) (walk : List Ctl) (nets : List ℕ) : Type 0 where
  drivers : List DriverCell
  only : (d : DriverCell) → Has drivers d → IsDriverCell board walk d
  every : (d : DriverCell) → IsDriverCell board walk d → Has nets d.net → Has drivers d

same_driver : (net place position : ℕ) (d : DriverCell) → d.net ≡ net → d.place ≡ place
    → d.position ≡ position
    → ◌≡◌ {A = DriverCell} d (record { net = net; place = place; position = position })
same_driver net place position d n p q =
    ap (λ (x : ℕ). let c : DriverCell = record { net = x; place = d.place; position = d.position } in c) n
    ∙ ap (λ (x : ℕ). let c : DriverCell = record { net = net; place = x; position = d.position } in c) p
    ∙ ap (λ (x : ℕ). let c : DriverCell = record { net = net; place = place; position = x } in c) q

some_drivers : (board : RawBoard) (walk : List Ctl) (nets : List ℕ)
    → ((n : ℕ) → Has nets n → WalkedBy board walk n) → DriversOf board walk nets
some_drivers board walk [] walked = record { drivers = []; only = λ d h. absurd h; every = λ d s h. absurd h }
some_drivers board walk (n ∷ nets) walked =
    by_cell (driver_cell board walk n w.net w.driver w.is_net w.observing)
    (some_drivers board walk nets (λ m h. walked m (inr h)))
  where
    w : WalkedBy board walk n
    w = walked n (inl refl)

    by_cell : (d : DriverCell) × IsDriverCell board walk d × (d.net ≡ n) × (d.place ≡ w.driver)
        → DriversOf board walk nets → DriversOf board walk (n ∷ nets)
    by_cell (c, is_c, of_n, at) rest = record {
      drivers = c ∷ rest.drivers;
      only = only;
      every = every;
    }
      where
        only : (d : DriverCell) → Has (c ∷ rest.drivers) d → IsDriverCell board walk d
        only d (inl same) = subst (λ (x : DriverCell). IsDriverCell board walk x) same is_c
        only d (inr h) = rest.only d h

        every : (d : DriverCell) → IsDriverCell board walk d → Has (n ∷ nets) d.net → Has (c ∷ rest.drivers) d
        every d s (inl here) =
            let net : c.net ≡ d.net = of_n ∙ here in
            let cells = one_driver board walk c d is_c s net in
            inl (same_driver d.net d.place d.position c net cells.0 cells.1)
        every d s (inr h) = inr (rest.every d s h)

cells_of : (board : RawBoard) (walk : List Ctl) → walk_setting board ≡ Some walk → CellsOf board walk
cells_of board walk is =
    let d : DriversOf board walk (walk_nets board) = some_drivers board walk (walk_nets board)
    (λ n h. walk_has board walk is n (has_contains (walk_nets board) n h)) in
    record {
      drivers = d.drivers;
      only = d.only;
      every = λ c s.
          let w : WalkedBy board walk c.net = record { net = s.net; is_net = s.is_net; driver = c.place; observing = s.observing } in
          d.every c s
          (has_at (walk_nets board) (count_by (is_walked board walk) (take c.net board.nets))
          c.net (place_of_walk board walk is c.net w));
      readers = map readers board.nets;
      are = λ n net e.
          let at : slice_get (map readers board.nets) n
          ≡ Some (readers net) = slice_get-map readers board.nets n
          ∙ ap (λ (o : Option Net). option_map readers o) e in
          let same : get_or (map readers board.nets) n [] ≡ readers net = get_or_from_slice_get
          (map readers board.nets) n (readers net) [] at in (
            λ r h. reader_is board net r (subst (λ (l : List ReaderCell). Has l r) same h),
            λ r q. subst (λ (l : List ReaderCell). Has l r) (sym same) (is_reader board net r q),
          );
    }
  where
    readers : Net → List ReaderCell
    readers net = readers_in_order board net.pins

-- `cells` has the cells of each of these nets, in the same order
pub record CellsAre (board : RawBoard) (walk : List Ctl) (nets : List ℕ) (cells : List NetCells) : Type 0 where
  pub count : length cells ≡ length nets
  pub are : (i n : ℕ) (c : NetCells) → slice_get nets i ≡ Some n → slice_get cells i ≡ Some c → AreNetCells board walk n c

some_cells : (board : RawBoard) (walk : List Ctl) (nets : List ℕ)
    → ((n : ℕ) → Has nets n → WalkedBy board walk n)
    → (cells : List NetCells) × CellsAre board walk nets cells
some_cells board walk [] walked = ([], record { count = refl; are = λ i n c e. cc e })
some_cells board walk (n ∷ nets) walked =
    by_rest (cells_there board walk n (walked n (inl refl)))
    (some_cells board walk nets (λ m h. walked m (inr h)))
  where
    by_rest : (c : NetCells) × AreNetCells board walk n c
        → (cells : List NetCells) × CellsAre board walk nets cells
        → (cells : List NetCells) × CellsAre board walk (n ∷ nets) cells
    by_rest (c, is_c) (cells, rest) = (c ∷ cells, record { count = omega (arith, rest.count); are = are })
      where
        are : (i m : ℕ) (x : NetCells) → slice_get (n ∷ nets) i ≡ Some m → slice_get (c ∷ cells) i ≡ Some x → AreNetCells board walk m x
        are zero m x e f =
            let net : n ≡ m = cc e in
            let same : c ≡ x = cc f in
            subst (λ (k : ℕ). AreNetCells board walk k x) net (subst (λ (y : NetCells). AreNetCells board walk n y) same is_c)
        are (suc i) m x e f = rest.are i m x e f

-- `position` is the position of a compared cell of net `n`
record ComparedCell (board : RawBoard) (walk : List Ctl) (n position : ℕ) : Type 0 where
  driver : DriverCell
  is_driver : IsDriverCell board walk driver
  of_net : driver.net ≡ n
  reader : ReaderCell
  is_reader : IsReaderCell board is_driver.net reader
  other : (reader.place == driver.place) ≡ false
  position_is : reader.position ≡ position

same_net : (board : RawBoard) (walk : List Ctl) (n : ℕ) (c : NetCells) (a : AreNetCells board walk n c) → a.net ≡ a.is_driver.net
same_net board walk n c a =
    let both : Some a.net
    ≡ Some a.is_driver.net = sym a.is_net ∙ ap (λ (m : ℕ). slice_get board.nets m) (sym a.of_net)
    ∙ a.is_driver.is_net in
    cc both

compared_cell : (board : RawBoard) (walk : List Ctl) (n : ℕ) (c : NetCells)
    → AreNetCells board walk n c → (p : ℕ) → Has c.compared p → ComparedCell board walk n p
compared_cell board walk n c a p h =
    let r = (a.compared p).0 (has_contains c.compared p h) in
    record {
      driver = a.driver;
      is_driver = a.is_driver;
      of_net = a.of_net;
      reader = r.0;
      is_reader = subst (λ (net : Net). IsReaderCell board net r.0) (same_net board walk n c a) r.1;
      other = r.2;
      position_is = r.3;
    }

pub position_within : (board : RawBoard) → IsBoard board → (walk : List Ctl) (n : ℕ) (c : NetCells)
    → AreNetCells board walk n c → (p : ℕ) → Has c.compared p → p < data_bits board
position_within board rules walk n c a p h =
    let x : ComparedCell board walk n p = compared_cell board walk n c a p h in
    let here = laid_here board rules walk x.driver.net x.is_driver.net x.is_driver.is_net
    x.driver.place x.is_driver.observing x.reader x.is_reader x.other (λ k device cell. false)
    in
    omega (arith, here.0, x.position_is)

-- `cells` has the cells of the walk nets, and the board has a walk setting
pub record Walked (board : RawBoard) (cells : List NetCells) : Type 0 where
  pub walk : List Ctl
  pub is : walk_setting board ≡ Some walk
  pub are : CellsAre board walk (walk_nets board) cells

pub walked : (board : RawBoard) (t : WalkTables) → IsWalkOf board t → (length t.plan.passes ≡ 0 → ⊥) → Walked board t.cells
walked board t w some = by_setting (walk_setting board) refl
  where
    by_setting : (o : Option (List Ctl)) → walk_setting board ≡ o → Walked board t.cells
    by_setting None e =
        absurd
        (some
        (ap (λ (l : List (List Ctl)). length l) w.passes
        ∙ ap (λ (o : Option (List Ctl)). length (option_to_list o)) e))
    by_setting (Some walk) e =
        let tables : AreWalkTables board walk t = w.tables walk e in
        let are : CellsAre board walk t.nets t.cells = record { count = tables.count; are = tables.cells } in
        record { walk = walk; is = e; are = subst (λ (l : List ℕ). CellsAre board walk l t.cells) w.nets are }

-- Like `walked`, but the walk's tables and cells are given by equations.
pub walked_at : (board : RawBoard) (seen t : WalkTables) (cells : List NetCells) (passes : ℕ)
    → IsWalkOf board seen → t ≡ seen → cells ≡ t.cells → passes ≡ length t.plan.passes
    → (passes ≡ 0 → ⊥) → Walked board cells
walked_at board seen t cells passes w same are count some =
    let all : cells ≡ seen.cells = are ∙ ap (λ (x : WalkTables). x.cells) same in
    let long : passes ≡ length seen.plan.passes = count ∙ ap (λ (x : WalkTables). length x.plan.passes) same in
    subst (λ (l : List NetCells). Walked board l) (sym all) (walked board seen w (λ none. some (long ∙ none)))

pub nets_at : (board : RawBoard) (seen t : WalkTables) (nets : List ℕ) → IsWalkOf board seen
    → t ≡ seen → nets ≡ t.nets → nets ≡ walk_nets board
nets_at board seen t nets w same are = are ∙ ap (λ (x : WalkTables). x.nets) same ∙ w.nets

pub nets_in_order : (board : RawBoard) (nets : List ℕ) → nets ≡ walk_nets board → Rise nets
nets_in_order board nets are = subst (λ (l : List ℕ). Rise l) (sym are) (order_pairs (λ a b. a < b) (walk_nets board) (nets_rise board))

-- each net has a compared position, and each position is within a data scan
module _ (board : RawBoard) (rules : IsBoard board) (cells : List NetCells) (w : Walked board cells) where
  net_cells_at : (c : NetCells) → Has cells c → (n : ℕ) × AreNetCells board w.walk n c
  net_cells_at c h =
      let at = has_place cells c h in
      let n : ℕ = get_or (walk_nets board) at.0 0 in (
        n,
        w.are.are at.0 n c
            (slice_get-get_or (walk_nets board) at.0 0
            (omega (arith, slice_get_within cells at.0 c at.1, w.are.count))) at.1,
      )

  pub all_have_places : (len : ℕ) → len ≡ data_bits board → All (HasPlaces len) cells
  all_have_places len is =
      all_from_has (HasPlaces len) cells
      (λ c h.
      let a = net_cells_at c h in
      record {
        some = a.1.some;
        within = all_from_has (λ (p : ℕ). p < len) c.compared (λ p k. omega (arith, is, position_within board rules w.walk a.0 c a.1 p k));
      })

pub by_parts : (it : LoggedNets) (log : List (List Bool)) (cells : List NetCells) → it.log ≡ log
    → it.nets ≡ cells → (P : List (List Bool) → List NetCells → Type 0) → P it.log it.nets
    → P log cells
by_parts it log cells log_is nets_are P p =
    subst (λ (n : List NetCells). P log n) nets_are
    (subst (λ (l : List (List Bool)). P l it.nets) log_is p)

pub ok_then : {T E : Type 0} (r : Result T E) {P Q : T → Type 0} → IfOk r P → ((x : T) → P x → Q x) → IfOk r Q
ok_then (Ok x) h f = f x h
ok_then (Err e) h f = tt

no_scans : (board : RawBoard) → AreInTurn board []
no_scans board = record { follow = tt; safe = λ x scan at. cc at }

none_are : (board : RawBoard) → AreGroups board []
none_are board = record {
  several = λ k d less. absurd (omega (arith, less));
  walked = λ k d less. absurd (omega (arith, less));
  rise = λ k d less. absurd (omega (arith, less));
  disjoint = λ i j d less within. absurd (omega (arith, within));
  order = λ i j d less within. absurd (omega (arith, within));
}

pub shape_decided : (board : RawBoard) (scans : List RowScan) (log : List (List Bool)) → IsDecided (HasShape board scans log)
shape_decided board scans log = (
  rows && list_all long log,
  Decides-like (rows && list_all long log) (λ h. record { rows = h.0; bits = h.1 }) (λ s. (s.rows, s.bits))
      (Decides-and rows (list_all long log) (Decides-eqb (length log) (count_by is_compared (board_scans board scans)))
      (Decides-by_and long (λ (row : List Bool). length row ≡ data_bits board) (list_all long)
      (λ row. Decides-eqb (length row) (data_bits board)) refl (λ row others. refl) log)),
)
  where
    long : List Bool → Bool
    long row = length row == data_bits board

    rows : Bool
    rows = length log == count_by is_compared (board_scans board scans)

pub found_named : (board : RawBoard) (log : List (List Bool)) (found : Option (List (List ℕ)))
    → AreFound board log found → AreNamed board found
found_named board log None h = tt
found_named board log (Some groups) h =
    all_from_has (IsGroupOnBoard board) groups
    (λ g has.
    let walked = has_from_all (λ (x : List ℕ). All (λ n. Contains (walk_nets board) n) x) groups g h.are.walked has in
    all_from_has (λ (n : ℕ). n < length board.nets) g
    (λ n in_g. below n
    (has_from_all (λ (m : ℕ). Contains (walk_nets board) m) g n walked in_g)))
  where
    below : (n : ℕ) → Contains (walk_nets board) n → n < length board.nets
    below n has = by_setting (walk_setting board) refl
      where
        by_setting : (o : Option (List Ctl)) → walk_setting board ≡ o → n < length board.nets
        by_setting None e = absurd (contains_has [] n (subst (λ (l : List ℕ). Contains l n) (no_nets board e) has))
        by_setting (Some walk) e = let w = walk_has board walk e n has in slice_get_within board.nets n w.net w.is_net

module _ (safe : WalkSafe)
    (by_rows : (board : RawBoard) (faults : FaultSet) (scans : List RowScan)
    (log : List (List Bool)) → IsBoard board → AreInTurn board scans
    → ExplainedBy board faults scans log
    ↔ (HasShape board scans log × IsCapturedBy board faults scans log))
    (compare : (board : RawBoard) (walk : List Ctl) → IsBoard board
    → CompareRows (walk_row board) (count_by (is_walked board walk) board.nets) (walk ∷ [])
    (compared_scans board (walk_row_scans board walk)))
    (turns : (board : RawBoard) (walk : List Ctl) → IsSafe board (holds walk) → AreInTurn board (walk_row_scans board walk)) where
  -- the walk of a board, with the cells of its nets and a log that has a row for each of these nets
  module _ (board : RawBoard) (rules : IsBoard board) (walk : List Ctl)
      (is : walk_setting board ≡ Some walk) (log : List (List Bool)) (cells : List NetCells)
      (are : CellsAre board walk (walk_nets board) cells)
      (rows : length log ≡ length (walk_nets board)) where
    abbrev nets : List ℕ
    nets = walk_nets board

    abbrev labels : List ℕ
    labels = map (label_of log) cells

    set : IsWalkSetting board walk
    set = setting_is safe board rules walk is

    long : length cells ≤ length log
    long = omega (arith, are.count, rows)

    net_at : (i : ℕ) (c : NetCells) → slice_get cells i ≡ Some c → slice_get nets i ≡ Some (get_or nets i 0)
    net_at i c e = slice_get-get_or nets i 0 (omega (arith, slice_get_within cells i c e, are.count))

    some : (i : ℕ) (c : NetCells) → slice_get cells i ≡ Some c → 0 < length c.compared
    some i c e = let a : AreNetCells board walk (get_or nets i 0) c = are.are i (get_or nets i 0) c (net_at i c e) e in a.some

    -- In each row, each compared cell of a net reads 1 if its net is the net that carries 1 or is in one group with that net. Otherwise the
    -- cell reads 0.
    abbrev CellsJoined : List (List ℕ) → Type 0
    CellsJoined groups =
        (i j a b p : ℕ) (c : NetCells) → slice_get nets i ≡ Some a → slice_get cells i ≡ Some c
        → slice_get nets j ≡ Some b → Has c.compared p → bit_in log j p ≡ are_joined groups a b

    cells_joined : (groups : List (List ℕ)) → ShowJoined board walk log groups → CellsJoined groups
    cells_joined groups shown i j a b p c ni ci nj h =
        let x : ComparedCell board walk a p = compared_cell board walk a c (are.are i a c ni ci) p h in
        let row : slice_get log j
        ≡ Some (get_or log j []) = slice_get-get_or log j []
        (omega (arith, slice_get_within nets j b nj, rows)) in
        ap (λ (k : ℕ). get_or (get_or log j []) k false) (sym x.position_is)
        ∙ shown j b (get_or log j []) x.driver x.is_driver x.reader x.is_reader x.other nj row
        ∙ ap (λ (n : ℕ). are_joined groups n b) x.of_net

    joined_shown : (groups : List (List ℕ)) → CellsJoined groups → ShowJoined board walk log groups
    joined_shown groups joined j one logged d s r q other at e =
        let w : WalkedBy board walk d.net = record { net = s.net; is_net = s.is_net; driver = d.place; observing = s.observing } in
        let place = has_place nets d.net
        (has_at nets (count_by (is_walked board walk) (take d.net board.nets)) d.net
        (place_of_walk board walk is d.net w)) in
        let none : NetCells = record { driver = 0; compared = [] } in
        let c : NetCells = get_or cells place.0 none in
        let stands : slice_get cells place.0
        ≡ Some c = slice_get-get_or cells place.0 none
        (omega (arith, slice_get_within nets place.0 d.net place.1, are.count)) in
        let a : AreNetCells board walk d.net c = are.are place.0 d.net c place.1 stands in
        let one_net : Some s.net ≡ Some a.net = sym s.is_net ∙ a.is_net in
        let net : s.net ≡ a.net = cc one_net in
        let driver = one_driver board walk d a.driver s a.is_driver (sym a.of_net) in
        let apart : (r.place == a.driver.place) ≡ false = sym (ap (λ (k : ℕ). r.place == k) driver.0) ∙ other in
        let reader : IsReaderCell board a.net r = subst (λ (n : Net). IsReaderCell board n r) net q in
        let has : Has c.compared r.position = contains_has c.compared r.position ((a.compared r.position).1 (r, reader, apart, refl)) in
        ap (λ (row : List Bool). get_or row r.position false) (sym (get_or_from_slice_get log j logged [] e))
        ∙ joined place.0 j d.net one r.position c place.1 stands at has

    -- Suppose that, in the row in which a net carries 1, each compared cell reads 1 if and only if its own net has the same label as that
    -- net. Then the groups of nets with equal labels explain the log.
    module _ (shape : All (λ row. length row ≡ data_bits board) log) (shows : ShowsLabels log labels cells) where
      abbrev own : (i k : ℕ) → slice_get labels i ≡ Some k → (k ≤ i) × (slice_get labels k ≡ Some k)
      own = own_label log cells long some shows

      labels_count : length labels ≡ length nets
      labels_count = omega (arith, length-map cells (label_of log), are.count)

      abbrev groups : List (List ℕ)
      groups = groups_by nets labels

      groups_are : AreGroups board groups
      groups_are = are_groups nets labels (nets_rise board) labels_count own board refl

      label_there : (i n : ℕ) → slice_get nets i ≡ Some n → slice_get labels i ≡ Some (get_or labels i 0)
      label_there i n e = slice_get-get_or labels i 0 (omega (arith, slice_get_within nets i n e, labels_count))

      joined : CellsJoined groups
      joined i j a b p c ni ci nj h =
          let less : j < length cells = omega (arith, slice_get_within nets j b nj, are.count) in
          each_shows log cells long some shows j i p c less ci h
          ∙ sym
          (joined_labels nets labels (nets_rise board) labels_count own
          (groups_ordered board groups groups_are) i j a b (get_or labels i 0)
          (get_or labels j 0) ni nj (label_there i a ni) (label_there j b nj))

      explain : Explain board log groups
      explain =
          let rows_are : (l : List (List Bool))
          → ExplainedBy board (or_shorts groups) (walk_row_scans board walk) l
          ↔ (HasShape board (walk_row_scans board walk) l
          × IsCapturedBy board (or_shorts groups) (walk_row_scans board walk) l) =
          λ l. by_rows board (or_shorts groups) (walk_row_scans board walk) l rules (turns board walk set.safe) in
          let by_walk : ExplainedBy board (or_shorts groups) (walk_row_scans board walk) log =
          shows_explained board rules walk is set (compare board walk rules) groups groups_are rows_are log
          (shaped board rules walk is set (compare board walk rules) groups groups_are log rows
          shape) (cells_of board walk is) (joined_shown groups joined) in
          record {
            are = groups_are;
            explained = subst
                (λ (o : Option (List Ctl)). ExplainedBy board (or_shorts groups)
                (scans_by board o) log) (sym is) by_walk;
          }

    -- Suppose that some set of groups explains the log. Then, in the row in which a net carries 1, each compared cell reads 1 if and only
    -- if its own net has the same label as that net.
    module _ (groups : List (List ℕ)) (explains : Explain board log groups) where
      ordered : AreOrdered groups
      ordered = groups_ordered board groups explains.are

      abbrev first_cell : NetCells → ℕ
      first_cell c = get_or c.compared 0 0

      joined_cells : CellsJoined groups
      joined_cells = cells_joined groups (shown_by safe by_rows compare turns board walk log groups rules is explains).0

      first_reads : (i j a b : ℕ) (c : NetCells) → slice_get nets i ≡ Some a
          → slice_get cells i ≡ Some c → slice_get nets j ≡ Some b
          → bit_in log j (first_cell c) ≡ are_joined groups a b
      first_reads i j a b c ni ci nj = joined_cells i j a b (first_cell c) c ni ci nj (first_compared c (some i c ci))

      label_joined : (i a : ℕ) (c : NetCells) → slice_get nets i ≡ Some a
          → slice_get cells i ≡ Some c
          → (n : ℕ) × (slice_get nets (label_of log c) ≡ Some n) × (are_joined groups a n ≡ true)
      label_joined i a c ni ci =
          let on : bit_in log i (first_cell c) ≡ true = first_reads i i a a c ni ci ni ∙ joined_self groups a a refl in
          let low : label_of log c ≤ i = first_low log (first_cell c) i on in
          let within : label_of log c < length log = omega (arith, low, slice_get_within nets i a ni, rows) in
          let at : slice_get nets (label_of log c)
          ≡ Some (get_or nets (label_of log c) 0) = slice_get-get_or nets (label_of log c) 0
          (omega (arith, within, rows)) in (
            get_or nets (label_of log c) 0,
            at,
            sym (first_reads i (label_of log c) a (get_or nets (label_of log c) 0) c ni ci at)
                ∙ first_holds log (first_cell c) within,
          )

      one_label : (i j a b : ℕ) (c d : NetCells) → slice_get nets i ≡ Some a
          → slice_get cells i ≡ Some c → slice_get nets j ≡ Some b → slice_get cells j ≡ Some d →
          are_joined groups a b ≡ (label_of log c == label_of log d)
      one_label i j a b c d ni ci nj dj = same_answer (are_joined groups a b) (label_of log c == label_of log d) to from
        where
          to : are_joined groups a b ≡ true → (label_of log c == label_of log d) ≡ true
          to e =
              eq-eqb (label_of log c) (label_of log d)
              (first_same log (first_cell c) (first_cell d)
              (λ k less.
              let at : slice_get nets k ≡ Some (get_or nets k 0) = slice_get-get_or nets k 0 (omega (arith, less, rows)) in
              first_reads i k a (get_or nets k 0) c ni ci at ∙ joined_same groups ordered a b
              (get_or nets k 0) e ∙ sym (first_reads j k b (get_or nets k 0) d nj dj at)))

          from : (label_of log c == label_of log d) ≡ true → are_joined groups a b ≡ true
          from e =
              let p = label_joined i a c ni ci in
              let q = label_joined j b d nj dj in
              let two : Some p.0
              ≡ Some q.0 = sym p.1
              ∙ ap (λ (k : ℕ). slice_get nets k)
              (eqb-true (label_of log c) (label_of log d) e) ∙ q.1 in
              let same : p.0 ≡ q.0 = cc two in
              joined_by groups ordered a b p.0 p.2 (ap (λ (n : ℕ). are_joined groups b n) same ∙ q.2)

      label_read : (i : ℕ) (c : NetCells) → slice_get cells i ≡ Some c → get_or labels i 0 ≡ label_of log c
      label_read i c e = get_or_from_slice_get labels i (label_of log c) 0 (label_is log cells i c e)

      all_show : ShowsLabels log labels cells
      all_show =
          shows_each log cells long some
          (λ j i p c less ci h.
          let none : NetCells = record { driver = 0; compared = [] } in
          let d : NetCells = get_or cells j none in
          let dj : slice_get cells j ≡ Some d = slice_get-get_or cells j none less in
          let ni = net_at i c ci in
          let nj = net_at j d dj in
          joined_cells i j (get_or nets i 0) (get_or nets j 0) p c ni ci nj h
          ∙ one_label i j (get_or nets i 0) (get_or nets j 0) c d ni ci nj dj
          ∙ sym (ap (λ (k : ℕ). k == label_of log d) (label_read i c ci))
          ∙ sym (ap (λ (k : ℕ). get_or labels i 0 == k) (label_read j d dj)))

    -- If the log satisfies `ShowsLabels`, the groups of nets with equal labels are the set that explains the log. Otherwise no set of
    -- groups explains it.
    pub found_by : All (λ row. length row ≡ data_bits board) log → (shown : Bool)
        → Decides shown (ShowsLabels log labels cells)
        → AreFound board log (cond shown (Some (groups_by nets labels)) None)
    found_by shape true d = explain shape (d.0 refl)
    found_by shape false d = λ groups explains. let bad : false ≡ true = d.1 (all_show groups explains) in cc bad

  none_explain : (board : RawBoard) → IsBoard board → walk_setting board ≡ None
      → (log : List (List Bool)) → HasShape board [] log → Explain board log []
  none_explain board rules none log shape = record {
    are = none_are board;
    explained =
        subst (λ (o : Option (List Ctl)). ExplainedBy board (or_shorts []) (scans_by board o) log)
        (sym none)
        ((by_rows board (or_shorts []) [] log rules (no_scans board)).1
        (shape, λ x scan logged choice at. cc at));
  }

  pub found_nothing : (board : RawBoard) → IsBoard board → (log : List (List Bool))
      → length (option_to_list (walk_setting board)) ≡ 0 → length log ≡ length (walk_nets board)
      → AreFound board log (Some [])
  found_nothing board rules log passes rows = by_setting (walk_setting board) refl passes
    where
      by_setting : (o : Option (List Ctl)) → walk_setting board ≡ o → length (option_to_list o) ≡ 0 → Explain board log []
      by_setting (Some walk) e long = absurd (omega (arith, long))
      by_setting None e long =
          let no_rows : length log ≡ 0 = rows ∙ ap (λ (l : List ℕ). length l) (no_nets board e) in
          none_explain board rules e log
          (record {
            rows = no_rows
                ∙ sym (rows_counted board []);
            bits = λ k d less. absurd
                (omega (arith, less, no_rows));
          })

  -- Like `found_nothing`, but the walk's tables and the result are given by equations.
  pub nothing_at : (board : RawBoard) → IsBoard board
      → (seen t : WalkTables) (log : List (List Bool)) (passes : ℕ) (found : List (List ℕ))
      → IsWalkOf board seen → t ≡ seen → passes ≡ length t.plan.passes → passes ≡ 0 →
      length log ≡ length seen.nets → found ≡ [] → Explain board log found
  nothing_at board rules seen t log passes found w same count zero_passes rows empty =
      let none : length (option_to_list (walk_setting board)) ≡ 0 =
      sym (ap (λ (l : List (List Ctl)). length l) w.passes)
      ∙ sym (ap (λ (x : WalkTables). length x.plan.passes) same) ∙ sym count ∙ zero_passes in
      subst (λ (l : List (List ℕ)). Explain board log l) (sym empty)
      (found_nothing board rules log none (rows ∙ ap (λ (l : List ℕ). length l) w.nets))

  -- Like `found_by`, but the nets, the labels and the result are given by equations.
  pub found_at : (board : RawBoard) → IsBoard board → (cells : List NetCells) → Walked board cells
      → (log : List (List Bool)) → length log ≡ length (walk_nets board)
      → All (λ row. length row ≡ data_bits board) log →
      (given read used : List ℕ) → given ≡ walk_nets board → read ≡ map (label_of log) cells
      → used ≡ map (label_of log) cells → (shown : Bool)
      → Decides shown (ShowsLabels log read cells) →
      (found : Option (List (List ℕ))) → found ≡ cond shown (Some (groups_by given used)) None → AreFound board log found
  found_at board rules cells w log rows bits given read used given_is read_is used_is shown decides found found_is =
      let by_labels : Decides shown (ShowsLabels log (map (label_of log) cells) cells) = subst
      (λ (l : List ℕ). Decides shown (ShowsLabels log l cells)) read_is decides in
      subst (λ (o : Option (List (List ℕ))). AreFound board log o)
      (sym (found_is
      ∙ ap (λ (l : List ℕ). cond shown (Some (groups_by l used)) None) given_is
      ∙ ap (λ (l : List ℕ). cond shown (Some (groups_by (walk_nets board) l)) None) used_is))
      (found_by board rules w.walk w.is log cells w.are rows bits shown by_labels)

  pub none_found : (board : RawBoard) → IsBoard board → (cells : List NetCells) → Walked board cells
      → (log : List (List Bool)) → length log ≡ length (walk_nets board)
      → All (λ row. length row ≡ data_bits board) log →
      (ShowsLabels log (map (label_of log) cells) cells → ⊥) → AreFound board log None
  none_found board rules cells w log rows bits hidden =
      let decides : Decides false (ShowsLabels log (map (label_of log) cells) cells) = (λ e. cc e, λ shows. absurd (hidden shows)) in
      found_at board rules cells w log rows bits (walk_nets board) (map (label_of log) cells)
      (map (label_of log) cells) refl refl refl false decides None refl

  pub groups_found : (board : RawBoard) → IsBoard board → (cells : List NetCells)
      → Walked board cells → (log : List (List Bool)) → length log ≡ length (walk_nets board)
      → All (λ row. length row ≡ data_bits board) log →
      (nets labels used : List ℕ) → nets ≡ walk_nets board → labels ≡ map (label_of log) cells
      → used ≡ labels → ShowsLabels log labels cells → (groups : List (List ℕ))
      → groups ≡ groups_by nets used → AreFound board log (Some groups)
  groups_found board rules cells w log rows bits nets labels used nets_are are used_are shows groups groups_are =
      found_at board rules cells w log rows bits nets labels used nets_are are (used_are ∙ are) true
      (λ e. shows, λ s. refl) (Some groups) (ap (λ (l : List (List ℕ)). Some l) groups_are)

  pub some_found : (board : RawBoard) (log : List (List Bool)) → IsBoard board → (found : Option (List (List ℕ))) × AreFound board log found
  some_found board log rules = by_setting (walk_setting board) refl
    where
      by_shape : (walk : Option (List Ctl)) → walk_setting board ≡ walk → (t : Bool)
          → Decides t (HasShape board (scans_by board walk) log) →
          (HasShape board (scans_by board walk) log
          → (found : Option (List (List ℕ))) × AreFound board log found)
          → (found : Option (List (List ℕ))) × AreFound board log found
      by_shape walk is true d shaped_found = shaped_found (d.0 refl)
      by_shape walk is false d shaped_found = (
        None,
        λ groups explains.
            let e : ExplainedBy board (or_shorts groups) (scans_by board walk) log = subst
            (λ (o : Option (List Ctl)). ExplainedBy board (or_shorts groups) (scans_by board o)
            log) is explains.explained in
            let bad : false ≡ true = d.1 e.shape in
            cc bad,
      )

      by_cells : (walk : List Ctl) → walk_setting board ≡ Some walk
          → HasShape board (walk_row_scans board walk) log
          → (cells : List NetCells) × CellsAre board walk (walk_nets board) cells
          → (found : Option (List (List ℕ))) × AreFound board log found
      by_cells walk is shape (cells, are) =
          let rows : length log ≡ length (walk_nets board) =
          shape.rows ∙ rows_counted board (walk_row_scans board walk)
          ∙ (compare board walk rules).count
          ∙ one-mul (count_by (is_walked board walk) board.nets)
          ∙ sym (count_is board walk is) in
          let d = shows_decided log (map (label_of log) cells) cells in (
            cond d.0 (Some (groups_by (walk_nets board) (map (label_of log) cells))) None,
            found_by board rules walk is log cells are rows shape.bits d.0 d.1,
          )

      by_setting : (o : Option (List Ctl)) → walk_setting board ≡ o → (found : Option (List (List ℕ))) × AreFound board log found
      by_setting None e =
          let d = shape_decided board [] log in
          by_shape None e d.0 d.1 (λ shape. (Some [], none_explain board rules e log shape))
      by_setting (Some walk) e =
          let d = shape_decided board (walk_row_scans board walk) log in
          by_shape (Some walk) e d.0 d.1
          (λ shape. by_cells walk e shape
          (some_cells board walk (walk_nets board)
          (λ n h. walk_has board walk e n (has_contains (walk_nets board) n h))))
