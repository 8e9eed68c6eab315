-- Lemmas about the list of the useful controls, which is in control order. A control is useful if it is safe
-- alone and enables a tested driver.
use Rattle.std.proofs.Common.{◌≡◌, ℕ, ◌+◌, ◌<◌, ◌≤◌, Bool, List, [], ◌∷◌, ◌++◌, map, length, take, get_or, Option, Some, refl, sym, ◌∙◌, ap, subst, arith, inl, inr, cond}
use Rattle.std.specs.Prelude.{slice_get, slice_index_or, filter, option_and_then, All}
use Rattle.std.specs.List.{flat_map, enumerate_from, range_with_len}
use Rattle.std.proofs.lemmas.List.{take_more, take_all, length-take-le, append-nil}
use Rattle.std.proofs.lemmas.List.Concat.{flat_map-append}
use Rattle.std.proofs.lemmas.List.Elements.{filter-append}
use Rattle.std.proofs.lemmas.List.FromFn.{filter_of_map_range_with_len_more}
use Rattle.board_defs.specs.declared.board.PartKind.{PartKind}
use Rattle.board_defs.specs.declared.board.PartKind.TheVariants.{Described, Bypass}
use Rattle.board_defs.specs.declared.board.Part.{Part}
use Rattle.board_defs.specs.declared.board.Ctl.{Ctl}
use Rattle.board_defs.specs.declared.board.RawBoard.{RawBoard}
use Rattle.board_defs.specs.Pins.{described, cell_count, IsCell}
use Rattle.board_defs.specs.Decided.{is_useful}
use Rattle.board_defs.specs.Passes.{all_cells, cells_of, useful_controls}
use Rattle.std.proofs.lemmas.Option.{slice_get-get_or}
use Rattle.board_defs.proofs.Members.{Has, has_at, filter_has, flat_map_has, enumerate_has, map_has, range_has}

abbrev pub cell_in : ℕ → ℕ → Ctl
cell_in part cell = record { part = part; cell = cell }

pub cells_are : (part : ℕ) (kind : PartKind) → map (cell_in part) (range_with_len 0 (cell_count (described kind))) ≡ cells_of part kind
cells_are part (Described device) = refl
cells_are part (Bypass n) = refl

-- the cells of the first `k` parts, as controls
abbrev pub cells_upto : List Part → ℕ → List Ctl
cells_upto chain k = flat_map (λ part. cells_of part.0 part.1.kind) (enumerate_from 0 (take k chain))

enumerate_end : {X : Type 0} (n : ℕ) (xs : List X) (x : X)
    → enumerate_from n (xs ++ x ∷ []) ≡ enumerate_from n xs ++ (n + length xs, x) ∷ []
enumerate_end n [] x = ap (λ k. (k, x) ∷ []) (omega arith)
enumerate_end n (y ∷ xs) x =
    ap (λ zs. (n, y) ∷ zs)
    (enumerate_end (n + 1) xs x ∙ ap (λ k. enumerate_from (n + 1) xs ++ (k, x) ∷ []) (omega arith))

pub cells_more : (p : Ctl → Bool) (chain : List Part) (i : ℕ) (part : Part) → i < length chain → part ≡ get_or chain i part →
    filter p (cells_upto chain (i + 1)) ≡ filter p (cells_upto chain i) ++ filter p (cells_of i part.kind)
cells_more p chain i part h e =
    let f : ℕ × Part → List Ctl = λ q. cells_of q.0 q.1.kind in
    let n = length-take-le i chain (omega arith) in
    let l : 0 + length (take i chain) ≡ i = omega (arith, n) in
    ap (λ xs. filter p (flat_map f (enumerate_from 0 xs))) (take_more chain i part h ∙ ap (λ x. take i chain ++ x ∷ []) (sym e)) ∙
    ap (λ xs. filter p (flat_map f xs))
    (enumerate_end 0 (take i chain) part
    ∙ ap (λ k. enumerate_from 0 (take i chain) ++ (k, part) ∷ []) l) ∙
    ap (filter p)
    (flat_map-append f (enumerate_from 0 (take i chain)) ((i, part) ∷ [])
    ∙ ap (λ ys. cells_upto chain i ++ ys) (append-nil (cells_of i part.kind))) ∙
    filter-append p (cells_upto chain i) (cells_of i part.kind)

joined : (xs ys zs : List Ctl) → (xs ++ ys) ++ zs ≡ xs ++ (ys ++ zs)
joined [] ys zs = refl
joined (x ∷ xs) ys zs = ap (λ v. x ∷ v) (joined xs ys zs)

pub cell_more : (p : Ctl → Bool) (part cell : ℕ) (initial before after : List Ctl) (t : Bool)
    → before ≡ initial ++ filter p (map (cell_in part) (range_with_len 0 cell))
    → t ≡ p (cell_in part cell) → after ≡ before ++ cond t (cell_in part cell ∷ []) [] →
    after ≡ initial ++ filter p (map (cell_in part) (range_with_len 0 (cell + 1)))
cell_more p part cell initial before after t e f g =
    let kept : List Ctl = filter p (map (cell_in part) (range_with_len 0 cell)) in
    g ∙ ap (λ v. v ++ cond t (cell_in part cell ∷ []) []) e
    ∙ ap (λ b. (initial ++ kept) ++ cond b (cell_in part cell ∷ []) []) f
    ∙ joined initial kept (cond (p (cell_in part cell)) (cell_in part cell ∷ []) []) ∙
    ap (λ v. initial ++ v) (sym (filter_of_map_range_with_len_more p (cell_in part) 0 cell cell (omega arith)))

pub cells_whole : (board : RawBoard) (k : ℕ) → length board.chain ≤ k → cells_upto board.chain k ≡ all_cells board
cells_whole board k h =
    ap (λ xs. flat_map (λ (part : ℕ × Part). cells_of part.0 part.1.kind) (enumerate_from 0 xs))
    (take_all k board.chain h)

pub has_cell : (board : RawBoard) (c : Ctl) → Has (all_cells board) c → IsCell board c
has_cell board c h =
    let f : ℕ × Part → List Ctl = λ q. cells_of q.0 q.1.kind in
    let r : (x : ℕ × Part) × Has (enumerate_from 0 board.chain) x × Has (f x) c = flat_map_has f (enumerate_from 0 board.chain) c h in
    let s : (k : ℕ) × (r.0.0 ≡ 0 + k) × (slice_get board.chain k ≡ Some r.0.1) = enumerate_has 0 board.chain r.0.0 r.0.1 r.1 in
    let t : (c.part ≡ r.0.0) × (c.cell < cell_count (described r.0.1.kind)) = by_kind r.0.0 r.0.1.kind r.2 in
    let at : c.part ≡ s.0 = omega (arith, t.0, s.1) in
    let P : ℕ → Type 0 = λ n. c.cell < cell_count (option_and_then (λ (p : Part). described p.kind) (slice_get board.chain n)) in
    let Q : Option Part → Type 0 = λ w. c.cell < cell_count (option_and_then (λ (p : Part). described p.kind) w) in
    subst P (sym at) (subst Q (sym s.2) t.1)
  where
    by_cell : (part n : ℕ) → (r : (k : ℕ) × Has (range_with_len 0 n) k × (cell_in part k ≡ c)) → (c.part ≡ part) × (c.cell < n)
    by_cell part n r =
        let w : (0 ≤ r.0) × (r.0 < 0 + n) = range_has 0 n r.0 r.1 in
        let e : c.cell ≡ r.0 = sym (ap (λ (v : Ctl). v.cell) r.2) in
        (sym (ap (λ (v : Ctl). v.part) r.2), omega (arith, w.1, e))

    by_kind : (part : ℕ) (kind : PartKind) → Has (cells_of part kind) c → (c.part ≡ part) × (c.cell < cell_count (described kind))
    by_kind part (Described device) k = by_cell part device.boundary (map_has (cell_in part) (range_with_len 0 device.boundary) c k)
    by_kind part (Bypass n) k = absurd k

pub filter_on : {X : Type 0} (p q : X → Bool) (xs : List X) → ((x : X) → Has xs x → p x ≡ q x) → filter p xs ≡ filter q xs
filter_on p q [] h = refl
filter_on p q (x ∷ xs) h =
    ap (λ t. cond t (x ∷ filter p xs) (filter p xs)) (h x (inl refl))
    ∙ ap (λ ys. cond (q x) (x ∷ ys) ys) (filter_on p q xs (λ y k. h y (inr k)))

pub useful_cells : (board : RawBoard) (useful : List Ctl) → useful ≡ useful_controls board → All (IsCell board) useful
useful_cells board useful e k d less =
    let P : List Ctl → Type 0 = λ v. Has v (slice_index_or useful k d) in
    has_cell board (slice_index_or useful k d)
    (filter_has (is_useful board) (all_cells board) (slice_index_or useful k d)
    (subst P e
    (has_at useful k (slice_index_or useful k d) (slice_get-get_or useful k d less)))).0
