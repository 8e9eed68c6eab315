-- Lemmas about the nets that two controls share.
use Rattle.std.proofs.Common.{◌≡◌, ℕ, zero, suc, ◌+◌, ◌<◌, ◌≤◌, Bool, true, false, ◌&&◌, List, ◌∷◌, length, Option, Some, None, refl, sym, ◌∙◌, ap, arith, cond, slice_index}
use Rattle.std.specs.Prelude.{slice_get, filter, Contains}
use Rattle.std.specs.List.{range_with_len}
use Rattle.std.specs.Bool.{Decides}
use Rattle.std.proofs.lemmas.Option.{slice_get-get_or, slice_get_within}
use Rattle.std.proofs.lemmas.Bool.{and_from}
use Rattle.lists.proofs.Booleans.{and_left, and_right}
use Rattle.board_defs.specs.declared.board.Net.{Net}
use Rattle.board_defs.specs.declared.board.Ctl.{Ctl}
use Rattle.board_defs.specs.declared.board.RawBoard.{RawBoard}
use Rattle.board_defs.specs.Decided.{drives_net, share_net}
use Rattle.board_defs.proofs.Members.{Has, has_at, has_filter, filter_has, has_range, range_has, has_contains, contains_has}
use Rattle.board_defs.proofs.Places.{Found, any_place, any_at}
use Rattle.net_facts.specs.Found.{IsAscending}
use Rattle.net_facts.specs.Kept.{drives_there, driven_nets}

abbrev is_driven : RawBoard → Ctl → ℕ → Bool
is_driven board c n = drives_there board c (slice_get board.nets n)

pub driven_has : (board : RawBoard) (c : Ctl) (n : ℕ) (net : Net)
    → slice_get board.nets n ≡ Some net → drives_net board c net ≡ true
    → Has (driven_nets board c) n
driven_has board c n net e d =
    let less : n < length board.nets = slice_get_within board.nets n net e in
    has_filter (is_driven board c) (range_with_len 0 (length board.nets)) n
    (has_range 0 (length board.nets) n (omega arith) (omega arith))
    (ap (drives_there board c) e ∙ d)

has_driven : (board : RawBoard) (c : Ctl) (n : ℕ) → Has (driven_nets board c) n
    → (net : Net) × (slice_get board.nets n ≡ Some net) × (drives_net board c net ≡ true)
has_driven board c n h = by_net (slice_get board.nets n) refl (filter_has (is_driven board c) (range_with_len 0 (length board.nets)) n h).1
  where
    by_net : (net : Option Net) → slice_get board.nets n ≡ net → drives_there board c net ≡ true
        → (m : Net) × (slice_get board.nets n ≡ Some m) × (drives_net board c m ≡ true)
    by_net None e k = cc k
    by_net (Some m) e k = (m, e, k)

share_has : (board : RawBoard) (a b : Ctl) → share_net board a b ≡ true
    → (n : ℕ) × Has (driven_nets board a) n × Has (driven_nets board b) n
share_has board a b h =
    let r : Found (λ (net : Net). drives_net board a net && drives_net board b net) board.nets =
    any_place (λ (net : Net). drives_net board a net && drives_net board b net) board.nets h in (
      r.place,
      driven_has board a r.place r.item r.stands (and_left (drives_net board a r.item) (drives_net board b r.item) r.passes),
      driven_has board b r.place r.item r.stands (and_right (drives_net board a r.item) (drives_net board b r.item) r.passes),
    )

has_share : (board : RawBoard) (a b : Ctl) (n : ℕ) → Has (driven_nets board a) n → Has (driven_nets board b) n → share_net board a b ≡ true
has_share board a b n x y =
    let p : (net : Net) × (slice_get board.nets n ≡ Some net) × (drives_net board a net ≡ true) = has_driven board a n x in
    let q : (net : Net) × (slice_get board.nets n ≡ Some net) × (drives_net board b net ≡ true) = has_driven board b n y in
    let two : Some q.0 ≡ Some p.0 = sym q.1 ∙ p.1 in
    let same : q.0 ≡ p.0 = cc in
    any_at (λ (net : Net). drives_net board a net && drives_net board b net) board.nets n p.0 p.1
    (and_from (drives_net board a p.0) (drives_net board b p.0) p.2
    (sym (ap (drives_net board b) same) ∙ q.2))

pub share_decided : (board : RawBoard) (a b : Ctl)
    → Decides (share_net board a b)
    ((n : ℕ) × Contains (driven_nets board a) n × Contains (driven_nets board b) n)
share_decided board a b = (there, back)
  where
    there : share_net board a b ≡ true → (n : ℕ) × Contains (driven_nets board a) n × Contains (driven_nets board b) n
    there h =
        let r : (n : ℕ) × Has (driven_nets board a) n
        × Has (driven_nets board b) n = share_has board a b h in
        (r.0, has_contains (driven_nets board a) r.0 r.1, has_contains (driven_nets board b) r.0 r.2)

    back : (n : ℕ) × Contains (driven_nets board a) n × Contains (driven_nets board b) n → share_net board a b ≡ true
    back (n, x, y) = has_share board a b n (contains_has (driven_nets board a) n x) (contains_has (driven_nets board b) n y)

pub item_has : (xs : List ℕ) (i : ℕ) → i < length xs → Has xs (slice_index xs i)
item_has xs i h = has_at xs i (slice_index xs i) (slice_get-get_or xs i 0 h)

pub kept_ascend : (p : ℕ → Bool) (a n : ℕ) → IsAscending (filter p (range_with_len a n))
kept_ascend p a zero i j l h = absurd (omega arith)
kept_ascend p a (suc n) i j l h = by_head (p a) (kept_ascend p (a + 1) n) i j l h
  where
    rest : List ℕ
    rest = filter p (range_with_len (a + 1) n)

    by_head : (t : Bool) → IsAscending rest → (i j : ℕ) → i < j
        → j < length (cond t (a ∷ rest) rest)
        → slice_index (cond t (a ∷ rest) rest) i < slice_index (cond t (a ∷ rest) rest) j
    by_head false later i j l h = later i j l h
    by_head true later i zero l h = absurd (omega arith)
    by_head true later zero (suc j) l h =
        let less : j < length rest = omega arith in
        let w : (a + 1 ≤ slice_index rest j)
        × (slice_index rest j < (a + 1) + n) = range_has (a + 1) n (slice_index rest j)
        (filter_has p (range_with_len (a + 1) n) (slice_index rest j) (item_has rest j less)).0
        in
        omega (arith, w.0)
    by_head true later (suc i) (suc j) l h = later i j (omega arith) (omega arith)
