-- Two different controls have drivers on one net if and only if their lists of shared nets have a number in common. The shared nets of a
-- control are the nets with a driver of this control and a driver of another control.
use Rattle.std.proofs.Common.{◌≡◌, ℕ, ◌<◌, slice_index, Bool, true, false, ◌&&◌, List, length, Option, Some, None, refl, sym, ◌∙◌, ap, subst, arith}
use Rattle.std.specs.Prelude.{slice_get}
use Rattle.std.specs.List.{list_any, range_with_len}
use Rattle.std.specs.Bool.{Decides}
use Rattle.std.proofs.lemmas.Option.{slice_get_within, get_or_from_slice_get}
use Rattle.std.proofs.lemmas.Bool.{and_from, not_from_false}
use Rattle.lists.proofs.Booleans.{same_truth, and_left, and_right}
use Rattle.board_defs.specs.declared.board.Net.{Net}
use Rattle.board_defs.specs.declared.board.NetPin.{NetPin}
use Rattle.board_defs.specs.declared.board.Ctl.{Ctl}
use Rattle.board_defs.specs.declared.board.RawBoard.{RawBoard}
use Rattle.board_defs.specs.Pins.{drive}
use Rattle.board_defs.specs.Settings.{same_ctl}
use Rattle.board_defs.specs.Decided.{is_by, drives_net, share_net}
use Rattle.board_defs.proofs.Driving.{by_true}
use Rattle.board_defs.proofs.Members.{Has, has_place, has_contains, contains_has, has_filter, filter_has, has_range}
use Rattle.board_defs.proofs.Places.{Found, any_place, any_at}
use Rattle.net_facts.specs.Found.{IsAscending, Meet}
use Rattle.net_classes.specs.Laws.{HaveCommon}
use Rattle.net_facts.specs.Kept.{is_by_other, is_contended, contends_there, shared_nets}
use Rattle.net_classes.proofs.SharedLemmas.{kept_ascend, item_has}
use Rattle.net_facts.proofs.Contended.{differ_back}

shares_has : (board : RawBoard) (c : Ctl) (n : ℕ) (net : Net) → slice_get board.nets n ≡ Some net
    → is_contended board c net ≡ true → Has (shared_nets board c) n
shares_has board c n net e d =
    let less : n < length board.nets = slice_get_within board.nets n net e in
    has_filter (λ k. contends_there board c (slice_get board.nets k))
    (range_with_len 0 (length board.nets)) n
    (has_range 0 (length board.nets) n (omega arith) (omega arith))
    (ap (contends_there board c) e ∙ d)

pub has_shares : (board : RawBoard) (c : Ctl) (n : ℕ) → Has (shared_nets board c) n
    → (net : Net) × (slice_get board.nets n ≡ Some net) × (is_contended board c net ≡ true)
has_shares board c n h =
    by_net (slice_get board.nets n) refl
    (filter_has (λ k. contends_there board c (slice_get board.nets k))
    (range_with_len 0 (length board.nets)) n h).1
  where
    by_net : (net : Option Net) → slice_get board.nets n ≡ net → contends_there board c net ≡ true
        → (m : Net) × (slice_get board.nets n ≡ Some m) × (is_contended board c m ≡ true)
    by_net None e k = cc k
    by_net (Some m) e k = (m, e, k)

contends : (board : RawBoard) (c d : Ctl) (net : Net) → same_ctl d c ≡ false
    → drives_net board c net ≡ true → drives_net board d net ≡ true
    → is_contended board c net ≡ true
contends board c d net ne dc dd =
    let r : Found (λ (p : NetPin). is_by d (drive board net p)) net.pins = any_place
    (λ (p : NetPin). is_by d (drive board net p)) net.pins dd in
    and_from (drives_net board c net) (list_any (λ (p : NetPin). is_by_other c (drive board net p)) net.pins) dc
    (any_at (λ (p : NetPin). is_by_other c (drive board net p)) net.pins r.place r.item r.stands
    (ap (is_by_other c) (by_true d (drive board net r.item) r.passes)
    ∙ not_from_false (same_ctl d c) ne))

pub share_has : (board : RawBoard) (a b : Ctl) → same_ctl a b ≡ false → share_net board a b ≡ true
    → (n : ℕ) × Has (shared_nets board a) n × Has (shared_nets board b) n
share_has board a b ne h =
    let both : Net → Bool = λ net. drives_net board a net && drives_net board b net in
    let r : Found both board.nets = any_place both board.nets h in
    let da : drives_net board a r.item ≡ true = and_left (drives_net board a r.item) (drives_net board b r.item) r.passes in
    let db : drives_net board b r.item ≡ true = and_right (drives_net board a r.item) (drives_net board b r.item) r.passes in (
      r.place,
      shares_has board a r.place r.item r.stands (contends board a b r.item (differ_back b a ne) da db),
      shares_has board b r.place r.item r.stands (contends board b a r.item ne db da),
    )

has_share : (board : RawBoard) (a b : Ctl) (n : ℕ) → Has (shared_nets board a) n → Has (shared_nets board b) n → share_net board a b ≡ true
has_share board a b n x y =
    let p : (net : Net) × (slice_get board.nets n ≡ Some net) × (is_contended board a net ≡ true) = has_shares board a n x in
    let q : (net : Net) × (slice_get board.nets n ≡ Some net) × (is_contended board b net ≡ true) = has_shares board b n y in
    let two : Some q.0 ≡ Some p.0 = sym q.1 ∙ p.1 in
    let same : q.0 ≡ p.0 = cc in
    any_at (λ (net : Net). drives_net board a net && drives_net board b net) board.nets n p.0 p.1
    (and_from (drives_net board a p.0) (drives_net board b p.0)
    (and_left (drives_net board a p.0) (list_any (λ (v : NetPin). is_by_other a (drive board p.0 v)) p.0.pins) p.2)
    (sym (ap (drives_net board b) same) ∙ and_left (drives_net board b q.0)
    (list_any (λ (v : NetPin). is_by_other b (drive board q.0 v)) q.0.pins) q.2))

pub contended_decided : (board : RawBoard) (a b : Ctl) → same_ctl a b ≡ false
    → Decides (share_net board a b) (HaveCommon (shared_nets board a) (shared_nets board b))
contended_decided board a b ne = (there, back)
  where
    there : share_net board a b ≡ true → HaveCommon (shared_nets board a) (shared_nets board b)
    there h =
        let r : (n : ℕ) × Has (shared_nets board a) n
        × Has (shared_nets board b) n = share_has board a b ne h in
        (r.0, has_contains (shared_nets board a) r.0 r.1, has_contains (shared_nets board b) r.0 r.2)

    back : HaveCommon (shared_nets board a) (shared_nets board b) → share_net board a b ≡ true
    back (n, x, y) = has_share board a b n (contains_has (shared_nets board a) n x) (contains_has (shared_nets board b) n y)

pub ascends : (board : RawBoard) (c : Ctl) (xs : List ℕ) → xs ≡ shared_nets board c → IsAscending xs
ascends board c xs e = subst IsAscending (sym e) (kept_ascend (λ n. contends_there board c (slice_get board.nets n)) 0 (length board.nets))

pub shared_is : (board : RawBoard) (a b : Ctl) (r : Bool) (xs ys : List ℕ) → same_ctl a b ≡ false
    → xs ≡ shared_nets board a → ys ≡ shared_nets board b → Decides r (Meet xs ys)
    → r ≡ share_net board a b
shared_is board a b r xs ys ne e f d = same_truth r (share_net board a b) there back
  where
    there : r ≡ true → share_net board a b ≡ true
    there h = by_meet (d.0 h)
      where
        by_meet : Meet xs ys → share_net board a b ≡ true
        by_meet (i, j, hi, hj, k) =
            let P : List ℕ → Type 0 = λ v. Has v (slice_index xs i) in
            let Q : ℕ → Type 0 = λ v. Has ys v in
            has_share board a b (slice_index xs i) (subst P e (item_has xs i hi)) (subst P f (subst Q (sym k) (item_has ys j hj)))

    back : share_net board a b ≡ true → r ≡ true
    back h =
        let s : (n : ℕ) × Has (shared_nets board a) n × Has (shared_nets board b) n = share_has board a b ne h in
        let P : List ℕ → Type 0 = λ v. Has v s.0 in
        let x : (k : ℕ) × (slice_get xs k ≡ Some s.0) = has_place xs s.0 (subst P (sym e) s.1) in
        let y : (k : ℕ) × (slice_get ys k ≡ Some s.0) = has_place ys s.0 (subst P (sym f) s.2) in
        d.1 (
          x.0,
          y.0,
          slice_get_within xs x.0 s.0 x.1,
          slice_get_within ys y.0 s.0 y.1,
          get_or_from_slice_get xs x.0 s.0 0 x.1
              ∙ sym (get_or_from_slice_get ys y.0 s.0 0 y.1),
        )
