-- Lemmas about the useful controls that share each net with another control. A control is useful if it is
-- safe alone and enables a tested driver.
use Rattle.std.proofs.Common.{◌≡◌, ◌⊎◌, inl, inr, ℕ, zero, suc, ◌+◌, ◌<◌, ◌&&◌, ◌||◌, List, [], ◌∷◌, ◌++◌, length, get_or, Some, refl, sym, ◌∙◌, ap, subst, arith, ltb}
use Rattle.std.specs.Prelude.{◌==◌, slice_get, All}
use Rattle.std.specs.List.{range_with_len}
use Rattle.std.proofs.lemmas.List.Elements.{All-filter}
use Rattle.std.proofs.lemmas.List.FromFn.{get_or-range_with_len, length-range_with_len}
use Rattle.std.proofs.lemmas.Bool.{cases_eq, lt-ltb, ne_eqb}
use Rattle.std.proofs.lemmas.Option.{slice_get_within}
use Rattle.board_defs.specs.declared.board.Ctl.{Ctl}
use Rattle.board_defs.specs.declared.board.RawBoard.{RawBoard}
use Rattle.board_defs.specs.Passes.{useful_controls}
use Rattle.net_facts.specs.Kept.{contends_there, shared_nets}
use Rattle.driver_passes.specs.inner.Drafts.{has_number}
use Rattle.driver_passes.specs.declared.blocks.Block.{Block}
use Rattle.driver_passes.specs.inner.Blocks.{has_place}
use Rattle.driver_passes.specs.inner.Sharers.{AreSharers, AreSharersBelow}
use Rattle.driver_passes.proofs.BlockLemmas.{below_more}

-- `place` is added to the list of each of these nets, and nothing else changes
abbrev pub AreMarked : ℕ → List ℕ → List (List ℕ) → List (List ℕ) → Type 0
AreMarked place nets before after =
    (n q : ℕ)
    → has_number (get_or after n []) q
    ≡ ((q == place && has_number nets n) || has_number (get_or before n []) q)

pub shared_within : (board : RawBoard) (c : Ctl) (nets : List ℕ) (most : ℕ)
    → nets ≡ shared_nets board c → most ≡ length board.nets → All (λ n. n < most) nets
shared_within board c nets most e f =
    let P : ℕ → Type 0 = λ n. n < most in
    let Q : List ℕ → Type 0 = λ v. All P v in
    let count : ℕ = length board.nets in
    subst Q (sym e) (All-filter (λ n. contends_there board c (slice_get board.nets n)) P (range_with_len 0 count) (λ k d less.
    let within : k < count = omega (arith, less, length-range_with_len 0 count) in
    omega (arith, get_or-range_with_len 0 count k d within, within, f)))

-- The iteration of the loop for useful control number `k` adds the place `k` to the lists of the nets that this
-- control shares with another control.
pub sharers_more : (board : RawBoard) (k : ℕ) (d : Ctl) (nets : List ℕ)
    (before after : List (List ℕ)) → AreSharersBelow board k before
    → slice_get (useful_controls board) k ≡ Some d → nets ≡ shared_nets board d
    → length after ≡ length before → AreMarked k nets before after
    → AreSharersBelow board (k + 1) after
sharers_more board k d nets before after are stands is size marked = record {
  sharers_length = size ∙ are.sharers_length;
  sharers_are =
      λ place c at n. marked n place
      ∙ ap (λ t. (place == k && has_number nets n) || t) (are.sharers_are place c at n)
      ∙ ap (λ t. t || (ltb place k && has_number (shared_nets board c) n))
      (same place c n at (cases_eq place k))
      ∙ below_more (λ m. has_number (shared_nets board c) n) k place;
}
  where
    same : (place : ℕ) (c : Ctl) (n : ℕ) → slice_get (useful_controls board) place ≡ Some c
        → (place ≡ k) ⊎ (place ≡ k → ⊥)
        → (place == k && has_number nets n) ≡ (place == k && has_number (shared_nets board c) n)
    same place c n at (inl one) =
        let found : Some d ≡ Some c = sym stands ∙ ap (slice_get (useful_controls board)) (sym one) ∙ at in
        let control : d ≡ c = cc found in
        ap (λ v. place == k && has_number v n) (is ∙ ap (shared_nets board) control)
    same place c n at (inr other) =
        ap (λ t. t && has_number nets n) (ne_eqb place k other)
        ∙ sym (ap (λ t. t && has_number (shared_nets board c) n) (ne_eqb place k other))

pub sets_more : (sets : List (List Block)) (lists : List (List ℕ)) (set : List Block)
    (list : List ℕ) → length sets ≡ length lists
    → ((n q : ℕ) → has_place (get_or sets n []) q ≡ has_number (get_or lists n []) q)
    → ((q : ℕ) → has_place set q ≡ has_number list q) →
    (n q : ℕ) → has_place (get_or (sets ++ set ∷ []) n []) q ≡ has_number (get_or (lists ++ list ∷ []) n []) q
sets_more [] [] set list size same one zero q = one q
sets_more [] [] set list size same one (suc n) q = refl
sets_more [] (l ∷ lists) set list size same one n q = absurd (omega (arith, size))
sets_more (s ∷ sets) [] set list size same one n q = absurd (omega (arith, size))
sets_more (s ∷ sets) (l ∷ lists) set list size same one zero q = same 0 q
sets_more (s ∷ sets) (l ∷ lists) set list size same one (suc n) q =
    sets_more sets lists set list (omega (arith, size)) (λ k. same (suc k)) one n q

pub sharers_all : (board : RawBoard) (lists : List (List ℕ)) (sharers : List (List Block))
    → AreSharersBelow board (length (useful_controls board)) lists →
    ((n q : ℕ) → has_place (get_or sharers n []) q ≡ has_number (get_or lists n []) q) → AreSharers board sharers
sharers_all board lists sharers are same place c at n =
    same n place ∙ are.sharers_are place c at n
    ∙ ap (λ t. t && has_number (shared_nets board c) n)
    (lt-ltb place (length (useful_controls board))
    (slice_get_within (useful_controls board) place c at))
