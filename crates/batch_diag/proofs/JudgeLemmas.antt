-- Lemmas about the verdicts on ranges of blocks. A verdict is the diagnosis of a block's log.
use Rattle.std.proofs.Common.{◌≡◌, ℕ, ◌+◌, ◌<◌, ◌≤◌, suc, List, [], ◌∷◌, ◌++◌, length, get_or, Result, Ok, Err, refl, sym, ap, subst, arith}
use Rattle.std.specs.Prelude.{All, IfOk}
use Rattle.std.proofs.lemmas.List.Elements.{All-nil, All-cons}
use Rattle.board_defs.specs.declared.board.RawBoard.{RawBoard}
use Rattle.diagnoser.specs.Diagnosis.{IsFaultOnBoard}
use Rattle.batch_diag.specs.declared.block.Block.{Block}
use Rattle.batch_diag.specs.declared.batch.Batch.{Batch}
use Rattle.batch_diag.specs.Verdicts.{EachPair, IsVerdict, AreVerdicts, Verdict}
use Rattle.batch_diag.specs.inner.Judging.{Judges, Judged}
use Rattle.side_by_side.specs.declared.pieces.Piece.{Piece}
use Rattle.side_by_side.specs.Pieces.{GivesTogether, items_between, piece_of, piece_start, said_then, seen_list}
use Rattle.side_by_side.proofs.PieceLemmas.{IsOfRanges, of_pieces}
use Rattle.side_by_side.proofs.RangeLemmas.{range_sum, range_none, range_one, range_whole}

module _ {A B : Type 0} (R : A → B → Type 0) where
  each_append : (xs xs' : List A) (ys ys' : List B) → EachPair R xs ys → EachPair R xs' ys' → EachPair R (xs ++ xs') (ys ++ ys')
  each_append [] xs' [] ys' each each' = each'
  each_append [] xs' (y ∷ ys) ys' each each' = absurd each
  each_append (x ∷ xs) xs' [] ys' each each' = absurd each
  each_append (x ∷ xs) xs' (y ∷ ys) ys' each each' = (each.0, each_append xs xs' ys ys' each.1 each')

  each_length : (xs : List A) (ys : List B) → EachPair R xs ys → length ys ≡ length xs
  each_length [] [] each = refl
  each_length [] (y ∷ ys) each = absurd each
  each_length (x ∷ xs) [] each = absurd each
  each_length (x ∷ xs) (y ∷ ys) each = ap suc (each_length xs ys each.1)

module _ {A B : Type 0} (R : A → B → Type 0) (P : B → Type 0) where
  each_first : (xs : List A) (ys : List B) → EachPair (λ x y. R x y × P y) xs ys → EachPair R xs ys
  each_first [] [] each = tt
  each_first [] (y ∷ ys) each = each
  each_first (x ∷ xs) [] each = each
  each_first (x ∷ xs) (y ∷ ys) each = (each.0.0, each_first xs ys each.1)

  each_second : (xs : List A) (ys : List B) → EachPair (λ x y. R x y × P y) xs ys → All P ys
  each_second [] [] each = All-nil P
  each_second [] (y ∷ ys) each = absurd each
  each_second (x ∷ xs) [] each = absurd each
  each_second (x ∷ xs) (y ∷ ys) each = All-cons P y ys each.0.1 (each_second xs ys each.1)

module _ (b : Batch) where
  judged_append : (from middle to : ℕ) (xs ys : List Verdict) → from ≤ middle → middle ≤ to
      → Judged b from middle xs → Judged b middle to ys → Judged b from to (xs ++ ys)
  judged_append from middle to xs ys low high first second =
      subst (λ (l : List Block). EachPair (Judges b) l (xs ++ ys)) (sym (range_sum b.blocks.now from middle to low high))
      (each_append (Judges b) (items_between b.blocks.now from middle) (items_between b.blocks.now middle to) xs ys first second)

  judged_none : (i : ℕ) → Judged b i i []
  judged_none i = subst (λ (l : List Block). EachPair (Judges b) l []) (sym (range_none b.blocks.now i)) tt

  pub judged_start : (from : ℕ) (none : List Verdict) → none ≡ [] → Judged b from from none
  judged_start from none is = subst (λ (xs : List Verdict). Judged b from from xs) (sym is) (judged_none from)

  pub judged_more : (from i : ℕ) (xs more : List Verdict) (x : Verdict) → from ≤ i
      → more ≡ xs ++ x ∷ [] → Judged b from i xs → Judged b i (i + 1) (x ∷ [])
      → Judged b from (i + 1) more
  judged_more from i xs more x low is first second =
      subst (λ (l : List Verdict). Judged b from (i + 1) l) (sym is)
      (judged_append from i (i + 1) xs (x ∷ []) low (omega arith) first second)

  pub judged_end : (from i end : ℕ) (xs : List Verdict) → i ≡ end → Judged b from i xs → Judged b from end xs
  judged_end from i end xs same judged = subst (λ (n : ℕ). Judged b from n xs) same judged

  pub judged_one : (i : ℕ) (block : Block) (verdict : Verdict) → i < length b.blocks.now
      → block ≡ get_or b.blocks.now i block → Judges b block verdict
      → Judged b i (i + 1) (verdict ∷ [])
  judged_one i block verdict less is judges =
      subst (λ (l : List Block). EachPair (Judges b) l (verdict ∷ []))
      (sym (range_one b.blocks.now i block less is)) (judges, tt)

  pub judged_by : (i : ℕ) (block : Block) → i < length b.blocks.now
      → block ≡ get_or b.blocks.now i block → {E : Type 0} (result : Result Verdict E)
      → IfOk result (IsVerdict b.test.now.board block)
      → IfOk result (λ v. All (IsFaultOnBoard b.test.now.board) v.faults) →
      IfOk result (λ v. Judged b i (i + 1) (v ∷ []))
  judged_by i block less is (Ok verdict) right named = judged_one i block verdict less is (right, named)
  judged_by i block less is (Err e) right named = tt

  -- the verdicts on two adjacent ranges, joined, are the verdicts on both ranges
  judged_ranges : (items : ℕ) {E : Type 0} → IsOfRanges {E = E} items (λ from to said. IfOk said (Judged b from to))
  judged_ranges items = record {
    nothing = judged_none;
    both = λ from middle to said later low high within. both from middle to said later low high;
  }
    where
      both : {E : Type 0} (from middle to : ℕ) (said later : Result (List Verdict) E)
          → from ≤ middle → middle ≤ to → IfOk said (Judged b from middle)
          → IfOk later (Judged b middle to) → IfOk (said_then said later) (Judged b from to)
      both from middle to (Ok xs) (Ok ys) low high first second = judged_append from middle to xs ys low high first second
      both from middle to (Ok xs) (Err e) low high first second = tt
      both from middle to (Err e) later low high first second = tt

  judged_seen : (from to : ℕ) {V E : Type 0} (view : V → List Verdict) (answer : Result V E)
      → IfOk answer (λ v. Judged b from to (view v))
      → IfOk (seen_list view answer) (Judged b from to)
  judged_seen from to view (Ok v) judged = judged
  judged_seen from to view (Err e) judged = tt

  seen_judged : (from to : ℕ) {V E : Type 0} (view : V → List Verdict) (answer : Result V E)
      → IfOk (seen_list view answer) (Judged b from to)
      → IfOk answer (λ v. Judged b from to (view v))
  seen_judged from to view (Ok v) judged = judged
  seen_judged from to view (Err e) judged = tt

  -- if each piece returns the verdicts on its blocks, the joined results are the verdicts on all blocks
  pub judged_pieces : (items pieces : ℕ) → 0 < pieces → items ≡ length b.blocks.now
      → {V E : Type 0} (view : V → List Verdict) (Gives : Piece → Result V E → Type 0)
      (IsRefusal : E → Type 0) (result : Result V E)
      → GivesTogether view Gives IsRefusal items pieces result →
      ((number : ℕ) (answer : Result V E) → Gives (piece_of items pieces number) answer
      → IfOk answer
      (λ v. Judged b (piece_start items pieces number)
      (piece_start items pieces (number + 1)) (view v))) →
      IfOk result (λ v. Judged b 0 (length b.blocks.now) (view v))
  judged_pieces items pieces some count view Gives IsRefusal result gives each =
      subst (λ (n : ℕ). IfOk result (λ v. Judged b 0 n (view v))) count
      (seen_judged 0 items view result
      (of_pieces items (λ from to said. IfOk said (Judged b from to)) view pieces some (judged_ranges items) Gives IsRefusal result
      (λ number answer within judged. judged_seen (piece_start items pieces number)
      (piece_start items pieces (number + 1)) view answer (each number answer judged))
      (λ fault refused. tt) gives))

-- Verdicts on blocks. Their faults name nets and pins of the board.
module _ (board : RawBoard) (blocks : List Block) where
  abbrev Named : Verdict → Type 0
  Named verdict = All (IsFaultOnBoard board) verdict.faults

  abbrev Both : Block → Verdict → Type 0
  Both block verdict = IsVerdict board block verdict × Named verdict

  abbrev pub AllJudged : List Verdict → Type 0
  AllJudged verdicts =
      EachPair
      (λ block verdict. IsVerdict board block verdict × All (IsFaultOnBoard board) verdict.faults)
      (items_between blocks 0 (length blocks)) verdicts

  all_judged : (verdicts : List Verdict) → AllJudged verdicts → EachPair Both blocks verdicts
  all_judged verdicts judged = subst (λ (l : List Block). EachPair Both l verdicts) (range_whole blocks) judged

  pub all_verdicts : {V E : Type 0} (view : V → List Verdict) (result : Result V E)
      → IfOk result (λ v. AllJudged (view v)) → IfOk result (λ v. AreVerdicts board blocks (view v))
  all_verdicts view (Ok v) judged = each_first (IsVerdict board) Named blocks (view v) (all_judged (view v) judged)
  all_verdicts view (Err e) judged = tt

  pub all_named : {V E : Type 0} (view : V → List Verdict) (result : Result V E)
      → IfOk result (λ v. AllJudged (view v))
      → IfOk result (λ v. All (λ verdict. All (IsFaultOnBoard board) verdict.faults) (view v))
  all_named view (Ok v) judged = each_second (IsVerdict board) Named blocks (view v) (all_judged (view v) judged)
  all_named view (Err e) judged = tt

  pub all_counted : {V E : Type 0} (view : V → List Verdict) (result : Result V E)
      → IfOk result (λ v. AllJudged (view v)) → IfOk result (λ v. length (view v) ≡ length blocks)
  all_counted view (Ok v) judged = each_length Both blocks (view v) (all_judged (view v) judged)
  all_counted view (Err e) judged = tt
