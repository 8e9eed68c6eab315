-- Lemmas about the lines of single nets, pins and pairs of nets.
use Rattle.std.proofs.Common.{◌≡◌, ℕ, zero, suc, ◌+◌, ◌-◌, ◌*◌, ◌/◌, ◌%◌, ◌<◌, ◌≤◌, subst, Bool, true, false, not, ◌&&◌, cond, List, [], ◌∷◌, ◌++◌, length, Option, Some, None, refl, sym, ap, ◌∙◌, take, filter, get_or, length-append, arith}
use Rattle.std.specs.Prelude.{◌==◌, slice_get, is_none, sum_by}
use Rattle.std.specs.Int.{bit_at}
use Rattle.std.proofs.lemmas.Nat.Bits.{bit_at-zero}
use Rattle.std.specs.List.{flat_map, range_with_len}
use Rattle.std.proofs.lemmas.List.{take_more}
use Rattle.std.proofs.lemmas.List.Elements.{filter-append}
use Rattle.std.proofs.lemmas.Option.{slice_get_within, get_or_from_slice_get}
use Rattle.std.proofs.lemmas.List.Sums.{get_or-le-sum_by}
use Rattle.board_defs.specs.Limits.{most_pins}
use Rattle.lists.proofs.ListLemmas.{item_there}
use Rattle.board_defs.specs.declared.board.Net.{Net}
use Rattle.board_defs.specs.declared.board.RawBoard.{RawBoard}
use Rattle.board_defs.specs.declared.board.NetPin.{NetPin}
use Rattle.board_defs.specs.declared.coverage.Reason.{Reason}
use Rattle.board_defs.specs.BoardRules.{IsBoard}
use Rattle.board_defs.specs.Decided.{is_covered, first_reason, reason_of}
use Rattle.net_classes.specs.Pairs.{AreWordBits, covered_there, pair_there, unpaired_with}
use Rattle.coverage_list.specs.declared.lines.PinUse.{PinUse}
use Rattle.coverage_list.specs.CoverText.{is_untested, reason_line, pin_line, pair_line}
use Rattle.coverage_list.specs.inner.CoverForms.{of_item, texts_from, net_reason, reason_at, pin_text_at, untested_pin_lines, untested_lines_at, is_unpaired, pair_text, pair_at, net_pairs, untested_pair_lines}

pub same_item : {X : Type 0} {o : Option X} {x y : X} → o ≡ Some x → o ≡ Some y → x ≡ y
same_item {X} {o} {x} {y} e f = cc

pub count_more : {X : Type 0} (p : X → Bool) (xs : List X) (i : ℕ) (x : X) → slice_get xs i ≡ Some x
    → length (filter p (take (i + 1) xs)) ≡ length (filter p (take i xs)) + cond (p x) 1 0
count_more p xs i x e =
    ap (λ l. length (filter p l))
    (take_more xs i x (slice_get_within xs i x e)
    ∙ ap (λ y. take i xs ++ y ∷ []) (get_or_from_slice_get xs i x x e))
    ∙ ap length (filter-append p (take i xs) (x ∷ []))
    ∙ length-append (filter p (take i xs)) (filter p (x ∷ []))
    ∙ ap (λ n. length (filter p (take i xs)) + n) (by (p x))
  where
    by : (t : Bool) → length (cond t (x ∷ []) []) ≡ cond t 1 0
    by true = refl
    by false = refl

pub counted : (p : Net → Bool) (nets : List Net) (i covered : ℕ) (t : Bool) → i < length nets
    → ((net : Net) → slice_get nets i ≡ Some net → t ≡ p net)
    → covered ≡ length (filter p (take i nets))
    → covered + cond t 1 0 ≡ length (filter p (take (i + 1) nets))
counted p nets i covered t less is so_far =
    let net = item_there nets i less in
    ap (λ n. n + cond t 1 0) so_far
    ∙ ap (λ b. length (filter p (take i nets)) + cond b 1 0) (is net.0 net.1)
    ∙ sym (count_more p nets i net.0 net.1)

pub no_reason : (board : RawBoard) (net : Net) → is_none (reason_of board net) ≡ is_covered board net
no_reason board net = by (is_covered board net)
  where
    by : (t : Bool) → is_none (cond t None (Some (first_reason board net))) ≡ t
    by true = refl
    by false = refl

unpaired_is : (board : RawBoard) (low high : ℕ) (one two : Net)
    → slice_get board.nets low ≡ Some one → slice_get board.nets high ≡ Some two
    → unpaired_with board low high ≡ is_unpaired board one two
unpaired_is board low high one two at at' =
    ap (λ o. covered_there board o && not (pair_there board (slice_get board.nets low) o)) at'
    ∙ ap (λ o. is_covered board two && not (pair_there board o (Some two))) at

texts_empty : (f : ℕ → List ℕ) (n count : ℕ) → ((i : ℕ) → n ≤ i → i < count → f i ≡ []) → texts_from f n count ≡ []
texts_empty f n count each = by (count - n) n (λ i past below. each i past (omega (arith, past, below)))
  where
    by : (k n : ℕ) → ((i : ℕ) → n ≤ i → i < n + k → f i ≡ []) → flat_map f (range_with_len n k) ≡ []
    by zero n each = refl
    by (suc k) n each =
        ap (λ t. t ++ flat_map f (range_with_len (n + 1) k)) (each n (omega arith) (omega arith))
        ∙ by k (n + 1) (λ i past below. each i (omega arith) (omega (arith, below)))

pub not_covered : (board : RawBoard) (n : ℕ) (net : Net) → is_covered board net ≡ false → net_pairs board n net ≡ []
not_covered board n net e = ap (λ t. cond t (texts_from (pair_at board net) (n + 1) (length board.nets)) []) e

pub free_pairs_none : (board : RawBoard) (n : ℕ) (net : Net) → slice_get board.nets n ≡ Some net
    → ((other : ℕ) → unpaired_with board n other ≡ false) → net_pairs board n net ≡ []
free_pairs_none board n net at free =
    ap (λ t. cond (is_covered board net) t [])
    (texts_empty (pair_at board net) (n + 1) (length board.nets)
    (λ i past below. by i (slice_get board.nets i) refl)) ∙ same (is_covered board net) []
  where
    by : (i : ℕ) (o : Option Net) → slice_get board.nets i ≡ o → of_item (pair_text board net) o ≡ []
    by i None e = refl
    by i (Some other) e = ap (λ t. cond t (pair_line net other) []) (sym (unpaired_is board n i net other at e) ∙ free i)

    same : (t : Bool) (none : List ℕ) → cond t none none ≡ none
    same true none = refl
    same false none = refl

pub bit_says : (board : RawBoard) (low high word : ℕ) (one two : Net)
    → AreWordBits (unpaired_with board low) (high / 64) word → slice_get board.nets low ≡ Some one
    → slice_get board.nets high ≡ Some two
    → (bit_at word (high % 64) == 1) ≡ is_unpaired board one two
bit_says board low high word one two are at at' =
    let here : 64 * (high / 64) + high % 64 ≡ high = omega arith in
    ap (λ b. b == 1) (are (high % 64) (omega arith))
    ∙ by_bit (unpaired_with board low (64 * (high / 64) + high % 64))
    ∙ ap (unpaired_with board low) here ∙ unpaired_is board low high one two at at'
  where
    by_bit : (t : Bool) → (cond t 1 0 == 1) ≡ t
    by_bit true = refl
    by_bit false = refl

pub empty_word : (board : RawBoard) (low from end word : ℕ) (one : Net)
    → AreWordBits (unpaired_with board low) (from / 64) word → word ≡ 0 → end ≤ 64 * (from / 64 + 1)
    → slice_get board.nets low ≡ Some one → texts_from (pair_at board one) from end ≡ []
empty_word board low from end word one are none most at =
    texts_empty (pair_at board one) from end
    (λ n past below. by_net n past below (slice_get board.nets n) refl)
  where
    unset : (n : ℕ) → (bit_at word (n % 64) == 1) ≡ false
    unset n = ap (λ w. bit_at w (n % 64) == 1) none ∙ ap (λ b. b == 1) (bit_at-zero (n % 64))

    by_net : (n : ℕ) → from ≤ n → n < end → (o : Option Net) → slice_get board.nets n ≡ o → of_item (pair_text board one) o ≡ []
    by_net n past below None e = refl
    by_net n past below (Some other) e =
        let same : from / 64 ≡ n / 64 = omega (arith, past, below, most) in
        let P : ℕ → Type 0 = λ k. AreWordBits (unpaired_with board low) k word in
        ap (λ t. cond t (pair_line one other) []) (sym (bit_says board low n word one other (subst P same are) at e) ∙ unset n)

pub reason_is : (board : RawBoard) (n : ℕ) (net : Net) (reason : Option Reason)
    → slice_get board.nets n ≡ Some net → reason ≡ reason_of board net
    → reason_line net.name reason ≡ reason_at board n
reason_is board n net reason at e = ap (reason_line net.name) e ∙ sym (ap (of_item (net_reason board)) at)

pub place_is : (board : RawBoard) (pin_use : PinUse) (net : Net) (place : ℕ) (pin : NetPin)
    → slice_get net.pins place ≡ Some pin → is_untested board pin_use net place ≡ true
    → pin_line pin_use (Some pin) ≡ pin_text_at board pin_use net place
place_is board pin_use net place pin at e =
    ap (pin_line pin_use) (sym at)
    ∙ sym (ap (λ t. cond t (pin_line pin_use (slice_get net.pins place)) []) e)

pub pins_is : (board : RawBoard) (pin_use : PinUse) (n : ℕ) (net : Net)
    → slice_get board.nets n ≡ Some net → is_covered board net ≡ true
    → texts_from (pin_text_at board pin_use net) 0 (length net.pins)
    ≡ untested_lines_at board pin_use n
pins_is board pin_use n net at e =
    sym
    (ap (of_item (untested_pin_lines board pin_use)) at
    ∙ ap (λ t. cond t (texts_from (pin_text_at board pin_use net) 0 (length net.pins)) []) e)

pub pair_is : (board : RawBoard) (low high other : Net) (n : ℕ) → slice_get board.nets n ≡ Some high
    → is_unpaired board low high ≡ true → other ≡ low → pair_line other high ≡ pair_at board low n
pair_is board low high other n at e same =
    ap (λ (x : Net). pair_line x high) same ∙ sym (ap (of_item (pair_text board low)) at ∙ ap (λ t. cond t (pair_line low high) []) e)

pub pairs_is : (board : RawBoard) (n : ℕ) (net : Net) → slice_get board.nets n ≡ Some net
    → is_covered board net ≡ true
    → texts_from (pair_at board net) (n + 1) (length board.nets) ≡ untested_pair_lines board n
pairs_is board n net at e =
    sym (ap (of_item (net_pairs board n)) at ∙ ap (λ t. cond t (texts_from (pair_at board net) (n + 1) (length board.nets)) []) e)

pub few_pins : (board : RawBoard) (n : ℕ) (net : Net) → IsBoard board → slice_get board.nets n ≡ Some net → length net.pins ≤ most_pins
few_pins board n net rules at =
    let size : Net → ℕ = λ net. length net.pins in
    let most : size (get_or board.nets n net)
    ≤ sum_by size board.nets = get_or-le-sum_by size board.nets n net
    (slice_get_within board.nets n net at) in
    let here : size (get_or board.nets n net) ≡ size net = ap size (get_or_from_slice_get board.nets n net net at) in
    omega (arith, rules.pins_most, most, here)
