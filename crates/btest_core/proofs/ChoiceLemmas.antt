-- Lemmas about a loop that finds the device of each choice. A choice has the number of a text, and
-- a package if the DEVICE line gives one. An answer is the list of the devices or the first fault.
use Rattle.std.proofs.Common.{inl, inr, ◌⊎◌, ◌≡◌, ℕ, ◌+◌, ◌<◌, ◌≤◌, List, [], ◌∷◌, ◌++◌, map, drop, length, zip, slice_index_or, slice_get, option_map, unwrap_or, zero, suc, Some, None, Ok, Err, ap, sym, refl, ◌∙◌, subst, append_assoc, arith, Option, option_copied}
use Rattle.std.specs.List.{AllByRecursion, filter_map}
use Rattle.std.proofs.lemmas.Slice.Zip.{length-zip}
use Rattle.board_files.specs.declared.chain_file.ChainLine.{ChainLine}
use Rattle.board_files.specs.declared.chain_file.ChainStatement.{ChainStatement}
use Rattle.board_files.specs.declared.chain_file.ChainStatement.TheVariants.{Device as DeviceLine, Bypass, Inert, Supply, Pull, Link}
use Rattle.board_lines.specs.Names.{named}
use Rattle.board_lines.specs.declared.names.Naming.TheVariants.{Entity as EntityName}
use Rattle.std.proofs.Math.Seq.{drop-cons}
use Rattle.std.proofs.lemmas.List.{drop_all, length-map}
use Rattle.std.proofs.lemmas.Option.{slice_get-get_or, slice_get-map, none-some}
use Rattle.board_defs.specs.declared.device.RawDevice.{RawDevice}
use Rattle.bsdl_parser.specs.declared.entity.Entity.{Entity}
use Rattle.btest_core.specs.DevicesRead.{Chosen, IsDeviceOf, package_in, chosen_texts}
use Rattle.btest_core.specs.Answers.{EachOf}
use Rattle.btest_core.specs.declared.fault.InputFault.{InputFault}
use Rattle.btest_core.specs.inner.Choices.{Lent, choices_of, AreOfChoices}
use Rattle.btest_core.proofs.EachLemmas.{Completes, completes_all, completes_more, completes_fault, completes_end}

-- `front` has the devices of the first choices. Take any answer for the choices from `n` on. If it
-- is a list of devices, `front` followed by this list is the answer for all choices. If it is a
-- fault, this fault is the answer for all choices.
pub record Chooses (entities : List Entity) (choices : List Chosen) (n : ℕ) (front : List RawDevice) : Type 0 where
  pub completes : Completes (IsDeviceOf entities) choices (drop n choices) front
  pub devices : AreOfChoices entities choices front

pub chooses_none : (entities : List Entity) (choices : List Chosen) → Chooses entities choices 0 []
chooses_none entities choices = record {
  completes = completes_all (IsDeviceOf entities) choices;
  devices = λ i choice device chosen_texts there. absurd (none-some device there);
}

-- one step of the loop: the device of the next choice is appended
of_more : (entities : List Entity) (choices : List Chosen) (front : List RawDevice)
    (device : RawDevice) → AreOfChoices entities choices front
    → ((choice : Chosen) → slice_get choices (length front) ≡ Some choice
    → IsDeviceOf entities choice (Ok device)) → AreOfChoices entities choices (front ++ device ∷ [])
of_more entities [] front device are is i choice found chosen_texts there = absurd (none-some choice chosen_texts)
of_more entities (first ∷ choices) [] device are is zero choice found chosen_texts there =
    subst (λ d. IsDeviceOf entities choice (Ok d))
    (ap (λ (o : Option RawDevice). unwrap_or o device) there) (is choice chosen_texts)
of_more entities (first ∷ choices) [] device are is (suc i) choice found chosen_texts there = absurd (none-some found there)
of_more entities (first ∷ choices) (d ∷ front) device are is zero choice found chosen_texts there = are 0 choice found chosen_texts there
of_more entities (first ∷ choices) (d ∷ front) device are is (suc i) choice found chosen_texts there
    =
    of_more entities choices front device (λ k. are (suc k)) is i choice found chosen_texts there

left_at : (choices : List Chosen) (n : ℕ) → n < length choices → drop n choices ≡ slice_index_or choices n (0, None) ∷ drop (n + 1) choices
left_at choices n within = let next : n + 1 ≡ suc n = omega arith in rw next (drop-cons choices n (0, None) within)

-- choice `n` is borrowed choice `n` without the borrow
pub choice_at : (chosen_texts : List Lent) (n : ℕ) (d : Lent) (choice : Chosen)
    → n < length chosen_texts → slice_get (choices_of chosen_texts) n ≡ Some choice
    → ((slice_index_or chosen_texts n d).0, option_copied (slice_index_or chosen_texts n d).1)
    ≡ choice
choice_at chosen_texts n d choice within there =
    let view : Lent → Chosen = λ lent. (lent.0, option_copied lent.1) in
    let got : slice_get (map view chosen_texts) n ≡ option_map view (slice_get chosen_texts n) = slice_get-map view chosen_texts n in
    let item : slice_get chosen_texts n ≡ Some (slice_index_or chosen_texts n d) = slice_get-get_or chosen_texts n d within in
    let both : Some (view (slice_index_or chosen_texts n d)) ≡ Some choice = sym (ap (option_map view) item) ∙ sym got ∙ there in
    ap (λ (o : Option Chosen). unwrap_or o choice) both

pub chooses_more : (entities : List Entity) (choices : List Chosen) (n : ℕ) (front : List RawDevice)
    (device : RawDevice) → n < length choices → length front ≡ n → Chooses entities choices n front
    → ((choice : Chosen) → slice_get choices n ≡ Some choice
    → IsDeviceOf entities choice (Ok device))
    → Chooses entities choices (n + 1) (front ++ device ∷ [])
chooses_more entities choices n front device within count so_far is = record {
  completes =
      completes_more (IsDeviceOf entities) choices (slice_index_or choices n (0, None))
      (drop (n + 1) choices) front device
      (subst (λ rest. Completes (IsDeviceOf entities) choices rest front) (left_at choices n within)
      so_far.completes) (is _ (slice_get-get_or choices n (0, None) within));
  devices =
      of_more entities choices front device so_far.devices
      (λ choice chosen_texts. is choice
      (subst (λ k. slice_get choices k ≡ Some choice) count chosen_texts));
}

pub chooses_fault : (entities : List Entity) (choices : List Chosen) (n : ℕ)
    (front : List RawDevice) (fault : InputFault) → n < length choices
    → Chooses entities choices n front
    → IsDeviceOf entities (slice_index_or choices n (0, None)) (Err fault)
    → EachOf (IsDeviceOf entities) choices (Err fault)
chooses_fault entities choices n front fault within so_far is =
    completes_fault (IsDeviceOf entities) choices (slice_index_or choices n (0, None))
    (drop (n + 1) choices) front fault
    (subst (λ rest. Completes (IsDeviceOf entities) choices rest front) (left_at choices n within)
    so_far.completes) is

pub chooses_all : (entities : List Entity) (choices : List Chosen) (n : ℕ) (front : List RawDevice)
    → length choices ≤ n → Chooses entities choices n front
    → EachOf (IsDeviceOf entities) choices (Ok front)
chooses_all entities choices n front past so_far =
    completes_end (IsDeviceOf entities) choices front
    (subst (λ rest. Completes (IsDeviceOf entities) choices rest front) (drop_all n choices past)
    so_far.completes)

pub no_pairs : {A B : Type 0} (xs : List A) (ys : List B) → (length xs ≡ 0) ⊎ (length ys ≡ 0) → ◌≡◌ {A = List (A × B)} (zip xs ys) []
no_pairs [] ys ended = refl
no_pairs (x ∷ xs) [] ended = refl
no_pairs (x ∷ xs) (y ∷ ys) (inl none) = absurd (omega (arith, none))
no_pairs (x ∷ xs) (y ∷ ys) (inr none) = absurd (omega (arith, none))

pub zip_seconds : {A B C : Type 0} (f : B → C) (xs : List A) (ys : List B)
    → map (λ pair. (pair.0, f pair.1)) (zip xs ys) ≡ zip xs (map f ys)
zip_seconds f [] ys = refl
zip_seconds f (x ∷ xs) [] = refl
zip_seconds f (x ∷ xs) (y ∷ ys) = ap (λ pairs. (x, f y) ∷ pairs) (zip_seconds f xs ys)

pub zip_firsts : {B : Type 0} (n : ℕ) (xs : List ℕ) (ys : List B) → AllByRecursion (λ x. x < n) xs
    → AllByRecursion (λ pair. pair.0 < n) (zip xs ys)
zip_firsts n [] ys all = tt
zip_firsts n (x ∷ xs) [] all = tt
zip_firsts n (x ∷ xs) (y ∷ ys) all = (all.0, zip_firsts n xs ys all.1)

-- one step of the induction over the lines: a DEVICE line adds one item to both lists, and any
-- other line adds none
count_more : (n : ℕ) (statement : ChainStatement) (lines : List ChainLine)
    → length (filter_map (λ line. package_in line.statement) lines)
    ≡ length (named EntityName lines)
    → length
    (filter_map (λ line. package_in line.statement)
    (record { line = n; statement = statement } ∷ lines))
    ≡ length (named EntityName (record { line = n; statement = statement } ∷ lines))
count_more n (DeviceLine part entity given) lines same = omega (arith, same)
count_more n (Bypass part bits) lines same = same
count_more n (Inert part) lines same = same
count_more n (Supply net) lines same = same
count_more n (Pull net value) lines same = same
count_more n (Link part first second) lines same = same

count_packages : (lines : List ChainLine) → length (filter_map (λ line. package_in line.statement) lines) ≡ length (named EntityName lines)
count_packages [] = refl
count_packages (line ∷ lines) = count_more line.line line.statement lines (count_packages lines)

pub count_chosen : (lines : List ChainLine) (numbers : List ℕ)
    → length numbers ≡ length (named EntityName lines)
    → length (chosen_texts lines numbers) ≡ length (named EntityName lines)
count_chosen lines numbers count =
    let pairs = length-zip numbers (filter_map (λ line. package_in line.statement) lines) in
    omega (arith, pairs, count_packages lines, count)

pub count_choices : (chosen_texts : List Lent) → length chosen_texts ≡ length (choices_of chosen_texts)
count_choices chosen_texts = sym (length-map chosen_texts (λ (choice : Lent). (choice.0, option_copied choice.1)))
