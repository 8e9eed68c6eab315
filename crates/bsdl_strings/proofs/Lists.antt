-- Lemmas about the lists in a string. A list is read entry by entry, with the mark after each entry. The entry in which
-- reading stops is the first wrong entry.
use Rattle.std.proofs.Common.{◌≡◌, ℕ, ◌<◌, ◌^◌, length, arith, subst, sym, ◌∙◌, ap, Bool, true, List, [], ◌∷◌, ◌++◌, Option, Some, None}
use Rattle.std.specs.Borrow.{Bor}
use Rattle.grammars.specs.inner.Reader.{found}
use Rattle.grammars.specs.Grammar.{reader_of_grammar}
use Rattle.grammars.specs.Lists.{list_of}
use Rattle.grammars.proofs.ListReaders.{CanRead, Progress, each_takes, stops_at_entry, stops_after_entry, wrong_at_entry, wrong_after_entry, ends_with, value_of_list, goes_further, shorter}
use Rattle.bsdl_strings.specs.declared.stop.Stop.{Stop}
use Rattle.bsdl_strings.specs.declared.stop.Stop.TheVariants.{Memory, At}
use Rattle.bsdl_strings.specs.Pieces.{pieces}
use Rattle.bsdl_strings.specs.inner.Reading.{StopsOn, more_of}
use Rattle.bsdl_strings.specs.inner.Takes.{can_all, map_takes, opcode_takes, entry_takes}
use Rattle.bsdl_strings.specs.Faults.{stop_fault, NamesEntry}
use Rattle.bsdl_strings.proofs.PieceLemmas.{length_pieces}
use Rattle.bsdl_strings.specs.Places.{Part, comma_or_end}
use Rattle.bsdl_strings.specs.Strings.{map_entry, opcode, entry, IsListOf, IsNoListOf}

pub can_maps : CanRead map_entry comma_or_end
can_maps = can_all map_takes

pub can_opcodes : CanRead opcode comma_or_end
can_opcodes = can_all opcode_takes

pub can_entries : CanRead entry comma_or_end
can_entries = can_all entry_takes

pub stops_in_entry : {A : Type 0} {entry : Part A} {more : Part Bool} → CanRead entry more
    → (tokens here : List (List ℕ)) (before : List A) (stop : Stop)
    → Progress entry more tokens here before → StopsOn stop (reader_of_grammar entry here)
    → StopsOn stop (reader_of_grammar (list_of entry more) tokens)
stops_in_entry can tokens here before (Memory error) so_far e = tt
stops_in_entry can tokens here before (At rest) so_far e = stops_at_entry can tokens here (pieces rest.now) before so_far e

pub stops_in_mark : {A : Type 0} {entry : Part A} {more : Part Bool} → CanRead entry more
    → (tokens here mid : List (List ℕ)) (before : List A) (one : A) (stop : Stop)
    → Progress entry more tokens here before → reader_of_grammar entry here ≡ found one mid
    → StopsOn stop (reader_of_grammar more mid)
    → StopsOn stop (reader_of_grammar (list_of entry more) tokens)
stops_in_mark can tokens here mid before one (Memory error) so_far e f = tt
stops_in_mark can tokens here mid before one (At rest) so_far e f =
    stops_after_entry can tokens here mid (pieces rest.now) before one so_far e f

pub few_entries : {A : Type 0} {entry : Part A} (text rest : List ℕ) (before : List A)
    → Progress entry comma_or_end (pieces text) (pieces rest) before → length text < 2 ^ 32
    → length before < 2 ^ 31
few_entries text rest before so_far short = omega (arith, so_far.fewer, (length_pieces text).1, (length_pieces rest).0)

pub wrong_in_entry : {A : Type 0} {entry : Part A} → CanRead entry comma_or_end
    → (text : List ℕ) (here : List (List ℕ)) (before : List A) (stop : Stop)
    → Progress entry comma_or_end (pieces text) here before
    → StopsOn stop (reader_of_grammar entry here)
    → NamesEntry (IsNoListOf entry text) (stop_fault stop (length before))
wrong_in_entry can text here before (Memory error) so_far e = tt
wrong_in_entry can text here before (At rest) so_far e = wrong_at_entry can (pieces text) here (pieces rest.now) before so_far e

pub wrong_in_mark : {A : Type 0} {entry : Part A} → CanRead entry comma_or_end
    → (text : List ℕ) (here mid : List (List ℕ)) (before : List A) (one : A) (stop : Stop)
    → Progress entry comma_or_end (pieces text) here before
    → reader_of_grammar entry here ≡ found one mid
    → StopsOn stop (reader_of_grammar comma_or_end mid)
    → NamesEntry (IsNoListOf entry text) (stop_fault stop (length before))
wrong_in_mark can text here mid before one (Memory error) so_far e f = tt
wrong_in_mark can text here mid before one (At rest) so_far e f =
    wrong_after_entry can (pieces text) here mid (pieces rest.now) before one so_far e f

pub is_list : {A : Type 0} {entry : Part A} → CanRead entry comma_or_end
    → (text : List ℕ) (here mid : List (List ℕ)) (before all : List A) (one : A)
    (more : Option (Bor (List ℕ)))
    → Progress entry comma_or_end (pieces text) here before
    → reader_of_grammar entry here ≡ found one mid
    → reader_of_grammar comma_or_end mid ≡ more_of more → more ≡ None → all ≡ before ++ one ∷ []
    → IsListOf entry text all
is_list {A} {entry} can text here mid before all one more so_far e f ends pushed =
    subst (λ values. IsListOf entry text values) (sym pushed)
    (value_of_list (list_of entry comma_or_end) (each_takes can) (pieces text)
    (before ++ one ∷ [])
    (ends_with can (pieces text) here mid [] before one so_far e (f ∙ ap more_of ends)))

pub another_entry : {A : Type 0} {entry : Part A} → CanRead entry comma_or_end
    → (text : List ℕ) (here mid : List (List ℕ)) (before all : List A) (one : A)
    (more : Option (Bor (List ℕ))) (next : Bor (List ℕ))
    → Progress entry comma_or_end (pieces text) here before
    → reader_of_grammar entry here ≡ found one mid
    → reader_of_grammar comma_or_end mid ≡ more_of more → more ≡ Some next
    → all ≡ before ++ one ∷ [] → Progress entry comma_or_end (pieces text) (pieces next.now) all
another_entry {A} {entry} can text here mid before all one more next so_far e f goes pushed =
    subst (λ values. Progress entry comma_or_end (pieces text) (pieces next.now) values)
    (sym pushed)
    (goes_further can (pieces text) here mid (pieces next.now) before one so_far e
    (f ∙ ap more_of goes))

pub fewer_pieces : {A : Type 0} {entry : Part A} → CanRead entry comma_or_end
    → (here mid : List (List ℕ)) (before : List A) (one : A) (more : Option (Bor (List ℕ)))
    (next : Bor (List ℕ))
    → reader_of_grammar entry here ≡ found one mid
    → reader_of_grammar comma_or_end mid ≡ more_of more → more ≡ Some next
    → length (pieces next.now) < length here
fewer_pieces can here mid before one more next e f goes = shorter can here mid (pieces next.now) before one true e (f ∙ ap more_of goes)
