-- Lemmas about a loop that collects names line by line, and about borrowed names.
use Rattle.std.proofs.Common.{◌≡◌, ℕ, ◌+◌, ◌<◌, Bool, cond, List, [], ◌∷◌, ◌++◌, length, map, drop, get_or, Option, Some, None, refl, sym, ap, ◌∙◌, append_assoc, Bor}
use Rattle.std.proofs.lemmas.List.{map-append, drop_more}
use Rattle.std.specs.List.{list_any}
use Rattle.lists.proofs.ListLemmas.{list_any-map}
use Rattle.first_places.specs.Places.{first_repeat, repeat_from}
use Rattle.board_files.specs.declared.chain_file.ChainLine.{ChainLine}
use Rattle.board_lines.specs.declared.names.Naming.{Naming}
use Rattle.board_files.specs.Names.{same_word}
use Rattle.board_lines.specs.Names.{Named, named, name_in_role, with_name}

pub repeat-map : {A B : Type 0} (f : A → B) (eq : B → B → Bool) (seen : List A) (n : ℕ)
    (xs : List A)
    → repeat_from (λ a b. eq (f a) (f b)) seen n xs ≡ repeat_from eq (map f seen) n (map f xs)
repeat-map f eq seen n [] = refl
repeat-map f eq seen n (x ∷ xs) =
    ap (λ b. cond b (Some n) (repeat_from (λ a b. eq (f a) (f b)) (seen ++ x ∷ []) (n + 1) xs))
    (sym (list_any-map f (λ s. eq s (f x)) seen))
    ∙ ap (cond (list_any (λ s. eq s (f x)) (map f seen)) (Some n))
    (repeat-map f eq (seen ++ x ∷ []) (n + 1) xs
    ∙ ap (λ s. repeat_from eq s (n + 1) (map f xs)) (map-append f seen (x ∷ [])))

-- one step of the loop: the names that are left begin with the name of line `i`, if the line has
-- one
pub named_step : (naming : Naming) (lines : List ChainLine) (i : ℕ) (line : ChainLine)
    (done all : List Named) → i < length lines → get_or lines i line ≡ line →
    all ≡ done ++ named naming (drop i lines)
    → all
    ≡ done
    ++ with_name line.line (name_in_role naming line.statement)
    (named naming (drop (i + 1) lines))
named_step naming lines i line done all within read same =
    let cut : drop i lines ≡ line ∷ drop (i + 1) lines = drop_more lines i line within ∙ ap (λ x. x ∷ drop (i + 1) lines) read in
    same ∙ ap (λ l. done ++ named naming l) cut

pub named_some : (line : ℕ) (name : List ℕ) (o : Option (List ℕ)) (done rest all : List Named)
    → o ≡ Some name → all ≡ done ++ with_name line o rest
    → all ≡ (done ++ (line, name) ∷ []) ++ rest
named_some line name o done rest all e same =
    same ∙ ap (λ o. done ++ with_name line o rest) e
    ∙ sym (append_assoc done ((line, name) ∷ []) rest)

pub named_none : (line : ℕ) (o : Option (List ℕ)) (done rest all : List Named) → o ≡ None
    → all ≡ done ++ with_name line o rest → all ≡ done ++ rest
named_none line o done rest all e same = same ∙ ap (λ o. done ++ with_name line o rest) e

pub first_repeat_lent : (names : List (Bor (List ℕ)))
    → first_repeat (λ a b. same_word a.now b.now) names
    ≡ first_repeat same_word (map (λ n. n.now) names)
first_repeat_lent names = repeat-map (λ n. n.now) same_word [] 0 names

pub map_lent : {A : Type 0} (f : Bor (List ℕ) → A) (g : List ℕ → A)
    → ((n : Bor (List ℕ)) → f n ≡ g n.now) → (names : List (Bor (List ℕ)))
    → map f names ≡ map g (map (λ n. n.now) names)
map_lent f g same [] = refl
map_lent f g same (n ∷ names) = ap (λ a. a ∷ map f names) (same n) ∙ ap (λ as_. g n.now ∷ as_) (map_lent f g same names)
