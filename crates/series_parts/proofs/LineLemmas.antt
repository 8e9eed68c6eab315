-- A joined chain file has no LINK line, and has the DEVICE and BYPASS lines of the chain file.
-- Files without LINK lines are their own joined files.
use Rattle.std.proofs.Common.{◌≡◌, ℕ, false, cond, ◌||◌, List, [], ◌∷◌, map, Option, Some, None, refl, sym, ap, ◌∙◌}
use Rattle.std.specs.Prelude.{find, Ok, unwrap_or}
use Rattle.std.specs.List.{AllByRecursion, cons_option}
use Rattle.std.proofs.lemmas.Bool.{or_parts}
use Rattle.board_defs.proofs.Members.{find_has}
use Rattle.board_files.specs.declared.chain_file.ChainLine.{ChainLine}
use Rattle.board_files.specs.declared.chain_file.ChainStatement.{ChainStatement}
use Rattle.board_files.specs.declared.chain_file.ChainStatement.TheVariants.{Device, Bypass, Inert, Supply, Pull, Link}
use Rattle.board_files.specs.declared.net_file.NetLine.{NetLine}
use Rattle.board_files.specs.ChainLines.{HasBypassLength}
use Rattle.board_files.specs.Names.{line_names}
use Rattle.series_parts.specs.Nets.{Word}
use Rattle.series_parts.specs.LinkPins.{missing_on, missing_link_pin, ◌then◌}
use Rattle.series_parts.specs.Joining.{link_on, links, leads, joined_name, joined_statement, joined_line, joined_net, renaming, joined_chain, joined_nets, joined_files, unless_missing}
use Rattle.series_parts.specs.Lines.{is_link, has_link, is_chain_part, chain_part_lines}
use Rattle.series_parts.proofs.LeadLemmas.{same_is}

no_link : (f : Word → Word) (s : ChainStatement) → is_link (joined_statement f s) ≡ false
no_link f (Link part first second) = refl
no_link f (Device part entity pack) = refl
no_link f (Bypass part bits) = refl
no_link f (Inert part) = refl
no_link f (Supply net) = refl
no_link f (Pull net value) = refl

pub no_links : (f : Word → Word) (chain : List ChainLine) → has_link (map (joined_line f) chain) ≡ false
no_links f [] = refl
no_links f (line ∷ chain) = ap (λ b. b || has_link (map (joined_line f) chain)) (no_link f line.statement) ∙ no_links f chain

parts_on : (f : Word → Word) (n : ℕ) (s : ChainStatement) (old new : List ChainLine) → new ≡ old →
    cond (is_chain_part (joined_statement f s))
    (record { line = n; statement = joined_statement f s } ∷ new) new
    ≡ cond (is_chain_part s) (record { line = n; statement = s } ∷ old) old
parts_on f n (Link part first second) old new e = e
parts_on f n (Device part entity pack) old new e = ap (λ lines. record { line = n; statement = Device part entity pack } ∷ lines) e
parts_on f n (Bypass part bits) old new e = ap (λ lines. record { line = n; statement = Bypass part bits } ∷ lines) e
parts_on f n (Inert part) old new e = e
parts_on f n (Supply net) old new e = e
parts_on f n (Pull net value) old new e = e

pub same_parts : (f : Word → Word) (chain : List ChainLine) → chain_part_lines (map (joined_line f) chain) ≡ chain_part_lines chain
same_parts f [] = refl
same_parts f (line ∷ chain) =
    parts_on f line.line line.statement (chain_part_lines chain)
    (chain_part_lines (map (joined_line f) chain)) (same_parts f chain)

length_on : (f : Word → Word) (s : ChainStatement) → HasBypassLength s → HasBypassLength (joined_statement f s)
length_on f (Link part first second) h = tt
length_on f (Device part entity pack) h = h
length_on f (Bypass part bits) h = h
length_on f (Inert part) h = h
length_on f (Supply net) h = h
length_on f (Pull net value) h = h

pub same_lengths : (f : Word → Word) (chain : List ChainLine)
    → AllByRecursion (λ line. HasBypassLength line.statement) chain
    → AllByRecursion (λ line. HasBypassLength line.statement) (map (joined_line f) chain)
same_lengths f [] h = tt
same_lengths f (line ∷ chain) h = (length_on f line.statement h.0, same_lengths f chain h.1)

pub map_after : {A B : Type 0} (f : A → A) (g : A → B) → ((x : A) → g (f x) ≡ g x) → (xs : List A) → map g (map f xs) ≡ map g xs
map_after f g same [] = refl
map_after f g same (x ∷ xs) = ap (λ y. y ∷ map g (map f xs)) (same x) ∙ ap (λ ys. g x ∷ ys) (map_after f g same xs)

stays_by : (name : Word) (names : List Word) (o : Option Word) → find (leads [] name) names ≡ o → unwrap_or o name ≡ name
stays_by name names None e = refl
stays_by name names (Some w) e = sym (same_is name w (find_has (leads [] name) names w e).1)

name_stays : (names : List Word) (name : Word) → joined_name [] names name ≡ name
unfolding joined_name
name_stays names name = stays_by name names (find (leads [] name) names) refl

link_none : (nets : List NetLine) (s : ChainStatement) → is_link s ≡ false → link_on nets s ≡ None
link_none nets (Link part first second) h = cc h
link_none nets (Device part entity pack) h = refl
link_none nets (Bypass part bits) h = refl
link_none nets (Inert part) h = refl
link_none nets (Supply net) h = refl
link_none nets (Pull net value) h = refl

missing_none : (nets : List NetLine) (n : ℕ) (s : ChainStatement) → is_link s ≡ false → missing_on nets n s ≡ None
missing_none nets n (Link part first second) h = cc h
missing_none nets n (Device part entity pack) h = refl
missing_none nets n (Bypass part bits) h = refl
missing_none nets n (Inert part) h = refl
missing_none nets n (Supply net) h = refl
missing_none nets n (Pull net value) h = refl

no_pairs : (nets : List NetLine) (chain : List ChainLine) → has_link chain ≡ false → links nets chain ≡ []
no_pairs nets [] h = refl
no_pairs nets (line ∷ chain) h =
    let p = or_parts (is_link line.statement) (has_link chain) h in
    ap (λ o. cons_option o (links nets chain)) (link_none nets line.statement p.0) ∙ no_pairs nets chain p.1

none_missing : (nets : List NetLine) (chain : List ChainLine) → has_link chain ≡ false → missing_link_pin nets chain ≡ None
none_missing nets [] h = refl
none_missing nets (line ∷ chain) h =
    let p = or_parts (is_link line.statement) (has_link chain) h in
    ap (λ o. o then missing_link_pin nets chain) (missing_none nets line.line line.statement p.0) ∙ none_missing nets chain p.1

statement_stays : (f : Word → Word) (s : ChainStatement) → ((w : Word) → f w ≡ w) → is_link s ≡ false → joined_statement f s ≡ s
statement_stays f (Link part first second) h e = cc e
statement_stays f (Device part entity pack) h e = refl
statement_stays f (Bypass part bits) h e = refl
statement_stays f (Inert part) h e = refl
statement_stays f (Supply net) h e = ap Supply (h net)
statement_stays f (Pull net value) h e = ap (λ w. Pull w value) (h net)

chain_stays : (f : Word → Word) (chain : List ChainLine) → ((w : Word) → f w ≡ w)
    → has_link chain ≡ false → map (joined_line f) chain ≡ chain
chain_stays f [] h e = refl
chain_stays f (line ∷ chain) h e =
    let p = or_parts (is_link line.statement) (has_link chain) e in
    ap (λ s. record { line = line.line; statement = s } ∷ map (joined_line f) chain)
    (statement_stays f line.statement h p.0)
    ∙ ap (λ lines. line ∷ lines) (chain_stays f chain h p.1)

nets_stay : (f : Word → Word) (nets : List NetLine) → ((w : Word) → f w ≡ w) → map (joined_net f) nets ≡ nets
nets_stay f [] h = refl
nets_stay f (line ∷ nets) h =
    ap (λ w. record { line = line.line; name = w; pins = line.pins } ∷ map (joined_net f) nets)
    (h line.name) ∙ ap (λ lines. line ∷ lines) (nets_stay f nets h)

pub files_stay : (chain : List ChainLine) (nets : List NetLine) → has_link chain ≡ false
    → joined_files chain nets ≡ Ok (record { chain = chain; nets = nets })
files_stay chain nets none =
    let same : (w : Word)
    → renaming chain nets w
    ≡ w = λ w. ap (λ ps. joined_name ps (line_names nets) w) (no_pairs nets chain none)
    ∙ name_stays (line_names nets) w in
    let new_chain = chain_stays (renaming chain nets) chain same none in
    let new_nets = nets_stay (renaming chain nets) nets same in
    ap (λ o. unless_missing o (record { chain = joined_chain chain nets; nets = joined_nets chain nets })) (none_missing nets chain none)
    ∙ ap Ok (λ i. record { chain = new_chain i; nets = new_nets i })
