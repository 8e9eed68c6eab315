-- Samples of words with the commands that they form and the numbers that they denote, worked out by hand.
use Rattle.std.proofs.Common.{◌≡◌, ℕ, List, [], ◌∷◌, map, replicate, Option, Some, None, codes, refl}
use Rattle.command_line.specs.declared.command.Command.TheVariants.{Chain, Walk, Ident, Make, Diagnose, Groups, Batch}
use Rattle.command_line.specs.Words.{Text, BoardNames, LogNames, Command, board_called, log_called, command_of, number_of}

leading_zeros : number_of 255 (codes "00000000000000000007") ≡ Some 7
leading_zeros = refl

greatest : number_of 255 (codes "255") ≡ Some 255
greatest = refl

too_great : number_of 255 (codes "256") ≡ None
too_great = refl

greatest_workers : number_of 64 (codes "64") ≡ Some 64
greatest_workers = refl

too_many_workers : number_of 64 (codes "65") ≡ None
too_many_workers = refl

zero : number_of 255 (codes "000") ≡ None
zero = refl

-- a number of twenty digits that is above the limit is refused
twenty_nines : number_of 255 (codes "99999999999999999999") ≡ None
twenty_nines = refl

too_long : number_of 255 (codes "000000000000000000007") ≡ None
too_long = refl

no_digit : number_of 255 [] ≡ None
no_digit = refl

sign : number_of 255 (codes "+7") ≡ None
sign = refl

letter : number_of 255 (codes "7a") ≡ None
letter = refl

made : command_of (codes "make" ∷ codes "002" ∷ []) ≡ Some (Make 2)
unfolding board_called
made = refl

made_most : map command_of ((codes "make" ∷ codes "255" ∷ []) ∷ (codes "make" ∷ codes "256" ∷ []) ∷ []) ≡ Some (Make 255) ∷ None ∷ []
unfolding board_called
made_most = refl

made_twice : command_of (codes "make" ∷ codes "2" ∷ codes "3" ∷ []) ≡ None
unfolding board_called
made_twice = refl

-- the names of a file of response logs and of the files of its board
abbrev logged_names : LogNames
logged_names = record { log = codes "g"; board = record { chain = codes "c"; nets = codes "n"; bsdl = codes "drv" ∷ [] } }

-- the words that are these names
abbrev logged : List Text
logged = codes "g" ∷ codes "c" ∷ codes "n" ∷ codes "drv" ∷ []

-- the command `diagnose` with this word as its number of workers
abbrev diagnosed_by : Text → Option Command
diagnosed_by workers = command_of (codes "diagnose" ∷ workers ∷ logged)

diagnosed : diagnosed_by (codes "2")
    ≡ Some
    (Diagnose 2 logged_names)
unfolding board_called log_called
diagnosed = refl

no_workers : diagnosed_by (codes "0") ≡ None
unfolding board_called log_called
no_workers = refl

workers_past_the_limit : diagnosed_by (codes "65") ≡ None
unfolding board_called log_called
workers_past_the_limit = refl

identified : command_of (codes "ident" ∷ codes "c" ∷ codes "b" ∷ []) ≡ Some (Ident (record { chain = codes "c"; bsdl = codes "b" ∷ [] }))
identified = refl

walked : command_of (codes "walk" ∷ codes "c" ∷ codes "n" ∷ []) ≡ Some (Walk (record { chain = codes "c"; nets = codes "n"; bsdl = [] }))
unfolding board_called
walked = refl

grouped : command_of (codes "groups" ∷ logged)
    ≡ Some (Groups logged_names)
unfolding board_called log_called
grouped = refl

grouped_without_nets : command_of (codes "groups" ∷ codes "g" ∷ codes "c" ∷ []) ≡ None
unfolding board_called log_called
grouped_without_nets = refl

batched : command_of (codes "batch" ∷ codes "64" ∷ logged)
    ≡ Some (Batch 64 logged_names)
unfolding board_called log_called
batched = refl

batched_without_workers : command_of (codes "batch" ∷ logged) ≡ None
unfolding board_called log_called
batched_without_workers = refl

batched_with_zeros : command_of (codes "batch" ∷ codes "00000000000000000001" ∷ logged)
    ≡ Some (Batch 1 logged_names)
unfolding board_called log_called
batched_with_zeros = refl

batched_past_the_limit : command_of (codes "batch" ∷ codes "65" ∷ logged) ≡ None
unfolding board_called log_called
batched_past_the_limit = refl

walked_without_nets : command_of (codes "walk" ∷ codes "c" ∷ []) ≡ None
unfolding board_called
walked_without_nets = refl

-- words form no command if one of them is empty or begins with `-`
no_plain_words : map command_of
    ((codes "walk" ∷ codes "-c" ∷ codes "n" ∷ []) ∷ (codes "walk" ∷ codes "c" ∷ [] ∷ []) ∷ [])
    ≡ None ∷ None ∷ []
no_plain_words = refl

-- a `-` after the first character is allowed
dash_inside : command_of (codes "chain" ∷ codes "c-1" ∷ []) ≡ Some (Chain (record { chain = codes "c-1"; bsdl = [] }))
dash_inside = refl

-- a chain file, a net file and `count` BSDL names
abbrev described : ℕ → List Text
described count = codes "c" ∷ codes "n" ∷ replicate count (codes "b")

abbrev most_names : BoardNames
most_names = record { chain = codes "c"; nets = codes "n"; bsdl = replicate 255 (codes "b") }

abbrev most_logged : LogNames
most_logged = record { log = codes "g"; board = most_names }

-- the results of `command_of` for three commands with `count` BSDL names each
abbrev with_described : ℕ → List (Option Command)
with_described count =
    map command_of
    ((codes "walk" ∷ described count) ∷ (codes "groups" ∷ codes "g" ∷ described count)
    ∷ (codes "batch" ∷ codes "1" ∷ codes "g" ∷ described count) ∷ [])

most_described : with_described 255
    ≡ Some (Walk most_names) ∷ Some (Groups most_logged) ∷ Some (Batch 1 most_logged) ∷ []
unfolding board_called log_called
most_described = refl

too_many_described : with_described 256 ≡ None ∷ None ∷ None ∷ []
unfolding board_called log_called
too_many_described = refl
