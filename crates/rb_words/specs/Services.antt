-- Names of programs, as rpc(5) writes them.
use Rattle.std.specs.Prelude.{◌≡◌, ℕ, ◌==◌, ◌++◌, nat_lt, Bool, not, if◌then◌else◌, List, [], ◌∷◌, length, map, Option, Some, None, option_map}
use Rattle.std.specs.List.{slice_split, before_first, filter, find, flat_map}
use Rattle.std.specs.Char.{is_ascii_whitespace}
use Rattle.std.specs.Borrow.{Bor}
use Rattle.std.specs.Global.{Vec}
use Rattle.std.specs.Vec.{vec_items}
use Rattle.std.specs.Str.{bytes_eq}
use Rattle.rb_words.specs.declared.services.Service.{Service}
use Rattle.rb_words.specs.Numbers.{number_in}

-- ---- what is read

-- a name with its number
abbrev pub NamedNumber : Type 0
NamedNumber = List ℕ × ℕ

abbrev pub named_numbers : List Service → List NamedNumber
named_numbers services = map (λ service. (service.name.items, service.number)) services

-- these names stand after those that were there
abbrev pub AddsNames : Vec Service → Vec Service → List NamedNumber → Type 0
AddsNames old new names = named_numbers (vec_items new) ≡ named_numbers (vec_items old) ++ names

-- the texts after their borrows
abbrev pub borrowed_texts : List (Bor (List ℕ)) → List (List ℕ)
borrowed_texts texts = map (λ text. text.now) texts

abbrev pub is_newline : ℕ → Bool
is_newline b = b == 10

abbrev pub is_hash : ℕ → Bool
is_hash b = b == 35

abbrev pub is_some_word : List ℕ → Bool
is_some_word word = not (length word == 0)

-- what stands between white space
abbrev pub words_of : List ℕ → List (List ℕ)
words_of line = filter is_some_word (slice_split is_ascii_whitespace line)

abbrev pub pairs_with : List (List ℕ) → ℕ → List NamedNumber
pairs_with names number = map (λ name. (name, number)) names

abbrev pub each_with_number : List (List ℕ) → Option ℕ → List NamedNumber
each_with_number names (Some number) = pairs_with names number
each_with_number names None = []

-- a name, its number, and further names of the same program
abbrev pub services_of : List (List ℕ) → List NamedNumber
services_of (name ∷ number ∷ aliases) = each_with_number (name ∷ aliases) (number_in 0 4294967295 number)
services_of _ = []

-- the same of words that are lent
abbrev pub pairs_of_lent : List (Bor (List ℕ)) → ℕ → List NamedNumber
pairs_of_lent names number = pairs_with (borrowed_texts names) number

abbrev pub services_of_lent : List (Bor (List ℕ)) → List NamedNumber
services_of_lent words = services_of (borrowed_texts words)

-- NAMES-2: A line of names of more than 1,024 bytes, and a text of more than 65,536, has no names.
abbrev pub longest_line : ℕ
longest_line = 1024

-- NAMES-1: A line of the file of names has a name, a number and further names, with white space
-- between them; what is after `#` says nothing, and a line whose second word is no number has no
-- names.
abbrev pub services_in_line : List ℕ → List NamedNumber
services_in_line line =
    if nat_lt longest_line (length line) then [] else services_of (words_of (before_first is_hash line))

-- a longer text has none
-- NAMES-2
abbrev pub longest_services : ℕ
longest_services = 65536

-- the names of all lines, in their order
abbrev pub services_in : List ℕ → List NamedNumber
services_in text =
    if nat_lt longest_services (length text) then [] else flat_map services_in_line (slice_split is_newline text)

-- ---- what is looked up: the first one is it

-- NAMES-3: Of several lines with a name or a number the first counts; a program's name is the first
-- of its line.
abbrev pub number_of : List Service → List ℕ → Option ℕ
number_of services name = option_map (λ service. service.number) (find (λ service. bytes_eq service.name.items name) services)

-- NAMES-3
abbrev pub name_of : List Service → ℕ → Option (List ℕ)
name_of services number = option_map (λ service. service.name.items) (find (λ service. service.number == number) services)
