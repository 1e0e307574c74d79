-- Options of Debian's rpcbind(8), and what is taken in their place.
use Rattle.std.specs.Prelude.{ℕ, ◌==◌, Bool, false, ◌&&◌, if◌then◌else◌, List, codes, bytes_eq, Option, Some, None}
use Rattle.rb_address.specs.Reading.{cut}

-- letters
abbrev pub letter_a : ℕ
letter_a = 97

abbrev pub letter_d : ℕ
letter_d = 100

abbrev pub letter_f : ℕ
letter_f = 102

abbrev pub letter_h : ℕ
letter_h = 104

abbrev pub letter_i : ℕ
letter_i = 105

abbrev pub letter_l : ℕ
letter_l = 108

abbrev pub letter_r : ℕ
letter_r = 114

abbrev pub letter_s : ℕ
letter_s = 115

abbrev pub letter_w : ℕ
letter_w = 119

-- options of `serve` for the option of a letter
-- DEBIAN-1: Of Debian's options `-h` is taken as `--bind`, `-w` as `--keep`, `-r` as `--forwards` and
-- `--forward-for all`, `-l` and `-d` as `--log all`, and `-f` as nothing; no other is taken.
abbrev pub taken_as : ℕ → Option (List ℕ)
taken_as letter =
    if letter == letter_h then Some (codes "--bind")
    else if letter == letter_w then Some (codes "--keep /run/rpcbind-proved/rows")
    else if letter == letter_r then Some (codes "--forwards 16 --forward-for all")
    else if letter == letter_l then Some (codes "--log all")
    else if letter == letter_d then Some (codes "--log all")
    else if letter == letter_f then Some (codes "")
    else None

-- DEBIAN-2: An option that is not taken is named, with what there is in its place: without `serve` in
-- an error of status 2, in `--options` in a line, after which the start goes on.
abbrev pub lack_text : ℕ → List ℕ
lack_text letter =
    if letter == letter_i then codes "other hosts never register here; --believe-claims comes nearest"
    else if letter == letter_s then codes "the user is that of User= in the unit, or of the program that starts it"
    else if letter == letter_a then codes "nothing aborts here"
    else codes "not known here"

-- ---- words of `serve` beside them

abbrev pub front_or : List ℕ → Option (List ℕ × List ℕ) → List ℕ
front_or word None = word
front_or word (Some parts) = parts.0

-- what stands before `=`, or all
abbrev pub name_in : List ℕ → List ℕ
name_in word = front_or word (cut 61 word)

-- DEBIAN-3: What is given beside options stays: `--keep` and `--keep=FILE` alike.
abbrev pub is_option : List ℕ → List ℕ → Bool
is_option name word = bytes_eq (name_in word) name

abbrev pub binds_by : List ℕ → Option (List ℕ × List ℕ) → Bool
binds_by host None = false
binds_by host (Some parts) = bytes_eq parts.0 (codes "--bind") && bytes_eq parts.1 host

-- DEBIAN-3
abbrev pub binds : List ℕ → List ℕ → Bool
binds host word = binds_by host (cut 61 word)
