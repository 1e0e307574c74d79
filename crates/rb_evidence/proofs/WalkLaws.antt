-- What a walk through a table that comes in slices sees.
use Rattle.std.proofs.Common.{◌≡◌, ◌&&◌, ◌≤◌, ◌+◌, ◌-◌, ℕ, Bool, true, false, cond, List, [], ◌∷◌, ◌++◌, length, filter, take, drop, Option, None, refl, sym, ap, subst, ◌∙◌, arith, append_assoc, append-nil}
use Rattle.std.proofs.lemmas.List.{length-take-le, length-take, length-append, length-drop, take-append-le, drop-append-le, drop-take}
use Rattle.std.proofs.Math.Seq.{take-append-add, take-append_seam}
use Rattle.std.specs.List.{copy_within, list_all}
use Rattle.std.specs.Option.{option_map}
use Rattle.rb_evidence.specs.declared.table.OwnedSocket.{OwnedSocket}
use Rattle.rb_evidence.specs.declared.sight.Seen.{Seen}
use Rattle.rb_evidence.specs.declared.sight.Seen.TheVariants.{Nothing, One, Several}
use Rattle.rb_evidence.specs.declared.sight.Sight.{Sight}
use Rattle.rb_evidence.specs.Table.{lines_of, is_between, is_same_socket, the_socket, socket_in, socket_between, uid_between, IsCutAt}
use Rattle.rb_evidence.specs.Walks.{seen_more, after_lines, after_line_of_all, after_lines_of_all, uid_seen, WalksSeeTheWhole, IsWalk, CutLinesAreOne, IsReadBehind, HasPassed}
use Rattle.rb_evidence.specs.Walks.IsWalk.{takes, reads, ends}
use borrow.Rule.Slice.PartMut.{post_of}
use Rattle.rb_evidence.proofs.Cuts.{cut_pieces, one_piece}

-- ---- the lines

cut_more : (line back waiting rest : List ℕ) → IsCutAt 10 line back waiting → IsCutAt 10 line (back ++ rest) (waiting ++ rest)
cut_more line back waiting rest cut = record {
  without = cut.without;
  text_is = ap (λ (t : List ℕ). t ++ rest) cut.text_is ∙ append_assoc line (10 ∷ back) rest;
}

walked : (waiting rest : List ℕ) (lines : List (List ℕ)) → IsWalk waiting rest lines → lines ≡ lines_of (waiting ++ rest)
walked waiting rest _ (takes line back _ lines _ cut more) =
    ap (λ (ls : List (List ℕ)). line ∷ ls) (walked back rest lines more)
    ∙ sym (cut_pieces 10 line (back ++ rest) (waiting ++ rest) (cut_more line back waiting rest cut))
walked waiting _ lines (reads slice _ rest _ more) =
    walked (waiting ++ slice) rest lines more ∙ ap lines_of (append_assoc waiting slice rest)
walked waiting _ _ (ends _ without) =
    sym (ap lines_of (append-nil waiting) ∙ one_piece 10 waiting without)

pub cut_lines_are_one : CutLinesAreOne
cut_lines_are_one table lines walk = walked [] table lines walk

-- ---- what is seen

-- by the lines that are between the two, of which this socket was shown
abbrev seen_behind : Option OwnedSocket → List (List ℕ) → Seen
seen_behind shown found = cond (list_all (λ (l : List ℕ). is_same_socket shown (socket_in l)) found) (One shown) Several

abbrev seen_of : List (List ℕ) → Seen
seen_of [] = Nothing
seen_of (line ∷ more) = seen_behind (socket_in line) more

several_by : (b : Bool) (socket : Option OwnedSocket) (theirs ours : List ℕ) (lines : List (List ℕ)) → after_lines theirs ours Several lines ≡ Several
    → after_lines theirs ours (cond b (seen_more Several socket) Several) lines ≡ Several
several_by true socket theirs ours lines is = is
several_by false socket theirs ours lines is = is

several : (theirs ours : List ℕ) (lines : List (List ℕ)) → after_lines theirs ours Several lines ≡ Several
several theirs ours [] = refl
several theirs ours (line ∷ lines) = several_by (is_between theirs ours line) (socket_in line) theirs ours lines (several theirs ours lines)

-- whether the line is between the two, and whether it shows the same socket
one_by : (b same : Bool) (shown : Option OwnedSocket) (theirs ours : List ℕ) (lines found : List (List ℕ)) (others : Bool)
    → after_lines theirs ours (One shown) lines ≡ cond others (One shown) Several
    → after_lines theirs ours (cond b (cond same (One shown) Several) (One shown)) lines ≡ cond (cond b (same && others) others) (One shown) Several
one_by true true shown theirs ours lines found others is = is
one_by true false shown theirs ours lines found others is = several theirs ours lines
one_by false same shown theirs ours lines found others is = is

all_by : (p : List ℕ → Bool) (b : Bool) (line : List ℕ) (found : List (List ℕ)) → list_all p (cond b (line ∷ found) found) ≡ cond b (p line && list_all p found) (list_all p found)
all_by p true line found = refl
all_by p false line found = refl

one : (theirs ours : List ℕ) (shown : Option OwnedSocket) (lines : List (List ℕ)) → after_lines theirs ours (One shown) lines ≡ seen_behind shown (filter (is_between theirs ours) lines)
one theirs ours shown [] = refl
one theirs ours shown (line ∷ lines) =
    let p : List ℕ → Bool = λ l. is_same_socket shown (socket_in l) in
    let found = filter (is_between theirs ours) lines in
    one_by (is_between theirs ours line) (p line) shown theirs ours lines found (list_all p found) (one theirs ours shown lines)
    ∙ ap (λ (b : Bool). cond b (One shown) Several) (sym (all_by p (is_between theirs ours line) line found))

nothing_by : (b : Bool) (theirs ours line : List ℕ) (lines found : List (List ℕ))
    → after_lines theirs ours (One (socket_in line)) lines ≡ seen_of (line ∷ found)
    → after_lines theirs ours Nothing lines ≡ seen_of found
    → after_lines theirs ours (cond b (seen_more Nothing (socket_in line)) Nothing) lines ≡ seen_of (cond b (line ∷ found) found)
nothing_by true theirs ours line lines found some none = some
nothing_by false theirs ours line lines found some none = none

nothing : (theirs ours : List ℕ) (lines : List (List ℕ)) → after_lines theirs ours Nothing lines ≡ seen_of (filter (is_between theirs ours) lines)
nothing theirs ours [] = refl
nothing theirs ours (line ∷ lines) =
    nothing_by (is_between theirs ours line) theirs ours line lines _ (one theirs ours (socket_in line) lines) (nothing theirs ours lines)

uid_by : (b : Bool) (shown : Option OwnedSocket) → uid_seen (cond b (One shown) Several) ≡ option_map (λ (s : OwnedSocket). s.uid) (cond b shown None)
uid_by true shown = refl
uid_by false shown = refl

uid_of_seen : (lines : List (List ℕ)) → uid_seen (seen_of lines) ≡ option_map (λ (s : OwnedSocket). s.uid) (the_socket lines)
uid_of_seen [] = refl
uid_of_seen (line ∷ more) = uid_by (list_all (λ (l : List ℕ). is_same_socket (socket_in line) (socket_in l)) more) (socket_in line)

pub walks_see_the_whole : WalksSeeTheWhole
unfolding uid_between socket_between
walks_see_the_whole table theirs ours =
    ap uid_seen (nothing theirs ours (lines_of table)) ∙ uid_of_seen (filter (is_between theirs ours) (lines_of table))

-- ---- the code

moved : (items : List ℕ) (s n : ℕ) → take n (drop s items) ≡ drop s (take (s + n) items)
moved items s n = sym (drop-take s n items)

pub copied : (items : List ℕ) (s e : ℕ) → s ≤ e → e ≤ length items → take (e - s) (copy_within items s e 0) ≡ drop s (take e items)
copied items s e before within =
    let whole : length (drop s items) ≡ length items - s = length-drop s items in
    let len : length (take (e - s) (drop s items)) ≡ e - s = length-take-le (e - s) (drop s items) (omega (arith, whole, within)) in
    let front : take (e - s) (copy_within items s e 0) ≡ take (e - s) (drop s items) =
    ap (λ (n : ℕ). take n (copy_within items s e 0)) (sym len) ∙ take-append_seam (take (e - s) (drop s items)) (drop (0 + (e - s)) items) in
    front ∙ moved items s (e - s) ∙ ap (λ (n : ℕ). drop s (take n items)) (omega (arith, before))

pub came_behind : (old items buffer rest : List ℕ) (s e n : ℕ) → drop s (take e items) ≡ old → s ≤ e → e ≤ length items → n ≤ length buffer
    → drop s (take (e + n) (take e items ++ (buffer ++ rest))) ≡ old ++ take n buffer
came_behind old items buffer rest s e n is before within few =
    let front : length (take e items) ≡ e = length-take-le e items within in
    ap (λ (m : ℕ). drop s (take (m + n) (take e items ++ (buffer ++ rest)))) (sym front)
    ∙ ap (drop s) (take-append-add (take e items) (buffer ++ rest) n)
    ∙ ap (λ (t : List ℕ). drop s (take e items ++ t)) (take-append-le n buffer rest few)
    ∙ drop-append-le s (take e items) (take n buffer) (omega (arith, front, before))
    ∙ ap (λ (t : List ℕ). t ++ take n buffer) is

pub read_behind : (old items buffer rest : List ℕ) (s e n : ℕ) → drop s (take e items) ≡ old → s ≤ e → e ≤ length items → n ≤ length buffer
    → IsReadBehind old (drop s (take (e + n) (take e items ++ (buffer ++ rest)))) n
read_behind old items buffer rest s e n is before within few = record {
  slice = take n buffer;
  count_is = length-take-le n buffer few;
  behind = came_behind old items buffer rest s e n is before within few;
}

-- the room keeps its length if the part of it behind a place is written
pub whole_stays : (end k : ℕ) (held new : List ℕ) → end ≤ length held → length new ≡ length (take k (drop end held)) → length (take end held ++ (new ++ post_of end k held)) ≡ length held
whole_stays end k held new fits as_many =
    let all = length-append (take end held) (new ++ post_of end k held) in
    let behind = length-append new (post_of end k held) in
    let rest = length-drop k (drop end held) in
    let part = length-take k (drop end held) in
    omega (arith, all, behind, rest, part, length-take-le end held fits, length-drop end held, fits, as_many)

all_more : (lines : List (List ℕ)) (line : List ℕ) (places : List (Option Sight)) → after_lines_of_all (lines ++ line ∷ []) places ≡ after_line_of_all line (after_lines_of_all lines places)
all_more [] line places = refl
all_more (first ∷ lines) line places = all_more lines line (after_line_of_all first places)

pub none_passed : (text : List ℕ) (places : List (Option Sight)) → HasPassed text text places places
none_passed text places = record { lines = []; seen = refl; walk = λ rest more w. w }

pub one_passed : (old middle new line : List ℕ) (before between after : List (Option Sight))
    → HasPassed old middle before between → IsCutAt 10 line new middle → after ≡ after_line_of_all line between → HasPassed old new before after
one_passed old middle new line before between after passed cut is = record {
  lines = passed.lines ++ line ∷ [];
  seen = is ∙ ap (after_line_of_all line) passed.seen ∙ sym (all_more passed.lines line before);
  walk = λ rest more w. subst (λ (ls : List (List ℕ)). IsWalk old rest ls) (sym (append_assoc passed.lines (line ∷ []) more))
      (passed.walk rest (line ∷ more) (takes line new rest more middle cut w));
}
