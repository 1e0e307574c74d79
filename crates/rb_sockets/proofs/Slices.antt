-- A walk through a table that is read in slices.
use Rattle.std.proofs.Common.{◌≡◌, ℕ, Bool, List, [], ◌∷◌, ◌++◌, length, Option, refl, sym, ap, subst, ◌∙◌, arith, append_assoc, append-nil}
use Rattle.std.proofs.lemmas.Bool.{ne_eqb}
use Rattle.rb_evidence.specs.declared.sight.Sight.{Sight}
use Rattle.rb_evidence.specs.Walks.{after_line_of_all, after_lines_of_all, IsWalk, IsReadBehind, HasWalked}
use Rattle.rb_evidence.specs.Walks.IsWalk.{reads, ends}
use Rattle.rb_sockets.specs.Tables.{LooksAt, HasReadOnce, GoesOn, HasEnded}

pub none_came : (text : List ℕ) (places : List (Option Sight)) → GoesOn text text places places
none_came text places = record { slice = []; lines = []; seen = refl; walk = λ rest more w. w; left = λ w. w }

all_behind : (lines more : List (List ℕ)) (places : List (Option Sight)) → after_lines_of_all (lines ++ more) places ≡ after_lines_of_all more (after_lines_of_all lines places)
all_behind [] more places = refl
all_behind (first ∷ lines) more places = all_behind lines more (after_line_of_all first places)

-- more came, of which each whole line was looked at
pub more_came : (old middle read new : List ℕ) (before between after : List (Option Sight)) (count : ℕ)
    → GoesOn old middle before between → IsReadBehind middle read count → HasWalked read new between after → GoesOn old new before after
more_came old middle read new before between after count gone came walked = record {
  slice = gone.slice ++ came.slice;
  lines = gone.lines ++ walked.passed.lines;
  seen = walked.passed.seen ∙ ap (after_lines_of_all walked.passed.lines) gone.seen ∙ sym (all_behind gone.lines walked.passed.lines before);
  walk = λ rest more w.
      subst (λ (s : List ℕ). IsWalk old s ((gone.lines ++ walked.passed.lines) ++ more)) (sym (append_assoc gone.slice came.slice rest))
      (subst (λ (ls : List (List ℕ)). IsWalk old (gone.slice ++ (came.slice ++ rest)) ls) (sym (append_assoc gone.lines walked.passed.lines more))
      (gone.walk (came.slice ++ rest) (walked.passed.lines ++ more)
      (reads came.slice middle rest (walked.passed.lines ++ more)
      (subst (λ (t : List ℕ). IsWalk t rest (walked.passed.lines ++ more)) came.behind (walked.passed.walk rest more w)))));
  left = λ without. walked.left;
}

no_bytes : (slice text read : List ℕ) → length slice ≡ 0 → read ≡ text ++ slice → read ≡ text
no_bytes [] text read none behind = behind ∙ append-nil text
no_bytes (byte ∷ slice) text read none behind = absurd (omega (arith, none))

-- none came: what is left is the last line
pub last_came : (old middle read : List ℕ) (before between after : List (Option Sight))
    → GoesOn old middle before between → IsReadBehind middle read 0 → after ≡ after_line_of_all read between → HasEnded old before after
last_came old middle read before between after gone came is = record {
  slice = gone.slice ++ [];
  lines = gone.lines ++ middle ∷ [];
  seen = is ∙ ap (λ (line : List ℕ). after_line_of_all line between) (no_bytes came.slice middle read came.count_is came.behind)
      ∙ ap (after_line_of_all middle) gone.seen ∙ sym (all_behind gone.lines (middle ∷ []) before);
  walk = λ without. gone.walk [] (middle ∷ []) (ends middle (gone.left without));
}

pub goes_on : (old middle new : List ℕ) (before between after : List (Option Sight)) (count : ℕ)
    → GoesOn old middle before between → HasReadOnce count middle new between after → (count ≡ 0 → ⊥) → GoesOn old new before after
goes_on old middle new before between after count gone once more =
    more_came old middle once.read new before between after count gone once.came
    (subst (λ (is_end : Bool). LooksAt is_end once.read new between after) (ne_eqb count 0 more) once.looks)

pub ended : (old middle new : List ℕ) (before between after : List (Option Sight)) (count : ℕ)
    → GoesOn old middle before between → HasReadOnce count middle new between after → count ≡ 0 → HasEnded old before after
ended old middle new before between after count gone once none =
    let zero = subst (λ (n : ℕ). HasReadOnce n middle new between after) none once in
    last_came old middle zero.read before between after gone zero.came zero.looks
