-- Event lines, one after another.
use Rattle.std.specs.List.{enumerate_from}
use Rattle.std.specs.Borrow.{Bor}
use Rattle.std.proofs.Common.{zero-add, ◌≡◌, ◌<◌, ◌≤◌, ◌+◌, ℕ, List, [], ◌∷◌, ◌++◌, length, get_or, drop, take, arith, inl, inr, Result, Ok, Err, refl, sym, ap, subst, ◌∙◌, append-nil}
use Rattle.std.proofs.lemmas.List.{drop_more, drop_all, length-take, take_all, length_push}
use Rattle.std.proofs.lemmas.List.FromFn.{length-enumerate_from, get_or-enumerate_from}
use Rattle.std.proofs.lemmas.Bool.{cases_lt, lt-ltb}
use Rattle.rb_model.specs.Step.{Event}
use Rattle.rb_lines.specs.declared.lines.ReadFault.{ReadFault}
use Rattle.rb_lines.specs.declared.lines.ReadFault.TheVariants.{BadLine, TooLong, NoMemory}
use Rattle.rb_lines.specs.Lines.{read, Line, line, add_line, events_from, with_front, Fails, IsLineFault, longest_input}
use Rattle.rb_lines.specs.Lines.Line.{Bad}

-- the lines from a place on are the line there and the lines after it
taken : (k i : ℕ) (texts : List (List ℕ)) (text : List ℕ) → i < length texts → text ≡ get_or texts i text → events_from k (drop i texts) ≡ add_line k (line text) (events_from (k + 1) (drop (i + 1) texts))
unfolding events_from
taken k i texts text lt is =
    let here : drop i texts ≡ text ∷ drop (i + 1) texts = drop_more texts i text lt ∙ ap (λ (t : List ℕ). t ∷ drop (i + 1) texts) (sym is) in
    ap (events_from k) here

pub goes_on : (front more : List Event) (i : ℕ) (texts : List (List ℕ)) (text : List ℕ) (all : Result (List Event) ReadFault) → i < length texts → text ≡ get_or texts i text → ((rest : Result (List Event) ReadFault) → with_front more rest ≡ with_front front (add_line (i + 1) (line text) rest)) → with_front front (events_from (i + 1) (drop i texts)) ≡ all → with_front more (events_from (i + 1 + 1) (drop (i + 1) texts)) ≡ all
goes_on front more i texts text all lt is adds h =
    adds (events_from (i + 1 + 1) (drop (i + 1) texts)) ∙ ap (with_front front) (sym (taken (i + 1) i texts text lt is)) ∙ h

pub is_bad : (front : List Event) (i : ℕ) (texts : List (List ℕ)) (text : List ℕ) (all : Result (List Event) ReadFault) → i < length texts → text ≡ get_or texts i text → line text ≡ Bad → with_front front (events_from (i + 1) (drop i texts)) ≡ all → all ≡ Err (BadLine (i + 1))
is_bad front i texts text all lt is said h =
    let rest = events_from (i + 1 + 1) (drop (i + 1) texts) in
    sym h ∙ ap (with_front front) (taken (i + 1) i texts text lt is ∙ ap (λ (l : Line). add_line (i + 1) l rest) said)

pub ends : (front : List Event) (i : ℕ) (texts : List (List ℕ)) (all : Result (List Event) ReadFault) → length texts ≤ i → with_front front (events_from (i + 1) (drop i texts)) ≡ all → all ≡ Ok front
unfolding events_from
ends front i texts all le h = sym h ∙ ap (λ (ts : List (List ℕ)). with_front front (events_from (i + 1) ts)) (drop_all i texts le) ∙ ap Ok (append-nil front)

-- the faults that a bad line may give, and nothing else
pub gives_fault : (front : List Event) (i : ℕ) (texts : List (List ℕ)) (text : List ℕ) (fault : ReadFault) (all : Result (List Event) ReadFault) → i < length texts → text ≡ get_or texts i text → IsLineFault (i + 1) (line text) fault → with_front front (events_from (i + 1) (drop i texts)) ≡ all → Fails fault all
gives_fault front i texts text NoMemory all lt is h kept = tt
gives_fault front i texts text TooLong all lt is h kept = absurd h
gives_fault front i texts text (BadLine k) all lt is h kept = is_bad front i texts text all lt is h.0 kept ∙ ap (λ (k : ℕ). Err (BadLine k)) (sym h.1)

-- what shows that a text is too long is enough of it
pub read-take : (input : List ℕ) → read (take (longest_input + 1) input) ≡ read input
unfolding read
read-take input =
    elim (cases_lt longest_input (length input)) [
      | inl long ↦
          let front : longest_input < length (take (longest_input + 1) input) = omega (arith, length-take (longest_input + 1) input) in
          rw (lt-ltb longest_input (length (take (longest_input + 1) input)) front, lt-ltb longest_input (length input) long) refl
      | inr short ↦ ap read (take_all (longest_input + 1) input (omega arith))
    ]

-- the item of this turn is the line at this place, with its place
pub record IsAt (lines : List (List ℕ)) (n i : ℕ) (text : List ℕ) : Type 0 where
  pub before : n < length lines
  pub place : i ≡ n
  pub line : text ≡ get_or lines n text

pub IsAt-from_enumerate : (lines : List (List ℕ)) (n i : ℕ) (text : List ℕ) → (n < length (enumerate_from 0 lines)) × ((i, text) ≡ get_or (enumerate_from 0 lines) n (i, text)) → IsAt lines n i text
IsAt-from_enumerate lines n i text h =
    let lt : n < length lines = omega (arith, h.0, length-enumerate_from 0 lines) in
    let is : (i, text) ≡ (0 + n, get_or lines n text) = h.1 ∙ get_or-enumerate_from 0 lines n (i, text) lt in
    let place : i ≡ 0 + n = ap (λ (p : ℕ × List ℕ). p.0) is in
    record {
      before = lt;
      place = place ∙ zero-add n;
      line = ap (λ (p : ℕ × List ℕ). p.1) is;
    }

pub turn : (front more : List Event) (xs : List (ℕ × Bor (List ℕ))) (lines : List (List ℕ)) (i : ℕ) (text : Bor (List ℕ)) (all : Result (List Event) ReadFault) → IsAt lines (length xs) i text.now → ((rest : Result (List Event) ReadFault) → with_front more rest ≡ with_front front (add_line (i + 1) (line text.now) rest)) → with_front front (events_from (length xs + 1) (drop (length xs) lines)) ≡ all → with_front more (events_from (length (xs ++ (i, text) ∷ []) + 1) (drop (length (xs ++ (i, text) ∷ [])) lines)) ≡ all
turn front more xs lines i text all at adds h =
    let n : length (xs ++ (i, text) ∷ []) ≡ length xs + 1 = length_push xs (i, text) in
    let adds' = rw at.place at adds in
    rw n (goes_on front more (length xs) lines text.now all at.before at.line adds' h)

pub fault_at : (front : List Event) (n i : ℕ) (lines : List (List ℕ)) (text : List ℕ) (fault : ReadFault) (all : Result (List Event) ReadFault) → IsAt lines n i text → IsLineFault (i + 1) (line text) fault → with_front front (events_from (n + 1) (drop n lines)) ≡ all → Fails fault all
fault_at front n i lines text fault all at h kept =
    gives_fault front n lines text fault all at.before at.line (subst (λ (k : ℕ). IsLineFault (k + 1) (line text) fault) at.place h) kept
