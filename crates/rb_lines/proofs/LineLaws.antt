-- What a text says, by what each of its lines says.
use Rattle.std.specs.List.{flat_map}
use Rattle.std.proofs.Common.{◌≡◌, ◌↔◌, ℕ, ◌+◌, ◌<◌, ◌≤◌, Bool, true, false, ◌||◌, List, [], ◌∷◌, ◌++◌, length, map, Result, Ok, Err, refl, sym, ap, subst, ◌∙◌, inl, inr, add-zero, arith}
use Rattle.std.proofs.lemmas.Bool.{cases_lt, lt-ltb, le-ltb}
use Rattle.rb_model.specs.Step.{Event}
use Rattle.rb_lines.specs.declared.lines.ReadFault.{ReadFault}
use Rattle.rb_lines.specs.declared.lines.ReadFault.TheVariants.{BadLine, TooLong}
use Rattle.rb_lines.specs.Lines.{Line, line, lines_of, longest_input, read, add_line, events_from}
use Rattle.rb_lines.specs.Lines.Line.{Skipped, Happens, Bad}
use Rattle.rb_lines.specs.LineLaws.{is_bad, event_in, has_bad, IsFirstBad}

-- ---- if no line is bad

good_line : (k : ℕ) (said : Line) (later : Bool) (rest : Result (List Event) ReadFault) (events : List Event) → (is_bad said || later) ≡ false → (later ≡ false → rest ≡ Ok events) → add_line k said rest ≡ Ok (event_in said ++ events)
good_line k Skipped later rest events none is = is none
good_line k (Happens event) later rest events none is = ap (add_line k (Happens event)) (is none)
good_line k Bad later rest events none is = cc

all_good : (k : ℕ) (texts : List (List ℕ)) → has_bad texts ≡ false → events_from k texts ≡ Ok (flat_map event_in (map line texts))
unfolding events_from
all_good k [] none = refl
all_good k (text ∷ texts) none = good_line k (line text) (has_bad texts) (events_from (k + 1) texts) (flat_map event_in (map line texts)) none (all_good (k + 1) texts)

-- ---- if one is

passes_on : (k : ℕ) (said : Line) (fault : ReadFault) → is_bad said ≡ false → add_line k said (Err fault) ≡ Err fault
passes_on k Skipped fault good = refl
passes_on k (Happens event) fault good = refl
passes_on k Bad fault good = cc

neither : (a b : Bool) → (a || b) ≡ false → (a ≡ false) × (b ≡ false)
neither false b h = (refl, h)
neither true b h = cc

stops : (k : ℕ) (before : List (List ℕ)) (bad : List ℕ) (after : List (List ℕ)) → has_bad before ≡ false → line bad ≡ Bad → events_from k (before ++ bad ∷ after) ≡ Err (BadLine (k + length before))
unfolding events_from
stops k [] bad after good here = rw here (ap (λ (n : ℕ). Err (BadLine n)) (sym (add-zero k)))
stops k (text ∷ before) bad after good here =
    let parts = neither (is_bad (line text)) (has_bad before) good in
    let later : k + 1 + length before ≡ k + length (text ∷ before) = omega arith in
    ap (add_line k (line text)) (stops (k + 1) before bad after parts.1 here) ∙ passes_on k (line text) (BadLine (k + 1 + length before)) parts.0 ∙ ap (λ (n : ℕ). Err (BadLine n)) later

stops_there : (texts : List (List ℕ)) (k n : ℕ) → IsFirstBad texts k n → events_from k texts ≡ Err (BadLine n)
stops_there texts k n h = rw (h.whole, h.number) (stops k h.before h.bad h.after h.good h.here)

further : (k : ℕ) (text : List ℕ) (texts : List (List ℕ)) → is_bad (line text) ≡ false → (n : ℕ) × IsFirstBad texts (k + 1) n → (n : ℕ) × IsFirstBad (text ∷ texts) k n
further k text texts good found =
    let h = found.1 in (
      found.0,
      record {
        before = text ∷ h.before;
        bad = h.bad;
        after = h.after;
        whole = ap (λ (more : List (List ℕ)). text ∷ more) h.whole;
        good = rw good h.good;
        here = h.here;
        number = omega (arith, h.number);
      },
    )

bad_from : (k : ℕ) (text : List ℕ) (texts : List (List ℕ)) (said : Line) → line text ≡ said → (is_bad said || has_bad texts) ≡ true → (has_bad texts ≡ true → (n : ℕ) × IsFirstBad texts (k + 1) n) → (n : ℕ) × IsFirstBad (text ∷ texts) k n
bad_from k text texts Skipped is one later = further k text texts (ap is_bad is) (later one)
bad_from k text texts (Happens event) is one later = further k text texts (ap is_bad is) (later one)
bad_from k text texts Bad is one later = (k, record { before = []; bad = text; after = texts; whole = refl; good = refl; here = is; number = sym (add-zero k) })

first_bad : (k : ℕ) (texts : List (List ℕ)) → has_bad texts ≡ true → (n : ℕ) × IsFirstBad texts k n
first_bad k [] one = cc
first_bad k (text ∷ texts) one = bad_from k text texts (line text) refl one (first_bad (k + 1) texts)

-- ---- both ways, for the lines of a text

known : (b : Bool) → (b ≡ true → ⊥) → b ≡ false
known true h = absurd (h refl)
known false h = refl

is_bad_somewhere : (b : Bool) → (b ≡ false → ⊥) → b ≡ true
is_bad_somewhere true h = refl
is_bad_somewhere false h = absurd (h refl)

short_reads : (text : List ℕ) → length text ≤ longest_input → read text ≡ events_from 1 (lines_of text)
unfolding read
short_reads text short = rw (le-ltb longest_input (length text) short) refl

long_reads : (text : List ℕ) → longest_input < length text → read text ≡ Err TooLong
unfolding read
long_reads text long = rw (lt-ltb longest_input (length text) long) refl

ok_is_not_err : (given : Result (List Event) ReadFault) (events : List Event) (fault : ReadFault) → given ≡ Ok events → given ≡ Err fault → ⊥
ok_is_not_err given events fault h k = cc

ok_is : (given : Result (List Event) ReadFault) (xs ys : List Event) → given ≡ Ok xs → given ≡ Ok ys → xs ≡ ys
ok_is given xs ys h k = cc

bad_line_is : (given : Result (List Event) ReadFault) (m n : ℕ) → given ≡ Err (BadLine m) → given ≡ Err (BadLine n) → m ≡ n
bad_line_is given m n h k = cc

bad_is_not_long : (given : Result (List Event) ReadFault) (n : ℕ) → given ≡ Err (BadLine n) → given ≡ Err TooLong → ⊥
bad_is_not_long given n h k = cc

events_are : (texts : List (List ℕ)) (events : List Event) → events_from 1 texts ≡ Ok events → (has_bad texts ≡ false) × (events ≡ flat_map event_in (map line texts))
events_are texts events h =
    let none : has_bad texts ≡ false = known (has_bad texts) (λ one. let found = first_bad 1 texts one in ok_is_not_err _ events (BadLine found.0) h (stops_there texts 1 found.0 found.1)) in
    (none, ok_is _ events _ h (all_good 1 texts none))

bad_is : (texts : List (List ℕ)) (n : ℕ) → events_from 1 texts ≡ Err (BadLine n) → IsFirstBad texts 1 n
bad_is texts n h =
    let one : has_bad texts ≡ true = is_bad_somewhere (has_bad texts) (λ none. ok_is_not_err _ _ (BadLine n) (all_good 1 texts none) h) in
    let found = first_bad 1 texts one in
    let same : found.0 ≡ n = bad_line_is _ found.0 n (stops_there texts 1 found.0 found.1) h in
    subst (IsFirstBad texts 1) same found.1

never_long : (texts : List (List ℕ)) (b : Bool) → has_bad texts ≡ b → events_from 1 texts ≡ Err TooLong → ⊥
never_long texts true one h = let found = first_bad 1 texts one in bad_is_not_long _ found.0 (stops_there texts 1 found.0 found.1) h
never_long texts false none h = ok_is_not_err _ _ TooLong (all_good 1 texts none) h

pub reads_the_events : (text : List ℕ) (events : List Event) → (read text ≡ Ok events) ↔ ((length text ≤ longest_input) × (has_bad (lines_of text) ≡ false) × (events ≡ flat_map event_in (map line (lines_of text))))
reads_the_events text events = (
  λ h. elim (cases_lt longest_input (length text)) [
    | inl long ↦ absurd (ok_is_not_err _ events TooLong h (long_reads text long))
    | inr short ↦ let are = events_are (lines_of text) events (sym (short_reads text short) ∙ h) in (short, are.0, are.1)
  ],
  λ (short, none, are). short_reads text short ∙ all_good 1 (lines_of text) none ∙ ap Ok (sym are),
)

pub stops_at_the_first : (text : List ℕ) (n : ℕ) → (read text ≡ Err (BadLine n)) ↔ ((length text ≤ longest_input) × IsFirstBad (lines_of text) 1 n)
stops_at_the_first text n = (
  λ h. elim (cases_lt longest_input (length text)) [
    | inl long ↦ absurd (bad_is_not_long _ n h (long_reads text long))
    | inr short ↦ (short, bad_is (lines_of text) n (sym (short_reads text short) ∙ h))
  ],
  λ (short, first). short_reads text short ∙ stops_there (lines_of text) 1 n first,
)

pub refuses_long : (text : List ℕ) → (read text ≡ Err TooLong) ↔ (longest_input < length text)
refuses_long text = (
  λ h. elim (cases_lt longest_input (length text)) [
    | inl long ↦ long
    | inr short ↦ absurd (never_long (lines_of text) (has_bad (lines_of text)) refl (sym (short_reads text short) ∙ h))
  ],
  long_reads text,
)
