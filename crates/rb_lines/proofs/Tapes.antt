-- Entries on a tape, one after the other.
use Rattle.std.specs.List.{concat}
use Rattle.std.proofs.Common.{◌≡◌, ◌+◌, ◌<◌, ◌≤◌, ℕ, Bool, true, false, List, [], ◌∷◌, ◌++◌, length, take, drop, arith, refl, sym, ap, subst, ◌∙◌, inl, inr, append_assoc, append-nil, length-append, length-drop, nat_le, codes}
use Rattle.std.proofs.lemmas.List.{take-append-le, take_all, drop-append-le}
use Rattle.std.proofs.Math.Seq.{take-append-add, drop-append-add}
use Rattle.std.proofs.lemmas.List.Folds.{concat-append}
use mathlib.Core.Bool.{true≢false}
use Rattle.rb_lines.specs.Tapes.{Tape, last_line, entry_fits, IsFull, EndsWithin, Records, HasFirst, IsRecordOf, empty_tape}

-- some entries after others
behind : (front : List ℕ) (xs ys : List (List ℕ)) → (front ++ concat xs) ++ concat ys ≡ front ++ concat (xs ++ ys)
behind front xs ys =
    append_assoc front (concat xs) (concat ys) ∙ ap (λ (t : List ℕ). front ++ t) (sym (concat-append xs ys))

first_behind : (front : List ℕ) (xs ys : List (List ℕ)) (k : ℕ) → (front ++ concat xs) ++ concat (take k ys) ≡ front ++ concat (take (length xs + k) (xs ++ ys))
first_behind front xs ys k =
    behind front xs (take k ys) ∙ ap (λ (zs : List (List ℕ)). front ++ concat zs) (sym (take-append-add xs ys k))

ended_behind : (front : List ℕ) (xs ys : List (List ℕ)) (k : ℕ) → (front ++ concat xs) ++ (concat (take k ys) ++ last_line) ≡ front ++ (concat (take (length xs + k) (xs ++ ys)) ++ last_line)
ended_behind front xs ys k =
    sym (append_assoc (front ++ concat xs) (concat (take k ys)) last_line)
    ∙ ap (λ (t : List ℕ). t ++ last_line) (first_behind front xs ys k)
    ∙ append_assoc front (concat (take (length xs + k) (xs ++ ys))) last_line

-- ---- the entry that does not fit

-- it is one of them
pub some_are_left : (limit : ℕ) (text : List ℕ) (entries : List (List ℕ)) (count : ℕ) → IsFull limit text entries count → count < length entries
some_are_left limit text entries count full =
    let left : length (drop count entries) ≡ length (full.next ∷ full.left) = ap length full.is_next in
    omega (arith, left, length-drop count entries)

-- of entries after others
full_behind : (limit : ℕ) (front : List ℕ) (xs ys : List (List ℕ)) (k : ℕ) → IsFull limit (front ++ concat xs) ys k → IsFull limit front (xs ++ ys) (length xs + k)
full_behind limit front xs ys k full = record {
  next = full.next;
  left = full.left;
  is_next = drop-append-add xs ys k ∙ full.is_next;
  is_too_long = subst (λ (t : List ℕ). entry_fits limit t full.next ≡ false) (first_behind front xs ys k) full.is_too_long;
}

-- of entries with others after them
full_before : (limit : ℕ) (front : List ℕ) (xs ys : List (List ℕ)) (k : ℕ) → IsFull limit front xs k → IsFull limit front (xs ++ ys) k
full_before limit front xs ys k full =
    let within : k ≤ length xs = omega (arith, some_are_left limit front xs k full) in
    record {
      next = full.next;
      left = full.left ++ ys;
      is_next = drop-append-le k xs ys within ∙ ap (λ (zs : List (List ℕ)). zs ++ ys) full.is_next;
      is_too_long = subst (λ (zs : List (List ℕ)). entry_fits limit (front ++ concat zs) full.next ≡ false) (sym (take-append-le k xs ys within)) full.is_too_long;
    }

-- an entry alone that does not fit ends the record
pub ended_at_once : (entry : List ℕ) (old new : Tape) → old.is_on ≡ true → new.is_on ≡ false → entry_fits old.limit old.text entry ≡ false → new.text ≡ old.text ++ last_line → new.written ≡ old.written → new.limit ≡ old.limit → length new.text ≤ new.limit → Records (entry ∷ []) old new
ended_at_once entry old new on off too_long text written limit within = record {
  on = λ is. on;
  grows = λ is. absurd (true≢false (sym is ∙ off));
  ends = λ was now. record {
    count = 0;
    is_full = record {
      next = entry;
      left = [];
      is_next = refl;
      is_too_long = subst (λ (t : List ℕ). entry_fits old.limit t entry ≡ false) (sym (append-nil old.text)) too_long;
    };
    text = text;
  };
  stays = λ is. absurd (true≢false (sym on ∙ is));
  written = written;
  limit = limit;
  within = within;
}

-- an event and its output, which have this many bytes together
pub entry_too_long : (limit : ℕ) (text event output : List ℕ) (a b : ℕ) → a ≡ length event → b ≡ length output → nat_le (length text + (a + 3 + b) + length last_line) limit ≡ false → entry_fits limit text (event ++ (codes "#> " ++ output)) ≡ false
entry_too_long limit text event output a b first second too_long =
    let count : length (event ++ (codes "#> " ++ output)) ≡ a + 3 + b = omega (arith, first, second, length-append event (codes "#> " ++ output), length-append (codes "#> ") output) in
    rw count too_long

-- entries after others that were recorded
pub records_more : (first second : List (List ℕ)) (old mid new : Tape) → Records first old mid → Records second mid new → Records (first ++ second) old new
records_more first second old mid new one two = record {
  on = λ is. one.on (two.on is);
  grows = λ is. two.grows is ∙ ap (λ (t : List ℕ). t ++ concat second) (one.grows (two.on is)) ∙ behind old.text first second;
  ends = λ was off. by_mid was off mid.is_on refl;
  stays = λ off. let same = one.stays off in two.stays (ap (λ (t : Tape). t.is_on) same ∙ off) ∙ same;
  written = two.written ∙ one.written;
  limit = two.limit ∙ one.limit;
  within = two.within;
}
  where
    by_mid : old.is_on ≡ true → new.is_on ≡ false → (flag : Bool) → mid.is_on ≡ flag → EndsWithin old.limit (first ++ second) old.text new.text
    by_mid was off true is =
        let e = two.ends is off in
        record {
          count = length first + e.count;
          is_full = full_behind old.limit old.text first second e.count
              (subst (λ (l : ℕ). IsFull l (old.text ++ concat first) second e.count) one.limit
              (subst (λ (t : List ℕ). IsFull mid.limit t second e.count) (one.grows is) e.is_full));
          text = e.text ∙ ap (λ (t : List ℕ). t ++ (concat (take e.count second) ++ last_line)) (one.grows is) ∙ ended_behind old.text first second e.count;
        }
    by_mid was off false is =
        let e = one.ends was is in
        let few : e.count < length first = some_are_left old.limit old.text first e.count e.is_full in
        record {
          count = e.count;
          is_full = full_before old.limit old.text first second e.count e.is_full;
          text = ap (λ (t : Tape). t.text) (two.stays is) ∙ e.text ∙ ap (λ (zs : List (List ℕ)). old.text ++ (concat zs ++ last_line)) (sym (take-append-le e.count first second (omega (arith, few))));
        }

-- ---- records of a run

-- the first entries, and after them the last line only if the next one does not fit
abbrev HasFirstFull : ℕ → List (List ℕ) → List ℕ → Type 0
HasFirstFull limit entries text = (f : HasFirst entries text) × (f.last ≡ last_line → IsFull limit [] entries f.count)

no_line : [] ≡ last_line → ⊥
no_line is = let none : 0 ≡ length last_line = ap length is in omega (arith, none)

all_first : (limit : ℕ) (entries : List (List ℕ)) (text : List ℕ) → text ≡ concat entries → HasFirstFull limit entries text
all_first limit entries text is = (
  record {
    count = length entries;
    are_there = omega arith;
    last = [];
    last_is = inl refl;
    is = is ∙ ap concat (sym (take_all (length entries) entries (omega arith))) ∙ sym (append-nil (concat (take (length entries) entries)));
  },
  λ line. absurd (no_line line),
)

pub new_record : (limit : ℕ) → IsRecordOf [] (empty_tape limit)
new_record limit =
    let first = all_first limit [] [] refl in
    record { all = λ on. refl; first = first.0; ends = first.1; within = omega arith }

-- a record goes on by the entries that are recorded after it
pub record_goes_on : (entries more : List (List ℕ)) (old new : Tape) → IsRecordOf entries old → Records more old new → IsRecordOf (entries ++ more) new
record_goes_on entries more old new was records =
    let first = by_old old.is_on refl in
    record { all = all_of; first = first.0; ends = first.1; within = records.within }
  where
    all_of : new.is_on ≡ true → new.text ≡ concat (entries ++ more)
    all_of on = records.grows on ∙ ap (λ (t : List ℕ). t ++ concat more) (was.all (records.on on)) ∙ behind [] entries more

    by_new : old.is_on ≡ true → (flag : Bool) → new.is_on ≡ flag → HasFirstFull new.limit (entries ++ more) new.text
    by_new on true is = all_first new.limit (entries ++ more) new.text (all_of is)
    by_new on false is =
        let e = records.ends on is in
        let few : e.count < length more = some_are_left old.limit old.text more e.count e.is_full in (
          record {
            count = length entries + e.count;
            are_there = omega (arith, few, length-append entries more);
            last = last_line;
            last_is = inr refl;
            is = e.text ∙ ap (λ (t : List ℕ). t ++ (concat (take e.count more) ++ last_line)) (was.all on) ∙ ended_behind [] entries more e.count;
          },
          λ line. full_behind new.limit [] entries more e.count
              (subst (λ (l : ℕ). IsFull l (concat entries) more e.count) (sym records.limit)
              (subst (λ (t : List ℕ). IsFull old.limit t more e.count) (was.all on) e.is_full)),
        )

    by_old : (flag : Bool) → old.is_on ≡ flag → HasFirstFull new.limit (entries ++ more) new.text
    by_old true is = by_new is new.is_on refl
    by_old false is =
        let f = was.first in (
          record {
            count = f.count;
            are_there = omega (arith, f.are_there, length-append entries more);
            last = f.last;
            last_is = f.last_is;
            is = ap (λ (t : Tape). t.text) (records.stays is) ∙ f.is ∙ ap (λ (zs : List (List ℕ)). concat zs ++ f.last) (sym (take-append-le f.count entries more f.are_there));
          },
          λ line. full_before new.limit [] entries more f.count (subst (λ (l : ℕ). IsFull l [] entries f.count) (sym records.limit) (was.ends line)),
        )

-- a record is the same after a write, or has ended
pub record_stays : (entries : List (List ℕ)) (old new : Tape) → new.text ≡ old.text → new.limit ≡ old.limit → (new.is_on ≡ true → old.is_on ≡ true) → IsRecordOf entries old → IsRecordOf entries new
record_stays entries old new text limit on was = record {
  all = λ is. text ∙ was.all (on is);
  first = record {
    count = was.first.count;
    are_there = was.first.are_there;
    last = was.first.last;
    last_is = was.first.last_is;
    is = text ∙ was.first.is;
  };
  ends = λ line. subst (λ (l : ℕ). IsFull l [] entries was.first.count) (sym limit) (was.ends line);
  within = rw (text, limit) was.within;
}
