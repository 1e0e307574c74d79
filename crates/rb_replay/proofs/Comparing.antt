-- Output lines of a text, line by line, against those of a run.
use Rattle.std.specs.List.{flat_map}
use Rattle.std.specs.Borrow.{Bor}
use Rattle.std.specs.Prelude.{nat_eq, nat_lt, slice_index, if◌then◌else◌, OnOk, IfErr, option_map}
use Rattle.std.specs.Bool.{Decides}
use Rattle.std.specs.Cmp.Lexicographic.{pointwise}
use Rattle.std.proofs.Common.{◌≡◌, ◌<◌, ◌≤◌, ◌+◌, ◌-◌, ℕ, zero, suc, Bool, true, false, refl, List, [], ◌∷◌, ◌++◌, length, get_or, codes, take, drop, Option, Some, None, Result, Ok, Err, IfSome, arith, sym, ap, subst, ◌∙◌, ◌⊎◌, append_assoc, append-nil, take-append-drop, inl, inr}
use Rattle.std.proofs.lemmas.Bool.{cases_lt, lt-ltb, le-ltb, ne_eqb}
use Rattle.std.proofs.lemmas.Bool.Decides.{Decides-eqb}
use Rattle.std.proofs.lemmas.Slice.Eq.{strip_suffix_is}
use Rattle.std.proofs.lemmas.List.{drop_more, take_more, take_all, length-take, length-take-le, length_push, length-map, append_cancel_left, append_cancel_right}
use Rattle.std.proofs.lemmas.List.Concat.{flat_map-append}
use Rattle.std.proofs.Math.ListN.{get_or-map}
use Rattle.rb_model.specs.Plain.{OwnedOutput, output_of, outputs_of}
use Rattle.rb_model.specs.Step.{Event, Output}
use Rattle.rb_lines.specs.Printing.{output_text}
use Rattle.rb_lines.specs.declared.lines.ReadFault.{ReadFault}
use Rattle.rb_lines.specs.declared.lines.ReadFault.TheVariants as reading
use Rattle.rb_lines.specs.declared.beginning.Beginning.{Beginning}
use Rattle.rb_lines.specs.declared.faults.Fault.{Fault}
use Rattle.rb_lines.specs.declared.faults.Fault.TheVariants.{NotText, Lines, NoMemory, BadLimits, SocketFailed, ReadFailed, WriteFailed, NoOutputs, Differs, Lacks}
use Rattle.rb_lines.specs.Lines.{read, lines_of, longest_input, Fails}
use Rattle.rb_lines.specs.OutputLines.{output_line_in, output_lines_in, output_lines}
use Rattle.rb_replay.specs.Checking.{IsFrontOf, IsFirstOther, Agrees, AgreesWith, whole_len, whole_lines, is_cut, IsUnlike, OfRun, CannotBeChecked, IsWrongWith, IsLacking, IsWrongInput, GoesOn, IsWrongAt, IsEnd}
use Rattle.rb_lines.specs.Faults.{status_of}
use Rattle.rb_replay.specs.Running.{IsRead, IsRefused}
use Rattle.rb_lines.proofs.Reading.{IsAt, read-take}

-- what the lines up to this one say is what those before it say, and what it says
said_more : (lines : List (List ℕ)) (n : ℕ) (text : List ℕ) → n < length lines → text ≡ get_or lines n text → flat_map output_line_in (take (n + 1) lines) ≡ flat_map output_line_in (take n lines) ++ output_line_in text
said_more lines n text lt is =
    ap (flat_map output_line_in) (take_more lines n text lt ∙ ap (λ (t : List ℕ). take n lines ++ t ∷ []) (sym is))
    ∙ flat_map-append output_line_in (take n lines) (text ∷ [])
    ∙ ap (λ (xs : List (List ℕ)). flat_map output_line_in (take n lines) ++ xs) (append-nil (output_line_in text))

-- one line more that goes on
pub line_done : (all : List (List ℕ)) (xs : List (ℕ × Bor (List ℕ))) (lines : List (List ℕ)) (i : ℕ) (text : Bor (List ℕ)) (next more : ℕ) → IsAt lines (length xs) i text.now → GoesOn all text.now next more → flat_map output_line_in (take (length xs) lines) ≡ take next all → flat_map output_line_in (take (length (xs ++ (i, text) ∷ [])) lines) ≡ take more all
line_done all xs lines i text next more at goes agree =
    rw (length_push xs (i, text)) (said_more lines (length xs) text.now at.before at.line ∙ ap (λ (t : List (List ℕ)). t ++ output_line_in text.now) agree ∙ sym goes)

-- the first line that goes on to no front of the outputs
pub first_other : (text : List ℕ) (outputs : List Output) (n i number next : ℕ) (line : List ℕ) → IsAt (lines_of text) n i line → number ≡ i + 1 → flat_map output_line_in (take n (lines_of text)) ≡ take next (output_lines outputs) → (IsFrontOf (take next (output_lines outputs) ++ output_line_in line) (output_lines outputs) → ⊥) → IsFirstOther text outputs number
first_other text outputs n i number next line at is agree other = record {
  before = take n (lines_of text);
  line = line;
  after = drop (n + 1) (lines_of text);
  lines = sym (take-append-drop n (lines_of text)) ∙ ap (λ (xs : List (List ℕ)). take n (lines_of text) ++ xs) (drop_more (lines_of text) n line at.before ∙ ap (λ (t : List ℕ). t ∷ drop (n + 1) (lines_of text)) (sym at.line));
  number = is ∙ ap (λ (k : ℕ). k + 1) (at.place ∙ sym (length-take-le n (lines_of text) (omega (arith, at.before))));
  agree = (drop next (output_lines outputs), sym (take-append-drop next (output_lines outputs)) ∙ ap (λ (xs : List (List ℕ)). xs ++ drop next (output_lines outputs)) (sym agree));
  differ = λ front. other (subst (λ (xs : List (List ℕ)). IsFrontOf (xs ++ output_line_in line) (output_lines outputs)) agree front);
}

-- if no output is left
pub none_left : (all : List (List ℕ)) (next : ℕ) (line : List ℕ) → length all ≤ next → IsFrontOf (take next all ++ line ∷ []) all → ⊥
none_left all next line le front =
    let same : all ≡ (take next all ++ line ∷ []) ++ front.0 = front.1 in
    let whole : take next all ≡ all = take_all next all le in
    let none : [] ≡ line ∷ front.0 =
    append_cancel_left all [] (line ∷ front.0) (append-nil all ∙ same ∙ ap (λ (xs : List (List ℕ)). (xs ++ line ∷ []) ++ front.0) whole ∙ append_assoc all (line ∷ []) front.0) in
    absurd cc

-- if the next output is another
pub other_next : (all : List (List ℕ)) (next : ℕ) (line there : List ℕ) → next < length all → there ≡ get_or all next there → (there ≡ line → ⊥) → IsFrontOf (take next all ++ line ∷ []) all → ⊥
other_next all next line there lt is other front =
    let rest : drop next all ≡ line ∷ front.0 =
    append_cancel_left (take next all) (drop next all) (line ∷ front.0) (take-append-drop next all ∙ front.1 ∙ append_assoc (take next all) (line ∷ []) front.0) in
    let first : there ∷ drop (next + 1) all ≡ line ∷ front.0 = ap (λ (t : List ℕ). t ∷ drop (next + 1) all) is ∙ sym (drop_more all next there lt) ∙ rest in
    other (ap (λ (xs : List (List ℕ)). get_or xs 0 line) first)

-- if it is the same, the line goes on to it
pub same_next : (all : List (List ℕ)) (next : ℕ) (line : List ℕ) → next < length all → line ≡ get_or all next line → take (next + 1) all ≡ take next all ++ line ∷ []
same_next all next line lt is = take_more all next line lt ∙ ap (λ (t : List ℕ). take next all ++ t ∷ []) (sym is)

-- what was read of an input that has events is all of it
pub whole_where_read : (beginning : Beginning) (input text : List ℕ) (P : List Output → Type 0) → text ≡ take (longest_input + 1) input → OfRun beginning P (read text) → text ≡ input
unfolding read
whole_where_read beginning input text P is h = elim (cases_lt longest_input (length input)) [
  | inl long ↦
      let longer : longest_input < length text = omega (arith, ap (λ (xs : List ℕ). length xs) is, length-take (longest_input + 1) input) in
      absurd (rw (lt-ltb longest_input (length text) longer) at h)
  | inr short ↦ is ∙ take_all (longest_input + 1) input (omega arith)
]

-- ---- a text whose last line is cut off

-- a line feed, another byte and the start of the text, seen from the end
pub at_feed : (text : List ℕ) (n len : ℕ) → len ≡ suc n → slice_index text n ≡ 10 → len ≡ whole_len text len
unfolding whole_len
at_feed text n len is feed = rw is (rw feed refl)

pub at_other : (text : List ℕ) (n len : ℕ) → len ≡ suc n → (slice_index text n ≡ 10 → ⊥) → whole_len text len ≡ whole_len text n
unfolding whole_len
at_other text n len is other = rw is (rw (ne_eqb (slice_index text n) 10 other) refl)

pub at_start : (text : List ℕ) (len : ℕ) → len ≡ 0 → 0 ≡ whole_len text len
unfolding whole_len
at_start text len is = rw is refl

if_le : (b : Bool) (m n : ℕ) → m ≤ n → (if b then suc n else m) ≤ suc n
if_le true m n le = omega arith
if_le false m n le = omega (arith, le)

pub whole_len_le : (text : List ℕ) (n : ℕ) → whole_len text n ≤ n
unfolding whole_len
whole_len_le text zero = omega arith
whole_len_le text (suc n) = if_le (nat_eq (slice_index text n) 10) (whole_len text n) n (whole_len_le text n)

long_is_whole : (text : List ℕ) → longest_input < length text → whole_lines text ≡ text
unfolding whole_lines
long_is_whole text long = rw (lt-ltb longest_input (length text) long) refl

pub lines_where_long : (text : List ℕ) → longest_input < length text → text ≡ whole_lines text
lines_where_long text long = sym (long_is_whole text long)

pub lines_where_short : (text : List ℕ) → length text ≤ longest_input → take (whole_len text (length text)) text ≡ whole_lines text
unfolding whole_lines
lines_where_short text short = rw (le-ltb longest_input (length text) short) refl

if_short : (b : Bool) (n : ℕ) (text : List ℕ) → length (if b then text else take n text) ≤ length text
if_short true n text = omega arith
if_short false n text = omega (arith, length-take n text)

whole_short : (text : List ℕ) → length (whole_lines text) ≤ length text
unfolding whole_lines
whole_short text = if_short (nat_lt longest_input (length text)) (whole_len text (length text)) text

-- what is checked of what was read of an input is what is read of what is checked of it
whole_where : (input text : List ℕ) → text ≡ take (longest_input + 1) input → whole_lines text ≡ take (longest_input + 1) (whole_lines input)
whole_where input text is = elim (cases_lt longest_input (length input)) [
  | inl long ↦
      let longer : longest_input < length text = omega (arith, ap (λ (xs : List ℕ). length xs) is, length-take (longest_input + 1) input) in
      long_is_whole text longer ∙ is ∙ ap (take (longest_input + 1)) (sym (long_is_whole input long))
  | inr short ↦
      let all : text ≡ input = is ∙ take_all (longest_input + 1) input (omega arith) in
      ap whole_lines all ∙ sym (take_all (longest_input + 1) (whole_lines input) (omega (arith, short, whole_short input)))
]

pub whole_as_read : (left : Option (List ℕ)) (text : List ℕ) → IfSome left (λ input. text ≡ take (longest_input + 1) input) → IfSome (option_map whole_lines left) (λ part. whole_lines text ≡ take (longest_input + 1) part)
whole_as_read None text is = tt
whole_as_read (Some input) text is = whole_where input text is

-- what was read of an input that has events, but for a line that is cut off, is all of it
all_where_checked : (beginning : Beginning) (input text : List ℕ) (P : List Output → Type 0) → text ≡ take (longest_input + 1) input → OfRun beginning P (read (whole_lines text)) → text ≡ input
all_where_checked beginning input text P is h = elim (cases_lt longest_input (length text)) [
  | inl long ↦ whole_where_read beginning input text P is (subst (λ (t : List ℕ). OfRun beginning P (read t)) (long_is_whole text long) h)
  | inr short ↦ is ∙ take_all (longest_input + 1) input (omega (arith, short, ap (λ (xs : List ℕ). length xs) is, length-take (longest_input + 1) input))
]

lines_count : (text : List ℕ) (outputs : List Output) → output_lines_in text ≡ output_lines outputs → length outputs ≡ length (output_lines_in text)
unfolding output_lines
lines_count text outputs same = sym (ap (λ (xs : List (List ℕ)). length xs) same ∙ length-map outputs output_text)

pub agrees_with : (text : List ℕ) (outputs : List Output) (cut : Bool) → Agrees text outputs → AgreesWith text cut (length outputs) outputs
agrees_with text outputs false a = (a, refl)
agrees_with text outputs true a = (([], sym (append-nil (output_lines_in text) ∙ a.same)), lines_count text outputs a.same, omega (arith, lines_count text outputs a.same, a.some))

pub lacking_with : (text : List ℕ) (outputs : List Output) (n : ℕ) → IsLacking text outputs n → AgreesWith text true (n - 1) outputs
lacking_with text outputs n l = (l.agree, omega (arith, l.number), omega (arith, l.some))

-- a text that ends in a line feed is a line and its end exactly if what stands before is the line
pub ended_is : (text line : List ℕ) (front : Bor (List ℕ)) (same : Bool) → (pointwise nat_eq (drop (length text - length (codes "\n")) text) (codes "\n") ≡ true) × (front.now ≡ take (length text - length (codes "\n")) text) × (length front.now + length (codes "\n") ≡ length text) → Decides same (front.now ≡ line) → Decides same (text ≡ line ++ codes "\n")
ended_is text line front same is decides =
    let whole : text ≡ front.now ++ codes "\n" = strip_suffix_is Decides-eqb text (codes "\n") (Some front) is in
    (λ yes. whole ∙ ap (λ (xs : List ℕ). xs ++ codes "\n") (decides.0 yes), λ e. decides.1 (append_cancel_right front.now line (codes "\n") (sym whole ∙ e)))

-- ---- of the outputs as the code has them

printed_length : (outputs : List OwnedOutput) → length (output_lines (outputs_of outputs)) ≡ length outputs
unfolding output_lines
printed_length outputs = length-map (outputs_of outputs) output_text ∙ length-map outputs output_of

printed_at : (outputs : List OwnedOutput) (i : ℕ) (there : OwnedOutput) → there ≡ get_or outputs i there → output_text (output_of there) ≡ get_or (output_lines (outputs_of outputs)) i (output_text (output_of there))
unfolding output_lines
printed_at outputs i there is =
    ap (λ (x : OwnedOutput). output_text (output_of x)) is ∙ sym (get_or-map output_text (outputs_of outputs) i (output_of there) ∙ ap output_text (get_or-map output_of outputs i there))

pub no_output : (outputs : List OwnedOutput) (next : ℕ) (line said : List ℕ) → said ∷ [] ≡ output_line_in line → length outputs ≤ next → IsFrontOf (take next (output_lines (outputs_of outputs)) ++ output_line_in line) (output_lines (outputs_of outputs)) → ⊥
no_output outputs next line said is le front =
    none_left (output_lines (outputs_of outputs)) next said (omega (arith, printed_length outputs, le)) (rw is front)

pub other_output : (outputs : List OwnedOutput) (next : ℕ) (line said : List ℕ) (there : OwnedOutput) → said ∷ [] ≡ output_line_in line → next < length outputs → there ≡ get_or outputs next there → (output_text (output_of there) ≡ said → ⊥) → IsFrontOf (take next (output_lines (outputs_of outputs)) ++ output_line_in line) (output_lines (outputs_of outputs)) → ⊥
other_output outputs next line said there is lt at other front =
    other_next (output_lines (outputs_of outputs)) next said (output_text (output_of there)) (omega (arith, printed_length outputs, lt)) (printed_at outputs next there at) other (rw is front)

pub same_output : (outputs : List OwnedOutput) (next : ℕ) (line said : List ℕ) (there : OwnedOutput) → said ∷ [] ≡ output_line_in line → next < length outputs → there ≡ get_or outputs next there → output_text (output_of there) ≡ said → GoesOn (output_lines (outputs_of outputs)) line next (next + 1)
same_output outputs next line said there is lt at same =
    rw (← is) (same_next (output_lines (outputs_of outputs)) next said (omega (arith, printed_length outputs, lt)) (rw (← same) (printed_at outputs next there at)))

-- if the lines of this many outputs were found, and no more lines are there
pub all_found : (text : List ℕ) (outputs : List OwnedOutput) (n next : ℕ) → length (lines_of text) ≤ n → flat_map output_line_in (take n (lines_of text)) ≡ take next (output_lines (outputs_of outputs)) → output_lines_in text ≡ take next (output_lines (outputs_of outputs))
unfolding output_lines_in
all_found text outputs n next le agree = ap (flat_map output_line_in) (sym (take_all n (lines_of text) le)) ∙ agree

pub agrees : (text : List ℕ) (outputs : List OwnedOutput) (next : ℕ) → output_lines_in text ≡ take next (output_lines (outputs_of outputs)) → next ≤ length outputs → length outputs ≤ next → 0 < next → Agrees text (outputs_of outputs)
agrees text outputs next is few all some = record {
  same = is ∙ take_all next (output_lines (outputs_of outputs)) (omega (arith, printed_length outputs, all));
  some = omega (arith, length-map outputs output_of, few, some);
}

pub unlike : (text : List ℕ) (outputs : List OwnedOutput) (next : ℕ) (fault : Fault) → output_lines_in text ≡ take next (output_lines (outputs_of outputs)) → next ≤ length outputs → IsEnd next (length outputs) fault → IsUnlike text (outputs_of outputs) fault
unlike text outputs next NoOutputs is few end = is ∙ ap (λ (n : ℕ). take n (output_lines (outputs_of outputs))) end
unlike text outputs next (Lacks n) is few end = record {
  agree = (drop next (output_lines (outputs_of outputs)), sym (take-append-drop next (output_lines (outputs_of outputs))) ∙ ap (λ (xs : List (List ℕ)). xs ++ drop next (output_lines (outputs_of outputs))) (sym is));
  some = omega (arith, end.0, end.2);
  number = end.0 ∙ ap (λ (k : ℕ). k + 1) (sym (ap (λ (xs : List (List ℕ)). length xs) is ∙ length-take-le next (output_lines (outputs_of outputs)) (omega (arith, printed_length outputs, few))));
  there = omega (arith, length-map outputs output_of, end.0, end.1);
}
unlike text outputs next NotText is few end = absurd end
unlike text outputs next (Lines fault) is few end = absurd end
unlike text outputs next NoMemory is few end = absurd end
unlike text outputs next BadLimits is few end = absurd end
unlike text outputs next SocketFailed is few end = absurd end
unlike text outputs next ReadFailed is few end = absurd end
unlike text outputs next WriteFailed is few end = absurd end
unlike text outputs next (Differs n) is few end = absurd end

-- what is wrong at a line is wrong with the text
pub wrong_at : (text : List ℕ) (outputs : List OwnedOutput) (n i next : ℕ) (line : List ℕ) (fault : Fault) → IsAt (lines_of text) n i line → flat_map output_line_in (take n (lines_of text)) ≡ take next (output_lines (outputs_of outputs)) → IsWrongAt (i + 1) (output_lines (outputs_of outputs)) line next fault → IsUnlike text (outputs_of outputs) fault
wrong_at text outputs n i next line NoMemory at agree wrong = tt
wrong_at text outputs n i next line (Differs k) at agree wrong = first_other text (outputs_of outputs) n i k next line at wrong.0 agree wrong.1
wrong_at text outputs n i next line NotText at agree wrong = absurd wrong
wrong_at text outputs n i next line (Lines fault) at agree wrong = absurd wrong
wrong_at text outputs n i next line BadLimits at agree wrong = absurd wrong
wrong_at text outputs n i next line SocketFailed at agree wrong = absurd wrong
wrong_at text outputs n i next line ReadFailed at agree wrong = absurd wrong
wrong_at text outputs n i next line WriteFailed at agree wrong = absurd wrong
wrong_at text outputs n i next line NoOutputs at agree wrong = absurd wrong
wrong_at text outputs n i next line (Lacks k) at agree wrong = absurd wrong

-- what agrees as a whole agrees with a line cut off as well
with_count : (text : List ℕ) (outputs : List Output) (cut : Bool) (n : ℕ) → Agrees text outputs → n ≡ length outputs → AgreesWith text cut n outputs
with_count text outputs cut n a is = rw is (agrees_with text outputs cut a)

pub by_cut : (beginning : Beginning) (text : List ℕ) (cut : Bool) (n : ℕ) (given : Result (List Event) ReadFault) → OfRun beginning (λ outputs. Agrees text outputs × (n ≡ length outputs)) given → OfRun beginning (AgreesWith text cut n) given
by_cut beginning text cut n (Ok events) h = with_count text _ cut n h.0 h.1
by_cut beginning text cut n (Err fault) h = absurd h

-- what follows of a result
pub on_ok : {A B : Type 0} (P Q : Type 0) (r : Result A B) → (P → Q) → OnOk r P → OnOk r Q
on_ok P Q (Ok x) f h = f h
on_ok P Q (Err e) f h = tt

pub if_err : {A B : Type 0} (P Q : B → Type 0) (r : Result A B) → ((e : B) → P e → Q e) → IfErr r P → IfErr r Q
if_err P Q (Ok x) f h = tt
if_err P Q (Err e) f h = f e h

-- ---- an input, by what was read of it

pub agreed_as_read : (beginning : Beginning) (left : Option (List ℕ)) (text : List ℕ) (cut : Bool) (n : ℕ) → IfSome left (λ input. text ≡ take (longest_input + 1) input) → cut ≡ is_cut text → OfRun beginning (AgreesWith (whole_lines text) cut n) (read (whole_lines text)) → IfSome left (λ input. (cut ≡ is_cut input) × OfRun beginning (AgreesWith (whole_lines input) cut n) (read (whole_lines input)))
agreed_as_read beginning None text cut n is same h = tt
agreed_as_read beginning (Some input) text cut n is same h =
    subst (λ (t : List ℕ). (cut ≡ is_cut t) × OfRun beginning (AgreesWith (whole_lines t) cut n) (read (whole_lines t))) (all_where_checked beginning input text (AgreesWith (whole_lines text) cut n) is h) (same, h)

refused : (given : Result (List Event) ReadFault) (fault : ReadFault) → given ≡ Err fault → IsRefused given
refused (Ok events) fault is = absurd cc
refused (Err other) fault is = tt

cannot : (beginning : Beginning) (input text : List ℕ) (fault : Fault) → text ≡ take (longest_input + 1) input → IsWrongWith beginning text fault → status_of fault ≡ 2 → CannotBeChecked input
cannot beginning input text NotText is wrong two = absurd wrong
cannot beginning input text (Lines (reading.BadLine k)) is wrong two = inl (refused (read input) (reading.BadLine k) (sym (ap read is ∙ read-take input) ∙ wrong))
cannot beginning input text (Lines reading.TooLong) is wrong two = inl (refused (read input) reading.TooLong (sym (ap read is ∙ read-take input) ∙ wrong))
cannot beginning input text (Lines reading.NoMemory) is wrong two = absurd cc
cannot beginning input text NoMemory is wrong two = absurd cc
cannot beginning input text BadLimits is wrong two = absurd cc
cannot beginning input text SocketFailed is wrong two = absurd wrong
cannot beginning input text ReadFailed is wrong two = absurd wrong
cannot beginning input text WriteFailed is wrong two = absurd wrong
cannot beginning input text NoOutputs is wrong two =
    let same : text ≡ input = whole_where_read beginning input text (λ outputs. output_lines_in text ≡ []) is wrong in inr (by_events (read text) (subst (λ (t : List ℕ). OfRun beginning (λ outputs. output_lines_in t ≡ []) (read text)) same wrong))
  where
    by_events : (given : Result (List Event) ReadFault) → OfRun beginning (λ outputs. output_lines_in input ≡ []) given → output_lines_in input ≡ []
    by_events (Ok events) h = h
    by_events (Err fault) h = absurd h
cannot beginning input text (Differs n) is wrong two = absurd cc
cannot beginning input text (Lacks n) is wrong two = absurd cc

pub refused_as_read : {A : Type 0} (beginning : Beginning) (left : Option (List ℕ)) (text : List ℕ) (r : Result A Fault) → IfSome left (λ input. text ≡ take (longest_input + 1) input) → IfErr r (IsWrongWith beginning text) → IfErr r (λ fault. status_of fault ≡ 2 → IfSome left CannotBeChecked)
refused_as_read beginning left text (Ok n) is h = tt
refused_as_read beginning None text (Err fault) is h = λ two. tt
refused_as_read beginning (Some input) text (Err fault) is h = λ two. cannot beginning input text fault is h two

-- ---- why a check fails

wrong_input : (beginning : Beginning) (input text : List ℕ) (fault : Fault) → text ≡ take (longest_input + 1) input → IsWrongWith beginning text fault → IsWrongInput beginning input fault
wrong_input beginning input text NotText is wrong = wrong
wrong_input beginning input text (Lines fault) is wrong = subst (λ (given : Result (List Event) ReadFault). Fails fault given) (ap read is ∙ read-take input) wrong
wrong_input beginning input text NoMemory is wrong = tt
wrong_input beginning input text BadLimits is wrong = (subst IsRead (ap read is ∙ read-take input) wrong.0, wrong.1)
wrong_input beginning input text SocketFailed is wrong = wrong
wrong_input beginning input text ReadFailed is wrong = tt
wrong_input beginning input text WriteFailed is wrong = tt
wrong_input beginning input text NoOutputs is wrong =
    subst (λ (t : List ℕ). OfRun beginning (λ outputs. output_lines_in t ≡ []) (read t)) (whole_where_read beginning input text (λ outputs. output_lines_in text ≡ []) is wrong) wrong
wrong_input beginning input text (Differs n) is wrong =
    subst (λ (t : List ℕ). OfRun beginning (λ outputs. IsFirstOther t outputs n) (read t)) (whole_where_read beginning input text (λ outputs. IsFirstOther text outputs n) is wrong) wrong
wrong_input beginning input text (Lacks n) is wrong =
    subst (λ (t : List ℕ). OfRun beginning (λ outputs. IsLacking t outputs n) (read t)) (whole_where_read beginning input text (λ outputs. IsLacking text outputs n) is wrong) wrong

pub why_as_read : {A : Type 0} (beginning : Beginning) (left : Option (List ℕ)) (text : List ℕ) (r : Result A Fault) → IfSome left (λ input. text ≡ take (longest_input + 1) input) → IfErr r (IsWrongWith beginning text) → IfErr r (λ fault. IfSome left (λ input. IsWrongInput beginning input fault))
why_as_read beginning left text (Ok n) is h = tt
why_as_read beginning None text (Err fault) is h = tt
why_as_read beginning (Some input) text (Err fault) is h = wrong_input beginning input text fault is h

-- a fault that has nothing to do with the input
unread : (beginning : Beginning) (left : Option (List ℕ)) (fault : Fault) → ((input : List ℕ) → IsWrongInput beginning input fault) → IfSome left (λ input. IsWrongInput beginning input fault)
unread beginning None fault any = tt
unread beginning (Some input) fault any = any input

pub not_read : (beginning : Beginning) (left : Option (List ℕ)) (fault : Fault) → (fault ≡ NoMemory) ⊎ (fault ≡ ReadFailed) → IfSome left (λ input. IsWrongInput beginning input fault)
not_read beginning left fault (inl is) = rw is (unread beginning left NoMemory (λ input. tt))
not_read beginning left fault (inr is) = rw is (unread beginning left ReadFailed (λ input. tt))
