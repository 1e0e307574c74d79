-- What is read after the first bytes of a piece.
use Rattle.std.proofs.Common.{◌≡◌, ◌≤◌, ◌+◌, ◌-◌, ℕ, Bool, true, false, cond, List, [], ◌++◌, length, take, drop, Option, Some, None, refl, sym, ap, subst, ◌∙◌, append_assoc, arith, length-append}
use Rattle.std.proofs.Math.Seq.{take-add}
use Rattle.std.proofs.lemmas.List.{take_all, take-append-drop, length-take-le, length-drop, take_at}
use Rattle.std.proofs.lemmas.Grind.{common_steps}
use Rattle.rb_xdr.specs.Kept.{Kept}
use Rattle.rb_rpc.specs.declared.marks.Marks.{Marks}
use Rattle.rb_rpc.specs.declared.call.Verdict.{Verdict}
use Rattle.rb_rpc.specs.Marks.{StandsForFed}
use Rattle.rb_rpc.specs.Streams.{RecordEnds, StandsForMore}
use Rattle.rb_rpc.specs.Records.{first_record, data_of}
use Rattle.rb_rpc.specs.Verdict.{verdict}
use Rattle.rb_rpc.proofs.RecordCuts.{stays}
use Rattle.rb_rpc.proofs.Feeding.{none_ended}
use Rattle.rb_rpc.specs.Feeds.{StandsForCall}
use Rattle.rb_model.specs.Calls.{kept_of}
use Rattle.rb_connections.specs.Reading.{Fed, Intake, Reader, HasData, IsInside, HasMore, fed_until, StandsBehind}
use Rattle.rb_connections.specs.StandsFor.{IsReading}

-- After this front of a piece, if the reading began with the first reader and buffer.
pub record IsBehind (reader : Reader) (first : Kept) (marks : Marks) (intake : Intake) (kept : Kept) (front : List ℕ) : Type 0 where
  pub inside : (fed : List ℕ) → IsReading reader first fed → IsInside marks intake kept (fed ++ front)
  pub cap : kept.cap ≡ first.cap
  pub tie : kept.tie ≡ first.tie

-- What a run of bytes did that no record ended with, or that one did.
pub record IsBehindRun (marks : Marks) (intake : Intake) (kept : Kept) (ended : Bool) (before run : List ℕ) : Type 0 where
  pub ends : first_record (before ++ run) ≡ cond ended (Some (length before + length run)) None
  pub stands : StandsForFed marks (cond ended [] (before ++ run))
  pub data_is : HasData intake kept (data_of (before ++ run))

-- What is taken of a piece, and what stands after it.
pub record IsTaken (result : Fed) (reader : Reader) (kept : Kept) (fed piece : List ℕ) : Type 0 where
  pub taken : result ≡ fed_until fed piece (first_record (fed ++ piece))
  pub after : StandsBehind reader kept (fed ++ piece) (first_record (fed ++ piece))

taken_until : (result : Fed) (reader : Reader) (kept : Kept) (fed piece : List ℕ) (r : Option ℕ) → first_record (fed ++ piece) ≡ r
    → result ≡ fed_until fed piece r → StandsBehind reader kept (fed ++ piece) r → IsTaken result reader kept fed piece
taken_until result reader kept fed piece r is e stands = grind arith

abbrev here : List ℕ → List ℕ → ℕ → List ℕ
here fed piece i = fed ++ take i piece

-- what a slice up to the end has
abbrev rest_at : List ℕ → ℕ → List ℕ
rest_at piece i = take (length piece - i) (drop i piece)

pub rest_is : (piece : List ℕ) (i : ℕ) → rest_at piece i ≡ drop i piece
rest_is piece i = take_all (length piece - i) (drop i piece) (omega (arith, length-drop i piece))

pub length_of_rest : (piece : List ℕ) (i : ℕ) → length (rest_at piece i) ≡ length piece - i
length_of_rest piece i = ap length (rest_is piece i) ∙ length-drop i piece

abbrev run_at : List ℕ → ℕ → ℕ → List ℕ
run_at piece i n = take n (rest_at piece i)

more : (fed piece : List ℕ) (i n : ℕ) → here fed piece i ++ run_at piece i n ≡ here fed piece (i + n)
more fed piece i n = grind (arith, common_steps, append_assoc, rest_is, take-add)

-- ---- no record ended

pub run_fed : (first_marks : Marks) (first : Intake) (was : Kept) (marks : Marks) (intake : Intake) (kept : Kept) (ended : Bool) (before run : List ℕ) → IsInside first_marks first was before
    → RecordEnds first_marks run ended → StandsForMore first_marks run ended marks
    → HasMore first_marks first was run intake kept
    → IsBehindRun marks intake kept ended before run
run_fed first_marks first was marks intake kept ended before run h ends stands p = grind arith

pub read_on : (marks : Marks) (intake : Intake) (kept : Kept) (fed piece : List ℕ) (i n : ℕ) (ended : Bool) → ended ≡ false
    → IsBehindRun marks intake kept ended (here fed piece i) (run_at piece i n) → IsInside marks intake kept (here fed piece (i + n))
read_on marks intake kept fed piece i n ended e h = grind (arith, common_steps, more)

-- all of the piece was taken
pub none_in : (reader : Reader) (intake : Intake) (kept : Kept) (fed piece : List ℕ) (i : ℕ) → i ≡ length piece → IsInside reader.marks intake kept (here fed piece i)
    → reader.head ≡ intake.head
    → IsTaken (record { count = i; verdict = None }) reader kept fed piece
none_in reader intake kept fed piece i is h same_head =
    let all : IsInside reader.marks intake kept (fed ++ piece) = subst (λ (xs : List ℕ). IsInside reader.marks intake kept (fed ++ xs)) (take_all i piece (omega (arith, is))) h in
    let reads : IsReading reader kept (fed ++ piece) = grind (arith, common_steps) in
    taken_until (record { count = i; verdict = None }) reader kept fed piece None (none_ended reader.marks (fed ++ piece) all.marks_are)
    (ap (λ (k : ℕ). record { count = k; verdict = None }) is) reads

-- ---- a record ended

length_here : (fed piece : List ℕ) (i : ℕ) → i ≤ length piece → length (here fed piece i) ≡ length fed + i
length_here fed piece i within = length-append fed (take i piece) ∙ ap (λ (k : ℕ). length fed + k) (length-take-le i piece within)

whole : (fed piece : List ℕ) (i : ℕ) → here fed piece i ++ drop i piece ≡ fed ++ piece
whole fed piece i = append_assoc fed (take i piece) (drop i piece) ∙ ap (λ (xs : List ℕ). fed ++ xs) (take-append-drop i piece)

-- where it ends, whatever follows
ends_at : (fed piece : List ℕ) (i n : ℕ) → first_record (here fed piece i) ≡ Some n → first_record (fed ++ piece) ≡ Some n
ends_at fed piece i n e = ap first_record (sym (whole fed piece i)) ∙ stays (here fed piece i) (drop i piece) n e

taken : (fed piece : List ℕ) (i : ℕ) → i ≤ length piece → take (length fed + i) (fed ++ piece) ≡ here fed piece i
taken fed piece i within = grind (arith, common_steps, take_at, whole fed piece i, length_here fed piece i within)

same : (a b : ℕ) (v w : Verdict) → a ≡ b → v ≡ w → ◌≡◌ {A = Fed} (record { count = a; verdict = Some v }) (record { count = b; verdict = Some w })
same a b v w e f = rw (e, f) refl

pub ended_in : (reader : Reader) (intake : Intake) (kept : Kept) (fed piece : List ℕ) (i n : ℕ) (ended : Bool) (said : Verdict) → i + n ≤ length piece → ended ≡ true
    → IsBehindRun reader.marks intake kept ended (here fed piece i) (run_at piece i n)
    → ((content : List ℕ) → StandsForCall intake.head content → said ≡ verdict content)
    → IsTaken (record { count = i + n; verdict = Some said }) reader kept fed piece
ended_in reader intake kept fed piece i n ended said within e h says =
    let at : ℕ = length fed + (i + n) in
    let size : length (here fed piece i) + length (run_at piece i n) ≡ at =
    omega (arith, within, length_here fed piece i (omega (arith, within)), length-take-le n (rest_at piece i) (omega (arith, within, length_of_rest piece i))) in
    let ends : first_record (here fed piece (i + n)) ≡ Some at =
    ap first_record (sym (more fed piece i n)) ∙ h.ends ∙ ap (λ (b : Bool). cond b (Some (length (here fed piece i) + length (run_at piece i n))) None) e ∙ ap (λ (k : ℕ). Some k) size in
    let some : first_record (fed ++ piece) ≡ Some at = ends_at fed piece (i + n) at ends in
    let front : here fed piece i ++ run_at piece i n ≡ take at (fed ++ piece) = more fed piece i n ∙ sym (taken fed piece (i + n) within) in
    let content : data_of (here fed piece i ++ run_at piece i n) ≡ data_of (take at (fed ++ piece)) = ap data_of front in
    let count : i + n ≡ at - length fed = omega arith in
    let verdict_is : said ≡ verdict (data_of (take at (fed ++ piece))) = says (data_of (here fed piece i ++ run_at piece i n)) h.data_is.head_is ∙ ap verdict content in
    taken_until (record { count = i + n; verdict = Some said }) reader kept fed piece (Some at) some (same (i + n) (at - length fed) said (verdict (data_of (take at (fed ++ piece)))) count verdict_is) (h.data_is.kept_are.bytes_are ∙ ap kept_of content)
