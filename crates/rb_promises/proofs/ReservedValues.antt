-- What the values of `--reserve` spell, and what they are read as.
use Rattle.std.specs.Prelude.{codes}
use Rattle.std.specs.Borrow.{Bor}
use Rattle.std.proofs.Common.{◌≡◌, ◌<◌, ◌≤◌, ◌+◌, ◌^◌, ℕ, Bool, true, false, cond, eqb, leb, ltb, List, [], ◌∷◌, ◌++◌, length, Option, Some, None, Result, Ok, Err, refl, sym, ap, subst, ◌∙◌, arith, lit<, append_assoc}
use Rattle.std.proofs.lemmas.Bool.{ltb-true, lt-ltb, leb-true, le-leb}
use Rattle.std.proofs.lemmas.List.Elements.{All-append, All-cons}
use Rattle.std.specs.Prelude.{unwrap_or}
use Rattle.rb_address.specs.Reading.{cut}
use Rattle.rb_address.proofs.HostTexts.{IsWithout}
use Rattle.rb_address.proofs.Words as words
use Rattle.rb_answers.specs.declared.reserved.Reservation.{Reservation}
use Rattle.rb_commands.specs.declared.options.Valued.{Valued}
use Rattle.rb_commands.specs.declared.options.Valued.TheVariants.{Reserve}
use Rattle.rb_commands.specs.Options.{value_of, values_from, number32, programs_in, reservation_of, reserve_at}
use Rattle.rb_promises.specs.WordForms.{SpellsWithin, SpellsNumber}
use Rattle.rb_promises.specs.OptionTexts.{SpellEach, SpellsPrograms, SpellsReservation}
use Rattle.rb_promises.specs.OptionTexts.SpellsPrograms.{OneProgram, FirstAndLast}
use Rattle.rb_promises.proofs.OptionValues.{bound, followed, same_Ok, valued, below_is, below_of}
use Rattle.rb_promises.proofs.ServeValues.{not_cut, IsAtPlace, AreSpelled, values_are, values_read}

number_is : (option : Valued) (text : List ℕ) (n : ℕ) → value_of option (number32 text) ≡ Ok n → SpellsNumber n text
number_is option text n h = below_is (2 ^ 32) n text (lit< tt) (valued option (number32 text) n h)

number_of : (option : Valued) (text : List ℕ) (n : ℕ) → SpellsNumber n text → value_of option (number32 text) ≡ Ok n
number_of option text n s = ap (value_of option) (below_of (2 ^ 32) n text (lit< tt) s)

-- ---- the programs

abbrev IsOther : ℕ → ℕ → Type 0
IsOther at b = eqb b at ≡ false

no_dash : (n : ℕ) (text : List ℕ) → SpellsNumber n text → IsWithout 45 text
no_dash n text s = words.numeral_without 45 text s.digits.1 (λ l h. omega arith)

no_equals : (n : ℕ) (text : List ℕ) → SpellsNumber n text → IsWithout 61 text
no_equals n text s = words.numeral_without 61 text s.digits.1 (λ l h. omega arith)

programs_apart : (first last : ℕ) (text : List ℕ) → SpellsPrograms first last text → IsWithout 61 text
programs_apart first last text (OneProgram s same) = no_equals first text s
programs_apart first last text (FirstAndLast front back is s1 s2) =
    subst (IsWithout 61) (sym (is ∙ append_assoc front (codes "-") back))
    (All-append (IsOther 61) front (45 ∷ back) (no_equals first front s1) (All-cons (IsOther 61) 45 back refl (no_equals last back s2)))

programs_are : (option : Valued) (first last : ℕ) (text : List ℕ) → value_of option (number32 (programs_in text).0) ≡ Ok first → value_of option (number32 (programs_in text).1) ≡ Ok last
    → SpellsPrograms first last text
programs_are option first last text h1 h2 = by_cut (cut 45 text) refl (number_is option _ first h1) (number_is option _ last h2)
  where
    by_cut : (o : Option (List ℕ × List ℕ)) → cut 45 text ≡ o → SpellsNumber first (unwrap_or o (text, text)).0 → SpellsNumber last (unwrap_or o (text, text)).1 → SpellsPrograms first last text
    by_cut None is s1 s2 = OneProgram s1 (sym s2.value ∙ s1.value)
    by_cut (Some parts) is s1 s2 = FirstAndLast parts.0 parts.1 (words.cut_is 45 text parts.0 parts.1 is ∙ sym (append_assoc parts.0 (codes "-") parts.1)) s1 s2

record AreRead (option : Valued) (first last : ℕ) (text : List ℕ) : Type 0 where
  first_is : value_of option (number32 (programs_in text).0) ≡ Ok first
  last_is : value_of option (number32 (programs_in text).1) ≡ Ok last

programs_read : (option : Valued) (first last : ℕ) (text : List ℕ) → SpellsPrograms first last text → AreRead option first last text
programs_read option first last text (OneProgram s same) =
    let alone : programs_in text ≡ (text, text) = ap (λ (o : Option (List ℕ × List ℕ)). unwrap_or o (text, text)) (not_cut 45 text (no_dash first text s)) in
    record {
      first_is = ap (λ (p : List ℕ × List ℕ). value_of option (number32 p.0)) alone ∙ number_of option text first s;
      last_is = ap (λ (p : List ℕ × List ℕ). value_of option (number32 p.1)) alone ∙ number_of option text first s ∙ ap Ok (sym same);
    }
programs_read option first last text (FirstAndLast front back is s1 s2) =
    let there : cut 45 text ≡ Some (front, back) = ap (cut 45) (is ∙ append_assoc front (codes "-") back) ∙ words.cut_at 45 front back (no_dash first front s1) in
    let both : programs_in text ≡ (front, back) = ap (λ (o : Option (List ℕ × List ℕ)). unwrap_or o (text, text)) there in
    record {
      first_is = ap (λ (p : List ℕ × List ℕ). value_of option (number32 p.0)) both ∙ number_of option front first s1;
      last_is = ap (λ (p : List ℕ × List ℕ). value_of option (number32 p.1)) both ∙ number_of option back last s2;
    }

-- ---- one reservation

abbrev in_order : Valued → ℕ → ℕ → ℕ → Result Reservation Valued
in_order option first last uid = cond (leb first last) (Ok (record { first = first; last = last; uid = uid })) (Err option)

reservation_is : (option : Valued) (text : List ℕ) (r : Reservation) → reservation_of option text ≡ Ok r → SpellsReservation r text
reservation_is option text r h =
    let (parts, read0, rest0) = bound (value_of option (cut 61 text)) _ r h in
    let (first, read1, rest1) = bound (value_of option (number32 (programs_in parts.0).0)) _ r rest0 in
    let (last, read2, rest2) = bound (value_of option (number32 (programs_in parts.0).1)) _ r rest1 in
    let (uid, read3, made) = bound (value_of option (number32 parts.1)) _ r rest2 in
    by_order parts first last uid (valued option (cut 61 text) parts read0) read1 read2 read3 (leb first last) refl made
  where
    by_order : (parts : List ℕ × List ℕ) (first last uid : ℕ) → cut 61 text ≡ Some parts → value_of option (number32 (programs_in parts.0).0) ≡ Ok first → value_of option (number32 (programs_in parts.0).1) ≡ Ok last
        → value_of option (number32 parts.1) ≡ Ok uid → (b : Bool) → leb first last ≡ b → ◌≡◌ {A = Result Reservation Valued} (cond b (Ok (record { first = first; last = last; uid = uid })) (Err option)) (Ok r) → SpellsReservation r text
    by_order parts first last uid is read1 read2 read3 true low made =
        subst (λ (r : Reservation). SpellsReservation r text) (same_Ok _ _ made) (record {
          programs = parts.0;
          uid = parts.1;
          parts = words.cut_is 61 text parts.0 parts.1 is ∙ sym (append_assoc parts.0 (codes "=") parts.1);
          of_programs = programs_are option first last parts.0 read1 read2;
          of_uid = number_is option parts.1 uid read3;
          in_order = leb-true _ _ low;
        })
    by_order parts first last uid is read1 read2 read3 false high made = absurd cc

reservation_read : (option : Valued) (text : List ℕ) (r : Reservation) → SpellsReservation r text → reservation_of option text ≡ Ok r
reservation_read option text r s =
    let there : cut 61 text ≡ Some (s.programs, s.uid) = ap (cut 61) (s.parts ∙ append_assoc s.programs (codes "=") s.uid) ∙ words.cut_at 61 s.programs s.uid (programs_apart r.first r.last s.programs s.of_programs) in
    let read = programs_read option r.first r.last s.programs s.of_programs in
    followed (value_of option (cut 61 text)) _ (s.programs, s.uid) r (ap (value_of option) there)
    (followed (value_of option (number32 (programs_in s.programs).0)) _ r.first r read.first_is
    (followed (value_of option (number32 (programs_in s.programs).1)) _ r.last r read.last_is
    (followed (value_of option (number32 s.uid)) _ r.uid r (number_of option s.uid r.uid s.of_uid)
    (ap (λ (b : Bool). cond b (Ok r) (Err option)) (le-leb r.first r.last s.in_order)))))

-- ---- all of them

reserve_placed : (place : ℕ) (text : List ℕ) (r : Reservation) → reserve_at place text ≡ Ok r → IsAtPlace 64 SpellsReservation place text r
reserve_placed place text r h = by (ltb place 64) refl h
  where
    by : (b : Bool) → ltb place 64 ≡ b → cond b (reservation_of (Reserve place) text) (Err (Reserve place)) ≡ Ok r → IsAtPlace 64 SpellsReservation place text r
    by true few h = record { few = ltb-true _ _ few; spells = reservation_is (Reserve place) text r h }
    by false many h = absurd cc

reserve_there : (place : ℕ) (text : List ℕ) (r : Reservation) → IsAtPlace 64 SpellsReservation place text r → reserve_at place text ≡ Ok r
reserve_there place text r p = rw (lt-ltb place 64 p.few) (reservation_read (Reserve place) text r p.spells)

pub reserved_are : (texts : List (Bor (List ℕ))) (reserved : List Reservation) → values_from reserve_at 0 texts ≡ Ok reserved → AreSpelled 64 SpellsReservation 0 texts reserved
reserved_are texts reserved h = values_are 64 SpellsReservation reserve_at reserve_placed 0 texts reserved (omega arith) h

pub reserved_read : (texts : List (Bor (List ℕ))) (reserved : List Reservation) → AreSpelled 64 SpellsReservation 0 texts reserved → values_from reserve_at 0 texts ≡ Ok reserved
reserved_read texts reserved a = values_read 64 SpellsReservation reserve_at reserve_there 0 texts reserved a

pub all_from_start : (n : ℕ) → 0 + n ≤ 64 → n ≤ 64
all_from_start n few = omega (arith, few)
