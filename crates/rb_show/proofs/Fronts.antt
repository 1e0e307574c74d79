-- What is told of fronts, one after the other.
use Rattle.std.proofs.Common.{◌≡◌, ◌+◌, ◌-◌, ℕ, List, [], ◌++◌, length, drop, Ok, Err, refl, sym, ap, ◌∙◌, append_assoc, append-nil, arith, inl, inr, subst}
use Rattle.std.specs.Prelude.{slice_range}
use Rattle.std.proofs.lemmas.List.{drop-drop, drop_at, length-drop, take-append-drop, take_all}
use Rattle.rb_xdr.specs.declared.fault.XdrFault.{XdrFault}
use Rattle.rb_xdr.specs.declared.fault.XdrFault.TheVariants.{Short, TooLong, BadBool, BadPadding}
use Rattle.rb_xdr.specs.Xdr.{Reading, Reader}
use Rattle.rb_xdr.specs.XdrLaws.{BeginsWith, IsComplete}
use Rattle.rb_xdr.specs.Forms.{Form, HasForm}
use Rattle.rb_show.specs.declared.fault.InfoFault.{InfoFault}
use Rattle.rb_show.specs.declared.take.Pause.{Pause}
use Rattle.rb_show.specs.declared.take.Pause.TheVariants.{More, Fault}
use Rattle.rb_show.specs.Telling.{Told, Teller, add_lines, tell_on, ◌>>=◌, give, stop, told_by, take_one}
use Rattle.rb_show.specs.Telling.Told.{Done, Stop}
use Rattle.rb_show.specs.Fronts.{GoesOn, Pauses, Takes, pause_of}
use Rattle.rb_show.proofs.LastingFaults.{unreadable_stays}

-- ---- lines

pub no_lines : {A : Type 0} (told : Told A) → add_lines [] told ≡ told
no_lines (Done more x left) = refl
no_lines (Stop more fault) = refl

pub add_add : {A : Type 0} (a b : List (List ℕ)) (told : Told A) → add_lines a (add_lines b told) ≡ add_lines (a ++ b) told
add_add a b (Done more x left) = ap (λ (xs : List (List ℕ)). Done xs x left) (sym (append_assoc a b more))
add_add a b (Stop more fault) = ap (λ (xs : List (List ℕ)). Stop xs fault) (sym (append_assoc a b more))

on_lines : {A B : Type 0} (lines : List (List ℕ)) (told : Told A) (next : A → List ℕ → Told B) → tell_on (add_lines lines told) next ≡ add_lines lines (tell_on told next)
on_lines lines (Done more x left) next = sym (add_add lines more (next x left))
on_lines lines (Stop more fault) next = refl

-- ---- one after the other

module _ {A B : Type 0} (teller : Teller A) (next : A → Teller B) (bytes : List ℕ) where
  pub goes_then : (lines : List (List ℕ)) (used : ℕ) (rest : Teller A) → GoesOn teller bytes lines used rest → GoesOn (teller >>= next) bytes lines used (rest >>= next)
  unfolding ◌>>=◌
  goes_then lines used rest p end more =
      ap (λ (told : Told A). tell_on told (λ x. next x end)) (p end more) ∙ on_lines lines (rest end (drop used bytes ++ more)) (λ x. next x end)

  pub gives_then : (lines : List (List ℕ)) (used : ℕ) (x : A) → GoesOn teller bytes lines used (give x) → GoesOn (teller >>= next) bytes lines used (next x)
  unfolding ◌>>=◌
  gives_then lines used x p end more = goes_then lines used (give x) p end more ∙ ap (add_lines lines) (no_lines (next x end (drop used bytes ++ more)))

  pub pauses_then : (pause : Pause) → Pauses teller bytes pause → Pauses (teller >>= next) bytes pause
  unfolding ◌>>=◌
  pauses_then More p = λ end. ap (λ (told : Told A). tell_on told (λ x. next x end)) (p end)
  pauses_then (Fault fault) (inl e) = inl e
  pauses_then (Fault fault) (inr p) = inr (λ end more. ap (λ (told : Told A). tell_on told (λ x. next x end)) (p end more))

module _ {A : Type 0} (teller : Teller A) (bytes : List ℕ) (lines : List (List ℕ)) (used : ℕ) (rest : Teller A) where
  pub goes_further : (more_lines : List (List ℕ)) (more_used : ℕ) (last : Teller A) → GoesOn teller bytes lines used rest
      → GoesOn rest (drop used bytes) more_lines more_used last → GoesOn teller bytes (lines ++ more_lines) (used + more_used) last
  goes_further more_lines more_used last p q end more =
      p end more ∙ ap (add_lines lines) (q end more) ∙ add_add lines more_lines (last end (drop more_used (drop used bytes) ++ more))
      ∙ ap (λ (xs : List ℕ). add_lines (lines ++ more_lines) (last end (xs ++ more))) (drop-drop more_used used bytes)

  -- where what is told next does not depend on the bytes
  pub goes_at_once : (more_lines : List (List ℕ)) (last : Teller A) → GoesOn teller bytes lines used rest
      → ((end : InfoFault) (content : List ℕ) → rest end content ≡ add_lines more_lines (last end content)) → GoesOn teller bytes (lines ++ more_lines) used last
  goes_at_once more_lines last p q end more =
      p end more ∙ ap (add_lines lines) (q end (drop used bytes ++ more)) ∙ add_add lines more_lines (last end (drop used bytes ++ more))

  -- what is told then
  stops_after : (end : InfoFault) (fault : InfoFault) → GoesOn teller bytes lines used rest → rest end (drop used bytes) ≡ Stop [] fault → teller end bytes ≡ Stop (lines ++ []) fault
  stops_after end fault p q =
      ap (teller end) (sym (append-nil bytes)) ∙ p end [] ∙ ap (λ (xs : List ℕ). add_lines lines (rest end xs)) (append-nil (drop used bytes)) ∙ ap (add_lines lines) q

pub pauses_after : {A : Type 0} (teller : Teller A) (bytes : List ℕ) (used : ℕ) (rest : Teller A) (pause : Pause) → GoesOn teller bytes [] used rest → Pauses rest (drop used bytes) pause → Pauses teller bytes pause
pauses_after teller bytes used rest More p q = λ end. stops_after teller bytes [] used rest end end p (q end)
pauses_after teller bytes used rest (Fault fault) p (inl e) = inl e
pauses_after teller bytes used rest (Fault fault) p (inr q) = inr (λ end more. p end more ∙ ap (add_lines []) (q end more))

-- ---- two values

pub gives : {A : Type 0} (x : A) (bytes : List ℕ) → Takes (give x) bytes x 0
gives x bytes = record { within = omega arith; goes_on = λ end more. refl }

pub breaks : {A : Type 0} (fault : InfoFault) (bytes : List ℕ) → Pauses {A = A} (stop fault) bytes (Fault fault)
breaks fault bytes = inr (λ end more. refl)

pub tail_is : (used : ℕ) (bytes : List ℕ) → slice_range bytes used (length bytes) ≡ drop used bytes
tail_is used bytes = take_all (length bytes - used) (drop used bytes) (omega (arith, length-drop used bytes))

module _ {A B : Type 0} (teller : Teller A) (next : A → Teller B) (bytes : List ℕ) (x : A) (used : ℕ) where
  abbrev tail : List ℕ
  tail = slice_range bytes used (length bytes)

  pub takes_then : (y : B) (more : ℕ) → Takes teller bytes x used → Takes (next x) tail y more → Takes (teller >>= next) bytes y (used + more)
  takes_then y more p q =
      let r : Takes (next x) (drop used bytes) y more = subst (λ (xs : List ℕ). Takes (next x) xs y more) (tail_is used bytes) q in
      record {
        within = omega (arith, p.within, r.within, length-drop used bytes);
        goes_on = goes_further (teller >>= next) bytes [] used (next x) [] more (give y) (gives_then teller next bytes [] used x p.goes_on) r.goes_on;
      }

  -- a value that is given at once
  pub takes_give : (y : B) → Takes teller bytes x used → ((end : InfoFault) (content : List ℕ) → next x end content ≡ Done [] y content) → Takes (teller >>= next) bytes y used
  takes_give y p e = record {
    within = p.within;
    goes_on = λ end more. gives_then teller next bytes [] used x p.goes_on end more ∙ ap (add_lines []) (e end (drop used bytes ++ more));
  }

  pub takes_pause : (pause : Pause) → Takes teller bytes x used → Pauses (next x) tail pause → Pauses (teller >>= next) bytes pause
  takes_pause pause p q =
      pauses_after (teller >>= next) bytes used (next x) pause (gives_then teller next bytes [] used x p.goes_on) (subst (λ (xs : List ℕ). Pauses (next x) xs pause) (tail_is used bytes) q)

  pub takes_stop : (fault : InfoFault) → Takes teller bytes x used → next x ≡ stop fault → Pauses (teller >>= next) bytes (Fault fault)
  takes_stop fault p e =
      pauses_after (teller >>= next) bytes used (next x) (Fault fault) (gives_then teller next bytes [] used x p.goes_on)
      (subst (λ (t : Teller B). Pauses t (drop used bytes) (Fault fault)) (sym e) (breaks {A = B} fault (drop used bytes)))

-- ---- a value of XDR

module _ {A : Type 0} (is_value : A → Type 0) (spelling : A → List ℕ) (reads : Reader A) where
  pub takes_value : IsComplete is_value spelling reads → (bytes : List ℕ) (x : A) (n : ℕ) → BeginsWith is_value spelling bytes (x, n) → Takes (take_one reads) bytes x n
  unfolding take_one
  takes_value complete bytes x n begins = record {
    within = begins.0;
    goes_on = λ end more.
        let rest : List ℕ = drop n bytes ++ more in
        let text : bytes ++ more ≡ spelling x ++ rest =
        ap (λ (xs : List ℕ). xs ++ more) (sym (take-append-drop n bytes) ∙ ap (λ (xs : List ℕ). xs ++ drop n bytes) begins.1.1) ∙ append_assoc (spelling x) (drop n bytes) more in
        let read : reads (bytes ++ more) ≡ Ok (x, length (spelling x)) = ap reads text ∙ complete x rest begins.1.0 in
        let left : drop (length (spelling x)) (bytes ++ more) ≡ rest = ap (drop (length (spelling x))) text ∙ drop_at (spelling x) rest (length (spelling x)) refl in
        ap (λ (r : Reading A). told_by end r (bytes ++ more)) read ∙ ap (λ (xs : List ℕ). Done [] x xs) left;
  }

  pub lacks_value : (form : Form) → HasForm form reads → (bytes : List ℕ) (fault : XdrFault) → reads bytes ≡ Err fault → Pauses (take_one reads) bytes (pause_of fault)
  unfolding take_one
  lacks_value form has bytes Short e = λ end. ap (λ (r : Reading A). told_by end r bytes) e
  lacks_value form has bytes TooLong e = inr (λ end more. unreadable_stays reads form has bytes more TooLong e (λ s. absurd cc) end)
  lacks_value form has bytes BadBool e = inr (λ end more. unreadable_stays reads form has bytes more BadBool e (λ s. absurd cc) end)
  lacks_value form has bytes BadPadding e = inr (λ end more. unreadable_stays reads form has bytes more BadPadding e (λ s. absurd cc) end)
