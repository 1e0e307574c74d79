-- What is read of an input, and what is told of it.
use Rattle.std.specs.Prelude.{IfSome}
use Rattle.std.proofs.Common.{◌≡◌, ◌+◌, ◌⊎◌, ℕ, List, [], length, take, Option, Some, None, Result, Ok, Err, refl, ap, ◌∙◌, subst, arith, inl, inr}
use Rattle.std.proofs.KnownBytes.{Appends-nil, Keeps-refl}
use Rattle.std.proofs.lemmas.List.{length-take, take_all}
use Rattle.std.proofs.lemmas.Bool.{cases_lt, lt-ltb, le-ltb}
use Rattle.rb_show.specs.declared.fault.InfoFault.{InfoFault}
use Rattle.rb_show.specs.declared.fault.InfoFault.TheVariants.{Read, Memory}
use Rattle.rb_show.specs.Telling.{Told, Outcome}
use Rattle.rb_show.specs.declared.ask.Ask.{Ask}
use Rattle.rb_show.specs.declared.form.Form.{Form}
use Rattle.rb_show.specs.declared.show.Shown.{Shown}
use Rattle.rb_show.specs.Replies.{tell_bytes}
use Rattle.rb_plans.specs.Input.{longest_text, bytes_of, tell_read, tell_text, IsEnoughOf, IsToldOr}

-- enough of a text gives what it gives
bytes_of-take : (text : List ℕ) → bytes_of (take (longest_text + 1) text) ≡ bytes_of text
bytes_of-take text =
    let len : length (take (longest_text + 1) text) ≡ _ = length-take (longest_text + 1) text in
    elim (cases_lt longest_text (length text)) [
      | inl long ↦ rw (lt-ltb longest_text (length text) long, lt-ltb longest_text (length (take (longest_text + 1) text)) (omega (arith, long, len))) refl
      | inr fits ↦ ap bytes_of (take_all (longest_text + 1) text (omega (arith, fits)))
    ]

-- what is told of enough of an input is told of the input
pub told_of_input : (left : Option (List ℕ)) (text : List ℕ) (ask : Ask) (form : Form) (old new : Option (List ℕ)) (result : Result Shown InfoFault) → IsEnoughOf left text
    → IsToldOr (tell_text ask form text) old new result → IfSome left (λ input. IsToldOr (tell_text ask form input) old new result)
told_of_input None text ask form old new result is told = tt
told_of_input (Some input) text ask form old new result is told = subst (λ (bytes : Result (List ℕ) InfoFault). IsToldOr (tell_read ask form bytes) old new result) (ap bytes_of is ∙ bytes_of-take input) told

-- nothing was written before memory was refused
told_cut : (told : Told Shown) (held : Option (List ℕ)) (fault : InfoFault) → fault ≡ Memory → IsToldOr told held held (Err fault)
told_cut told held fault e = inl (inl (inr (ap (λ (f : InfoFault). Err f) e, Keeps-refl held)))

-- nothing was written of a text that gives no bytes
pub told_stop : (ask : Ask) (form : Form) (text : List ℕ) (held : Option (List ℕ)) (fault : InfoFault) → (fault ≡ Memory) ⊎ (bytes_of text ≡ Err fault) → IsToldOr (tell_text ask form text) held held (Err fault)
told_stop ask form text held fault (inl e) = told_cut (tell_text ask form text) held fault e
told_stop ask form text held fault (inr e) = rw e (inl (inr (record { lines = []; ends = refl; written = Appends-nil held })))

-- the reply that a text gives was shown
pub told_reply : (ask : Ask) (form : Form) (text bytes : List ℕ) (old new : Option (List ℕ)) (result : Result Shown InfoFault) → bytes_of text ≡ Ok bytes
    → Outcome (tell_bytes ask form 1 bytes) old new result → IsToldOr (tell_text ask form text) old new result
told_reply ask form text bytes old new result e outcome = rw e (inl outcome)

-- nothing was written if no text was read
pub cut_input : (left : Option (List ℕ)) (ask : Ask) (form : Form) (held : Option (List ℕ)) (fault : InfoFault) → (fault ≡ Memory) ⊎ (fault ≡ Read) → IfSome left (λ input. IsToldOr (tell_text ask form input) held held (Err fault))
cut_input None ask form held fault is = tt
cut_input (Some input) ask form held fault (inl e) = told_cut (tell_text ask form input) held fault e
cut_input (Some input) ask form held fault (inr e) = inr (ap (λ (f : InfoFault). Err f) e, Keeps-refl held)
