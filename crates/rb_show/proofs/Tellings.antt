-- A reply that is told value by value.
use Rattle.std.proofs.Common.{◌≡◌, ◌<◌, ◌≤◌, ◌+◌, ◌-◌, ℕ, Bool, true, false, cond, nat_eq, List, [], ◌++◌, length, drop, Some, None, Result, Ok, Err, refl, sym, ap, ◌∙◌, subst, append_assoc, append-nil, arith, inl, inr}
use Rattle.std.proofs.lemmas.Grind.{flat_map-append}
use Rattle.std.specs.Global.{Vec}
use Rattle.rb_rpc.specs.declared.reply.ReplyHead.{ReplyHead}
use Rattle.rb_arguments.specs.declared.mapping.Mapping.{Mapping}
use Rattle.rb_arguments.specs.declared.rpcb.Rpcb.{Rpcb}
use Rattle.rb_show.specs.declared.ask.Ask.{Ask}
use Rattle.rb_show.specs.declared.fault.InfoFault.{InfoFault}
use Rattle.rb_show.specs.declared.fault.InfoFault.TheVariants.{Unreadable, Refused}
use Rattle.rb_show.specs.declared.form.Form.{Form}
use Rattle.rb_show.specs.declared.show.Shown.{Shown}
use Rattle.rb_show.specs.declared.stage.Stage.{Stage}
use Rattle.rb_show.specs.declared.stage.Stage.TheVariants.{Item, Row, Mapping as Mapped, Port, Address, Unset, Numbers, LookUp, Forward, Done as Ended}
use Rattle.rb_show.specs.declared.take.Pause.TheVariants.{More, Fault}
use Rattle.rb_show.specs.declared.telling.At.{At}
use Rattle.rb_show.specs.declared.telling.At.TheVariants.{Head, Results}
use Rattle.rb_show.specs.declared.telling.Telling.{Telling}
use Rattle.rb_show.specs.Heads.{take_head}
use Rattle.rb_show.specs.Telling.{Teller, give, stop, add_lines, lines_text}
use Rattle.rb_show.specs.Telling.Told.{Stop}
use Rattle.rb_show.specs.Fronts.{GoesOn, Lacks, Pauses, Takes, Tells}
use Rattle.rb_show.specs.Replies.{is_success, by_head, tell_reply, tell_results}
use Rattle.rb_show.specs.Stages.{first_stage, first_lines, check_head, rest_at, done_of}
use Rattle.rb_show.specs.Tellings.{rest_from, rest_of, done_at, StepsTo, TellsAllOr}
use Rattle.rb_show.proofs.Fronts.{no_lines, gives_then, goes_at_once, goes_further, pauses_after, breaks}
use Rattle.rb_show.proofs.Stages.{begins}

-- ---- the head

results_follow : (form : Form) (ask : Ask) (xid : ℕ) (head : ReplyHead) → check_head head xid ≡ Ok tt → by_head form ask.question xid head ≡ tell_results form ask.question
unfolding by_head
results_follow form ask xid head e = by_tests (nat_eq head.xid xid) (is_success head.status) e
  where
    by_tests : (same success : Bool) → cond {A = Result (Unit {0}) InfoFault} same (cond success (Ok tt) (Err (Refused head))) (Err Unreadable) ≡ Ok tt
        → cond same (cond success (tell_results form ask.question) (stop (Refused head))) (stop Unreadable) ≡ tell_results form ask.question
    by_tests true true is = refl
    by_tests true false is = absurd cc
    by_tests false success is = absurd cc

results_stop : (form : Form) (ask : Ask) (xid : ℕ) (head : ReplyHead) (fault : InfoFault) → check_head head xid ≡ Err fault → by_head form ask.question xid head ≡ stop fault
unfolding by_head
results_stop form ask xid head fault e = by_tests (nat_eq head.xid xid) (is_success head.status) e
  where
    by_tests : (same success : Bool) → cond {A = Result (Unit {0}) InfoFault} same (cond success (Ok tt) (Err (Refused head))) (Err Unreadable) ≡ Err fault
        → cond same (cond success (tell_results form ask.question) (stop (Refused head))) (stop Unreadable) ≡ stop fault
    by_tests true true is = absurd cc
    by_tests true false is = ap stop (let same : Refused head ≡ fault = cc in same)
    by_tests false success is = ap stop (let same : Unreadable ≡ fault = cc in same)

module _ (ask : Ask) (form : Form) (xid : ℕ) (bytes : List ℕ) (head : ReplyHead) (used : ℕ) (takes : Takes take_head bytes head used) where
  after_head : GoesOn (tell_reply ask form xid) bytes [] used (by_head form ask.question xid head)
  unfolding tell_reply
  after_head = gives_then take_head (by_head form ask.question xid) bytes [] used head takes.goes_on

  pub head_stops : (fault : InfoFault) → check_head head xid ≡ Err fault → Pauses (tell_reply ask form xid) bytes (Fault fault)
  head_stops fault e =
      pauses_after (tell_reply ask form xid) bytes used (stop fault) (Fault fault)
      (subst (GoesOn (tell_reply ask form xid) bytes [] used) (results_stop form ask xid head fault e) after_head) (breaks {A = Shown} fault (drop used bytes))

  pub head_tells : (old new : List ℕ) → 0 < used → check_head head xid ≡ Ok tt → new ≡ old ++ lines_text (first_lines form ask.question)
      → Tells (tell_reply ask form xid) bytes used (rest_at form [] [] (first_stage ask.question)) old new
  head_tells old new some e text = record {
    lines = first_lines form ask.question;
    some = some;
    within = takes.within;
    text = text;
    goes_on = goes_at_once (tell_reply ask form xid) bytes [] used (tell_results form ask.question) (first_lines form ask.question) (rest_at form [] [] (first_stage ask.question))
        (subst (GoesOn (tell_reply ask form xid) bytes [] used) (results_follow form ask xid head e) after_head) (begins form ask.question);
  }

-- ---- all that is told

done_is : (form : Form) (rows : List Rpcb) (mappings : List Mapping) (stage : Stage) (shown : Shown) → done_of stage ≡ Some shown → rest_at form rows mappings stage ≡ give shown
done_is form rows mappings (Ended what) shown e = ap give (let same : what ≡ shown = cc in same)
done_is form rows mappings (Item list count) shown e = absurd cc
done_is form rows mappings Row shown e = absurd cc
done_is form rows mappings Mapped shown e = absurd cc
done_is form rows mappings Port shown e = absurd cc
done_is form rows mappings Address shown e = absurd cc
done_is form rows mappings Unset shown e = absurd cc
done_is form rows mappings (Numbers counted) shown e = absurd cc
done_is form rows mappings (LookUp counted count) shown e = absurd cc
done_is form rows mappings (Forward counted found count) shown e = absurd cc

rest_is : (t : Telling) (shown : Shown) → done_at t.at ≡ Some shown → rest_of t ≡ give shown
rest_is t shown e = by_at t.at e
  where
    by_at : (at : At) → done_at at ≡ Some shown → rest_from t at ≡ give shown
    by_at Head is = absurd cc
    by_at (Results stage) is = done_is t.form t.rows.items t.mappings.items stage shown is

-- what was told so far
pub record HasTold (old now : Telling) (bytes text text' : List ℕ) (used : ℕ) : Type 0 where
  pub lines : List (List ℕ)
  pub within : used ≤ length bytes
  pub written : text' ≡ text ++ lines_text lines
  pub goes_on : GoesOn (rest_of old) bytes lines used (rest_of now)

pub nothing_told : (t : Telling) (bytes text : List ℕ) → HasTold t t bytes text text 0
nothing_told t bytes text = record {
  lines = [];
  within = omega arith;
  written = sym (append-nil text);
  goes_on = λ end more. sym (no_lines (rest_of t end (bytes ++ more)));
}

pub one_told : (old now new : Telling) (bytes text text' text'' : List ℕ) (used more : ℕ) → HasTold old now bytes text text' used
    → Tells (rest_of now) (drop used bytes) more (rest_of new) text' text'' → length (drop used bytes) ≡ length bytes - used → HasTold old new bytes text text'' (used + more)
one_told old now new bytes text text' text'' used more h s size = record {
  lines = h.lines ++ s.lines;
  within = omega (arith, h.within, s.within, size);
  written = s.text ∙ ap (λ (xs : List ℕ). xs ++ lines_text s.lines) h.written ∙ append_assoc text (lines_text h.lines) (lines_text s.lines)
      ∙ ap (λ (xs : List ℕ). text ++ xs) (sym (flat_map-append (λ (line : List ℕ). line) h.lines s.lines));
  goes_on = goes_further (rest_of old) bytes h.lines used (rest_of now) s.lines more (rest_of new) h.goes_on s.goes_on;
}

pub told_done : (old now : Telling) (bytes : List ℕ) (text text' : Vec ℕ) (used : ℕ) (shown : Shown) → HasTold old now bytes text.items text'.items used → done_at now.at ≡ Some shown
    → TellsAllOr old now bytes text text' (used, Ok (Some shown))
told_done old now bytes text text' used shown h e =
    inr (record { lines = h.lines; written = h.written; up_to = subst (GoesOn (rest_of old) bytes h.lines used) (rest_is now shown e) h.goes_on })

pub told_more : (old now new : Telling) (bytes : List ℕ) (text text' text'' : Vec ℕ) (used : ℕ) → HasTold old now bytes text.items text'.items used → StepsTo now new (drop used bytes) text' text'' (Err More)
    → TellsAllOr old new bytes text text'' (used, Ok None)
told_more old now new bytes text text' text'' used h s = inr (record {
  lines = h.lines;
  written = s.1 ∙ h.written;
  up_to = (
    subst (GoesOn (rest_of old) bytes h.lines used) (sym s.0) h.goes_on,
    subst (λ (rest : Teller Shown). Lacks rest (drop used bytes)) (sym s.0) s.2,
  );
})

pub told_fault : (old now new : Telling) (bytes : List ℕ) (text text' text'' : Vec ℕ) (used : ℕ) (fault : InfoFault) → HasTold old now bytes text.items text'.items used
    → StepsTo now new (drop used bytes) text' text'' (Err (Fault fault)) → TellsAllOr old new bytes text text'' (used, Err fault)
told_fault old now new bytes text text' text'' used fault h s = by_pause s.2
  where
    by_pause : Pauses (rest_of now) (drop used bytes) (Fault fault) → TellsAllOr old new bytes text text'' (used, Err fault)
    by_pause (inl e) = inl (ap (λ (f : InfoFault). Err f) e)
    by_pause (inr p) = inr (record {
      lines = h.lines;
      written = s.1 ∙ h.written;
      up_to = λ end more. h.goes_on end more ∙ ap (add_lines h.lines) (p end more) ∙ ap (λ (xs : List (List ℕ)). Stop xs fault) (append-nil h.lines);
    })
