-- Endings without words that were read.
use Rattle.std.specs.Prelude.{IfErr}
use Rattle.std.specs.Io.KnownBytes.{Appends}
use Rattle.std.proofs.Common.{◌≡◌, ℕ, true, false, List, [], ◌++◌, Option, Result, Ok, Err, refl, sym, ap, ◌∙◌, subst, append-nil, arith, inl, inr}
use Rattle.std.proofs.KnownBytes.{Appends-nil}
use Rattle.rb_show.specs.declared.show.Shown.{Shown}
use Rattle.rb_show.specs.declared.show.Shown.TheVariants.{Rows, Statistics, Port, Address, Null, Removed}
use Rattle.rb_plans.specs.declared.ending.Ending.{Ending}
use Rattle.rb_plans.specs.declared.ending.Notices.{Notices}
use Rattle.rb_plans.specs.declared.fault.Fault.{Fault}
use Rattle.rb_plans.specs.declared.invocation.Invocation.{Invocation}
use Rattle.rb_plans.specs.Ending.{fault_lines, notice_lines, status_of, answer_lines, EndsBy, IsNothing, Says}
use Rattle.rpcinfo.specs.Running.{no_notices, EndsSaying, EndsUnread, IsExplained, IsNoticed}

-- a fault that was explained
pub explained : {E : Type 0} (contents : E → Option (List ℕ)) (faults faults' : E) (ending : Ending) (fault : Fault) → ending.status ≡ 1
    → Says contents faults faults' ending (fault_lines fault) → IsExplained contents faults faults' ending
explained contents faults faults' ending fault one said = record { answer = Err fault; notices = no_notices; status = one; said = said }

pub ends_explained : {O E : Type 0} (contents : E → Option (List ℕ)) (output output' : O) (faults faults' : E) (ending : Ending) (fault : Fault) → ending.status ≡ 1
    → Says contents faults faults' ending (fault_lines fault) → EndsUnread contents output output' faults faults' ending
ends_explained contents output output' faults faults' ending fault one said = record {
  status = omega (arith, one);
  quiet = λ e. absurd (omega (arith, one, e));
  failed = λ e. explained contents faults faults' ending fault one said;
  unwritten = λ e. absurd (omega (arith, one, e));
}

-- nothing was to be noticed
pub unread_noticed : {E : Type 0} (contents : E → Option (List ℕ)) (faults faults' : E) (ending : Ending) → faults' ≡ faults → IsNoticed contents faults faults' ending
unread_noticed contents faults faults' ending e = record {
  notices = no_notices;
  quiet = λ none. e;
  said = λ told. rw e (Appends-nil (contents faults));
}

-- a success says no more than what there is to notice
no_lines : (answer : Result Shown Fault) → status_of answer ≡ 0 → answer_lines answer ≡ []
no_lines (Ok (Rows n)) e = refl
no_lines (Ok (Statistics n)) e = refl
no_lines (Ok (Port port)) e = refl
no_lines (Ok (Address address)) e = refl
no_lines (Ok Null) e = refl
no_lines (Ok (Removed true)) e = refl
no_lines (Ok (Removed false)) e = absurd (omega (arith, e))
no_lines (Err fault) e = absurd (omega (arith, e))

-- it was noticed by what was said from a moment on before which nothing was
pub noticed : {E : Type 0} (contents : E → Option (List ℕ)) (faults between faults' : E) (ending : Ending) (answer : Result Shown Fault) (notices : Notices) → between ≡ faults → ending.status ≡ 0
    → EndsBy contents between faults' ending answer notices → (ending.status ≡ 0 → IsNothing notices → faults' ≡ between) → IsNoticed contents faults faults' ending
noticed {E} contents faults between faults' ending answer notices same zero ends quiet = record {
  notices = notices;
  quiet = λ none. quiet zero none ∙ same;
  said = λ told.
      let lines : notice_lines notices ++ answer_lines answer ≡ notice_lines notices = ap (λ (more : List ℕ). notice_lines notices ++ more) (no_lines answer (sym ends.status ∙ zero)) ∙ append-nil (notice_lines notices) in
      let written : Appends (contents between) (contents faults') (notice_lines notices) = subst (Appends (contents between) (contents faults')) lines (ends.said told) in
      subst (λ (f : E). Appends (contents f) (contents faults') (notice_lines notices)) same written;
}

-- words that can't be read are an ending that says something
pub unread_says : {E : Type 0} (contents : E → Option (List ℕ)) (faults faults' : E) (result : Result Invocation Ending) → IfErr result (λ ending. ending.status ≡ 2)
    → IfErr result (EndsSaying contents faults faults')
unread_says contents faults faults' (Ok words) p = tt
unread_says contents faults faults' (Err ending) p = inr p
