-- An answer whose lines are written out.
use Rattle.std.specs.Prelude.{IfSome}
use Rattle.std.specs.Io.KnownBytes.{Keeps}
use Rattle.std.proofs.KnownBytes.{Appends-kept, Keeps-trans}
use Rattle.std.proofs.Common.{ℕ, List, Option, Some, None, Result, Ok, Err, refl, inl, inr}
use Rattle.rb_show.specs.declared.fault.InfoFault.{InfoFault}
use Rattle.rb_show.specs.Telling.{Told}
use Rattle.rb_show.specs.declared.ask.Ask.{Ask}
use Rattle.rb_show.specs.declared.form.Form.{Form}
use Rattle.rb_show.specs.declared.show.Shown.{Shown}
use Rattle.rb_plans.specs.declared.fault.Fault.{Fault}
use Rattle.rb_plans.specs.declared.fault.Fault.TheVariants.{Info, NoConnection, NoSocket, NoReply, NoHost, NoAddress, NotAvailable, NoProgram, TooManyVersions, TooManyRoutes, SomeLack}
use Rattle.rb_plans.specs.Input.{tell_text, IsToldOr}
use Rattle.rb_plans.specs.Told.{IsToldAs, IsOut}

outcome_out : (told : Told Shown) (a b c : Option (List ℕ)) (result : Result Shown InfoFault) → Keeps b c → IsToldOr told a b result → IsToldOr told a c result
outcome_out told a b c result k (inl (inl (inl failed))) = inl (inl (inl failed))
outcome_out told a b c result k (inl (inl (inr none))) = inl (inl (inr (none.0, Keeps-trans a b c none.1 k)))
outcome_out told a b c result k (inl (inr o)) = inl (inr (record { lines = o.lines; ends = o.ends; written = Appends-kept a b c _ o.written k }))
outcome_out told a b c result k (inr unread) = inr (unread.0, Keeps-trans a b c unread.1 k)

told_out : (told : Told Shown) (a b c : Option (List ℕ)) (answer result : Result Shown Fault) → Keeps b c → IsOut answer result → IsToldAs told a b answer → IsToldAs told a c result
told_out told a b c (Ok shown) result k (inl e) p = rw e (outcome_out told a b c (Ok shown) k p)
told_out told a b c (Ok shown) result k (inr e) p = rw e (inl (inl (inl refl)))
told_out told a b c (Err (Info fault)) result k e p = rw e (outcome_out told a b c (Err fault) k p)
told_out told a b c (Err NoConnection) result k e p = absurd p
told_out told a b c (Err NoSocket) result k e p = absurd p
told_out told a b c (Err NoReply) result k e p = absurd p
told_out told a b c (Err NoHost) result k e p = absurd p
told_out told a b c (Err (NoAddress family)) result k e p = absurd p
told_out told a b c (Err TooManyVersions) result k e p = absurd p
told_out told a b c (Err TooManyRoutes) result k e p = absurd p
told_out told a b c (Err (NotAvailable prog vers why)) result k e p = absurd p
told_out told a b c (Err (NoProgram prog why)) result k e p = absurd p
told_out told a b c (Err SomeLack) result k e p = absurd p

-- what is told of an input is told of it once the lines are out
pub known_out : (left : Option (List ℕ)) (ask : Ask) (form : Form) (a b c : Option (List ℕ)) (answer result : Result Shown Fault) → Keeps b c → IsOut answer result
    → IfSome left (λ text. IsToldAs (tell_text ask form text) a b answer) → IfSome left (λ text. IsToldAs (tell_text ask form text) a c result)
known_out None ask form a b c answer result k e p = tt
known_out (Some text) ask form a b c answer result k e p = told_out (tell_text ask form text) a b c answer result k e p
