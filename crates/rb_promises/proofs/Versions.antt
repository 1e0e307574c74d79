-- The version in which a call is counted.
use Rattle.std.proofs.Common.{◌≡◌, ℕ, ◌==◌, Bool, true, false, cond, [], ◌∷◌, ◌++◌, refl, ap, ◌∙◌}
use Rattle.std.proofs.lemmas.Bool.{eqb-true, eqb-false, ne_eqb}
use Rattle.rb_rpc.specs.declared.call.CallHead.{CallHead}
use Rattle.rb_stats.specs.declared.key.Version.{Version}
use Rattle.rb_stats.specs.declared.key.Version.TheVariants.{Two, Three, Four}
use Rattle.rb_stats.specs.Statistics.Note.{Called}
use Rattle.rb_answers.specs.Ledger.{Ledger, version_of, with_call_noted}
use Rattle.rb_promises.specs.Sets.{IsVersion}
use Rattle.rb_promises.specs.Sets.IsVersion.{Second, Third, Fourth}
use Rattle.rb_promises.specs.Answers.{IsCounted}

pub version_is : (vers : ℕ) → IsVersion vers (version_of vers)
unfolding version_of
version_is vers = by_two (vers == 2) refl
  where
    by_three : (b : Bool) → (vers == 3) ≡ b → (vers == 2) ≡ false → IsVersion vers (cond b Three Four)
    by_three true e other = Third (eqb-true vers 3 e)
    by_three false e other = Fourth (eqb-false vers 2 other) (eqb-false vers 3 e)

    by_two : (b : Bool) → (vers == 2) ≡ b → IsVersion vers (cond b Two (cond (vers == 3) Three Four))
    by_two true e = Second (eqb-true vers 2 e)
    by_two false e = by_three (vers == 3) refl e

one_version : (vers : ℕ) (version : Version) → IsVersion vers version → version ≡ version_of vers
unfolding version_of
one_version vers Two (Second is) = rw is refl
one_version vers Three (Third is) = rw is refl
one_version vers Four (Fourth second third) = rw (ne_eqb vers 2 second, ne_eqb vers 3 third) refl

pub counted_so : (head : CallHead) (l : Ledger) → IsCounted head l (with_call_noted head l)
unfolding with_call_noted
counted_so head l = record { version = version_of head.vers; is = version_is head.vers; left = refl }

pub one_count : (head : CallHead) (l new : Ledger) → IsCounted head l new → new ≡ with_call_noted head l
unfolding with_call_noted
one_count head l new c =
    c.left ∙ ap (λ (version : Version). record l { history = l.history ++ Called version head.proc ∷ [] }) (one_version head.vers c.version c.is)
