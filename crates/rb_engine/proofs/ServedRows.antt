-- The rows of a served core are read again, and set again.
use Rattle.std.specs.Prelude.{slice_index}
use Rattle.std.specs.List.{AllByRecursion}
use Rattle.std.proofs.Common.{◌≤◌, ◌<◌, ◌^◌, ℕ, zero, suc, List, [], ◌∷◌, length, arith, ap, subst, ◌∙◌, length-append, lit<}
use Rattle.std.proofs.lemmas.List.Elements.{All-from_recursion}
use Rattle.rb_address.specs.declared.who.Owner.{Owner}
use Rattle.rb_address.specs.declared.who.Owner.TheVariants.{Unknown, Uid}
use Rattle.rb_address.specs.declared.who.Trust.{Trust}
use Rattle.rb_address.specs.declared.who.Trust.TheVariants.{Claims, Local, Stranger}
use Rattle.rb_address.specs.Callers.{IsOwner, IsTrust as IsKnown}
use Rattle.rb_rpc.specs.Grammar.{IsCaller}
use Rattle.rb_registry.specs.declared.row.Row.{Row}
use Rattle.rb_model.specs.Step.{Event}
use Rattle.rb_model.specs.Step.Event.{Open, Bytes, Pending, Gave, Closed, NextLost, Datagram, Unsent, Sent, Forward, Expire, ZeroStats}
use Rattle.rb_model.specs.ChangeLaws.{credential_for, set_rows, IsTrust, BringsBytes, IsReachedByBytes}
use Rattle.rb_laws.proofs.Spelling.{kept_rows_are_in_no_statistics}
use Rattle.rb_lines.specs.Tapes.{Tape}
use Rattle.rb_core.specs.StandsFor.{CoreView}
use Rattle.rb_lines.specs.RecordLaws.{AreBytes, HasLine}
use Rattle.rb_keep.specs.Reading.{read as read_kept}
use Rattle.rb_keep.specs.KeptLaws.{CanBeKept}
use Rattle.rb_keep.proofs.Leads.{kept_text_is_read}
use Rattle.rb_engine.specs.Served.{IsServed}
use Rattle.rb_engine.specs.ServedLaws.{ServedPremisesAreMet, ServedRowsAreKept, ServedRowsMayChange}
use Rattle.rb_engine.proofs.Rows.{few_of}

-- ---- each event brings bytes

content_of : (xs : List ℕ) → AreBytes xs → (i : ℕ) → slice_index xs i < 256
content_of [] are i = lit< tt
content_of (x ∷ xs) are zero = are.0
content_of (x ∷ xs) are (suc i) = content_of xs are.1 i

owner_is : (owner : Owner) → IsOwner owner → IsCaller (credential_for owner)
owner_is Unknown is = tt
owner_is (Uid uid) is = is

trust_is : (trust : Trust) → IsKnown trust → IsTrust trust
trust_is Claims is = tt
trust_is (Local owner) is = owner_is owner is
trust_is Stranger is = tt

brings : (event : Event) → HasLine event → BringsBytes event
brings (Open now who) line = trust_is who.trust line.1.2
brings (Bytes now id piece) line = content_of piece line.2
brings (Pending id) line = tt
brings (Gave now id n) line = tt
brings (Closed id) line = tt
brings NextLost line = tt
brings (Datagram now who content) line = (trust_is who.trust line.1.2, content_of content line.2)
brings Unsent line = tt
brings (Sent number) line = tt
brings (Forward now from content) line = tt
brings (Expire now) line = tt
brings ZeroStats line = tt

bring : (events : List Event) → AllByRecursion HasLine events → AllByRecursion BringsBytes events
bring [] lines = tt
bring (event ∷ events) lines = (brings event lines.0, bring events lines.1)

by_bytes : (core : CoreView) (tape : Tape) (served : IsServed core tape) → IsReachedByBytes served.state
by_bytes core tape served = record {
  reached = served.reached;
  bytes = All-from_recursion BringsBytes served.reached.events (bring served.reached.events served.lines);
}

pub served_premises_are_met : ServedPremisesAreMet
served_premises_are_met core tape served = record { bytes = by_bytes core tape served; good = served.good; begins = served.begins }

-- ---- what is kept

pub served_rows_may_change : ServedRowsMayChange
served_rows_may_change core tape served fits = record {
  reached = by_bytes core tape served;
  clock = subst (λ (n : ℕ). n < 2 ^ 64) served.stands.clock fits;
  few = few_set core tape served;
}
  where
    few_set : (core : CoreView) (tape : Tape) (served : IsServed core tape) → length (set_rows served.state) ≤ 4096
    few_set core tape served =
        omega (arith, few_of core tape served, ap (λ (rows : List Row). length rows) served.stands.ledger.registry.rows, length-append served.state.ledger.own (set_rows served.state))

pub served_rows_are_kept : ServedRowsAreKept
served_rows_are_kept core tape served fits text lines =
    let can : CanBeKept served.state = served_rows_may_change core tape served fits in
    let again = kept_rows_are_in_no_statistics served.state can.reached served.good in
    record {
      read_as = ap (λ (t : List ℕ). read_kept t) (lines served.state served.stands served.reached) ∙ kept_text_is_read served.state can.reached can.clock can.few;
      again = again.0;
      uncounted = again.1;
    }
