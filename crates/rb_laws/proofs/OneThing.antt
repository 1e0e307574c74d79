-- 'expire' does one thing, the due one of least number.
use Rattle.std.specs.Prelude.{All, find, option_map}
use Rattle.std.proofs.Common.{◌≡◌, ℕ, ◌+◌, ◌≤◌, max, Option, Some, None, List, [], ◌∷◌, ◌++◌, refl, sym, ap, subst, ◌∙◌, arith}
use Rattle.std.proofs.lemmas.List.Elements.{All-cons, All-weaker}
use Rattle.std.proofs.lemmas.Grind.{common_steps}
use Rattle.rb_address.specs.declared.caller.Caller.{Caller}
use Rattle.rb_rpc.specs.declared.reply.ReplyStatus.TheVariants.{SystemErr}
use Rattle.rb_forward.specs.declared.types.FwdId.{FwdId}
use Rattle.rb_forward.specs.declared.types.Ended as entry
use Rattle.rb_forward.specs.declared.types.ForwardEnd.TheVariants.{Failed}
use Rattle.rb_forward.specs.Forwards.{Entry, is_due as entry_is_due, without_first, id_of, ended_by}
use Rattle.rb_forward.specs.Ends.{NoneIs, IsFirst, EndsFirst}
use Rattle.rb_forward.proofs.Ends.{ends_first, due_means, due_tested}
use Rattle.rb_model.specs.declared.types.Expired.{Expired}
use Rattle.rb_model.specs.Calls.{Outcome}
use Rattle.rb_model.specs.State.{State, Connection}
use Rattle.rb_model.specs.Losses.{is_due}
use Rattle.rb_model.specs.Ending.{outcome_of_failure, outcome_at_end, tell, at_fresh_moment, expire}
use Rattle.rb_model.specs.Step.{IsReached}
use Rattle.rb_model.specs.Laws.{IsLeast}
use Rattle.rb_model.specs.DeadlineLaws.{clock_at, EntryIsDue, DoesOneThing, ExpireDoesOneThing}
use Rattle.rb_laws.proofs.Reached.{reached-sound}
use Rattle.rb_laws.proofs.LeastLost.{first-least}
use Rattle.rb_laws.proofs.EntriesKept.{AreRising, reached-kept}
use Rattle.rb_laws.proofs.DueThings.{end_of, Expiry, expiry}
use Rattle.rb_laws.proofs.DueThings.Expiry.{EntryEnds, ConnectionEnds, NothingDue}

-- ---- entries

from-least : (least next : ℕ) (all : List Entry) → AreRising least next all → All (λ (e : Entry). least ≤ e.number) all
from-least least next [] s = grind arith
from-least least next (e ∷ all) s = grind (arith, from-least (e.number + 1) next all s.1)

-- those before the first are none
split-least : (Is : Entry → Type 0) (least next : ℕ) (before behind : List Entry) (e : Entry) → AreRising least next (before ++ e ∷ behind) → NoneIs Is before
    → All (λ (d : Entry). Is d → e.number ≤ d.number) (before ++ e ∷ behind)
split-least Is least next [] behind e s none = grind (arith, common_steps, All-cons, All-weaker, from-least)
split-least Is least next (x ∷ before) behind e s none = grind (arith, common_steps, All-cons, All-weaker, from-least, split-least Is (x.number + 1) next before behind e s.1 none.1)

first-is-least : (Is : Entry → Type 0) (next : ℕ) (all rest : List Entry) (e : Entry) → AreRising 1 next all → IsFirst Is all e rest → All (λ (d : Entry). Is d → e.number ≤ d.number) all
first-is-least Is next all rest e rising first = grind (arith, common_steps, split-least)

tell-told : (s u : State) (call : FwdId) (caller : Caller) (said : Outcome) → (tell call caller said u).0 ≡ (tell call caller said s).0
tell-told s u call caller said = grind arith

tell-ledger : (u : State) (call : FwdId) (caller : Caller) (said : Outcome) → (tell call caller said u).1.ledger ≡ u.ledger
tell-ledger u call caller said = grind arith

-- ---- one thing

module _ (s : State) (reached : IsReached s) (now : ℕ) where
  abbrev clock : ℕ
  clock = max s.clock now

  ending : (o : Option Entry) → find (entry_is_due clock) s.ledger.forwards.all ≡ o
      → EndsFirst (EntryIsDue (clock_at now s)) Failed s.ledger.forwards (option_map (ended_by Failed) o) (record s.ledger.forwards { all = without_first (entry_is_due clock) s.ledger.forwards.all })
  ending o is = grind (arith, common_steps, ends_first, due_means, due_tested)

  least-found : (o : Option Connection) → find (is_due clock) s.connections.all ≡ o → IsLeast (is_due clock) s.connections.all (option_map (λ (c : Connection). c.number) o)
  least-found o is = grind (arith, common_steps, first-least, reached-sound s reached)

  by_case : (r : Expired × State) → Expiry s clock (at_fresh_moment now s) r → DoesOneThing now s r
  by_case r (EntryEnds e found ledger left is) =
      let ends = ending (Some e) found in
      let same : end_of e ≡ end_of ends.0 = ends.2 in
      let mid : State = record (at_fresh_moment now s) { ledger = ledger } in
      let said : Outcome = outcome_at_end [] (end_of e) in
      subst (DoesOneThing now s) (sym is) (record {
        entry = ends.0;
        ends = subst (λ l. IsFirst (EntryIsDue (clock_at now s)) s.ledger.forwards.all ends.0 l.forwards.all) (sym (tell-ledger mid (id_of e) e.forward.caller said))
            (subst (λ f. IsFirst (EntryIsDue (clock_at now s)) s.ledger.forwards.all ends.0 f.all) (sym left) ends.1);
        least = first-is-least (EntryIsDue (clock_at now s)) s.ledger.forwards.next s.ledger.forwards.all _ ends.0 (reached-kept s reached).order ends.1;
        tells = tell-told s mid (id_of e) e.forward.caller said ∙ ap (λ (x : entry.Ended). (tell x.id x.forward.caller (outcome_of_failure x.forward SystemErr) s).0) same;
      })
  by_case r (ConnectionEnds none c found is) = grind (arith, common_steps, ending None none, least-found (Some c) found)
  by_case r (NothingDue none found is) =
      subst (DoesOneThing now s) (sym is) (record { entries = (ending None none).0; connections = least-found None found; same = refl })

pub expire_does_one_thing : ExpireDoesOneThing
expire_does_one_thing s reached now = by_case s reached now (expire s now) (expiry s now)
