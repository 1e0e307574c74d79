-- How entries of forwarded calls end.
use Rattle.std.specs.Prelude.{find}
use Rattle.std.specs.Option.{option_map}
use Rattle.std.proofs.Common.{◌≡◌, ℕ, max, Bool, true, Option, Some, None, List, [], ◌++◌, refl, sym, ap, subst, append-nil, arith}
use Rattle.rb_address.specs.declared.caller.Caller.{Caller}
use Rattle.rb_forward.specs.declared.types.ForwardEnd as target
use Rattle.rb_forward.specs.declared.types.ForwardEnd.TheVariants.{Failed}
use Rattle.rb_forward.specs.declared.types.Ended.{Ended as EntryEnd}
use Rattle.rb_forward.specs.declared.types.FwdId.{FwdId}
use Rattle.rb_forward.specs.Forwards.{Entry, Forwards, id_of, ended_by, with_end, without_first, counts_for, is_due, outcome_of, reply, due}
use Rattle.rb_forward.specs.Ends.{IsFirst, IsReplyTo, EndsFirst as TableEnds}
use Rattle.rb_forward.proofs.Ends.{ends_first, reply_means, reply_tested, due_means, due_tested}
use Rattle.rb_answers.specs.Ledger.{Ledger}
use Rattle.rb_answers.specs.Forwarding.{noted_end, target_replied, fell_due}
use Rattle.rb_model.specs.declared.types.Told.{Told}
use Rattle.rb_model.specs.Calls.{Outcome}
use Rattle.rb_model.specs.State.{State}
use Rattle.rb_model.specs.Losses.{first_due, with_lost, expire_first}
use Rattle.rb_model.specs.Ending.{outcome_at_end, tell, tell_end, at_fresh_moment, forward_reply, lost_as, expire_connection, expired_as, expire}
use Rattle.rb_model.specs.DeadlineLaws.{EntryIsDue}
use Rattle.rb_model.specs.ForwardLaws.{CallerGets, EndsFirst, EndsNone, EndsByReply, RepliesEndTheirOwn, EndsByDeadline, DeadlinesEndOne}

-- ---- one event

-- the first such entry ends, or none does
module _ (Is : Entry → Type 0) (test : Entry → Bool) (means : (e : Entry) → test e ≡ true → Is e) (tested : (e : Entry) → Is e → test e ≡ true)
    (s : State) (now : ℕ) (message : List ℕ) (outcome : target.ForwardEnd) where
  abbrev ends : Option EntryEnd × Ledger
  ends = noted_end (with_end test outcome s.ledger.forwards) s.ledger

  abbrev says : Entry → Outcome
  says e = outcome_at_end message (ended_by outcome e)

  abbrev pub EndsOrNot : Option Told → State → Type 0
  EndsOrNot None t = EndsNone Is s now t
  EndsOrNot (Some told) t = EndsFirst Is says s (max s.clock now) told t

  same_ledger : (f : Forwards) → f ≡ s.ledger.forwards → record s.ledger { history = s.ledger.history ++ []; forwards = f } ≡ s.ledger
  same_ledger f is = rw (is, append-nil s.ledger.history) refl

  is_told : (e : Entry) (l : Ledger) (call : FwdId) (caller : Caller) → CallerGets s (max s.clock now) (says e) call caller (tell call caller (says e) (record (at_fresh_moment now s) { ledger = l })).0 (tell call caller (says e) (record (at_fresh_moment now s) { ledger = l })).1
  is_told e l call caller = grind arith

  same_entries : (e : Entry) (l : Ledger) (call : FwdId) (caller : Caller) → (tell call caller (says e) (record (at_fresh_moment now s) { ledger = l })).1.ledger ≡ l
  same_entries e l call caller = grind arith

  pub ends_or_not : EndsOrNot (tell_end message (at_fresh_moment now s) ends).0 (tell_end message (at_fresh_moment now s) ends).1
  ends_or_not = by_found (find test s.ledger.forwards.all) refl (ends_first Is test means tested outcome s.ledger.forwards)
    where
      left : Forwards
      left = record s.ledger.forwards { all = without_first test s.ledger.forwards.all }

      by_found : (o : Option Entry) → find test s.ledger.forwards.all ≡ o → TableEnds Is outcome s.ledger.forwards (option_map (ended_by outcome) o) left
          → EndsOrNot (tell_end message (at_fresh_moment now s) (noted_end (option_map (ended_by outcome) o, left) s.ledger)).0 (tell_end message (at_fresh_moment now s) (noted_end (option_map (ended_by outcome) o, left) s.ledger)).1
      by_found None h none = record { none = none.0; stays = ap (λ (l : Ledger). record (at_fresh_moment now s) { ledger = l }) (same_ledger left none.1) }
      by_found (Some e) h one =
          let l : Ledger = (noted_end (Some (ended_by outcome e), left) s.ledger).1 in
          let same : ended_by outcome e ≡ ended_by outcome one.0 = one.2 in
          record {
            entry = one.0;
            first = subst (λ (xs : List Entry). IsFirst Is s.ledger.forwards.all one.0 xs) (sym (ap (λ (x : Ledger). x.forwards.all) (same_entries e l (id_of e) e.forward.caller))) one.1;
            tells = subst (λ (x : EntryEnd). CallerGets s (max s.clock now) (outcome_at_end message x) x.id x.forward.caller (tell (id_of e) e.forward.caller (says e) (record (at_fresh_moment now s) { ledger = l })).0 (tell (id_of e) e.forward.caller (says e) (record (at_fresh_moment now s) { ledger = l })).1)
                same (is_told e l (id_of e) e.forward.caller);
          }

pub replies_end_their_own : RepliesEndTheirOwn
unfolding forward_reply target_replied reply
replies_end_their_own s now from message = as_reply _ _ (ends_or_not Is (counts_for s.setting.first_xid (max s.clock now) from message) (reply_means s.setting.first_xid (max s.clock now) from message) (reply_tested s.setting.first_xid (max s.clock now) from message) s now message (outcome_of message))
  where
    Is : Entry → Type 0
    Is = IsReplyTo s.setting.first_xid (max s.clock now) from message

    as_reply : (o : Option Told) (t : State) → EndsOrNot Is (counts_for s.setting.first_xid (max s.clock now) from message) (reply_means s.setting.first_xid (max s.clock now) from message) (reply_tested s.setting.first_xid (max s.clock now) from message) s now message (outcome_of message) o t
        → EndsByReply s now from message o t
    as_reply None t e = e
    as_reply (Some told) t e = e

pub deadlines_end_one : DeadlinesEndOne
unfolding expire fell_due due expire_connection expire_first
deadlines_end_one s now = as_expired (tell_end [] (at_fresh_moment now s) (noted_end (with_end (is_due (max s.clock now)) Failed s.ledger.forwards) s.ledger))
    (ends_or_not (EntryIsDue (max s.clock now)) (is_due (max s.clock now)) (due_means (max s.clock now)) (due_tested (max s.clock now)) s now [] Failed)
  where
    as_expired : (r : Option Told × State) → EndsOrNot (EntryIsDue (max s.clock now)) (is_due (max s.clock now)) (due_means (max s.clock now)) (due_tested (max s.clock now)) s now [] Failed r.0 r.1 → EndsByDeadline s now (expired_as r).0 (expired_as r).1
    as_expired (Some told, t) e = e
    as_expired (None, t) e = by_found (first_due t.clock t.connections)
      where
        by_found : (o : Option ℕ) → EndsByDeadline s now (lost_as o) (record t { connections = with_lost o t.connections })
        by_found None = e
        by_found (Some id) = (e.none, ap (λ (u : State). u.ledger) e.stays)
