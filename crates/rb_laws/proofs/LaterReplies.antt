-- What callers over UDP get at the end of their forwarded calls.
use Rattle.std.specs.Prelude.{find, option_map}
use Rattle.std.proofs.Common.{◌≡◌, ℕ, max, Bool, true, Option, Some, List, [], ◌∷◌, ◌++◌, ap, ◌∙◌, arith}
use Rattle.std.proofs.lemmas.Grind.{common_steps}
use Rattle.rb_address.specs.declared.peer.Peer.{Peer}
use Rattle.rb_address.specs.declared.who.Who.{Who}
use Rattle.rb_address.specs.declared.caller.Caller.{Caller}
use Rattle.rb_address.specs.declared.caller.Caller.TheVariants.{Udp}
use Rattle.rb_forward.specs.declared.types.ForwardEnd as target
use Rattle.rb_forward.specs.declared.types.ForwardEnd.TheVariants.{Failed}
use Rattle.rb_forward.specs.declared.types.FwdId.{FwdId}
use Rattle.rb_forward.specs.Forwards.{Entry, outcome_of, counts_for, is_due, id_of, ended_by, without_first, reply, due}
use Rattle.rb_forward.specs.Ends.{NoneIs, IsFirst, IsReplyTo}
use Rattle.rb_forward.proofs.Ends.{reply_means, reply_tested, due_means, due_tested}
use Rattle.rb_answers.specs.Ledger.{Ledger}
use Rattle.rb_answers.specs.Forwarding.{noted_end, target_replied, fell_due}
use Rattle.rb_model.specs.declared.types.Told.{Told}
use Rattle.rb_model.specs.Calls.{Outcome}
use Rattle.rb_model.specs.State.{State}
use Rattle.rb_model.specs.Ending.{outcome_at_end, tell, tell_end, at_fresh_moment, forward_reply, expire}
use Rattle.rb_model.specs.Step.{Output, show_end, step}
use Rattle.rb_model.specs.Step.Event.{Forward, Expire}
use Rattle.rb_model.specs.ForwardLaws.{said_by, said_at_deadline, later_output, TellsOverUdp, UdpCallersAreTold}
use Rattle.rb_model.specs.DeadlineLaws.{EntryIsDue}

-- the first such entry is the one that the test finds
module _ (Is : Entry → Type 0) (test : Entry → Bool) (means : (e : Entry) → test e ≡ true → Is e) (tested : (e : Entry) → Is e → test e ≡ true) where
  found-behind : (before behind : List Entry) (e : Entry) → NoneIs Is before → Is e → find test (before ++ e ∷ behind) ≡ Some e
  found-behind [] behind e none is = grind arith
  found-behind (x ∷ before) behind e none is = grind (arith, found-behind before behind e none.1 is)

  first-found : (all : List Entry) (e : Entry) (rest : List Entry) → IsFirst Is all e rest → find test all ≡ Some e
  first-found all e rest first = ap (λ (xs : List Entry). find test xs) first.all_are ∙ found-behind first.before first.behind e first.is_first first.is_so

module _ (s : State) (now : ℕ) (message : List ℕ) where
  -- the entry ended so, and nothing else is shown
  abbrev ends : (Option Told × State → Output × State) → (Entry → Bool) → target.ForwardEnd → Option Entry → Output
  ends show test outcome found =
      (show (tell_end message (at_fresh_moment now s) (noted_end (option_map (ended_by outcome) found, record s.ledger.forwards { all = without_first test s.ledger.forwards.all }) s.ledger))).0

  shown : (l : Ledger) (call : FwdId) (said : Outcome) (who : Who) (longest : ℕ) → (show_end (Some (tell call (Udp who longest) said (record (at_fresh_moment now s) { ledger = l })).0, (tell call (Udp who longest) said (record (at_fresh_moment now s) { ledger = l })).1)).0 ≡ later_output who said
  shown l call said who longest = grind arith

  shown-for : (l : Ledger) (call : FwdId) (said : Outcome) (caller : Caller) (who : Who) (longest : ℕ) → caller ≡ Udp who longest
      → (show_end (Some (tell call caller said (record (at_fresh_moment now s) { ledger = l })).0, (tell call caller said (record (at_fresh_moment now s) { ledger = l })).1)).0 ≡ later_output who said
  shown-for l call said caller who longest udp = grind (arith, common_steps, shown l call said who longest)

  ended-shown : (test : Entry → Bool) (outcome : target.ForwardEnd) (found : Option Entry) (e : Entry) (who : Who) (longest : ℕ) → found ≡ Some e → e.forward.caller ≡ Udp who longest
      → ends show_end test outcome found ≡ later_output who (outcome_at_end message (ended_by outcome e))
  ended-shown test outcome found e who longest is udp = rw is (shown-for (noted_end (Some (ended_by outcome e), record s.ledger.forwards { all = without_first test s.ledger.forwards.all }) s.ledger).1 (id_of e) (outcome_at_end message (ended_by outcome e)) e.forward.caller who longest udp)

replies-told : (s : State) (now : ℕ) (from : Peer) (message : List ℕ)
    → TellsOverUdp (IsReplyTo s.setting.first_xid (max s.clock now) from message) (said_by message) s (Forward now from message)
unfolding step forward_reply target_replied reply
replies-told s now from message e rest who longest first udp =
    let test : Entry → Bool = counts_for s.setting.first_xid (max s.clock now) from message in
    ended-shown s now message test (outcome_of message) (find test s.ledger.forwards.all) e who longest
    (first-found (IsReplyTo s.setting.first_xid (max s.clock now) from message) test (reply_means s.setting.first_xid (max s.clock now) from message) (reply_tested s.setting.first_xid (max s.clock now) from message) s.ledger.forwards.all e rest first)
    udp

deadlines-told : (s : State) (now : ℕ) → TellsOverUdp (EntryIsDue (max s.clock now)) said_at_deadline s (Expire now)
unfolding step expire fell_due due
deadlines-told s now e rest who longest first udp =
    let test : Entry → Bool = is_due (max s.clock now) in
    let found = first-found (EntryIsDue (max s.clock now)) test (due_means (max s.clock now)) (due_tested (max s.clock now)) s.ledger.forwards.all e rest first in
    rw found (shown-for s now [] (noted_end (Some (ended_by Failed e), record s.ledger.forwards { all = without_first test s.ledger.forwards.all }) s.ledger).1 (id_of e) (said_at_deadline e) e.forward.caller who longest udp)

pub udp_callers_are_told : (s : State) → UdpCallersAreTold s
udp_callers_are_told s = record { replies = replies-told s; deadlines = deadlines-told s }
