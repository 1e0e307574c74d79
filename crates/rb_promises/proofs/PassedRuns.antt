-- Every run passes as the page of runs says.
use Rattle.std.proofs.Common.{◌≡◌, ℕ, Option, Some, None, List, [], ◌∷◌, ◌++◌, refl, subst, ◌∙◌, arith}
use Rattle.std.specs.Prelude.{Contains}
use Rattle.rb_address.specs.declared.who.Who.{Who}
use Rattle.rb_answers.specs.declared.listener.Listener.{Listener}
use Rattle.rb_model.specs.declared.types.Limits.{Limits}
use Rattle.rb_rpc.specs.Records.{first_record}
use Rattle.rb_model.specs.State.{Setting, State, Connection, opening}
use Rattle.rb_model.specs.Step.{Event, step, after, IsReached}
use Rattle.rb_model.specs.Sessions.{Session, empty_session, session_after, session_from}
use Rattle.rb_laws.proofs.Entries.{Await, step-awaits, opening-awaits}
use Rattle.rb_laws.proofs.Ledgers.{step-setting}
use Rattle.rb_laws.proofs.Passing.{no-record}
use Rattle.rb_laws.proofs.Sessions.{Holds, step-holds}
use Rattle.rb_laws.proofs.StepBounds.{reached-step}
use Rattle.rb_promises.specs.Accounts.{opened_by, Passes, Passed}
use Rattle.rb_promises.specs.Accounts.Passed.{NoMore, OneMore}
use Rattle.rb_promises.specs.PassedRuns.{happened, opened_after, account_of, RunsPassAsSaid}
use Rattle.rb_promises.proofs.PassedClocks.{AreOpened, step_clock, openings_on}
use Rattle.rb_promises.proofs.PassedSteps.{happens}

passes_on : (setting : Setting) (events : List Event) (s : State) → s.setting ≡ setting → IsReached s → (t : ℕ → Session) → ((id : ℕ) → Holds id s.connections (t id)) → Await s
    → (opened : List (ℕ × Who)) → AreOpened opened s.connections
    → Passed setting.limits setting.listener (account_of s opened t) (happened s events) (account_of (after s events) (opened_after s opened events) (λ id. session_from s id (t id) events))
passes_on setting [] s same reached t h waits opened are = NoMore (account_of s opened t)
passes_on setting (event ∷ events) s same reached t h waits opened are =
    let more : List (ℕ × Who) = opened ++ opened_by event (step s event).0 in
    let later : ℕ → Session = λ id. session_after s id event (t id) in
    OneMore (account_of s opened t) event (step s event).0 (account_of (step s event).1 more later) _ (happened (step s event).1 events)
    (subst (λ (g : Setting). Passes g.limits g.listener (account_of s opened t) event (step s event).0 (account_of (step s event).1 more later)) same (record {
      clock = step_clock s event;
      opened = refl;
      happens = happens s reached t h waits opened more are event;
    }))
    (passes_on setting events (step s event).1 (step-setting s event ∙ same) (reached-step s reached event) later (λ id. step-holds id s (t id) (h id) event waits) (step-awaits s (h 0).sound waits event)
    more (openings_on s opened are event))

none_found : (c : Connection) → ◌≡◌ {A = Option Connection} None (Some c) → ⊥
none_found c e = cc

pub opening_holds : (limits : Limits) (listener : Listener) (first_xid now id : ℕ) → Holds id (opening limits listener first_xid now).connections empty_session
unfolding first_record
opening_holds limits listener first_xid now id = record {
  sound = omega arith;
  none = refl;
  records = λ are. record { texts = []; are_marked = tt; whole = refl; none_more = no-record };
  front = record { rest = []; whole = refl };
  new = λ le. refl;
  live = λ c is. absurd (none_found c is);
}

pub no_connection : (c : Connection) → Contains [] c → ⊥
no_connection c within = omega (arith, within.1)

pub runs_pass_as_said : RunsPassAsSaid
runs_pass_as_said limits listener first_xid now events =
    let start : State = opening limits listener first_xid now in
    passes_on start.setting events start refl (record { limits = limits; listener = listener; first_xid = first_xid; now = now; events = []; is = refl })
    (λ id. empty_session) (λ id. opening_holds limits listener first_xid now id) (opening-awaits limits listener first_xid now)
    [] (λ c within. absurd (no_connection c within))
