-- What the output of an event shows of a call, and the state that it leaves.
use Rattle.std.proofs.Common.{◌≡◌, Result, Ok, Err, refl, ap}
use Rattle.rb_model.specs.declared.types.CoreFault.{CoreFault}
use Rattle.rb_model.specs.State.{State}
use Rattle.rb_model.specs.Calls.{Outcome, Outcome as said}
use Rattle.rb_model.specs.Step.{Output, output_or, show_outcome}
use Rattle.rb_model.specs.Step.Output.{Replied, Forwarded, Silent}
use Rattle.rb_connections.specs.Slots.{Acts}
use Rattle.rb_core.specs.StandsFor.{CoreView, StandsFor}

pub same_state : {A : Type 0} (show : A → Output) (r : Result A CoreFault × State) → (output_or show r).1 ≡ r.1
same_state show (Ok x, t) = refl
same_state show (Err f, t) = refl

-- ---- datagrams

-- what is shown of an outcome over UDP
abbrev pub shown_of : Outcome → Output
shown_of said.NoCall = Silent
shown_of (said.Reply reply began) = Replied reply
shown_of said.Forwarded = Forwarded
shown_of said.Silent = Silent

pub datagram_shown : (old new : CoreView) (act : State → Outcome × State) (given : Outcome) → Acts StandsFor act old new given → (s : State) → StandsFor old s → (shown_of given ≡ (show_outcome (act s)).0) × StandsFor new (show_outcome (act s)).1
datagram_shown old new act given acts s h = by_result (act s) (acts.gives s h) (acts.stands s h)
  where
    by_result : (r : Outcome × State) → given ≡ r.0 → StandsFor new r.1 → (shown_of given ≡ (show_outcome r).0) × StandsFor new (show_outcome r).1
    by_result (said.NoCall, t) e z = (ap shown_of e, z)
    by_result (said.Reply reply began, t) e z = (ap shown_of e, z)
    by_result (said.Forwarded, t) e z = (ap shown_of e, z)
    by_result (said.Silent, t) e z = (ap shown_of e, z)
