-- What is sent is what the model gives.
use Rattle.std.proofs.Common.{◌≡◌, ℕ, List, Option, Some, None, refl, ap, ◌∙◌}
use Rattle.rb_address.specs.declared.who.Source.{Source}
use Rattle.rb_address.specs.declared.who.Who.{Who}
use Rattle.rb_forward.specs.Forwards.{Unsent}
use Rattle.rb_policy.specs.declared.ways_back.Way.{Way}
use Rattle.rb_policy.specs.WaysBack.{Ways}
use Rattle.rb_model.specs.State.{State, at_moment}
use Rattle.rb_model.specs.declared.types.Told.{Told}
use Rattle.rb_model.specs.declared.types.Expired.{Expired}
use Rattle.rb_model.specs.declared.types.Expired.TheVariants.{Nothing, Ended, ConnectionLost}
use Rattle.rb_model.specs.Calls.{Outcome, Outcome as outcomes, reply_in}
use Rattle.rb_model.specs.Step.{datagram, with_reply, serve, sender}
use Rattle.rb_core.specs.StandsFor.{CoreView, StandsFor}
use Rattle.rb_arrivals.specs.Dispatches.{Dispatch, Hands}
use Rattle.rb_engine.specs.declared.engine.Answer.TheVariants as answers
use Rattle.rb_engine.specs.Served.{answered}
use Rattle.rb_engine.specs.Sending.{reply_told, ways_told, reply_after, ways_after, reply_due, ways_due, answer_sent, call_sent}

-- ---- the end of a forwarded call

pub ignored_sends : {S : Type 0} (sends : S → Dispatch → S → Type 0) (ways : List Way) (r : Option Told × State) (x : S) → None ≡ r.0 → Hands sends (reply_after ways r) x x
ignored_sends sends ways (None, s) x is = refl
ignored_sends sends ways (Some told, s) x is = absurd cc

pub ignored_ways : (ways : Ways) (r : Option Told × State) → None ≡ r.0 → ways ≡ ways_after ways r
ignored_ways ways (None, s) is = refl
ignored_ways ways (Some told, s) is = absurd cc

pub told_sends : {S : Type 0} (sends : S → Dispatch → S → Type 0) (ways : List Way) (reply : List ℕ) (told : Told) (r : Option Told × State) (old new : S) → Some told ≡ r.0 → reply ≡ r.1.reply → Hands sends (reply_told ways reply told) old new → Hands sends (reply_after ways r) old new
told_sends sends ways reply told (x, s) old new is same hands = rw (← is, ← same) hands

pub told_ways : (ways new : Ways) (told : Told) (r : Option Told × State) → Some told ≡ r.0 → new ≡ ways_told ways told → new ≡ ways_after ways r
told_ways ways new told (x, s) is same = rw (← is) same

-- ---- what was due

-- the same with the reply that is held
abbrev pub due_told : List Way → List ℕ → Expired → Option Dispatch
due_told ways reply Nothing = None
due_told ways reply (Ended told) = reply_told ways reply told
due_told ways reply (ConnectionLost id) = None

pub due_sends : {S : Type 0} (sends : S → Dispatch → S → Type 0) (ways : List Way) (reply : List ℕ) (due : Expired) (r : Expired × State) (old new : S) → due ≡ r.0 → reply ≡ r.1.reply → Hands sends (due_told ways reply due) old new → Hands sends (reply_due ways r) old new
due_sends sends ways reply Nothing (x, s) old new is same hands = rw (← is) hands
due_sends sends ways reply (Ended told) (x, s) old new is same hands = rw (← is, ← same) hands
due_sends sends ways reply (ConnectionLost id) (x, s) old new is same hands = rw (← is) hands

abbrev pub ways_when : Ways → Expired → Ways
ways_when ways Nothing = ways
ways_when ways (Ended told) = ways_told ways told
ways_when ways (ConnectionLost id) = ways

pub due_ways : (ways new : Ways) (due : Expired) (r : Expired × State) → due ≡ r.0 → new ≡ ways_when ways due → new ≡ ways_due ways r
due_ways ways new Nothing (x, s) is same = rw (← is) same
due_ways ways new (Ended told) (x, s) is same = rw (← is) same
due_ways ways new (ConnectionLost id) (x, s) is same = rw (← is) same

-- ---- a datagram with a call

held_in : (r : Outcome × State) → (with_reply r).1.reply ≡ reply_in (with_reply r).0
held_in (x, s) = refl

reply_held : (s : State) (now : ℕ) (who : Who) (content : List ℕ) → (datagram s now who content).1.reply ≡ reply_in (datagram s now who content).0
unfolding datagram
reply_held s now who content = held_in (serve (at_moment now s) (sender s who content) content)

answered_reply : (r : Outcome × State) → (answered r).1.reply ≡ r.1.reply
answered_reply (x, s) = refl

-- what is held of it, also after looks
pub reply_is : (s : State) (now : ℕ) (who : Who) (content : List ℕ) (first mid last : CoreView) → last ≡ mid → mid ≡ first → StandsFor first (answered (datagram s now who content)).1 → last.reply ≡ reply_in (datagram s now who content).0
reply_is s now who content first mid last a b h = ap (λ (x : CoreView). x.reply) (a ∙ b) ∙ h.reply ∙ answered_reply (datagram s now who content) ∙ reply_held s now who content

pub replied_sends : {S : Type 0} (sends : S → Dispatch → S → Type 0) (socket : ℕ) (to : Source) (bytes : List ℕ) (r : Outcome × State) (old new : S) → answers.Reply ≡ (answered r).0 → bytes ≡ reply_in r.0 → sends old (Dispatch.Reply socket to bytes) new → Hands sends (answer_sent socket to r) old new
replied_sends sends socket to bytes (outcomes.NoCall, s) old new is same sent = absurd cc
replied_sends sends socket to bytes (outcomes.Reply given stamp, s) old new is same sent = rw (← same) sent
replied_sends sends socket to bytes (outcomes.Forwarded, s) old new is same sent = absurd cc
replied_sends sends socket to bytes (outcomes.Silent, s) old new is same sent = absurd cc

-- ---- a forwarded call

pub none_sends : {S : Type 0} (sends : S → Dispatch → S → Type 0) (unsent : Option Unsent) (x : S) → None ≡ unsent → Hands sends (call_sent unsent) x x
none_sends sends unsent x is = rw (← is) refl

pub call_sends : {S : Type 0} (sends : S → Dispatch → S → Type 0) (first : Unsent) (unsent : Option Unsent) (old new : S) → Some first ≡ unsent → sends old (Dispatch.Call first.target first.call) new → Hands sends (call_sent unsent) old new
call_sends sends first unsent old new is sent = rw (← is) sent
