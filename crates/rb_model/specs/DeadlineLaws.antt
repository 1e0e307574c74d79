-- Laws of what is due: `expire` does the one due thing of least number, and after a few calls of it nothing is due.
use Rattle.std.specs.Prelude.{◌≡◌, ◌≤◌, ℕ, ◌+◌, max, replicate, All, Some, None}
use Rattle.rb_rpc.specs.declared.reply.ReplyStatus.TheVariants.{SystemErr}
use Rattle.rb_forward.specs.Forwards.{Entry, id_of}
use Rattle.rb_forward.specs.Ends.{NoneIs, IsFirst}
use Rattle.rb_model.specs.declared.types.Told.{Told}
use Rattle.rb_model.specs.declared.types.Expired.{Expired}
use Rattle.rb_model.specs.declared.types.Expired.TheVariants as expiries
use Rattle.rb_model.specs.State.{State}
use Rattle.rb_model.specs.Connections.{changed_at}
use Rattle.rb_model.specs.Losses.{is_due, lose}
use Rattle.rb_model.specs.Ending.{outcome_of_failure, tell, at_fresh_moment, expire}
use Rattle.rb_model.specs.Step.{step, after, IsReached}
use Rattle.rb_model.specs.Step.Event.{Expire}
use Rattle.rb_model.specs.Step.Output.{Nothing}
use Rattle.rb_model.specs.Laws.{IsLeast}

-- ---- one thing

-- the moment of an event, which is never before an earlier one
abbrev pub clock_at : ℕ → State → ℕ
clock_at now s = max s.clock now

-- the entry's deadline has come at this moment
abbrev pub EntryIsDue : ℕ → Entry → Type 0
EntryIsDue clock e = e.deadline ≤ clock

abbrev pub NoEntryIsDue : ℕ → State → Type 0
NoEntryIsDue now s = NoneIs (EntryIsDue (clock_at now s)) s.ledger.forwards.all

-- The due entry of least number has ended, the others stay, and its caller is told that it failed.
pub record EntryEnded (now : ℕ) (s : State) (told : Told) (left : State) : Type 0 where
  pub entry : Entry
  pub ends : IsFirst (EntryIsDue (clock_at now s)) s.ledger.forwards.all entry left.ledger.forwards.all
  pub least : All (λ (e : Entry). EntryIsDue (clock_at now s) e → entry.number ≤ e.number) s.ledger.forwards.all
  pub tells : told ≡ (tell (id_of entry) entry.forward.caller (outcome_of_failure entry.forward SystemErr) s).0

-- No entry is due, and the due connection of least number is Lost. Nothing else has changed but the clock and the last reply.
pub record ConnectionEnded (now : ℕ) (s : State) (id : ℕ) (left : State) : Type 0 where
  pub entries : NoEntryIsDue now s
  pub least : IsLeast (is_due (clock_at now s)) s.connections.all (Some id)
  pub loses : left ≡ record (at_fresh_moment now s) { connections = changed_at id lose s.connections }

-- No entry and no connection is due. Nothing has changed but the clock and the last reply.
pub record NothingEnded (now : ℕ) (s : State) (left : State) : Type 0 where
  pub entries : NoEntryIsDue now s
  pub connections : IsLeast (is_due (clock_at now s)) s.connections.all None
  pub same : left ≡ at_fresh_moment now s

-- what `expire` says that it did is what happened
abbrev pub DoesOneThing : ℕ → State → Expired × State → Type 0
DoesOneThing now s (expiries.Ended told, left) = EntryEnded now s told left
DoesOneThing now s (expiries.ConnectionLost id, left) = ConnectionEnded now s id left
DoesOneThing now s (expiries.Nothing, left) = NothingEnded now s left

-- EXPIRE-1
abbrev pub ExpireDoesOneThing : Type 0
ExpireDoesOneThing = (s : State) → IsReached s → (now : ℕ) → DoesOneThing now s (expire s now)

-- ---- and then nothing

-- After this many calls at one moment nothing is due, and they are at most as many as connections and forwarded calls may be.
pub record ReachesNothing (s : State) (now : ℕ) : Type 0 where
  pub calls : ℕ
  pub few : calls ≤ s.setting.limits.conns + s.setting.limits.forwards
  pub nothing : (step (after s (replicate calls (Expire now))) (Expire now)).0 ≡ Nothing

-- EXPIRE-2: At one moment nothing is due after as many calls of `expire` as there may be
-- connections and forwarded calls.
abbrev pub NothingIsDueSoon : Type 0
NothingIsDueSoon = (s : State) → IsReached s → (now : ℕ) → ReachesNothing s now
