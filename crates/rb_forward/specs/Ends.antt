-- Which entry a call ends, in relations.
use Rattle.std.specs.Prelude.{◌≡◌, ℕ, ◌<◌, ◌≤◌, ⊤, true, List, [], ◌∷◌, ◌++◌, length, Option, Some, None}
use Rattle.rb_xdr.specs.Xdr.{word}
use Rattle.rb_address.specs.declared.peer.Peer.{Peer}
use Rattle.rb_address.specs.declared.caller.Caller.{Caller}
use Rattle.rb_address.specs.declared.caller.Caller.TheVariants.{Tcp, Udp}
use Rattle.rb_forward.specs.declared.types.ForwardEnd.{ForwardEnd}
use Rattle.rb_forward.specs.declared.types.ForwardEnd.TheVariants.{Failed, Dropped}
use Rattle.rb_forward.specs.declared.types.Ended.{Ended}
use Rattle.rb_forward.specs.Forwards.{Entry, Forwards, xid_of, outcome_of, ended_by, reply, due, drop_caller}

-- none of these entries is such a one
abbrev pub NoneIs : (Entry → Type 0) → List Entry → Type 0
NoneIs Is [] = ⊤
NoneIs Is (e ∷ rest) = (Is e → ⊥) × NoneIs Is rest

-- The entry is the first of these that is such a one, and the rest are the others, in their order.
pub record IsFirst (Is : Entry → Type 0) (all : List Entry) (e : Entry) (rest : List Entry) : Type 0 where
  pub before : List Entry
  pub behind : List Entry
  pub all_are : all ≡ before ++ e ∷ behind
  pub is_so : Is e
  pub is_first : NoneIs Is before
  pub rest_are : rest ≡ before ++ behind

-- What is told and left: the first such entry has ended so, and the others stay; if there is none, nothing changes.
abbrev pub EndsFirst : (Entry → Type 0) → ForwardEnd → Forwards → Option Ended → Forwards → Type 0
EndsFirst Is outcome f None left = NoneIs Is f.all × (left ≡ f)
EndsFirst Is outcome f (Some ended) left =
    (e : Entry) × IsFirst Is f.all e left.all × (ended ≡ ended_by outcome e) × (left.next ≡ f.next)

-- a datagram from there, at this moment, answers the call of the entry
-- FORWARD-1
pub record IsReplyTo (first_xid clock : ℕ) (from : Peer) (message : List ℕ) (e : Entry) : Type 0 where
  pub was_sent : e.sent ≡ true
  pub host : from.host ≡ e.forward.target.host
  pub port : from.port ≡ e.forward.target.port
  pub has_xid : 4 ≤ length message
  pub xid : word 0 message ≡ xid_of first_xid e.number
  pub in_time : clock < e.deadline

abbrev pub RepliesEndTheirOwn : Type 0
RepliesEndTheirOwn =
    (first_xid clock : ℕ) (from : Peer) (message : List ℕ) (f : Forwards)
    → EndsFirst (IsReplyTo first_xid clock from message) (outcome_of message) f
    (reply first_xid clock from message f).0 (reply first_xid clock from message f).1

abbrev pub DeadlinesEnd : Type 0
DeadlinesEnd =
    (clock : ℕ) (f : Forwards) → EndsFirst (λ e. e.deadline ≤ clock) Failed f (due clock f).0 (due clock f).1

abbrev pub IsOf : ℕ → Caller → Type 0
IsOf id (Tcp number who) = number ≡ id
IsOf id (Udp who longest) = ⊥

abbrev pub ClosingsEnd : Type 0
ClosingsEnd =
    (id : ℕ) (f : Forwards)
    → EndsFirst (λ e. IsOf id e.forward.caller) Dropped f (drop_caller id f).0 (drop_caller id f).1
