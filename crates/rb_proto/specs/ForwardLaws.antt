-- Laws of forwarded calls.
use Rattle.std.specs.Prelude.{◌≡◌, ◌≢◌, ℕ, ◌+◌, Bool, true, false, if◌then◌else◌, List, length, Option, Some, None, Contains}
use Rattle.std.specs.List.{count_by}
use Rattle.rb_address.specs.declared.peer.Peer.{Peer}
use Rattle.rb_uaddr.specs.declared.address.Uaddr.{Uaddr}
use Rattle.rb_address.specs.declared.netid.Netid.{Netid}
use Rattle.rb_registry.specs.declared.row.Row.{Row}
use Rattle.rb_registry.specs.Rows.{rpcb_prog}
use Rattle.rb_stats.specs.Statistics.{Note}
use Rattle.rb_stats.specs.Statistics.Note.{Forwarded}
use Rattle.rb_arguments.specs.declared.kind.Kind.{Kind}
use Rattle.rb_forward.specs.declared.types.Forward.{Forward}
use Rattle.rb_forward.specs.declared.types.Ended.{Ended}
use Rattle.rb_forward.specs.Forwards.{with_next_entry}
use Rattle.rb_answers.specs.declared.answers.Answer.{Answer}
use Rattle.rb_answers.specs.declared.answers.Answer.TheVariants as answers
use Rattle.rb_answers.specs.declared.context.Context.{Context}
use Rattle.rb_arguments.specs.declared.remote.RemoteCall.{RemoteCall}
use Rattle.rb_arguments.specs.Remote.{args_of}
use Rattle.rb_answers.specs.Ledger.{Ledger, rows_in}
use Rattle.rb_answers.specs.Callers.{who_of, hosts_in}
use Rattle.rb_answers.specs.Netids.{address_in}
use Rattle.rb_answers.specs.Terms.{may_go, counts_forward}
use Rattle.rb_answers.specs.Forwarding.{netid_to_forward, peer_of_address, counts_end, loopbacks, merged_peer, forward_call, target_replied, fell_due, caller_dropped, call_sent}

-- ---- where calls go

-- One of the rows is at this address: on this netid, of exactly the program and version that are called, and none of the
-- portmapper's own.
pub record IsRegisteredAt (netid : Netid) (rows : List Row) (remote : RemoteCall) (address : Uaddr) : Type 0 where
  pub row : Row
  pub is_there : Contains rows row
  pub prog : row.prog ≡ remote.prog
  pub vers : row.vers ≡ remote.vers
  pub netid_is : row.netid ≡ netid
  pub addr : address_in netid row.addr ≡ Some address
  pub is_other : remote.prog ≢ rpcb_prog

-- What is asked where, and what its caller is shown: another host in place of 0.0.0.0 and ::, else the one that was
-- registered.
-- CALLIT-3 CALLIT-7
pub record AsksRegistered (context : Context) (rows : List Row) (remote : RemoteCall) (forward : Forward) : Type 0 where
  pub address : Uaddr
  pub may : may_go context remote (peer_of_address address).host ≡ true
  pub is_registered : IsRegisteredAt (netid_to_forward (who_of context.caller).source) rows remote address
  pub target : forward.target ≡ merged_peer loopbacks address
  pub shown : forward.shown ≡ merged_peer (hosts_in context) address
  pub prog : forward.prog ≡ remote.prog
  pub vers : forward.vers ≡ remote.vers
  pub proc : forward.proc ≡ remote.proc
  pub caller : forward.caller ≡ context.caller

-- If a call is forwarded, it goes to a row that is live when it comes, and nothing is left of it but the entry.
pub record IsForwarded (context : Context) (xid : ℕ) (kind : Kind) (remote : RemoteCall) (arguments : List ℕ) (l : Ledger) : Type 0 where
  pub forward : Forward
  pub asks : AsksRegistered context (rows_in l) remote forward
  pub left : (forward_call context xid kind remote arguments l).1 ≡ record l { forwards = with_next_entry context.clock forward (args_of remote arguments) l.forwards }

-- CALLIT-1
abbrev pub ForwardsGoToRows : Type 0
ForwardsGoToRows =
    (context : Context) (xid : ℕ) (kind : Kind) (remote : RemoteCall) (arguments : List ℕ) (l : Ledger)
    → (forward_call context xid kind remote arguments l).0 ≡ answers.Forwarded → IsForwarded context xid kind remote arguments l

-- ---- what is noted

abbrev pub is_outcome : Note → Bool
is_outcome (Forwarded version target proc passed indirect) = true
is_outcome _ = false

-- the calls whose outcome was noted, and those that wait
abbrev pub asked_so_far : Ledger → ℕ
asked_so_far l = count_by is_outcome l.history + length l.forwards.all

-- 1 if this is the answer to a stranger's call that is not forwarded: it does not count
abbrev pub uncounted_at_once : Context → Answer → ℕ
uncounted_at_once context answers.Forwarded = 0
uncounted_at_once context given = if counts_forward context.caller false then 0 else 1

-- 1 if the entry that ended, if one did, was of a stranger's call and did not pass
abbrev pub uncounted_at_end : Option Ended → ℕ
uncounted_at_end None = 0
uncounted_at_end (Some ended) = if counts_end ended then 0 else 1

-- the calls that count after an act are those before it, but for the uncounted one
abbrev pub CountsOn : {A : Type 0} → (A → ℕ) → ℕ → A × Ledger → Type 0
CountsOn uncounted before after = asked_so_far after.1 + uncounted after.0 ≡ before

-- One more call counts when it comes, whether it is refused or waits, and none when one is sent or ends; but a
-- stranger's does not count if it is refused, and no longer counts if it ends and did not pass.
pub record IsNotedOnce (l : Ledger) : Type 0 where
  pub comes : (context : Context) (xid : ℕ) (kind : Kind) (remote : RemoteCall) (arguments : List ℕ) → CountsOn (uncounted_at_once context) (asked_so_far l + 1) (forward_call context xid kind remote arguments l)
  pub is_sent : (number : ℕ) → asked_so_far (call_sent number l) ≡ asked_so_far l
  pub is_answered : (first_xid clock : ℕ) (from : Peer) (message : List ℕ) → CountsOn uncounted_at_end (asked_so_far l) (target_replied first_xid clock from message l)
  pub falls_due : (clock : ℕ) → CountsOn uncounted_at_end (asked_so_far l) (fell_due clock l)
  pub is_dropped : (id : ℕ) → CountsOn uncounted_at_end (asked_so_far l) (caller_dropped id l)

-- COUNT-5: Each forwarding call is counted once, at its outcome, a stranger's only if it passed: as
-- a success if it passed, otherwise as a failure; by the version of its procedure, the program,
-- version and procedure that it calls, and its caller's netid. Those of INDIRECT are counted as
-- such too.
abbrev pub ForwardsAreNotedOnce : Type 0
ForwardsAreNotedOnce = (l : Ledger) → IsNotedOnce l
