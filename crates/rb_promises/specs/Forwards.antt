-- Which calls are forwarded (PMAPPROC_CALLIT, RPCBPROC_CALLIT, RPCBPROC_BCAST and RPCBPROC_INDIRECT, RFC 1833 sections 2.2.1
-- and 3.2).
use Rattle.std.specs.Prelude.{◌≡◌, ◌≢◌, ◌⊎◌, ◌↔◌, ℕ, ◌-◌, ◌^◌, ◌<◌, ◌≤◌, List, ◌++◌, length, Option, Some, None}
use Rattle.rb_uaddr.specs.Uaddr.{any_host, any_host6}
use Rattle.rb_uaddr.specs.Grammar.{SpellsV4, SpellsV6}
use Rattle.rb_address.specs.declared.host.Family.TheVariants.{Inet, Inet6}
use Rattle.rb_address.specs.declared.host.Host.{Host}
use Rattle.rb_address.specs.declared.host.Host.TheVariants.{V4, V6}
use Rattle.rb_address.specs.declared.netid.Netid.{Netid}
use Rattle.rb_address.specs.declared.netid.Netid.TheVariants.{Udp, Udp6}
use Rattle.rb_address.specs.declared.who.Source.{Source}
use Rattle.rb_address.specs.declared.who.Source.TheVariants as sources
use Rattle.rb_address.specs.declared.who.Trust.TheVariants as trusts
use Rattle.rb_address.specs.Hosts.{family_of, mapped_front}
use Rattle.rb_rpc.specs.declared.call.CallHead.{CallHead}
use Rattle.rb_arguments.specs.declared.kind.Kind.{Kind}
use Rattle.rb_arguments.specs.declared.kind.Kind.TheVariants.{Indirect}
use Rattle.rb_rpc.specs.declared.reply.ReplyStatus.{ReplyStatus}
use Rattle.rb_rpc.specs.declared.reply.ReplyStatus.TheVariants as replies
use Rattle.rb_registry.specs.declared.row.Row.{Row}
use Rattle.rb_arguments.specs.declared.remote.RemoteCall.{RemoteCall}
use Rattle.rb_arguments.specs.declared.request.Request.TheVariants as requests
use Rattle.rb_answers.specs.declared.answers.Answer.{Answer}
use Rattle.rb_answers.specs.declared.answers.Answer.TheVariants as answers
use Rattle.rb_answers.specs.declared.context.Context.{Context}
use Rattle.rb_answers.specs.declared.listener.Forwarding.TheVariants.{Anywhere, ForAll, ForLocal}
use Rattle.rb_answers.specs.Callers.{who_of}
use Rattle.rb_answers.specs.Ledger.{Ledger, rows_in}
use Rattle.rb_answers.specs.Answers.{answer_to}
use Rattle.rb_promises.specs.Addresses.{IsOverIpv4, IsOverIpv6}
use Rattle.rb_promises.specs.LocalCallers.{IsLoopback, IsAnnounced}
use Rattle.rb_promises.specs.LookUps.{IsFoundExactly}

-- ---- where a call may go

-- UDP over IPv6 for a caller of IPv6, else over IPv4
abbrev pub GoesBy : Source → Netid → Type 0
GoesBy (sources.Inet peer) netid =
    ((family_of peer.host ≡ Inet) × (netid ≡ Udp)) ⊎ ((family_of peer.host ≡ Inet6) × (netid ≡ Udp6))
GoesBy sources.Local netid = netid ≡ Udp

-- An IPv6 host that begins with ::ffff stands for the IPv4 host after that (RFC 4291 section 2.5.5.2), and every other
-- for itself.
pub data StandsForHost (octets : List ℕ) (host : Host) : Type 0 where
  ForV4 : (rest : List ℕ) → octets ≡ mapped_front ++ rest → host ≡ V4 rest → StandsForHost octets host
  ForItself : ((rest : List ℕ) → octets ≢ mapped_front ++ rest) → host ≡ V6 octets → StandsForHost octets host

-- The row's address spells the host.
pub data IsAt (row : Row) (host : Host) : Type 0 where
  AtV4 : IsOverIpv4 row.netid → (octets : List ℕ) (port : ℕ) → SpellsV4 octets port row.addr → host ≡ V4 octets
      → IsAt row host
  AtV6 : IsOverIpv6 row.netid → (octets : List ℕ) (port : ℕ) → SpellsV6 octets port row.addr → StandsForHost octets host
      → IsAt row host

-- 0.0.0.0, or ::
abbrev pub IsEveryHost : Host → Type 0
IsEveryHost (V4 octets) = octets ≡ any_host
IsEveryHost (V6 octets) = octets ≡ any_host6

-- every host, one of the loopback, the announced one of its family, or the one that the caller asked
abbrev pub IsOfHere : Context → Host → Type 0
IsOfHere context host =
    IsEveryHost host ⊎ IsLoopback host ⊎ IsAnnounced context.announced host ⊎ (host ≡ (who_of context.caller).asked)

-- a program that goes by the host of who calls it: ypserv, ypbind, yppasswdd, and mountd but for its procedure 0
abbrev pub GoesByHost : ℕ → ℕ → Type 0
GoesByHost prog proc = (prog ≡ 100004) ⊎ (prog ≡ 100007) ⊎ (prog ≡ 100009) ⊎ ((prog ≡ 100005) × (proc ≢ 0))

pub record IsHarmless (context : Context) (remote : RemoteCall) (host : Host) : Type 0 where
  pub of_here : IsOfHere context host
  pub by_host : ¬ (GoesByHost remote.prog remote.proc)

-- As the daemon's terms say: anywhere; or where it is harmless, for all, or for those alone that are no strangers.
pub data MayGo (context : Context) (remote : RemoteCall) (host : Host) : Type 0 where
  GoesAnywhere : context.terms.forwarding ≡ Anywhere → MayGo context remote host
  GoesForAll : context.terms.forwarding ≡ ForAll → IsHarmless context remote host → MayGo context remote host
  GoesForKnown : context.terms.forwarding ≡ ForLocal → (who_of context.caller).trust ≢ trusts.Stranger
      → IsHarmless context remote host → MayGo context remote host

-- The portmapper is not called, and a row that is at no host is not.
pub record CanGo (context : Context) (remote : RemoteCall) (row : Row) : Type 0 where
  pub foreign : remote.prog ≢ 100000
  pub host : Host
  pub is_at : IsAt row host
  pub may : MayGo context remote host

-- nothing goes if there is no row
abbrev pub GoesTo : Context → RemoteCall → Option Row → Type 0
GoesTo context remote None = ⊥
GoesTo context remote (Some row) = CanGo context remote row

-- There is a place and a number for one more forwarded call.
pub record HasRoom (context : Context) (l : Ledger) : Type 0 where
  pub place : length l.forwards.all < context.forwards
  pub number : l.forwards.next ≤ 2 ^ 64 - 1

-- ---- the law

-- INDIRECT is told why, and the others are silent
abbrev pub IsRefused : Kind → ReplyStatus → Answer → Type 0
IsRefused kind status answer =
    ((kind ≡ Indirect) × (answer ≡ answers.Refused status)) ⊎ ((kind ≢ Indirect) × (answer ≡ answers.Silent))

module _ (context : Context) (head : CallHead) (kind : Kind) (remote : RemoteCall) (arguments : List ℕ) (l : Ledger) where
  abbrev forward_answer : Answer × Ledger
  forward_answer = answer_to context head (requests.Forward kind remote) arguments l

  -- Forwarded exactly if a row of just the program and version is found on the netid, it may go there, and there is
  -- room for it; without such a row its program is unavailable, and without room there is an error of the system.
  pub record AnswersForward : Type 0 where
    pub netid : Netid
    pub goes_by : GoesBy (who_of context.caller).source netid
    pub found : Option Row
    pub is_found : IsFoundExactly remote.prog remote.vers netid (rows_in l) found
    pub exactly : (forward_answer.0 ≡ answers.Forwarded) ↔ (GoesTo context remote found × HasRoom context l)
    pub unavailable : ¬ (GoesTo context remote found) → IsRefused kind replies.ProgUnavail forward_answer.0
    pub no_room : GoesTo context remote found → ¬ (HasRoom context l) → IsRefused kind replies.SystemErr forward_answer.0
    pub keeps : forward_answer.0 ≢ answers.Forwarded → forward_answer.1.forwards ≡ l.forwards
    pub own : forward_answer.1.own ≡ l.own
    pub changes : forward_answer.1.changes ≡ l.changes

abbrev pub CallsAreForwardedExactly : Type 0
CallsAreForwardedExactly =
    (context : Context) (head : CallHead) (kind : Kind) (remote : RemoteCall) (arguments : List ℕ) (l : Ledger)
    → AnswersForward context head kind remote arguments l
