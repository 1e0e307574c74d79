-- Which callers are of this machine, and as whom they register (RFC 1833 section 2.2.1).
use Rattle.std.specs.Prelude.{◌≡◌, ◌≢◌, ℕ, List, [], ◌∷◌, ◌++◌, replicate, Some}
use Rattle.rb_address.specs.declared.host.Host.{Host}
use Rattle.rb_address.specs.declared.host.Host.TheVariants.{V4, V6}
use Rattle.rb_address.specs.declared.peer.Peer.{Peer}
use Rattle.rb_address.specs.declared.who.Owner.{Owner}
use Rattle.rb_address.specs.declared.who.Owner.TheVariants.{Unknown, Uid}
use Rattle.rb_address.specs.declared.who.Source.TheVariants as sources
use Rattle.rb_address.specs.declared.who.Trust.{Trust}
use Rattle.rb_address.specs.declared.who.Trust.TheVariants as trusts
use Rattle.rb_address.specs.declared.who.Who.{Who}
use Rattle.rb_rpc.specs.declared.call.CallHead.{CallHead}
use Rattle.rb_rpc.specs.declared.call.Credential.{Credential}
use Rattle.rb_rpc.specs.declared.call.Credential.TheVariants as credentials
use Rattle.rb_answers.specs.declared.listener.Announced.{Announced}
use Rattle.rb_answers.specs.declared.context.Context.{Context}
use Rattle.rb_answers.specs.Callers.{who_of}

-- 127.x.y.z, or ::1
abbrev pub IsLoopback : Host → Type 0
IsLoopback (V4 octets) = (rest : List ℕ) × (octets ≡ 127 ∷ rest)
IsLoopback (V6 octets) = octets ≡ replicate 15 0 ++ 1 ∷ []

-- the host that is announced for its family
abbrev pub IsAnnounced : Announced → Host → Type 0
IsAnnounced announced (V4 octets) = announced.inet ≡ Some octets
IsAnnounced announced (V6 octets) = announced.inet6 ≡ Some octets

-- A caller is of this machine over the local socket, at a host of the loopback, at the announced host of its family, or
-- if its owner is known. Nothing else makes it so, and nothing makes a stranger so.
pub data IsLocal (announced : Announced) (who : Who) : Type 0 where
  OverTheSocket : who.trust ≡ trusts.Claims → who.source ≡ sources.Local → IsLocal announced who
  AtTheLoopback : (peer : Peer) → who.trust ≡ trusts.Claims → who.source ≡ sources.Inet peer → IsLoopback peer.host
      → IsLocal announced who
  AtTheAnnounced : (peer : Peer) → who.trust ≡ trusts.Claims → who.source ≡ sources.Inet peer
      → IsAnnounced announced peer.host → IsLocal announced who
  AsTheOwner : (owner : Owner) → who.trust ≡ trusts.Local owner → IsLocal announced who

-- the system does not say as whom it is of this machine
abbrev pub IsUnknown : Trust → Type 0
IsUnknown trust = (owner : Owner) → trust ≢ trusts.Local owner

-- A caller registers as the owner that the system tells, which may be `unknown`; if it tells none, as the uid of
-- AUTH_SYS, and without one as `unknown`.
pub data RegistersAs (trust : Trust) (cred : Credential) (owner : Owner) : Type 0 where
  AsItself : trust ≡ trusts.Local owner → RegistersAs trust cred owner
  AsTheUid : (uid : ℕ) → IsUnknown trust → cred ≡ credentials.Sys uid → owner ≡ Uid uid → RegistersAs trust cred owner
  AsNobody : IsUnknown trust → cred ≡ credentials.None → owner ≡ Unknown → RegistersAs trust cred owner

-- the owner in whose name a call of this head sets and removes rows
abbrev pub CallsAs : Context → CallHead → Owner → Type 0
CallsAs context head owner = RegistersAs (who_of context.caller).trust head.cred owner
