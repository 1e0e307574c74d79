-- Callers: where from, which host was asked, and what is known of them; and their texts.
use Rattle.std.specs.Prelude.{ℕ, ◌^◌, ◌<◌, ◌==◌, Bool, true, false, if◌then◌else◌, List, [], ◌++◌, replicate, decimal, codes}
use Rattle.rb_address.specs.declared.host.Host.{Host}
use Rattle.rb_address.specs.declared.host.Host.TheVariants.{V4}
use Rattle.rb_address.specs.declared.netid.Netid.{Netid}
use Rattle.rb_address.specs.declared.netid.Netid.TheVariants as netids
use Rattle.rb_address.specs.declared.netid.Transport.{Transport}
use Rattle.rb_address.specs.declared.who.Owner.{Owner}
use Rattle.rb_address.specs.declared.who.Owner.TheVariants.{Unknown, Uid}
use Rattle.rb_address.specs.declared.who.Source.{Source}
use Rattle.rb_address.specs.declared.who.Source.TheVariants.{Inet, Local}
use Rattle.rb_address.specs.declared.who.Trust.{Trust}
use Rattle.rb_address.specs.declared.who.Trust.TheVariants as trusts
use Rattle.rb_address.specs.declared.who.Who.{Who}
use Rattle.rb_address.specs.Hosts.{family_of, is_same_host, IsHost}
use Rattle.rb_address.specs.Netids.{netid_on}
use Rattle.rb_address.specs.Peers.{IsPeer, bare_host_text, peer_text}

-- the same owner
abbrev pub is_same_owner : Owner → Owner → Bool
is_same_owner Unknown Unknown = true
is_same_owner Unknown (Uid own) = false
is_same_owner (Uid uid) Unknown = false
is_same_owner (Uid uid) (Uid own) = uid == own

-- NETID-3: A caller's netid is that of its transport and of its peer's family, or local.
abbrev pub netid_from : Transport → Source → Netid
netid_from transport (Inet peer) = netid_on transport (family_of peer.host)
netid_from transport Local = netids.Local

-- what stands for the host that was asked, if it is not known
abbrev pub unknown_host : Host
unknown_host = V4 (replicate 4 0)

-- ---- what has a text

abbrev pub IsSource : Source → Type 0
IsSource (Inet peer) = IsPeer peer
IsSource Local = Unit {0}

abbrev pub IsOwner : Owner → Type 0
IsOwner Unknown = Unit {0}
IsOwner (Uid uid) = uid < 2 ^ 32

abbrev pub IsTrust : Trust → Type 0
IsTrust trusts.Claims = Unit {0}
IsTrust (trusts.Local owner) = IsOwner owner
IsTrust trusts.Stranger = Unit {0}

abbrev pub IsWho : Who → Type 0
IsWho w = IsSource w.source × IsHost w.asked × IsTrust w.trust

-- ---- the texts

-- a peer's text, or `local`
abbrev pub source_text : Source → List ℕ
source_text (Inet peer) = peer_text peer
source_text Local = codes "local"

-- `>` and the host that was asked; nothing for 0.0.0.0, which says that it is not known, as `::` does
abbrev pub asked_text : Host → List ℕ
asked_text asked = if is_same_host asked unknown_host then [] else codes ">" ++ bare_host_text asked

abbrev pub owner_text : Owner → List ℕ
owner_text Unknown = codes "unknown"
owner_text (Uid uid) = decimal uid

-- `/` and whose word it is, or nothing if there is none but the caller's own
abbrev pub trust_text : Trust → List ℕ
trust_text trusts.Claims = []
trust_text (trusts.Local owner) = codes "/" ++ owner_text owner
trust_text trusts.Stranger = codes "/stranger"

-- CALLER-1: A caller is a peer, or `local`; after it stands `>` and the host that it asked, if that
-- is not 0.0.0.0, an IPv6 host without brackets; and after that `/` and a uid, `unknown` or
-- `stranger`, if more is known of it than what it claims. It has one spelling: an event line has
-- the text that is printed of it, and no other.
abbrev pub who_text : Who → List ℕ
who_text w = source_text w.source ++ asked_text w.asked ++ trust_text w.trust
