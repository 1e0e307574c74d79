-- Which callers are of this machine, and as whom they register.
use Rattle.std.proofs.Common.{◌≡◌, ℕ, true, ◌⊎◌, ◌↔◌, inl, inr, List, [], ◌∷◌, ◌++◌, Option, Some, None, refl, sym, ap, subst, ◌∙◌}
use Rattle.std.specs.Prelude.{◌==◌, replicate, slice_index}
use Rattle.std.proofs.lemmas.Bool.{eqb-true, or_cases, or_left, or_right}
use Rattle.std.proofs.lemmas.Slice.Eq.{bytes_eq-Decides}
use Rattle.rb_address.specs.declared.host.Host.{Host}
use Rattle.rb_address.specs.declared.host.Host.TheVariants.{V4, V6}
use Rattle.rb_address.specs.declared.who.Owner.{Owner}
use Rattle.rb_address.specs.declared.who.Source.{Source}
use Rattle.rb_address.specs.declared.who.Source.TheVariants as sources
use Rattle.rb_address.specs.declared.who.Trust.{Trust}
use Rattle.rb_address.specs.declared.who.Trust.TheVariants as trusts
use Rattle.rb_address.specs.declared.who.Who.{Who}
use Rattle.rb_address.specs.Hosts.{is_loopback}
use Rattle.rb_rpc.specs.declared.call.Credential.{Credential}
use Rattle.rb_rpc.specs.declared.call.Credential.TheVariants as credentials
use Rattle.rb_answers.specs.declared.listener.Announced.{Announced}
use Rattle.rb_answers.specs.Callers.{is_announced_as, is_local, is_trusted, may_register, owner_named, owner_of}
use Rattle.rb_promises.specs.LocalCallers.{IsLoopback, IsAnnounced, IsLocal, IsUnknown, RegistersAs}
use Rattle.rb_promises.specs.LocalCallers.IsLocal.{OverTheSocket, AtTheLoopback, AtTheAnnounced, AsTheOwner}
use Rattle.rb_promises.specs.LocalCallers.RegistersAs.{AsItself, AsTheUid, AsNobody}

-- ---- hosts of this machine

first_is : (octets : List ℕ) → (slice_index octets 0 == 127) ≡ true → (rest : List ℕ) × (octets ≡ 127 ∷ rest)
first_is [] e = absurd cc
first_is (b ∷ rest) e = (rest, ap (λ (c : ℕ). c ∷ rest) (eqb-true b 127 e))

loopback_is : (host : Host) → is_loopback host ≡ true → IsLoopback host
unfolding is_loopback
loopback_is (V4 octets) e = first_is octets e
loopback_is (V6 octets) e = (bytes_eq-Decides octets (replicate 15 0 ++ 1 ∷ [])).0 e

of_loopback : (host : Host) → IsLoopback host → is_loopback host ≡ true
unfolding is_loopback
of_loopback (V4 octets) (rest, same) = rw same refl
of_loopback (V6 octets) same = (bytes_eq-Decides octets (replicate 15 0 ++ 1 ∷ [])).1 same

announced_is : (octets : List ℕ) (o : Option (List ℕ)) → is_announced_as octets o ≡ true → o ≡ Some octets
announced_is octets None e = absurd cc
announced_is octets (Some own) e = ap (λ (host : List ℕ). Some host) (sym ((bytes_eq-Decides octets own).0 e))

of_announced : (octets : List ℕ) (o : Option (List ℕ)) → o ≡ Some octets → is_announced_as octets o ≡ true
of_announced octets o same = rw same ((bytes_eq-Decides octets octets).1 refl)

pub host_is : (announced : Announced) (host : Host) → is_local announced host ≡ true → IsLoopback host ⊎ IsAnnounced announced host
unfolding is_local
host_is announced (V4 octets) e =
    elim (or_cases _ _ e) [ inl at ↦ inl (loopback_is (V4 octets) at) | inr at ↦ inr (announced_is octets announced.inet at) ]
host_is announced (V6 octets) e =
    elim (or_cases _ _ e) [ inl at ↦ inl (loopback_is (V6 octets) at) | inr at ↦ inr (announced_is octets announced.inet6 at) ]

pub at_loopback : (announced : Announced) (host : Host) → IsLoopback host → is_local announced host ≡ true
unfolding is_local
at_loopback announced (V4 octets) is = or_left _ _ (of_loopback (V4 octets) is)
at_loopback announced (V6 octets) is = or_left _ _ (of_loopback (V6 octets) is)

pub at_announced : (announced : Announced) (host : Host) → IsAnnounced announced host → is_local announced host ≡ true
unfolding is_local
at_announced announced (V4 octets) is = or_right _ _ (of_announced octets announced.inet is)
at_announced announced (V6 octets) is = or_right _ _ (of_announced octets announced.inet6 is)

-- ---- callers of this machine

registers : (announced : Announced) (who : Who) (source : Source) (trust : Trust) → who.source ≡ source → who.trust ≡ trust
    → is_trusted announced source trust ≡ true → IsLocal announced who
registers announced who (sources.Inet peer) trusts.Claims s t e =
    elim (host_is announced peer.host e) [ inl at ↦ AtTheLoopback peer t s at | inr at ↦ AtTheAnnounced peer t s at ]
registers announced who sources.Local trusts.Claims s t e = OverTheSocket t s
registers announced who source (trusts.Local owner) s t e = AsTheOwner owner t
registers announced who source trusts.Stranger s t e = absurd cc

is_registered : (announced : Announced) (who : Who) → IsLocal announced who → may_register announced who ≡ true
is_registered announced who (OverTheSocket t s) = rw (t, s) refl
is_registered announced who (AtTheLoopback peer t s at) = rw (t, s) (at_loopback announced peer.host at)
is_registered announced who (AtTheAnnounced peer t s at) = rw (t, s) (at_announced announced peer.host at)
is_registered announced who (AsTheOwner owner t) = rw t refl

pub local_exactly : (announced : Announced) (who : Who) → (may_register announced who ≡ true) ↔ IsLocal announced who
local_exactly announced who =
    (registers announced who who.source who.trust refl refl, is_registered announced who)

-- ---- owners

claims_unknown : IsUnknown trusts.Claims
claims_unknown owner e = absurd cc

stranger_unknown : IsUnknown trusts.Stranger
stranger_unknown owner e = absurd cc

registers_as : (trust : Trust) (cred : Credential) → RegistersAs trust cred (owner_of trust cred)
registers_as (trusts.Local owner) cred = AsItself refl
registers_as trusts.Claims credentials.None = AsNobody claims_unknown refl refl
registers_as trusts.Claims (credentials.Sys uid) = AsTheUid uid claims_unknown refl refl
registers_as trusts.Stranger credentials.None = AsNobody stranger_unknown refl refl
registers_as trusts.Stranger (credentials.Sys uid) = AsTheUid uid stranger_unknown refl refl

by_word : (trust : Trust) (cred : Credential) → IsUnknown trust → owner_of trust cred ≡ owner_named cred
by_word trusts.Claims cred unknown = refl
by_word (trusts.Local owner) cred unknown = absurd (unknown owner refl)
by_word trusts.Stranger cred unknown = refl

one_owner : (trust : Trust) (cred : Credential) (owner : Owner) → RegistersAs trust cred owner → owner_of trust cred ≡ owner
one_owner trust cred owner (AsItself t) = rw t refl
one_owner trust cred owner (AsTheUid uid unknown c is) = by_word trust cred unknown ∙ ap owner_named c ∙ sym is
one_owner trust cred owner (AsNobody unknown c is) = by_word trust cred unknown ∙ ap owner_named c ∙ sym is

pub owner_exactly : (trust : Trust) (cred : Credential) (owner : Owner) → (owner_of trust cred ≡ owner) ↔ RegistersAs trust cred owner
owner_exactly trust cred owner = (λ is. subst (RegistersAs trust cred) is (registers_as trust cred), one_owner trust cred owner)
