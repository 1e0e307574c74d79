-- What follows of whom the daemon believes.
use Rattle.std.proofs.Common.{◌≡◌, ℕ, if◌then◌else◌, Bool, true, false, ◌&&◌, refl, ◌∙◌, sym, subst}
use Rattle.std.proofs.lemmas.Bool.{cond-false}
use Rattle.std.specs.Prelude.{Option}
use Rattle.rb_address.specs.declared.host.Host.{Host}
use Rattle.rb_address.specs.declared.who.Owner.{Owner}
use Rattle.rb_address.specs.declared.who.Trust.TheVariants.{Claims, Stranger}
use Rattle.rb_address.specs.Hosts.{is_loopback, is_same_host}
use Rattle.rb_address.proofs.HostLaws.{same_host_is}
use Rattle.rb_policy.specs.declared.evidence.Evidence.{Evidence}
use Rattle.rb_policy.specs.declared.evidence.Evidence.TheVariants.{Found, NotFound, Unread}
use Rattle.rb_policy.specs.Evidence.{is_shown}
use Rattle.rb_policy.specs.Trusts.{trust_from, trust_over_tcp, is_home, OthersNeedNoTable, OthersAreStrangers, OthersAreStrangersOverUdp}
use Rattle.rb_address.specs.declared.peer.Peer.{Peer}

stranger : (peer : Peer) (owner : Owner) → is_loopback peer.host ≡ false → trust_from peer owner ≡ Stranger
stranger peer owner other = cond-false _ _ _ other

pub others_are_strangers : OthersAreStrangers
others_are_strangers unmapped peer (Found uid) other = stranger peer _ other
others_are_strangers unmapped peer NotFound other = stranger peer _ other
others_are_strangers unmapped peer Unread other = refl

no_table : (claims : Bool) (unmapped : Option ℕ) (peer : Peer) (a b : Evidence) → is_shown claims peer ≡ false
    → (if claims then Claims else trust_over_tcp unmapped peer a) ≡ (if claims then Claims else trust_over_tcp unmapped peer b)
no_table true unmapped peer a b unseen = refl
no_table false unmapped peer a b unseen = others_are_strangers unmapped peer a unseen ∙ sym (others_are_strangers unmapped peer b unseen)

pub others_need_no_table : OthersNeedNoTable
others_need_no_table beliefs peer a b unseen = no_table beliefs.claims beliefs.unmapped peer a b unseen

neither : (a : Bool) → (a && false) ≡ false
neither true = refl
neither false = refl

no_home : (a : Bool) → (a && a) ≡ false → (a && true) ≡ false
no_home true is = is
no_home false is = refl

-- Whoever is sent from the same host as the socket has is at home only if both are.
not_both : (bound source : Host) → (is_home bound && is_home source) ≡ false → (is_home bound && is_same_host bound source) ≡ false
not_both bound source other = by_known (is_same_host bound source) refl
  where
    by_known : (b : Bool) → is_same_host bound source ≡ b → (is_home bound && b) ≡ false
    by_known false known = neither (is_home bound)
    by_known true known =
        no_home (is_home bound) (subst (λ (h : Host). (is_home bound && is_home h) ≡ false) (sym (same_host_is bound source known)) other)

pub others_are_strangers_over_udp : OthersAreStrangersOverUdp
others_are_strangers_over_udp unmapped bound peer other = cond-false _ _ _ (not_both bound peer.host other)
