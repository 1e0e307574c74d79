-- Worked rows.
use Rattle.std.proofs.Common.{◌≡◌, ◌≢◌, ℕ, ◌<◌, ◌≤◌, inl, List, [], ◌∷◌, Some, refl, sym, ap, ◌∙◌, arith}
use Rattle.std.specs.Prelude.{codes}
use Rattle.std.specs.Fmt.{digits}
use Rattle.std.proofs.lemmas.Bool.{false≢true}
use Rattle.std.proofs.lemmas.Option.{same_Some}
use Rattle.rb_uaddr.specs.declared.address.Uaddr.{Uaddr}
use Rattle.rb_uaddr.specs.declared.address.Uaddr.TheVariants.{V4, V6}
use Rattle.rb_uaddr.specs.Uaddr.{any_host, octet, ipv4_of_parts, parts_of, parse_ipv4, is_local_text}
use Rattle.rb_uaddr.specs.Grammar.{SpellsV4, IsLocalText}
use Rattle.rb_uaddr.proofs.GrammarLaws.{four_bytes}
use Rattle.rb_uaddr.proofs.LocalTexts.{local_is_any_text}
use Rattle.rb_address.specs.declared.host.Host.TheVariants as hosts
use Rattle.rb_address.specs.declared.netid.Netid.{Netid}
use Rattle.rb_address.specs.declared.netid.Netid.TheVariants.{Tcp, Local}
use Rattle.rb_address.specs.declared.who.Trust.TheVariants.{Claims, Stranger}
use Rattle.rb_address.specs.Hosts.{is_loopback}
use Rattle.rb_answers.specs.Callers.{is_local}
use Rattle.rb_promises.specs.LocalCallers.{IsLocal}
use Rattle.rb_promises.specs.LocalCallers.IsLocal.{AtTheLoopback, AtTheAnnounced}
use Rattle.rb_promises.specs.Addresses.{IsAddressOfV4, IsAddressOn}
use Rattle.rb_promises.specs.Sets.{IsAccepted}
use Rattle.rb_promises.specs.Unsets.AreWithout.{Neither, Goes, Stays}
use Rattle.rb_promises.specs.LookUps.StandsIn.{TheAsked}
use Rattle.rb_promises.specs.LookUps.TellsRow.{AsV4, AsItStands}
use Rattle.rb_promises.specs.WorkedRows.{announced, who_at, loopback, here, nothing, row_at, RowsAreAccepted, CallersAreLocal, RowsAreLeft, RowsAreTold}
use Rattle.rb_promises.proofs.LocalCallers.{local_exactly}
use Rattle.rb_promises.proofs.Addresses.{spelled_v4}

pub rows_are_left : RowsAreLeft
rows_are_left = Goes _ _ _ refl (Stays _ _ _ (λ e. absurd cc) (Goes _ _ _ refl Neither))

-- ---- addresses

small : (n : ℕ) → n ≤ 255 → n < 256
small n few = omega (arith, few)

every_host_spelled : SpellsV4 any_host 2049 (codes "0.0.0.0.8.1")
unfolding digits
every_host_spelled = record {
  p1 = 8;
  p2 = 1;
  host_fits = let zero = small 0 (omega arith) in four_bytes 0 0 0 0 zero zero zero zero;
  p1_fits = omega arith;
  p2_fits = omega arith;
  port_is = refl;
  text_is = refl;
}

asked_spelled : SpellsV4 (192 ∷ 0 ∷ 2 ∷ 7 ∷ []) 2049 (codes "192.0.2.7.8.1")
unfolding digits
asked_spelled = record {
  p1 = 8;
  p2 = 1;
  host_fits = four_bytes 192 0 2 7 (small 192 (omega arith)) (small 0 (omega arith)) (small 2 (omega arith)) (small 7 (omega arith));
  p1_fits = omega arith;
  p2_fits = omega arith;
  port_is = refl;
  text_is = refl;
}

read_at_0 : parse_ipv4 (codes "0.0.0.0.0.0") ≡ Some (V4 any_host 0)
unfolding digits octet ipv4_of_parts parts_of parse_ipv4
read_at_0 = refl

no_port : IsAddressOfV4 (codes "0.0.0.0.0.0") → ⊥
no_port a =
    let same : V4 any_host 0 ≡ V4 a.host a.port = same_Some _ _ (sym read_at_0 ∙ spelled_v4 (codes "0.0.0.0.0.0") a.host a.port a.spelled) in
    a.some (sym (ap port_in same))
  where
    port_in : Uaddr → ℕ
    port_in (V4 host port) = port
    port_in (V6 host port) = port

is_name : IsLocalText (codes "/run/program.sock")
unfolding is_local_text
is_name = (local_is_any_text (codes "/run/program.sock")).0 refl

-- ---- what is accepted

accepted_at : (netid : Netid) (addr : List ℕ) → IsAddressOn netid addr → IsAccepted here nothing (row_at netid addr)
accepted_at netid addr address = record {
  local = AtTheLoopback (record { host = hosts.V4 loopback; port = 900 }) refl refl (0 ∷ 0 ∷ 1 ∷ [], refl);
  foreign = λ e. omega (arith, e);
  address = address;
  owned = λ (k, r, low, is, covers). absurd (omega (arith, low));
  is_new = λ other there same. omega (arith, there.1);
  fits = omega arith;
  quarter = λ owner known other. absurd cc;
  numbered = omega arith;
}

pub rows_are_accepted : RowsAreAccepted
rows_are_accepted = (
  accepted_at Tcp (codes "0.0.0.0.8.1") (record { host = any_host; port = 2049; spelled = every_host_spelled; some = λ e. omega (arith, e) }),
  accepted_at Local (codes "/run/program.sock") is_name,
  λ a. no_port a.address,
)

-- ---- who is of this machine

other_host : IsLocal announced (who_at Claims (192 ∷ 0 ∷ 2 ∷ 2 ∷ [])) → ⊥
unfolding is_local is_loopback
other_host l = false≢true ((local_exactly announced (who_at Claims (192 ∷ 0 ∷ 2 ∷ 2 ∷ []))).1 l)

stranger_here : IsLocal announced (who_at Stranger loopback) → ⊥
stranger_here l = false≢true ((local_exactly announced (who_at Stranger loopback)).1 l)

pub callers_are_local : CallersAreLocal
callers_are_local = (
  AtTheAnnounced (record { host = hosts.V4 (192 ∷ 0 ∷ 2 ∷ 1 ∷ []); port = 900 }) refl refl refl,
  other_host,
  stranger_here,
)

-- ---- what is told

asked_is_other : 192 ∷ 0 ∷ 2 ∷ 7 ∷ [] ≢ any_host
asked_is_other e = absurd cc

pub rows_are_told : RowsAreTold
rows_are_told = (
  AsV4 (inl refl) (record {
    own = any_host;
    host = 192 ∷ 0 ∷ 2 ∷ 7 ∷ [];
    port = 2049;
    was_set = every_host_spelled;
    host_is = inl (refl, TheAsked refl asked_is_other);
    is_told = asked_spelled;
  }),
  AsItStands tt refl,
)
