-- Texts of callers, read, and what is so read.
use Rattle.std.specs.Prelude.{◌≡◌, ◌↔◌, ℕ, ◌^◌, if◌then◌else◌, List, Option, Some, None, bytes_eq, codes}
use Rattle.std.specs.Option.{option_map, option_or}
use Rattle.rb_address.specs.declared.host.Host.{Host}
use Rattle.rb_address.specs.declared.host.Host.TheVariants.{V4, V6}
use Rattle.rb_address.specs.declared.who.Owner.TheVariants.{Unknown, Uid}
use Rattle.rb_address.specs.declared.who.Source.{Source}
use Rattle.rb_address.specs.declared.who.Source.TheVariants.{Inet, Local}
use Rattle.rb_address.specs.declared.who.Trust.{Trust}
use Rattle.rb_address.specs.declared.who.Trust.TheVariants as trusts
use Rattle.rb_address.specs.declared.who.Who.{Who}
use Rattle.rb_address.specs.Hosts.{is_same_host}
use Rattle.rb_address.specs.Callers.{unknown_host, IsWho, who_text}
use Rattle.rb_address.specs.Reading.{◌>>=◌, cut, plain_number, ipv4_host, printed_ipv6, peer}

-- a peer, or `local`
unfoldable pub source : List ℕ → Option Source
source text = if bytes_eq text (codes "local") then Some Local else option_map Inet (peer text)

-- a host of either family, in the one form that is printed
unfoldable pub printed_host : List ℕ → Option Host
printed_host text = option_or (option_map V4 (ipv4_host text)) (option_map V6 (printed_ipv6 text))

-- the host that was asked; 0.0.0.0, which says that it is not known, is not written
unfoldable pub asked : List ℕ → Option Host
asked text = do
  host ← printed_host text
  if is_same_host host unknown_host then None else Some host

-- `unknown`, `stranger` or a uid
unfoldable pub trust : List ℕ → Option Trust
trust text =
    if bytes_eq text (codes "unknown") then Some (trusts.Local Unknown)
    else if bytes_eq text (codes "stranger") then Some trusts.Stranger
    else option_map (λ uid. trusts.Local (Uid uid)) (plain_number (2 ^ 32) text)

abbrev pub claimant_of_parts : List ℕ → Option (List ℕ × List ℕ) → Option Who
claimant_of_parts text None = do
  from ← source text
  Some (record { source = from; asked = unknown_host; trust = trusts.Claims })
claimant_of_parts text (Some parts) = do
  from ← source parts.0
  host ← asked parts.1
  Some (record { source = from; asked = host; trust = trusts.Claims })

-- a source, and after `>` the host that was asked
unfoldable pub claimant : List ℕ → Option Who
claimant text = claimant_of_parts text (cut 62 text)

abbrev pub who_of_parts : List ℕ → Option (List ℕ × List ℕ) → Option Who
who_of_parts text None = claimant text
who_of_parts text (Some parts) = do
  caller ← claimant parts.0
  known ← trust parts.1
  Some (record caller { trust = known })

-- the same, and after `/` whose word there is for it
unfoldable pub who : List ℕ → Option Who
who text = who_of_parts text (cut 47 text)

-- ---- what is read

-- the text is what is printed of this caller
-- CALLER-1
pub record SpellsWho (w : Who) (text : List ℕ) : Type 0 where
  pub is_who : IsWho w
  pub text_is : text ≡ who_text w

-- A text is read as this caller exactly if it is what is printed of it.
abbrev pub CallersAreSpelled : Type 0
CallersAreSpelled = (text : List ℕ) (w : Who) → (who text ≡ Some w) ↔ SpellsWho w text
