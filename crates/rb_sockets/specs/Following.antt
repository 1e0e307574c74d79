-- What is known of addresses that are followed, and what is told of them.
use Rattle.std.specs.Prelude.{◌≡◌, ℕ, nat_lt, nat_le, Bool, true, false, if◌then◌else◌, List, [], ◌∷◌, ◌++◌, length, Option, Some, None, Result, Ok, Err}
use Rattle.rb_address.specs.declared.host.Host.{Host}
use Rattle.rb_address.specs.Hosts.{is_same_host}
use Rattle.rb_policy.specs.LocalFile.{next_try}
use Rattle.rb_settings.specs.declared.faults.BindFault.{BindFault}
use Rattle.rb_settings.specs.declared.faults.BindFault.TheVariants.{Memory, Socket}
use Rattle.rb_sockets.specs.declared.tables.TableFault.{TableFault}
use Rattle.rb_sockets.specs.declared.follow.Follower.{Follower}
use Rattle.rb_sockets.specs.declared.follow.AddressNews.{AddressNews}
use Rattle.rb_sockets.specs.declared.follow.AddressNews.TheVariants.{Came, LeftOut, Unread, Failed}

-- behind the others, if there is room
abbrev pub put_behind : Host → List Host → List Host
put_behind host hosts = if nat_lt (length hosts) 16 then hosts ++ host ∷ [] else hosts

abbrev pub is_that : Option Host → Host → Bool
is_that None host = false
is_that (Some other) host = is_same_host host other

-- these behind the others, without one, as far as there is room
abbrev pub put_all_but : Option Host → List Host → List Host → List Host
put_all_but other [] others = others
put_all_but other (host ∷ hosts) others =
    put_all_but other hosts (if is_that other host then others else put_behind host others)

abbrev pub all_but : Option Host → List Host → List Host
all_but other hosts = put_all_but other hosts []

-- ---- readings

-- The lists are read again ten seconds after they were last read, and not before: what goes from there on is another list.
-- FOLLOW-1
abbrev pub is_due : ℕ → Follower → Bool
is_due now follower = nat_le (next_try follower.last_read) now

pub record IsReadIfDue (now : ℕ) (old new : Follower) : Type 0 where
  pub due : is_due now old ≡ true → (new.last_read ≡ now) × (new.left ≡ [])
  pub early : is_due now old ≡ false → new ≡ old

-- ---- news

-- a fault comes first
-- FOLLOW-2
abbrev pub news_of : Option TableFault → Option Host → Option AddressNews
news_of (Some fault) left_out = Some (Unread fault)
news_of None (Some host) = Some (LeftOut host)
news_of None None = None

abbrev pub without_news_of : Option TableFault → Follower → Follower
without_news_of (Some fault) follower = record follower { fault = None }
without_news_of None follower = record follower { left_out = None }

abbrev pub without_news : Follower → Follower
without_news follower = without_news_of follower.fault follower

-- of those for which there was no room the first is told, once
-- FOLLOW-2
abbrev pub first_left_out : Option Host → Follower → Follower
first_left_out None follower = follower
first_left_out (Some host) follower =
    if follower.has_left_out then follower else record follower { left_out = Some host; has_left_out = true }

-- so is the first fault
abbrev pub first_fault : TableFault → Follower → Follower
first_fault fault follower =
    if follower.has_fault then follower else record follower { fault = Some fault; has_fault = true }

-- ---- an address on which it was tried to listen

abbrev pub IsFailureOf : BindFault → AddressNews → Type 0
IsFailureOf (Memory error) news = ⊥
IsFailureOf (Socket fault) news = news ≡ Failed fault

-- of those that could not be listened on the first is told, once
-- FOLLOW-2
abbrev pub IsFirstFailure : BindFault → Follower → Follower → Option AddressNews → Type 0
IsFirstFailure fault old new None = new ≡ old
IsFirstFailure fault old new (Some news) =
    (old.has_failed ≡ false) × (new ≡ record old { has_failed = true }) × IsFailureOf fault news

abbrev pub ListensFrom : Host → Result (Unit {0}) BindFault → Follower → Follower → Option AddressNews → Type 0
ListensFrom host (Ok done) old new news = (new.bound ≡ put_behind host old.bound) × (news ≡ Some (Came host))
ListensFrom host (Err fault) old new news = (new.bound ≡ old.bound) × (new.found ≡ all_but (Some host) old.found)
