-- Whether the sockets have something to tell, or something to do at a moment.
use Rattle.std.specs.Prelude.{◌≡◌, ℕ, nat_le, Bool, true, false, ◌||◌, if◌then◌else◌, Option, Some, None, is_none, option_map, Result, Ok, Err}
use Rattle.std.specs.Option.{is_some}
use Rattle.std.specs.declared.io.Error.{Error}
use Rattle.rb_policy.specs.LocalFile.{next_try}
use Rattle.rb_sockets.specs.declared.listener.Listener.{Listener}
use Rattle.rb_sockets.specs.declared.listener.Listener.TheVariants.{Tcp, Local, Closed}
use Rattle.rb_sockets.specs.declared.local.AbstractName.{AbstractName}
use Rattle.rb_sockets.specs.declared.sockets.Sockets.{Sockets}
use Rattle.rb_sockets.specs.declared.watched.Watched.{Watched}
use Rattle.rb_sockets.specs.Arrivals.{next_name_try}
use Rattle.rb_sockets.specs.Wanted.{is_one_changed}

abbrev pub is_due : ℕ → Option ℕ → Bool
is_due now None = false
is_due now (Some next) = nat_le next now

abbrev pub is_local_changed : Sockets → Bool
is_local_changed sockets = is_one_changed sockets.listeners.items

-- why the first try failed is yet to be told, or it is the moment to try again
abbrev pub has_name_news : ℕ → AbstractName → Bool
has_name_news now name = is_some name.fault || is_due now (next_name_try name)

abbrev pub has_news_of : ℕ → Option AbstractName → Bool
has_news_of now None = false
has_news_of now (Some name) = has_name_news now name

-- the moment at which is next found out which addresses there are, if they are followed
abbrev pub next_look : Sockets → Option ℕ
next_look sockets = option_map (λ follower. next_try follower.last_read) sockets.follower

-- the addresses are due, or there is news of the abstract name or of the local socket
abbrev pub has_news : ℕ → Sockets → Bool
has_news now sockets =
    is_due now (next_look sockets) || has_news_of now sockets.abstract_name || is_local_changed sockets

-- ---- what is told once

abbrev pub when_told : Listener → Listener
when_told (Tcp listener beliefs) = Tcp listener beliefs
when_told (Local local) = Local (record local { is_change_untold = false })
when_told Closed = Closed

abbrev pub told_of : Watched Listener → Watched Listener
told_of watched = record watched { socket = when_told watched.socket }

-- ---- tries to take the abstract name

-- once taken it is told, and a later try that fails is not
abbrev pub told_of_try : AbstractName → Option (Result (Unit {0}) Error)
told_of_try name = if is_none name.held then None else Some (Ok tt)

-- Why the first try failed is told once; before the moment of the next one there is none.
pub record HasTried (now : ℕ) (old new : AbstractName) (said : Option (Result (Unit {0}) Error)) : Type 0 where
  pub fault : (error : Error) → old.fault ≡ Some error → (said ≡ Some (Err error)) × (new ≡ record old { fault = None })
  pub early : has_name_news now old ≡ false → (said ≡ None) × (new ≡ old)
  pub due : old.fault ≡ None → is_due now (next_name_try old) ≡ true
      → (said ≡ told_of_try new) × (new ≡ record old { last_try = now; held = new.held })

abbrev pub HasTriedIfAny : ℕ → Option AbstractName → Option AbstractName → Option (Result (Unit {0}) Error) → Type 0
HasTriedIfAny now None new said = (said ≡ None) × (new ≡ None)
HasTriedIfAny now (Some old) None said = ⊥
HasTriedIfAny now (Some old) (Some new) said = HasTried now old new said
