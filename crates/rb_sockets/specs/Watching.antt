-- When sockets of the daemon are served again.
use Rattle.std.specs.Prelude.{Bool, true, false, not, ◌||◌, Option, Some, None, ◌≡◌, ℕ, List, slice_get, option_map}
use Rattle.std.specs.List.{list_any}
use Rattle.rb_address.specs.declared.host.Family.{Family}
use Rattle.rb_address.specs.declared.host.Family.TheVariants.{Inet, Inet6}
use Rattle.rb_policy.specs.Rounds.{StayBut}
use Rattle.rb_policy.specs.declared.turns.Again.{Again}
use Rattle.rb_policy.specs.declared.turns.Again.TheVariants.{AtEvent, AtOnce, AfterWait}
use Rattle.rb_sockets.specs.declared.calls.CallSockets.{CallSockets}
use Rattle.rb_sockets.specs.declared.calls.ForwardSocket.{ForwardSocket}
use Rattle.rb_sockets.specs.declared.calls.ForwardSockets.{ForwardSockets}
use Rattle.rb_arrivals.specs.declared.shown.Shown.{Shown}
use Rattle.rb_arrivals.specs.declared.shown.Shown.TheVariants.{Connection, Forwards, Calls, Listener}
use Rattle.rb_sockets.specs.declared.sockets.Sockets.{Sockets}
use Rattle.rb_sockets.specs.declared.watched.Watched.{Watched}
use Rattle.rb_sockets.specs.Wanted.{are_ready, are_wanted}

abbrev pub is_at_once : Again → Bool
is_at_once AtOnce = true
is_at_once AtEvent = false
is_at_once AfterWait = false

abbrev pub is_after_wait : Again → Bool
is_after_wait AfterWait = true
is_after_wait AtEvent = false
is_after_wait AtOnce = false

-- one that no event showed yet, and that was not served
abbrev pub unserved : {S : Type 0} → S → Watched S
unserved socket = record { socket = socket; again = AtEvent; is_shown = false; has_failed = false }

-- ---- of several sockets

-- whether this holds of a socket, if there is one
abbrev pub holds_of : (Again → Bool) → Option (Watched ForwardSocket) → Bool
holds_of p None = false
holds_of p (Some watched) = p watched.again

-- whether it holds of one of these
abbrev pub of_forwards : (Again → Bool) → ForwardSockets → Bool
of_forwards p forwards = holds_of p forwards.inet || holds_of p forwards.inet6

abbrev pub of_calls : (Again → Bool) → CallSockets → Bool
of_calls p calls = list_any (λ watched. p watched.again) calls.all.items

abbrev pub of_datagrams : (Again → Bool) → Sockets → Bool
of_datagrams p sockets = of_forwards p sockets.forwards || of_calls p sockets.calls

abbrev pub of_listeners : (Again → Bool) → Sockets → Bool
of_listeners p sockets = list_any (λ watched. p watched.again) sockets.listeners.items

-- whether it holds of one of all
abbrev pub of_all : (Again → Bool) → Sockets → Bool
of_all p sockets = of_datagrams p sockets || of_listeners p sockets

abbrev pub are_listeners_ready : Sockets → Bool
are_listeners_ready sockets = are_ready sockets.listeners.items

-- whether one of all must be served in this turn, or has something to tell
abbrev pub wants_turn : Sockets → Bool
wants_turn sockets = are_wanted sockets.forwards sockets.calls sockets.listeners.items

-- The note that one may be wanted is settled: it says whether one is.
-- TURN-7
abbrev pub IsSettled : Sockets → Sockets → Type 0
IsSettled old new = (noted : _) × (new ≡ record old { may_want = wants_turn old; noted = noted })

-- ---- what failed

abbrev pub fails_first : {S : Type 0} → Option (Watched S) → Bool
fails_first None = false
fails_first (Some watched) = not watched.has_failed

-- ---- what an event shows

abbrev pub shown_now : {S : Type 0} → Watched S → Watched S
shown_now watched = record watched { is_shown = true }

-- One of these is shown, and the others are as they were.
pub record IsShownAt {S : Type 0} (number : ℕ) (old new : List (Watched S)) : Type 0 where
  pub here : slice_get new number ≡ option_map shown_now (slice_get old number)
  pub others : StayBut number old new

abbrev pub forwards_shown : Family → ForwardSockets → ForwardSockets
forwards_shown Inet forwards = record forwards { inet = option_map shown_now forwards.inet }
forwards_shown Inet6 forwards = record forwards { inet6 = option_map shown_now forwards.inet6 }

-- The socket that an event shows is noted, and is served in this turn.
-- TURN-7
abbrev pub NotesShown : Shown → Sockets → Sockets → Type 0
NotesShown (Connection place) old new = new ≡ old
NotesShown (Forwards family) old new =
    (noted : _) × (new ≡ record old { forwards = forwards_shown family old.forwards; may_want = true; noted = noted })
NotesShown (Calls number) old new = IsShownAt number old.calls.all.items new.calls.all.items
NotesShown (Listener number) old new = IsShownAt number old.listeners.items new.listeners.items
