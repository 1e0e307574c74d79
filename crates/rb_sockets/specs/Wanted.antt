-- Which of the daemon's own sockets must be served in a turn, or have something to tell.
use Rattle.std.specs.Prelude.{Bool, true, false, not, ◌||◌, List, Option, Some, None}
use Rattle.std.specs.List.{list_any}
use Rattle.rb_policy.specs.declared.turns.Again.{Again}
use Rattle.rb_policy.specs.declared.turns.Again.TheVariants.{AtEvent, AtOnce, AfterWait}
use Rattle.rb_sockets.specs.declared.calls.CallSockets.{CallSockets}
use Rattle.rb_sockets.specs.declared.calls.ForwardSocket.{ForwardSocket}
use Rattle.rb_sockets.specs.declared.calls.ForwardSockets.{ForwardSockets}
use Rattle.rb_sockets.specs.declared.listener.Listener.{Listener}
use Rattle.rb_sockets.specs.declared.listener.Listener.TheVariants.{Tcp, Local, Closed}
use Rattle.rb_sockets.specs.declared.watched.Watched.{Watched}

abbrev pub is_at_event : Again → Bool
is_at_event AtEvent = true
is_at_event AtOnce = false
is_at_event AfterWait = false

-- whether it must be served in this turn
abbrev pub is_ready : {S : Type 0} → Watched S → Bool
is_ready watched = watched.is_shown || not (is_at_event watched.again)

-- whether one of these must be
abbrev pub are_ready : {S : Type 0} → List (Watched S) → Bool
are_ready sockets = list_any is_ready sockets

abbrev pub is_ready_if : Option (Watched ForwardSocket) → Bool
is_ready_if None = false
is_ready_if (Some watched) = is_ready watched

abbrev pub are_forwards_ready : ForwardSockets → Bool
are_forwards_ready forwards = is_ready_if forwards.inet || is_ready_if forwards.inet6

-- whether it is the local socket, and it is yet to be told that it is root's no longer
abbrev pub is_changed : Listener → Bool
is_changed (Tcp listener beliefs) = false
is_changed (Local local) = local.is_change_untold
is_changed Closed = false

abbrev pub is_one_changed : List (Watched Listener) → Bool
is_one_changed listeners = list_any (λ watched. is_changed watched.socket) listeners

-- whether one of all must be served in this turn, or has something to tell
-- TURN-7
abbrev pub are_wanted : ForwardSockets → CallSockets → List (Watched Listener) → Bool
are_wanted forwards calls listeners =
    are_forwards_ready forwards || are_ready calls.all.items || are_ready listeners || is_one_changed listeners
