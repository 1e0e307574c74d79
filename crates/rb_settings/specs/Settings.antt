-- What the core is told of a daemon's settings.
use Rattle.std.specs.Prelude.{ℕ, nat_le, if◌then◌else◌, List, length, Option, Some, None}
use Rattle.rb_policy.specs.Addresses.{announced_inet, announced_inet6}
use Rattle.rb_answers.specs.declared.listener.Announced.{Announced}
use Rattle.rb_answers.specs.declared.listener.Listener.{Listener}
use Rattle.rb_settings.specs.declared.settings.LocalSocket.{LocalSocket}
use Rattle.rb_settings.specs.declared.settings.Settings.{Settings}

-- the path of the local socket; one of more than 128 bytes names none
abbrev pub path_of : Option LocalSocket → Option (List ℕ)
path_of None = None
path_of (Some local) = if nat_le (length local.path.now) 128 then Some local.path.now else None

-- the host of each family that is served
abbrev pub announced_by : Settings → Announced
announced_by s = record {
  inet = announced_inet s.announce.inet s.bind;
  inet6 = announced_inet6 s.announce.inet6 s.bind s.loopback6;
}

-- ANNOUNCE-2: The core is told which families are served, with the host of each that is announced,
-- the port, and the path of the local socket.
abbrev pub listener_of : Settings → Listener
listener_of s = record { announced = announced_by s; port = s.port; local = path_of s.local; terms = s.terms; reserved = s.reserve }
