-- What an event shows, by the key of its token.
use Rattle.std.specs.Prelude.{ℕ, ◌-◌, ◌^◌, ◌<◌, ◌==◌, nat_lt, if◌then◌else◌}
use Rattle.rb_address.specs.declared.host.Family.{Family}
use Rattle.rb_address.specs.declared.host.Family.TheVariants.{Inet, Inet6}
use Rattle.rb_arrivals.specs.declared.shown.Shown.{Shown}
use Rattle.rb_arrivals.specs.declared.shown.Shown.TheVariants.{Connection, Forwards, Calls, Listener}

-- of the sockets for forwarded calls 1025 is that of IPv6
abbrev pub family_at : ℕ → Family
family_at key = if key == 1025 then Inet6 else Inet

-- below 1024 the place of a connection, below 2048 a socket for forwarded calls, below 4096 one where datagrams come in,
-- and from there on a listener
-- TOKEN-1: The token of a socket has a key by which an event shows that socket; a place of a
-- connection has its number as key.
abbrev pub shown_by : ℕ → Shown
shown_by key =
    if nat_lt key 1024 then Connection key
    else (if nat_lt key 2048 then Forwards (family_at key)
    else (if nat_lt key 4096 then Calls (key - 2048) else Listener (key - 4096)))

-- There are fewer places of connections than 1024, and fewer sockets for datagrams than 2048.
-- TOKEN-1
abbrev pub MayBeShown : Shown → Type 0
MayBeShown (Connection place) = place < 1024
MayBeShown (Forwards family) = Unit {0}
MayBeShown (Calls number) = number < 2048
MayBeShown (Listener number) = number < 2 ^ 32
