-- Which of the kept rows are asked whether somebody answers there, and at which host.
use Rattle.std.specs.Prelude.{List, ◌||◌, if◌then◌else◌, Option, Some, None}
use Rattle.rb_address.specs.declared.host.Host.{Host}
use Rattle.rb_address.specs.declared.host.Host.TheVariants.{V4, V6}
use Rattle.rb_address.specs.Hosts.{is_any, is_loopback}
use Rattle.rb_policy.specs.Addresses.{loopback, loopback6, has_host}

-- 127.0.0.1 or ::1, by the family
abbrev pub loopback_of : Host → Host
loopback_of (V4 octets) = V4 loopback
loopback_of (V6 octets) = V6 loopback6

-- KEEPCHECK-1: With `--keep-check` the program of a kept row of 0.0.0.0 or `::` is asked at the
-- loopback; of the loopback, of a host that is listened on and of one that is announced, at that
-- host; and of any other host it is not asked.
abbrev pub checked_at : List Host → List Host → Host → Option Host
checked_at bound announced host =
    if is_any host then Some (loopback_of host)
    else (if is_loopback host || has_host host bound || has_host host announced then Some host else None)
