-- On which terms callers are served: for whom another call is made and to what, and what strangers are counted for (RFC 1833
-- sections 2.1, 2.2.1 and 3.1).
use Rattle.std.specs.Prelude.{ℕ, ◌==◌, Bool, true, false, not, ◌&&◌, ◌||◌, bytes_eq, Option, Some, None}
use Rattle.rb_address.specs.declared.caller.Caller.{Caller}
use Rattle.rb_uaddr.specs.Uaddr.{any_host, any_host6}
use Rattle.rb_address.specs.declared.host.Host.{Host}
use Rattle.rb_address.specs.declared.host.Host.TheVariants.{V4, V6}
use Rattle.rb_address.specs.declared.who.Who.{Who}
use Rattle.rb_address.specs.Hosts.{is_same_host}
use Rattle.rb_registry.specs.declared.row.Row.{Row}
use Rattle.rb_arguments.specs.declared.remote.RemoteCall.{RemoteCall}
use Rattle.rb_answers.specs.declared.listener.Forwarding.{Forwarding}
use Rattle.rb_answers.specs.declared.listener.Forwarding.TheVariants.{Anywhere, ForAll, ForLocal}
use Rattle.rb_answers.specs.declared.listener.Terms.{Terms}
use Rattle.rb_answers.specs.declared.context.Context.{Context}
use Rattle.rb_answers.specs.Callers.{who_of, is_stranger, is_local}

-- those that hold nobody back
abbrev pub open_terms : Terms
open_terms = record { long_replies = true; forwarding = Anywhere }

-- ---- for whom another call is made, and to what

-- a program that goes by its caller's host would go by this one
-- CALLIT-8: With `--forward-for` of `local` or `all` no program is called that goes by its caller's
-- host: ypserv, ypbind, yppasswdd, and mountd except for its procedure 0.
unfoldable pub goes_by_host : ℕ → ℕ → Bool
goes_by_host prog proc = prog == 100004 || prog == 100007 || prog == 100009 || prog == 100005 && not (proc == 0)

abbrev pub is_any_host : Host → Bool
is_any_host (V4 octets) = bytes_eq octets any_host
is_any_host (V6 octets) = bytes_eq octets any_host6

-- CALLIT-7: With `--forward-for` of `local` or `all` a call goes to this host alone: to a row at
-- every host, of the loopback, at an announced host, or at the host that its caller asked. Any
-- other row counts as none: PROG_UNAVAIL.
unfoldable pub is_this_host : Context → Host → Bool
is_this_host context host =
    is_any_host host || is_local context.announced host || is_same_host host (who_of context.caller).asked

-- a program of this host that does not go by the host of who calls it
abbrev pub is_harmless : Context → RemoteCall → Host → Bool
is_harmless context remote host = is_this_host context host && not (goes_by_host remote.prog remote.proc)

-- CALLIT-9: With `--forward-for local` no call is made for a stranger: it is answered as if there
-- were no row.
abbrev pub may_go_by : Forwarding → Context → RemoteCall → Host → Bool
may_go_by Anywhere context remote host = true
may_go_by ForAll context remote host = is_harmless context remote host
may_go_by ForLocal context remote host = is_harmless context remote host && not (is_stranger (who_of context.caller))

-- the call that is asked for may be made to this host, for this caller
-- CALLIT-7
unfoldable pub may_go : Context → RemoteCall → Host → Bool
may_go context remote host = may_go_by context.terms.forwarding context remote host

-- ---- what strangers are counted for

-- a row of exactly this version was found
abbrev pub is_exact : ℕ → Option Row → Bool
is_exact vers None = false
is_exact vers (Some row) = row.vers == vers

-- COUNT-2: A stranger's look-up counts only if the row that is found is of exactly the version that
-- it names, and its forwarded call only if it passed: so strangers bring no key of what is not
-- registered. Its calls are counted as all are (COUNT-6).
abbrev pub counts_look_up : Who → ℕ → Option Row → Bool
counts_look_up who vers found = not (is_stranger who) || is_exact vers found

-- A forwarded call counts, whether it passed or not. A stranger's counts only if it did.
-- COUNT-2
abbrev pub counts_forward : Caller → Bool → Bool
counts_forward caller passed = not (is_stranger (who_of caller)) || passed
