-- Worked rows: what the relations say of some, found by hand.
use Rattle.std.specs.Prelude.{◌≡◌, ℕ, List, [], ◌∷◌, codes, Some, None}
use Rattle.rb_address.specs.declared.host.Host.TheVariants.{V4}
use Rattle.rb_address.specs.declared.netid.Netid.{Netid}
use Rattle.rb_address.specs.declared.netid.Netid.TheVariants.{Tcp, Local}
use Rattle.rb_address.specs.declared.who.Owner.TheVariants.{Uid}
use Rattle.rb_address.specs.declared.who.Source.TheVariants.{Inet}
use Rattle.rb_address.specs.declared.who.Trust.{Trust}
use Rattle.rb_address.specs.declared.who.Trust.TheVariants.{Claims, Stranger}
use Rattle.rb_address.specs.declared.who.Who.{Who}
use Rattle.rb_address.specs.declared.caller.Caller.TheVariants.{Udp}
use Rattle.rb_registry.specs.declared.row.Row.{Row}
use Rattle.rb_answers.specs.declared.context.Context.{Context}
use Rattle.rb_answers.specs.declared.listener.Announced.{Announced}
use Rattle.rb_answers.specs.Terms.{open_terms}
use Rattle.rb_answers.specs.Ledger.{Ledger, fresh_ledger}
use Rattle.rb_promises.specs.LocalCallers.{IsLocal}
use Rattle.rb_promises.specs.Sets.{IsAccepted}
use Rattle.rb_promises.specs.Unsets.{AreWithout}
use Rattle.rb_promises.specs.LookUps.{TellsRow}

-- the daemon is 192.0.2.1 alone
abbrev pub announced : Announced
announced = record { inet = Some (192 ∷ 0 ∷ 2 ∷ 1 ∷ []); inet6 = None }

-- this host, which asked 192.0.2.7, as far as it is trusted
abbrev pub who_at : Trust → List ℕ → Who
who_at trust host = record {
  source = Inet (record { host = V4 host; port = 900 });
  asked = V4 (192 ∷ 0 ∷ 2 ∷ 7 ∷ []);
  trust = trust;
}

abbrev pub loopback : List ℕ
loopback = 127 ∷ 0 ∷ 0 ∷ 1 ∷ []

-- a datagram from 127.0.0.1, when there may be twenty rows
abbrev pub here : Context
here = record {
  announced = announced;
  terms = open_terms;
  reserved = [];
  limit = 20;
  forwards = 4;
  clock = 0;
  caller = Udp (who_at Claims loopback) 9000;
}

-- no row is live
abbrev pub nothing : Ledger
nothing = fresh_ledger []

abbrev pub row_at : Netid → List ℕ → Row
row_at netid addr = record { prog = 200001; vers = 1; netid = netid; owner = Uid 500; addr = addr }

-- port 2049 of every host, and port 0
abbrev pub at_2049 : Row
at_2049 = row_at Tcp (codes "0.0.0.0.8.1")

abbrev pub at_0 : Row
at_0 = row_at Tcp (codes "0.0.0.0.0.0")

abbrev pub in_a_socket : Row
in_a_socket = row_at Local (codes "/run/program.sock")

-- A caller at the loopback sets a row at a port, and at a local socket, but none at port 0.
abbrev pub RowsAreAccepted : Type 0
RowsAreAccepted = IsAccepted here nothing at_2049 × IsAccepted here nothing in_a_socket × ¬ (IsAccepted here nothing at_0)

-- A stranger is not of this machine, wherever it calls from; 192.0.2.1 is, as it is announced, and 192.0.2.2 is not.
abbrev pub CallersAreLocal : Type 0
CallersAreLocal =
    IsLocal announced (who_at Claims (192 ∷ 0 ∷ 2 ∷ 1 ∷ [])) × ¬ (IsLocal announced (who_at Claims (192 ∷ 0 ∷ 2 ∷ 2 ∷ [])))
    × ¬ (IsLocal announced (who_at Stranger loopback))

-- Without the rows of tcp, the other one is left.
abbrev pub RowsAreLeft : Type 0
RowsAreLeft = AreWithout (λ row. row.netid ≡ Tcp) (at_2049 ∷ in_a_socket ∷ at_0 ∷ []) (in_a_socket ∷ [])

-- The host that was asked is told in place of 0.0.0.0.
abbrev pub RowsAreTold : Type 0
RowsAreTold = TellsRow here at_2049 (codes "192.0.2.7.8.1") × TellsRow here in_a_socket (codes "/run/program.sock")
