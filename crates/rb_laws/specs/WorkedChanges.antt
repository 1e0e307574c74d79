-- Worked examples: which changes a run makes, and the calls that set its rows again.
use Rattle.std.specs.Prelude.{◌≡◌, List, [], ◌∷◌, codes}
use Rattle.rb_xdr.specs.Xdr.{words}
use Rattle.rb_address.specs.declared.host.Host.TheVariants.{V4}
use Rattle.rb_address.specs.declared.who.Who.{Who}
use Rattle.rb_address.specs.declared.netid.Netid.TheVariants.{Tcp, Udp, Local}
use Rattle.rb_address.specs.declared.who.Owner.TheVariants.{Unknown, Uid}
use Rattle.rb_registry.specs.declared.row.Which.TheVariants.{Inet}
use Rattle.rb_registry.specs.Rows.Change.{Added, Removed}
use Rattle.rb_model.specs.Step.{Event, after}
use Rattle.rb_model.specs.Step.Event.{Open, Bytes, Datagram}
use Rattle.rb_model.specs.ChangeLaws.{changes_by, kept_calls}
use Rattle.rb_laws.specs.Worked.{who_at, loopback, fresh}

abbrev pub elsewhere : Who
elsewhere = who_at (record { host = V4 (198 ∷ 51 ∷ 100 ∷ 1 ∷ []); port = 900 })

-- SETs of program 200001, version 1 on TCP, by AUTH_NONE, and of 200002, version 3 on a local socket, by uid 1000; a SET from
-- elsewhere, which is FALSE; a SET of 200003, version 1 on UDP, and the UNSET of it.
abbrev pub some_calls : List Event
some_calls =
    Datagram 5 loopback (words (3 ∷ 0 ∷ 2 ∷ 0x186a0 ∷ 2 ∷ 1 ∷ 0 ∷ 0 ∷ 0 ∷ 0 ∷ 0x30d41 ∷ 1 ∷ 6 ∷ 2049 ∷ []))
    ∷ Datagram 6 loopback (words (4 ∷ 0 ∷ 2 ∷ 0x186a0 ∷ 4 ∷ 1 ∷ 1 ∷ 20 ∷ 0 ∷ 0 ∷ 1000 ∷ 0 ∷ 0 ∷ 0 ∷ 0 ∷ 0x30d42 ∷ 3 ∷ 5 ∷ 0x6c6f6361 ∷ 0x6c000000 ∷ 11 ∷ 0x2f72756e ∷ 0x2f782e73 ∷ 0x6f636b00 ∷ 0 ∷ []))
    ∷ Datagram 6 elsewhere (words (5 ∷ 0 ∷ 2 ∷ 0x186a0 ∷ 2 ∷ 1 ∷ 0 ∷ 0 ∷ 0 ∷ 0 ∷ 200004 ∷ 1 ∷ 6 ∷ 2049 ∷ []))
    ∷ Datagram 7 loopback (words (6 ∷ 0 ∷ 2 ∷ 0x186a0 ∷ 2 ∷ 1 ∷ 0 ∷ 0 ∷ 0 ∷ 0 ∷ 200003 ∷ 1 ∷ 17 ∷ 99 ∷ []))
    ∷ Datagram 8 loopback (words (7 ∷ 0 ∷ 2 ∷ 0x186a0 ∷ 2 ∷ 2 ∷ 0 ∷ 0 ∷ 0 ∷ 0 ∷ 200003 ∷ 1 ∷ 0 ∷ 0 ∷ []))
    ∷ []

abbrev pub ChangesOfSomeCalls : Type 0
ChangesOfSomeCalls =
    changes_by fresh some_calls
    ≡ Added (record { prog = 200001; vers = 1; netid = Tcp; owner = Unknown; addr = codes "0.0.0.0.8.1" })
    ∷ Added (record { prog = 200002; vers = 3; netid = Local; owner = Uid 1000; addr = codes "/run/x.sock" })
    ∷ Added (record { prog = 200003; vers = 1; netid = Udp; owner = Unknown; addr = codes "0.0.0.0.0.99" })
    ∷ Removed 200003 1 Inet Unknown
    ∷ []

-- SETs of version 4 by AUTH_NONE and by uid 1000, at the moment of the last call, from 127.0.0.1.
abbrev pub KeptCallsOfSomeCalls : Type 0
KeptCallsOfSomeCalls =
    kept_calls (after fresh some_calls)
    ≡ Datagram 8 (who_at (record { host = V4 (127 ∷ 0 ∷ 0 ∷ 1 ∷ []); port = 0 }))
    (words (0 ∷ 0 ∷ 2 ∷ 0x186a0 ∷ 4 ∷ 1 ∷ 0 ∷ 0 ∷ 0 ∷ 0 ∷ 0x30d41 ∷ 1 ∷ 3 ∷ 0x74637000 ∷ 11 ∷ 0x302e302e ∷ 0x302e302e ∷ 0x382e3100 ∷ 0 ∷ []))
    ∷ Datagram 8 (who_at (record { host = V4 (127 ∷ 0 ∷ 0 ∷ 1 ∷ []); port = 0 }))
    (words (0 ∷ 0 ∷ 2 ∷ 0x186a0 ∷ 4 ∷ 1 ∷ 1 ∷ 20 ∷ 0 ∷ 0 ∷ 1000 ∷ 0 ∷ 0 ∷ 0 ∷ 0 ∷ 0x30d42 ∷ 3 ∷ 5 ∷ 0x6c6f6361 ∷ 0x6c000000 ∷ 11 ∷ 0x2f72756e ∷ 0x2f782e73 ∷ 0x6f636b00 ∷ 0 ∷ []))
    ∷ []

-- The record of a SET in two pieces makes its change with the second.
abbrev pub ChangesOfPieces : Type 0
ChangesOfPieces =
    changes_by fresh
    (Open 5 loopback
    ∷ Bytes 5 1 (words (0x80000038 ∷ 3 ∷ 0 ∷ 2 ∷ 0x186a0 ∷ 2 ∷ 1 ∷ []))
    ∷ Bytes 6 1 (words (0 ∷ 0 ∷ 0 ∷ 0 ∷ 0x30d41 ∷ 1 ∷ 6 ∷ 2049 ∷ []))
    ∷ [])
    ≡ Added (record { prog = 200001; vers = 1; netid = Tcp; owner = Unknown; addr = codes "0.0.0.0.8.1" }) ∷ []
