-- Worked examples: what statistics count of a run.
use Rattle.std.specs.Prelude.{◌≡◌, true, false, List, [], ◌∷◌}
use Rattle.rb_address.specs.declared.netid.Netid.TheVariants.{Tcp, Udp}
use Rattle.rb_stats.specs.declared.key.Version.TheVariants.{Two, Four}
use Rattle.rb_stats.specs.Statistics.Note.{Called, WasSet, WasUnset, LookedUp, Forwarded}
use Rattle.rb_model.specs.Step.{Event}
use Rattle.rb_model.specs.Step.Event.{Datagram, Sent, Forward, Expire, ZeroStats}
use Rattle.rb_model.specs.HistoryLaws.{history_by}
use Rattle.rb_laws.specs.Worked.{loopback, fresh, call2, success_reply}
use Rattle.rb_laws.specs.WorkedForwards.{set_event, target, indirect, callit}
use Rattle.rb_laws.specs.WorkedChanges.{some_calls}

-- the SET from elsewhere, which is FALSE, counts as called alone
abbrev pub HistoryOfSomeCalls : Type 0
HistoryOfSomeCalls =
    history_by fresh some_calls
    ≡ Called Two 1 ∷ WasSet Two
    ∷ Called Four 1 ∷ WasSet Four
    ∷ Called Two 1
    ∷ Called Two 1 ∷ WasSet Two
    ∷ Called Two 2 ∷ WasUnset Two
    ∷ []

-- GETPORT of a row that is there and of one that is not, and by a protocol that is of no transport; a SET that is cut short;
-- a procedure that version 2 does not have.
abbrev pub look_ups : List Event
look_ups =
    Datagram 5 loopback (call2 1 3 (100000 ∷ 2 ∷ 17 ∷ 0 ∷ []))
    ∷ Datagram 5 loopback (call2 2 3 (200001 ∷ 1 ∷ 6 ∷ 0 ∷ []))
    ∷ Datagram 5 loopback (call2 3 3 (100000 ∷ 2 ∷ 5 ∷ 0 ∷ []))
    ∷ Datagram 5 loopback (call2 4 1 (200001 ∷ []))
    ∷ Datagram 5 loopback (call2 5 9 [])
    ∷ []

abbrev pub HistoryOfLookUps : Type 0
HistoryOfLookUps =
    history_by fresh look_ups
    ≡ Called Two 3 ∷ LookedUp Two (record { prog = 100000; vers = 2; netid = Udp }) true
    ∷ Called Two 3 ∷ LookedUp Two (record { prog = 200001; vers = 1; netid = Tcp }) false
    ∷ Called Two 3
    ∷ Called Two 1
    ∷ []

-- INDIRECT of a program that is not there fails at once. Of one that was set it counts when its target replies, and CALLIT,
-- which is not sent, at its deadline.
abbrev pub HistoryOfForwards : Type 0
HistoryOfForwards =
    history_by fresh
    (Datagram 0 loopback (indirect 14 200003) ∷ set_event ∷ Datagram 1000 loopback (indirect 15 200001) ∷ Sent 1
    ∷ Datagram 1000 loopback (callit 16 200001) ∷ Forward 2000 target (success_reply 1000 []) ∷ Expire 5999 ∷ Expire 6000 ∷ [])
    ≡ Called Four 10 ∷ Forwarded Four (record { prog = 200003; vers = 1; netid = Udp }) 0 false true
    ∷ Called Two 1 ∷ WasSet Two
    ∷ Called Four 10
    ∷ Called Two 5
    ∷ Forwarded Four (record { prog = 200001; vers = 1; netid = Udp }) 0 true true
    ∷ Forwarded Two (record { prog = 200001; vers = 1; netid = Udp }) 0 false false
    ∷ []

-- Statistics begin anew twice: what comes before the second time counts as nothing.
abbrev pub HistoryBegunAnew : Type 0
HistoryBegunAnew =
    history_by fresh
    (set_event ∷ ZeroStats ∷ Datagram 5 loopback (call2 2 3 (200001 ∷ 1 ∷ 6 ∷ 0 ∷ [])) ∷ ZeroStats
    ∷ Datagram 5 loopback (call2 4 1 (200001 ∷ [])) ∷ Datagram 5 loopback (call2 3 3 (100000 ∷ 2 ∷ 5 ∷ 0 ∷ [])) ∷ [])
    ≡ Called Two 1 ∷ Called Two 3 ∷ []
