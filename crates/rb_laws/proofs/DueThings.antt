-- What is due, and what 'expire' does with it, by cases.
use Rattle.std.specs.Prelude.{find}
use Rattle.std.specs.Option.{option_map}
use Rattle.std.proofs.Common.{◌≡◌, ℕ, max, Option, Some, None, [], ◌++◌, refl, ap, ◌∙◌, append-nil}
use Rattle.rb_forward.specs.declared.types.ForwardEnd.TheVariants.{Failed}
use Rattle.rb_forward.specs.declared.types.Ended as entry
use Rattle.rb_forward.specs.Forwards.{Entry, is_due as entry_is_due, id_of, ended_by, without_first, due}
use Rattle.rb_forward.proofs.Tables.{all_stay}
use Rattle.rb_answers.specs.Ledger.{Ledger}
use Rattle.rb_answers.specs.Forwarding.{noted_end, fell_due}
use Rattle.rb_model.specs.declared.types.Expired.{Expired}
use Rattle.rb_model.specs.declared.types.Expired.TheVariants.{Nothing, ConnectionLost}
use Rattle.rb_model.specs.State.{State, Connection}
use Rattle.rb_model.specs.Connections.{changed_at}
use Rattle.rb_model.specs.Losses.{is_due, first_due, lose, expire_first}
use Rattle.rb_model.specs.Ending.{outcome_at_end, tell, tell_end, at_fresh_moment, expire_connection, expired_as, expire}

-- the end of this entry at its deadline
abbrev pub end_of : Entry → entry.Ended
end_of e = ended_by Failed e

-- ---- by cases

pub data Expiry (s : State) (clock : ℕ) (fresh : State) (r : Expired × State) : Type 0 where
  EntryEnds : (e : Entry) → find (entry_is_due clock) s.ledger.forwards.all ≡ Some e
      → (ledger : Ledger) → ledger.forwards ≡ record s.ledger.forwards { all = without_first (entry_is_due clock) s.ledger.forwards.all }
      → r ≡ expired_as (Some (tell (id_of e) e.forward.caller (outcome_at_end [] (end_of e)) (record fresh { ledger = ledger })).0, (tell (id_of e) e.forward.caller (outcome_at_end [] (end_of e)) (record fresh { ledger = ledger })).1)
      → Expiry s clock fresh r
  ConnectionEnds : find (entry_is_due clock) s.ledger.forwards.all ≡ None → (c : Connection) → find (is_due clock) s.connections.all ≡ Some c
      → r ≡ (ConnectionLost c.number, record fresh { connections = changed_at c.number lose s.connections }) → Expiry s clock fresh r
  NothingDue : find (entry_is_due clock) s.ledger.forwards.all ≡ None → find (is_due clock) s.connections.all ≡ None
      → r ≡ (Nothing, fresh) → Expiry s clock fresh r

-- if no entry ends, the ledger stays
ledger-stays : (clock : ℕ) (l : Ledger) → find (entry_is_due clock) l.forwards.all ≡ None
    → record l { history = l.history ++ []; forwards = record l.forwards { all = without_first (entry_is_due clock) l.forwards.all } } ≡ l
ledger-stays clock l none = rw (append-nil l.history, all_stay (entry_is_due clock) l.forwards.all none) refl

module _ (s : State) (now : ℕ) where
  abbrev clock : ℕ
  clock = max s.clock now

  abbrev fresh : State
  fresh = at_fresh_moment now s

  connection-expiry : find (entry_is_due clock) s.ledger.forwards.all ≡ None → (o : Option Connection) → find (is_due clock) s.connections.all ≡ o
      → (r : Expired × State) → r ≡ expire_connection fresh → Expiry s clock fresh r
  unfolding expire_connection expire_first first_due
  connection-expiry none None is r e = NothingDue none is (e ∙ rw is refl)
  connection-expiry none (Some c) is r e = ConnectionEnds none c is (e ∙ rw is refl)

  entry-expiry : (o : Option Entry) → find (entry_is_due clock) s.ledger.forwards.all ≡ o
      → (r : Expired × State) → r ≡ expired_as (tell_end [] fresh (noted_end (option_map (ended_by Failed) o, record s.ledger.forwards { all = without_first (entry_is_due clock) s.ledger.forwards.all }) s.ledger))
      → Expiry s clock fresh r
  entry-expiry None is r e =
      connection-expiry is (find (is_due clock) s.connections.all) refl r
      (e ∙ ap (λ (l : Ledger). expire_connection (record fresh { ledger = l })) (ledger-stays clock s.ledger is))
  entry-expiry (Some x) is r e = EntryEnds x is _ refl e

  pub expiry : Expiry s clock fresh (expire s now)
  unfolding expire fell_due due
  expiry = entry-expiry (find (entry_is_due clock) s.ledger.forwards.all) refl (expire s now) refl
