-- What the calls of events pay, by the state that they meet.
use Rattle.std.proofs.Common.{◌≡◌, ◌≤◌, ℕ, ◌+◌, Bool, List, length, Option, Some, None, refl, ap, subst, arith}
use Rattle.rb_xdr.specs.Meter.{Meter, PaysAtMost}
use Rattle.rb_xdr.specs.Ordered.{looks}
use Rattle.rb_answers.specs.declared.listener.Announced.{Announced}
use Rattle.rb_answers.specs.Callers.{may_register}
use Rattle.rb_model.specs.State.{State, Setting, Connection}
use Rattle.rb_model.specs.Connections.{Taking, taking_of}
use Rattle.rb_model.specs.Connections.Taking.{TakesNone, GoesOn, Ends}
use Rattle.rb_model.specs.declared.message.Message.{Message}
use Rattle.rb_model.specs.Calls.{message_of}
use Rattle.rb_model.specs.Costs.{Sizes, sizes_in, asks_for_rows, sizes_for, find_cost, take_cost, recount_cost, bytes_cost, count_taken, record_cost, gives_list, gave_cost, close_cost, ended_cost, datagram_cost}
use Rattle.rb_model.proofs.CostBounds.{walked_more}
use Rattle.rb_core.specs.StandsFor.{CoreView, StandsFor}
use Rattle.rb_core.specs.CallCosts.{sizes_of}
use Rattle.rb_core.proofs.Spending.{at_most, connections_held, rows_held, AreWithin, within_where}

-- a bound by the connections that are held is one by those of the state
pub by_count : (f : ℕ → ℕ) (held : CoreView) (s : State) (a b : Meter) → StandsFor held s → PaysAtMost a b (f (length held.connections.slots)) → PaysAtMost a b (f (length s.connections.all))
by_count f held s a b h pays = subst (λ n. PaysAtMost a b (f n)) (connections_held held s h) pays

-- a search takes as many looks
looks_held : (held : CoreView) (s : State) → StandsFor held s → looks held.books.registry.limit ≤ looks s.setting.limits.rows
looks_held held s h = rw h.limit (omega arith)

pub sizes_held : (old new : CoreView) (s t : State) → StandsFor old s → StandsFor new t → t.setting ≡ s.setting → AreWithin (sizes_of old new) (sizes_in s)
sizes_held old new s t h k same = record {
  connections = connections_held old s h;
  looks = looks_held old s h;
  forwards = h.forwards;
  lists = omega (arith, connections_held old s h);
  rows = rows_held old s h;
  left = omega (arith, rows_held new t k, ap (λ (x : Setting). x.limits.rows) same);
  change = omega (arith, looks_held old s h, rows_held old s h);
}

-- if the rows stay
pub sizes_stay : (held : CoreView) (s : State) → StandsFor held s → AreWithin (sizes_of held held) (sizes_in s)
sizes_stay held s h = sizes_held held held s s h h refl

module _ (less more : Sizes) (within : AreWithin less more) (a b : Meter) where
  pub close_paid : PaysAtMost a b (close_cost less) → PaysAtMost a b (close_cost more)
  close_paid pays = at_most a b (close_cost less) (close_cost more) (omega (arith, within.connections, within.forwards)) pays

  pub gave_paid : (m : Option Connection) → PaysAtMost a b (find_cost less.connections + 1 + gave_cost less.connections less.rows m) → PaysAtMost a b (find_cost more.connections + 1 + gave_cost more.connections more.rows m)
  gave_paid None pays = at_most a b (find_cost less.connections + 1 + gave_cost less.connections less.rows None) _ (omega (arith, within.connections)) pays
  gave_paid (Some c) pays =
      at_most a b (find_cost less.connections + 1 + gave_cost less.connections less.rows (Some c)) _ (omega (arith, within.connections, walked_more (gives_list c) less.rows more.rows within.rows)) pays

  -- with the look at a reply over UDP
  pub ended_paid : (total look : ℕ) → total ≤ ended_cost less + look → PaysAtMost a b total → PaysAtMost a b (ended_cost more + look)
  ended_paid total look few pays = at_most a b total (ended_cost more + look) (omega (arith, few, within.connections, within.forwards)) pays

  pub datagram_paid : (mine its : Bool) → mine ≡ its → (message : Message) (total count written look : ℕ) → total ≤ datagram_cost (sizes_for mine message less) count written + look → PaysAtMost a b total
      → PaysAtMost a b (datagram_cost (sizes_for its message more) count written + look)
  datagram_paid mine its same message total count written look few pays =
      let w = within_where (asks_for_rows mine message) less more within in
      subst (λ (x : Bool). PaysAtMost a b (datagram_cost (sizes_for x message more) count written + look)) same
      (at_most a b total (datagram_cost (sizes_for mine message more) count written + look) (omega (arith, few, w.connections, w.looks, w.lists, w.rows, w.left, w.change)) pays)

  bytes_paid_by : (announced : Announced) (piece : List ℕ) (extra : ℕ) (m : Option Connection) → PaysAtMost a b (bytes_cost announced less piece m + extra) → PaysAtMost a b (bytes_cost announced more piece m + extra)
  bytes_paid_by announced piece extra None pays = at_most a b (bytes_cost announced less piece None + extra) (bytes_cost announced more piece None + extra) (omega (arith, within.connections)) pays
  bytes_paid_by announced piece extra (Some c) pays = by_taking (may_register announced c.who) (taking_of c.phase piece) pays
    where
      by_taking : (may : Bool) (t : Taking) → PaysAtMost a b (find_cost less.connections + take_cost (count_taken piece t) + recount_cost + record_cost may less t + extra)
          → PaysAtMost a b (find_cost more.connections + take_cost (count_taken piece t) + recount_cost + record_cost may more t + extra)
      by_taking may TakesNone paid = at_most a b (find_cost less.connections + take_cost 0 + recount_cost + 0 + extra) _ (omega (arith, within.connections)) paid
      by_taking may (GoesOn fed) paid = at_most a b (find_cost less.connections + take_cost (length piece) + recount_cost + 0 + extra) _ (omega (arith, within.connections)) paid
      by_taking may (Ends n content) paid =
          let w = within_where (asks_for_rows may (message_of content)) less more within in
          at_most a b (find_cost less.connections + take_cost n + recount_cost + record_cost may less (Ends n content) + extra) _
          (omega (arith, w.connections, w.looks, w.lists, w.rows, w.left, w.change)) paid

  -- with this many steps more
  pub bytes_paid : (mine its : Announced) → mine ≡ its → (piece : List ℕ) (extra : ℕ) (m : Option Connection) → PaysAtMost a b (bytes_cost mine less piece m + extra) → PaysAtMost a b (bytes_cost its more piece m + extra)
  bytes_paid mine its same piece extra m pays = subst (λ (x : Announced). PaysAtMost a b (bytes_cost x more piece m + extra)) same (bytes_paid_by mine piece extra m pays)
