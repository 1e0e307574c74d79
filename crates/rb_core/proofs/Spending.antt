-- What calls pay, added up.
use Rattle.std.specs.Prelude.{IsTrue}
use Rattle.std.proofs.Common.{◌≡◌, ◌≤◌, ℕ, ◌+◌, Bool, true, false, List, length, Option, Some, None, refl, sym, ap, subst, ◌∙◌, arith}
use Rattle.rb_xdr.specs.Meter.{Meter, Pays, PaysAtMost}
use Rattle.rb_xdr.specs.Kept.{Kept}
use Rattle.rb_rpc.specs.declared.call.Verdict.{Verdict}
use Rattle.rb_address.specs.declared.caller.Caller.{Caller}
use Rattle.rb_xdr.specs.Ordered.{looks}
use Rattle.rb_registry.specs.Registry.{Registry, slots_of}
use Rattle.rb_proto.specs.declared.books.Books.{Books}
use Rattle.rb_answers.specs.declared.context.Context.{Context}
use Rattle.rb_answers.specs.declared.listener.Announced.{Announced}
use Rattle.rb_answers.specs.Answers.{comes_from_here}
use Rattle.rb_answers.specs.Callers.{who_of, may_register}
use Rattle.rb_model.specs.declared.message.Message.{Message}
use Rattle.rb_model.specs.declared.message.Message.TheVariants as says
use Rattle.rb_model.specs.declared.served.Served.{Served}
use Rattle.rb_model.specs.declared.served.Served.TheVariants.{Answered, Listed}
use Rattle.rb_model.specs.Calls.{message_with, message_of, longest_reply}
use Rattle.rb_model.specs.State.{State, Setting, Connection}
use Rattle.rb_model.specs.Connections.{Taking, taking_of, live_connection}
use Rattle.rb_model.specs.Connections.Taking.{TakesNone, GoesOn, Ends}
use Rattle.rb_model.specs.Costs.{Sizes, asks_for_list, asks_for_rows, walked, sizes_where, sizes_for, change_cost, listed_cost, serve_cost, message_cost, find_cost, take_cost, recount_cost, bytes_cost, count_taken, record_cost, answer_cost, datagram_cost, plain_cost}
use Rattle.rb_connections.specs.declared.slot.EndedRecord.{EndedRecord}
use Rattle.rb_connections.specs.declared.slot.Received.{Received}
use Rattle.rb_connections.specs.Slots.{ended_record, received_of, arguments_after}
use Rattle.rb_connections.specs.Costs.{received_cost, answered_cost, settling_cost}
use Rattle.rb_connections.specs.Giving.{whole_cost}
use Rattle.rb_model.proofs.CostBounds.{walked_more, plain_most, plain_record_most}
use Rattle.rb_connections.specs.StandsFor.{Table}
use Rattle.rb_connections.proofs.Slots.{as_many}
use Rattle.rb_serving.specs.Costs.{row_count_of, sizes_over, PaysToServe, ListsIfAsked}
use Rattle.rb_serving.proofs.MessageFronts.{kept_says}
use Rattle.rb_serving.proofs.Costs.{lists_walk}
use Rattle.rb_core.specs.CallCosts.{sizes, announced_in, may_register_in, PaysForRoom, PaysInRoom, PaysForPlainRecord}
use Rattle.rb_core.specs.Core.{context_of}
use Rattle.rb_core.specs.StandsFor.{CoreView, StandsFor}

-- this many steps more are allowed
pub at_most : (a b : Meter) (less more : ℕ) → less ≤ more → PaysAtMost a b less → PaysAtMost a b more
at_most a b less more le pays = record { steps = omega (arith, pays.steps, le); rises = pays.rises; tie = pays.tie }

-- ---- what is held by what is plain

module _ (held : CoreView) (s : State) (h : StandsFor held s) where
  pub connections_held : length held.connections.slots ≡ length s.connections.all
  connections_held = sym (as_many held.books.registry held.connections.slots s.connections.all h.connections.all)

  pub rows_held : length (slots_of held.books.registry) ≤ s.setting.limits.rows
  rows_held = omega (arith, h.ledger.registry.within, h.limit)

-- there is no more of anything, and as much as a cost is not monotone in
pub record AreWithin (less more : Sizes) : Type 0 where
  pub connections : less.connections ≡ more.connections
  pub looks : less.looks ≤ more.looks
  pub forwards : less.forwards ≡ more.forwards
  pub lists : less.lists ≤ more.lists
  pub rows : less.rows ≤ more.rows
  pub left : less.left ≤ more.left
  pub change : less.change ≤ more.change

-- and so for a message
pub within_where : (walks : Bool) (less more : Sizes) → AreWithin less more → AreWithin (sizes_where walks less) (sizes_where walks more)
within_where walks less more within = record {
  connections = within.connections;
  looks = within.looks;
  forwards = within.forwards;
  lists = walked_more walks less.lists more.lists within.lists;
  rows = walked_more walks less.rows more.rows within.rows;
  left = walked_more walks less.left more.left within.left;
  change = walked_more walks less.change more.change within.change;
}

-- of as many connections, and the same books
pub as_large : (n m : ℕ) (old new : Books) → n ≡ m → AreWithin (sizes_over n old new) (sizes_over m old new)
as_large n m old new same = record {
  connections = same;
  looks = omega arith;
  forwards = refl;
  lists = omega (arith, same);
  rows = omega arith;
  left = omega arith;
  change = omega arith;
}

-- ---- a piece of bytes

module _ (announced : Announced) (sizes : Sizes) (piece : List ℕ) where
  -- the look for the connection
  pub found_few : (m : Option Connection) → find_cost sizes.connections ≤ bytes_cost announced sizes piece m
  found_few None = omega arith
  found_few (Some c) = omega arith

  -- and what was received
  pub received_few : (c : Connection) (got : Received) → got ≡ received_of piece c (taking_of c.phase piece)
      → find_cost sizes.connections + (received_cost got + recount_cost) ≤ bytes_cost announced sizes piece (Some c)
  received_few c got is = by_taking (taking_of c.phase piece) is
    where
      by_taking : (t : Taking) → got ≡ received_of piece c t
          → find_cost sizes.connections + (received_cost got + recount_cost) ≤ find_cost sizes.connections + take_cost (count_taken piece t) + recount_cost + record_cost (may_register announced c.who) sizes t
      by_taking TakesNone e = rw e (omega arith)
      by_taking (GoesOn fed) e = rw e (omega arith)
      by_taking (Ends n content) e = rw e (omega arith)

  -- and the answer to the record that ended, of which these arguments are kept
  pub answered_few : (c : Connection) (got : Received) (x : EndedRecord) (before args : List ℕ) → got ≡ received_of piece c (taking_of c.phase piece) → got.ended ≡ Some x
      → args ≡ arguments_after before (taking_of c.phase piece)
      → find_cost sizes.connections + (received_cost got + recount_cost) + answer_cost (sizes_for (may_register announced x.who) (message_with x.verdict args) sizes) (length args) ≤ bytes_cost announced sizes piece (Some c)
  answered_few c got x before args is some kept = by_taking (taking_of c.phase piece) is kept
    where
      nobody : (y : EndedRecord) → None ≡ Some y → ⊥
      nobody y e = absurd cc

      one : (a b : EndedRecord) → Some a ≡ Some b → a ≡ b
      one a b e = cc

      by_taking : (t : Taking) → got ≡ received_of piece c t → args ≡ arguments_after before t
          → find_cost sizes.connections + (received_cost got + recount_cost) + answer_cost (sizes_for (may_register announced x.who) (message_with x.verdict args) sizes) (length args)
          ≤ find_cost sizes.connections + take_cost (count_taken piece t) + recount_cost + record_cost (may_register announced c.who) sizes t
      by_taking TakesNone e k = absurd (nobody x (sym (ap (λ (r : Received). r.ended) e) ∙ some))
      by_taking (GoesOn fed) e k = absurd (nobody x (sym (ap (λ (r : Received). r.ended) e) ∙ some))
      by_taking (Ends n content) e k =
          let ended : ended_record c.who content ≡ x = one _ _ (sym (ap (λ (r : Received). r.ended) e) ∙ some) in
          let says : message_with x.verdict args ≡ message_of content = rw (← ended, k) (kept_says content).says in
          let its : x.who ≡ c.who = ap (λ (y : EndedRecord). y.who) (sym ended) in
          rw (says, its, e, k) (omega arith)

  -- ---- and what was paid for it

  module _ (m0 m1 : Meter) (more : ℕ) where
    pub looked_paid : (m : Option Connection) → PaysAtMost m0 m1 (find_cost sizes.connections + 0) → PaysAtMost m0 m1 (bytes_cost announced sizes piece m + more)
    looked_paid m pays = at_most m0 m1 (find_cost sizes.connections + 0) _ (omega (arith, found_few m)) pays

    pub received_paid : (c : Connection) (got : Received) → got ≡ received_of piece c (taking_of c.phase piece)
        → PaysAtMost m0 m1 (find_cost sizes.connections + (received_cost got + recount_cost)) → PaysAtMost m0 m1 (bytes_cost announced sizes piece (Some c) + more)
    received_paid c got is pays = at_most m0 m1 (find_cost sizes.connections + (received_cost got + recount_cost)) _ (omega (arith, received_few c got is)) pays

    pub answered_paid : (m2 : Meter) (other : Sizes) → AreWithin other sizes → (c : Connection) (got : Received) (x : EndedRecord) (before args : List ℕ) → got ≡ received_of piece c (taking_of c.phase piece) → got.ended ≡ Some x
        → args ≡ arguments_after before (taking_of c.phase piece)
        → PaysAtMost m0 m1 (find_cost sizes.connections + (received_cost got + recount_cost))
        → PaysAtMost m1 m2 (answer_cost (sizes_for (may_register announced x.who) (message_with x.verdict args) other) (length args) + more) → PaysAtMost m0 m2 (bytes_cost announced sizes piece (Some c) + more)
    answered_paid m2 other within c got x before args is some kept first second =
        let few = answered_few c got x before args is some kept in
        let walks : Bool = asks_for_rows (may_register announced x.who) (message_with x.verdict args) in
        let in_all = within_where walks other sizes within in
        let less : answer_cost (sizes_where walks other) (length args) ≤ answer_cost (sizes_where walks sizes) (length args) =
        omega (arith, in_all.connections, in_all.looks, in_all.lists, in_all.rows, in_all.left, in_all.change) in
        record {
          steps = omega (arith, first.steps, second.steps, few, less);
          rises = omega (arith, first.rises, second.rises);
          tie = second.tie ∙ first.tie;
        }

-- ---- a message

-- if no room is made
pub served_alone : (context : Context) (message : Message) (table : Table) (old new : Books) (args : List ℕ) (out : Kept) (m0 m1 : Meter) → PaysToServe context message old new args out m0 m1
    → PaysAtMost m0 m1 (message_cost (sizes_for (comes_from_here context) message (sizes table old new)) (length args) (length out.bytes))
served_alone context message table old new args out m0 m1 pays =
    at_most m0 m1 (serve_cost (sizes_for (comes_from_here context) message (sizes_over 0 old new)) (length args) (length out.bytes)) _ (omega arith) pays

-- once there is room
pub served_in_room : (context : Context) (message : Message) (table : Table) (old mid new : Books) (args : List ℕ) (out : Kept) (m0 m1 m2 : Meter) → mid.registry.limit ≡ old.registry.limit → row_count_of mid ≤ row_count_of old
    → PaysForRoom context message table old mid m0 m1 → PaysToServe context message mid new args out m1 m2
    → PaysAtMost m0 m2 (message_cost (sizes_for (comes_from_here context) message (sizes table old new)) (length args) (length out.bytes))
served_in_room context message table old mid new args out m0 m1 m2 limit fewer room served =
    let same : looks mid.registry.limit ≡ looks old.registry.limit = ap (λ n. looks n) limit in
    let change : ℕ = change_cost (looks mid.registry.limit) (row_count_of mid) in
    let less : change ≤ change_cost (looks old.registry.limit) (row_count_of old) = omega (arith, same, fewer) in
    let walked_less = walked_more (asks_for_rows (comes_from_here context) message) change _ less in
    record {
      steps = omega (arith, room.steps, served.steps, same, walked_less);
      rises = omega (arith, room.rises, served.rises);
      tie = served.tie ∙ room.tie;
    }

-- the caller of a context may register if it may by what is held
pub registers_as : (context : Context) (held : CoreView) (caller : Caller) → context ≡ context_of held caller → comes_from_here context ≡ may_register_in held (who_of caller)
unfolding comes_from_here
registers_as context held caller is = rw is refl

-- ---- a datagram

-- the reply before is emptied, the message is served, and the reply is looked at
pub datagram_pays : (context : Context) (may : Bool) → comes_from_here context ≡ may → (table : Table) (old new : Books) (v : Verdict) (args content : List ℕ) (out : Kept) (m0 m1 m2 m3 : Meter) → message_with v args ≡ message_of content → length args ≤ length content
    → Pays m0 m1 1 → PaysInRoom context v table old new args out m1 m2 → Pays m2 m3 1 → PaysAtMost m0 m3 (datagram_cost (sizes_for may (message_of content) (sizes table old new)) (length content) (length out.bytes))
datagram_pays context may registers table old new v args content out m0 m1 m2 m3 says few first served last =
    let paid : PaysAtMost m1 m2 (message_cost (sizes_for may (message_of content) (sizes table old new)) (length args) (length out.bytes)) = rw (says, registers) at served in
    let one = ap (λ (m : Meter). m.steps) first in
    let other = ap (λ (m : Meter). m.steps) last in
    record {
      steps = omega (arith, one, other, paid.steps, few);
      rises = omega (arith, one, other, paid.rises);
      tie = ap (λ (m : Meter). m.tie) last ∙ paid.tie ∙ ap (λ (m : Meter). m.tie) first;
    }

-- ---- a record

-- a list is among what asks for rows
list_asks : (may : Bool) (message : Message) → IsTrue (asks_for_list message) → IsTrue (asks_for_rows may message)
list_asks may (says.Asked call) lists = lists_walk may call.request lists
list_asks may says.NoCall lists = lists
list_asks may (says.Refused head) lists = lists
list_asks may (says.Garbage head) lists = lists

-- a list is begun only if one is asked for
pub begun_few : (may : Bool) (message : Message) (registry : Registry) (served : Served) → ListsIfAsked message served → answered_cost registry served ≤ listed_cost (walked (asks_for_rows may message) (length (slots_of registry))) + 1
begun_few may message registry (Answered given) lists = omega arith
begun_few may message registry (Listed xid listing) lists = by_asked (asks_for_rows may message) (list_asks may message (lists refl))
  where
    by_asked : (b : Bool) → IsTrue b → listed_cost (length (slots_of registry)) + 1 ≤ listed_cost (walked b (length (slots_of registry))) + 1
    by_asked true t = omega arith
    by_asked false t = absurd cc

-- the arguments are lent, the message is served, their buffer is emptied, and its reply is given at once or begun
module _ (context : Context) (may : Bool) (registers : comes_from_here context ≡ may) (v : Verdict) (table : Table) (old new : Books) (lent : List ℕ) (out : Kept) (room : List ℕ) (n : ℕ) (short : length out.bytes ≤ longest_reply) (m0 m1 m2 m3 m4 : Meter)
    (first : PaysAtMost m0 m1 (1 + length lent)) (second : PaysInRoom context v table old new lent out m1 m2) (third : Pays m2 m3 1) (fourth : PaysAtMost m3 m4 (whole_cost (length room) n)) where
  emptied : m3.steps ≡ m2.steps + 1
  emptied = ap (λ (m : Meter). m.steps) third

  same_meter : m4.tie ≡ m0.tie
  same_meter = fourth.tie ∙ ap (λ (m : Meter). m.tie) third ∙ second.tie ∙ first.tie

  served_paid : PaysAtMost m1 m2 (message_cost (sizes_for may (message_with v lent) (sizes table old new)) (length lent) (length out.bytes))
  served_paid = rw registers at second

  pub pays_at_once : PaysAtMost m0 m4 (answer_cost (sizes_for may (message_with v lent) (sizes table old new)) (length lent) + whole_cost (length room) n)
  pays_at_once = record {
    steps = omega (arith, first.steps, served_paid.steps, emptied, fourth.steps, short);
    rises = omega (arith, first.rises, second.rises, emptied, fourth.rises);
    tie = same_meter;
  }

  pub pays_and_begins : (served : Served) (left : Table) (m5 : Meter) → ListsIfAsked (message_with v lent) served → length left.slots ≡ length table.slots → PaysAtMost m4 m5 (settling_cost left new.registry served)
      → PaysAtMost m0 m5 (answer_cost (sizes_for may (message_with v lent) (sizes table old new)) (length lent) + whole_cost (length room) n)
  pays_and_begins served left m5 lists same fifth =
      let begun = begun_few may (message_with v lent) new.registry served lists in
      record {
        steps = omega (arith, first.steps, served_paid.steps, emptied, fourth.steps, fifth.steps, short, begun, same);
        rises = omega (arith, first.rises, second.rises, emptied, fourth.rises, fifth.rises);
        tie = fifth.tie ∙ same_meter;
      }

-- ---- if no rows are asked for

pub plain_datagram_paid : (may : Bool) (table : Table) (old new : Books) (content : List ℕ) (limit written : ℕ) (a b : Meter) → old.registry.limit ≡ limit
    → PaysAtMost a b (datagram_cost (sizes_for may (message_of content) (sizes table old new)) (length content) written) → asks_for_rows may (message_of content) ≡ false
    → PaysAtMost a b (plain_cost (looks limit) (length content) written)
plain_datagram_paid may table old new content limit written a b is pays plain =
    let most = plain_most (sizes table old new) may (message_of content) (length content) written plain in
    let same = ap (λ n. looks n) is in
    at_most a b (datagram_cost (sizes_for may (message_of content) (sizes table old new)) (length content) written) _ (omega (arith, most, same)) pays

pub plain_record_paid : (old : CoreView) (new : Books) (id : ℕ) (piece : List ℕ) (more : ℕ) (a b : Meter)
    → ((s : State) → StandsFor old s → PaysAtMost a b (bytes_cost (announced_in old) (sizes old.connections old.books new) piece (live_connection id s.connections.all) + more)) → PaysForPlainRecord old id piece more a b
plain_record_paid old new id piece more a b pays s c n content h there ends plain =
    let may : Bool = may_register_in old c.who in
    let most = plain_record_most (sizes old.connections old.books new) may n content plain in
    let same : looks old.books.registry.limit ≡ looks old.setting.limits.rows = ap (λ k. looks k) (h.limit ∙ sym (ap (λ (x : Setting). x.limits.rows) h.setting)) in
    let paid : PaysAtMost a b (find_cost (length old.connections.slots) + take_cost n + recount_cost + record_cost may (sizes old.connections old.books new) (Ends n content) + more) =
    subst (λ (t : Taking). PaysAtMost a b (find_cost (length old.connections.slots) + take_cost (count_taken piece t) + recount_cost + record_cost may (sizes old.connections old.books new) t + more)) ends
    (subst (λ (m : Option Connection). PaysAtMost a b (bytes_cost (announced_in old) (sizes old.connections old.books new) piece m + more)) there (pays s h)) in
    at_most a b (find_cost (length old.connections.slots) + take_cost n + recount_cost + record_cost may (sizes old.connections old.books new) (Ends n content) + more) _ (omega (arith, most, same)) paid
