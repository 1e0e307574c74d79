-- What a core holds that stands for a state that a run reaches is within the bound.
use Rattle.std.specs.Prelude.{All, IfSome, count_by}
use Rattle.std.specs.List.{AllZip}
use Rattle.std.specs.Map.{values_of}
use Rattle.std.proofs.Common.{◌≡◌, ℕ, ◌+◌, ◌*◌, ◌^◌, ◌≤◌, ◌<◌, Bool, true, false, cond, not, get_or, Option, Some, None, List, [], ◌∷◌, ◌++◌, length, map, refl, ap, sym, subst, arith}
use Rattle.std.proofs.Math.Nat.{mul-le-mul_right}
use Rattle.std.proofs.lemmas.List.{length-append, length-take}
use Rattle.std.proofs.lemmas.List.Sums.{sum_by-le, sum_by-cons}
use Rattle.std.proofs.lemmas.List.Elements.{All-nil, All-cons, All-head, All-tail, All-append, All-filter, All-map, All-replicate}
use Rattle.rb_xdr.specs.Kept.{Kept}
use Rattle.rb_rpc.specs.Records.{data_of}
use Rattle.rb_rpc.specs.CallBytes.{call_bytes}
use Rattle.rb_rpc.specs.Feeds.{arguments_of}
use Rattle.rb_uaddr.specs.declared.address.Uaddr.TheVariants.{V4, V6}
use Rattle.rb_uaddr.specs.Uaddr.{any_host, any_host6, text_of}
use Rattle.rb_uaddr.proofs.GrammarLaws.{printed_is_read}
use Rattle.rb_uaddr.proofs.ShortTexts.{own_short, read_short}
use Rattle.rb_address.specs.declared.netid.Netid.{Netid}
use Rattle.rb_address.specs.declared.netid.Netid.TheVariants as netids
use Rattle.rb_registry.specs.declared.row.Row.{Row}
use Rattle.rb_registry.specs.declared.slot.Slot.{Slot as RowSlot}
use Rattle.rb_registry.specs.Rows.{Change}
use Rattle.rb_registry.specs.Rows.Change.{Added, Removed}
use Rattle.rb_registry.specs.Registry.{Registry, StandsForChanges, slots_of as rows_of}
use Rattle.rb_registry.specs.Slots.{slot_of, is_dropped, slots_by, all_slots, slots_from, row_charge, held_in as held_of_rows}
use Rattle.rb_stats.proofs.Sizes.{few_keys}
use Rattle.rb_forward.specs.Forwards.{Entry, Forwards, held_call, question, head_of, entry_charge}
use Rattle.rb_forward.specs.StandsFor.{Table as Entries, StandsForForwards, slots_of as calls_of, held_in as held_of_calls, longest_forwarded_call}
use Rattle.rb_forward.proofs.Heads.{length-head}
use Rattle.rb_forward.proofs.Stands.{held_alike}
use Rattle.rb_answers.specs.declared.listener.Listener.{Listener}
use Rattle.rb_answers.specs.Callers.{own_row, own_pair, own_three, own_inet6, own_inet, own_local, own_rows}
use Rattle.rb_model.specs.Calls.{longest_reply, longest_kept, kept_of}
use Rattle.rb_model.specs.Connections.{longest_fragment}
use Rattle.rb_model.specs.State.{State, Phase, Connection}
use Rattle.rb_model.specs.State.Phase.{Idle, Reading, Owing, Awaiting, Lost}
use Rattle.rb_model.specs.Bounds.{longest_served_call, connection_charge, bytes_bound}
use Rattle.rb_laws.proofs.EntriesKept.{HasShortArgs, reached-kept}
use Rattle.rb_laws.proofs.Ledgers.{IsShortChange, reached-short}
use Rattle.rb_laws.proofs.Room.{reached-room}
use Rattle.rb_connections.specs.declared.slot.Slot.{Slot}
use Rattle.rb_connections.specs.declared.slot.Stage.{Stage}
use Rattle.rb_connections.specs.declared.slot.Stage.TheVariants as stages
use Rattle.rb_connections.specs.StandsFor.{buffer_size, StandsForPhase, StandsForConnection, charge, held_in, IsWithin}
use Rattle.rb_model.specs.Step.{IsReached}
use Rattle.rb_core.specs.StandsFor.{CoreView, StandsFor}
use Rattle.rb_core.specs.HeldBytes.{held, takes_bytes, HoldsArguments, unheld_share, IsListener, HeldBytesAreBounded}

-- ---- connections

empty_charge : (buffer window : Kept) → buffer.bytes ≡ [] → window.bytes ≡ [] → connection_charge + length buffer.bytes + length window.bytes ≡ connection_charge
empty_charge buffer window b w = rw (b, w) refl

phase_holds : (registry : Registry) (stage : Stage) (buffer window : Kept) (phase : Phase) (c : Connection) → c.phase ≡ phase → StandsForPhase registry stage buffer window phase → takes_bytes c ≡ true
    → connection_charge + length buffer.bytes + length window.bytes ≤ connection_charge + longest_kept
phase_holds registry stages.Idle buffer window Idle c is h takes = let e = empty_charge buffer window h.0 h.1 in omega (arith, e)
phase_holds registry (stages.Reading reader) buffer window (Reading fed) c is h takes =
    let kept : length buffer.bytes ≡ length (kept_of (data_of fed)) = ap (λ (xs : List ℕ). length xs) h.0.data_is.kept_is in
    let few = length-take longest_kept (arguments_of (data_of fed)) in
    let none : length window.bytes ≡ 0 = ap (λ (xs : List ℕ). length xs) h.1 in
    omega (arith, kept, few, none)
phase_holds registry stage buffer window (Owing o) c is h takes = let clash : false ≡ true = rw is at takes in absurd cc
phase_holds registry stage buffer window Awaiting c is h takes = let clash : false ≡ true = rw is at takes in absurd cc
phase_holds registry stage buffer window Lost c is h takes = let clash : false ≡ true = rw is at takes in absurd cc
phase_holds registry stage buffer window phase c is h takes = absurd h

holds_arguments : (registry : Registry) (slot : Slot) (c : Connection) → StandsForConnection registry slot c → HoldsArguments slot c
holds_arguments registry slot c z takes = phase_holds registry slot.stage slot.buffer slot.window c.phase c refl z.phase takes

abbrev share : ℕ
share = connection_charge + longest_served_call + longest_fragment

one_share : (registry : Registry) (slot : Slot) (c : Connection) → StandsForConnection registry slot c → IsWithin slot → charge slot + unheld_share * cond (takes_bytes c) 1 0 ≤ share
unfolding longest_reply longest_kept buffer_size longest_fragment
one_share registry slot c z within = by_test (takes_bytes c) refl
  where
    by_test : (b : Bool) → takes_bytes c ≡ b → charge slot + unheld_share * cond b 1 0 ≤ share
    by_test true e = let few = holds_arguments registry slot c z e in omega (arith, few)
    by_test false e = omega (arith, within)

each_holds : (registry : Registry) (slots : List Slot) (all : List Connection) → AllZip (StandsForConnection registry) slots all → AllZip HoldsArguments slots all
each_holds registry [] [] z = tt
each_holds registry [] (c ∷ all) z = absurd z
each_holds registry (slot ∷ slots) [] z = absurd z
each_holds registry (slot ∷ slots) (c ∷ all) z = (holds_arguments registry slot c z.0, each_holds registry slots all z.1)

connections_within : (registry : Registry) (slots : List Slot) (all : List Connection) → AllZip (StandsForConnection registry) slots all → All IsWithin slots
    → held_in slots + unheld_share * count_by takes_bytes all ≤ length all * share
connections_within registry [] [] z w = omega arith
connections_within registry [] (c ∷ all) z w = absurd z
connections_within registry (slot ∷ slots) [] z w = absurd z
connections_within registry (slot ∷ slots) (c ∷ all) z w =
    let one = one_share registry slot c z.0 (All-head IsWithin slot slots w) in
    let rest = connections_within registry slots all z.1 (All-tail IsWithin slot slots w) in
    let held = sum_by-cons charge slot slots in
    let counted = sum_by-cons (λ x. cond (takes_bytes x) 1 0) c all in
    omega (arith, one, rest, held, counted)

-- ---- rows

abbrev IsShortRow : Row → Type 0
IsShortRow row = length row.addr ≤ 128

abbrev HasShortRow : RowSlot → Type 0
HasShortRow slot = length slot.row.addr ≤ 128

by_short : (count : ℕ) (changes : List Change) → All IsShortChange changes → All HasShortRow (slots_by count changes)
by_short count [] s = All-nil HasShortRow
by_short count (Added row ∷ later) s = All-cons HasShortRow _ (slots_by (count + 1) later) (All-head IsShortChange (Added row) later s) (by_short (count + 1) later (All-tail IsShortChange (Added row) later s))
by_short count (Removed prog vers which owner ∷ later) s = by_short (count + 1) later (All-tail IsShortChange (Removed prog vers which owner) later s)

pair_short : (netid : Netid) (addr : List ℕ) → length addr ≤ 128 → All IsShortRow (own_pair netid addr)
pair_short netid addr few = All-cons IsShortRow (own_row netid addr 4) (own_row netid addr 3 ∷ []) few (All-cons IsShortRow (own_row netid addr 3) [] few (All-nil IsShortRow))

three_short : (netid : Netid) (addr : List ℕ) → length addr ≤ 128 → All IsShortRow (own_three netid addr)
three_short netid addr few =
    All-cons IsShortRow (own_row netid addr 4) (own_row netid addr 3 ∷ own_row netid addr 2 ∷ []) few
    (All-cons IsShortRow (own_row netid addr 3) (own_row netid addr 2 ∷ []) few (All-cons IsShortRow (own_row netid addr 2) [] few (All-nil IsShortRow)))

inet6_short : (port : ℕ) (announced : Option (List ℕ)) → port < 2 ^ 16 → All IsShortRow (own_inet6 port announced)
inet6_short port None fits = All-nil IsShortRow
inet6_short port (Some announced) fits =
    let addr : List ℕ = text_of (V6 any_host6 port) in
    let short = read_short addr (V6 any_host6 port) (printed_is_read (V6 any_host6 port) (record { count = refl; small = All-replicate (λ b. b < 256) 16 0 (omega arith) }, fits)) in
    let few : length addr ≤ 128 = omega (arith, short) in
    All-append IsShortRow (own_pair netids.Tcp6 addr) (own_pair netids.Udp6 addr) (pair_short netids.Tcp6 addr few) (pair_short netids.Udp6 addr few)

inet_short : (port : ℕ) (announced : Option (List ℕ)) → port < 2 ^ 16 → All IsShortRow (own_inet port announced)
inet_short port None fits = All-nil IsShortRow
inet_short port (Some announced) fits =
    let addr : List ℕ = text_of (V4 any_host port) in
    let short = own_short port fits in
    let few : length addr ≤ 128 = omega (arith, short) in
    All-append IsShortRow (own_three netids.Tcp addr) (own_three netids.Udp addr) (three_short netids.Tcp addr few) (three_short netids.Udp addr few)

local_short : (path : Option (List ℕ)) → IfSome path (λ text. length text ≤ 128) → All IsShortRow (own_local path)
local_short None few = All-nil IsShortRow
local_short (Some path) few = pair_short netids.Local path few

own_are_short : (listener : Listener) → IsListener listener → All IsShortRow (own_rows listener)
unfolding own_rows
own_are_short listener is =
    let port : ℕ = listener.port in
    let inet : All IsShortRow (own_inet6 port listener.announced.inet6 ++ own_inet port listener.announced.inet) =
    All-append IsShortRow (own_inet6 port listener.announced.inet6) (own_inet port listener.announced.inet) (inet6_short port listener.announced.inet6 is.port) (inet_short port listener.announced.inet is.port) in
    All-append IsShortRow (own_inet6 port listener.announced.inet6 ++ own_inet port listener.announced.inet) (own_local listener.local) inet (local_short listener.local is.path)

rows_within : (kept : Registry) (own : List Row) (changes : List Change) → StandsForChanges kept own changes → All IsShortRow own → All IsShortChange changes
    → held_of_rows (rows_of kept) ≤ kept.limit * (row_charge + 128)
rows_within kept own changes stands owned changed =
    let all : All HasShortRow (all_slots own changes) =
    All-append HasShortRow (map (slot_of 0) own) (slots_by 0 changes) (All-map HasShortRow (slot_of 0) own owned) (by_short 0 changes changed) in
    let kept_short : All HasShortRow (slots_from kept.floor own changes) = All-filter (λ (slot : RowSlot). not (is_dropped (Some kept.floor) slot)) HasShortRow (all_slots own changes) all in
    let here : All HasShortRow (rows_of kept) = subst (All HasShortRow) (sym stands.slots) kept_short in
    let sum = sum_by-le (λ (slot : RowSlot). row_charge + length slot.row.addr) (row_charge + 128) (rows_of kept) (λ k slot lt. let few = here k slot lt in omega (arith, few)) in
    let more = mul-le-mul_right (row_charge + 128) stands.within in
    omega (arith, sum, more)

-- ---- forwarded calls

call_short : (first_xid : ℕ) (e : Entry) → HasShortArgs e → length (held_call first_xid e) ≤ longest_forwarded_call
unfolding held_call question
call_short first_xid e short = by_sent e.sent
  where
    by_sent : (b : Bool) → length (cond b [] (question first_xid e)) ≤ longest_forwarded_call
    by_sent true = omega arith
    by_sent false =
        let whole = length-append (call_bytes (head_of first_xid e.number e.forward)) e.args in
        let head = length-head (head_of first_xid e.number e.forward) refl in
        omega (arith, whole, head, short)

calls_within : (table : Entries) (f : Forwards) (most : ℕ) → StandsForForwards table f → All HasShortArgs f.all → length f.all ≤ most
    → held_of_calls (calls_of table) ≤ most * (entry_charge + longest_forwarded_call)
calls_within table f most stands short few =
    let alike = held_alike table.first_xid (calls_of table) f stands.all in
    let sum = sum_by-le (λ (e : Entry). entry_charge + length (held_call table.first_xid e)) (entry_charge + longest_forwarded_call) f.all
    (λ k e lt. let one = call_short table.first_xid (get_or f.all k e) (short k e lt) in omega (arith, one)) in
    let more = mul-le-mul_right (entry_charge + longest_forwarded_call) few in
    omega (arith, alike, sum, more)

-- ---- all of it

pub held_bytes_are_bounded : HeldBytesAreBounded
held_bytes_are_bounded core s h reached listener =
    let kept = reached-kept s reached in
    let rows = reached-short s reached in
    let own : All IsShortRow s.ledger.own = subst (All IsShortRow) (sym rows.0) (own_are_short s.setting.listener listener) in
    let connections = connections_within core.books.registry (values_of core.connections.slots) s.connections.all h.connections.all h.within in
    let room = mul-le-mul_right share (reached-room s reached) in
    let in_rows : held_of_rows (rows_of core.books.registry) ≤ s.setting.limits.rows * (row_charge + 128) =
    subst (λ n. held_of_rows (rows_of core.books.registry) ≤ n * (row_charge + 128)) h.limit (rows_within core.books.registry s.ledger.own s.ledger.changes h.ledger.registry own rows.1) in
    let keys = few_keys core.books.stats s.ledger.history h.ledger.stats in
    let calls = calls_within core.books.forwards s.ledger.forwards s.setting.limits.forwards h.ledger.forwards kept.short kept.few in
    record {
      each = each_holds core.books.registry (values_of core.connections.slots) s.connections.all h.connections.all;
      whole = omega (arith, connections, room, in_rows, keys, calls, h.short);
    }

pub never_passes : (core : CoreView) (s : State) → StandsFor core s → IsReached s → IsListener s.setting.listener → held core ≤ bytes_bound s.setting.limits
never_passes core s stands reached listener = let whole = (held_bytes_are_bounded core s stands reached listener).whole in omega (arith, whole)
