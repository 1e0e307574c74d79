-- The calls that set the rows of a state again bring them back.
use Rattle.std.specs.Prelude.{All, nat_lt}
use Rattle.std.specs.List.{AllByRecursion, list_any, list_all}
use Rattle.std.proofs.Common.{◌≡◌, ℕ, zero, suc, ◌+◌, ◌==◌, ◌<◌, ◌≤◌, lit<, Bool, true, false, cond, not, ◌&&◌, Some, None, List, [], ◌∷◌, ◌++◌, length, map, get_or, refl, sym, ap, subst, ◌∙◌, append-nil, append_assoc, length-append, arith}
use Rattle.std.proofs.lemmas.Bool.{and_parts, not-true, eqb-true}
use Rattle.std.proofs.lemmas.List.Folds.{list_any-append}
use Rattle.std.proofs.Math.Seq.{drop-append_seam}
use Rattle.std.proofs.lemmas.List.Elements.{All-nil, All-head, All-tail, All-same, All-push, All-cons}
use Rattle.rb_xdr.specs.Xdr.{IsContent, boolean}
use Rattle.rb_rpc.specs.declared.call.Verdict.TheVariants as verdicts
use Rattle.rb_address.specs.declared.caller.Caller.{Caller}
use Rattle.rb_address.specs.declared.caller.Caller.TheVariants.{Udp}
use Rattle.rb_rpc.specs.CallBytes.{call_bytes}
use Rattle.rb_rpc.specs.Grammar.{IsHead}
use Rattle.rb_rpc.proofs.Calls.{written_again}
use Rattle.rb_rpc.specs.Feeds.{arguments_of}
use Rattle.rb_address.specs.declared.netid.Netid.{Netid}
use Rattle.rb_address.specs.declared.netid.Netid.TheVariants.{Tcp, Udp as UdpNetid, Tcp6, Udp6, Local}
use Rattle.rb_address.specs.declared.who.Owner.{Owner}
use Rattle.rb_address.specs.declared.who.Owner.TheVariants.{Unknown, Uid}
use Rattle.rb_registry.specs.declared.row.Row.{Row}
use Rattle.rb_registry.specs.Registry.{AreOwn}
use Rattle.rb_registry.specs.Rows.{Change, rpcb_prog, covers, left_by, live, has_place, are_distinct, is_of_key, is_row, is_on, is_change_left}
use Rattle.rb_address.specs.Hosts.{is_loopback}
use Rattle.rb_address.specs.Netids.{netid_text, netid_named}
use Rattle.rb_registry.specs.Rows.Change.{Added, Removed}
use Rattle.rb_registry.specs.Laws.{is_accepted, are_accepted}
use Rattle.rb_registry.proofs.SetAgain.{all_left, rows_are_set_again}
use Rattle.rb_arguments.specs.declared.procedure.RpcbProcedure.TheVariants as rpcbs
use Rattle.rb_arguments.specs.declared.request.Request.TheVariants as requests
use Rattle.rb_arguments.specs.Types.{IsRpcb, rpcb_spelling}
use Rattle.rb_arguments.specs.Arguments.{procedure_at, is_known, request}
use Rattle.rb_arguments.specs.Grammar.{Asks}
use Rattle.rb_arguments.proofs.Requests.{asked_request}
use Rattle.rb_answers.specs.declared.call.Call.{Call}
use Rattle.rb_answers.specs.declared.context.Context.{Context}
use Rattle.rb_answers.specs.Callers.{is_local, owner_named, own_rows}
use Rattle.rb_answers.specs.Results.{result_bytes}
use Rattle.rb_answers.specs.declared.listener.Listener.{Listener}
use Rattle.rb_answers.specs.Ledger.{Ledger, rows_in, with_call_noted}
use Rattle.rb_answers.specs.declared.reserved.Reservation.{Reservation}
use Rattle.rb_answers.specs.Reserved.{may_own}
use Rattle.rb_answers.specs.Answers.{comes_from_here, owner_in, can_be_set, has_share, accepts_row, set_row, row_of_rpcb, answer}
use Rattle.rb_model.specs.declared.message.Message.{Message}
use Rattle.rb_model.specs.declared.message.Message.TheVariants as says
use Rattle.rb_model.specs.declared.types.Limits.{Limits}
use Rattle.rb_model.specs.Calls.{Outcome as outcomes, is_served, request_of, call_of, message_of, outcome, success}
use Rattle.rb_model.specs.State.{State, at_moment, are_good, opening}
use Rattle.rb_model.specs.Step.Event.{ZeroStats}
use Rattle.rb_model.specs.Step.{longest_to, sender, Event, context_in, serve, datagram, step, run, after, IsReached, zero_stats}
use Rattle.rb_model.specs.ChangeLaws.{credential_for, MayBeMade, ChangesAtMostOnce, set_rows, RowsCanBeSet, IsSpelled, this_machine, set_head, rpcb_for, set_bytes, set_call, set_calls, SaysTrue, Sets, kept_calls, opened_again, true_reply}
use Rattle.rb_model.specs.ChangeLaws.ChangesAtMostOnce.{Same, OneMore}
use Rattle.rb_laws.proofs.Grammar.{by_verdict_again}
use Rattle.rb_laws.proofs.Ledgers.{settable-short, step-own, step-setting, are-own, own-distinct, ledgers_are_well_kept}
use Rattle.rb_laws.proofs.Changes.{FitsTrue, sender-hears, true-fits, shown-replied, at-most-once}
use Rattle.rb_laws.proofs.LedgerSteps.{step-ledger}

-- ---- the bytes of a call are read back

nothing : (limit : ℕ) → IsContent limit []
nothing limit = (omega arith, omega arith, λ i. omega arith)

small_at : (text : List ℕ) → AllByRecursion (λ b. b < 256) text → (i : ℕ) → get_or text i 0 < 256
small_at [] all i = omega arith
small_at (b ∷ text) all zero = all.0
small_at (b ∷ text) all (suc i) = small_at text all.1 i

netid_fits : (netid : Netid) → IsContent 32 (netid_text netid)
netid_fits Tcp = (omega arith, omega arith, λ i. small_at (netid_text Tcp) (lit< tt, (lit< tt, (lit< tt, (tt)))) i)
netid_fits UdpNetid = (omega arith, omega arith, λ i. small_at (netid_text UdpNetid) (lit< tt, (lit< tt, (lit< tt, (tt)))) i)
netid_fits Tcp6 = (omega arith, omega arith, λ i. small_at (netid_text Tcp6) (lit< tt, (lit< tt, (lit< tt, (lit< tt, (tt))))) i)
netid_fits Udp6 = (omega arith, omega arith, λ i. small_at (netid_text Udp6) (lit< tt, (lit< tt, (lit< tt, (lit< tt, (tt))))) i)
netid_fits Local = (omega arith, omega arith, λ i. small_at (netid_text Local) (lit< tt, (lit< tt, (lit< tt, (lit< tt, (lit< tt, (tt)))))) i)

pub rpcb_fits : (row : Row) → IsSpelled row → can_be_set row ≡ true → IsRpcb (rpcb_for row)
rpcb_fits row is may =
    let few : length row.addr ≤ 128 = settable-short row may in
    record { prog = is.prog; vers = is.vers; netid = netid_fits row.netid; addr = (few, omega (arith, few), is.addr); owner = nothing 128 }

-- SET of the rpcbind program, as `set_head` has it: RFC 1833, section 2.1
abbrev newest : ℕ
newest = 4

abbrev set-number : ℕ
set-number = 1

asks-set : (row : Row) → IsSpelled row → can_be_set row ≡ true → Asks newest set-number (requests.Rpcb rpcbs.Set (rpcb_for row)) (rpcb_spelling (rpcb_for row))
unfolding procedure_at
asks-set row is may = (refl, record { fits = rpcb_fits row is may; rest = []; whole = sym (append-nil (rpcb_spelling (rpcb_for row))) })

-- what the call asks for
abbrev call_for : Row → Call
call_for row = record { head = set_head row; request = requests.Rpcb rpcbs.Set (rpcb_for row) }

-- a call with this head and arguments that SET reads asks for that
called : (row : Row) (arguments : List ℕ) → request newest set-number arguments ≡ Some (requests.Rpcb rpcbs.Set (rpcb_for row)) → call_of (set_head row) arguments ≡ says.Asked (call_for row)
unfolding call_of request_of is_served is_known procedure_at
called row arguments e = rw e refl

head_fits : (row : Row) → IsHead (set_head row)
head_fits row = record { xid = omega arith; prog = omega arith; vers = omega arith; proc = omega arith }

pub read-again : (row : Row) → IsSpelled row → can_be_set row ≡ true → message_of (set_bytes row) ≡ says.Asked (call_for row)
read-again row is may =
    by_verdict_again (set_bytes row) (verdicts.Call (set_head row) (length (call_bytes (set_head row)))) (written_again (set_head row) (rpcb_spelling (rpcb_for row)) (head_fits row) is.owner)
    ∙ ap (call_of (set_head row)) (drop-append_seam (call_bytes (set_head row)) (rpcb_spelling (rpcb_for row)))
    ∙ called row (rpcb_spelling (rpcb_for row)) (asked_request newest set-number (rpcb_spelling (rpcb_for row)) (requests.Rpcb rpcbs.Set (rpcb_for row)) (asks-set row is may))

-- ---- the call sets the row

named : (netid : Netid) → netid_named (netid_text netid) ≡ Some netid
unfolding netid_named
named Tcp = refl
named UdpNetid = refl
named Tcp6 = refl
named Udp6 = refl
named Local = refl

owned : (owner : Owner) → owner_named (credential_for owner) ≡ owner
owned Unknown = refl
owned (Uid uid) = refl

row-again : (context : Context) (row : Row) (longest : ℕ) → context.caller ≡ Udp this_machine longest → row_of_rpcb (owner_in context (set_head row)) (rpcb_for row) ≡ Some row
unfolding row_of_rpcb
row-again context row longest e = rw (e, named row.netid, owned row.owner) refl

from-here : (context : Context) (longest : ℕ) → context.caller ≡ Udp this_machine longest → comes_from_here context ≡ true
unfolding comes_from_here is_local is_loopback
from-here context longest e = rw e refl

-- such a caller may set rows up to the limit
shared : (context : Context) (rows : List Row) (count : ℕ) (row : Row) (longest : ℕ) → context.caller ≡ Udp this_machine longest → has_place context.limit rows count row ≡ true → has_share context rows ≡ true
unfolding has_share has_place
shared context rows count row longest e place =
    let free = (and_parts (not (list_any (is_of_key row) rows) && nat_lt (length rows) context.limit) (is_change_left count) place).0 in
    rw e (and_parts (not (list_any (is_of_key row) rows)) (nat_lt (length rows) context.limit) free).1

sets : (context : Context) (row : Row) (arguments : List ℕ) (l : Ledger) (longest : ℕ) → context.caller ≡ Udp this_machine longest → can_be_set row ≡ true → may_own context.reserved row ≡ true → has_place context.limit (rows_in l) (length l.changes) row ≡ true
    → (outcome context (says.Asked (call_for row)) arguments l).1.changes ≡ l.changes ++ Added row ∷ []
unfolding outcome answer with_call_noted set_row accepts_row
sets context row arguments l longest here may own place = rw (row-again context row longest here, from-here context longest here, may, own, shared context (rows_in l) (length l.changes) row longest here place, place) refl

told-true : (context : Context) (row : Row) (arguments : List ℕ) (l : Ledger) (longest : ℕ) → context.caller ≡ Udp this_machine longest → can_be_set row ≡ true → may_own context.reserved row ≡ true → has_place context.limit (rows_in l) (length l.changes) row ≡ true
    → (outcome context (says.Asked (call_for row)) arguments l).0 ≡ outcomes.Reply (success context.caller 0 (boolean true)) None
unfolding outcome answer with_call_noted set_row accepts_row result_bytes
told-true context row arguments l longest here may own place = rw (row-again context row longest here, from-here context longest here, may, own, shared context (rows_in l) (length l.changes) row longest here place, place) refl

-- from whom it comes
abbrev set_caller : State → Row → Caller
set_caller t row = sender t this_machine (set_bytes row)

set-hears : (t : State) (row : Row) → FitsTrue (set_caller t row)
unfolding comes_from_here
set-hears t row =
    sender-hears t this_machine (set_bytes row) (from-here (context_in t (set_caller t row)) (longest_to t.setting.listener.terms this_machine (length (set_bytes row))) refl)

set-step : (t : State) (now : ℕ) (row : Row) → IsSpelled row → can_be_set row ≡ true → may_own t.setting.listener.reserved row ≡ true → has_place t.setting.limits.rows (rows_in t.ledger) (length t.ledger.changes) row ≡ true
    → (step t (set_call now row)).1.ledger.changes ≡ t.ledger.changes ++ Added row ∷ []
set-step t now row is may owned place =
    ap (λ (l : Ledger). l.changes) (step-ledger t (set_call now row))
    ∙ ap (λ (m : Message). (outcome (context_in (at_moment now t) (set_caller t row)) m (arguments_of (set_bytes row)) t.ledger).1.changes) (read-again row is may)
    ∙ sets (context_in (at_moment now t) (set_caller t row)) row (arguments_of (set_bytes row)) t.ledger (longest_to t.setting.listener.terms this_machine (length (set_bytes row))) refl may owned place

set-says : (t : State) (now : ℕ) (row : Row) → IsSpelled row → can_be_set row ≡ true → may_own t.setting.listener.reserved row ≡ true → has_place t.setting.limits.rows (rows_in t.ledger) (length t.ledger.changes) row ≡ true
    → SaysTrue (step t (set_call now row)).0
unfolding step datagram serve
set-says t now row is may owned place =
    shown-replied (true_reply 0) (serve (at_moment now t) (set_caller t row) (set_bytes row))
    (
    ap (λ (m : Message). (outcome (context_in (at_moment now t) (set_caller t row)) m (arguments_of (set_bytes row)) t.ledger).0) (read-again row is may)
    ∙ told-true (context_in (at_moment now t) (set_caller t row)) row (arguments_of (set_bytes row)) t.ledger (longest_to t.setting.listener.terms this_machine (length (set_bytes row))) refl may owned place
    ∙ ap (λ (reply : List ℕ). outcomes.Reply reply None) (true-fits (set_caller t row) 0 (set-hears t row)))

-- ---- all of them

-- a run leaves these own rows and these changes, and says TRUE each time
record Leaves (t : State) (events : List Event) (own : List Row) (changes : List Change) : Type 0 where
  own_is : (after t events).ledger.own ≡ own
  changes_are : (after t events).ledger.changes ≡ changes
  told : All SaysTrue (run t events)

still : (a b : ℕ) (own before : List Row) (changes old more : List Change) → a ≡ b → own ≡ before → changes ≡ old → are_accepted b before old more ≡ true → are_accepted a own changes more ≡ true
still a b own before changes old more e f g h = rw (e, f, g) h

-- what holds of rows whatever is reserved, if it is reserved so
still-owned : (a b : List Reservation) (rows : List Row) → a ≡ b → All (λ row. may_own b row ≡ true) rows → All (λ row. may_own a row ≡ true) rows
still-owned a b rows e all = rw e all

sets-all : (t : State) (now : ℕ) (rows : List Row) → All IsSpelled rows → All (λ row. can_be_set row ≡ true) rows → All (λ row. may_own t.setting.listener.reserved row ≡ true) rows
    → are_accepted t.setting.limits.rows t.ledger.own t.ledger.changes (map Added rows) ≡ true
    → Leaves t (set_calls now rows) t.ledger.own (t.ledger.changes ++ map Added rows)
sets-all t now [] are may owned accepted = record { own_is = refl; changes_are = sym (append-nil t.ledger.changes); told = All-nil SaysTrue }
sets-all t now (row ∷ rows) are may owned accepted =
    let parts = and_parts (is_accepted t.setting.limits.rows t.ledger.own t.ledger.changes (Added row)) _ accepted in
    let u : State = (step t (set_call now row)).1 in
    let more : u.ledger.changes ≡ t.ledger.changes ++ Added row ∷ [] = set-step t now row (All-head IsSpelled row rows are) (All-head (λ r. can_be_set r ≡ true) row rows may) (All-head (λ r. may_own t.setting.listener.reserved r ≡ true) row rows owned) parts.0 in
    let says : SaysTrue (step t (set_call now row)).0 = set-says t now row (All-head IsSpelled row rows are) (All-head (λ r. can_be_set r ≡ true) row rows may) (All-head (λ r. may_own t.setting.listener.reserved r ≡ true) row rows owned) parts.0 in
    let own : u.ledger.own ≡ t.ledger.own = step-own t (set_call now row) in
    let reserved : u.setting.listener.reserved ≡ t.setting.listener.reserved = ap (λ s. s.listener.reserved) (step-setting t (set_call now row)) in
    let limit : u.setting.limits.rows ≡ t.setting.limits.rows = ap (λ s. s.limits.rows) (step-setting t (set_call now row)) in
    let rest = sets-all u now rows (All-tail IsSpelled row rows are) (All-tail (λ r. can_be_set r ≡ true) row rows may) (still-owned _ _ rows reserved (All-tail (λ r. may_own t.setting.listener.reserved r ≡ true) row rows owned)) (still _ _ _ _ _ _ (map Added rows) limit own more parts.1) in
    record {
      own_is = rest.own_is ∙ own;
      changes_are = rest.changes_are ∙ ap (λ (changes : List Change). changes ++ map Added rows) more ∙ append_assoc t.ledger.changes (Added row ∷ []) (map Added rows);
      told = All-cons SaysTrue (step t (set_call now row)).0 (run u (set_calls now rows)) says rest.told;
    }

-- ---- the rows of a state

-- what holds of each change holds of each row that is left
pub all-left : (P : Row → Type 0) (Q : Change → Type 0) → ((row : Row) → Q (Added row) → P row) → (changes : List Change) → All Q changes → All P (left_by changes)
all-left P Q gives [] all = All-nil P
all-left P Q gives (Removed prog vers which owner ∷ later) all = all-left P Q gives later (All-tail Q (Removed prog vers which owner) later all)
all-left P Q gives (Added row ∷ later) all = by_test (list_any (covers row) later) (all-left P Q gives later (All-tail Q (Added row) later all))
  where
    by_test : (b : Bool) → All P (left_by later) → All P (cond b (left_by later) (row ∷ left_by later))
    by_test true rest = rest
    by_test false rest = All-cons P row (left_by later) (gives row (All-head Q (Added row) later all)) rest

abbrev AreMade : List Reservation → State → Type 0
AreMade reserved s = (s.setting.listener.reserved ≡ reserved) × All (MayBeMade reserved) s.ledger.changes

step-made : (reserved : List Reservation) (s : State) (event : Event) → AreMade reserved s → AreMade reserved (step s event).1
step-made reserved s event made = (ap (λ setting. setting.listener.reserved) (step-setting s event) ∙ made.0, by_change (at-most-once s event))
  where
    by_change : ChangesAtMostOnce s event → All (MayBeMade reserved) (step s event).1.ledger.changes
    by_change (Same e) = All-same (MayBeMade reserved) (step s event).1.ledger.changes s.ledger.changes e made.1
    by_change (OneMore change a) =
        All-same (MayBeMade reserved) (step s event).1.ledger.changes (s.ledger.changes ++ change ∷ []) a.appends
        (All-push (MayBeMade reserved) s.ledger.changes change made.1 (subst (λ (r : List Reservation). MayBeMade r change) made.0 a.may))

after-made : (reserved : List Reservation) (s : State) (events : List Event) → AreMade reserved s → AreMade reserved (after s events)
after-made reserved s [] made = made
after-made reserved s (event ∷ events) made = after-made reserved (step s event).1 events (step-made reserved s event made)

reached-made : (s : State) → IsReached s → All (MayBeMade s.setting.listener.reserved) s.ledger.changes
reached-made s r =
    let start : State = opening r.limits r.listener r.first_xid r.now in
    let made : AreMade r.listener.reserved s = subst (AreMade r.listener.reserved) (sym r.is) (after-made r.listener.reserved start r.events (refl, All-nil (MayBeMade r.listener.reserved))) in
    subst (λ (reserved : List Reservation). All (MayBeMade reserved) s.ledger.changes) (sym made.0) made.1

pub rows_can_be_set : RowsCanBeSet
rows_can_be_set s r = all-left (λ row. can_be_set row ≡ true) (MayBeMade s.setting.listener.reserved) (λ row may. may.0) s.ledger.changes (reached-made s r)

pub set_rows_are_owned : (s : State) → IsReached s → All (λ row. may_own s.setting.listener.reserved row ≡ true) (set_rows s)
set_rows_are_owned s r = all-left (λ row. may_own s.setting.listener.reserved row ≡ true) (MayBeMade s.setting.listener.reserved) (λ row may. may.1) s.ledger.changes (reached-made s r)

-- ---- from any opening

-- no row that can be set has the key of an own row
none-own : (row : Row) (rows : List Row) → (row.prog == rpcb_prog) ≡ true → All (λ r. can_be_set r ≡ true) rows → list_any (is_of_key row) rows ≡ false
unfolding can_be_set is_row is_on
none-own row [] own may = refl
none-own row (other ∷ rows) own may =
    let another : (other.prog == rpcb_prog) ≡ false = not-true (other.prog == rpcb_prog) (and_parts (not (other.prog == rpcb_prog)) _ (All-head (λ r. can_be_set r ≡ true) other rows may)).0 in
    rw (eqb-true row.prog rpcb_prog own, another, none-own row rows own (All-tail (λ r. can_be_set r ≡ true) other rows may)) refl

-- so beside the own rows of each listener they stay distinct
distinct-beside : (own rows : List Row) → AreOwn own → are_distinct own ≡ true → All (λ r. can_be_set r ≡ true) rows → are_distinct rows ≡ true → are_distinct (own ++ rows) ≡ true
distinct-beside [] rows are distinct may apart = apart
distinct-beside (row ∷ own) rows are distinct may apart =
    let here = and_parts (row.prog == rpcb_prog) (list_all (λ (r : Row). r.prog == rpcb_prog) own) are in
    let parts = and_parts (not (list_any (is_of_key row) own)) (are_distinct own) distinct in
    rw (list_any-append (is_of_key row) own rows, not-true (list_any (is_of_key row) own) parts.0, none-own row rows here.0 may) (distinct-beside own rows here.1 parts.1 may apart)

-- the rows after others
distinct-behind : (own rows : List Row) → are_distinct (own ++ rows) ≡ true → are_distinct rows ≡ true
distinct-behind [] rows distinct = distinct
distinct-behind (row ∷ own) rows distinct = distinct-behind own rows (and_parts (not (list_any (is_of_key row) (own ++ rows))) (are_distinct (own ++ rows)) distinct).1

good-limit : (limits : Limits) (listener : Listener) → are_good limits listener ≡ true → limits.rows ≤ 4096
good-limit limits listener good = grind arith

-- the rows of a state, beside the own rows of another listener
beside : (s : State) → IsReached s → (listener : Listener) → are_distinct (own_rows listener ++ set_rows s) ≡ true
beside s r listener =
    let k = ledgers_are_well_kept s r in
    distinct-beside (own_rows listener) (set_rows s) (are-own listener) (own-distinct listener) (rows_can_be_set s r) (distinct-behind s.ledger.own (set_rows s) k.distinct)

leaves-rows : (s : State) → IsReached s → All IsSpelled (set_rows s) → (limits : Limits) (listener : Listener) → are_good limits listener ≡ true → length (own_rows listener) + length (set_rows s) ≤ limits.rows → All (λ row. may_own listener.reserved row ≡ true) (set_rows s) → (first_xid opened now : ℕ)
    → Leaves (opening limits listener first_xid opened) (set_calls now (set_rows s)) (own_rows listener) (map Added (set_rows s))
leaves-rows s r are limits listener good room owned first_xid opened now =
    let limit = good-limit limits listener good in
    let again = rows_are_set_again limits.rows (own_rows listener) (set_rows s) (beside s r listener) (omega (arith, room, length-append (own_rows listener) (set_rows s))) (omega (arith, limit)) in
    sets-all (opening limits listener first_xid opened) now (set_rows s) are (rows_can_be_set s r) owned again.0

pub sets-again : (s : State) → IsReached s → All IsSpelled (set_rows s) → (limits : Limits) (listener : Listener) → are_good limits listener ≡ true → length (own_rows listener) + length (set_rows s) ≤ limits.rows → All (λ row. may_own listener.reserved row ≡ true) (set_rows s) → (first_xid opened now : ℕ)
    → Sets (opening limits listener first_xid opened) (set_calls now (set_rows s)) (set_rows s)
sets-again s r are limits listener good room owned first_xid opened now =
    let end = leaves-rows s r are limits listener good room owned first_xid opened now in
    record { told = end.told; are_set = ap left_by end.changes_are ∙ all_left (set_rows s) }

pub restored : (s : State) → IsReached s → are_good s.setting.limits s.setting.listener ≡ true → All IsSpelled (set_rows s) → rows_in (after (opened_again s) (kept_calls s)).ledger ≡ rows_in s.ledger
restored s r good are =
    let k = ledgers_are_well_kept s r in
    let room : length (own_rows s.setting.listener) + length (set_rows s) ≤ s.setting.limits.rows = omega (arith, k.fit good, length-append s.ledger.own (set_rows s), ap (λ (own : List Row). length own) k.own) in
    let end = leaves-rows s r are s.setting.limits s.setting.listener good room (set_rows_are_owned s r) s.setting.first_xid s.clock s.clock in
    ap (λ (own : List Row). live own (after (opened_again s) (kept_calls s)).ledger.changes) end.own_is
    ∙ ap (live (own_rows s.setting.listener)) end.changes_are
    ∙ ap (λ (rows : List Row). own_rows s.setting.listener ++ rows) (all_left (set_rows s))
    ∙ ap (λ (own : List Row). own ++ set_rows s) (sym k.own)

-- if statistics begin anew after some events, the rows are those after the events, and nothing was called
pub begun-anew : (s : State) (events : List Event) → let left : State = after s (events ++ ZeroStats ∷ []) in
    (rows_in left.ledger ≡ rows_in (after s events).ledger) × (left.ledger.history ≡ [])
unfolding step zero_stats
begun-anew s [] = (refl, refl)
begun-anew s (event ∷ events) = begun-anew (step s event).1 events
