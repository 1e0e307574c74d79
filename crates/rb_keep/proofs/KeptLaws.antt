-- A line keeps and removes its row, and no other.
use Rattle.std.specs.Prelude.{All, decimal, bytes_eq}
use Rattle.std.specs.Fmt.{digits}
use Rattle.std.proofs.Common.{◌≡◌, ℕ, suc, ◌+◌, ◌*◌, ◌^◌, ◌<◌, ◌≤◌, ◌&&◌, ◌==◌, Bool, true, false, cond, codes, Option, Some, None, Ok, Err, List, [], ◌∷◌, ◌++◌, length, slice_index, get_or, refl, sym, ap, ◌∙◌, append-nil, append_assoc, length-append, arith}
use Rattle.std.proofs.Math.Seq.{drop-append_seam}
use Rattle.std.proofs.lemmas.Bool.{and_parts, eqb-true, lt-ltb, le-ltb}
use Rattle.std.proofs.lemmas.Option.{same_Some}
use Rattle.std.proofs.lemmas.Fmt.{length-decimal-le}
use Rattle.std.proofs.lemmas.List.Elements.{All-head, All-tail}
use Rattle.std.proofs.lemmas.Slice.Eq.{bytes_eq-Decides}
use Rattle.hex.proofs.HexLemmas.{length-encode_with}
use Rattle.hex.specs.Hex.{lower_digits}
use Rattle.rb_xdr.specs.Xdr.{IsContent}
use Rattle.rb_address.specs.declared.netid.Netid.{Netid}
use Rattle.rb_address.specs.declared.netid.Netid.TheVariants as netids
use Rattle.rb_address.specs.declared.who.Owner.{Owner}
use Rattle.rb_address.specs.declared.who.Owner.TheVariants.{Unknown, Uid}
use Rattle.rb_address.specs.declared.host.Host.{Host}
use Rattle.rb_address.specs.declared.host.Host.TheVariants.{V4, V6}
use Rattle.rb_address.specs.declared.who.Source.{Source}
use Rattle.rb_address.specs.declared.who.Source.TheVariants as sources
use Rattle.rb_address.specs.declared.who.Trust.{Trust}
use Rattle.rb_address.specs.declared.who.Trust.TheVariants as trusts
use Rattle.rb_address.specs.declared.who.Who.{Who}
use Rattle.rb_address.specs.Callers.{IsWho, unknown_host, who_text}
use Rattle.rb_address.specs.Hosts.{is_same_host}
use Rattle.rb_address.specs.Netids.{netid_text, netid_named}
use Rattle.rb_rpc.specs.CallBytes.{call_bytes}
use Rattle.rb_rpc.specs.Grammar.{IsHead}
use Rattle.rb_rpc.proofs.Calls.{written_again}
use Rattle.rb_registry.specs.declared.row.Row.{Row}
use Rattle.rb_arguments.specs.declared.procedure.RpcbProcedure.TheVariants as rpcbs
use Rattle.rb_arguments.specs.declared.request.Request.TheVariants as requests
use Rattle.rb_arguments.specs.Types.{IsRpcb, rpcb_spelling}
use Rattle.rb_arguments.specs.Arguments.{procedure_at, is_known, request, or_garbage, read_request}
use Rattle.rb_arguments.specs.Grammar.{Asks}
use Rattle.rb_arguments.proofs.Requests.{asked_request}
use Rattle.rb_answers.specs.Callers.{owner_named}
use Rattle.rb_answers.proofs.RowLengths.{netid_is_content}
use Rattle.rb_answers.specs.Answers.{can_be_set, row_of_rpcb}
use Rattle.rb_model.specs.Step.{Event}
use Rattle.rb_model.specs.Step.Event.{Datagram, Open, Bytes, Pending, Gave, Closed, NextLost, Unsent, Sent, Forward, Expire, ZeroStats}
use Rattle.rb_model.specs.ChangeLaws.{credential_for, set_rows, IsSpelled, this_machine, set_head, rpcb_for, set_bytes, set_call, HasShortCall}
use Rattle.rb_lines.specs.Printing.{hex_text, bytes_line}
use Rattle.rb_lines.specs.Entries.{who_line}
use Rattle.rb_laws.proofs.Ledgers.{settable-short}
use Rattle.rb_laws.proofs.Restoring.{rows_can_be_set}
use Rattle.rb_laws.proofs.Spelling.{rows_are_spelled, kept_calls_are_short}
use Rattle.rb_xdr.specs.Xdr.{number}
use Rattle.rb_lines.specs.Lines.{Line, line, lines_of}
use Rattle.rb_lines.specs.Lines.Line.{Happens, Skipped as SaysNothing, Bad as SaysNoEvent}
use Rattle.rb_lines.specs.RecordLaws.{AreBytes, HasLine}
use Rattle.rb_lines.proofs.LineWords.{line_of}
use Rattle.rb_lines.proofs.Recorded.{IsLine, lines_behind, IsEventLine, event_line}
use Rattle.rb_keep.specs.declared.reading.KeptLine.{KeptLine}
use Rattle.rb_keep.specs.declared.reading.KeptLine.TheVariants.{Keeps, Removes}
use Rattle.rb_keep.specs.Kept.{row_line, rows_text, unset_head, key_for, unset_bytes, unset_call}
use Rattle.rb_keep.specs.Reading.{is_this_machine, is_here, only_claims, row_of_reading, row_by_verdict, row_asked, row_set_by, row_set, row_unset_by, row_unset, kept_row, gone_row, keeps_or_not, kept_by, kept_line, rows_from}
use Rattle.rb_keep.specs.KeptLaws.{SetsAgain, RemovesIt, LinesKeepTheirRows, LinesRemoveTheirRows, LinesOfRowsKeepThem}
use mathlib.Core.Bool.{true≢false}

-- ---- the bytes of a call are read as its row

nothing : (limit : ℕ) → IsContent limit []
nothing limit = (omega arith, omega arith, λ i. omega arith)

fits : (row : Row) → IsSpelled row → length row.addr ≤ 128 → IsRpcb (rpcb_for row)
fits row is few = record { prog = is.prog; vers = is.vers; netid = netid_is_content row.netid; addr = (few, omega (arith, few), is.addr); owner = nothing 128 }

-- the call that sets a row: the version and the procedure of SET
abbrev set_vers : ℕ
set_vers = 4

abbrev set_proc : ℕ
set_proc = 1

asks-set : (row : Row) → IsSpelled row → length row.addr ≤ 128 → Asks set_vers set_proc (requests.Rpcb rpcbs.Set (rpcb_for row)) (rpcb_spelling (rpcb_for row))
unfolding procedure_at
asks-set row is few = (refl, record { fits = fits row is few; rest = []; whole = sym (append-nil (rpcb_spelling (rpcb_for row))) })

head_fits : (row : Row) → IsHead (set_head row)
head_fits row = record { xid = omega arith; prog = omega arith; vers = omega arith; proc = omega arith }

named : (netid : Netid) → netid_named (netid_text netid) ≡ Some netid
unfolding netid_named
named netids.Tcp = refl
named netids.Udp = refl
named netids.Tcp6 = refl
named netids.Udp6 = refl
named netids.Local = refl

owned : (owner : Owner) → owner_named (credential_for owner) ≡ owner
owned Unknown = refl
owned (Uid uid) = refl

told : (row : Row) → row_of_rpcb (owner_named (credential_for row.owner)) (rpcb_for row) ≡ Some row
unfolding row_of_rpcb
told row = rw (named row.netid, owned row.owner) refl

request_read : (bytes : List ℕ) → read_request set_vers set_proc bytes ≡ or_garbage (request set_vers set_proc bytes)
unfolding is_known procedure_at
request_read bytes = refl

asked : (row : Row) → IsSpelled row → length row.addr ≤ 128 → row_asked 1 (set_bytes row) ≡ Some row
unfolding row_asked
asked row is few =
    let spelling : List ℕ = rpcb_spelling (rpcb_for row) in
    ap (row_by_verdict 1 (set_bytes row)) (written_again (set_head row) spelling (head_fits row) is.owner)
    ∙ ap (λ (bytes : List ℕ). row_of_reading (owner_named (credential_for row.owner)) (read_request set_vers set_proc bytes)) (drop-append_seam (call_bytes (set_head row)) spelling)
    ∙ ap (row_of_reading (owner_named (credential_for row.owner))) (request_read spelling ∙ ap or_garbage (asked_request set_vers set_proc spelling (requests.Rpcb rpcbs.Set (rpcb_for row)) (asks-set row is few)))
    ∙ told row

set : (row : Row) → IsSpelled row → length row.addr ≤ 128 → row_set (set_bytes row) ≡ Some row
unfolding row_set
set row is few = ap (row_set_by (set_bytes row)) (asked row is few) ∙ ap (λ (b : Bool). cond b (Some row) None) ((bytes_eq-Decides (set_bytes row) (set_bytes row)).1 refl)

here : is_this_machine this_machine ≡ true
unfolding is_this_machine
here = refl

kept : (now : ℕ) (row : Row) → IsSpelled row → length row.addr ≤ 128 → kept_row (set_call now row) ≡ Some row
unfolding kept_row
kept now row is few = rw here (set row is few)

pub lines_of_rows_keep_them : LinesOfRowsKeepThem
unfolding kept_line
lines_of_rows_keep_them text row is few again =
    ap kept_by again.event ∙ ap (λ (o : Option Row). keeps_or_not o (gone_row (set_call again.now row))) (kept again.now row is few)

-- ---- the bytes of the other call are read as its row, without the address

-- the row as it is named
abbrev pub keyed : Row → Row
keyed row = record row { addr = [] }

pub key-fits : (row : Row) → IsSpelled row → IsRpcb (key_for row)
key-fits row is = record { prog = is.prog; vers = is.vers; netid = netid_is_content row.netid; addr = nothing 128; owner = nothing 128 }

abbrev unset_proc : ℕ
unset_proc = 2

asks-unset : (row : Row) → IsSpelled row → Asks set_vers unset_proc (requests.Rpcb rpcbs.Unset (key_for row)) (rpcb_spelling (key_for row))
unfolding procedure_at
asks-unset row is = (refl, record { fits = key-fits row is; rest = []; whole = sym (append-nil (rpcb_spelling (key_for row))) })

unset-head-fits : (row : Row) → IsHead (unset_head row)
unset-head-fits row = record { xid = omega arith; prog = omega arith; vers = omega arith; proc = omega arith }

key-told : (row : Row) → row_of_rpcb (owner_named (credential_for row.owner)) (key_for row) ≡ Some (keyed row)
unfolding row_of_rpcb
key-told row = rw (named row.netid, owned row.owner) refl

unset-read : (bytes : List ℕ) → read_request set_vers unset_proc bytes ≡ or_garbage (request set_vers unset_proc bytes)
unfolding is_known procedure_at
unset-read bytes = refl

unset-asked : (row : Row) → IsSpelled row → row_asked 2 (unset_bytes row) ≡ Some (keyed row)
unfolding row_asked
unset-asked row is =
    let spelling : List ℕ = rpcb_spelling (key_for row) in
    ap (row_by_verdict 2 (unset_bytes row)) (written_again (unset_head row) spelling (unset-head-fits row) is.owner)
    ∙ ap (λ (bytes : List ℕ). row_of_reading (owner_named (credential_for row.owner)) (read_request set_vers unset_proc bytes)) (drop-append_seam (call_bytes (unset_head row)) spelling)
    ∙ ap (row_of_reading (owner_named (credential_for row.owner))) (unset-read spelling ∙ ap or_garbage (asked_request set_vers unset_proc spelling (requests.Rpcb rpcbs.Unset (key_for row)) (asks-unset row is)))
    ∙ key-told row

unset : (row : Row) → IsSpelled row → row_unset (unset_bytes row) ≡ Some (keyed row)
unfolding row_unset
unset row is =
    ap (row_unset_by (unset_bytes row)) (unset-asked row is)
    ∙ ap (λ (b : Bool). cond b (Some (keyed row)) None) ((bytes_eq-Decides (unset_bytes row) (unset_bytes row)).1 refl)

-- the procedure's number stands in the bytes
one-or-two : (m n : ℕ) → m ≡ 1 → n ≡ 2 → m ≡ n → ⊥
one-or-two m n a b e = omega arith

never-set : (row other : Row) → set_bytes other ≡ unset_bytes row → ⊥
unfolding call_bytes number
never-set row other e =
    one-or-two (get_or (set_bytes other) 23 0) (get_or (unset_bytes row) 23 0) refl refl (ap (λ (bytes : List ℕ). get_or bytes 23 0) e)

not-set : (row : Row) → row_set (unset_bytes row) ≡ None
unfolding row_set
not-set row = by_row (row_asked 1 (unset_bytes row))
  where
    by_test : (other : Row) (b : Bool) → bytes_eq (set_bytes other) (unset_bytes row) ≡ b → cond b (Some other) None ≡ None
    by_test other true same = absurd (never-set row other ((bytes_eq-Decides (set_bytes other) (unset_bytes row)).0 same))
    by_test other false same = refl

    by_row : (o : Option Row) → row_set_by (unset_bytes row) o ≡ None
    by_row None = refl
    by_row (Some other) = by_test other (bytes_eq (set_bytes other) (unset_bytes row)) refl

not-kept : (now : ℕ) (row : Row) → kept_row (unset_call now row) ≡ None
unfolding kept_row
not-kept now row = rw here (not-set row)

gone : (now : ℕ) (row : Row) → IsSpelled row → gone_row (unset_call now row) ≡ Some (keyed row)
unfolding gone_row
gone now row is = rw here (unset row is)

pub removes : (text : List ℕ) (now : ℕ) (row : Row) → IsSpelled row → line text ≡ Happens (unset_call now row) → kept_line text ≡ Removes (keyed row)
unfolding kept_line
removes text now row is says = ap kept_by says ∙ rw (not-kept now row, gone now row is) refl

-- ---- a line keeps no other row

same_host : (h : Host) (octets : List ℕ) → is_same_host h (V4 octets) ≡ true → h ≡ V4 octets
same_host (V4 a) octets e = ap V4 ((bytes_eq-Decides a octets).0 e)
same_host (V6 a) octets e = absurd (true≢false (sym e))

source_is : (source : Source) → is_here source ≡ true → source ≡ this_machine.source
source_is (sources.Inet peer) e =
    let parts = and_parts (is_same_host peer.host (V4 (127 ∷ 0 ∷ 0 ∷ 1 ∷ []))) (peer.port == 0) e in
    rw (same_host peer.host (127 ∷ 0 ∷ 0 ∷ 1 ∷ []) parts.0, eqb-true peer.port 0 parts.1) refl
source_is sources.Local e = absurd (true≢false (sym e))

trust_is : (trust : Trust) → only_claims trust ≡ true → trust ≡ trusts.Claims
trust_is trusts.Claims e = refl
trust_is (trusts.Local owner) e = absurd (true≢false (sym e))
trust_is trusts.Stranger e = absurd (true≢false (sym e))

who_is : (who : Who) → is_this_machine who ≡ true → who ≡ this_machine
unfolding is_this_machine
who_is who e =
    let parts = and_parts (is_here who.source && is_same_host who.asked unknown_host) (only_claims who.trust) e in
    let front = and_parts (is_here who.source) (is_same_host who.asked unknown_host) parts.0 in
    rw (source_is who.source front.0, same_host who.asked (0 ∷ 0 ∷ 0 ∷ 0 ∷ []) front.1, trust_is who.trust parts.1) refl

bytes_are : (bytes : List ℕ) (row : Row) → row_set bytes ≡ Some row → bytes ≡ set_bytes row
unfolding row_set
bytes_are bytes row e = by_row (row_asked 1 bytes) e
  where
    by_test : (other : Row) (b : Bool) → bytes_eq (set_bytes other) bytes ≡ b → cond b (Some other) None ≡ Some row → bytes ≡ set_bytes row
    by_test other true same e = sym ((bytes_eq-Decides (set_bytes other) bytes).0 same) ∙ ap set_bytes (same_Some other row e)
    by_test other false same e = absurd cc

    by_row : (o : Option Row) → row_set_by bytes o ≡ Some row → bytes ≡ set_bytes row
    by_row None e = absurd cc
    by_row (Some other) e = by_test other (bytes_eq (set_bytes other) bytes) refl e

call_is : (event : Event) (row : Row) → kept_row event ≡ Some row → (now : ℕ) × (event ≡ set_call now row)
unfolding kept_row
call_is (Datagram now who bytes) row e = by_test (is_this_machine who) refl e
  where
    by_test : (b : Bool) → is_this_machine who ≡ b → cond b (row_set bytes) None ≡ Some row → (moment : ℕ) × (Datagram now who bytes ≡ set_call moment row)
    by_test true is e = (now, ap (λ (w : Who). Datagram now w bytes) (who_is who is) ∙ ap (Datagram now this_machine) (bytes_are bytes row e))
    by_test false is e = absurd cc
call_is (Open now from) row e = absurd cc
call_is (Bytes now id bytes) row e = absurd cc
call_is (Pending id) row e = absurd cc
call_is (Gave now id n) row e = absurd cc
call_is (Closed id) row e = absurd cc
call_is NextLost row e = absurd cc
call_is Unsent row e = absurd cc
call_is (Sent number) row e = absurd cc
call_is (Forward now from bytes) row e = absurd cc
call_is (Expire now) row e = absurd cc
call_is ZeroStats row e = absurd cc

pub lines_keep_their_rows : LinesKeepTheirRows
unfolding kept_line
lines_keep_their_rows text row e = by_line (line text) refl e
  where
    by_row : (event : Event) → line text ≡ Happens event → (o g : Option Row) → kept_row event ≡ o → keeps_or_not o g ≡ Keeps row → SetsAgain text row
    by_row event is None None kept e = absurd cc
    by_row event is None (Some other) kept e = absurd cc
    by_row event is (Some other) g kept e =
        let same : other ≡ row = cc e in
        let found = call_is event other kept in
        record { now = found.0; event = is ∙ ap Happens (found.1 ∙ ap (set_call found.0) same) }

    by_line : (said : Line) → line text ≡ said → kept_by said ≡ Keeps row → SetsAgain text row
    by_line SaysNothing is e = absurd cc
    by_line SaysNoEvent is e = absurd cc
    by_line (Happens event) is e = by_row event is (kept_row event) (gone_row event) refl e

-- ---- and takes no other row out

gone-bytes : (bytes : List ℕ) (row : Row) → row_unset bytes ≡ Some row → bytes ≡ unset_bytes row
unfolding row_unset
gone-bytes bytes row e = by_row (row_asked 2 bytes) e
  where
    by_test : (other : Row) (b : Bool) → bytes_eq (unset_bytes other) bytes ≡ b → cond b (Some other) None ≡ Some row → bytes ≡ unset_bytes row
    by_test other true same e = sym ((bytes_eq-Decides (unset_bytes other) bytes).0 same) ∙ ap unset_bytes (same_Some other row e)
    by_test other false same e = absurd cc

    by_row : (o : Option Row) → row_unset_by bytes o ≡ Some row → bytes ≡ unset_bytes row
    by_row None e = absurd cc
    by_row (Some other) e = by_test other (bytes_eq (unset_bytes other) bytes) refl e

gone-call : (event : Event) (row : Row) → gone_row event ≡ Some row → (now : ℕ) × (event ≡ unset_call now row)
unfolding gone_row
gone-call (Datagram now who bytes) row e = by_test (is_this_machine who) refl e
  where
    by_test : (b : Bool) → is_this_machine who ≡ b → cond b (row_unset bytes) None ≡ Some row → (moment : ℕ) × (Datagram now who bytes ≡ unset_call moment row)
    by_test true is e = (now, ap (λ (w : Who). Datagram now w bytes) (who_is who is) ∙ ap (Datagram now this_machine) (gone-bytes bytes row e))
    by_test false is e = absurd cc
gone-call (Open now from) row e = absurd cc
gone-call (Bytes now id bytes) row e = absurd cc
gone-call (Pending id) row e = absurd cc
gone-call (Gave now id n) row e = absurd cc
gone-call (Closed id) row e = absurd cc
gone-call NextLost row e = absurd cc
gone-call Unsent row e = absurd cc
gone-call (Sent number) row e = absurd cc
gone-call (Forward now from bytes) row e = absurd cc
gone-call (Expire now) row e = absurd cc
gone-call ZeroStats row e = absurd cc

pub lines_remove_their_rows : LinesRemoveTheirRows
unfolding kept_line
lines_remove_their_rows text row e = by_line (line text) refl e
  where
    by_row : (event : Event) → line text ≡ Happens event → (o g : Option Row) → gone_row event ≡ g → keeps_or_not o g ≡ Removes row → RemovesIt text row
    by_row event is (Some other) g went e = absurd cc
    by_row event is None None went e = absurd cc
    by_row event is None (Some other) went e =
        let same : other ≡ row = cc e in
        let found = gone-call event other went in
        record { now = found.0; event = is ∙ ap Happens (found.1 ∙ ap (unset_call found.0) same) }

    by_line : (said : Line) → line text ≡ said → kept_by said ≡ Removes row → RemovesIt text row
    by_line SaysNothing is e = absurd cc
    by_line SaysNoEvent is e = absurd cc
    by_line (Happens event) is e = by_row event is (kept_row event) (gone_row event) refl e

-- ---- the line of a row

pub all_bytes : (xs : List ℕ) → ((i : ℕ) → slice_index xs i < 256) → AreBytes xs
all_bytes [] are = tt
all_bytes (x ∷ xs) are = (are 0, all_bytes xs (λ i. are (suc i)))

pub is-who : IsWho this_machine
is-who = grind arith

pub has-line : (now : ℕ) (row : Row) → now < 2 ^ 64 → HasShortCall row → HasLine (set_call now row)
has-line now row fits short = (fits, is-who, all_bytes (set_bytes row) short.bytes)

pub keeps : (now : ℕ) (row : Row) → IsSpelled row → length row.addr ≤ 128 → (l : IsEventLine (set_call now row)) → kept_line l.body ≡ Keeps row
keeps now row is few l = lines_of_rows_keep_them l.body row is few (record { now = now; event = line_of l.body (set_call now row) l.spelled })

-- ---- the lines of rows

pub empty_line : (k : ℕ) (rows : List Row) → rows_from k (lines_of []) (Ok rows) ≡ Ok rows
unfolding rows_from lines_of kept_line line
empty_line k rows = refl

-- ---- they are short

hex_short : (bytes : List ℕ) → length (hex_text bytes) ≤ 2 * length bytes + 1
hex_short [] = omega arith
hex_short (byte ∷ bytes) = omega (arith, length-encode_with lower_digits (byte ∷ bytes))

who_here : who_text this_machine ≡ codes "127.0.0.1:0"
unfolding digits
who_here = refl

line_short : (now : ℕ) (row : Row) → now < 2 ^ 64 → HasShortCall row → length (row_line now row) ≤ 1000
line_short now row fits short =
    let moment : length (decimal now) ≤ 20 = length-decimal-le 20 now (omega arith) (omega (arith, fits)) fits in
    let hex = hex_short (set_bytes row) in
    omega (
      arith,
      moment,
      hex,
      short.short,
      length-append (decimal now) (who_line (codes " ") this_machine (set_bytes row)),
      length-append (who_text this_machine) (bytes_line (codes " ") (set_bytes row)),
      ap length who_here,
      length-append (hex_text (set_bytes row)) (codes "\n"),
    )

pub lines_short : (now : ℕ) → now < 2 ^ 64 → (rows : List Row) → All HasShortCall rows → length (rows_text now rows) ≤ 1000 * length rows
lines_short now fits [] short = omega arith
lines_short now fits (row ∷ rows) short =
    omega (arith, line_short now row fits (All-head HasShortCall row rows short), lines_short now fits rows (All-tail HasShortCall row rows short), length-append (row_line now row) (rows_text now rows))
