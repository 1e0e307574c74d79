-- Lines of changes, one after another, lead from rows to rows.
use Rattle.std.specs.Prelude.{All}
use Rattle.std.specs.List.{concat}
use Rattle.std.proofs.Common.{◌≡◌, ℕ, zero, suc, ◌==◌, ◌^◌, ◌+◌, ◌<◌, ◌≤◌, Bool, true, false, cond, None, Ok, Err, List, [], ◌∷◌, ◌++◌, length, map, replicate, get_or, refl, sym, ap, subst, ◌∙◌, append_assoc, append-nil, length-append, arith}
use Rattle.std.proofs.lemmas.Bool.{lt-ltb}
use Rattle.std.proofs.lemmas.List.Elements.{All-nil, All-head, All-tail}
use Rattle.rb_xdr.specs.Xdr.{AreBytes as AreContent, number, opaque, residue}
use Rattle.rb_rpc.specs.declared.call.CallHead.{CallHead}
use Rattle.rb_rpc.specs.declared.call.Credential.{Credential}
use Rattle.rb_rpc.specs.declared.call.Credential.TheVariants as credentials
use Rattle.rb_rpc.specs.Messages.{auth, auth_none}
use Rattle.rb_rpc.specs.CallBytes.{sys_body, credential, call_words, call_bytes}
use Rattle.rb_rpc.proofs.Calls.{AreBytes-append, AreBytes-number, AreBytes-sys}
use Rattle.rb_registry.specs.declared.row.Row.{Row}
use Rattle.rb_registry.specs.Rows.{is_on, is_row}
use Rattle.rb_arguments.specs.declared.rpcb.Rpcb.{Rpcb}
use Rattle.rb_arguments.specs.Types.{IsRpcb, rpcb_spelling}
use Rattle.rb_answers.specs.Answers.{can_be_set}
use Rattle.rb_model.specs.State.{State}
use Rattle.rb_model.specs.ChangeLaws.{set_rows, set_call, IsSpelled, HasShortCall}
use Rattle.rb_laws.proofs.Ledgers.{settable-short, ledgers_are_well_kept}
use Rattle.rb_laws.proofs.Restoring.{rows_can_be_set}
use Rattle.rb_laws.proofs.Spelling.{rows_are_spelled, kept_calls_are_short}
use Rattle.rb_lines.specs.Entries.{event_text}
use Rattle.rb_lines.specs.Lines.{lines_of, longest_input}
use Rattle.rb_lines.specs.RecordLaws.{HasLine}
use Rattle.rb_lines.proofs.LineWords.{line_of}
use Rattle.rb_lines.proofs.Recorded.{IsLine, lines_behind, IsEventLine, event_line}
use Rattle.rb_keep.specs.declared.reading.KeptLine.{KeptLine}
use Rattle.rb_keep.specs.declared.reading.KeptLine.TheVariants.{Keeps, Removes}
use Rattle.rb_keep.specs.declared.fault.KeepFault.TheVariants.{TooMany}
use Rattle.rb_keep.specs.Kept.{row_line, rows_text, kept_text, key_for, unset_head, unset_bytes, unset_call, gone_line}
use Rattle.rb_keep.specs.Reading.{kept_line, without, most_rows, with_line, rows_from, read}
use Rattle.rb_keep.specs.KeptLaws.{HasNoFeed, CanBeKept, KeptTextIsRead}
use Rattle.rb_keep.proofs.Distinct.{Distinct, distinct-from, distinct-behind}
use Rattle.rb_keep.proofs.KeptLaws.{keyed, key-fits, removes, has-line, keeps, all_bytes, is-who, empty_line, lines_short}
use Rattle.rb_keep.proofs.Parts.{Ended, whole-ended, ended-append}
use Rattle.rb_keep.proofs.Parts.Ended.{Empty, Behind}
use Rattle.rb_keep.proofs.TextLaws.{short_reads}

pub kept_lines : (now : ℕ) (rows : List Row) → concat (map event_text (map (set_call now) rows)) ≡ rows_text now rows
kept_lines now [] = refl
kept_lines now (row ∷ rows) = ap (λ (xs : List ℕ). row_line now row ++ xs) (kept_lines now rows)

-- ---- texts that lead from rows to rows

-- Read behind these rows it leaves those; it ends with a line feed, if it is not empty.
pub record Leads (text : List ℕ) (from to : List Row) : Type 0 where
  pub ended : Ended text
  pub reads : (k : ℕ) (rest : List ℕ) → (next : ℕ) × (rows_from k (lines_of (text ++ rest)) (Ok from) ≡ rows_from next (lines_of rest) (Ok to))

pub stays : (rows : List Row) → Leads [] rows rows
stays rows = record { ended = Empty refl; reads = λ k rest. (k, refl) }

pub joined : (a b : List ℕ) (from by to : List Row) → Leads a from by → Leads b by to → Leads (a ++ b) from to
joined a b from by to la lb = record {
  ended = ended-append a b la.ended lb.ended;
  reads = λ k rest.
      let first = la.reads k (b ++ rest) in
      let second = lb.reads first.0 rest in
      (second.0, ap (λ (t : List ℕ). rows_from k (lines_of t) (Ok from)) (append_assoc a b rest) ∙ first.1 ∙ second.1);
}

-- ---- the line of a row that came

pub row-leads : (now : ℕ) (row : Row) (rows : List Row) → now < 2 ^ 64 → IsSpelled row → can_be_set row ≡ true → HasShortCall row → length rows < most_rows → Leads (row_line now row) rows (rows ++ row ∷ [])
unfolding rows_from
row-leads now row rows fits is may short room =
    let e : IsEventLine (set_call now row) = event_line (set_call now row) (has-line now row fits short) in
    let l : IsLine (row_line now row) = record { body = e.body; whole = e.whole; apart = e.apart } in
    let says : kept_line e.body ≡ Keeps row = keeps now row is (settable-short row may) e in
    record {
      ended = Behind e.body e.whole;
      reads = λ k rest. (
        k + 1,
        ap (λ (ts : List (List ℕ)). rows_from k ts (Ok rows)) (lines_behind (row_line now row) rest l)
            ∙ ap (λ (said : KeptLine). rows_from (k + 1) (lines_of rest) (with_line k rows said)) says
            ∙ ap (λ (b : Bool). rows_from (k + 1) (lines_of rest) (cond b (Ok (rows ++ row ∷ [])) (Err (TooMany k)))) (lt-ltb (length rows) most_rows room),
      );
    }

-- ---- the line of a row that went

AreBytes-zeros : (n : ℕ) → AreContent (replicate n 0)
AreBytes-zeros zero = λ i. omega arith
AreBytes-zeros (suc n) = AreBytes-append (0 ∷ []) (replicate n 0) (λ i. small-zero i) (AreBytes-zeros n)
  where
    small-zero : (i : ℕ) → get_or (0 ∷ []) i 0 < 256
    small-zero zero = omega arith
    small-zero (suc i) = omega arith

AreBytes-opaque : (content : List ℕ) → AreContent content → AreContent (opaque content)
unfolding opaque
AreBytes-opaque content are =
    AreBytes-append (number (length content) ++ content) (replicate (residue (length content)) 0)
    (AreBytes-append (number (length content)) content (AreBytes-number (length content)) are)
    (AreBytes-zeros (residue (length content)))

AreBytes-words : (head : CallHead) → AreContent (call_words head)
AreBytes-words head =
    AreBytes-append (number head.xid ++ number 0 ++ number 2 ++ number head.prog ++ number head.vers) (number head.proc)
    (AreBytes-append (number head.xid ++ number 0 ++ number 2 ++ number head.prog) (number head.vers)
    (AreBytes-append (number head.xid ++ number 0 ++ number 2) (number head.prog)
    (AreBytes-append (number head.xid ++ number 0) (number 2) (AreBytes-append (number head.xid) (number 0) (AreBytes-number head.xid) (AreBytes-number 0)) (AreBytes-number 2))
    (AreBytes-number head.prog))
    (AreBytes-number head.vers))
    (AreBytes-number head.proc)

AreBytes-auth : (flavor : ℕ) (body : List ℕ) → AreContent body → AreContent (auth flavor body)
AreBytes-auth flavor body are = AreBytes-append (number flavor) (opaque body) (AreBytes-number flavor) (AreBytes-opaque body are)

AreBytes-credential : (cred : Credential) → AreContent (credential cred)
AreBytes-credential credentials.None = AreBytes-auth 0 [] (λ i. omega arith)
AreBytes-credential (credentials.Sys uid) = AreBytes-auth 1 (sys_body uid) (AreBytes-sys uid)

AreBytes-rpcb : (r : Rpcb) → IsRpcb r → AreContent (rpcb_spelling r)
AreBytes-rpcb r fits =
    AreBytes-append (number r.prog) _ (AreBytes-number r.prog)
    (AreBytes-append (number r.vers) _ (AreBytes-number r.vers)
    (AreBytes-append (opaque r.netid) _ (AreBytes-opaque r.netid fits.netid.2)
    (AreBytes-append (opaque r.addr) (opaque r.owner) (AreBytes-opaque r.addr fits.addr.2) (AreBytes-opaque r.owner fits.owner.2))))

AreBytes-call : (head : CallHead) → AreContent (call_bytes head)
unfolding call_bytes
AreBytes-call head =
    AreBytes-append (call_words head ++ credential head.cred) auth_none
    (AreBytes-append (call_words head) (credential head.cred) (AreBytes-words head) (AreBytes-credential head.cred))
    (AreBytes-auth 0 [] (λ i. omega arith))

gone-has-line : (now : ℕ) (row : Row) → now < 2 ^ 64 → IsSpelled row → HasLine (unset_call now row)
gone-has-line now row fits is = (
  fits,
  is-who,
  all_bytes (unset_bytes row) (AreBytes-append (call_bytes (unset_head row)) (rpcb_spelling (key_for row)) (AreBytes-call (unset_head row)) (AreBytes-rpcb (key_for row) (key-fits row is))),
)

by-key : (row : Row) (rows : List Row) → without (keyed row) rows ≡ without row rows
unfolding without is_row is_on
by-key row rows = refl

pub gone-leads : (now : ℕ) (row : Row) (rows : List Row) → now < 2 ^ 64 → IsSpelled row → Leads (gone_line now row) rows (without row rows)
unfolding rows_from
gone-leads now row rows fits is =
    let e : IsEventLine (unset_call now row) = event_line (unset_call now row) (gone-has-line now row fits is) in
    let l : IsLine (gone_line now row) = record { body = e.body; whole = e.whole; apart = e.apart } in
    let says : kept_line e.body ≡ Removes (keyed row) = removes e.body now row is (line_of e.body (unset_call now row) e.spelled) in
    record {
      ended = Behind e.body e.whole;
      reads = λ k rest. (
        k + 1,
        ap (λ (ts : List (List ℕ)). rows_from k ts (Ok rows)) (lines_behind (gone_line now row) rest l)
            ∙ ap (λ (said : KeptLine). rows_from (k + 1) (lines_of rest) (with_line k rows said)) says
            ∙ ap (λ (left : List Row). rows_from (k + 1) (lines_of rest) (Ok left)) (by-key row rows),
      );
    }

-- ---- rows that came

-- what is known of rows that can be kept
pub record AreGood (rows : List Row) : Type 0 where
  pub spelled : All IsSpelled rows
  pub may : All (λ row. can_be_set row ≡ true) rows
  pub short : All HasShortCall rows

good-tail : (row : Row) (rows : List Row) → AreGood (row ∷ rows) → AreGood rows
good-tail row rows g = record {
  spelled = All-tail IsSpelled row rows g.spelled;
  may = All-tail (λ r. can_be_set r ≡ true) row rows g.may;
  short = All-tail HasShortCall row rows g.short;
}

module _ (now : ℕ) (fits : now < 2 ^ 64) where
  new-leads : (front : List Row) (row : Row) (rows : List Row) → AreGood (row ∷ rows) → length front + length (row ∷ rows) ≤ most_rows → Leads (row_line now row) front (front ++ row ∷ [])
  new-leads front row rows g few =
      row-leads now row front fits (All-head IsSpelled row rows g.spelled) (All-head (λ r. can_be_set r ≡ true) row rows g.may) (All-head HasShortCall row rows g.short) (omega (arith, few))

  one-more : (front : List Row) (row : Row) (rows : List Row) → length front + length (row ∷ rows) ≤ most_rows → length (front ++ row ∷ []) + length rows ≤ most_rows
  one-more front row rows few = omega (arith, few, length-append front (row ∷ []))

  -- behind others
  pub come : (front rows : List Row) → AreGood rows → length front + length rows ≤ most_rows → Leads (rows_text now rows) front (front ++ rows)
  come front [] g few = subst (Leads [] front) (sym (append-nil front)) (stays front)
  come front (row ∷ rows) g few =
      subst (Leads (row_line now row ++ rows_text now rows) front) (append_assoc front (row ∷ []) rows)
      (joined (row_line now row) (rows_text now rows) front (front ++ row ∷ []) ((front ++ row ∷ []) ++ rows)
      (new-leads front row rows g few)
      (come (front ++ row ∷ []) rows (good-tail row rows g) (one-more front row rows few)))

-- ---- states of runs

pub good-state : (s : State) → CanBeKept s → AreGood (set_rows s)
good-state s c = record {
  spelled = rows_are_spelled s c.reached;
  may = rows_can_be_set s c.reached.reached;
  short = kept_calls_are_short s c.reached;
}

pub distinct-state : (s : State) → CanBeKept s → Distinct (set_rows s)
distinct-state s c = distinct-from (set_rows s) (distinct-behind s.ledger.own (set_rows s) (ledgers_are_well_kept s c.reached.reached).distinct)

-- what leads from no rows to rows is read as them, whatever torn line is behind it
pub led : (text torn : List ℕ) (rows : List Row) → Leads text [] rows → HasNoFeed torn → length (text ++ torn) ≤ longest_input → read (text ++ torn) ≡ Ok rows
led text torn rows l none few =
    let first = l.reads 1 [] in
    short_reads (text ++ torn) few
    ∙ ap (λ (t : List ℕ). rows_from 1 (lines_of t) (Ok [])) (whole-ended text torn l.ended none ∙ sym (append-nil text))
    ∙ first.1
    ∙ empty_line first.0 rows

-- ---- all that is kept of a state

pub kept-leads : (s : State) → CanBeKept s → Leads (kept_text s) [] (set_rows s)
kept-leads s c =
    subst (λ (t : List ℕ). Leads t [] (set_rows s)) (sym (kept_lines s.clock (set_rows s)))
    (come s.clock c.clock [] (set_rows s) (good-state s c) (omega (arith, c.few)))

pub kept_text_is_read : KeptTextIsRead
unfolding longest_input
kept_text_is_read s r fits few =
    let c : CanBeKept s = record { reached = r; clock = fits; few = few } in
    let small : length (rows_text s.clock (set_rows s)) ≤ longest_input = omega (arith, few, lines_short s.clock fits (set_rows s) (kept_calls_are_short s r)) in
    ap read (sym (append-nil (kept_text s)))
    ∙ led (kept_text s) [] (set_rows s) (kept-leads s c) (All-nil (λ byte. (byte == 10) ≡ false))
    (omega (arith, small, ap length (append-nil (kept_text s)), ap length (kept_lines s.clock (set_rows s))))
