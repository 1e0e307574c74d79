-- A message that an event brings is answered as the page says, and leaves what the page of runs says.
use Rattle.std.proofs.Common.{◌≡◌, Bool, false, inl, inr, ℕ, Option, Some, None, List, ◌++◌, refl, sym, ap, subst, ◌∙◌, append-nil}
use Rattle.std.proofs.lemmas.Bool.{true≢false}
use Rattle.rb_xdr.specs.Xdr.{AreBytes}
use Rattle.rb_rpc.specs.declared.call.CallHead.{CallHead}
use Rattle.rb_address.specs.declared.caller.Caller.{Caller}
use Rattle.rb_stats.specs.Statistics.{Note}
use Rattle.rb_forward.specs.declared.types.Ended.{Ended}
use Rattle.rb_arguments.specs.declared.procedure.MappingProcedure.TheVariants as mappings
use Rattle.rb_arguments.specs.declared.procedure.RpcbProcedure.TheVariants as rpcbs
use Rattle.rb_arguments.specs.declared.request.Request.{Request}
use Rattle.rb_arguments.specs.declared.request.Request.TheVariants as requests
use Rattle.rb_answers.specs.declared.context.Context.{Context}
use Rattle.rb_answers.specs.Ledger.{Ledger, rows_in, with_call_noted}
use Rattle.rb_answers.specs.Answers.{answer, answer_to}
use Rattle.rb_answers.specs.Forwarding.{end_notes}
use Rattle.rb_rpc.specs.Feeds.{arguments_of}
use Rattle.rb_model.specs.declared.message.Message.{Message}
use Rattle.rb_model.specs.declared.message.Message.TheVariants as says
use Rattle.rb_model.specs.Calls.{Outcome, outcome, message_of}
use Rattle.rb_model.specs.ChangeLaws.{Brought, change_told, change_asked, change_where, is_told_true, brought_by, said_to, change_from}
use Rattle.rb_model.specs.HistoryLaws.{notes_of, notes_from, notes_by, call_ended_by, begins_anew, unless_anew}
use Rattle.rb_model.specs.State.{State, at_moment}
use Rattle.rb_model.specs.Step.{Event, context_in, serve, step, IsReached}
use Rattle.rb_laws.proofs.Grammar.{asked_messages, refused_messages, garbage_messages, no_calls}
use Rattle.rb_laws.proofs.LedgerSteps.{ledger_from}
use Rattle.rb_laws.proofs.Ledgers.{step-own}
use Rattle.rb_laws.proofs.Changes.{step-appends}
use Rattle.rb_laws.proofs.History.{events_are_noted}
use Rattle.rb_promises.specs.Sets.{IsSetRequest, SetsARow, AnswersSet, told}
use Rattle.rb_promises.specs.Unsets.{AreThePortmappers, IsUnsetRequest, RemovesARow, AnswersUnset}
use Rattle.rb_promises.specs.LookUps.{HasHosts}
use Rattle.rb_promises.specs.ReachedRows.{HaveKeysOfTheirOwn}
use Rattle.rb_promises.specs.Answers.{Answers}
use Rattle.rb_promises.specs.Accounts.{KeepsRows, LeavesRows, Leaves, Says, IsAnswered}
use Rattle.rb_promises.specs.Accounts.LeavesRows.{Adds, Removes, Neither}
use Rattle.rb_promises.proofs.AcceptedSets.{value_in, sets_are_accepted_exactly}
use Rattle.rb_promises.proofs.AcceptedUnsets.{unsets_are_accepted_exactly}
use Rattle.rb_promises.proofs.AnswersSaid.{messages_are_answered_as_said}
use Rattle.rb_promises.proofs.KeptWell.{rows_are_well_kept}
use Rattle.rb_promises.proofs.Versions.{counted_so}

-- ---- what a call leaves

module _ (context : Context) (head : CallHead) (arguments : List ℕ) (l : Ledger) (own : AreThePortmappers l.own) where
  abbrev left_of : Request → Ledger
  left_of request = (answer_to context head request arguments l).1

  same_rows : (new : Ledger) → new ≡ l → KeepsRows l new
  same_rows new is = record { own = ap (λ (x : Ledger). x.own) is; changes = ap (λ (x : Ledger). x.changes) is }

  by_set : (request : Request) → IsSetRequest request → (RemovesARow context head request l → ⊥) → LeavesRows context head request l (left_of request)
  by_set request set no_unset =
      let a : AnswersSet context head request arguments l = sets_are_accepted_exactly context head request arguments l set in
      elim a.one_of [
        | inl is_true ↦
            let s : SetsARow context head request l = a.exactly.0 is_true in
            Adds s.row s.asked s.accepted (a.adds is_true s.row s.asked)
        | inr is_false ↦ Neither (λ s. absurd (told_apart a is_false s)) no_unset (same_rows (left_of request) (a.keeps is_false))
      ]
    where
      told_apart : (a : AnswersSet context head request arguments l) → (answer_to context head request arguments l).0 ≡ told false → SetsARow context head request l → ⊥
      told_apart a is_false s = true≢false (sym (ap value_in (a.exactly.1 s)) ∙ ap value_in is_false)

  by_unset : (request : Request) → IsUnsetRequest request → (SetsARow context head request l → ⊥) → LeavesRows context head request l (left_of request)
  by_unset request unset no_set =
      let a : AnswersUnset context head request arguments l = unsets_are_accepted_exactly context head request arguments l unset in
      elim a.one_of [
        | inl is_true ↦ Removes (a.exactly.0 is_true) (a.removes is_true own)
        | inr is_false ↦ Neither no_set (λ r. absurd (told_apart a is_false r)) (same_rows (left_of request) (a.keeps is_false))
      ]
    where
      told_apart : (a : AnswersUnset context head request arguments l) → (answer_to context head request arguments l).0 ≡ told false → RemovesARow context head request l → ⊥
      told_apart a is_false r = true≢false (sym (ap value_in (a.exactly.1 r)) ∙ ap value_in is_false)

  -- neither a SET nor an UNSET
  by_other : (request : Request) → (SetsARow context head request l → ⊥) → (RemovesARow context head request l → ⊥) → KeepsRows l (left_of request)
      → LeavesRows context head request l (left_of request)
  by_other request no_set no_unset keeps = Neither no_set no_unset keeps

  pub rows_left : (request : Request) (b : Bool) → (left_of request).own ≡ l.own
      → (left_of request).changes ≡ l.changes ++ change_where b (change_asked context.caller head request)
      → LeavesRows context head request l (left_of request)
  rows_left (requests.Mapping mappings.Set m) b same appends = by_set (requests.Mapping mappings.Set m) tt (λ r. r.covered.named)
  rows_left (requests.Rpcb rpcbs.Set r) b same appends = by_set (requests.Rpcb rpcbs.Set r) tt (λ x. x.covered.named)
  rows_left (requests.Mapping mappings.Unset m) b same appends = by_unset (requests.Mapping mappings.Unset m) tt (λ s. s.asked.asked)
  rows_left (requests.Rpcb rpcbs.Unset r) b same appends = by_unset (requests.Rpcb rpcbs.Unset r) tt (λ s. s.asked.asked)
  rows_left (requests.Mapping mappings.Getport m) b same appends =
      by_other (requests.Mapping mappings.Getport m) (λ s. s.asked.asked) (λ x. x.covered.named) (record { own = same; changes = appends ∙ append-nil l.changes })
  rows_left (requests.Rpcb rpcbs.Getaddr r) b same appends =
      by_other (requests.Rpcb rpcbs.Getaddr r) (λ s. s.asked.asked) (λ x. x.covered.named) (record { own = same; changes = appends ∙ append-nil l.changes })
  rows_left (requests.Rpcb rpcbs.Getversaddr r) b same appends =
      by_other (requests.Rpcb rpcbs.Getversaddr r) (λ s. s.asked.asked) (λ x. x.covered.named) (record { own = same; changes = appends ∙ append-nil l.changes })
  rows_left (requests.Rpcb rpcbs.Getaddrlist r) b same appends =
      by_other (requests.Rpcb rpcbs.Getaddrlist r) (λ s. s.asked.asked) (λ x. x.covered.named) (record { own = same; changes = appends ∙ append-nil l.changes })
  rows_left (requests.Void procedure) b same appends =
      by_other (requests.Void procedure) (λ s. s.asked.asked) (λ x. x.covered.named) (record { own = same; changes = appends ∙ append-nil l.changes })
  rows_left (requests.Uaddr2taddr text) b same appends =
      by_other (requests.Uaddr2taddr text) (λ s. s.asked.asked) (λ x. x.covered.named) (record { own = same; changes = appends ∙ append-nil l.changes })
  rows_left (requests.Taddr2uaddr netbuf) b same appends =
      by_other (requests.Taddr2uaddr netbuf) (λ s. s.asked.asked) (λ x. x.covered.named) (record { own = same; changes = appends ∙ append-nil l.changes })
  rows_left (requests.Forward kind remote) b same appends =
      by_other (requests.Forward kind remote) (λ s. s.asked.asked) (λ x. x.covered.named) (record { own = same; changes = appends ∙ append-nil l.changes })

pub message_leaves : (context : Context) (message : Message) (arguments : List ℕ) (l : Ledger) → AreThePortmappers l.own
    → (outcome context message arguments l).1.own ≡ l.own
    → (outcome context message arguments l).1.changes ≡ l.changes ++ change_told context.caller (outcome context message arguments l).0 message
    → Leaves context message l (outcome context message arguments l).1
unfolding outcome answer with_call_noted
message_leaves context says.NoCall arguments l own same appends = record { own = refl; changes = refl }
message_leaves context (says.Refused head) arguments l own same appends = record { own = refl; changes = refl }
message_leaves context (says.Garbage head) arguments l own same appends = record { own = refl; changes = refl }
message_leaves context (says.Asked call) arguments l own same appends = (
  with_call_noted call.head l,
  counted_so call.head l,
  rows_left context call.head arguments (with_call_noted call.head l) own call.request
      (is_told_true call.head.xid (outcome context (says.Asked call) arguments l).0) same appends,
)

-- ---- what a message says

pub says_so : (content : List ℕ) → AreBytes content → (message : Message) → message_of content ≡ message → Says content message
says_so content are says.NoCall is = (no_calls content are).0 is
says_so content are (says.Refused head) is = (refused_messages content are head.xid head.status).0 is
says_so content are (says.Garbage head) is = (garbage_messages content are head).0 is
says_so content are (says.Asked call) is = (asked_messages content are call).0 is

-- ---- the message of an event

served_said : (s : State) → HaveKeysOfTheirOwn (rows_in s.ledger) → (caller : Caller) (content : List ℕ) → HasHosts (context_in s caller) → AreBytes content
    → Answers (context_in s caller) s.ledger content (serve s caller content).0
unfolding serve
served_said s keys caller content hosts bytes = (messages_are_answered_as_said (context_in s caller) s.ledger hosts keys content bytes (serve s caller content).0).0 refl

module _ (s : State) (reached : IsReached s) (event : Event) (m : Brought) (brings : brought_by s event ≡ Some m)
    (left : (step s event).1.ledger ≡ ledger_from s (Some m)) (plain : call_ended_by s event ≡ None) (goes_on : begins_anew event ≡ false) where
  abbrev context : Context
  context = context_in (at_moment m.now s) m.caller

  abbrev given : Outcome
  given = said_to s m

  same : (ledger_from s (Some m)).own ≡ s.ledger.own
  same = ap (λ (l : Ledger). l.own) (sym left) ∙ step-own s event

  appends : (ledger_from s (Some m)).changes
      ≡ s.ledger.changes ++ change_told m.caller (outcome context (message_of m.content) (arguments_of m.content) s.ledger).0 (message_of m.content)
  unfolding serve
  appends =
      ap (λ (l : Ledger). l.changes) (sym left) ∙ step-appends s event
      ∙ ap (λ (o : Option Brought). s.ledger.changes ++ change_from s o) brings

  noted : (step s event).1.ledger.history ≡ s.ledger.history ++ notes_of context (message_of m.content) given (rows_in s.ledger)
  noted =
      events_are_noted s event
      ∙ ap (λ (b : Bool). unless_anew b s.ledger.history ++ notes_by s event) goes_on
      ∙ ap (λ (o : Option Brought). s.ledger.history ++ (notes_from s o ++ end_notes (call_ended_by s event))) brings
      ∙ ap (λ (o : Option Ended). s.ledger.history ++ (notes_from s (Some m) ++ end_notes o)) plain
      ∙ ap (λ (notes : List Note). s.ledger.history ++ notes) (append-nil (notes_from s (Some m)))

  pub message_answered : IsAnswered context m.content given s.ledger (step s event).1.ledger
  message_answered = record {
    as_said = served_said (at_moment m.now s) (rows_are_well_kept s reached).keys m.caller m.content;
    message = message_of m.content;
    is_said = λ are. says_so m.content are (message_of m.content) refl;
    leaves = subst (λ (l : Ledger). Leaves context (message_of m.content) s.ledger l) (sym left)
        (message_leaves context (message_of m.content) (arguments_of m.content) s.ledger (rows_are_well_kept s reached).own same appends);
    history = noted;
  }
