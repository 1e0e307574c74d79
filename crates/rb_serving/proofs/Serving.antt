-- What a call leaves behind, from what its parts do to the books.
use Rattle.std.proofs.Common.{◌≡◌, ◌≤◌, List, ℕ, [], ◌++◌, length, Some, None, refl, sym, ap, ◌∙◌, arith, append-nil}
use Rattle.std.proofs.lemmas.Bool.{cond-false, le-ltb}
use Rattle.rb_xdr.specs.Xdr.{number, opaque}
use Rattle.rb_rpc.specs.declared.call.CallHead.{CallHead}
use Rattle.rb_address.specs.declared.caller.Caller.{Caller}
use Rattle.rb_address.specs.declared.caller.Caller.TheVariants.{Tcp, Udp}
use Rattle.rb_rpc.specs.declared.reply.ReplyStatus.TheVariants.{Success}
use Rattle.rb_rpc.specs.Replies.{reply_head}
use Rattle.rb_registry.specs.declared.row.Row.{Row}
use Rattle.rb_registry.specs.Registry.{rows_of}
use Rattle.rb_answers.specs.declared.answers.Answer.{Answer}
use Rattle.rb_answers.specs.declared.answers.Answer.TheVariants as answers
use Rattle.rb_proto.specs.Books.{ActsAs}
use Rattle.rb_proto.specs.declared.books.Books.{Books}
use Rattle.rb_answers.specs.declared.call.Call.{Call}
use Rattle.rb_answers.specs.declared.context.Context.{Context}
use Rattle.rb_answers.specs.Ledger.{Ledger, with_call_noted, rows_in}
use Rattle.rb_proto.specs.Ledger.{StandsForLedger}
use Rattle.rb_answers.specs.Answers.{answer}
use Rattle.rb_answers.specs.declared.answers.Value.TheVariants as values
use Rattle.rb_arguments.specs.declared.procedure.VoidProcedure.TheVariants as voids
use Rattle.rb_arguments.specs.declared.request.Request.TheVariants as requests
use Rattle.rb_answers.specs.Results.{Shown, result_bytes, shown_of}
use Rattle.rb_answers.specs.declared.answers.Listing.{Listing}
use Rattle.rb_answers.specs.declared.answers.Results.{Results}
use Rattle.rb_answers.specs.declared.answers.Results.TheVariants as results
use Rattle.rb_answers.specs.ListParts.{list_reply}
use Rattle.rb_model.specs.declared.message.Message.TheVariants as says
use Rattle.rb_model.specs.Calls.{Outcome, answer_outcome, results_outcome, reply_with, outcome, fitting_reply, success, longest_reply, longest_for}
use Rattle.rb_model.specs.Calls.Outcome.{Reply}
use Rattle.rb_model.specs.declared.served.Served.TheVariants.{Listed}
use Rattle.rb_model.specs.Served.{listing_outcome}
use Rattle.rb_model.proofs.ReplyHeads.{short_head}
use Rattle.rb_serving.specs.Serving.{IsStreamedTo, list_streamed}
use Rattle.rb_serving.specs.Messages.{null_message}

-- the books stand for the ledger in which the call is noted, with the registry as it was
pub record Notes (head : CallHead) (old new : Books) : Type 0 where
  pub stands : (l : Ledger) → StandsForLedger old l → StandsForLedger new (with_call_noted head l)
  pub registry : new.registry ≡ old.registry

module _ (context : Context) (call : Call) (arguments : List ℕ) (old mid new : Books) (given : Answer) (said : Outcome) (notes : Notes call.head old mid) (acts : ActsAs (answer context call arguments) mid new given) where
  replied : ((l : Ledger) → StandsForLedger new l → said ≡ answer_outcome context.caller (length l.changes) call.head.xid (result_bytes (shown_of l)) given)
      → (p : Answer × Ledger) → given ≡ p.0 → StandsForLedger new p.1 → said ≡ (reply_with context call.head.xid p).0
  replied told (a, l) e s = told l s ∙ ap (answer_outcome context.caller (length l.changes) call.head.xid (result_bytes (shown_of l))) e

  left : (p : Answer × Ledger) → (reply_with context call.head.xid p).1 ≡ p.1
  left (a, l) = refl

  pub asked_acts : ((l : Ledger) → StandsForLedger new l → said ≡ answer_outcome context.caller (length l.changes) call.head.xid (result_bytes (shown_of l)) given)
      → ActsAs (outcome context (says.Asked call) arguments) old new said
  unfolding outcome with_call_noted
  asked_acts told = record {
    gives = λ l h. let k = notes.stands l h in replied told (answer context call arguments (with_call_noted call.head l)) (acts.gives _ k) (acts.stands _ k);
    stands = λ l h. rw (left (answer context call arguments (with_call_noted call.head l))) (acts.stands _ (notes.stands l h));
    kept = λ l h e. acts.kept (with_call_noted call.head l) (notes.stands l h) (ap (λ (x : Ledger). x.changes) (sym (left (answer context call arguments (with_call_noted call.head l)))) ∙ e) ∙ notes.registry;
  }

-- ---- NULL

abbrev null_answer : Answer
null_answer = answers.Results (results.Value values.Void)

null_acts : (context : Context) (head : CallHead) (arguments : List ℕ) (books : Books) → ActsAs (answer context (record { head = head; request = requests.Void voids.Null }) arguments) books books null_answer
unfolding answer
null_acts context head arguments books = record { gives = λ l h. refl; stands = λ l h. h; kept = λ l h e. refl }

-- there is room for a head in a reply to each caller
head_fits : (caller : Caller) (xid : ℕ) → length (reply_head xid Success) ≤ longest_for caller
unfolding longest_reply reply_head number opaque
head_fits (Tcp id who) xid = grind arith
head_fits (Udp who longest) xid = grind arith

null_fits : (caller : Caller) (xid : ℕ) → success caller xid [] ≡ reply_head xid Success
unfolding fitting_reply
null_fits caller xid =
    let same : reply_head xid Success ++ [] ≡ reply_head xid Success = append-nil (reply_head xid Success) in
    rw same (cond-false _ _ _ (le-ltb (longest_for caller) (length (reply_head xid Success)) (head_fits caller xid)))

null_told : (caller : Caller) (count xid : ℕ) (shown : Shown) → Reply (reply_head xid Success) None ≡ answer_outcome caller count xid (result_bytes shown) null_answer
unfolding result_bytes
null_told (Udp who longest) count xid shown = ap (λ (xs : List ℕ). Reply xs None) (sym (null_fits (Udp who longest) xid))
null_told (Tcp id who) count xid shown = ap (λ (xs : List ℕ). Reply xs None) (sym (null_fits (Tcp id who) xid))

-- A call of NULL is noted, and its reply is a head.
pub null_served : (context : Context) (head : CallHead) (arguments : List ℕ) (old new : Books) → Notes head old new → ActsAs (outcome context (null_message head) arguments) old new (Reply (reply_head head.xid Success) None)
null_served context head arguments old new notes =
    asked_acts context (record { head = head; request = requests.Void voids.Null }) arguments old new new null_answer (Reply (reply_head head.xid Success) None) notes (null_acts context head arguments new)
    (λ l h. null_told context.caller (length l.changes) head.xid (shown_of l))

-- ---- entries of forwarded calls

-- ---- lists

pub listed : (caller : Caller) (given : Results) (xid : ℕ) (books : Books) (listing : Listing) (l : Ledger) → Some listing ≡ list_streamed caller given → StandsForLedger books l
    → listing_outcome books.registry xid listing ≡ results_outcome caller (length l.changes) xid (result_bytes (shown_of l) given) given
unfolding result_bytes
listed (Udp who longest) given xid books listing l e h = absurd cc
listed (Tcp id who) (results.Rows rows) xid books listing l e h =
    let same : listing ≡ rows = cc in
    let live : list_reply xid (rows_of books.registry) listing ≡ list_reply xid (rows_in l) listing = ap (λ (rows : List Row). list_reply xid rows listing) h.registry.rows in
    rw (live, h.registry.stamp, same) refl
listed (Tcp id who) (results.Value value) xid books listing l e h = absurd cc
listed (Tcp id who) results.Statistics xid books listing l e h = absurd cc

pub streamed_to : (caller : Caller) (given : Results) (xid : ℕ) (listing : Listing) → Some listing ≡ list_streamed caller given → IsStreamedTo caller (Listed xid listing)
streamed_to (Udp who longest) given xid listing e = absurd cc
streamed_to (Tcp id who) given xid listing e = tt
