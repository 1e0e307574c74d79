-- What the code answers a message with: a reply that is written, or a list that is streamed; and what it needs and leaves.
use Rattle.std.specs.Prelude.{◌≡◌, ◌≤◌, ⊤, ℕ, List, [], length, Option, Some, None}
use Rattle.rb_xdr.specs.Kept.{Kept}
use Rattle.rb_rpc.specs.declared.call.CallHead.{CallHead}
use Rattle.rb_address.specs.declared.caller.Caller.{Caller}
use Rattle.rb_address.specs.declared.caller.Caller.TheVariants.{Tcp, Udp}
use Rattle.rb_forward.specs.StandsFor.{Table as Entries, slots_of}
use Rattle.rb_forward.specs.Table.{IsNew}
use Rattle.rb_forward.specs.declared.types.Forward.{Forward}
use Rattle.rb_answers.specs.declared.answers.Listing.{Listing}
use Rattle.rb_answers.specs.declared.answers.Results.{Results}
use Rattle.rb_answers.specs.declared.answers.Results.TheVariants as results
use Rattle.rb_answers.specs.declared.answers.Answer.{Answer}
use Rattle.rb_answers.specs.declared.answers.Answer.TheVariants as answers
use Rattle.rb_proto.specs.declared.books.Books.{Books}
use Rattle.rb_answers.specs.declared.context.Context.{Context}
use Rattle.rb_answers.specs.Forwarding.{forwarded_bytes}
use Rattle.rb_answers.specs.Ledger.{Ledger}
use Rattle.rb_proto.specs.Ledger.{StandsForLedger}
use Rattle.rb_proto.specs.Books.{ActsAs, AreTied, HasRowRoom, OnlyCallerWaits, SameFrame}
use Rattle.rb_answers.specs.Results.{shown_of, result_bytes}
use Rattle.rb_model.specs.Calls.{Outcome, answer_outcome, outcome, success, longest_reply}
use Rattle.rb_model.specs.declared.message.Message.{Message}
use Rattle.rb_model.specs.declared.message.Message.TheVariants as says
use Rattle.rb_model.specs.declared.served.Served.{Served}
use Rattle.rb_model.specs.declared.served.Served.TheVariants.{Answered, Listed}
use Rattle.rb_model.specs.declared.served.Response.{Response as Written}
use Rattle.rb_model.specs.declared.served.Response.TheVariants as outcomes
use Rattle.rb_model.specs.Served.{outcome_with, IsWritten, kind_in, served_in}
use Rattle.rb_serving.specs.Messages.{null_message}

-- the outcome of the model for this outcome of the code, with the reply in this buffer
abbrev pub outcome_in : Written → Kept → Outcome
outcome_in given kept = outcome_with given kept.bytes

-- ---- what is answered

-- For each ledger that the books stand for, what is served is the outcome of the answer.
abbrev pub TellsAnswer : Books → Caller → ℕ → Answer → Served → List ℕ → Type 0
TellsAnswer books caller xid given served reply =
    (l : Ledger) → StandsForLedger books l
    → served_in books.registry served reply ≡ answer_outcome caller (length l.changes) xid (result_bytes (shown_of l)) given

-- A message is served as the model's `outcome` says, where `out` is the buffer with its reply.
abbrev pub ServesMessage : Context → Message → List ℕ → Books → Books → Served → Kept → Type 0
ServesMessage context message arguments old new served out =
    ActsAs (outcome context message arguments) old new (served_in new.registry served out.bytes)

-- A call of NULL with this head is served so in every context.
abbrev pub ServesNull : CallHead → Books → Books → Served → Kept → Type 0
ServesNull head old new served out =
    (context : Context) (arguments : List ℕ) → ServesMessage context (null_message head) arguments old new served out

-- the reply of a forwarded call whose target gave these results
abbrev pub passed_reply : Forward → List ℕ → List ℕ
passed_reply forward results = success forward.caller forward.xid (forwarded_bytes forward results)

-- the outcome of the code for an answer
abbrev pub kind_of : Answer → Written
kind_of (answers.Results results) = outcomes.Reply
kind_of (answers.Refused status) = outcomes.Reply
kind_of answers.Forwarded = outcomes.Forwarded
kind_of answers.Silent = outcomes.Silent

abbrev pub IsNoListIn : Served → Type 0
IsNoListIn (Answered given) = ⊤
IsNoListIn (Listed xid listing) = ⊥

-- a list is streamed on a connection alone
abbrev pub IsStreamedTo : Caller → Served → Type 0
IsStreamedTo (Tcp id who) served = ⊤
IsStreamedTo (Udp who longest) served = IsNoListIn served

-- ---- the buffer of a reply, and what stays

-- An empty buffer with room for a reply, counted by this meter.
pub record IsEmptyReply (tie : ℕ) (out : Kept) : Type 0 where
  pub tie_is : out.tie ≡ tie
  pub empty : out.bytes ≡ []
  pub room : longest_reply ≤ out.cap

-- A reply was written into a buffer, or nothing.
pub record WritesReply (before after : Kept) : Type 0 where
  pub cap : after.cap ≡ before.cap
  pub tie : after.tie ≡ before.tie
  pub short : length after.bytes ≤ longest_reply

-- A message can be served from these books in this context.
pub record CanServe (tie : ℕ) (context : Context) (books : Books) : Type 0 where
  pub tied : AreTied tie books
  pub limit : books.registry.limit ≡ context.limit
  pub forwards : books.forwards.cap ≡ context.forwards
  pub caller : IsNew context.caller (slots_of books.forwards)

-- if the message is a SET that is accepted, its row has a place beside the live and the retained rows
abbrev pub HasRoom : Context → Message → Books → Type 0
HasRoom context (says.Asked call) books = HasRowRoom context call books.registry
HasRoom context says.NoCall books = ⊤
HasRoom context (says.Refused head) books = ⊤
HasRoom context (says.Garbage head) books = ⊤

-- the forwarded calls stay as they were, unless the outcome is that one more is forwarded
abbrev pub StayUnlessForwarded : Written → Entries → Entries → Type 0
StayUnlessForwarded outcomes.NoCall old new = new ≡ old
StayUnlessForwarded outcomes.Reply old new = new ≡ old
StayUnlessForwarded outcomes.Forwarded old new = ⊤
StayUnlessForwarded outcomes.Silent old new = new ≡ old

-- What is written by serving it, and what stays of the books: no forwarded call is new but one of the caller's own.
pub record LeavesBooks (context : Context) (old new : Books) (served : Served) (before after : Kept) : Type 0 where
  pub list : IsStreamedTo context.caller served
  pub written : IsWritten served after.bytes
  pub reply : WritesReply before after
  pub quiet : StayUnlessForwarded (kind_in served) old.forwards new.forwards
  pub waiting : OnlyCallerWaits context.caller old new
  pub frame : SameFrame old new

-- the list that is streamed to a caller, if the results are one
abbrev pub list_streamed : Caller → Results → Option Listing
list_streamed (Udp who longest) given = None
list_streamed (Tcp id who) (results.Rows listing) = Some listing
list_streamed (Tcp id who) (results.Value value) = None
list_streamed (Tcp id who) results.Statistics = None
