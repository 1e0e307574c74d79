-- What the code answers a message with, as the model says it: a reply that is written, or a list that is given in fragments.
use Rattle.std.specs.Prelude.{◌≡◌, ◌<◌, ℕ, Bool, List, [], length, Some, None}
use Rattle.rb_registry.specs.Registry.{Registry, rows_of}
use Rattle.rb_answers.specs.declared.answers.Listing.{Listing}
use Rattle.rb_answers.specs.ListParts.{list_reply}
use Rattle.rb_model.specs.Calls.{Outcome, Outcome as said, is_no_call}
use Rattle.rb_model.specs.declared.served.Served.{Served}
use Rattle.rb_model.specs.declared.served.Served.TheVariants.{Answered, Listed}
use Rattle.rb_model.specs.declared.served.Response.{Response as Written}
use Rattle.rb_model.specs.declared.served.Response.TheVariants as outcomes

-- the outcome of the model for this outcome of the code, with the reply that it wrote
abbrev pub outcome_with : Written → List ℕ → Outcome
outcome_with outcomes.NoCall reply = said.NoCall
outcome_with outcomes.Reply reply = said.Reply reply None
outcome_with outcomes.Forwarded reply = said.Forwarded
outcome_with outcomes.Silent reply = said.Silent

-- a list under this xid of the rows that are live now
abbrev pub listing_outcome : Registry → ℕ → Listing → Outcome
listing_outcome registry xid listing = said.Reply (list_reply xid (rows_of registry) listing) (Some registry.stamp)

-- The outcome of the model for what the code answers a message with: `reply` is what it wrote, and lists are made from
-- the rows of this registry.
abbrev pub served_in : Registry → Served → List ℕ → Outcome
served_in registry (Answered given) reply = outcome_with given reply
served_in registry (Listed xid listing) reply = listing_outcome registry xid listing

abbrev pub is_lost_by : Registry → Served → List ℕ → Bool
is_lost_by registry served reply = is_no_call (served_in registry served reply)

abbrev pub kind_in : Served → Written
kind_in (Answered given) = given
kind_in (Listed xid listing) = outcomes.Reply

-- If the answer is a reply that is no streamed list, some bytes are written, and else none.
abbrev pub IsWritten : Served → List ℕ → Type 0
IsWritten (Answered outcomes.Reply) reply = 0 < length reply
IsWritten (Answered outcomes.NoCall) reply = reply ≡ []
IsWritten (Answered outcomes.Forwarded) reply = reply ≡ []
IsWritten (Answered outcomes.Silent) reply = reply ≡ []
IsWritten (Listed xid listing) reply = reply ≡ []
