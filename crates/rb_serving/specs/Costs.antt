-- What serving a message costs at most, by what is kept.
use Rattle.std.specs.Prelude.{ℕ, Bool, true, false, IsTrue, List, length}
use Rattle.rb_xdr.specs.Kept.{Kept}
use Rattle.rb_xdr.specs.Meter.{Meter, PaysAtMost}
use Rattle.rb_xdr.specs.Ordered.{looks}
use Rattle.rb_registry.specs.Registry.{slots_of}
use Rattle.rb_answers.specs.declared.answers.Answer.{Answer}
use Rattle.rb_proto.specs.declared.books.Books.{Books}
use Rattle.rb_answers.specs.declared.context.Context.{Context}
use Rattle.rb_answers.specs.Answers.{comes_from_here}
use Rattle.rb_answers.specs.Walks.{shows_rows}
use Rattle.rb_model.specs.declared.message.Message.{Message}
use Rattle.rb_model.specs.declared.served.Served.{Served}
use Rattle.rb_model.specs.declared.served.Served.TheVariants.{Answered, Listed}
use Rattle.rb_model.specs.Costs.{Sizes, change_cost, walked, sizes_for, asks_for_list, results_cost, serve_cost}

-- how many rows the books keep
abbrev pub row_count_of : Books → ℕ
row_count_of books = length (slots_of books.registry)

-- what the costs of serving a message depend on, with this many connections; `old` and `new` are the books before and
-- after it
abbrev pub sizes_over : ℕ → Books → Books → Sizes
sizes_over connections old new = record {
  connections = connections;
  looks = looks old.registry.limit;
  forwards = old.forwards.cap;
  lists = connections;
  rows = row_count_of old;
  left = row_count_of new;
  change = change_cost (looks old.registry.limit) (row_count_of old);
}

-- to put results into this buffer; rows of the books are among them, or not
abbrev pub PaysForResults : Bool → Books → Kept → Meter → Meter → Type 0
PaysForResults rows books out before now =
    PaysAtMost before now (results_cost (walked rows (row_count_of books)) (length out.bytes))

-- to serve a message with these arguments in a context, whose reply is in this buffer
abbrev pub PaysToServe : Context → Message → Books → Books → List ℕ → Kept → Meter → Meter → Type 0
PaysToServe context message old new args out before now =
    PaysAtMost before now
    (serve_cost (sizes_for (comes_from_here context) message (sizes_over 0 old new)) (length args) (length out.bytes))

-- ---- lists

-- a list must be given
abbrev pub is_listed : Served → Bool
is_listed (Answered given) = false
is_listed (Listed xid listing) = true

-- rows are shown if they must be listed
abbrev pub ListsAnswer : Answer → Served → Type 0
ListsAnswer answer served = IsTrue (is_listed served) → IsTrue (shows_rows answer)

-- a list is given to a message that asks for one alone
abbrev pub ListsIfAsked : Message → Served → Type 0
ListsIfAsked message served = IsTrue (is_listed served) → IsTrue (asks_for_list message)
