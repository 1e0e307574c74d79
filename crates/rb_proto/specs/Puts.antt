-- What answering and putting results costs.
use Rattle.std.specs.Prelude.{ℕ, ◌+◌, ◌-◌, ◌*◌, Bool, if◌then◌else◌, List, length, Option, Some, None}
use Rattle.rb_xdr.specs.Kept.{Kept}
use Rattle.rb_xdr.specs.Meter.{Meter, PaysAtMost}
use Rattle.rb_xdr.specs.Ordered.{looks}
use Rattle.rb_registry.specs.declared.row.Which.{Which}
use Rattle.rb_registry.specs.declared.row.Which.TheVariants.{Inet}
use Rattle.rb_registry.specs.Registry.{Registry, slots_of}
use Rattle.rb_registry.specs.Costs.{set_cost, unset_cost}
use Rattle.rb_forward.specs.Costs.{end_cost, unsent_cost}
use Rattle.rb_arguments.specs.declared.procedure.MappingProcedure.TheVariants as mappings
use Rattle.rb_arguments.specs.declared.procedure.RpcbProcedure.TheVariants as rpcbs
use Rattle.rb_arguments.specs.declared.request.Request.{Request}
use Rattle.rb_arguments.specs.declared.request.Request.TheVariants as requests
use Rattle.rb_answers.specs.declared.answers.Results.{Results}
use Rattle.rb_answers.specs.declared.answers.Results.TheVariants as results
use Rattle.rb_proto.specs.declared.books.Books.{Books}
use Rattle.rb_answers.specs.declared.call.Call.{Call}
use Rattle.rb_answers.specs.declared.context.Context.{Context}
use Rattle.rb_answers.specs.Answers.{comes_from_here}
use Rattle.rb_answers.specs.Netids.{which_of}
use Rattle.rb_answers.specs.Costs.{note_cost, forward_cost, statistics_cost}

-- one step for the length, and one for each byte that was put
abbrev pub put_cost : Kept → Kept → ℕ
put_cost old new = 1 + (length new.bytes - length old.bytes)

-- two walks over the rows beside it
abbrev pub list_cost : Registry → Kept → Kept → ℕ
list_cost kept old new = 4 * length (slots_of kept) + 4 + put_cost old new

-- two searches for a row, and what notes the look-up
abbrev pub lookup_cost : Books → ℕ
lookup_cost books = 2 * looks books.registry.limit + 3 + note_cost

-- the removal of rows on these netids, if they are known
abbrev pub removal_cost : Registry → Option Which → ℕ
removal_cost kept None = 0
removal_cost kept (Some which) = unset_cost kept which

-- a search for the row, a new entry for this many bytes of arguments, and what notes that there is none
abbrev pub forwarding_cost : Books → ℕ → ℕ
forwarding_cost books args = looks books.registry.limit + 3 + note_cost + forward_cost args

-- what a SET or an UNSET costs its caller
-- REGISTER-3: A SET or an UNSET of a caller that may not register is refused before anything is
-- looked up.
abbrev pub registering_cost : Bool → ℕ → ℕ
registering_cost may cost = if may then cost else 0

-- to do what a call of a caller asks for that may register or not, with this many bytes of arguments; the rows of a list are
-- walked when it is put
abbrev pub request_cost : Bool → Books → Request → ℕ → ℕ
request_cost may books (requests.Void procedure) args = 0
request_cost may books (requests.Mapping mappings.Set m) args = registering_cost may (set_cost books.registry + 1)
request_cost may books (requests.Mapping mappings.Unset m) args = registering_cost may (unset_cost books.registry Inet)
request_cost may books (requests.Mapping mappings.Getport m) args = lookup_cost books
request_cost may books (requests.Rpcb rpcbs.Set r) args = registering_cost may (set_cost books.registry + 1)
request_cost may books (requests.Rpcb rpcbs.Unset r) args = registering_cost may (removal_cost books.registry (which_of r.netid))
request_cost may books (requests.Rpcb rpcbs.Getaddr r) args = lookup_cost books
request_cost may books (requests.Rpcb rpcbs.Getversaddr r) args = lookup_cost books
request_cost may books (requests.Rpcb rpcbs.Getaddrlist r) args = 0
request_cost may books (requests.Uaddr2taddr text) args = 0
request_cost may books (requests.Taddr2uaddr netbuf) args = 0
request_cost may books (requests.Forward kind remote) args = forwarding_cost books args

abbrev pub cost_of : Context → Books → Call → ℕ → ℕ
cost_of context books call args = request_cost (comes_from_here context) books call.request args

-- what a call asks for is done, and paid for
abbrev pub PaysForCall : Context → Books → Call → List ℕ → Meter → Meter → Type 0
PaysForCall context books call arguments before now = PaysAtMost before now (cost_of context books call (length arguments))

-- A SET or an UNSET in this context pays that at most, and nothing if its caller may not register.
abbrev pub PaysToRegister : Context → ℕ → Meter → Meter → Type 0
PaysToRegister context most before now = PaysAtMost before now (registering_cost (comes_from_here context) most)

-- So does an UNSET of these rows in this context.
abbrev pub PaysToUnset : Context → Registry → Option Which → Meter → Meter → Type 0
PaysToUnset context kept which before now = PaysToRegister context (removal_cost kept which) before now

-- a search for a row, and one step for the number of the live ones
abbrev pub room_cost : Books → ℕ
room_cost books = looks books.registry.limit + 2

-- an unsent entry is looked for, and this many bytes of its call are lent
abbrev pub lending_cost : Books → ℕ → ℕ
lending_cost books count = unsent_cost books.forwards.cap count

-- an entry is looked for and ends, and that is noted
abbrev pub ending_cost : Books → ℕ
ending_cost books = end_cost books.forwards.cap + 2 + note_cost

-- to show results of the books: a list walks the rows, and statistics their keys
abbrev pub results_cost : Books → Results → Kept → Kept → ℕ
results_cost books (results.Value value) old new = put_cost old new
results_cost books (results.Rows list) old new = list_cost books.registry old new
results_cost books results.Statistics old new = statistics_cost + 3 + put_cost old new
