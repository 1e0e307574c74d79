-- What serving a message costs, by what it asks for.
use Rattle.std.specs.Prelude.{IsTrue, ◌&&◌, Option, Some, None}
use Rattle.std.proofs.Common.{◌≡◌, ◌≤◌, ℕ, ◌+◌, ◌*◌, Bool, true, false, List, length, refl, ap, ◌∙◌, arith}
use Rattle.std.proofs.lemmas.Bool.{and_parts}
use Rattle.rb_xdr.specs.Kept.{Kept}
use Rattle.rb_xdr.specs.Meter.{Meter, PaysAtMost}
use Rattle.rb_xdr.specs.Ordered.{looks}
use Rattle.rb_registry.specs.declared.row.Row.{Row}
use Rattle.rb_registry.specs.declared.row.Which.{Which}
use Rattle.rb_registry.specs.declared.row.Which.TheVariants.{All, Inet, One}
use Rattle.rb_registry.specs.Registry.{Registry, slots_of}
use Rattle.rb_registry.specs.Costs.{set_cost, unset_cost}
use Rattle.rb_registry.proofs.Tables.{live_within}
use Rattle.rb_arguments.specs.declared.procedure.MappingProcedure.TheVariants as mappings
use Rattle.rb_arguments.specs.declared.procedure.RpcbProcedure.TheVariants as rpcbs
use Rattle.rb_arguments.specs.declared.request.Request.{Request}
use Rattle.rb_arguments.specs.declared.request.Request.TheVariants as requests
use Rattle.rb_answers.specs.declared.answers.Answer.{Answer}
use Rattle.rb_answers.specs.declared.answers.Results.{Results}
use Rattle.rb_answers.specs.declared.answers.Results.TheVariants as results
use Rattle.rb_proto.specs.declared.books.Books.{Books}
use Rattle.rb_answers.specs.declared.call.Call.{Call}
use Rattle.rb_answers.specs.declared.context.Context.{Context}
use Rattle.rb_answers.specs.Reserved.{may_own}
use Rattle.rb_answers.specs.Answers.{comes_from_here, owner_in, row_of_mapping, row_of_rpcb, can_be_set, has_share, row_asked, adds, adds_row, row_to_set}
use Rattle.rb_answers.specs.Netids.{which_of}
use Rattle.rb_answers.specs.Costs.{note_cost, forward_cost, statistics_cost}
use Rattle.rb_answers.specs.Walks.{lists_rows, walks_rows, are_rows, shows_rows, ListsIfAsked as Lists}
use Rattle.rb_proto.specs.Puts.{put_cost, registering_cost, removal_cost, request_cost, cost_of, results_cost}
use Rattle.rb_model.specs.declared.message.Message.TheVariants as says
use Rattle.rb_model.specs.Costs.{walked, change_cost}
use Rattle.rb_serving.specs.Costs.{row_count_of, PaysForResults, PaysToServe}

-- at most as much, if it is walked only when the other is
pub walked_if : (a b : Bool) (size : ℕ) → (IsTrue a → IsTrue b) → walked a size ≤ walked b size
walked_if true true size only = omega arith
walked_if true false size only = let clash : false ≡ true = only refl in absurd cc
walked_if false b size only = omega arith

-- ---- what is done

module _ (kept : Registry) where
  change : ℕ
  change = change_cost (looks kept.limit) (length (slots_of kept))

  set_few : set_cost kept ≤ change_cost (looks kept.limit) (length (slots_of kept))
  set_few = omega (arith, live_within kept.stamp kept.entries)

  unset_few : (which : Which) → unset_cost kept which ≤ 5 * change_cost (looks kept.limit) (length (slots_of kept))
  unset_few All = omega (arith, set_few)
  unset_few Inet = omega (arith, set_few)
  unset_few (One only) = omega (arith, set_few)

  removal_few : (which : Option Which) → removal_cost kept which ≤ 5 * change_cost (looks kept.limit) (length (slots_of kept))
  removal_few None = omega arith
  removal_few (Some which) = unset_few which

-- changes count if rows are asked for
pub request_few : (may : Bool) (books : Books) (request : Request) (args : ℕ) → request_cost may books request args
    ≤ 5 * walked (walks_rows may request) (change_cost (looks books.registry.limit) (row_count_of books)) + 2 * looks books.registry.limit + 3 + note_cost + forward_cost args
request_few may books request args = by_request request
  where
    few : (cost size : ℕ) → cost ≤ 5 * size + 1 → registering_cost may cost ≤ 5 * walked (may && true) size + 2 * looks books.registry.limit + 3 + note_cost + forward_cost args
    few cost size le = elim may as (λ b. registering_cost b cost ≤ 5 * walked (b && true) size + 2 * looks books.registry.limit + 3 + note_cost + forward_cost args) [ true ↦ omega (arith, le) | false ↦ omega arith ]

    by_request : (request : Request) → request_cost may books request args
        ≤ 5 * walked (walks_rows may request) (change_cost (looks books.registry.limit) (row_count_of books)) + 2 * looks books.registry.limit + 3 + note_cost + forward_cost args
    by_request (requests.Void procedure) = omega arith
    by_request (requests.Mapping mappings.Set m) = few (set_cost books.registry + 1) _ (omega (arith, set_few books.registry))
    by_request (requests.Mapping mappings.Unset m) = few (unset_cost books.registry Inet) _ (omega (arith, unset_few books.registry Inet))
    by_request (requests.Mapping mappings.Getport m) = omega arith
    by_request (requests.Rpcb rpcbs.Set r) = few (set_cost books.registry + 1) _ (omega (arith, set_few books.registry))
    by_request (requests.Rpcb rpcbs.Unset r) = few (removal_cost books.registry (which_of r.netid)) _ (omega (arith, removal_few books.registry (which_of r.netid)))
    by_request (requests.Rpcb rpcbs.Getaddr r) = omega arith
    by_request (requests.Rpcb rpcbs.Getversaddr r) = omega arith
    by_request (requests.Rpcb rpcbs.Getaddrlist r) = omega arith
    by_request (requests.Uaddr2taddr text) = omega arith
    by_request (requests.Taddr2uaddr netbuf) = omega arith
    by_request (requests.Forward kind remote) = omega arith

-- ---- what is put

-- rows count if they are among the results
pub results_few : (books : Books) (given : Results) (old new : Kept)
    → results_cost books given old new ≤ 4 * walked (are_rows given) (row_count_of books) + 3 + statistics_cost + put_cost old new
results_few books (results.Value value) old new = omega arith
results_few books (results.Rows list) old new = omega arith
results_few books results.Statistics old new = omega arith

-- a list is among what walks rows
pub lists_walk : (may : Bool) (request : Request) → IsTrue (lists_rows request) → IsTrue (walks_rows may request)
lists_walk may request lists = rw lists refl

-- a call is answered, and results are put
pub asked_paid : (context : Context) (call : Call) (old mid new : Books) (given : Answer) (args : List ℕ) (out : Kept) (m0 m1 m2 : Meter) → mid.registry ≡ old.registry → Lists call given
    → PaysAtMost m0 m1 (cost_of context mid call (length args)) → PaysForResults (shows_rows given) new out m1 m2 → PaysToServe context (says.Asked call) old new args out m0 m2
asked_paid context call old mid new given args out m0 m1 m2 same lists answered put =
    let may : Bool = comes_from_here context in
    let first : PaysAtMost m0 m1 (request_cost may mid call.request (length args)) = answered in
    let few = request_few may mid call.request (length args) in
    let limit : looks mid.registry.limit ≡ looks old.registry.limit = ap (λ (kept : Registry). looks kept.limit) same in
    let change : walked (walks_rows may call.request) (change_cost (looks mid.registry.limit) (row_count_of mid)) ≡ walked (walks_rows may call.request) (change_cost (looks old.registry.limit) (row_count_of old)) =
    ap (λ (kept : Registry). walked (walks_rows may call.request) (change_cost (looks kept.limit) (length (slots_of kept)))) same in
    let rows = walked_if (shows_rows given) (walks_rows may call.request) (row_count_of new) (λ shown. lists_walk may call.request (lists shown)) in
    record {
      steps = omega (arith, first.steps, few, limit, change, rows, put.steps);
      rises = omega (arith, first.rises, put.rises);
      tie = put.tie ∙ first.tie;
    }

-- ---- a row to set

-- a row is added only if rows are asked for, by a caller that may register
pub adding_asks : (context : Context) (call : Call) (rows : List Row) (count : ℕ) → adds_row context call rows count ≡ true → walks_rows (comes_from_here context) call.request ≡ true
unfolding adds_row row_to_set
adding_asks context call rows count is = by_request call.request is
  where
    by_row : (row : Option Row) → adds context rows count row ≡ true → (comes_from_here context && true) ≡ true
    by_row None t = absurd cc
    by_row (Some row) t =
        let shared = (and_parts (comes_from_here context && can_be_set row && may_own context.reserved row && has_share context rows) _ t).0 in
        let owned = (and_parts (comes_from_here context && can_be_set row && may_own context.reserved row) _ shared).0 in
        let here = (and_parts (comes_from_here context) _ (and_parts (comes_from_here context && can_be_set row) _ owned).0).0 in
        rw here refl

    by_request : (request : Request) → adds context rows count (row_asked context call.head request) ≡ true → walks_rows (comes_from_here context) request ≡ true
    by_request (requests.Mapping mappings.Set m) t = by_row (row_of_mapping (owner_in context call.head) m) t
    by_request (requests.Mapping mappings.Unset m) t = absurd cc
    by_request (requests.Mapping mappings.Getport m) t = absurd cc
    by_request (requests.Rpcb rpcbs.Set r) t = by_row (row_of_rpcb (owner_in context call.head) r) t
    by_request (requests.Rpcb rpcbs.Unset r) t = absurd cc
    by_request (requests.Rpcb rpcbs.Getaddr r) t = absurd cc
    by_request (requests.Rpcb rpcbs.Getversaddr r) t = absurd cc
    by_request (requests.Rpcb rpcbs.Getaddrlist r) t = refl
    by_request (requests.Void procedure) t = absurd cc
    by_request (requests.Uaddr2taddr text) t = absurd cc
    by_request (requests.Taddr2uaddr netbuf) t = absurd cc
    by_request (requests.Forward kind remote) t = absurd cc
