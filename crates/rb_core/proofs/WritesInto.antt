-- What a core does when it gives a reply into a room, and what it pays.
use Rattle.std.proofs.Common.{◌≡◌, ◌<◌, ◌≤◌, ◌+◌, ◌*◌, ◌/◌, ℕ, max, List, [], ◌∷◌, length, take, Option, Some, None, Result, Ok, Err, refl, sym, ap, subst, ◌∙◌, arith}
use Rattle.std.proofs.Math.Nat.{mul-le-mul_left, mul-le-mul_right}
use Rattle.rb_xdr.specs.Meter.{Meter, PaysAtMost}
use Rattle.rb_registry.specs.Registry.{slots_of}
use Rattle.rb_model.specs.State.{State, Connection, Connections}
use Rattle.rb_model.specs.declared.types.CoreFault.{CoreFault}
use Rattle.rb_model.specs.declared.types.Given.{Given}
use Rattle.rb_model.specs.Bounds.{steps_bound}
use Rattle.rb_model.specs.Connections.{longest_fragment, on_live, live_connection}
use Rattle.rb_model.specs.Costs.{find_cost, listed_cost, recount_cost, walked, gives_list}
use Rattle.rb_model.specs.Gives.{write_fitting, write_into, unless_nothing, given_in, written_into_cost, write_into_cost}
use Rattle.rb_model.specs.Step.{unless_refused, IsReached}
use Rattle.rb_model.proofs.CostBounds.{walked_few}
use Rattle.rb_connections.specs.StandsFor.{Table, StandsForConnections}
use Rattle.rb_connections.specs.Slots.{Acts, StaysTable}
use Rattle.rb_core.specs.CallCosts.{PaysToWriteInto}
use Rattle.rb_core.specs.StandsFor.{CoreView, StandsFor}
use Rattle.rb_core.proofs.Spending.{at_most}
use Rattle.rb_core.proofs.CallBounds.{few_connections, few_rows}
use Rattle.rb_core.proofs.Steps.{moved_acts, refused_acts}

-- ---- what is given

result_alike : (now : ℕ) (s : State) (r : Result (List ℕ) CoreFault × Connections) → (unless_refused now s r).0 ≡ r.0
result_alike now s (Ok x, c) = refl
result_alike now s (Err f, c) = refl

unless_some : (s : State) (r : Result (List ℕ) CoreFault × State) (bytes : List ℕ) → Ok bytes ≡ r.0 → 0 < length bytes → unless_nothing s r ≡ r
unless_some s (Ok [], new) bytes is some = absurd (omega (arith, some, ap (λ (xs : List ℕ). length xs) (ok_alike bytes [] is)))
  where
    ok_alike : (a b : List ℕ) → ◌≡◌ {A = Result (List ℕ) CoreFault} (Ok a) (Ok b) → a ≡ b
    ok_alike a b e = cc
unless_some s (Ok (x ∷ xs), new) bytes is some = refl
unless_some s (Err fault, new) bytes is some = absurd cc

unless_none : (s : State) (r : Result (List ℕ) CoreFault × State) → Ok [] ≡ r.0 → unless_nothing s r ≡ (Ok [], s)
unless_none s (Ok [], new) is = refl
unless_none s (Ok (x ∷ xs), new) is = absurd cc
unless_none s (Err fault, new) is = absurd cc

unless_err : (s : State) (r : Result (List ℕ) CoreFault × State) (fault : CoreFault) → Err fault ≡ r.0 → unless_nothing s r ≡ r
unless_err s (Ok [], new) fault is = absurd cc
unless_err s (Ok (x ∷ xs), new) fault is = absurd cc
unless_err s (Err other, new) fault is = refl

module _ (old : CoreView) (now clock : ℕ) (is : clock ≡ max old.clock now) (table : Table) (id room : ℕ) where
  into_at : (r : Result (List ℕ) CoreFault) → Acts (StandsForConnections old.books.registry) (on_live id (write_fitting clock room)) old.connections table r
      → (s : State) → StandsFor old s → Acts (StandsForConnections old.books.registry) (on_live id (write_fitting (max s.clock now) room)) old.connections table r
  into_at r acts s h = rw (← h.clock, ← is) acts

  pub into_done : (bytes : List ℕ) → 0 < length bytes → StaysTable old.connections table → Acts (StandsForConnections old.books.registry) (on_live id (write_fitting clock room)) old.connections table (Ok bytes)
      → Acts StandsFor (λ s. write_into s now id room) old (record old { clock = clock; connections = table }) (Ok bytes)
  unfolding write_into
  into_done bytes some stays acts =
      let moved = moved_acts old now clock (λ s. on_live id (write_fitting (max s.clock now) room)) table bytes is stays (into_at (Ok bytes) acts) in
      record {
        gives = λ s h. moved.gives s h ∙ sym (ap (λ (r : Result (List ℕ) CoreFault × State). r.0) (unless_some s _ bytes (moved.gives s h) some));
        stands = λ s h. subst (λ (r : Result (List ℕ) CoreFault × State). StandsFor (record old { clock = clock; connections = table }) r.1) (sym (unless_some s _ bytes (moved.gives s h) some)) (moved.stands s h);
      }

  pub into_nothing : Acts (StandsForConnections old.books.registry) (on_live id (write_fitting clock room)) old.connections table (Ok [])
      → Acts StandsFor (λ s. write_into s now id room) old old (Ok [])
  unfolding write_into
  into_nothing acts = record {
    gives = λ s h. sym (ap (λ (r : Result (List ℕ) CoreFault × State). r.0) (none s h));
    stands = λ s h. subst (λ (r : Result (List ℕ) CoreFault × State). StandsFor old r.1) (sym (none s h)) h;
  }
    where
      none : (s : State) → StandsFor old s → unless_nothing s (unless_refused now s (on_live id (write_fitting (max s.clock now) room) s.connections)) ≡ (Ok [], s)
      none s h = unless_none s _ ((into_at (Ok []) acts s h).gives s.connections h.connections ∙ sym (result_alike now s (on_live id (write_fitting (max s.clock now) room) s.connections)))

  -- the same of a result that says so
  pub into_none : (n : ℕ) (bytes : List ℕ) → n ≡ 0 → table ≡ old.connections → Acts (StandsForConnections old.books.registry) (on_live id (write_fitting clock room)) old.connections table (Ok (take n bytes))
      → Acts StandsFor (λ s. write_into s now id room) old (record old { connections = table }) (Ok (take n bytes))
  into_none n bytes none same acts =
      subst (λ (t : Table). Acts StandsFor (λ s. write_into s now id room) old (record old { connections = t }) (Ok (take n bytes))) (sym same)
      (subst (λ (m : ℕ). Acts StandsFor (λ s. write_into s now id room) old old (Ok (take m bytes))) (sym none)
      (into_nothing (subst (λ (m : ℕ). Acts (StandsForConnections old.books.registry) (on_live id (write_fitting clock room)) old.connections table (Ok (take m bytes))) none acts)))

  pub into_refused : (fault : CoreFault) → Acts (StandsForConnections old.books.registry) (on_live id (write_fitting clock room)) old.connections table (Err fault)
      → Acts StandsFor (λ s. write_into s now id room) old old (Err fault)
  unfolding write_into
  into_refused fault acts =
      let refused = refused_acts old now clock (λ s. on_live id (write_fitting (max s.clock now) room)) table fault (into_at (Err fault) acts) in
      record {
        gives = λ s h. refused.gives s h ∙ sym (ap (λ (r : Result (List ℕ) CoreFault × State). r.0) (unless_err s _ fault (refused.gives s h)));
        stands = λ s h. subst (λ (r : Result (List ℕ) CoreFault × State). StandsFor old r.1) (sym (unless_err s _ fault (refused.gives s h))) (refused.stands s h);
      }

-- ---- what is paid

into_most : (connections rows n : ℕ) (m : Option Connection) → write_into_cost connections rows n m ≤ find_cost connections + written_into_cost rows n + recount_cost
unfolding longest_fragment
into_most connections rows n None = omega arith
into_most connections rows n (Some c) =
    let few : listed_cost (walked (gives_list c) rows) ≤ listed_cost rows = omega (arith, walked_few (gives_list c) rows) in
    omega (arith, mul-le-mul_left (n / 1028 + 1) few)

-- this many fragments, of which each has its part in what is paid once
parts : (j one more all n : ℕ) → 1 ≤ j → n ≤ 1028 * j → one + 1028 + more ≤ all → n + more + j * one ≤ j * all
parts j one more all n some few within =
    let each = mul-le-mul_left j within in
    let once = mul-le-mul_right more some in
    omega (arith, each, once, few)

pub into_within : (core : CoreView) (a b : Meter) (id : ℕ) (result : Result Given CoreFault) → PaysToWriteInto core id result a b
    → (s : State) → StandsFor core s → IsReached s → PaysAtMost a b ((given_in result / longest_fragment + 1) * steps_bound core.setting.limits 0 longest_fragment)
unfolding longest_fragment
into_within core a b id result pays s h reached =
    let connections : ℕ = length core.connections.slots in
    let rows : ℕ = length (slots_of core.books.registry) in
    let n : ℕ = given_in result in
    let most = into_most connections rows n (live_connection id s.connections.all) in
    let all : ℕ = steps_bound core.setting.limits 0 1028 in
    let each : listed_cost rows + 1028 + (find_cost connections + 3 + recount_cost) ≤ all = omega (arith, few_connections core s h reached, few_rows core s h) in
    let whole = parts (n / 1028 + 1) (listed_cost rows) (find_cost connections + 3 + recount_cost) all n (omega arith) (omega arith) each in
    at_most a b (write_into_cost connections rows n (live_connection id s.connections.all)) _ (omega (arith, most, whole)) (pays s h)
