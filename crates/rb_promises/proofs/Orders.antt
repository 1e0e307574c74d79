-- What rises along a list.
use Rattle.std.specs.Prelude.{All, find}
use Rattle.std.specs.List.{AllPairs}
use Rattle.std.proofs.Common.{◌≡◌, ◌<◌, ◌≤◌, ℕ, ◌+◌, Bool, true, false, cond, Some, List, [], ◌∷◌, refl, ap, arith}
use Rattle.std.proofs.lemmas.List.Elements.{All-nil, All-cons, All-weaker}
use Rattle.std.proofs.lemmas.List.Kept.{AllPairs-cons}
use Rattle.rb_forward.specs.Forwards.{Entry}
use Rattle.rb_model.specs.State.{Connection}
use Rattle.rb_laws.proofs.Reached.{AreSound, reached-sound}
use Rattle.rb_laws.proofs.EntriesKept.{AreRising, reached-kept}
use Rattle.rb_promises.specs.Connections.{ConnectionsAreInOrder, FirstConnectionsAreLeast, NumbersAreDistinct}
use Rattle.rb_promises.specs.Entries.{EntriesAreInOrder, FirstEntriesAreLeast}
use Rattle.rb_promises.proofs.Membership.{alone}

-- ---- numbers that rise from `least` on, and are below `next`

module _ {A : Type 0} (number : A → ℕ) where
  abbrev Rises : ℕ → ℕ → List A → Type 0
  Rises least next [] = least ≤ next
  Rises least next (x ∷ xs) = (least ≤ number x) × Rises (number x + 1) next xs

  least-within : (least next : ℕ) (xs : List A) → Rises least next xs → least ≤ next
  least-within least next [] r = r
  least-within least next (x ∷ xs) r = let later = least-within (number x + 1) next xs r.1 in omega (arith, later, r.0)

  all-above : (least next : ℕ) (xs : List A) → Rises least next xs → All (λ x. least ≤ number x) xs
  all-above least next [] r = All-nil (λ x. least ≤ number x)
  all-above least next (x ∷ xs) r =
      All-cons (λ y. least ≤ number y) x xs r.0
      (All-weaker (λ y. number x + 1 ≤ number y) (λ y. least ≤ number y) (λ y above. omega (arith, above, r.0)) xs (all-above (number x + 1) next xs r.1))

  all-below : (least next : ℕ) (xs : List A) → Rises least next xs → All (λ x. number x < next) xs
  all-below least next [] r = All-nil (λ x. number x < next)
  all-below least next (x ∷ xs) r =
      All-cons (λ y. number y < next) x xs (let later = least-within (number x + 1) next xs r.1 in omega (arith, later)) (all-below (number x + 1) next xs r.1)

  in-pairs : (least next : ℕ) (xs : List A) → Rises least next xs → AllPairs (λ x y. number x < number y) xs
  in-pairs least next [] r = λ i j d before low. absurd (omega (arith, low))
  in-pairs least next (x ∷ xs) r =
      AllPairs-cons (λ x y. number x < number y) x xs
      (All-weaker (λ y. number x + 1 ≤ number y) (λ y. number x < number y) (λ y above. omega (arith, above)) xs (all-above (number x + 1) next xs r.1))
      (in-pairs (number x + 1) next xs r.1)

  first-least : (test : A → Bool) (least next : ℕ) (xs : List A) (x : A) → Rises least next xs → find test xs ≡ Some x → All (λ y. test y ≡ true → number x ≤ number y) xs
  first-least test least next [] x r is = absurd cc
  first-least test least next (y ∷ ys) x r is = by_test (test y) refl is (first-least test (number y + 1) next ys x r.1)
    where
      by_test : (b : Bool) → test y ≡ b → cond b (Some y) (find test ys) ≡ Some x → (find test ys ≡ Some x → All (λ z. test z ≡ true → number x ≤ number z) ys) → All (λ z. test z ≡ true → number x ≤ number z) (y ∷ ys)
      by_test true e is later =
          let same : y ≡ x = cc in
          let numbers : number y ≡ number x = ap number same in
          All-cons (λ z. test z ≡ true → number x ≤ number z) y ys (λ passes. omega (arith, numbers))
          (All-weaker (λ z. number y + 1 ≤ number z) (λ z. test z ≡ true → number x ≤ number z) (λ z above passes. omega (arith, above, numbers)) ys (all-above (number y + 1) next ys r.1))
      by_test false e is later = All-cons (λ z. test z ≡ true → number x ≤ number z) y ys (λ passes. absurd cc) (later is)

-- ---- connections

connections-rise : (least next : ℕ) (all : List Connection) → AreSound least next all → Rises (λ (c : Connection). c.number) least next all
connections-rise least next [] s = s
connections-rise least next (c ∷ all) s = (s.0, connections-rise (c.number + 1) next all s.2)

pub connections_are_in_order : ConnectionsAreInOrder
connections_are_in_order s reached =
    let rises = connections-rise 0 s.connections.next s.connections.all (reached-sound s reached) in
    record {
      rising = in-pairs (λ (c : Connection). c.number) 0 s.connections.next s.connections.all rises;
      below = all-below (λ (c : Connection). c.number) 0 s.connections.next s.connections.all rises;
    }

pub first_connections_are_least : FirstConnectionsAreLeast
first_connections_are_least s reached test c found =
    first-least (λ (x : Connection). x.number) test 0 s.connections.next s.connections.all c (connections-rise 0 s.connections.next s.connections.all (reached-sound s reached)) found

pub numbers_are_distinct : NumbersAreDistinct
numbers_are_distinct s reached c d in_c in_d same = alone (λ (x : Connection). x.number) s.connections.all c d (connections_are_in_order s reached).rising in_c in_d same

-- ---- forwarded calls

entries-rise : (least next : ℕ) (all : List Entry) → AreRising least next all → Rises (λ (e : Entry). e.number) least next all
entries-rise least next [] s = s
entries-rise least next (e ∷ all) s = (s.0, entries-rise (e.number + 1) next all s.1)

pub entries_are_in_order : EntriesAreInOrder
entries_are_in_order s reached =
    let f = s.ledger.forwards in
    let rises = entries-rise 1 f.next f.all (reached-kept s reached).order in
    record {
      rising = in-pairs (λ (e : Entry). e.number) 1 f.next f.all rises;
      below = all-below (λ (e : Entry). e.number) 1 f.next f.all rises;
    }

pub first_entries_are_least : FirstEntriesAreLeast
first_entries_are_least s reached test e found =
    let f = s.ledger.forwards in
    first-least (λ (x : Entry). x.number) test 1 f.next f.all e (entries-rise 1 f.next f.all (reached-kept s reached).order) found
