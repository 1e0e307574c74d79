use Rattle.rb_forward.proofs.Tables.{none_some, some_is}
-- Slots of distinct callers.
use Rattle.std.proofs.Common.{◌≡◌, ℕ, Bool, true, false, cond, eqb, List, [], ◌∷◌, ◌++◌, Some, refl, ap, ◌∙◌, arith}
use Rattle.std.specs.Prelude.{find}
use Rattle.std.specs.List.{list_any}
use Rattle.std.proofs.lemmas.Bool.{eqb-true}
use Rattle.std.proofs.lemmas.Bool.Decides.{nat_tests}
use Rattle.rb_address.specs.declared.who.Who.{Who}
use Rattle.rb_address.specs.declared.caller.Caller.{Caller}
use Rattle.rb_address.specs.declared.caller.Caller.TheVariants.{Tcp, Udp}
use Rattle.rb_forward.specs.declared.entries.Slot.{Slot}
use Rattle.rb_forward.specs.declared.entries.Sought.TheVariants as wanted
use Rattle.rb_forward.specs.Forwards.{is_connection, without_first, change_first}
use Rattle.rb_forward.specs.Table.{is_waiting, IsNew, AreOfDistinctCallers, is_wanted_slot}

same_test : (m n : ℕ) → eqb m n ≡ eqb n m
same_test m n = grind (arith, nat_tests)

pub any-more : (test : Slot → Bool) (slots : List Slot) (slot : Slot) → list_any test slots ≡ false → test slot ≡ false → list_any test (slots ++ slot ∷ []) ≡ false
any-more test [] slot h other = rw other refl
any-more test (first ∷ slots) slot h other = by_cases (test first) refl (any-more test slots slot)
  where
    by_cases : (b : Bool) → test first ≡ b → (list_any test slots ≡ false → test slot ≡ false → list_any test (slots ++ slot ∷ []) ≡ false) → list_any test ((first ∷ slots) ++ slot ∷ []) ≡ false
    by_cases true t further = let clash : true ≡ false = rw t at h in absurd cc
    by_cases false t further = rw t (further (rw t at h) other)

any-first : (test : Slot → Bool) (first : Slot) (slots : List Slot) → list_any test (first ∷ slots) ≡ false → test first ≡ false
any-first test first slots h = by_cases (test first) refl
  where
    by_cases : (b : Bool) → test first ≡ b → test first ≡ false
    by_cases true t = let clash : true ≡ false = rw t at h in absurd cc
    by_cases false t = t

any-rest : (test : Slot → Bool) (first : Slot) (slots : List Slot) → list_any test (first ∷ slots) ≡ false → list_any test slots ≡ false
any-rest test first slots h = rw (any-first test first slots h) at h

-- ---- one more

-- if the second is of no connection of the first, the first is of none of the second
apart : (caller other : Caller) (rest : List Slot) (first : Slot) → first.forward.caller ≡ caller → IsNew other (first ∷ rest) → (slot : Slot) → slot.forward.caller ≡ other
    → (id : ℕ) (who : Who) → caller ≡ Tcp id who → is_connection id slot.forward.caller ≡ false
apart caller (Udp p longest) rest first is new slot is_other id who tcp = rw is_other refl
apart caller (Tcp number p) rest first is new slot is_other id who tcp =
    let test : is_connection number first.forward.caller ≡ false = any-first (λ (s : Slot). is_connection number s.forward.caller) first rest new in
    let known : is_connection number (Tcp id who) ≡ false = rw (is, tcp) at test in
    rw is_other (same_test number id ∙ known)

is_new-more : (caller : Caller) (slots : List Slot) (slot : Slot) → IsNew caller slots
    → ((id : ℕ) (who : Who) → caller ≡ Tcp id who → is_connection id slot.forward.caller ≡ false) → IsNew caller (slots ++ slot ∷ [])
is_new-more (Tcp id who) slots slot new other = any-more (λ (s : Slot). is_connection id s.forward.caller) slots slot new (other id who refl)
is_new-more (Udp who longest) slots slot new other = tt

is_new-rest : (caller : Caller) (first : Slot) (slots : List Slot) → IsNew caller (first ∷ slots) → IsNew caller slots
is_new-rest (Tcp id who) first slots new = any-rest (λ (s : Slot). is_connection id s.forward.caller) first slots new
is_new-rest (Udp who longest) first slots new = tt

pub callers-more : (slots : List Slot) (slot : Slot) → AreOfDistinctCallers slots → IsNew slot.forward.caller slots → AreOfDistinctCallers (slots ++ slot ∷ [])
callers-more [] slot d new = (nobody slot.forward.caller, tt)
  where
    nobody : (caller : Caller) → IsNew caller []
    nobody (Tcp id who) = refl
    nobody (Udp who longest) = tt
callers-more (first ∷ slots) slot d new = (
  is_new-more first.forward.caller slots slot d.0 (apart first.forward.caller slot.forward.caller slots first refl new slot refl),
  callers-more slots slot d.1 (is_new-rest slot.forward.caller first slots new),
)

-- ---- one less

pub any-without : (test p : Slot → Bool) (slots : List Slot) → list_any test slots ≡ false → list_any test (without_first p slots) ≡ false
any-without test p [] h = h
any-without test p (first ∷ slots) h =
    elim (p first) as (λ b. list_any test (cond b slots (first ∷ without_first p slots)) ≡ false)
    [ true ↦ any-rest test first slots h | false ↦ rw (any-first test first slots h) (any-without test p slots (any-rest test first slots h)) ]

is_new-without : (caller : Caller) (p : Slot → Bool) (slots : List Slot) → IsNew caller slots → IsNew caller (without_first p slots)
is_new-without (Tcp id who) p slots new = any-without (λ (s : Slot). is_connection id s.forward.caller) p slots new
is_new-without (Udp who longest) p slots new = tt

pub callers-without : (p : Slot → Bool) (slots : List Slot) → AreOfDistinctCallers slots → AreOfDistinctCallers (without_first p slots)
callers-without p [] d = tt
callers-without p (first ∷ slots) d =
    elim (p first) as (λ b. AreOfDistinctCallers (cond b slots (first ∷ without_first p slots)))
    [ true ↦ d.1 | false ↦ (is_new-without first.forward.caller p slots d.0, callers-without p slots d.1) ]

found-any : (test p : Slot → Bool) (slots : List Slot) (a : Slot) → find p slots ≡ Some a → list_any test slots ≡ false → test a ≡ false
found-any test p [] a found h = absurd (none_some a found)
found-any test p (first ∷ slots) a found h = by_cases (p first) refl (found-any test p slots a)
  where
    by_cases : (b : Bool) → p first ≡ b → (find p slots ≡ Some a → list_any test slots ≡ false → test a ≡ false) → test a ≡ false
    by_cases true t further = let is : first ≡ a = some_is first a (rw t at found) in rw (← is) (any-first test first slots h)
    by_cases false t further = further (rw t at found) (any-rest test first slots h)

-- its connection has no other slot
pub alone-without : (p : Slot → Bool) (slots : List Slot) (a : Slot) → AreOfDistinctCallers slots → find p slots ≡ Some a → IsNew a.forward.caller (without_first p slots)
alone-without p [] a d found = absurd (none_some a found)
alone-without p (first ∷ slots) a d found = by_cases (p first) refl (alone-without p slots a d.1)
  where
    not_first : (caller other : Caller) → a.forward.caller ≡ caller → first.forward.caller ≡ other → find p slots ≡ Some a → IsNew other slots → IsNew caller (without_first p slots) → IsNew caller (first ∷ without_first p slots)
    not_first (Udp who longest) other is is_other later new rest = tt
    not_first (Tcp id who) (Udp q longest) is is_other later new rest = rw is_other rest
    not_first (Tcp id who) (Tcp number q) is is_other later new rest =
        let known : is_connection number a.forward.caller ≡ false = found-any (λ (s : Slot). is_connection number s.forward.caller) p slots a later new in
        let differ : eqb number id ≡ false = same_test number id ∙ (rw is at known) in
        rw (is_other, differ) rest

    by_cases : (b : Bool) → p first ≡ b → (find p slots ≡ Some a → IsNew a.forward.caller (without_first p slots)) → IsNew a.forward.caller (without_first p (first ∷ slots))
    by_cases true t further = let is : first ≡ a = some_is first a (rw t at found) in rw (t, ← is) d.0
    by_cases false t further =
        let later = rw t at found in
        rw t (not_first a.forward.caller first.forward.caller refl refl later d.0 (further later))

-- without the first slot of a connection there is none of it
pub nobody_waits : (id : ℕ) (slots : List Slot) → AreOfDistinctCallers slots → is_waiting id (without_first (is_wanted_slot (wanted.OfConnection id)) slots) ≡ false
unfolding is_wanted_slot
nobody_waits id [] d = refl
nobody_waits id (first ∷ slots) d = by_cases (is_connection id first.forward.caller) refl (nobody_waits id slots d.1)
  where
    alone : (caller : Caller) → first.forward.caller ≡ caller → IsNew caller slots → is_connection id caller ≡ true → is_waiting id slots ≡ false
    alone (Tcp number who) is new t = let same : number ≡ id = eqb-true number id t in rw (← same) new
    alone (Udp who longest) is new t = absurd cc

    by_cases : (b : Bool) → is_connection id first.forward.caller ≡ b → is_waiting id (without_first (λ (s : Slot). is_connection id s.forward.caller) slots) ≡ false
        → is_waiting id (without_first (λ (s : Slot). is_connection id s.forward.caller) (first ∷ slots)) ≡ false
    by_cases true t further = rw t (alone first.forward.caller refl d.0 t)
    by_cases false t further = rw (t, t) further

-- ---- one changed

pub any-changed : (test p : Slot → Bool) (b : Slot) (slots : List Slot) → ((a : Slot) → find p slots ≡ Some a → test b ≡ test a) → list_any test (change_first p (λ a. b) slots) ≡ list_any test slots
any-changed test p b [] same = refl
any-changed test p b (first ∷ slots) same = by_cases (p first) refl (any-changed test p b slots)
  where
    by_cases : (t : Bool) → p first ≡ t → (((a : Slot) → find p slots ≡ Some a → test b ≡ test a) → list_any test (change_first p (λ a. b) slots) ≡ list_any test slots)
        → list_any test (change_first p (λ a. b) (first ∷ slots)) ≡ list_any test (first ∷ slots)
    by_cases true t further = let is : test b ≡ test first = same first (rw t refl) in rw (t, is) refl
    by_cases false t further = rw (t, further (λ a found. same a (rw t found))) refl

is_new-changed : (caller : Caller) (p : Slot → Bool) (b : Slot) (slots : List Slot) → ((a : Slot) → find p slots ≡ Some a → b.forward ≡ a.forward) → IsNew caller slots → IsNew caller (change_first p (λ a. b) slots)
is_new-changed (Tcp id who) p b slots same new =
    any-changed (λ (s : Slot). is_connection id s.forward.caller) p b slots (λ a found. ap (λ f. is_connection id f.caller) (same a found)) ∙ new
is_new-changed (Udp who longest) p b slots same new = tt

pub callers-changed : (p : Slot → Bool) (b : Slot) (slots : List Slot) → ((a : Slot) → find p slots ≡ Some a → b.forward ≡ a.forward) → AreOfDistinctCallers slots → AreOfDistinctCallers (change_first p (λ a. b) slots)
callers-changed p b [] same d = tt
callers-changed p b (first ∷ slots) same d = by_cases (p first) refl (callers-changed p b slots)
  where
    by_cases : (t : Bool) → p first ≡ t → (((a : Slot) → find p slots ≡ Some a → b.forward ≡ a.forward) → AreOfDistinctCallers slots → AreOfDistinctCallers (change_first p (λ a. b) slots))
        → AreOfDistinctCallers (change_first p (λ a. b) (first ∷ slots))
    by_cases true t further = let is : b.forward ≡ first.forward = same first (rw t refl) in rw (t, is) d
    by_cases false t further =
        let later : (a : Slot) → find p slots ≡ Some a → b.forward ≡ a.forward = λ a found. same a (rw t found) in
        rw t (is_new-changed first.forward.caller p b slots later d.0, further later d.1)
