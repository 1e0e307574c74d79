-- What follows of who is given up.
use Rattle.std.proofs.Common.{◌≡◌, ◌≤◌, ◌<◌, ◌+◌, ◌^◌, ◌==◌, ℕ, Bool, true, false, cond, not, [], ◌∷◌, length, max, nat_lt, ◌||◌, Option, Some, None, slice_get, slice_set, arith, refl, sym, ap, ◌∙◌, subst}
use Rattle.std.specs.Prelude.{count_by}
use Rattle.std.specs.declared.cmp.Ordering.{Ordering}
use Rattle.std.specs.declared.cmp.Ordering.TheVariants.{Less, Equal, Greater}
use Rattle.std.specs.Ordering.{nat_cmp, bool_cmp, ordering_then, ordering_reverse}
use mathlib.Core.Bool.{true≢false}
use Rattle.std.proofs.lemmas.Bool.Decides.{nat_tests}
use Rattle.std.proofs.lemmas.Option.{same_Some, slice_get_within, get_or_from_slice_get}
use Rattle.std.proofs.lemmas.List.Sums.{sum_by-cons, sum_by-set}
use Rattle.rb_rpc.specs.declared.standing.Standing.{Standing}
use Rattle.rb_rpc.specs.declared.standing.Standing.TheVariants.{Awaiting}
use Rattle.rb_address.specs.declared.host.Host as hosts
use Rattle.rb_address.proofs.HostLaws.{same_host_is, same_host_of}
use Rattle.rb_policy.specs.declared.origin.Origin.{Origin}
use Rattle.rb_policy.specs.declared.origin.Origin.TheVariants.{Host, User, Nobody, New, Waiting, Unawaited}
use Rattle.rb_policy.specs.declared.door.Holder.{Holder}
use Rattle.rb_policy.specs.declared.door.Candidate.{Candidate}
use Rattle.rb_policy.specs.Origins.{is_same_origin, is_roots, is_unawaited, share_of, class_of, is_local, is_active, goes_by}
use Rattle.rb_policy.specs.Door.{Places, is_free, is_held_by, count_held_by, may_hold_more, may_go, is_within_share, rank, MayBeGivenUp, IsGivenUp, candidate_of, by_precedence, GoesBefore}
use Rattle.rb_policy.specs.DoorLaws.{HoldsAt, SharesAreKept, OneIsGivenUp, RootStays, UnawaitedGoFirst, EarlierWaits, WaitersGoLast, is_anothers, is_held_by_another, OthersKeepAQuarter}
use Rattle.rb_policy.proofs.Candidates.{by_precedence_total}
use Rattle.rb_policy.proofs.Doors.{some_counted}

-- ---- one is given up

last_is : (front last : Ordering) → ordering_then front last ≡ Equal → last ≡ Equal
last_is Less last e = grind (arith, e)
last_is Equal last e = e
last_is Greater last e = grind (arith, e)

neither : (o : Ordering) → ¬ (o ≡ Less) → ¬ (ordering_reverse o ≡ Less) → o ≡ Equal
neither Less not_less not_greater = absurd (not_less refl)
neither Equal not_less not_greater = refl
neither Greater not_less not_greater = absurd (not_greater refl)

tied_places : (a b : Candidate) → ¬ GoesBefore a b → ¬ GoesBefore b a → a.place ≡ b.place
tied_places a b not_a not_b =
    let tied = neither (by_precedence a b) not_a (λ e. not_b (by_precedence_total.antisymm b a ∙ e)) in
    grind (arith, nat_tests, last_is _ (nat_cmp a.place b.place) tied)

pub one_is_given_up : OneIsGivenUp
one_is_given_up places newcomer now a b first second =
    tied_places (candidate_of places now a first.holder) (candidate_of places now b second.holder)
    (second.first a first.holder first.may)
    (first.first b second.holder second.may)

-- ---- shares are kept

within : (root old_counts ended : Bool) (before after share : ℕ) → after + cond old_counts 1 0 ≡ before + 1 → ((root || nat_lt before share) || (old_counts || ended)) ≡ true → root ≡ false → ended ≡ false → after ≤ max share before
within root true ended before after share sum may bounded goes = grind (arith, sum)
within true false ended before after share sum may bounded goes = absurd (true≢false bounded)
within false false true before after share sum may bounded goes = absurd (true≢false goes)
within false false false before after share sum may bounded goes = grind (arith, nat_tests, sum, may)

itself : (a : Origin) → is_same_origin a a ≡ true
itself (Host host) = same_host_of host host refl
itself (User uid) = grind (arith, nat_tests)
itself Nobody = refl
itself New = refl
itself Waiting = refl
itself Unawaited = refl

same_origin_of : (a b : Origin) → a ≡ b → is_same_origin a b ≡ true
same_origin_of a b is = subst (λ (o : Origin). is_same_origin a o ≡ true) is (itself a)

counts : (holder : Holder) (newcomer : Origin) → holder.origin ≡ newcomer → is_held_by newcomer (Some holder) ≡ true
counts holder newcomer of = same_origin_of holder.origin newcomer of

-- the holder of a place is one
same_holder : (places : Places) (place : ℕ) (a b : Holder) → HoldsAt places place a → HoldsAt places place b → a ≡ b
same_holder places place a b first second = same_Some a b (same_Some (Some a) (Some b) (sym first ∙ second))

pub shares_are_kept : SharesAreKept
shares_are_kept places newcomer now place holder before bounded of given was goes =
    let f : Option Holder → ℕ = λ x. cond (is_held_by newcomer x) 1 0 in
    let held = given.may.holds in
    let sum_is = sum_by-set f places place (Some holder) (Some given.holder) (slice_get_within places place (Some given.holder) held) in
    let old_is = get_or_from_slice_get places place (Some given.holder) (Some given.holder) held in
    let goes_too = subst (λ (h : Holder). is_unawaited h.origin ≡ false) (same_holder places place before given.holder was held) goes in
    within (is_roots newcomer) (is_same_origin given.holder.origin newcomer) (is_unawaited given.holder.origin) (count_held_by places newcomer) _ (share_of newcomer (length places))
    (ap (λ x. count_held_by (slice_set places place (Some holder)) newcomer + f x) (sym old_is)
    ∙ sum_is ∙ ap (λ b. count_held_by places newcomer + cond b 1 0) (counts holder newcomer of))
    given.may.may bounded goes_too

-- ---- who goes before whom

then_less : (front next : Ordering) → front ≡ Less → ordering_then front next ≡ Less
then_less Less next e = refl
then_less Equal next e = grind (arith, e)
then_less Greater next e = grind (arith, e)

then_next : (front next : Ordering) → front ≡ Equal → ordering_then front next ≡ next
then_next Less next e = grind (arith, e)
then_next Equal next e = refl
then_next Greater next e = grind (arith, e)

tied_numbers : (a b : ℕ) → a ≡ b → nat_cmp a b ≡ Equal
tied_numbers a b e = grind (arith, nat_tests, e)

tied_bools : (a b : Bool) → a ≡ b → bool_cmp a b ≡ Equal
tied_bools true true e = refl
tied_bools false false e = refl
tied_bools true false e = absurd (true≢false e)
tied_bools false true e = absurd (true≢false (sym e))

module _ (a b : Candidate) where
  by_class : nat_cmp a.class b.class ≡ Less → GoesBefore a b
  by_class less =
      then_less _ _ (then_less _ _ (then_less _ _ (then_less _ _ (then_less _ _ (then_less _ _ less)))))

  by_share : a.class ≡ b.class → bool_cmp a.is_within_share b.is_within_share ≡ Less → GoesBefore a b
  by_share class less =
      then_less _ _ (then_less _ _ (then_less _ _ (then_less _ _ (then_less _ _
      (then_next _ _ (tied_numbers a.class b.class class) ∙ less)))))

  same_two : a.class ≡ b.class → a.is_within_share ≡ b.is_within_share → ordering_then (nat_cmp a.class b.class) (bool_cmp a.is_within_share b.is_within_share) ≡ Equal
  same_two class share =
      then_next _ _ (tied_numbers a.class b.class class) ∙ tied_bools a.is_within_share b.is_within_share share

  by_local : a.class ≡ b.class → a.is_within_share ≡ b.is_within_share → bool_cmp a.is_local b.is_local ≡ Less → GoesBefore a b
  by_local class share less =
      then_less _ _ (then_less _ _ (then_less _ _ (then_less _ _ (then_next _ _ (same_two class share) ∙ less))))

  by_active : a.class ≡ b.class → a.is_within_share ≡ b.is_within_share → a.is_local ≡ b.is_local → bool_cmp a.is_active b.is_active ≡ Less → GoesBefore a b
  by_active class share local less =
      let three = then_next _ _ (same_two class share) ∙ tied_bools a.is_local b.is_local local in
      then_less _ _ (then_less _ _ (then_less _ _ (then_next _ _ three ∙ less)))

  by_rank : a.class ≡ b.class → a.is_within_share ≡ b.is_within_share → a.is_local ≡ b.is_local → a.is_active ≡ b.is_active → rank a.standing < rank b.standing → GoesBefore a b
  by_rank class share local active less =
      let three = then_next _ _ (same_two class share) ∙ tied_bools a.is_local b.is_local local in
      let four = then_next _ _ three ∙ tied_bools a.is_active b.is_active active in
      let last : nat_cmp (rank a.standing) (rank b.standing) ≡ Less = grind (arith, nat_tests, less) in
      then_less _ _ (then_less _ _ (then_next _ _ four ∙ last))

  by_turn : a.class ≡ b.class → a.is_within_share ≡ b.is_within_share → a.is_local ≡ b.is_local → a.is_active ≡ b.is_active → a.standing ≡ b.standing → a.goes_by < b.goes_by → GoesBefore a b
  by_turn class share local active standing less =
      let three = then_next _ _ (same_two class share) ∙ tied_bools a.is_local b.is_local local in
      let four = then_next _ _ three ∙ tied_bools a.is_active b.is_active active in
      let five = then_next _ _ four ∙ tied_numbers (rank a.standing) (rank b.standing) (ap rank standing) in
      let last : nat_cmp a.goes_by b.goes_by ≡ Less = grind (arith, nat_tests, less) in
      then_less _ _ (then_next _ _ five ∙ last)

any_may : (places : Places) (newcomer : Origin) (k : ℕ) (other : Holder) → may_hold_more places newcomer ≡ true → HoldsAt places k other → MayBeGivenUp places newcomer k other
any_may places newcomer k other more holds = record {
  holds = holds;
  may = ap (λ b. may_go b newcomer other.origin) more;
}

-- ---- root

root_is_last : (a b : Origin) → is_roots a ≡ true → is_roots b ≡ false → nat_cmp (class_of b) (class_of a) ≡ Less
root_is_last (User a) (User b) root other = grind (arith, nat_tests, root, other)
root_is_last (User a) (Host b) root other = grind (arith, nat_tests, root)
root_is_last (User a) Nobody root other = grind (arith, nat_tests, root)
root_is_last (User a) New root other = grind (arith, nat_tests, root)
root_is_last (User a) Waiting root other = grind (arith, nat_tests, root)
root_is_last (User a) Unawaited root other = grind (arith, nat_tests, root)
root_is_last (Host a) b root other = absurd (true≢false (sym root))
root_is_last Nobody b root other = absurd (true≢false (sym root))
root_is_last New b root other = absurd (true≢false (sym root))
root_is_last Waiting b root other = absurd (true≢false (sym root))
root_is_last Unawaited b root other = absurd (true≢false (sym root))

same_root : (a b : Origin) → is_same_origin a b ≡ true → is_roots a ≡ true → is_roots b ≡ true
same_root (User a) (User b) same root = grind (arith, nat_tests, same, root)
same_root (User a) (Host b) same root = absurd (true≢false (sym same))
same_root (User a) Nobody same root = absurd (true≢false (sym same))
same_root (User a) New same root = absurd (true≢false (sym same))
same_root (User a) Waiting same root = absurd (true≢false (sym same))
same_root (User a) Unawaited same root = absurd (true≢false (sym same))
same_root (Host a) b same root = absurd (true≢false (sym root))
same_root Nobody b same root = absurd (true≢false (sym root))
same_root New b same root = absurd (true≢false (sym root))
same_root Waiting b same root = absurd (true≢false (sym root))
same_root Unawaited b same root = absurd (true≢false (sym root))

either : (root more same ended : Bool) → ((root || more) || (same || ended)) ≡ true → (same ≡ true → root ≡ true) → ended ≡ false → (root || more) ≡ true
either true more same ended may then goes = refl
either false true same ended may then goes = refl
either false false true ended may then goes = then refl
either false false false ended may then goes = absurd (true≢false (sym may ∙ goes))

root_is_awaited : (a : Origin) → is_roots a ≡ true → is_unawaited a ≡ false
root_is_awaited (User a) root = refl
root_is_awaited (Host a) root = refl
root_is_awaited Nobody root = refl
root_is_awaited New root = refl
root_is_awaited Waiting root = refl
root_is_awaited Unawaited root = absurd (true≢false (sym root))

more_for_root : (places : Places) (newcomer a : Origin) → may_go (may_hold_more places newcomer) newcomer a ≡ true → is_roots a ≡ true → may_hold_more places newcomer ≡ true
more_for_root places newcomer a may root =
    either (is_roots newcomer) _ (is_same_origin a newcomer) (is_unawaited a) may (λ same. same_root a newcomer same root) (root_is_awaited a root)

pub root_stays : RootStays
root_stays places newcomer now place k holder other given held root at_k = split (is_roots other.origin) refl
  where
    split : (b : Bool) → is_roots other.origin ≡ b → is_roots other.origin ≡ true
    split true e = e
    split false e =
        let same = same_holder places place holder given.holder held given.may.holds in
        let roots : is_roots given.holder.origin ≡ true = subst (λ (h : Holder). is_roots h.origin ≡ true) same root in
        let more = more_for_root places newcomer given.holder.origin given.may.may roots in
        absurd (given.first k other (any_may places newcomer k other more at_k)
        (by_class (candidate_of places now k other) (candidate_of places now place given.holder)
        (root_is_last given.holder.origin other.origin roots e)))

-- ---- those on which nobody waits

above_0 : (b : Bool) → nat_cmp 0 (cond b 2 1) ≡ Less
above_0 true = refl
above_0 false = refl

is_of_class_0 : (a : Origin) → ¬ (nat_cmp 0 (class_of a) ≡ Less) → a ≡ Unawaited
is_of_class_0 Unawaited not_above = refl
is_of_class_0 (User uid) not_above = absurd (not_above (above_0 (uid == 0)))
is_of_class_0 (Host host) not_above = absurd (not_above refl)
is_of_class_0 Nobody not_above = absurd (not_above refl)
is_of_class_0 New not_above = absurd (not_above refl)
is_of_class_0 Waiting not_above = absurd (not_above refl)

unawaited_may : (more same : Bool) → (more || (same || true)) ≡ true
unawaited_may true same = refl
unawaited_may false true = refl
unawaited_may false false = refl

pub unawaited_go_first : UnawaitedGoFirst
unawaited_go_first places newcomer now place k holder other given held at_k ended =
    let may : may_go (may_hold_more places newcomer) newcomer other.origin ≡ true =
    ap (λ (b : Bool). may_hold_more places newcomer || (is_same_origin other.origin newcomer || b)) (ap is_unawaited ended) ∙ unawaited_may _ _ in
    let same = same_holder places place given.holder holder given.may.holds held in
    subst (λ (h : Holder). h.origin ≡ Unawaited) same (is_of_class_0 given.holder.origin (λ above.
    given.first k other (record { holds = at_k; may = may })
    (by_class (candidate_of places now k other) (candidate_of places now place given.holder)
    (subst (λ (o : Origin). nat_cmp (class_of o) (class_of given.holder.origin) ≡ Less) (sym ended) above))))

-- ---- those that wait

later_goes : (places : Places) (now k place : ℕ) (a b : Holder) → a.origin ≡ Waiting → b.origin ≡ Waiting → a.standing ≡ b.standing → a.since < 2 ^ 64 → b.since < a.since
    → GoesBefore (candidate_of places now k a) (candidate_of places now place b)
later_goes places now k place a b first second standing fits later =
    let same : a.origin ≡ b.origin = first ∙ sym second in
    by_turn (candidate_of places now k a) (candidate_of places now place b)
    (ap class_of same)
    (ap (is_within_share places) same)
    (ap is_local same)
    (ap (λ (o : Origin). is_active o a.since now) first ∙ sym (ap (λ (o : Origin). is_active o b.since now) second))
    standing
    (subst (λ (o : Origin). goes_by o a.since < goes_by b.origin b.since) (sym first)
    (subst (λ (o : Origin). goes_by Waiting a.since < goes_by o b.since) (sym second) (omega (arith, fits, later))))

pub earlier_waits : EarlierWaits
earlier_waits places newcomer now place k holder other given held waits at_k others_wait standing fits = split (nat_lt holder.since other.since) refl
  where
    split : (b : Bool) → nat_lt holder.since other.since ≡ b → other.since ≤ holder.since
    split false e = grind (arith, nat_tests, e)
    split true e =
        let same = same_holder places place given.holder holder given.may.holds held in
        let may_too = subst (λ (o : Origin). may_go (may_hold_more places newcomer) newcomer o ≡ true)
        (ap (λ (h : Holder). h.origin) same ∙ waits ∙ sym others_wait) given.may.may in
        let later : holder.since < other.since = grind (arith, nat_tests, e) in
        absurd (given.first k other (record { holds = at_k; may = may_too })
        (subst (λ (h : Holder). GoesBefore (candidate_of places now k other) (candidate_of places now place h)) (sym same)
        (later_goes places now k place other holder others_wait waits standing fits later)))

less_bools : (a b : Bool) → a ≡ false → b ≡ true → bool_cmp a b ≡ Less
less_bools false true e f = refl
less_bools true b e f = absurd (true≢false e)
less_bools false false e f = absurd (true≢false (sym f))

-- whoever does not go before one that is within its share, of this host and active is so too, and stands no earlier
no_earlier : (a b : Candidate) (share local active : Bool) → a.is_within_share ≡ share → a.is_local ≡ local → a.is_active ≡ active
    → a.class ≡ b.class → b.is_within_share ≡ true → b.is_local ≡ true → b.is_active ≡ true → ¬ GoesBefore a b → rank b.standing ≤ rank a.standing
no_earlier a b false local active x y z class is_share is_local is_active not_before = absurd (not_before (by_share a b class (less_bools _ _ x is_share)))
no_earlier a b true false active x y z class is_share is_local is_active not_before =
    absurd (not_before (by_local a b class (x ∙ sym is_share) (less_bools _ _ y is_local)))
no_earlier a b true true false x y z class is_share is_local is_active not_before =
    absurd (not_before (by_active a b class (x ∙ sym is_share) (y ∙ sym is_local) (less_bools _ _ z is_active)))
no_earlier a b true true true x y z class is_share is_local is_active not_before = split (nat_lt (rank a.standing) (rank b.standing)) refl
  where
    split : (less : Bool) → nat_lt (rank a.standing) (rank b.standing) ≡ less → rank b.standing ≤ rank a.standing
    split false e = grind (arith, nat_tests, e)
    split true e =
        let less : rank a.standing < rank b.standing = grind (arith, nat_tests, e) in
        absurd (not_before (by_rank a b class (x ∙ sym is_share) (y ∙ sym is_local) (z ∙ sym is_active) less))

class_by : (a : Origin) → is_roots a ≡ false → ¬ (nat_cmp (class_of a) 1 ≡ Less) → class_of a ≡ 1
class_by (Host host) bounded not_first = refl
class_by (User uid) bounded not_first = grind (arith, bounded)
class_by Nobody bounded not_first = refl
class_by New bounded not_first = refl
class_by Waiting bounded not_first = refl
class_by Unawaited bounded not_first = absurd (not_first refl)

more_for_another : (more same : Bool) → (more || (same || false)) ≡ true → same ≡ false → more ≡ true
more_for_another true same may another = refl
more_for_another false true may another = absurd (true≢false another)
more_for_another false false may another = absurd (true≢false (sym may))

pub waiters_go_last : WaitersGoLast
waiters_go_last places newcomer now place k holder other given another share held waits standing at_k bounded =
    let same = same_holder places place given.holder holder given.may.holds held in
    let origin : given.holder.origin ≡ Waiting = ap (λ (h : Holder). h.origin) same ∙ waits in
    let stands : given.holder.standing ≡ Awaiting = ap (λ (h : Holder). h.standing) same ∙ standing in
    let more = more_for_another (may_hold_more places newcomer) (is_same_origin Waiting newcomer)
    (subst (λ (o : Origin). may_go (may_hold_more places newcomer) newcomer o ≡ true) origin given.may.may) another in
    let first = given.first k other (any_may places newcomer k other more at_k) in
    let a = candidate_of places now k other in
    let b = candidate_of places now place given.holder in
    let class = class_by other.origin bounded (λ less. first (by_class a b (subst (λ (o : Origin). nat_cmp (class_of other.origin) (class_of o) ≡ Less) (sym origin) less))) in
    subst (λ (s : Standing). rank s ≤ rank other.standing) stands
    (no_earlier a b (is_within_share places other.origin) (is_local other.origin) (is_active other.origin other.since now) refl refl refl
    (class ∙ sym (ap class_of origin))
    (ap (is_within_share places) origin ∙ share)
    (ap is_local origin)
    (ap (λ (o : Origin). is_active o given.holder.since now) origin)
    first)

-- ---- what a user of this host can't take

same_origin_is : (a b : Origin) → is_same_origin a b ≡ true → a ≡ b
same_origin_is (Host a) (Host b) same = ap (λ (h : hosts.Host). let o : Origin = Host h in o) (same_host_is a b same)
same_origin_is (User a) (User b) same = let is : a ≡ b = grind (arith, nat_tests, same) in ap (λ (uid : ℕ). let o : Origin = User uid in o) is
same_origin_is Nobody Nobody same = refl
same_origin_is New New same = refl
same_origin_is Waiting Waiting same = refl
same_origin_is Unawaited Unawaited same = refl
same_origin_is (Host a) (User b) same = absurd (true≢false (sym same))
same_origin_is (Host a) Nobody same = absurd (true≢false (sym same))
same_origin_is (Host a) New same = absurd (true≢false (sym same))
same_origin_is (Host a) Waiting same = absurd (true≢false (sym same))
same_origin_is (Host a) Unawaited same = absurd (true≢false (sym same))
same_origin_is (User a) (Host b) same = absurd (true≢false (sym same))
same_origin_is (User a) Nobody same = absurd (true≢false (sym same))
same_origin_is (User a) New same = absurd (true≢false (sym same))
same_origin_is (User a) Waiting same = absurd (true≢false (sym same))
same_origin_is (User a) Unawaited same = absurd (true≢false (sym same))
same_origin_is Nobody (Host b) same = absurd (true≢false (sym same))
same_origin_is Nobody (User b) same = absurd (true≢false (sym same))
same_origin_is Nobody New same = absurd (true≢false (sym same))
same_origin_is Nobody Waiting same = absurd (true≢false (sym same))
same_origin_is Nobody Unawaited same = absurd (true≢false (sym same))
same_origin_is New (Host b) same = absurd (true≢false (sym same))
same_origin_is New (User b) same = absurd (true≢false (sym same))
same_origin_is New Nobody same = absurd (true≢false (sym same))
same_origin_is New Waiting same = absurd (true≢false (sym same))
same_origin_is New Unawaited same = absurd (true≢false (sym same))
same_origin_is Waiting (Host b) same = absurd (true≢false (sym same))
same_origin_is Waiting (User b) same = absurd (true≢false (sym same))
same_origin_is Waiting Nobody same = absurd (true≢false (sym same))
same_origin_is Waiting New same = absurd (true≢false (sym same))
same_origin_is Waiting Unawaited same = absurd (true≢false (sym same))
same_origin_is Unawaited (Host b) same = absurd (true≢false (sym same))
same_origin_is Unawaited (User b) same = absurd (true≢false (sym same))
same_origin_is Unawaited Nobody same = absurd (true≢false (sym same))
same_origin_is Unawaited New same = absurd (true≢false (sym same))
same_origin_is Unawaited Waiting same = absurd (true≢false (sym same))

some_counts : (a b c d : Bool) → 1 ≤ cond (not (a || (b || (c || d)))) 1 0 + (cond a 1 0 + (cond b 1 0 + (cond c 1 0 + (cond d 1 0 + 0))))
some_counts true b c d = omega arith
some_counts false true c d = omega arith
some_counts false false true d = omega arith
some_counts false false false true = omega arith
some_counts false false false false = omega arith

module _ (uid : ℕ) where
  one : (place : Option Holder)
      → 1 ≤ cond (is_held_by_another uid place) 1 0
      + (cond (is_held_by (User uid) place) 1 0 + (cond (is_held_by New place) 1 0 + (cond (is_held_by Waiting place) 1 0 + (cond (is_held_by Unawaited place) 1 0 + cond (is_free place) 1 0))))
  one None = omega arith
  one (Some holder) =
      some_counts (is_same_origin holder.origin (User uid)) (is_same_origin holder.origin New) (is_same_origin holder.origin Waiting) (is_same_origin holder.origin Unawaited)

  all_count : (places : Places)
      → length places ≤ count_by (is_held_by_another uid) places
      + (count_held_by places (User uid) + (count_held_by places New + (count_held_by places Waiting + (count_held_by places Unawaited + count_by is_free places))))
  all_count [] = omega arith
  all_count (place ∷ rest) =
      let a = sum_by-cons (λ x. cond (is_held_by_another uid x) 1 0) place rest in
      let b = sum_by-cons (λ x. cond (is_held_by (User uid) x) 1 0) place rest in
      let c = sum_by-cons (λ x. cond (is_held_by New x) 1 0) place rest in
      let d = sum_by-cons (λ x. cond (is_held_by Waiting x) 1 0) place rest in
      let e = sum_by-cons (λ x. cond (is_held_by Unawaited x) 1 0) place rest in
      let f = sum_by-cons (λ x. cond (is_free x) 1 0) place rest in
      omega (arith, a, b, c, d, e, f, one place, all_count rest)

-- the class of all others than root and those on which nobody waits
class_1 : (uid : ℕ) (a : Origin) → is_anothers uid a ≡ true → is_roots a ≡ false → class_of a ≡ 1
class_1 uid (Host host) other bounded = refl
class_1 uid (User a) other bounded = grind (arith, bounded)
class_1 uid Nobody other bounded = refl
class_1 uid New other bounded = absurd (true≢false (sym other))
class_1 uid Waiting other bounded = absurd (true≢false (sym other))
class_1 uid Unawaited other bounded = absurd (true≢false (sym other))

module _ (places : Places) (newcomer : Origin) (now place uid : ℕ) (given : IsGivenUp places newcomer now place) (more : may_hold_more places newcomer ≡ true)
    (other : is_anothers uid given.holder.origin ≡ true) (within_share : is_within_share places given.holder.origin ≡ true) (bounded : is_roots given.holder.origin ≡ false) where
  class_is : class_of given.holder.origin ≡ 1
  class_is = class_1 uid given.holder.origin other bounded

  not_over : (a : Origin) → class_of a ≡ 1 → is_roots a ≡ false → count_held_by places a ≤ share_of a (length places)
  not_over a class root = split (nat_lt (share_of a (length places)) (count_held_by places a)) refl
    where
      split : (b : Bool) → nat_lt (share_of a (length places)) (count_held_by places a) ≡ b → count_held_by places a ≤ share_of a (length places)
      split false e = grind (arith, nat_tests, e)
      split true e =
          let some : 0 < count_held_by places a = grind (arith, nat_tests, e) in
          let found = some_counted (is_held_by a) places some in
          absurd (at found.0 found.1 found.2 found.3)
        where
          is_over : is_within_share places a ≡ false
          is_over = grind (arith, e, root)

          at : (k : ℕ) (held : Option Holder) → slice_get places k ≡ Some held → is_held_by a held ≡ true → ⊥
          at k None here e = true≢false (sym e)
          at k (Some holder) here e =
              let same = same_origin_is holder.origin a e in
              given.first k holder (any_may places newcomer k holder more here)
              (by_share (candidate_of places now k holder) (candidate_of places now place given.holder)
              (ap class_of same ∙ class ∙ sym class_is)
              (subst (λ b. bool_cmp (is_within_share places holder.origin) b ≡ Less) (sym within_share)
              (subst (λ b. bool_cmp b true ≡ Less) (sym (ap (is_within_share places) same ∙ is_over)) refl)))

  none_unawaited : count_held_by places Unawaited ≤ 0
  none_unawaited = split (nat_lt 0 (count_held_by places Unawaited)) refl
    where
      at : (k : ℕ) (held : Option Holder) → slice_get places k ≡ Some held → is_held_by Unawaited held ≡ true → ⊥
      at k None here e = true≢false (sym e)
      at k (Some holder) here e =
          let same = same_origin_is holder.origin Unawaited e in
          given.first k holder (any_may places newcomer k holder more here)
          (by_class (candidate_of places now k holder) (candidate_of places now place given.holder)
          (subst (λ n. nat_cmp (class_of holder.origin) n ≡ Less) (sym class_is)
          (subst (λ (o : Origin). nat_cmp (class_of o) 1 ≡ Less) (sym same) refl)))

      split : (b : Bool) → nat_lt 0 (count_held_by places Unawaited) ≡ b → count_held_by places Unawaited ≤ 0
      split false e = grind (arith, nat_tests, e)
      split true e =
          let some : 0 < count_held_by places Unawaited = grind (arith, nat_tests, e) in
          let found = some_counted (is_held_by Unawaited) places some in
          absurd (at found.0 found.1 found.2 found.3)

users_class : (uid : ℕ) → is_roots (User uid) ≡ false → class_of (User uid) ≡ 1
users_class uid bounded = grind (arith, bounded)

pub others_keep_a_quarter : OthersKeepAQuarter
others_keep_a_quarter places newcomer now place uid holder given more held other share bounded user =
    let same = same_holder places place holder given.holder held given.may.holds in
    let other_too = subst (λ (h : Holder). is_anothers uid h.origin ≡ true) same other in
    let share_too = subst (λ (h : Holder). is_within_share places h.origin ≡ true) same share in
    let bounded_too = subst (λ (h : Holder). is_roots h.origin ≡ false) same bounded in
    let of = not_over places newcomer now place uid given more other_too share_too bounded_too in
    omega (arith, all_count uid places, of (User uid) (users_class uid user) user, of New refl refl, of Waiting refl refl, none_unawaited places newcomer now place uid given more other_too share_too bounded_too)
