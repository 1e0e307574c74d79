-- What a brake keeps of what was served decides as all of it does.
use Rattle.std.proofs.Common.{◌≡◌, ◌<◌, ◌≤◌, ◌≢◌, ◌+◌, ◌-◌, ℕ, suc, Bool, true, false, cond, if◌then◌else◌, nat_lt, nat_le, eqb, max, ◌&&◌, ◌||◌, List, [], ◌∷◌, ◌++◌, length, drop, map, replicate, get_or, set, refl, sym, ap, ◌∙◌, subst, arith}
use Rattle.std.specs.List.{count_by, filter, AllByRecursion}
use Rattle.std.proofs.lemmas.Bool.Decides.{nat_tests}
use Rattle.std.proofs.lemmas.List.{append-nil, map-append, length-append, length-drop, drop-drop, drop-append-le, length-set, length-replicate, get_or-replicate, get_or-set_same, get_or-set_other}
use Rattle.std.proofs.lemmas.List.Elements.{filter-append}
use Rattle.std.proofs.lemmas.List.Sums.{sum_by-cons, count_by-le-length}
use Rattle.rb_address.specs.declared.host.Host.{Host}
use Rattle.rb_policy.specs.declared.brake.Rate.{Rate}
use Rattle.rb_policy.specs.declared.places.PlaceKey.{PlaceKey}
use Rattle.rb_policy.specs.Places.{table_places, network_place, host_place}
use Rattle.rb_policy.specs.Recents.{RecentMoments, one_second, last_of, is_first_old, has_room, noted, nothing_of}
use Rattle.rb_policy.specs.Brake.{Datagram, latest_of, moment_of, served_within, has_room_at, admits, admit, moments_at, IsTable, AreInOrder, BrakeTables, StandsForServed}

-- ---- the last of many moments

-- how many count at a moment
abbrev count_at : ℕ → List ℕ → ℕ
count_at now moments = count_by (λ m. nat_lt now (m + one_second)) moments

count_cons : (now m : ℕ) (more : List ℕ) → count_at now (m ∷ more) ≡ cond (nat_lt now (m + one_second)) 1 0 + count_at now more
count_cons now m more = sum_by-cons (λ k. cond (nat_lt now (k + one_second)) 1 0) m more

count_le : (now : ℕ) (moments : List ℕ) → count_at now moments ≤ length moments
count_le now moments = count_by-le-length (λ m. nat_lt now (m + one_second)) moments

-- after one that counts all count
all_count : (now m : ℕ) (more : List ℕ) → AllByRecursion (λ later. m ≤ later) more → now < m + one_second → count_at now more ≡ length more
all_count now m [] later counts = refl
all_count now m (x ∷ more) later counts =
    let within : now < x + one_second = omega (arith, later.0, counts) in
    count_cons now x more ∙ one (nat_lt now (x + one_second)) (count_at now more) (length more) (grind (arith, nat_tests, within)) (all_count now m more later.1 counts)
  where
    one : (b : Bool) (c n : ℕ) → b ≡ true → c ≡ n → cond b 1 0 + c ≡ suc n
    one true c n e same = omega (arith, same)
    one false c n e same = grind (arith, e)

-- all are kept
whole : (most n c now m : ℕ) → n < most → c ≤ n → (now < m + one_second → c ≡ n) → (nat_lt (suc n) most || nat_le (m + one_second) now) ≡ nat_lt (cond (nat_lt now (m + one_second)) 1 0 + c) most
whole most n c now m few within all = grind (arith, nat_tests, few, within, all)

-- the first is not kept
further : (most n c now m : ℕ) → most ≤ n → c ≤ n → (now < m + one_second → c ≡ n) → nat_lt c most ≡ nat_lt (cond (nat_lt now (m + one_second)) 1 0 + c) most
further most n c now m many within all = grind (arith, nat_tests, many, within, all)

short : (most : ℕ) (moments : List ℕ) → length moments ≤ most → last_of most moments ≡ moments
short most moments le = let none : length moments - most ≡ 0 = omega (arith, le) in ap (λ (n : ℕ). drop n moments) none

or_false : (b : Bool) → (b || false) ≡ b
or_false true = refl
or_false false = refl

-- The last tell whether fewer than the most count.
held : (most now : ℕ) (moments : List ℕ) → AreInOrder moments → (nat_lt (length (last_of most moments)) most || is_first_old (last_of most moments) now) ≡ nat_lt (count_at now moments) most
held most now [] order = rw (short most [] (omega arith)) (or_false (nat_lt 0 most))
held most now (m ∷ more) order = split (held most now more order.1) (nat_lt (length more) most) refl
  where
    all : now < m + one_second → count_at now more ≡ length more
    all = all_count now m more order.0

    split : (nat_lt (length (last_of most more)) most || is_first_old (last_of most more) now) ≡ nat_lt (count_at now more) most → (b : Bool) → nat_lt (length more) most ≡ b → (nat_lt (length (last_of most (m ∷ more))) most || is_first_old (last_of most (m ∷ more)) now) ≡ nat_lt (count_at now (m ∷ more)) most
    split held_behind true e =
        let few : length more < most = grind (arith, nat_tests, e) in
        rw (short most (m ∷ more) (omega (arith, few)), count_cons now m more)
        (whole most (length more) (count_at now more) now m few (count_le now more) all)
    split held_behind false e =
        let many : most ≤ length more = grind (arith, nat_tests, e) in
        let less : suc (length more) - most ≡ suc (length more - most) = omega (arith, many) in
        rw (less, count_cons now m more)
        (held_behind ∙ further most (length more) (count_at now more) now m many (count_le now more) all)

-- of the last and one more, the last are those of all and one more
one_more : (most m : ℕ) (moments : List ℕ) → last_of most (last_of most moments ++ m ∷ []) ≡ last_of most (moments ++ m ∷ [])
one_more most m moments = split (nat_lt (length moments) most) refl
  where
    split : (b : Bool) → nat_lt (length moments) most ≡ b → last_of most (last_of most moments ++ m ∷ []) ≡ last_of most (moments ++ m ∷ [])
    split true e =
        let few : length moments < most = grind (arith, nat_tests, e) in
        ap (λ (xs : List ℕ). last_of most (xs ++ m ∷ [])) (short most moments (omega (arith, few)))
    split false e =
        let many : most ≤ length moments = grind (arith, nat_tests, e) in
        let k = length moments - most in
        let within : k ≤ length moments = omega arith in
        let kept : length (drop k moments ++ m ∷ []) - most ≡ 1 = omega (arith, many, length-append (drop k moments) (m ∷ []), length-drop k moments) in
        let dropped : length (moments ++ m ∷ []) - most ≡ k + 1 = omega (arith, many, length-append moments (m ∷ [])) in
        ap (λ (n : ℕ). drop n (drop k moments ++ m ∷ [])) kept
        ∙ ap (drop 1) (sym (drop-append-le k moments (m ∷ []) within))
        ∙ drop-drop 1 k (moments ++ m ∷ [])
        ∙ ap (λ (n : ℕ). drop n (moments ++ m ∷ [])) (sym dropped)

-- ---- moments in order

all_push : (P : ℕ → Type 0) (m : ℕ) (moments : List ℕ) → AllByRecursion P moments → P m → AllByRecursion P (moments ++ m ∷ [])
all_push P m [] all p = (p, tt)
all_push P m (x ∷ more) all p = (all.0, all_push P m more all.1 p)

order_push : (m : ℕ) (moments : List ℕ) → AreInOrder moments → AllByRecursion (λ k. k ≤ m) moments → AreInOrder (moments ++ m ∷ [])
order_push m [] order all = (tt, tt)
order_push m (x ∷ more) order all = (all_push (λ later. x ≤ later) m more order.0 all.0, order_push m more order.1 all.1)

-- those of some
abbrev moments_of : List Datagram → List ℕ
moments_of served = map (λ (d : Datagram). d.moment) served

all_latest : (m : ℕ) (served : List Datagram) → latest_of served ≤ m → AllByRecursion (λ k. k ≤ m) (moments_of served)
all_latest m [] le = tt
all_latest m (d ∷ more) le = (omega (arith, le), all_latest m more (omega (arith, le)))

pub in_order : (d : Datagram) (served : List Datagram) → AreInOrder (moments_of served) → latest_of served ≤ d.moment → AreInOrder (moments_of (served ++ d ∷ []))
in_order d served order le =
    rw (map-append (λ (e : Datagram). e.moment) served (d ∷ [])) (order_push d.moment (moments_of served) order (all_latest d.moment served le))

pub latest_push : (d : Datagram) (served : List Datagram) → latest_of served ≤ d.moment → latest_of (served ++ d ∷ []) ≡ d.moment
latest_push d [] le = omega arith
latest_push d (x ∷ more) le = omega (arith, le, latest_push d more (omega (arith, le)))

module _ (p : Datagram → Bool) where
  all_filter : (P : ℕ → Type 0) (served : List Datagram) → AllByRecursion P (moments_of served) → AllByRecursion P (moments_of (filter p served))
  all_filter P [] all = tt
  all_filter P (d ∷ more) all = split (all_filter P more all.1) (p d)
    where
      split : AllByRecursion P (moments_of (filter p more)) → (b : Bool) → AllByRecursion P (moments_of (cond b (d ∷ filter p more) (filter p more)))
      split rest true = (all.0, rest)
      split rest false = rest

  order_filter : (served : List Datagram) → AreInOrder (moments_of served) → AreInOrder (moments_of (filter p served))
  order_filter [] order = tt
  order_filter (d ∷ more) order = split (order_filter more order.1) (p d)
    where
      split : AreInOrder (moments_of (filter p more)) → (b : Bool) → AreInOrder (moments_of (cond b (d ∷ filter p more) (filter p more)))
      split rest true = (all_filter (λ later. d.moment ≤ later) more order.0, rest)
      split rest false = rest

-- ---- the moments of one place

module _ (place_of : Host → ℕ) (place : ℕ) where
  within_is : (now : ℕ) (served : List Datagram) → served_within place_of place now served ≡ count_at now (moments_at place_of place served)
  within_is now [] = refl
  within_is now (d ∷ more) =
      sum_by-cons (λ (e : Datagram). cond (eqb (place_of e.host) place && nat_lt now (e.moment + one_second)) 1 0) d more
      ∙ split (within_is now more) (eqb (place_of d.host) place)
    where
      split : served_within place_of place now more ≡ count_at now (moments_at place_of place more) → (b : Bool) → cond (b && nat_lt now (d.moment + one_second)) 1 0 + served_within place_of place now more ≡ count_at now (moments_of (cond b (d ∷ filter (λ (e : Datagram). eqb (place_of e.host) place) more) (filter (λ (e : Datagram). eqb (place_of e.host) place) more)))
      split rest true = ap (λ (n : ℕ). cond (nat_lt now (d.moment + one_second)) 1 0 + n) rest ∙ sym (count_cons now d.moment (moments_at place_of place more))
      split rest false = omega (arith, rest)

  pushed : (d : Datagram) (served : List Datagram) (b : Bool) → eqb (place_of d.host) place ≡ b → moments_at place_of place (served ++ d ∷ []) ≡ moments_at place_of place served ++ moments_of (cond b (d ∷ []) [])
  pushed d served b e =
      let p : Datagram → Bool = λ e. eqb (place_of e.host) place in
      ap moments_of (filter-append p served (d ∷ []))
      ∙ map-append (λ (e : Datagram). e.moment) (filter p served) (filter p (d ∷ []))
      ∙ ap (λ (c : Bool). moments_at place_of place served ++ moments_of (cond c (d ∷ []) [])) e

-- ---- a table

module _ (place_of : Host → ℕ) (most : ℕ) (table : List RecentMoments) (served : List Datagram) (is : IsTable place_of most table served) where
  pub has_room_is : (now place : ℕ) (d : RecentMoments) → AreInOrder (moments_of served) → place < table_places → has_room (get_or table place d) now ≡ nat_lt (served_within place_of place now served) most
  has_room_is now place d order lt =
      ap (λ (r : RecentMoments). has_room r now) (is.each place d lt)
      ∙ held most now (moments_at place_of place served) (order_filter (λ (e : Datagram). eqb (place_of e.host) place) served order)
      ∙ ap (λ (n : ℕ). nat_lt n most) (sym (within_is place_of place now served))

  module _ (x : Datagram) (d : RecentMoments) (below : place_of x.host < table_places) where
    put : RecentMoments
    put = noted (get_or table (place_of x.host) d) x.moment

    put_is : (place : ℕ) → eqb (place_of x.host) place ≡ true → put ≡ record { most = most; moments = last_of most (moments_at place_of place (served ++ x ∷ [])) }
    unfolding put
    put_is place same =
        let at : place_of x.host ≡ place = grind (arith, nat_tests, same) in
        ap (λ (r : RecentMoments). noted r x.moment) (is.each (place_of x.host) d below)
        ∙ ap (λ (ms : List ℕ). let r : RecentMoments = record { most = most; moments = ms } in r)
        (one_more most x.moment (moments_at place_of (place_of x.host) served)
        ∙ ap (λ (p : ℕ). last_of most (moments_at place_of p served ++ x.moment ∷ [])) at
        ∙ ap (last_of most) (sym (pushed place_of place x served true same)))

    stays : (place : ℕ) (e : RecentMoments) → place < table_places → eqb (place_of x.host) place ≡ false → get_or table place e ≡ record { most = most; moments = last_of most (moments_at place_of place (served ++ x ∷ [])) }
    stays place e lt other =
        is.each place e lt
        ∙ ap (λ (ms : List ℕ). let r : RecentMoments = record { most = most; moments = last_of most ms } in r)
        (sym (pushed place_of place x served false other ∙ append-nil (moments_at place_of place served)))

    each : (place : ℕ) (e : RecentMoments) → place < table_places → get_or (set table (place_of x.host) put) place e ≡ record { most = most; moments = last_of most (moments_at place_of place (served ++ x ∷ [])) }
    each place e lt = split (eqb (place_of x.host) place) refl
      where
        split : (b : Bool) → eqb (place_of x.host) place ≡ b → get_or (set table (place_of x.host) put) place e ≡ record { most = most; moments = last_of most (moments_at place_of place (served ++ x ∷ [])) }
        split true same =
            let at : place ≡ place_of x.host = grind (arith, nat_tests, same) in
            ap (λ (p : ℕ). get_or (set table (place_of x.host) put) p e) at
            ∙ get_or-set_same table (place_of x.host) put e (omega (arith, below, is.count))
            ∙ put_is place same
        split false other =
            let apart : place ≢ place_of x.host = grind (arith, nat_tests, other) in
            get_or-set_other table (place_of x.host) place put e apart ∙ stays place e lt other

    pub is_noted : IsTable place_of most (set table (place_of x.host) (noted (get_or table (place_of x.host) d) x.moment)) (served ++ x ∷ [])
    unfolding put
    is_noted = record {
      count = length-set table (place_of x.host) put ∙ is.count;
      each = each;
    }

-- ---- a brake

nowhere : RecentMoments
nowhere = record { most = 0; moments = [] }

module _ (brake : BrakeTables) (served : List Datagram) (stands : StandsForServed brake served) (now : ℕ) (host : Host) where
  module _ (moment network place : ℕ) (moment_is : moment ≡ max now brake.latest) (network_is : network ≡ network_place brake.key host) (place_is : place ≡ host_place brake.key host) (network_below : network < table_places) (place_below : place < table_places) where
    moment_same : moment ≡ moment_of served now
    moment_same = moment_is ∙ ap (max now) stands.latest

    network_room : has_room (get_or brake.networks network nowhere) moment ≡ has_room_at (network_place brake.key) brake.rate.network served (moment_of served now) host
    network_room =
        has_room_is (network_place brake.key) brake.rate.network brake.networks served stands.networks moment network nowhere stands.in_order network_below
        ∙ ap (λ (m : ℕ). nat_lt (served_within (network_place brake.key) network m served) brake.rate.network) moment_same
        ∙ ap (λ (p : ℕ). nat_lt (served_within (network_place brake.key) p (moment_of served now) served) brake.rate.network) network_is

    host_room : has_room (get_or brake.hosts place nowhere) moment ≡ has_room_at (host_place brake.key) brake.rate.host served (moment_of served now) host
    host_room =
        has_room_is (host_place brake.key) brake.rate.host brake.hosts served stands.hosts moment place nowhere stands.in_order place_below
        ∙ ap (λ (m : ℕ). nat_lt (served_within (host_place brake.key) place m served) brake.rate.host) moment_same
        ∙ ap (λ (p : ℕ). nat_lt (served_within (host_place brake.key) p (moment_of served now) served) brake.rate.host) place_is

    -- the tables decide
    pub decides : (b : Bool) → ((d : RecentMoments) → b ≡ (has_room (get_or brake.networks network d) moment && has_room (get_or brake.hosts place d) moment)) → b ≡ admits brake.key brake.rate served now host
    unfolding admits
    decides b is =
        is nowhere
        ∙ ap (λ (r : Bool). r && has_room (get_or brake.hosts place nowhere) moment) network_room
        ∙ ap (λ (r : Bool). has_room_at (network_place brake.key) brake.rate.network served (moment_of served now) host && r) host_room

    -- one that is dropped leaves all as it was
    pub stands_where_dropped : false ≡ admits brake.key brake.rate served now host → StandsForServed brake (admit brake.key brake.rate served now host)
    unfolding admit
    stands_where_dropped dropped = subst (λ (b : Bool). StandsForServed brake (if b then served ++ (record { moment = moment_of served now; host = host } ∷ []) else served)) dropped stands

    x : Datagram
    x = record { moment = moment; host = host }

    module _ (networks hosts : List RecentMoments)
        (networks_are : (d : RecentMoments) → networks ≡ set brake.networks network (noted (get_or brake.networks network d) moment))
        (hosts_are : (d : RecentMoments) → hosts ≡ set brake.hosts place (noted (get_or brake.hosts place d) moment)) where
      abbrev after : BrakeTables
      after = record { key = brake.key; rate = brake.rate; networks = networks; hosts = hosts; latest = moment }

      latest_within : latest_of served ≤ moment
      latest_within = omega (arith, moment_is, stands.latest)

      networks_table : IsTable (network_place brake.key) brake.rate.network networks (served ++ x ∷ [])
      unfolding x
      networks_table =
          let at = ap (λ (p : ℕ). set brake.networks p (noted (get_or brake.networks p nowhere) moment)) network_is in
          subst (λ (t : List RecentMoments). IsTable (network_place brake.key) brake.rate.network t (served ++ x ∷ [])) (sym (networks_are nowhere ∙ at))
          (is_noted (network_place brake.key) brake.rate.network brake.networks served stands.networks x nowhere (subst (λ (p : ℕ). p < table_places) network_is network_below))

      hosts_table : IsTable (host_place brake.key) brake.rate.host hosts (served ++ x ∷ [])
      unfolding x
      hosts_table =
          let at = ap (λ (p : ℕ). set brake.hosts p (noted (get_or brake.hosts p nowhere) moment)) place_is in
          subst (λ (t : List RecentMoments). IsTable (host_place brake.key) brake.rate.host t (served ++ x ∷ [])) (sym (hosts_are nowhere ∙ at))
          (is_noted (host_place brake.key) brake.rate.host brake.hosts served stands.hosts x nowhere (subst (λ (p : ℕ). p < table_places) place_is place_below))

      stands_after : StandsForServed after (served ++ x ∷ [])
      unfolding x
      stands_after = record {
        networks = networks_table;
        hosts = hosts_table;
        latest = sym (latest_push x served latest_within);
        in_order = in_order x served stands.in_order latest_within;
      }

      -- one that is served is the last
      pub stands_where_served : true ≡ admits brake.key brake.rate served now host → StandsForServed after (admit brake.key brake.rate served now host)
      unfolding admit x
      stands_where_served admitted =
          subst (λ (b : Bool). StandsForServed after (if b then served ++ (record { moment = moment_of served now; host = host } ∷ []) else served)) admitted
          (subst (λ (m : ℕ). let d : Datagram = record { moment = m; host = host } in StandsForServed after (served ++ (d ∷ []))) moment_same stands_after)

new_is_table : (place_of : Host → ℕ) (most : ℕ) → IsTable place_of most (replicate table_places (nothing_of most)) []
new_is_table place_of most = record {
  count = length-replicate table_places (nothing_of most);
  each = λ place d lt.
      get_or-replicate table_places place (nothing_of most) d lt
      ∙ ap (λ (ms : List ℕ). let r : RecentMoments = record { most = most; moments = ms } in r) (sym (short most [] (omega arith)));
}

pub new_stands : (key : PlaceKey) (rate : Rate) (networks hosts : List RecentMoments) → networks ≡ replicate table_places (nothing_of rate.network) → hosts ≡ replicate table_places (nothing_of rate.host) → StandsForServed (record { key = key; rate = rate; networks = networks; hosts = hosts; latest = 0 }) []
new_stands key rate networks hosts networks_are hosts_are = record {
  networks = subst (λ (t : List RecentMoments). IsTable (network_place key) rate.network t []) (sym networks_are) (new_is_table (network_place key) rate.network);
  hosts = subst (λ (t : List RecentMoments). IsTable (host_place key) rate.host t []) (sym hosts_are) (new_is_table (host_place key) rate.host);
  latest = refl;
  in_order = tt;
}
