-- Keys: when they are one, and the first keys of a list.
use Rattle.std.proofs.Common.{◌≡◌, ℕ, ◌<◌, ◌≤◌, Bool, true, false, not, cond, ◌&&◌, ◌||◌, List, [], ◌∷◌, ◌++◌, length, take, drop, Option, Some, None, refl, sym, ap, ◌∙◌, eq-eqb, eqb, arith, length-append, append-nil}
use Rattle.std.specs.Prelude.{filter, is_none, is_some}
use Rattle.std.specs.List.{list_any}
use Rattle.std.proofs.lemmas.Bool.{eqb-true}
use Rattle.std.proofs.lemmas.List.{take-append-drop, take-append-le, take_all, length-take}
use Rattle.std.proofs.lemmas.List.Elements.{filter-append}
use Rattle.std.proofs.lemmas.List.Folds.{list_any-append}
use Rattle.rb_address.specs.declared.netid.Netid.{Netid}
use Rattle.rb_address.specs.declared.netid.Netid.TheVariants.{Tcp, Udp, Tcp6, Udp6, Local}
use Rattle.rb_address.specs.Netids.{is_netid}
use Rattle.rb_stats.specs.declared.key.Version.{Version}
use Rattle.rb_stats.specs.declared.key.Version.TheVariants.{Two, Three, Four}
use Rattle.rb_stats.specs.declared.key.Info.{Info}
use Rattle.rb_stats.specs.declared.key.Info.TheVariants.{Addr, Rmt}
use Rattle.rb_stats.specs.declared.key.Target.{Target}
use Rattle.rb_stats.specs.declared.key.Key.{Key}
use Rattle.rb_stats.specs.Statistics.{is_version, is_target, is_proc, is_key, is_in, info_of, distinct_keys, greatest_list}

pub both : (a b : Bool) → (a && b) ≡ true → (a ≡ true) × (b ≡ true)
both true b e = (refl, e)
both false b e = absurd cc

pub by_test : (P : Bool → Type 0) (b : Bool) → ((b ≡ true) → P true) → ((b ≡ false) → P false) → P b
by_test P true t f = t refl
by_test P false t f = f refl

-- ---- one key

pub version_same : (a b : Version) → is_version a b ≡ true → a ≡ b
version_same Two Two h = refl
version_same Three Three h = refl
version_same Four Four h = refl
version_same _ _ h = absurd cc

netid_same : (a b : Netid) → is_netid a b ≡ true → a ≡ b
unfolding is_netid
netid_same Tcp Tcp h = refl
netid_same Udp Udp h = refl
netid_same Tcp6 Tcp6 h = refl
netid_same Udp6 Udp6 h = refl
netid_same Local Local h = refl
netid_same _ _ h = absurd cc

target_same : (a b : Target) → is_target a b ≡ true → a ≡ b
target_same a b h =
    let p = both (eqb a.prog b.prog && eqb a.vers b.vers) (is_netid a.netid b.netid) h in
    let q = both (eqb a.prog b.prog) (eqb a.vers b.vers) p.0 in
    let prog : a.prog ≡ b.prog = eqb-true a.prog b.prog q.0 in
    let vers : a.vers ≡ b.vers = eqb-true a.vers b.vers q.1 in
    let netid : a.netid ≡ b.netid = netid_same a.netid b.netid p.1 in
    ap (λ (n : ℕ). record a { prog = n }) prog ∙ ap (λ (n : ℕ). record a { prog = b.prog; vers = n }) vers ∙ ap (λ (n : Netid). record b { netid = n }) netid

proc_same : (a b : Option ℕ) → is_proc a b ≡ true → a ≡ b
proc_same None None h = refl
proc_same (Some a) (Some b) h = ap (λ (n : ℕ). Some n) (eqb-true a b h)
proc_same _ _ h = absurd cc

-- keys that pass for one are one
pub key_same : (a b : Key) → is_key a b ≡ true → a ≡ b
unfolding is_key
key_same a b h =
    let p = both (is_version a.version b.version && is_target a.target b.target) (is_proc a.proc b.proc) h in
    let q = both (is_version a.version b.version) (is_target a.target b.target) p.0 in
    let version : a.version ≡ b.version = version_same a.version b.version q.0 in
    let target : a.target ≡ b.target = target_same a.target b.target q.1 in
    let proc : a.proc ≡ b.proc = proc_same a.proc b.proc p.1 in
    ap (λ (v : Version). record a { version = v }) version ∙ ap (λ (t : Target). record a { version = b.version; target = t }) target ∙ ap (λ (o : Option ℕ). record b { proc = o }) proc

version_itself : (a : Version) → is_version a a ≡ true
version_itself Two = refl
version_itself Three = refl
version_itself Four = refl

netid_itself : (a : Netid) → is_netid a a ≡ true
unfolding is_netid
netid_itself Tcp = refl
netid_itself Udp = refl
netid_itself Tcp6 = refl
netid_itself Udp6 = refl
netid_itself Local = refl

proc_itself : (a : Option ℕ) → is_proc a a ≡ true
proc_itself None = refl
proc_itself (Some a) = eq-eqb a a refl

pub key_itself : (a : Key) → is_key a a ≡ true
unfolding is_key
key_itself a =
    rw (version_itself a.version, eq-eqb a.target.prog a.target.prog refl, eq-eqb a.target.vers a.target.vers refl, netid_itself a.target.netid, proc_itself a.proc) refl

-- a key has its item in one list
pub in_place : (version : Version) (info : Info) (key : Key) → is_in version info key ≡ true → (key.version ≡ version) × (info_of key.proc ≡ info)
unfolding is_in
in_place version Addr key h = let p = both (is_version key.version version) _ h in (version_same key.version version p.0, by_proc key.proc p.1)
  where
    by_proc : (o : Option ℕ) → is_none o ≡ true → info_of o ≡ Addr
    by_proc None h = refl
    by_proc (Some n) h = absurd cc
in_place version Rmt key h = let p = both (is_version key.version version) _ h in (version_same key.version version p.0, by_proc key.proc p.1)
  where
    by_proc : (o : Option ℕ) → is_some o ≡ true → info_of o ≡ Rmt
    by_proc None h = absurd cc
    by_proc (Some n) h = refl

-- ---- the first keys of a list

abbrev pub is_other : Key → Key → Bool
is_other key other = not (is_key key other)

module _ (k : Key) where
  abbrev same_key : Key → Bool
  same_key other = is_key other k

  -- the key at the end, if none is the same
  abbrev if_new : Bool → List Key
  if_new any = cond any [] (k ∷ [])

  not_passed : (first : Key) (any : Bool) → filter (is_other first) (if_new any) ≡ if_new (is_key first k || any)
  not_passed first true = elim (is_key first k) as (λ b. [] ≡ if_new (b || true)) [ true ↦ refl | false ↦ refl ]
  not_passed first false = elim (is_key first k) as (λ b. cond (not b) (k ∷ []) [] ≡ if_new (b || false)) [ true ↦ refl | false ↦ refl ]

  -- one more key is new, or it is there
  pub distinct-push : (keys : List Key) → distinct_keys (keys ++ k ∷ []) ≡ distinct_keys keys ++ if_new (list_any same_key keys)
  distinct-push [] = refl
  distinct-push (first ∷ keys) =
      ap (λ (ks : List Key). first ∷ filter (is_other first) ks) (distinct-push keys)
      ∙ ap (λ (ks : List Key). first ∷ ks) (filter-append (is_other first) (distinct_keys keys) (if_new (list_any same_key keys)))
      ∙ ap (λ (ks : List Key). first ∷ (filter (is_other first) (distinct_keys keys) ++ ks)) (not_passed first (list_any same_key keys))

  any-others : (first : Key) → is_key first k ≡ false → (keys : List Key) → list_any same_key (filter (is_other first) keys) ≡ list_any same_key keys
  any-others first differs [] = refl
  any-others first differs (key ∷ keys) =
      by_test (λ b. list_any same_key (cond (not b) (key ∷ filter (is_other first) keys) (filter (is_other first) keys)) ≡ (is_key key k || list_any same_key keys)) (is_key first key)
      (λ same. let e : first ≡ key = key_same first key same in let f : is_key key k ≡ false = rw (← e) differs in rw f (any-others first differs keys))
      (λ other. ap (λ b. is_key key k || b) (any-others first differs keys))

  pub any-distinct : (keys : List Key) → list_any same_key (distinct_keys keys) ≡ list_any same_key keys
  any-distinct [] = refl
  any-distinct (first ∷ keys) =
      by_test (λ b. (b || list_any same_key (filter (is_other first) (distinct_keys keys))) ≡ (b || list_any same_key keys)) (is_key first k)
      (λ same. refl)
      (λ differs. any-others first differs (distinct_keys keys) ∙ any-distinct keys)

  or_true : (b : Bool) → (b || true) ≡ true
  or_true true = refl
  or_true false = refl

  any-take : (n : ℕ) (keys : List Key) → list_any same_key (take n keys) ≡ true → list_any same_key keys ≡ true
  any-take n keys found =
      ap (list_any same_key) (sym (take-append-drop n keys)) ∙ list_any-append same_key (take n keys) (drop n keys) ∙ rw found refl

  module _ (keys : List Key) where
    -- a key that is among the first stays
    pub first-found : list_any same_key (take greatest_list (distinct_keys keys)) ≡ true → take greatest_list (distinct_keys (keys ++ k ∷ [])) ≡ take greatest_list (distinct_keys keys)
    first-found found =
        let there : list_any same_key keys ≡ true = sym (any-distinct keys) ∙ any-take greatest_list (distinct_keys keys) found in
        ap (take greatest_list) (distinct-push keys ∙ ap (λ b. distinct_keys keys ++ if_new b) there ∙ append-nil (distinct_keys keys))

    whole : length (take greatest_list (distinct_keys keys)) < greatest_list → length (distinct_keys keys) < greatest_list
    whole few = omega (arith, length-take greatest_list (distinct_keys keys))

    all_taken : length (take greatest_list (distinct_keys keys)) < greatest_list → take greatest_list (distinct_keys keys) ≡ distinct_keys keys
    all_taken few = take_all greatest_list (distinct_keys keys) (omega (arith, whole few))

    pub not-first : list_any same_key (take greatest_list (distinct_keys keys)) ≡ false → length (take greatest_list (distinct_keys keys)) < greatest_list → list_any same_key keys ≡ false
    not-first missing few = let all : take greatest_list (distinct_keys keys) ≡ distinct_keys keys = all_taken few in sym (any-distinct keys) ∙ rw all at missing

    -- a new key among fewer comes last
    pub first-new : list_any same_key (take greatest_list (distinct_keys keys)) ≡ false → length (take greatest_list (distinct_keys keys)) < greatest_list
        → take greatest_list (distinct_keys (keys ++ k ∷ [])) ≡ take greatest_list (distinct_keys keys) ++ k ∷ []
    first-new missing few =
        let all : take greatest_list (distinct_keys keys) ≡ distinct_keys keys = all_taken few in
        let none_there : list_any same_key keys ≡ false = not-first missing few in
        ap (take greatest_list) (distinct-push keys ∙ ap (λ b. distinct_keys keys ++ if_new b) none_there)
        ∙ take_all greatest_list (distinct_keys keys ++ k ∷ []) (omega (arith, whole few, length-append (distinct_keys keys) (k ∷ [])))
        ∙ ap (λ (ks : List Key). ks ++ k ∷ []) (sym all)

    -- and stays out if they are all that there may be
    pub first-full : greatest_list ≤ length (take greatest_list (distinct_keys keys)) → take greatest_list (distinct_keys (keys ++ k ∷ [])) ≡ take greatest_list (distinct_keys keys)
    first-full full =
        ap (take greatest_list) (distinct-push keys)
        ∙ take-append-le greatest_list (distinct_keys keys) (if_new (list_any same_key keys)) (omega (arith, length-take greatest_list (distinct_keys keys)))
