-- Statistics over the history of completed calls (RFC 1833 section 2.1, rpcb_stat_byvers).
use Rattle.std.specs.Prelude.{ℕ, ◌+◌, ◌-◌, ◌^◌, ◌==◌, min, Bool, true, false, not, ◌&&◌, List, [], ◌∷◌, ◌++◌, map, filter, filter_map, count_by, take, Option, Some, None, is_some, is_none}
use Rattle.rb_xdr.specs.Xdr.{number, words, opaque, linked_list}
use Rattle.rb_address.specs.Netids.{is_netid, netid_text}
use Rattle.rb_stats.specs.declared.key.Version.{Version}
use Rattle.rb_stats.specs.declared.key.Version.TheVariants.{Two, Three, Four}
use Rattle.rb_stats.specs.declared.key.Info.{Info}
use Rattle.rb_stats.specs.declared.key.Info.TheVariants.{Addr, Rmt}
use Rattle.rb_stats.specs.declared.key.Target.{Target}
use Rattle.rb_stats.specs.declared.key.Key.{Key}
use Rattle.rb_stats.specs.declared.item.Item.{Item}

-- ---- the history

-- What a completed call leaves, by the version in which it was called.
pub data Note : Type 0 where
  Called : Version → ℕ → Note  -- its procedure, whatever its arguments
  WasSet : Version → Note  -- a SET that answered TRUE
  WasUnset : Version → Note  -- an UNSET that answered TRUE
  LookedUp : Version → Target → Bool → Note  -- GETPORT, GETADDR or GETVERSADDR: whether a row was found
  Forwarded : Version → Target → ℕ → Bool → Bool → Note  -- a call of that procedure at its outcome: whether it passed, and whether it came by INDIRECT

-- ---- numbers

-- the greatest number of type int
-- STAT-2
abbrev pub greatest_int : ℕ
greatest_int = 2 ^ 31 - 1

-- how many pass the test, as far as an int goes
-- STAT-2: Each count stops at 2^31 - 1.
unfoldable pub number_of : {A : Type 0} → (A → Bool) → List A → ℕ
number_of test xs = min (count_by test xs) greatest_int

abbrev pub is_version : Version → Version → Bool
is_version Two Two = true
is_version Three Three = true
is_version Four Four = true
is_version _ _ = false

-- STAT-1
abbrev pub is_call : Version → ℕ → Note → Bool
is_call version proc (Called v p) = is_version v version && p == proc
is_call version proc _ = false

abbrev pub is_set : Version → Note → Bool
is_set version (WasSet v) = is_version v version
is_set version _ = false

abbrev pub is_unset : Version → Note → Bool
is_unset version (WasUnset v) = is_version v version
is_unset version _ = false

-- ---- keys

abbrev pub is_target : Target → Target → Bool
is_target a b = a.prog == b.prog && a.vers == b.vers && is_netid a.netid b.netid

abbrev pub is_proc : Option ℕ → Option ℕ → Bool
is_proc None None = true
is_proc (Some a) (Some b) = a == b
is_proc _ _ = false

-- STAT-4: Look-ups are counted by version, program, its version and netid; forwarded calls by the
-- procedure that is called too.
unfoldable pub is_key : Key → Key → Bool
is_key a b = is_version a.version b.version && is_target a.target b.target && is_proc a.proc b.proc

abbrev pub info_of : Option ℕ → Info
info_of None = Addr
info_of (Some proc) = Rmt

-- a version's addrinfo is of look-ups, which have no procedure, its rmtinfo of forwarded calls
unfoldable pub is_in : Version → Info → Key → Bool
is_in version Addr key = is_version key.version version && is_none key.proc
is_in version Rmt key = is_version key.version version && is_some key.proc

-- one count of a key
pub record Count : Type 0 where
  pub key : Key
  pub passed : Bool
  pub indirect : Bool

abbrev pub count_of : Note → Option Count
count_of (LookedUp version target found) = Some (record { key = record { version = version; target = target; proc = None }; passed = found; indirect = false })
count_of (Forwarded version target proc passed indirect) = Some (record { key = record { version = version; target = target; proc = Some proc }; passed = passed; indirect = indirect })
count_of _ = None

-- the counts in a list of a version
abbrev pub counts_in : Version → Info → List Count → List Count
counts_in version info counts = filter (λ (count : Count). is_in version info count.key) counts

-- each key once, where it stands first
abbrev pub distinct_keys : List Key → List Key
distinct_keys [] = []
distinct_keys (key ∷ keys) = key ∷ filter (λ other. not (is_key key other)) (distinct_keys keys)

-- STAT-3: Each list of a version has the first 32 keys; later keys are not counted.
abbrev pub greatest_list : ℕ
greatest_list = 32

-- STAT-3
unfoldable pub keys_of : List Count → List Key
keys_of counts = take greatest_list (distinct_keys (map (λ (count : Count). count.key) counts))

-- one more, as far as an int goes
abbrev pub one_more : ℕ → ℕ
one_more n = min (n + 1) greatest_int

-- a key with its numbers: how often it passed, failed, and came by INDIRECT
-- STAT-5: A look-up without a row and a forwarded call that failed count as failures; a forwarded
-- call by INDIRECT is counted as such too.
abbrev pub item_of : List Count → Key → Item
item_of counts key = record {
  key = key;
  success = number_of (λ (count : Count). is_key key count.key && count.passed) counts;
  failure = number_of (λ (count : Count). is_key key count.key && not count.passed) counts;
  indirect = number_of (λ (count : Count). is_key key count.key && count.indirect) counts;
}

unfoldable pub items_of : List Count → List Item
items_of counts = map (item_of counts) (keys_of counts)

-- ---- rpcb_stat

pub record Stat : Type 0 where
  pub info : List ℕ
  pub setinfo : ℕ
  pub unsetinfo : ℕ
  pub addrinfo : List Item
  pub rmtinfo : List Item

-- the highest procedure is 12
abbrev pub procedures : List ℕ
procedures = 0 ∷ 1 ∷ 2 ∷ 3 ∷ 4 ∷ 5 ∷ 6 ∷ 7 ∷ 8 ∷ 9 ∷ 10 ∷ 11 ∷ 12 ∷ []

-- STAT-1: A call of procedures 0 to 12 that is noted is counted in its version, whatever its
-- arguments.
unfoldable pub stat : Version → List Note → Stat
stat version notes = record {
  info = map (λ proc. number_of (is_call version proc) notes) procedures;
  setinfo = number_of (is_set version) notes;
  unsetinfo = number_of (is_unset version) notes;
  addrinfo = items_of (counts_in version Addr (filter_map count_of notes));
  rmtinfo = items_of (counts_in version Rmt (filter_map count_of notes));
}

-- ---- spelling

-- rpcbs_addrlist: prog, vers, success, failure, netid
abbrev pub lookup_spelling : Item → List ℕ
lookup_spelling item =
    number item.key.target.prog ++ (number item.key.target.vers ++ (number item.success ++ (number item.failure ++ opaque (netid_text item.key.target.netid))))

-- rpcbs_rmtcalllist: prog, vers, proc, success, failure, indirect, netid
abbrev pub forward_spelling : ℕ → Item → List ℕ
forward_spelling proc item =
    number item.key.target.prog ++ (number item.key.target.vers ++ (number proc ++ (number item.success ++ (number item.failure ++ (number item.indirect ++ opaque (netid_text item.key.target.netid))))))

abbrev pub spelling_by : Option ℕ → Item → List ℕ
spelling_by None item = lookup_spelling item
spelling_by (Some proc) item = forward_spelling proc item

unfoldable pub item_spelling : Item → List ℕ
item_spelling item = spelling_by item.key.proc item

-- info, setinfo, unsetinfo, and the two lists
unfoldable pub stat_spelling : Stat → List ℕ
stat_spelling s = words s.info ++ (number s.setinfo ++ (number s.unsetinfo ++ (linked_list item_spelling s.addrinfo ++ linked_list item_spelling s.rmtinfo)))

-- rpcb_stat_byvers: versions 2, 3 and 4
-- STAT-6: Statistics are written with both lists of each version, or refused whole if they would be
-- longer than the limit.
unfoldable pub statistics : List Note → List ℕ
statistics notes = stat_spelling (stat Two notes) ++ (stat_spelling (stat Three notes) ++ stat_spelling (stat Four notes))
