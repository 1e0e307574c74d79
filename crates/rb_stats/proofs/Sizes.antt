-- How long statistics are.
use Rattle.std.proofs.Common.{◌≡◌, ℕ, ◌+◌, ◌*◌, ◌<◌, ◌≤◌, Bool, true, false, not, cond, List, [], ◌∷◌, ◌++◌, length, take, drop, map, get_or, Option, Some, None, refl, sym, ap, ◌∙◌, arith, length-append}
use Rattle.std.specs.Prelude.{filter, filter_map, is_none, is_some}
use Rattle.std.specs.List.{flat_map, list_all}
use Rattle.std.proofs.lemmas.List.{take-append-drop, take_more, length-map, length-take}
use Rattle.std.proofs.lemmas.Grind.{flat_map-append}
use Rattle.std.proofs.lemmas.List.Folds.{list_all-append, list_all-map}
use Rattle.rb_xdr.specs.Xdr.{number, words, boolean, opaque, linked_list}
use Rattle.rb_xdr.proofs.Words.{length-number}
use Rattle.rb_address.specs.declared.netid.Netid.{Netid}
use Rattle.rb_address.specs.declared.netid.Netid.TheVariants.{Tcp, Udp, Tcp6, Udp6, Local}
use Rattle.rb_address.specs.Netids.{netid_text}
use Rattle.rb_stats.specs.declared.key.Version.{Version}
use Rattle.rb_stats.specs.declared.key.Version.TheVariants.{Two, Three, Four}
use Rattle.rb_stats.specs.declared.key.Info.{Info}
use Rattle.rb_stats.specs.declared.key.Info.TheVariants.{Addr, Rmt}
use Rattle.rb_stats.specs.declared.key.Key.{Key}
use Rattle.rb_stats.specs.declared.item.Item.{Item}
use Rattle.rb_stats.specs.Statistics.{Note, Count, Stat, is_version, is_key, is_in, count_of, counts_in, distinct_keys, keys_of, items_of, item_of, item_spelling, lookup_spelling, forward_spelling, spelling_by, stat, stat_spelling, statistics, greatest_list}
use Rattle.rb_stats.specs.Table.{stat_size}
use Rattle.rb_stats.specs.Stats.{Stats, StandsForHistory, stat_len, key_count}
use Rattle.rb_stats.specs.Counting.{spelling}
use Rattle.rb_stats.proofs.Keys.{by_test, both}
use Rattle.rb_stats.proofs.Writing.{behind_true}

pub length-words : (numbers : List ℕ) → length (words numbers) ≡ 4 * length numbers
length-words [] = refl
length-words (n ∷ numbers) = omega (arith, length-append (number n) (words numbers), length-number n, length-words numbers)

-- ---- items

-- a netid's text is spelled in 8 bytes, or in 12
short_netid : (netid : Netid) → length (opaque (netid_text netid)) ≤ 12
unfolding number opaque
short_netid Tcp = omega arith
short_netid Udp = omega arith
short_netid Tcp6 = omega arith
short_netid Udp6 = omega arith
short_netid Local = omega arith

pub length-lookup : (item : Item) → length (lookup_spelling item) ≡ 16 + length (opaque (netid_text item.key.target.netid))
unfolding number
length-lookup item = omega arith

pub length-forward : (proc : ℕ) (item : Item) → length (forward_spelling proc item) ≡ 24 + length (opaque (netid_text item.key.target.netid))
unfolding number
length-forward proc item = omega arith

length-true : length (boolean true) ≡ 4
unfolding boolean number
length-true = refl

pub length-false : length (boolean false) ≡ 4
unfolding boolean number
length-false = refl

-- the items of each list, by their keys
abbrev pub fits_in : Info → Key → Bool
fits_in Addr key = is_none key.proc
fits_in Rmt key = is_some key.proc

-- each has at most this many bytes, TRUE before it included
abbrev pub most_size : Info → ℕ
most_size Addr = 32
most_size Rmt = 40

short_item : (info : Info) (item : Item) → fits_in info item.key ≡ true → length (behind_true item_spelling item) ≤ most_size info
unfolding item_spelling
short_item Addr item fits = by_proc item.key.proc fits
  where
    by_proc : (proc : Option ℕ) → is_none proc ≡ true → length (boolean true ++ spelling_by proc item) ≤ 32
    by_proc None fits = omega (arith, length-append (boolean true) (lookup_spelling item), length-true, length-lookup item, short_netid item.key.target.netid)
    by_proc (Some proc) fits = absurd cc
short_item Rmt item fits = by_proc item.key.proc fits
  where
    by_proc : (proc : Option ℕ) → is_some proc ≡ true → length (boolean true ++ spelling_by proc item) ≤ 40
    by_proc None fits = absurd cc
    by_proc (Some proc) fits = omega (arith, length-append (boolean true) (forward_spelling proc item), length-true, length-forward proc item, short_netid item.key.target.netid)

short_items : (info : Info) (items : List Item) → list_all (λ (item : Item). fits_in info item.key) items ≡ true → length (flat_map (behind_true item_spelling) items) ≤ most_size info * length items
short_items info [] fit = omega arith
short_items info (item ∷ items) fit =
    let p = both (fits_in info item.key) (list_all (λ (item : Item). fits_in info item.key) items) fit in
    omega (arith, length-append (behind_true item_spelling item) (flat_map (behind_true item_spelling) items), short_item info item p.0, short_items info items p.1)

short_listed : (info : Info) (items : List Item) → list_all (λ (item : Item). fits_in info item.key) items ≡ true → length (linked_list item_spelling items) ≤ most_size info * length items + 4
unfolding linked_list
short_listed info items fit = omega (arith, length-append (flat_map (behind_true item_spelling) items) (boolean false), length-false, short_items info items fit)

-- what stands for an item if there is none
abbrev pub blank : Item
blank = record { key = record { version = Two; target = record { prog = 0; vers = 0; netid = Tcp }; proc = None }; success = 0; failure = 0; indirect = 0 }

-- one item more
pub listed_more : (items : List Item) (n : ℕ) (other : Item) → n < length items
    → length (flat_map (behind_true item_spelling) (take (n + 1) items)) ≡ length (flat_map (behind_true item_spelling) (take n items)) + 4 + length (item_spelling (get_or items n other))
listed_more items n other within =
    let next : Item = get_or items n other in
    let more = ap (flat_map (behind_true item_spelling)) (take_more items n other within) ∙ flat_map-append (behind_true item_spelling) (take n items) (next ∷ []) in
    omega (
      arith,
      ap (λ (bytes : List ℕ). length bytes) more,
      length-append (flat_map (behind_true item_spelling) (take n items)) (behind_true item_spelling next ++ []),
      length-append (behind_true item_spelling next) [],
      length-append (boolean true) (item_spelling next),
      length-true,
    )

-- ---- lists whose items fit

module _ {T : Type 0} (test other : T → Bool) (implied : (x : T) → test x ≡ true → other x ≡ true) where
  all_passed : (xs : List T) → list_all other (filter test xs) ≡ true
  all_passed [] = refl
  all_passed (x ∷ xs) =
      by_test (λ b. list_all other (cond b (x ∷ filter test xs) (filter test xs)) ≡ true) (test x)
      (λ pass. rw (implied x pass) (all_passed xs))
      (λ fail. all_passed xs)

module _ {T : Type 0} (other : T → Bool) where
  all_left : (test : T → Bool) (xs : List T) → list_all other xs ≡ true → list_all other (filter test xs) ≡ true
  all_left test [] all = refl
  all_left test (x ∷ xs) all =
      let p = both (other x) (list_all other xs) all in
      elim (test x) as (λ b. list_all other (cond b (x ∷ filter test xs) (filter test xs)) ≡ true)
      [ true ↦ rw p.0 (all_left test xs p.1) | false ↦ all_left test xs p.1 ]

  all_first : (n : ℕ) (xs : List T) → list_all other xs ≡ true → list_all other (take n xs) ≡ true
  all_first n xs all = (both (list_all other (take n xs)) (list_all other (drop n xs)) (sym (list_all-append other (take n xs) (drop n xs)) ∙ ap (list_all other) (take-append-drop n xs) ∙ all)).0

fits : (version : Version) (info : Info) (key : Key) → is_in version info key ≡ true → fits_in info key ≡ true
unfolding is_in
fits version Addr key own = (both (is_version key.version version) (is_none key.proc) own).1
fits version Rmt key own = (both (is_version key.version version) (is_some key.proc) own).1

all_distinct : (info : Info) (keys : List Key) → list_all (fits_in info) keys ≡ true → list_all (fits_in info) (distinct_keys keys) ≡ true
all_distinct info [] all = refl
all_distinct info (key ∷ keys) all =
    let p = both (fits_in info key) (list_all (fits_in info) keys) all in
    rw p.0 (all_left (fits_in info) (λ other. not (is_key key other)) (distinct_keys keys) (all_distinct info keys p.1))

items_of-fit : (version : Version) (info : Info) (counts : List Count) → list_all (λ (item : Item). fits_in info item.key) (items_of (counts_in version info counts)) ≡ true
unfolding items_of keys_of
items_of-fit version info counts =
    let own = counts_in version info counts in
    let keys : List Key = map (λ (count : Count). count.key) own in
    let all : list_all (fits_in info) keys ≡ true =
    list_all-map (fits_in info) (λ (count : Count). count.key) own
    ∙ all_passed (λ (count : Count). is_in version info count.key) (λ (count : Count). fits_in info count.key) (λ count own. fits version info count.key own) counts in
    list_all-map (λ (item : Item). fits_in info item.key) (item_of own) (take greatest_list (distinct_keys keys)) ∙ all_first (fits_in info) greatest_list (distinct_keys keys) (all_distinct info keys all)

-- ---- rpcb_stat

pub length-stat : (s : Stat) → length s.info ≡ 13 → length (stat_spelling s) ≡ stat_size s.addrinfo s.rmtinfo
unfolding stat_spelling
length-stat s thirteen =
    omega (
      arith,
      thirteen,
      length-words s.info,
      length-number s.setinfo,
      length-number s.unsetinfo,
      length-append (words s.info) (number s.setinfo ++ (number s.unsetinfo ++ (linked_list item_spelling s.addrinfo ++ linked_list item_spelling s.rmtinfo))),
      length-append (number s.setinfo) (number s.unsetinfo ++ (linked_list item_spelling s.addrinfo ++ linked_list item_spelling s.rmtinfo)),
      length-append (number s.unsetinfo) (linked_list item_spelling s.addrinfo ++ linked_list item_spelling s.rmtinfo),
      length-append (linked_list item_spelling s.addrinfo) (linked_list item_spelling s.rmtinfo),
    )

-- ---- of a history

pub few_items : (counts : List Count) → length (items_of counts) ≤ greatest_list
unfolding items_of keys_of
few_items counts =
    let keys : List Key = distinct_keys (map (λ (count : Count). count.key) counts) in
    omega (arith, length-map (take greatest_list keys) (item_of counts), length-take greatest_list keys)

pub short_lists : (version : Version) (notes : List Note) → (length (stat version notes).addrinfo ≤ greatest_list) × (length (stat version notes).rmtinfo ≤ greatest_list)
unfolding stat
short_lists version notes = (few_items (counts_in version Addr (filter_map count_of notes)), few_items (counts_in version Rmt (filter_map count_of notes)))

pub short_stat : (version : Version) (notes : List Note) → length (stat_spelling (stat version notes)) ≤ 2372
unfolding stat
short_stat version notes =
    let counts : List Count = filter_map count_of notes in
    omega (
      arith,
      length-stat (stat version notes) refl,
      short_listed Addr (items_of (counts_in version Addr counts)) (items_of-fit version Addr counts),
      short_listed Rmt (items_of (counts_in version Rmt counts)) (items_of-fit version Rmt counts),
      few_items (counts_in version Addr counts),
      few_items (counts_in version Rmt counts),
    )

pub short_statistics : (notes : List Note) → length (statistics notes) ≤ 7116
unfolding statistics
short_statistics notes =
    omega (
      arith,
      short_stat Two notes,
      short_stat Three notes,
      short_stat Four notes,
      length-append (stat_spelling (stat Two notes)) (stat_spelling (stat Three notes) ++ stat_spelling (stat Four notes)),
      length-append (stat_spelling (stat Three notes)) (stat_spelling (stat Four notes)),
    )

pub few_keys : (kept : Stats) (notes : List Note) → StandsForHistory kept notes → key_count kept ≤ 192
few_keys kept notes h =
    let two = short_lists Two notes in
    let three = short_lists Three notes in
    let four = short_lists Four notes in
    let two_is = ap stat_len h.two in
    let three_is = ap stat_len h.three in
    let four_is = ap stat_len h.four in
    omega arith

-- what a list of notes stands for is spelled as they are
pub spelled : (kept : Stats) (notes : List Note) → StandsForHistory kept notes → spelling kept ≡ statistics notes
unfolding spelling statistics
spelled kept notes h = rw (h.two, h.three, h.four) refl

pub length-spelling : (kept : Stats) (a b c d e f : List Item) → length (stat_spelling kept.two) ≡ stat_size a b → length (stat_spelling kept.three) ≡ stat_size c d → length (stat_spelling kept.four) ≡ stat_size e f
    → length (spelling kept) ≡ stat_size a b + stat_size c d + stat_size e f
unfolding spelling
length-spelling kept a b c d e f two three four =
    omega (arith, two, three, four, length-append (stat_spelling kept.two) (stat_spelling kept.three ++ stat_spelling kept.four), length-append (stat_spelling kept.three) (stat_spelling kept.four))
