-- The table of items, and what it stands for.
use Rattle.std.specs.Prelude.{◌≡◌, ℕ, ◌+◌, ◌≤◌, Bool, if◌then◌else◌, nat_lt, slice_index, slice_set, List, [], ◌∷◌, ◌++◌, None, length, find, map, filter}
use Rattle.std.specs.Map.{values_of}
use Rattle.rb_xdr.specs.Pool.{Pool, HasDistinctKeys}
use Rattle.rb_xdr.specs.Xdr.{linked_list}
use Rattle.rb_stats.specs.declared.key.Version.{Version}
use Rattle.rb_stats.specs.declared.key.Info.{Info}
use Rattle.rb_stats.specs.declared.key.Key.{Key}
use Rattle.rb_stats.specs.declared.item.Item.{Item}
use Rattle.rb_stats.specs.declared.counts.Counts.{Counts}
use Rattle.rb_stats.specs.declared.key.Info.TheVariants.{Addr, Rmt}
use Rattle.rb_stats.specs.Statistics.{Count, Stat, counts_in, items_of, is_key, is_in, info_of, one_more, greatest_list, item_spelling}

-- the items in their order, the memory that the table holds (as of a `Pool`), and the number of the meter that counts
-- the calls
pub record Table : Type 0 where
  pub all : List Item
  pub memory : ℕ × ℕ
  pub tie : ℕ

abbrev pub is_item : Key → Item → Bool
is_item key item = is_key item.key key

-- those in a list of a version
unfoldable pub items_in : Version → Info → List Item → List Item
items_in version info items = filter (λ (item : Item). is_in version info item.key) items

-- how many items the list has that has the key's
abbrev pub list_len : Key → List Item → ℕ
list_len key items = length (items_in key.version (info_of key.proc) items)

-- no item is the key's
abbrev pub HasNone : Key → List (ℕ × Item) → Type 0
HasNone key entries = find (λ (e : ℕ × Item). is_item key e.1) entries ≡ None

-- each list of each version has the items of its counts
abbrev pub Holds : List Item → List Count → Type 0
Holds items counts = (version : Version) (info : Info) → items_in version info items ≡ items_of (counts_in version info counts)

-- whatever counts the old items hold, the new ones hold this count as well
abbrev pub HoldsOneMore : Count → List Item → List Item → Type 0
HoldsOneMore count old new = (counts : List Count) → Holds old counts → Holds new (counts ++ count ∷ [])

-- room for six lists; no key has two items
pub record IsTable (items : Pool Item) : Type 0 where
  pub distinct : HasDistinctKeys items.entries
  pub cap : items.cap ≡ 192
  pub once : (key : Key) → length (filter (is_item key) (values_of items.entries)) ≤ 1
  pub few : (version : Version) (info : Info) → length (items_in version info (values_of items.entries)) ≤ greatest_list

-- ---- one count more

abbrev pub count_with : Key → Bool → Bool → Count
count_with key passed indirect = record { key = key; passed = passed; indirect = indirect }

abbrev pub new_item : Key → Item
new_item key = record { key = key; success = 0; failure = 0; indirect = 0 }

abbrev pub item_after : Bool → Bool → Item → Item
item_after passed indirect item = record {
  key = item.key;
  success = if passed then one_more item.success else item.success;
  failure = if passed then item.failure else one_more item.failure;
  indirect = if indirect then one_more item.indirect else item.indirect;
}

-- the count's own item has one more, any other stays as it is
abbrev pub after_count : Count → Item → Item
after_count count item = if is_item count.key item then item_after count.passed count.indirect item else item

-- the count is in its own item
abbrev pub HasCounted : Count → Pool Item → Pool Item → Type 0
HasCounted count old new = values_of new.entries ≡ map (after_count count) (values_of old.entries)

-- or in a new item after the others
abbrev pub HasAdded : Count → Pool Item → Pool Item → Type 0
HasAdded count old new =
    values_of new.entries ≡ values_of old.entries ++ item_after count.passed count.indirect (new_item count.key) ∷ []

-- ---- rpcb_stat

-- each procedure has its number
abbrev pub HasProcedures : Counts → Type 0
HasProcedures counts = length counts.info ≡ 13

-- the numbers of the procedures after a call of one of them
abbrev pub with_call : ℕ → List ℕ → List ℕ
with_call proc info = if nat_lt proc 13 then slice_set info proc (one_more (slice_index info proc)) else info

abbrev pub stat_of : Counts → List Item → List Item → Stat
stat_of counts addrinfo rmtinfo = record {
  info = counts.info;
  setinfo = counts.setinfo;
  unsetinfo = counts.unsetinfo;
  addrinfo = addrinfo;
  rmtinfo = rmtinfo;
}

-- the items of a version are those in its lists
abbrev pub stat_in : Version → Counts → List Item → Stat
stat_in version counts items = stat_of counts (items_in version Addr items) (items_in version Rmt items)

-- how many bytes it has with these lists
abbrev pub stat_size : List Item → List Item → ℕ
stat_size addrinfo rmtinfo = 60 + length (linked_list item_spelling addrinfo) + length (linked_list item_spelling rmtinfo)
