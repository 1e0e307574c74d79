-- The addresses of this machine that are looked for, by whole texts of the kernel's lists.
use Rattle.std.specs.Prelude.{ℕ, ◌||◌, nat_lt, not, Bool, if◌then◌else◌, List, [], ◌∷◌, ◌++◌, length, codes, bytes_eq, Option, Some, None, is_some}
use Rattle.std.specs.Option.{option_or}
use Rattle.rb_address.specs.declared.host.Host.{Host}
use Rattle.rb_address.specs.Hosts.{is_loopback}
use Rattle.rb_evidence.specs.Table.{lines_of}
use Rattle.rb_policy.specs.Addresses.{has_host}
use Rattle.rb_policy.specs.declared.machine.TrieLine.{TrieLine}
use Rattle.rb_policy.specs.declared.machine.TrieLine.TheVariants.{Leaf, Local, Other}
use Rattle.rb_policy.specs.declared.machine.Reached.{Reached}
use Rattle.rb_policy.specs.Machine.{trie_line, inet6_at, reached_by, loopback_network, is_inet_of}
use Rattle.rb_sockets.specs.declared.machine.Listing.{Listing}
use Rattle.rb_sockets.specs.declared.machine.Listing.TheVariants.{Route, Trie, Inet6}
use Rattle.rb_sockets.specs.declared.machine.Search.{Search}

abbrev pub search_for : List Host → Search
search_for given = record { reached = []; leaf = None; hosts = given; left_out = None }

-- ---- with one more

-- BIND-7: At most 16 addresses are listened on, those that are given and the loopback's before others; the first one that is
-- left out is told.
abbrev pub with_host : Host → Search → Search
with_host host s =
    if has_host host s.hosts then s
    else (if nat_lt (length s.hosts) 16 then record s { hosts = s.hosts ++ host ∷ [] }
    else record s { left_out = option_or s.left_out (Some host) })

abbrev pub with_network : Option Reached → Search → Search
with_network None s = s
with_network (Some network) s =
    if nat_lt (length s.reached) 16 then record s { reached = s.reached ++ network ∷ [] } else s

abbrev pub with_inet : Bool → Option Host → Search → Search
with_inet named None s = s
with_inet named (Some host) s = if is_inet_of named s.reached host then with_host host s else s

abbrev pub with_inet6 : Bool → Option Host → Search → Search
with_inet6 named None s = s
with_inet6 named (Some host) s = if named || not (is_loopback host) then with_host host s else s

-- ---- after a line of each list, about the interface of this name, or about all if none is named

abbrev pub after_route : Option (List ℕ) → List ℕ → Search → Search
after_route None line s = s
after_route (Some name) line s = with_network (reached_by line name) s

abbrev pub after_trie_line : Bool → TrieLine → Search → Search
after_trie_line named (Leaf host) s = record s { leaf = Some host }
after_trie_line named Local s = with_inet named s.leaf s
after_trie_line named Other s = s

abbrev pub after_trie : Option (List ℕ) → List ℕ → Search → Search
after_trie name line s = after_trie_line (is_some name) (trie_line line) s

abbrev pub after_inet6 : Option (List ℕ) → List ℕ → Search → Search
after_inet6 name line s = with_inet6 (is_some name) (inet6_at line name) s

abbrev pub after_line : Listing → Option (List ℕ) → List ℕ → Search → Search
after_line Route name line s = after_route name line s
after_line Trie name line s = after_trie name line s
after_line Inet6 name line s = after_inet6 name line s

abbrev pub after_lines : Listing → Option (List ℕ) → Search → List (List ℕ) → Search
after_lines listing name s [] = s
after_lines listing name s (line ∷ lines) = after_lines listing name (after_line listing name line s) lines

-- ---- about one interface

abbrev pub is_lo : List ℕ → Bool
is_lo name = bytes_eq name (codes "lo")

abbrev pub own_networks : Option (List ℕ) → List Reached
own_networks None = []
own_networks (Some name) = if is_lo name then loopback_network ∷ [] else []

abbrev pub begun : Option (List ℕ) → Search → Search
begun name s = record s { reached = own_networks name; leaf = None }

-- ---- whole lists

-- of the interface of this name, or of all, of which the loopback's are not
abbrev pub after_lists : List ℕ → List ℕ → List ℕ → Option (List ℕ) → Search → Search
after_lists routes trie inet6 name s =
    after_lines Inet6 name
    (after_lines Trie name (after_lines Route name (begun name s) (lines_of routes)) (lines_of trie))
    (lines_of inet6)
