-- Worked examples, of lists that Linux 6.18 showed: `here1` has 192.0.2.1/24, 192.0.2.3/24 and 2001:db8:1::1/64, `here2` has
-- 198.51.100.1/24 and 2001:db8:2::1/64, and its network is yet asked whether another machine has this.
use Rattle.std.specs.Prelude.{◌≡◌, ℕ, List, [], ◌∷◌, ◌++◌, codes, replicate, Option, Some, None}
use Rattle.rb_address.specs.declared.host.Host.{Host}
use Rattle.rb_address.specs.declared.host.Host.TheVariants.{V4, V6}
use Rattle.rb_sockets.specs.Machine.{search_for, after_lists}

abbrev pub routes : List ℕ
routes = codes "Iface\tDestination\tGateway \tFlags\tRefCnt\tUse\tMetric\tMask\t\tMTU\tWindow\tIRTT                                                       \n"
    ++ codes "here1\t00000000\tFE0200C0\t0003\t0\t0\t0\t00000000\t0\t0\t0                                                                               \n"
    ++ codes "here1\t000200C0\t00000000\t0001\t0\t0\t0\t00FFFFFF\t0\t0\t0                                                                               \n"
    ++ codes "here2\t006433C6\t00000000\t0001\t0\t0\t0\t00FFFFFF\t0\t0\t0                                                                               \n"

abbrev pub trie : List ℕ
trie = codes "Main:\n"
    ++ codes "  +-- 0.0.0.0/0 2 0 2\n"
    ++ codes "     +-- 127.0.0.0/8 2 0 2\n"
    ++ codes "        +-- 127.0.0.0/31 1 0 0\n"
    ++ codes "           |-- 127.0.0.0\n"
    ++ codes "              /8 host LOCAL\n"
    ++ codes "           |-- 127.0.0.1\n"
    ++ codes "              /32 host LOCAL\n"
    ++ codes "        |-- 127.255.255.255\n"
    ++ codes "           /32 link BROADCAST\n"
    ++ codes "     +-- 192.0.2.0/24 2 0 2\n"
    ++ codes "        +-- 192.0.2.0/30 2 0 1\n"
    ++ codes "           |-- 192.0.2.0\n"
    ++ codes "              /24 link UNICAST\n"
    ++ codes "           |-- 192.0.2.1\n"
    ++ codes "              /32 host LOCAL\n"
    ++ codes "           |-- 192.0.2.3\n"
    ++ codes "              /32 host LOCAL\n"
    ++ codes "        |-- 192.0.2.255\n"
    ++ codes "           /32 link BROADCAST\n"
    ++ codes "     |-- 198.51.100.1\n"
    ++ codes "        /32 host LOCAL\n"

abbrev pub inet6 : List ℕ
inet6 = codes "00000000000000000000000000000001 01 80 10 80       lo\n"
    ++ codes "fe8000000000000054ff49fffeceaa8d 03 40 20 c0    here1\n"
    ++ codes "20010db8000100000000000000000001 03 40 00 82    here1\n"
    ++ codes "20010db8000200000000000000000001 05 40 00 c0    here2\n"

abbrev pub of_192_0_2 : ℕ → Host
of_192_0_2 last = V4 (192 ∷ 0 ∷ 2 ∷ last ∷ [])

abbrev pub of_198_51_100 : ℕ → Host
of_198_51_100 last = V4 (198 ∷ 51 ∷ 100 ∷ last ∷ [])

abbrev pub of_2001_db8_1__1 : Host
of_2001_db8_1__1 = V6 (32 ∷ 1 ∷ 13 ∷ 184 ∷ 0 ∷ 1 ∷ replicate 9 0 ++ 1 ∷ [])

abbrev pub found : Option (List ℕ) → List Host
found name = (after_lists routes trie inet6 name (search_for [])).hosts

-- what there is twice, as in two tables of routes, is found once
pub record OfInterfaces : Type 0 where
  pub all : found None ≡ of_192_0_2 1 ∷ of_192_0_2 3 ∷ of_198_51_100 1 ∷ of_2001_db8_1__1 ∷ []
  pub first : found (Some (codes "here1")) ≡ of_192_0_2 1 ∷ of_192_0_2 3 ∷ of_2001_db8_1__1 ∷ []
  pub second : found (Some (codes "here2")) ≡ of_198_51_100 1 ∷ []
  pub loopback : found (Some (codes "lo")) ≡ V4 (127 ∷ 0 ∷ 0 ∷ 1 ∷ []) ∷ V6 (replicate 15 0 ++ 1 ∷ []) ∷ []
  pub nowhere : found (Some (codes "here")) ≡ []
  pub twice : (after_lists routes (trie ++ trie) inet6 None (search_for [])).hosts ≡ found None
