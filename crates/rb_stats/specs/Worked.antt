-- Worked rows of the definitions.
use Rattle.std.specs.Prelude.{◌≡◌, ℕ, zero, suc, ◌+◌, Bool, true, false, List, [], ◌∷◌, ◌++◌, length, map, take, drop, replicate}
use Rattle.rb_xdr.specs.Xdr.{words, number_at}
use Rattle.rb_address.specs.declared.netid.Netid.{Netid}
use Rattle.rb_address.specs.declared.netid.Netid.TheVariants.{Tcp, Udp, Tcp6, Udp6, Local}
use Rattle.rb_stats.specs.declared.key.Version.TheVariants.{Two, Three, Four}
use Rattle.rb_stats.specs.declared.key.Target.{Target}
use Rattle.rb_stats.specs.declared.item.Item.{Item}
use Rattle.rb_stats.specs.Statistics.{Note, stat, statistics}
use Rattle.rb_stats.specs.Statistics.Note.{Called, WasSet, LookedUp, Forwarded}

abbrev pub target : ℕ → Netid → Target
target prog netid = record { prog = prog; vers = 1; netid = netid }

-- GETSTAT as the first call: info[12] of version 4 is 1
abbrev pub FirstCall : Type 0
FirstCall = statistics (Called Four 12 ∷ []) ≡ words (replicate 46 0 ++ (1 ∷ replicate 4 0))

-- SET, GETPORT, SET again, a GETPORT whose protocol there is not, and GETSTAT
abbrev pub CallsAreCounted : Type 0
CallsAreCounted =
    (length (statistics calls) ≡ 232)
    × (take 96 (statistics calls)
    ≡ words (0 ∷ 2 ∷ 0 ∷ 2 ∷ 0 ∷ 0 ∷ 0 ∷ 0 ∷ 0 ∷ 0 ∷ 0 ∷ 0 ∷ 0 ∷ 1 ∷ 0 ∷ 1 ∷ 200001 ∷ 1 ∷ 1 ∷ 0 ∷ 3 ∷ 0x74637000 ∷ 0 ∷ 0 ∷ []))
  where
    calls : List Note
    calls = Called Two 1 ∷ WasSet Two ∷ Called Two 3 ∷ LookedUp Two (target 200001 Tcp) true ∷ Called Two 1 ∷ Called Two 3 ∷ Called Four 12 ∷ []

-- this many look-ups that find nothing, of programs from this one
abbrev pub lookups : ℕ → ℕ → List Note
lookups zero prog = []
lookups (suc k) prog = LookedUp Two (target prog Tcp) false ∷ lookups k (prog + 1)

abbrev pub programs : ℕ → ℕ → List ℕ
programs zero prog = []
programs (suc k) prog = prog ∷ programs k (prog + 1)

-- 33 programs, of which the last stays out; the first once more, which makes its failures 2
abbrev pub FirstKeysAlone : Type 0
FirstKeysAlone =
    (map (λ notes. length (statistics notes)) (lookups 33 200001 ∷ again ∷ []) ≡ 1100 ∷ 1100 ∷ [])
    × (map (λ (item : Item). item.key.target.prog) (stat Two again).addrinfo ≡ programs 32 200001)
    × (map (λ place. number_at place (statistics again)) (64 ∷ 76 ∷ 932 ∷ 944 ∷ 960 ∷ []) ≡ 200001 ∷ 2 ∷ 200032 ∷ 1 ∷ 0 ∷ [])
  where
    again : List Note
    again = lookups 33 200001 ++ lookups 1 200001

-- a program that is not registered, asked for by INDIRECT and by version 2's CALLIT
abbrev pub ForwardsAreCounted : Type 0
ForwardsAreCounted =
    (length (statistics calls) ≡ 276)
    × (drop 60 (take 104 (statistics calls)) ≡ words (0 ∷ 1 ∷ 0x30d43 ∷ 1 ∷ 0 ∷ 0 ∷ 1 ∷ 0 ∷ 3 ∷ 0x75647000 ∷ 0 ∷ []))
    × (drop 232 (statistics calls) ≡ words (0 ∷ 1 ∷ 0x30d43 ∷ 1 ∷ 0 ∷ 0 ∷ 1 ∷ 1 ∷ 3 ∷ 0x75647000 ∷ 0 ∷ []))
  where
    calls : List Note
    calls =
        Called Four 10 ∷ Forwarded Four (target 0x30d43 Udp) 0 false true ∷ Called Two 5 ∷ Forwarded Two (target 0x30d43 Udp) 0 false false
        ∷ Called Four 12 ∷ []

-- a look-up of version 3 on a netid
abbrev pub looked : Netid → Bool → Note
looked netid found = LookedUp Three (target 200001 netid) found

-- the same program and version on another netid is another key
abbrev pub NetidsAreApart : Type 0
NetidsAreApart =
    map (λ (item : Item). item.failure) (stat Three (looked Udp true ∷ looked Tcp false ∷ looked Udp false ∷ looked Tcp6 false ∷ looked Tcp false ∷ [])).addrinfo
    ≡ 1 ∷ 2 ∷ 1 ∷ []

-- an item on local has four bytes more than one on another netid
abbrev pub LocalIsLonger : Type 0
LocalIsLonger =
    (map (λ netid. length (statistics (looked netid true ∷ []))) (Tcp ∷ Udp ∷ Tcp6 ∷ Udp6 ∷ Local ∷ []) ≡ 232 ∷ 232 ∷ 232 ∷ 232 ∷ 236 ∷ [])
    × (drop 128 (take 168 (statistics (looked Local true ∷ []))) ≡ words (1 ∷ 200001 ∷ 1 ∷ 1 ∷ 0 ∷ 5 ∷ 0x6c6f6361 ∷ 0x6c000000 ∷ 0 ∷ 0 ∷ []))
    × (drop 148 (take 156 (statistics (looked Udp6 true ∷ []))) ≡ words (4 ∷ 0x75647036 ∷ []))
