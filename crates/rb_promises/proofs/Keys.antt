-- Rows of one program, version and netid.
use Rattle.std.proofs.Common.{◌≡◌, ℕ, ◌==◌, true, false, List, refl, sym, ◌∙◌}
use Rattle.std.specs.Prelude.{Contains}
use Rattle.std.specs.List.{list_any}
use Rattle.std.proofs.lemmas.Bool.{and_parts, eqb-true, eq-eqb, true≢false, false_from_ne_true}
use Rattle.rb_address.specs.declared.netid.Netid.{Netid}
use Rattle.rb_address.specs.declared.netid.Netid.TheVariants.{Tcp, Udp, Tcp6, Udp6, Local}
use Rattle.rb_address.specs.Netids.{is_netid}
use Rattle.rb_registry.specs.declared.row.Row.{Row}
use Rattle.rb_registry.specs.Rows.{is_on, is_row, is_of_key}
use Rattle.rb_registry.proofs.FoundLaws.{some_passes, any_passes}
use Rattle.rb_promises.specs.Sets.{HasSameKey}

-- ---- keys

pub netid_is : (a b : Netid) → is_netid a b ≡ true → a ≡ b
unfolding is_netid
netid_is Tcp Tcp e = refl
netid_is Tcp _ e = absurd cc
netid_is Udp Udp e = refl
netid_is Udp _ e = absurd cc
netid_is Tcp6 Tcp6 e = refl
netid_is Tcp6 _ e = absurd cc
netid_is Udp6 Udp6 e = refl
netid_is Udp6 _ e = absurd cc
netid_is Local Local e = refl
netid_is Local _ e = absurd cc

pub same_netid : (n : Netid) → is_netid n n ≡ true
unfolding is_netid
same_netid Tcp = refl
same_netid Udp = refl
same_netid Tcp6 = refl
same_netid Udp6 = refl
same_netid Local = refl

pub on_is : (prog : ℕ) (netid : Netid) (row : Row) → is_on prog netid row ≡ true → (row.prog ≡ prog) × (row.netid ≡ netid)
unfolding is_on
on_is prog netid row e =
    let (same, at) = and_parts (row.prog == prog) (is_netid row.netid netid) e in
    (eqb-true row.prog prog same, netid_is row.netid netid at)

pub is_on_of : (prog : ℕ) (netid : Netid) (row : Row) → row.prog ≡ prog → row.netid ≡ netid → is_on prog netid row ≡ true
unfolding is_on
is_on_of prog netid row same at = rw (eq-eqb row.prog prog same, at) (same_netid netid)

pub row_is : (prog vers : ℕ) (netid : Netid) (row : Row) → is_row prog vers netid row ≡ true → (is_on prog netid row ≡ true) × (row.vers ≡ vers)
unfolding is_row
row_is prog vers netid row e =
    let (on, version) = and_parts (is_on prog netid row) (row.vers == vers) e in
    (on, eqb-true row.vers vers version)

pub is_row_of : (prog vers : ℕ) (netid : Netid) (row : Row) → is_on prog netid row ≡ true → row.vers ≡ vers → is_row prog vers netid row ≡ true
unfolding is_row
is_row_of prog vers netid row on version = rw (on, eq-eqb row.vers vers version) refl

key_is : (row other : Row) → is_of_key row other ≡ true → HasSameKey row other
key_is row other e =
    let (on, version) = row_is row.prog row.vers row.netid other e in
    let (prog, netid) = on_is row.prog row.netid other on in
    record { prog = prog; vers = version; netid = netid }

of_key : (row other : Row) → HasSameKey row other → is_of_key row other ≡ true
of_key row other h = is_row_of row.prog row.vers row.netid other (is_on_of row.prog row.netid other h.prog h.netid) h.vers

pub no_key : (row : Row) (rows : List Row) → list_any (is_of_key row) rows ≡ false → (other : Row) → Contains rows other → HasSameKey row other → ⊥
no_key row rows none other there same =
    true≢false (sym (any_passes (is_of_key row) rows other there (of_key row other same)) ∙ none)

pub is_no_key : (row : Row) (rows : List Row) → ((other : Row) → Contains rows other → HasSameKey row other → ⊥) → list_any (is_of_key row) rows ≡ false
is_no_key row rows none = false_from_ne_true (list_any (is_of_key row) rows) (λ some.
    let (other, there, passes) = some_passes (is_of_key row) rows some in
    none other there (key_is row other passes))
