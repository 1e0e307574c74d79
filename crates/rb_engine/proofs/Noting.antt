-- The lines of what changed on netids, one after another.
use Rattle.std.proofs.Common.{◌≡◌, ◌≤◌, ◌<◌, ◌+◌, ◌*◌, ℕ, ◌==◌, Bool, true, false, List, [], ◌∷◌, ◌++◌, length, drop, Some, Option, refl, sym, ap, subst, ◌∙◌, append_assoc, append-nil, eq-eqb, arith}
use Rattle.std.specs.Prelude.{find}
use Rattle.std.specs.List.{list_all}
use Rattle.std.specs.Io.KnownBytes.{Appends}
use Rattle.std.proofs.KnownBytes.{Appends-nil, Appends-trans}
use Rattle.std.proofs.lemmas.Bool.{and_parts, eqb-true}
use Rattle.std.proofs.lemmas.List.{drop_all}
use Rattle.std.proofs.Math.Nat.{mul-le-mul_right}
use Rattle.rb_xdr.specs.Meter.{Meter, PaysAtMost}
use Rattle.rb_xdr.specs.Pool.{value_at}
use Rattle.rb_address.specs.declared.netid.Netid.{Netid}
use Rattle.rb_registry.specs.declared.row.Row.{Row}
use Rattle.rb_registry.specs.Registry.{AreOwn}
use Rattle.rb_registry.specs.Rows.{rpcb_prog, is_on, is_row, find_exact}
use Rattle.rb_registry.specs.Index.{rank}
use Rattle.rb_model.specs.State.{State}
use Rattle.rb_model.specs.ChangeLaws.{set_rows}
use Rattle.rb_core.specs.StandsFor.{CoreView, StandsFor}
use Rattle.rb_core.specs.Looks.{rows_shown}
use Rattle.rb_core.specs.Metered.{Metered}
use Rattle.rb_keep.specs.Kept.{line_on, with_owner, owners_on, lines_on, owners_on_each, all_netids, change_text, owners_after}
use Rattle.rb_engine.specs.Writing.{row_look}
use mathlib.Core.Bool.{true≢false}

-- ---- netid by netid

-- What is written so far, with the lines of the netids that are yet to come, are those of all; and so are the owners.
pub record Noting (first core : Metered) (now prog vers : ℕ) (netids : List Netid) (i : ℕ) (before owners : List (ℕ × ℕ)) (began written : Option (List ℕ)) : Type 0 where
  pub stays : core.core ≡ first.core
  pub text : List ℕ
  pub lines : Appends began written text
  pub whole : text ++ lines_on now prog vers (rows_shown first.core) (drop i netids) owners ≡ lines_on now prog vers (rows_shown first.core) netids before
  pub noted : owners_on_each prog vers (rows_shown first.core) (drop i netids) owners ≡ owners_on_each prog vers (rows_shown first.core) netids before
  pub paid : PaysAtMost first.meter core.meter (i * row_look first.core)

pub nothing_noted : (core : Metered) (now prog vers : ℕ) (netids : List Netid) (owners : List (ℕ × ℕ)) (began : Option (List ℕ)) → Noting core core now prog vers netids 0 owners owners began began
nothing_noted core now prog vers netids owners began = record {
  stays = refl;
  text = [];
  lines = Appends-nil began;
  whole = refl;
  noted = refl;
  paid = record { rises = omega arith; steps = omega arith; tie = refl };
}

module _ (first core : Metered) (now prog vers : ℕ) (netids : List Netid) (i : ℕ) (before owners : List (ℕ × ℕ)) (began written : Option (List ℕ)) (n : Noting first core now prog vers netids i before owners began written) where
  -- one more row was looked up
  one_paid : (later : Meter) → PaysAtMost core.meter later (row_look core.core) → PaysAtMost first.meter later ((i + 1) * row_look first.core)
  one_paid later looked =
      let here : PaysAtMost core.meter later (row_look first.core) = subst (λ (view : CoreView). PaysAtMost core.meter later (row_look view)) n.stays looked in
      record {
        rises = omega (arith, n.paid.rises, here.rises);
        steps = omega (arith, n.paid.steps, here.steps);
        tie = here.tie ∙ n.paid.tie;
      }

  pub one_noted : (netid : Netid) (later : Metered) (more : Option (List ℕ)) (theirs : List (ℕ × ℕ)) → drop i netids ≡ netid ∷ drop (i + 1) netids → later.core ≡ core.core
      → Appends written more (line_on now prog vers netid (value_at owners (rank prog netid vers)) (find_exact prog vers netid (rows_shown core.core)))
      → theirs ≡ owners_on prog vers (rows_shown core.core) netid owners
      → PaysAtMost core.meter later.meter (row_look core.core)
      → Noting first later now prog vers netids (i + 1) before theirs began more
  one_noted netid later more theirs here same added are looked =
      let rows : List Row = rows_shown first.core in
      let line : List ℕ = line_on now prog vers netid (value_at owners (rank prog netid vers)) (find_exact prog vers netid rows) in
      let added-here : Appends written more line = subst (λ (view : CoreView). Appends written more (line_on now prog vers netid (value_at owners (rank prog netid vers)) (find_exact prog vers netid (rows_shown view)))) n.stays added in
      let are-here : theirs ≡ owners_on prog vers rows netid owners = are ∙ ap (λ (view : CoreView). owners_on prog vers (rows_shown view) netid owners) n.stays in
      record {
        stays = same ∙ n.stays;
        text = n.text ++ line;
        lines = Appends-trans began written more n.text line n.lines added-here;
        whole =
            ap (λ (o : List (ℕ × ℕ)). (n.text ++ line) ++ lines_on now prog vers rows (drop (i + 1) netids) o) are-here
            ∙ append_assoc n.text line (lines_on now prog vers rows (drop (i + 1) netids) (owners_on prog vers rows netid owners))
            ∙ ap (λ (xs : List Netid). n.text ++ lines_on now prog vers rows xs owners) (sym here)
            ∙ n.whole;
        noted =
            ap (owners_on_each prog vers rows (drop (i + 1) netids)) are-here
            ∙ ap (λ (xs : List Netid). owners_on_each prog vers rows xs owners) (sym here)
            ∙ n.noted;
        paid = one_paid later.meter looked;
      }

  pub all_noted : length netids ≤ i → Appends began written (lines_on now prog vers (rows_shown first.core) netids before)
  all_noted end =
      let none : drop i netids ≡ [] = drop_all i netids end in
      subst (Appends began written) (sym (append-nil n.text) ∙ ap (λ (xs : List Netid). n.text ++ lines_on now prog vers (rows_shown first.core) xs owners) (sym none) ∙ n.whole) n.lines

  pub all_owners : length netids ≤ i → owners ≡ owners_on_each prog vers (rows_shown first.core) netids before
  all_owners end =
      let none : drop i netids ≡ [] = drop_all i netids end in
      ap (λ (xs : List Netid). owners_on_each prog vers (rows_shown first.core) xs owners) (sym none) ∙ n.noted

  -- no more than all of them were looked up
  pub all_paid : i ≤ length netids → PaysAtMost first.meter core.meter (length netids * row_look first.core)
  all_paid few = record {
    rises = n.paid.rises;
    steps = omega (arith, n.paid.steps, mul-le-mul_right (row_look first.core) few);
    tie = n.paid.tie;
  }

  pub last_paid : i < length netids → (later : Meter) → PaysAtMost core.meter later (row_look core.core) → PaysAtMost first.meter later (length netids * row_look first.core)
  last_paid less later looked =
      let paid = one_paid later looked in
      let few : i + 1 ≤ length netids = omega (arith, less) in
      record { rises = paid.rises; steps = omega (arith, paid.steps, mul-le-mul_right (row_look first.core) few); tie = paid.tie }

-- ---- the rows that were set

-- no own row is found of another program
not-own : (prog vers : ℕ) (netid : Netid) (own rows : List Row) → (prog == rpcb_prog) ≡ false → AreOwn own → find (is_row prog vers netid) (own ++ rows) ≡ find (is_row prog vers netid) rows
unfolding is_row is_on
not-own prog vers netid [] rows other are = refl
not-own prog vers netid (row ∷ own) rows other are =
    let parts = and_parts (row.prog == rpcb_prog) (list_all (λ (r : Row). r.prog == rpcb_prog) own) are in
    let theirs : (row.prog == prog) ≡ false = by_test parts.0 (row.prog == prog) refl in
    rw theirs (not-own prog vers netid own rows other parts.1)
  where
    by_test : (row.prog == rpcb_prog) ≡ true → (b : Bool) → (row.prog == prog) ≡ b → b ≡ false
    by_test own-prog true same =
        let is : prog ≡ rpcb_prog = sym (eqb-true row.prog prog same) ∙ eqb-true row.prog rpcb_prog own-prog in
        absurd (true≢false (sym (eq-eqb prog rpcb_prog is) ∙ other))
    by_test own-prog false differs = refl

found-set : (core : CoreView) (s : State) → StandsFor core s → (prog vers : ℕ) → (prog == rpcb_prog) ≡ false → (netid : Netid) → find_exact prog vers netid (rows_shown core) ≡ find_exact prog vers netid (set_rows s)
unfolding find_exact
found-set core s h prog vers other netid =
    ap (find (is_row prog vers netid)) h.ledger.registry.rows ∙ not-own prog vers netid s.ledger.own (set_rows s) other h.ledger.registry.are_own

module _ (core : CoreView) (s : State) (h : StandsFor core s) (prog vers : ℕ) (other : (prog == rpcb_prog) ≡ false) where
  owners-set : (netid : Netid) (owners : List (ℕ × ℕ)) → owners_on prog vers (rows_shown core) netid owners ≡ owners_on prog vers (set_rows s) netid owners
  owners-set netid owners =
      ap (λ (o : Option Row). with_owner owners (rank prog netid vers) (value_at owners (rank prog netid vers)) o) (found-set core s h prog vers other netid)

  lines-set : (now : ℕ) (netids : List Netid) (owners : List (ℕ × ℕ)) → lines_on now prog vers (rows_shown core) netids owners ≡ lines_on now prog vers (set_rows s) netids owners
  lines-set now [] owners = refl
  lines-set now (netid ∷ more) owners =
      ap (λ (o : Option Row). line_on now prog vers netid (value_at owners (rank prog netid vers)) o ++ lines_on now prog vers (rows_shown core) more (owners_on prog vers (rows_shown core) netid owners)) (found-set core s h prog vers other netid)
      ∙ ap (λ (o : List (ℕ × ℕ)). line_on now prog vers netid (value_at owners (rank prog netid vers)) (find_exact prog vers netid (set_rows s)) ++ lines_on now prog vers (rows_shown core) more o) (owners-set netid owners)
      ∙ ap (λ (t : List ℕ). line_on now prog vers netid (value_at owners (rank prog netid vers)) (find_exact prog vers netid (set_rows s)) ++ t) (lines-set now more (owners_on prog vers (set_rows s) netid owners))

  each-set : (netids : List Netid) (owners : List (ℕ × ℕ)) → owners_on_each prog vers (rows_shown core) netids owners ≡ owners_on_each prog vers (set_rows s) netids owners
  each-set [] owners = refl
  each-set (netid ∷ more) owners =
      ap (owners_on_each prog vers (rows_shown core) more) (owners-set netid owners) ∙ each-set more (owners_on prog vers (set_rows s) netid owners)

  pub change_written : (now : ℕ) → now ≡ core.clock → (owners : List (ℕ × ℕ)) (began written : Option (List ℕ)) → Appends began written (lines_on now prog vers (rows_shown core) all_netids owners) → Appends began written (change_text s prog vers owners)
  change_written now is owners began written added =
      subst (Appends began written) (lines-set now all_netids owners ∙ ap (λ (t : ℕ). lines_on t prog vers (set_rows s) all_netids owners) (is ∙ h.clock)) added

  pub owners_noted : (owners theirs : List (ℕ × ℕ)) → theirs ≡ owners_on_each prog vers (rows_shown core) all_netids owners → theirs ≡ owners_after s prog vers owners
  owners_noted owners theirs are = are ∙ each-set all_netids owners
