-- The lines of one more change lead from the rows before it to those after it.
use Rattle.std.specs.Prelude.{filter, find, not, nat_lt, ◌^◌}
use Rattle.std.specs.List.{AllByRecursion}
use Rattle.std.specs.Option.{option_or}
use Rattle.std.proofs.Common.{◌≡◌, ◌≢◌, ℕ, ◌==◌, eqb, ◌+◌, ◌-◌, ◌<◌, ◌≤◌, Bool, true, false, cond, ◌&&◌, ◌||◌, Option, Some, None, List, [], ◌∷◌, ◌++◌, length, refl, sym, ap, subst, ◌∙◌, eq-eqb, length-append, arith}
use Rattle.std.proofs.lemmas.Bool.{and_parts, eqb-true, le-ltb}
use Rattle.std.proofs.lemmas.Bool.Decides.{nat_tests}
use Rattle.std.proofs.lemmas.List.Folds.{find-append}
use Rattle.std.proofs.lemmas.List.Elements.{recursion_from_All, filter_agree}
use Rattle.rb_xdr.specs.Pool.{value_at}
use Rattle.rb_address.specs.declared.netid.Netid.{Netid}
use Rattle.rb_address.specs.declared.netid.Netid.TheVariants as netids
use Rattle.rb_address.specs.Netids.{is_netid}
use Rattle.rb_address.specs.declared.who.Owner.{Owner}
use Rattle.rb_address.specs.declared.who.Owner.TheVariants.{Unknown, Uid}
use Rattle.rb_rpc.specs.Grammar.{IsCaller}
use Rattle.rb_registry.specs.declared.row.Row.{Row}
use Rattle.rb_registry.specs.declared.row.Which.{Which}
use Rattle.rb_registry.specs.Rows.{Change, covers, left_by, rpcb_prog, is_among, may_remove, is_row, find_exact, without_covered}
use Rattle.rb_registry.specs.Rows.Change.{Added, Removed}
use Rattle.rb_registry.specs.Index.{rank}
use Rattle.rb_registry.proofs.RowLaws.{set_appends, unset_filters}
use Rattle.rb_answers.specs.Answers.{can_be_set}
use Rattle.rb_model.specs.State.{State}
use Rattle.rb_model.specs.ChangeLaws.{set_rows, IsSpelled, HasShortCall, credential_for}
use Rattle.rb_keep.specs.Kept.{row_line, gone_line, kept_text, owner_number, owner_numbered, AreOwners, named_row, line_on, with_owner, owners_on, lines_on, owners_on_each, all_netids, change_text, owners_after, Changed, changes_text, last_state}
use Rattle.rb_keep.specs.Reading.{is_named, without, most_rows}
use Rattle.rb_keep.specs.KeptLaws.{CanBeKept, IsChanged, AreChanged, NoneHasNone, OwnersGoOn, ChangesAreRead}
use Rattle.rb_keep.proofs.Distinct.{Distinct, apart-one, itself}
use Rattle.rb_keep.proofs.Founds.{all-kept, same-kept, kept-twice, each-kept, each-passes, none-passes, found-passes, found-holds, none-of-kept, kept-found, found-among}
use Rattle.rb_keep.proofs.Keys.{HasKey, has-key, is-key, same-netid-is, netid-is, only-one, distinct-kept, not-named-else, number-found, owners-more, owners-fewer}
use Rattle.rb_keep.proofs.Leads.{Leads, stays, joined, row-leads, gone-leads, good-state, distinct-state, led, kept-leads}
use mathlib.Core.Bool.{true≢false}

-- ---- owners and their numbers

numbered : (owner : Owner) → ((uid : ℕ) → owner ≡ Uid uid → uid < 2 ^ 32) → owner_numbered (owner_number owner) ≡ owner
numbered Unknown small = refl
numbered (Uid uid) small =
    let few : uid < 2 ^ 32 = small uid refl in
    let some : (uid + 1 == 0) ≡ false = grind (arith, nat_tests) in
    let within : nat_lt (2 ^ 32) (uid + 1) ≡ false = le-ltb (2 ^ 32) (uid + 1) (omega (arith, few)) in
    let back : uid + 1 - 1 ≡ uid = omega arith in
    ap (λ (b : Bool). cond (b || nat_lt (2 ^ 32) (uid + 1)) Unknown (Uid (uid + 1 - 1))) some
    ∙ ap (λ (b : Bool). cond b Unknown (Uid (uid + 1 - 1))) within
    ∙ ap Uid back

spelled-owner : (row : Row) → IsSpelled row → owner_numbered (owner_number row.owner) ≡ row.owner
spelled-owner row is = numbered row.owner (by_owner row.owner is.owner)
  where
    by_owner : (owner : Owner) → IsCaller (credential_for owner) → (uid : ℕ) → owner ≡ Uid uid → uid < 2 ^ 32
    by_owner Unknown fits uid e = absurd cc
    by_owner (Uid own) fits uid e = let same : own ≡ uid = cc e in subst (λ (n : ℕ). n < 2 ^ 32) same fits

-- the line of a row that went, by its key and its owner's number
gone-line-is : (now prog vers : ℕ) (netid : Netid) (row : Row) → HasKey prog vers netid row → IsSpelled row → gone_line now (named_row prog vers netid (owner_numbered (owner_number row.owner))) ≡ gone_line now row
gone-line-is now prog vers netid row k is =
    ap (λ (o : Owner). gone_line now (named_row prog vers netid o)) (spelled-owner row is)
    ∙ ap (λ (p : ℕ). gone_line now (named_row p vers netid row.owner)) (sym k.prog)
    ∙ ap (λ (v : ℕ). gone_line now (named_row row.prog v netid row.owner)) (sym k.vers)
    ∙ ap (λ (n : Netid). gone_line now (named_row row.prog row.vers n row.owner)) (sym k.netid)

-- ---- netids

abbrev among : List Netid → Netid → Bool
among [] netid = false
among (first ∷ more) netid = is_netid netid first || among more netid

among-all : (netid : Netid) → among all_netids netid ≡ true
unfolding is_netid
among-all netids.Tcp = refl
among-all netids.Udp = refl
among-all netids.Tcp6 = refl
among-all netids.Udp6 = refl
among-all netids.Local = refl

-- ---- what leads to rows, with the owners after it

record Brings (now prog vers : ℕ) (after : List Row) (netids : List Netid) (owners : List (ℕ × ℕ)) (before : List Row) : Type 0 where
  leads : Leads (lines_on now prog vers after netids owners) before after
  theirs : AreOwners (owners_on_each prog vers after netids owners) after

module _ (now : ℕ) (fits : now < 2 ^ 64) (prog vers : ℕ) (small : vers < 2 ^ 32) (after : List Row) where
  abbrev line-by : Netid → Option Row → Option Row → List ℕ
  line-by netid before now-there = line_on now prog vers netid (number-found before) now-there

  abbrev owners-by : Netid → List (ℕ × ℕ) → Option Row → Option Row → List (ℕ × ℕ)
  owners-by netid owners before now-there = with_owner owners (rank prog netid vers) (number-found before) now-there

  -- the line and the owners of a netid, by what is found on it
  line-is : (netid : Netid) (owners : List (ℕ × ℕ)) (before : List Row) (found there : Option Row) → AreOwners owners before → find_exact prog vers netid before ≡ found → find_exact prog vers netid after ≡ there
      → line_on now prog vers netid (value_at owners (rank prog netid vers)) (find_exact prog vers netid after) ≡ line-by netid found there
  line-is netid owners before found there are was is =
      ap (λ (o : Option ℕ). line_on now prog vers netid o (find_exact prog vers netid after)) (are.same prog vers netid small ∙ ap number-found was)
      ∙ ap (λ (o : Option Row). line_on now prog vers netid (number-found found) o) is

  owners-are : (netid : Netid) (owners : List (ℕ × ℕ)) (before : List Row) (found there : Option Row) → AreOwners owners before → find_exact prog vers netid before ≡ found → find_exact prog vers netid after ≡ there
      → owners_on prog vers after netid owners ≡ owners-by netid owners found there
  owners-are netid owners before found there are was is =
      ap (λ (o : Option ℕ). with_owner owners (rank prog netid vers) o (find_exact prog vers netid after)) (are.same prog vers netid small ∙ ap number-found was)
      ∙ ap (λ (o : Option Row). with_owner owners (rank prog netid vers) (number-found found) o) is

  -- a line to rows in between, and then what leads on from them
  one-step : (netid : Netid) (more : List Netid) (owners : List (ℕ × ℕ)) (before between : List Row) (found there : Option Row)
      → AreOwners owners before → find_exact prog vers netid before ≡ found → find_exact prog vers netid after ≡ there
      → Leads (line-by netid found there) before between
      → Brings now prog vers after more (owners-by netid owners found there) between
      → Brings now prog vers after (netid ∷ more) owners before
  one-step netid more owners before between found there are was is line rest =
      let line-eq = line-is netid owners before found there are was is in
      let owners-eq = owners-are netid owners before found there are was is in
      record {
        leads =
            subst (λ (t : List ℕ). Leads (t ++ lines_on now prog vers after more (owners_on prog vers after netid owners)) before after) (sym line-eq)
            (subst (λ (o : List (ℕ × ℕ)). Leads (line-by netid found there ++ lines_on now prog vers after more o) before after) (sym owners-eq)
            (joined (line-by netid found there) (lines_on now prog vers after more (owners-by netid owners found there)) before between after line rest.leads));
        theirs = subst (λ (o : List (ℕ × ℕ)). AreOwners (owners_on_each prog vers after more o) after) (sym owners-eq) rest.theirs;
      }

  -- where the same is found there is no line
  quiet-line : (netid : Netid) (found : Option Row) → line-by netid found found ≡ []
  quiet-line netid None = refl
  quiet-line netid (Some row) = refl

  quiet-owners : (netid : Netid) (owners : List (ℕ × ℕ)) (found : Option Row) → owners-by netid owners found found ≡ owners
  quiet-owners netid owners None = refl
  quiet-owners netid owners (Some row) = refl

  skip : (netid : Netid) (more : List Netid) (owners : List (ℕ × ℕ)) (before : List Row) → AreOwners owners before → find_exact prog vers netid before ≡ find_exact prog vers netid after
      → Brings now prog vers after more owners before → Brings now prog vers after (netid ∷ more) owners before
  skip netid more owners before are same rest =
      let found : Option Row = find_exact prog vers netid after in
      one-step netid more owners before before found found are same refl
      (subst (λ (t : List ℕ). Leads t before before) (sym (quiet-line netid found)) (stays before))
      (subst (λ (o : List (ℕ × ℕ)). Brings now prog vers after more o before) (sym (quiet-owners netid owners found)) rest)

  idle : (netids : List Netid) (owners : List (ℕ × ℕ)) (before : List Row) → AreOwners owners before → ((netid : Netid) → find_exact prog vers netid before ≡ find_exact prog vers netid after)
      → (lines_on now prog vers after netids owners ≡ []) × (owners_on_each prog vers after netids owners ≡ owners)
  idle [] owners before are same = (refl, refl)
  idle (netid ∷ more) owners before are same =
      let found : Option Row = find_exact prog vers netid after in
      let line-eq = line-is netid owners before found found are (same netid) refl ∙ quiet-line netid found in
      let owners-eq = owners-are netid owners before found found are (same netid) refl ∙ quiet-owners netid owners found in
      let rest = idle more owners before are same in (
        ap (λ (t : List ℕ). t ++ lines_on now prog vers after more (owners_on prog vers after netid owners)) line-eq ∙ ap (lines_on now prog vers after more) owners-eq ∙ rest.0,
        ap (owners_on_each prog vers after more) owners-eq ∙ rest.1,
      )

  -- ---- a row that came

  found-more : (netid : Netid) (rows : List Row) (row : Row) → find_exact prog vers netid (rows ++ row ∷ []) ≡ option_or (find_exact prog vers netid rows) (cond (is_row prog vers netid row) (Some row) None)
  unfolding find_exact
  found-more netid rows row = find-append (is_row prog vers netid) rows (row ∷ [])

  or-none : (o : Option Row) → option_or o None ≡ o
  or-none None = refl
  or-none (Some x) = refl

  no-key : (netid : Netid) (row : Row) → is_netid row.netid netid ≡ false → is_row prog vers netid row ≡ false
  no-key netid row other = by_test (is_row prog vers netid row) refl
    where
      by_test : (b : Bool) → is_row prog vers netid row ≡ b → b ≡ false
      by_test true is =
          let k = has-key prog vers netid row is in
          absurd (true≢false (sym (ap (λ (n : Netid). is_netid n netid) k.netid ∙ same-netid-is netid) ∙ other))
      by_test false is = refl

  module _ (row : Row) (before : List Row) (is : after ≡ before ++ row ∷ []) (p : row.prog ≡ prog) (v : row.vers ≡ vers)
      (spelled : IsSpelled row) (may : can_be_set row ≡ true) (short : HasShortCall row) (room : length before < most_rows) (none : find_exact prog vers row.netid before ≡ None) where
    comes : (netids : List Netid) → among netids row.netid ≡ true → (owners : List (ℕ × ℕ)) → AreOwners owners before → Brings now prog vers after netids owners before
    comes [] at owners are = absurd (true≢false (sym at))
    comes (netid ∷ more) at owners are = by_test (is_netid row.netid netid) refl at (λ later. comes more later owners are)
      where
        by_test : (b : Bool) → is_netid row.netid netid ≡ b → (b || among more row.netid) ≡ true → (among more row.netid ≡ true → Brings now prog vers after more owners before) → Brings now prog vers after (netid ∷ more) owners before
        by_test true here at rest =
            let key : is_row prog vers netid row ≡ true = is-key prog vers netid row p v here in
            let was : find_exact prog vers netid before ≡ None = subst (λ (n : Netid). find_exact prog vers n before ≡ None) (netid-is row.netid netid here) none in
            let found : find_exact prog vers netid after ≡ Some row =
            ap (find_exact prog vers netid) is ∙ found-more netid before row ∙ ap (λ (o : Option Row). option_or o (cond (is_row prog vers netid row) (Some row) None)) was ∙ ap (λ (b : Bool). cond b (Some row) None) key in
            let own : AreOwners (owners-by netid owners None (Some row)) after = subst (AreOwners (owners-by netid owners None (Some row))) (sym is) (owners-more prog vers netid small owners before are row key was) in
            let rest-idle = idle more (owners-by netid owners None (Some row)) after own (λ n. refl) in
            one-step netid more owners before after None (Some row) are was found
            (subst (Leads (row_line now row) before) (sym is) (row-leads now row before fits spelled may short room))
            (record {
              leads = subst (λ (t : List ℕ). Leads t after after) (sym rest-idle.0) (stays after);
              theirs = subst (λ (o : List (ℕ × ℕ)). AreOwners o after) (sym rest-idle.1) own;
            })
        by_test false other at rest =
            let same : find_exact prog vers netid after ≡ find_exact prog vers netid before =
            ap (find_exact prog vers netid) is ∙ found-more netid before row ∙ ap (λ (b : Bool). option_or (find_exact prog vers netid before) (cond b (Some row) None)) (no-key netid row other) ∙ or-none (find_exact prog vers netid before) in
            skip netid more owners before are (sym same) (rest at)

  -- ---- rows that went

  module _ (g : Row → Bool) (of-key : (x : Row) → g x ≡ true → (x.prog ≡ prog) × (x.vers ≡ vers)) where
    -- those that stay, while only those on these netids go
    abbrev left : List Netid → Row → Bool
    left netids x = not (g x && among netids x.netid)

    agree-else : (netid : Netid) (more : List Netid) (x : Row) → is_row prog vers netid x ≡ false → left more x ≡ left (netid ∷ more) x
    agree-else netid more x other = by_tests (g x) refl (is_netid x.netid netid) refl
      where
        by_tests : (b : Bool) → g x ≡ b → (c : Bool) → is_netid x.netid netid ≡ c → not (b && among more x.netid) ≡ not (b && (c || among more x.netid))
        by_tests true goes true here = let k = of-key x goes in absurd (true≢false (sym (is-key prog vers netid x k.0 k.1 here) ∙ other))
        by_tests true goes false differs = refl
        by_tests false stay c here = refl

    agree-there : (netid : Netid) (more : List Netid) (x : Row) → is_row prog vers netid x ≡ true → left (netid ∷ more) x ≡ true → left more x ≡ left (netid ∷ more) x
    agree-there netid more x is = by_tests (g x) (is_netid x.netid netid) (ap (λ (n : Netid). is_netid n netid) (has-key prog vers netid x is).netid ∙ same-netid-is netid)
      where
        by_tests : (b c : Bool) → c ≡ true → not (b && (c || among more x.netid)) ≡ true → not (b && among more x.netid) ≡ not (b && (c || among more x.netid))
        by_tests true true here stay = absurd (true≢false (sym stay))
        by_tests true false here stay = absurd (true≢false (sym here))
        by_tests false c here stay = refl

    of-each : (P : Row → Type 0) → ((x : Row) → P x) → (xs : List Row) → AllByRecursion P xs
    of-each P holds [] = tt
    of-each P holds (x ∷ xs) = (holds x, of-each P holds xs)

    none-left-out : (x : Row) → left [] x ≡ true
    none-left-out x = by_test (g x)
      where
        by_test : (b : Bool) → not (b && false) ≡ true
        by_test true = refl
        by_test false = refl

    each-else : (netid : Netid) (more : List Netid) (xs : List Row) → AllByRecursion (λ x. is_row prog vers netid x ≡ false) xs → AllByRecursion (λ x. left more x ≡ left (netid ∷ more) x) xs
    each-else netid more [] others = tt
    each-else netid more (x ∷ xs) others = (agree-else netid more x others.0, each-else netid more xs others.1)

    -- the one that has the key stays
    each-stays : (netid : Netid) (more : List Netid) (r : Row) → left (netid ∷ more) r ≡ true → (xs : List Row) → AllByRecursion (λ x. is_row prog vers netid x ≡ true → x ≡ r) xs → AllByRecursion (λ x. left more x ≡ left (netid ∷ more) x) xs
    each-stays netid more r stay [] only = tt
    each-stays netid more r stay (x ∷ xs) only = (by_key (is_row prog vers netid x) refl, each-stays netid more r stay xs only.1)
      where
        by_key : (b : Bool) → is_row prog vers netid x ≡ b → left more x ≡ left (netid ∷ more) x
        by_key true is = agree-there netid more x is (subst (λ (y : Row). left (netid ∷ more) y ≡ true) (sym (only.0 is)) stay)
        by_key false other = agree-else netid more x other

    -- the one that has the key goes
    each-goes : (netid : Netid) (more : List Netid) (r : Row) → is_row prog vers netid r ≡ true → (xs : List Row) → AllByRecursion (λ x. is_row prog vers netid x ≡ true → x ≡ r) xs
        → AllByRecursion (λ x. is_row prog vers netid x ≡ true → left (netid ∷ more) x ≡ false) xs
        → AllByRecursion (λ x. (not (is_named r x) && left more x) ≡ left (netid ∷ more) x) xs
    each-goes netid more r is [] only gone = tt
    each-goes netid more r is (x ∷ xs) only gone = (by_key (is_row prog vers netid x) refl, each-goes netid more r is xs only.1 gone.1)
      where
        by_key : (b : Bool) → is_row prog vers netid x ≡ b → (not (is_named r x) && left more x) ≡ left (netid ∷ more) x
        by_key true here =
            let named : is_named r x ≡ true = ap (is_named r) (only.0 here) ∙ itself r in
            ap (λ (b : Bool). not b && left more x) named ∙ sym (gone.0 here)
        by_key false other =
            ap (λ (b : Bool). not b && left more x) (not-named-else prog vers netid r x is other) ∙ agree-else netid more x other

    abbrev Later : List Netid → Type 0
    Later more = (rows : List Row) (theirs : List (ℕ × ℕ)) → AreOwners theirs rows → Distinct rows → AllByRecursion IsSpelled rows → filter (left more) rows ≡ after → Brings now prog vers after more theirs rows

    goes : (netids : List Netid) (before : List Row) (owners : List (ℕ × ℕ)) → AreOwners owners before → Distinct before → AllByRecursion IsSpelled before
        → filter (left netids) before ≡ after → Brings now prog vers after netids owners before
    unfolding find_exact without
    goes [] before owners are d spelled e =
        let same : before ≡ after = sym (all-kept (left []) before (of-each (λ x. left [] x ≡ true) none-left-out before)) ∙ e in
        record { leads = subst (Leads [] before) same (stays before); theirs = subst (AreOwners owners) same are }
    goes (netid ∷ more) before owners are d spelled e =
        by_found (find_exact prog vers netid before) refl (find_exact prog vers netid after) refl
        (λ rows theirs own apart sp is. goes more rows theirs own apart sp is)
      where
        -- what is found after it, among those that stay
        found-left : (there : Option Row) → find_exact prog vers netid after ≡ there → find (is_row prog vers netid) (filter (left (netid ∷ more)) before) ≡ there
        found-left there f = ap (find (is_row prog vers netid)) e ∙ f

        by_found : (found : Option Row) → find_exact prog vers netid before ≡ found → (there : Option Row) → find_exact prog vers netid after ≡ there → Later more → Brings now prog vers after (netid ∷ more) owners before
        by_found None was None is later =
            skip netid more owners before are (was ∙ sym is)
            (later before owners are d spelled (same-kept (left more) (left (netid ∷ more)) before (each-else netid more before (none-passes (is_row prog vers netid) before was)) ∙ e))
        by_found None was (Some r) is later = absurd (found-among (is_row prog vers netid) (left (netid ∷ more)) before r (found-left (Some r) is) was)
        by_found (Some r) was None is later =
            let key : is_row prog vers netid r ≡ true = found-passes (is_row prog vers netid) before r was in
            let only = only-one prog vers netid before r d was in
            let gone = none-of-kept (is_row prog vers netid) (left (netid ∷ more)) before (found-left None is) in
            let r-spelled : IsSpelled r = found-holds IsSpelled (is_row prog vers netid) before r spelled was in
            let line : Leads (line-by netid (Some r) None) before (without r before) =
            subst (λ (t : List ℕ). Leads t before (without r before)) (sym (gone-line-is now prog vers netid r (has-key prog vers netid r key) r-spelled)) (gone-leads now r before fits r-spelled) in
            one-step netid more owners before (without r before) (Some r) None are was is line
            (later (without r before) (owners-by netid owners (Some r) None) (owners-fewer prog vers netid small owners before are r d was)
            (distinct-kept (λ x. not (is_named r x)) before d) (each-kept IsSpelled (λ x. not (is_named r x)) before spelled)
            (kept-twice (left more) (λ x. not (is_named r x)) before ∙ same-kept (λ x. not (is_named r x) && left more x) (left (netid ∷ more)) before (each-goes netid more r key before only gone) ∙ e))
        by_found (Some r) was (Some other) is later =
            let only = only-one prog vers netid before r d was in
            let there = found-left (Some other) is in
            let same : other ≡ r = found-holds (λ x. is_row prog vers netid x ≡ true → x ≡ r) (is_row prog vers netid) (filter (left (netid ∷ more)) before) other (each-kept (λ x. is_row prog vers netid x ≡ true → x ≡ r) (left (netid ∷ more)) before only) there (found-passes (is_row prog vers netid) (filter (left (netid ∷ more)) before) other there) in
            let stay : left (netid ∷ more) r ≡ true = subst (λ (x : Row). left (netid ∷ more) x ≡ true) same (found-holds (λ x. left (netid ∷ more) x ≡ true) (is_row prog vers netid) (filter (left (netid ∷ more)) before) other (each-passes (left (netid ∷ more)) before) there) in
            skip netid more owners before are (was ∙ ap Some (sym same) ∙ sym is)
            (later before owners are d spelled (same-kept (left more) (left (netid ∷ more)) before (each-stays netid more r stay before only) ∙ e))

-- ---- one more change

last-of : (P : Row → Type 0) (xs : List Row) (row : Row) → AllByRecursion P (xs ++ row ∷ []) → P row
last-of P [] row a = a.0
last-of P (x ∷ xs) row a = last-of P xs row a.1

new-key : (xs : List Row) (row : Row) → Distinct (xs ++ row ∷ []) → find (is_row row.prog row.vers row.netid) xs ≡ None
new-key [] row d = refl
new-key (x ∷ xs) row d =
    ap (λ (b : Bool). cond b (Some x) (find (is_row row.prog row.vers row.netid) xs)) (apart-one x row xs [] d.0).back ∙ new-key xs row d.1

covered-key : (x : Row) (prog vers : ℕ) (which : Which) (owner : Owner) → covers x (Removed prog vers which owner) ≡ true → (x.prog ≡ prog) × (x.vers ≡ vers)
unfolding covers
covered-key x prog vers which owner e =
    let a = and_parts (((not (x.prog == rpcb_prog) && x.prog == prog) && x.vers == vers) && is_among x.netid which) (may_remove owner x.owner) e in
    let b = and_parts ((not (x.prog == rpcb_prog) && x.prog == prog) && x.vers == vers) (is_among x.netid which) a.0 in
    let c = and_parts (not (x.prog == rpcb_prog) && x.prog == prog) (x.vers == vers) b.0 in
    let d = and_parts (not (x.prog == rpcb_prog)) (x.prog == prog) c.0 in
    (eqb-true x.prog prog d.1, eqb-true x.vers vers c.1)

and-true : (b : Bool) → (b && true) ≡ b
and-true true = refl
and-true false = refl

module _ (s : State) (owners : List (ℕ × ℕ)) (c : Changed) (can : CanBeKept s) (are : AreOwners owners (set_rows s)) (ch : IsChanged s owners c) where
  abbrev before : List Row
  before = set_rows s

  abbrev after : List Row
  after = set_rows c.state

  -- something is written, so what is found differs
  differs : ((netid : Netid) → find_exact c.prog c.vers netid before ≡ find_exact c.prog c.vers netid after) → ⊥
  differs same = ch.some (idle c.state.clock ch.can.clock c.prog c.vers ch.vers after all_netids owners before are same).0

  -- a row of another key is found nowhere
  no-row : (row : Row) → is_row c.prog c.vers row.netid row ≡ false → (netid : Netid) → is_row c.prog c.vers netid row ≡ false
  no-row row other netid = by_test (is_row c.prog c.vers netid row) refl
    where
      by_test : (b : Bool) → is_row c.prog c.vers netid row ≡ b → b ≡ false
      by_test true here =
          let k = has-key c.prog c.vers netid row here in
          absurd (true≢false (sym (is-key c.prog c.vers row.netid row k.prog k.vers (same-netid-is row.netid)) ∙ other))
      by_test false there = refl

  same-added : (row : Row) → after ≡ before ++ row ∷ [] → is_row c.prog c.vers row.netid row ≡ false → (netid : Netid) → find_exact c.prog c.vers netid before ≡ find_exact c.prog c.vers netid after
  same-added row is other netid =
      sym (
      ap (find_exact c.prog c.vers netid) is
      ∙ found-more c.state.clock ch.can.clock c.prog c.vers ch.vers after netid before row
      ∙ ap (λ (b : Bool). option_or (find_exact c.prog c.vers netid before) (cond b (Some row) None)) (no-row row other netid)
      ∙ or-none c.state.clock ch.can.clock c.prog c.vers ch.vers after (find_exact c.prog c.vers netid before)
      )

  added : (row : Row) → after ≡ before ++ row ∷ [] → Brings c.state.clock c.prog c.vers after all_netids owners before
  unfolding find_exact
  added row is = by_key (is_row c.prog c.vers row.netid row) refl
    where
      by_key : (b : Bool) → is_row c.prog c.vers row.netid row ≡ b → Brings c.state.clock c.prog c.vers after all_netids owners before
      by_key true key =
          let good = good-state c.state ch.can in
          let k = has-key c.prog c.vers row.netid row key in
          let new : find (is_row row.prog row.vers row.netid) before ≡ None = new-key before row (subst Distinct is (distinct-state c.state ch.can)) in
          let none : find (is_row c.prog c.vers row.netid) before ≡ None = rw (← k.prog, ← k.vers) new in
          comes c.state.clock ch.can.clock c.prog c.vers ch.vers after row before is k.prog k.vers
          (last-of IsSpelled before row (subst (AllByRecursion IsSpelled) is (recursion_from_All IsSpelled after good.spelled)))
          (last-of (λ r. can_be_set r ≡ true) before row (subst (AllByRecursion (λ r. can_be_set r ≡ true)) is (recursion_from_All (λ r. can_be_set r ≡ true) after good.may)))
          (last-of HasShortCall before row (subst (AllByRecursion HasShortCall) is (recursion_from_All HasShortCall after good.short)))
          (omega (arith, ch.can.few, ap length is, length-append before (row ∷ [])))
          none all_netids (among-all row.netid) owners are
      by_key false other = absurd (differs (same-added row is other))

  module _ (prog vers : ℕ) (which : Which) (owner : Owner) (is : after ≡ without_covered (Removed prog vers which owner) before) where
    abbrev goes-with : Row → Bool
    goes-with x = covers x (Removed prog vers which owner)

    -- no row of another key goes
    stays-there : (prog == c.prog && vers == c.vers) ≡ false → (netid : Netid) (x : Row) → is_row c.prog c.vers netid x ≡ true → not (goes-with x) ≡ true
    stays-there other netid x here = by_test (goes-with x) refl
      where
        by_test : (b : Bool) → goes-with x ≡ b → not b ≡ true
        by_test true t =
            let k = covered-key x prog vers which owner t in
            let l = has-key c.prog c.vers netid x here in
            absurd (true≢false (sym (rw (eq-eqb prog c.prog (sym k.0 ∙ l.prog), eq-eqb vers c.vers (sym k.1 ∙ l.vers)) refl) ∙ other))
        by_test false t = refl

    same-removed : (prog == c.prog && vers == c.vers) ≡ false → (netid : Netid) → find_exact c.prog c.vers netid before ≡ find_exact c.prog c.vers netid after
    unfolding find_exact
    same-removed other netid =
        sym (kept-found (is_row c.prog c.vers netid) (λ x. not (goes-with x)) (stays-there other netid) before) ∙ ap (find (is_row c.prog c.vers netid)) (sym is)

    removed : Brings c.state.clock c.prog c.vers after all_netids owners before
    removed = by_key (prog == c.prog && vers == c.vers) refl
      where
        by_key : (b : Bool) → (prog == c.prog && vers == c.vers) ≡ b → Brings c.state.clock c.prog c.vers after all_netids owners before
        by_key true key =
            let parts = and_parts (prog == c.prog) (vers == c.vers) key in
            let p : prog ≡ c.prog = eqb-true prog c.prog parts.0 in
            let v : vers ≡ c.vers = eqb-true vers c.vers parts.1 in
            goes c.state.clock ch.can.clock c.prog c.vers ch.vers after goes-with
            (λ x t. let k = covered-key x prog vers which owner t in (k.0 ∙ p, k.1 ∙ v))
            all_netids before owners are (distinct-state s can) (recursion_from_All IsSpelled before (good-state s can).spelled)
            (filter_agree (λ x. not (goes-with x && among all_netids x.netid)) (λ x. not (goes-with x)) (λ x. ap (λ (b : Bool). not (goes-with x && b)) (among-all x.netid) ∙ ap not (and-true (goes-with x))) before ∙ sym is)
        by_key false other = absurd (differs (same-removed other))

  brings : Brings c.state.clock c.prog c.vers after all_netids owners before
  brings = by_change ch.change ch.more
    where
      by_change : (change : Change) → c.state.ledger.changes ≡ s.ledger.changes ++ change ∷ [] → Brings c.state.clock c.prog c.vers after all_netids owners before
      by_change (Added row) more = added row (ap left_by more ∙ set_appends [] s.ledger.changes row)
      by_change (Removed prog vers which owner) more = removed prog vers which owner (ap left_by more ∙ unset_filters [] s.ledger.changes prog vers which owner refl)

-- ---- the laws

pub none_has_none : NoneHasNone
unfolding find_exact
none_has_none = record { rising = tt; same = λ prog vers netid small. refl }

pub owners_go_on : OwnersGoOn
owners_go_on s owners c can are ch = (brings s owners c can are ch).theirs

all-lead : (s : State) (owners : List (ℕ × ℕ)) (changed : List Changed) → CanBeKept s → AreOwners owners (set_rows s) → AreChanged s owners changed → Leads (changes_text owners changed) (set_rows s) (set_rows (last_state s changed))
all-lead s owners [] can are all = stays (set_rows s)
all-lead s owners (c ∷ more) can are all =
    let b = brings s owners c can are all.0 in
    joined (change_text c.state c.prog c.vers owners) (changes_text (owners_after c.state c.prog c.vers owners) more) (set_rows s) (set_rows c.state) (set_rows (last_state c.state more))
    b.leads (all-lead c.state (owners_after c.state c.prog c.vers owners) more all.0.can b.theirs all.1)

pub changes_are_read : ChangesAreRead
changes_are_read s owners changed can are all torn none few =
    led (kept_text s ++ changes_text owners changed) torn (set_rows (last_state s changed))
    (joined (kept_text s) (changes_text owners changed) [] (set_rows s) (set_rows (last_state s changed)) (kept-leads s can) (all-lead s owners changed can are all))
    none few
