-- UNSET is answered TRUE exactly if its caller is of this machine, it covers a live row and a number is left.
use Rattle.std.proofs.Common.{◌≡◌, ◌↔◌, ℕ, ◌-◌, ◌^◌, ◌==◌, Bool, true, false, not, cond, inl, inr, List, [], ◌∷◌, length, Option, Some, None, option_map, refl, sym, ap, ◌∙◌, arith}
use Rattle.std.specs.Prelude.{filter}
use Rattle.std.proofs.lemmas.Bool.{and_parts, not-true, or_cases, or_left, or_right, eqb-true, eq-eqb, eqb-false, ne_eqb, lt-ltb, ltb-true, true≢false, false≢true}
use Rattle.std.proofs.lemmas.List.Elements.{Contains-append_right}
use Rattle.std.proofs.lemmas.Option.{none-some, same_Some}
use Rattle.rb_address.specs.declared.netid.Netid.{Netid}
use Rattle.rb_address.specs.declared.netid.Netid.TheVariants.{Tcp, Udp}
use Rattle.rb_address.specs.declared.who.Owner.{Owner}
use Rattle.rb_address.specs.declared.who.Owner.TheVariants.{Unknown, Uid}
use Rattle.rb_address.specs.Netids.{is_netid, netid_named, netid_text}
use Rattle.rb_address.proofs.NameLaws.{names_are_exact}
use Rattle.rb_rpc.specs.declared.call.CallHead.{CallHead}
use Rattle.rb_registry.specs.declared.row.Row.{Row}
use Rattle.rb_registry.specs.declared.row.Which.{Which}
use Rattle.rb_registry.specs.declared.row.Which.TheVariants.{Inet, One}
use Rattle.rb_registry.specs.Registry.{AreOwn}
use Rattle.rb_registry.specs.Rows.{Change, is_among, may_remove, covers, is_change_left, removes_some}
use Rattle.rb_registry.proofs.RowLaws.{unset_filters}
use Rattle.rb_arguments.specs.declared.procedure.MappingProcedure.TheVariants as mappings
use Rattle.rb_arguments.specs.declared.procedure.RpcbProcedure.TheVariants as rpcbs
use Rattle.rb_arguments.specs.declared.request.Request.{Request}
use Rattle.rb_arguments.specs.declared.request.Request.TheVariants as requests
use Rattle.rb_answers.specs.declared.answers.Value.TheVariants as values
use Rattle.rb_answers.specs.declared.answers.Answer.{Answer}
use Rattle.rb_answers.specs.declared.context.Context.{Context}
use Rattle.rb_answers.specs.Callers.{who_of}
use Rattle.rb_answers.specs.Ledger.{Ledger, rows_in, version_of}
use Rattle.rb_answers.specs.Netids.{which_of}
use Rattle.rb_answers.specs.Answers.{owner_in, comes_from_here, accepts_removal, removal_of, unset_rows, answer_to, tell_done}
use Rattle.rb_promises.specs.Addresses.{IsOverIpv4}
use Rattle.rb_promises.specs.Sets.{told}
use Rattle.rb_promises.specs.Unsets.{IsMeant, IsNamed, MayRemove, IsCovered, AreWithout, AreThePortmappers, IsRemovedFrom, RemovesARow, AnswersUnset, UnsetsAreAcceptedExactly}
use Rattle.rb_promises.specs.Unsets.AreWithout.{Neither, Goes, Stays}
use Rattle.rb_promises.proofs.LocalCallers.{local_exactly, owner_exactly}
use Rattle.rb_registry.proofs.FoundLaws.{some_passes, any_passes}
use Rattle.rb_promises.proofs.Keys.{netid_is, same_netid}
use Rattle.rb_promises.proofs.AcceptedSets.{value_in}
use Rattle.rb_promises.proofs.Versions.{version_is}

-- ---- which netids are meant

pub among_ipv4 : (netid : Netid) → is_among netid Inet ≡ true → IsOverIpv4 netid
unfolding is_among
among_ipv4 netid e =
    elim (or_cases (is_netid netid Tcp) (is_netid netid Udp) e) [ inl at ↦ inl (netid_is netid Tcp at) | inr at ↦ inr (netid_is netid Udp at) ]

pub ipv4_among : (netid : Netid) → IsOverIpv4 netid → is_among netid Inet ≡ true
unfolding is_among
ipv4_among netid (inl e) = or_left (is_netid netid Tcp) (is_netid netid Udp) (rw e (same_netid Tcp))
ipv4_among netid (inr e) = or_right (is_netid netid Tcp) (is_netid netid Udp) (rw e (same_netid Udp))

-- these netids are those of the name
abbrev Means : List ℕ → Option Which → Type 0
Means name None = (netid : Netid) → IsMeant name netid → ⊥
Means name (Some which) = (netid : Netid) → (is_among netid which ≡ true) ↔ IsMeant name netid

means : (name : List ℕ) → Means name (which_of name)
unfolding which_of is_among
means [] = λ netid. (λ _. inl refl, λ _. refl)
means (c ∷ text) = by_name (netid_named (c ∷ text)) refl
  where
    not_empty : c ∷ text ≡ [] → ⊥
    not_empty e = absurd cc

    by_name : (o : Option Netid) → netid_named (c ∷ text) ≡ o → Means (c ∷ text) (option_map One o)
    by_name None none = λ netid meant. elim meant [
      | inl e ↦ not_empty e
      | inr e ↦ none-some netid (sym none ∙ (names_are_exact (c ∷ text) netid).1 e)
    ]
    by_name (Some only) is = λ netid. (
      λ e. inr ((names_are_exact (c ∷ text) only).0 is ∙ ap netid_text (sym (netid_is netid only e))),
      λ meant. elim meant [
        | inl e ↦ absurd (not_empty e)
        | inr e ↦ let same : only ≡ netid = same_Some only netid (sym is ∙ (names_are_exact (c ∷ text) netid).1 e) in rw same (same_netid netid)
      ],
    )

-- ---- who may remove a row

may_is : (caller owner : Owner) → may_remove caller owner ≡ true → MayRemove caller owner
unfolding may_remove
may_is Unknown Unknown e = inr refl
may_is Unknown (Uid own) e = absurd cc
may_is (Uid uid) Unknown e = inl (ap (λ (n : ℕ). Uid n) (eqb-true uid 0 e))
may_is (Uid uid) (Uid own) e = elim (or_cases (uid == 0) (uid == own) e) [
  | inl root ↦ inl (ap (λ (n : ℕ). Uid n) (eqb-true uid 0 root))
  | inr same ↦ inr (ap (λ (n : ℕ). Uid n) (sym (eqb-true uid own same)))
]

root_may : (owner : Owner) → may_remove (Uid 0) owner ≡ true
unfolding may_remove
root_may Unknown = refl
root_may (Uid own) = refl

owner_may : (owner : Owner) → may_remove owner owner ≡ true
unfolding may_remove
owner_may Unknown = refl
owner_may (Uid uid) = or_right (uid == 0) (uid == uid) (eq-eqb uid uid refl)

is_may : (caller owner : Owner) → MayRemove caller owner → may_remove caller owner ≡ true
is_may caller owner (inl root) = rw root (root_may owner)
is_may caller owner (inr same) = rw same (owner_may caller)

-- ---- rows without those that are covered

module _ (test : Row → Bool) (IsGone : Row → Type 0) (exact : (row : Row) → (test row ≡ true) ↔ IsGone row) where
  without : (rows : List Row) → AreWithout IsGone rows (filter (λ row. not (test row)) rows)
  without [] = Neither
  without (row ∷ rows) = by_test (test row) refl (without rows)
    where
      left : List Row
      left = filter (λ r. not (test r)) rows

      by_test : (b : Bool) → test row ≡ b → AreWithout IsGone rows left → AreWithout IsGone (row ∷ rows) (cond (not b) (row ∷ left) left)
      by_test true e further = Goes row rows left ((exact row).0 e) further
      by_test false e further = Stays row rows left (λ gone. true≢false (sym ((exact row).1 gone) ∙ e)) further

are_own : (rows : List Row) → AreThePortmappers rows → AreOwn rows
are_own [] own = refl
are_own (row ∷ rows) own =
    rw (eq-eqb row.prog 100000 (own row (0, omega arith, refl)))
    (are_own rows (λ other there. own other (Contains-append_right (row ∷ []) rows other there)))

-- ---- what it is answered

-- An UNSET of this request, of these netids.
pub record IsUnsetOf (request : Request) (prog vers : ℕ) (IsAmong : Netid → Type 0) : Type 0 where
  pub names : (row : Row) → IsNamed request row → (row.prog ≡ prog) × (row.vers ≡ vers) × IsAmong row.netid
  pub named : (row : Row) → row.prog ≡ prog → row.vers ≡ vers → IsAmong row.netid → IsNamed request row

told_apart : (answer : Answer) → answer ≡ told true → answer ≡ told false → ⊥
told_apart answer is_true is_false = true≢false (sym (ap value_in is_true) ∙ ap value_in is_false)

module _ (context : Context) (head : CallHead) (request : Request) (arguments : List ℕ) (l : Ledger) (prog vers : ℕ) (IsAmong : Netid → Type 0) (is : IsUnsetOf request prog vers IsAmong) where
  abbrev answer_and_ledger : Answer × Ledger
  answer_and_ledger = answer_to context head request arguments l

  -- the netids are known
  module _ (which : Which) (exact : (netid : Netid) → (is_among netid which ≡ true) ↔ IsAmong netid)
      (done : answer_and_ledger ≡ tell_done values.Bool (unset_rows context head prog vers (Some which) l)) where
    abbrev removal : Change
    removal = removal_of context head prog vers which

    covered_is : (row : Row) → covers row removal ≡ true → IsCovered context head request row
    unfolding covers
    covered_is row e =
        let (four, may) = and_parts _ _ e in
        let (three, among) = and_parts _ _ four in
        let (two, version) = and_parts _ _ three in
        let (foreign, program) = and_parts _ _ two in
        record {
          caller = owner_in context head;
          calls_as = (owner_exactly (who_of context.caller).trust head.cred (owner_in context head)).0 refl;
          named = is.named row (eqb-true row.prog prog program) (eqb-true row.vers vers version) ((exact row.netid).0 among);
          foreign = eqb-false row.prog 100000 (not-true (row.prog == 100000) foreign);
          allowed = may_is (owner_in context head) row.owner may;
        }

    is_covered : (row : Row) → IsCovered context head request row → covers row removal ≡ true
    unfolding covers
    is_covered row c =
        let (program, version, among) = is.names row c.named in
        let owner_is = (owner_exactly (who_of context.caller).trust head.cred c.caller).1 c.calls_as in
        let foreign = ne_eqb row.prog 100000 c.foreign in
        let same_program = eq-eqb row.prog prog program in
        let same_version = eq-eqb row.vers vers version in
        let there = (exact row.netid).1 among in
        let may : may_remove (owner_in context head) row.owner ≡ true = rw owner_is (is_may c.caller row.owner c.allowed) in
        rw (foreign, same_program, same_version, there, may) refl

    accepted_is : accepts_removal context l removal ≡ true → RemovesARow context head request l
    unfolding accepts_removal comes_from_here removes_some is_change_left
    accepted_is e =
        let (here, removes) = and_parts _ _ e in
        let (some, left) = and_parts _ _ removes in
        let (row, live, covered) = some_passes (λ row. covers row removal) (rows_in l) some in
        record {
          local = (local_exactly context.announced (who_of context.caller)).0 here;
          row = row;
          live = live;
          covered = covered_is row covered;
          numbered = ltb-true (length l.changes) (2 ^ 64 - 1) left;
        }

    is_accepted : RemovesARow context head request l → accepts_removal context l removal ≡ true
    unfolding accepts_removal comes_from_here removes_some is_change_left
    is_accepted r =
        let here = (local_exactly context.announced (who_of context.caller)).1 r.local in
        let some = any_passes (λ row. covers row removal) (rows_in l) r.row r.live (is_covered r.row r.covered) in
        let left = lt-ltb (length l.changes) (2 ^ 64 - 1) r.numbered in
        rw (here, some, left) refl

    said : answer_and_ledger.0 ≡ told (accepts_removal context l removal)
    unfolding unset_rows
    said = ap (λ (p : Answer × Ledger). p.0) done

    left_so : answer_and_ledger.1 ≡ (unset_rows context head prog vers (Some which) l).1
    left_so = ap (λ (p : Answer × Ledger). p.1) done

    removes_them : accepts_removal context l removal ≡ true → AreThePortmappers l.own
        → IsRemovedFrom context head request l (unset_rows context head prog vers (Some which) l).1
    unfolding unset_rows
    removes_them e own = rw e (record {
      live = rw (unset_filters l.own l.changes prog vers which (owner_in context head) (are_own l.own own))
          (without (λ row. covers row removal) (IsCovered context head request) (λ row. (covered_is row, is_covered row)) (rows_in l));
      own = refl;
      changes = (removal, refl);
      history = (version_of head.vers, version_is head.vers, refl);
      forwards = refl;
    })

    keeps_all : accepts_removal context l removal ≡ false → (unset_rows context head prog vers (Some which) l).1 ≡ l
    unfolding unset_rows
    keeps_all e = rw e refl

    known : (b : Bool) → accepts_removal context l removal ≡ b → AnswersUnset context head request arguments l
    known true accepted =
        let is_true : answer_and_ledger.0 ≡ told true = said ∙ ap told accepted in
        record {
          one_of = inl is_true;
          exactly = (λ _. accepted_is accepted, λ _. is_true);
          removes = λ _ own. rw left_so (removes_them accepted own);
          keeps = λ is_false. absurd (told_apart _ is_true is_false);
        }
    known false refused =
        let is_false : answer_and_ledger.0 ≡ told false = said ∙ ap told refused in
        record {
          one_of = inr is_false;
          exactly = (λ is_true. absurd (told_apart _ is_true is_false), λ r. absurd (false≢true (sym refused ∙ is_accepted r)));
          removes = λ is_true own. absurd (told_apart _ is_true is_false);
          keeps = λ _. left_so ∙ keeps_all refused;
        }

    pub answers_known : AnswersUnset context head request arguments l
    answers_known = known (accepts_removal context l removal) refl

  -- there is is_false such netid
  pub answers_unknown : ((netid : Netid) → IsAmong netid → ⊥) → answer_and_ledger ≡ tell_done values.Bool (unset_rows context head prog vers None l)
      → AnswersUnset context head request arguments l
  unfolding unset_rows
  answers_unknown none done =
      let is_false : answer_and_ledger.0 ≡ told false = ap (λ (p : Answer × Ledger). p.0) done in
      record {
        one_of = inr is_false;
        exactly = (λ is_true. absurd (told_apart _ is_true is_false), λ r. absurd (none r.row.netid ((is.names r.row r.covered.named).2)));
        removes = λ is_true own. absurd (told_apart _ is_true is_false);
        keeps = λ _. ap (λ (p : Answer × Ledger). p.1) done;
      }

pub unsets_are_accepted_exactly : UnsetsAreAcceptedExactly
unsets_are_accepted_exactly context head (requests.Mapping mappings.Unset m) arguments l unset =
    answers_known context head (requests.Mapping mappings.Unset m) arguments l m.prog m.vers IsOverIpv4
    (record { names = λ row named. named; named = λ row p v n. (p, v, n) })
    Inet (λ netid. (among_ipv4 netid, ipv4_among netid)) refl
unsets_are_accepted_exactly context head (requests.Rpcb rpcbs.Unset r) arguments l unset = by_which (which_of r.netid) (means r.netid) refl
  where
    is : IsUnsetOf (requests.Rpcb rpcbs.Unset r) r.prog r.vers (IsMeant r.netid)
    is = record { names = λ row named. named; named = λ row p v n. (p, v, n) }

    by_which : (o : Option Which) → Means r.netid o → which_of r.netid ≡ o → AnswersUnset context head (requests.Rpcb rpcbs.Unset r) arguments l
    by_which None none e =
        answers_unknown context head (requests.Rpcb rpcbs.Unset r) arguments l r.prog r.vers (IsMeant r.netid) is none
        (ap (λ (o : Option Which). tell_done values.Bool (unset_rows context head r.prog r.vers o l)) e)
    by_which (Some which) exact e =
        answers_known context head (requests.Rpcb rpcbs.Unset r) arguments l r.prog r.vers (IsMeant r.netid) is which exact
        (ap (λ (o : Option Which). tell_done values.Bool (unset_rows context head r.prog r.vers o l)) e)
unsets_are_accepted_exactly context head _ arguments l unset = absurd unset
