-- Rows that are set and removed in books.
use Rattle.std.proofs.Common.{◌≡◌, ℕ, ◌+◌, ◌<◌, ◌≤◌, Bool, true, false, cond, ◌&&◌, List, [], ◌∷◌, ◌++◌, length, Option, Some, None, refl, sym, ap, ◌∙◌, subst, length-append, arith}
use Rattle.std.specs.Prelude.{◌-◌, ◌/◌, ◌==◌, nat_lt, not, is_some}
use Rattle.std.specs.List.{list_any}
use Rattle.std.specs.Option.{option_or}
use Rattle.std.proofs.lemmas.Bool.{lt-ltb, ltb-true}
use Rattle.rb_rpc.specs.declared.call.CallHead.{CallHead}
use Rattle.rb_address.specs.declared.who.Owner.{Owner}
use Rattle.rb_address.specs.declared.who.Trust.{Trust}
use Rattle.rb_address.specs.declared.who.Trust.TheVariants.{Claims, Local, Stranger}
use Rattle.rb_registry.specs.declared.row.Row.{Row}
use Rattle.rb_registry.specs.declared.row.Which.{Which}
use Rattle.rb_registry.specs.Rows.{Change, rpcb_prog, has_place, removes_some, is_of_key, is_change_left}
use Rattle.rb_registry.specs.Rows.Change.{Added}
use Rattle.rb_registry.specs.Registry.{Registry, rows_of, retained_count}
use Rattle.rb_registry.specs.Table.{takes, StandsForMore}
use Rattle.rb_stats.specs.Statistics.Note.{WasSet, WasUnset}
use Rattle.rb_stats.specs.Counting.{HasNoted}
use Rattle.rb_answers.specs.Callers.{who_of, is_superuser, share_of, share_by}
use Rattle.rb_answers.specs.Ledger.{Ledger, rows_in, version_of}
use Rattle.rb_proto.specs.Ledger.{Books, StandsForLedger}
use Rattle.rb_proto.specs.Books.{ActsAs, HasRoomFor}
use Rattle.rb_registry.specs.declared.reasons.Refusal.{Refusal}
use Rattle.rb_registry.specs.declared.reasons.Refusal.TheVariants as reasons
use Rattle.rb_answers.specs.Netids.{is_address}
use Rattle.rb_answers.specs.Reserved.{may_own}
use Rattle.rb_proto.specs.Reasons.{refusal_before, refusal_beside}
use Rattle.rb_answers.specs.declared.context.Context.{Context}
use Rattle.rb_answers.specs.Answers.{accepts, comes_from_here, can_be_set, has_share, accepts_row, set_row, accepts_removal, removal_of, unset_rows}

one_more : (changes : List Change) (change : Change) → changes ++ change ∷ [] ≡ changes → ⊥
one_more changes change e =
    let longer = length-append changes (change ∷ []) in
    let same : length (changes ++ change ∷ []) ≡ length changes = ap (λ (cs : List Change). length cs) e in
    omega (arith, longer, same)

-- ---- whether a row is accepted

-- a share is no more than the limit
share_within : (owner : Owner) (limit : ℕ) → share_of owner limit ≤ limit
share_within owner limit = by_owner (is_superuser owner)
  where
    by_owner : (b : Bool) → cond b limit (limit - limit / 4) ≤ limit
    by_owner true = omega arith
    by_owner false = omega arith

share_by_within : (trust : Trust) (limit : ℕ) → share_by trust limit ≤ limit
share_by_within Claims limit = omega arith
share_by_within (Local owner) limit = share_within owner limit
share_by_within Stranger limit = omega arith

-- who has a share finds the limit unreached
few_enough : (context : Context) (rows : List Row) → has_share context rows ≡ true → length rows < context.limit
unfolding has_share
few_enough context rows share =
    let within = share_by_within (who_of context.caller).trust context.limit in
    let few = ltb-true _ _ share in
    omega (arith, within, few)

-- the caller may set the row, whatever rows there are
abbrev pub may_set : Context → Row → Bool
may_set context row = comes_from_here context && can_be_set row && may_own context.reserved row

-- if nothing speaks against it before
pub nothing_before : (context : Context) (row : Row) → is_some (refusal_before context row) ≡ false → may_set context row ≡ true
unfolding can_be_set
nothing_before context row = by_parts (comes_from_here context) (row.prog == rpcb_prog) (is_address row.netid row.addr) (may_own context.reserved row)
  where
    by_parts : (here own settable may : Bool)
        → is_some (cond (not here) (Some reasons.MayNotRegister) (cond own (Some reasons.OwnProgram) (cond (not settable) (Some reasons.NoAddress) (cond (not may) (Some reasons.Reserved) None)))) ≡ false
        → (here && (not own && settable) && may) ≡ true
    by_parts here own settable may e = grind arith

pub something_before : (context : Context) (row : Row) → is_some (refusal_before context row) ≡ true → may_set context row ≡ false
unfolding can_be_set
something_before context row = by_parts (comes_from_here context) (row.prog == rpcb_prog) (is_address row.netid row.addr) (may_own context.reserved row)
  where
    by_parts : (here own settable may : Bool)
        → is_some (cond (not here) (Some reasons.MayNotRegister) (cond own (Some reasons.OwnProgram) (cond (not settable) (Some reasons.NoAddress) (cond (not may) (Some reasons.Reserved) None)))) ≡ true
        → (here && (not own && settable) && may) ≡ false
    by_parts here own settable may e = grind arith

-- then what comes after it counts
pub reason_after : (context : Context) (row : Row) (after : Option Refusal) → is_some (refusal_before context row) ≡ false → after ≡ option_or (refusal_before context row) after
reason_after context row after e = by_reason (refusal_before context row) e
  where
    by_reason : (r : Option Refusal) → is_some r ≡ false → after ≡ option_or r after
    by_reason None e = refl
    by_reason (Some r) e = absurd cc

pub reason_before : (r after : Option Refusal) → is_some r ≡ true → r ≡ option_or r after
reason_before None after e = absurd cc
reason_before (Some r) after e = refl

-- what may not be set is not accepted
pub is_not_accepted : (context : Context) (rows : List Row) (count : ℕ) (row : Row) → may_set context row ≡ false → accepts context rows count row ≡ false
is_not_accepted context rows count row e = rw e refl

module _ (context : Context) (rows : List Row) (count : ℕ) (row : Row) (may : may_set context row ≡ true) where
  pub share_is_used : has_share context rows ≡ false → false ≡ accepts context rows count row
  share_is_used used = rw (may, used) refl

  pub key_is_there : has_share context rows ≡ true → list_any (is_of_key row) rows ≡ true → false ≡ accepts context rows count row
  unfolding has_place
  key_is_there share there = rw (may, share, there) refl

  pub number_is_left : has_share context rows ≡ true → list_any (is_of_key row) rows ≡ false
      → nat_lt count 18446744073709551615 ≡ accepts context rows count row
  unfolding has_place is_change_left
  number_is_left share new = rw (may, share, new, lt-ltb _ _ (few_enough context rows share)) refl

-- ---- SET

-- books with another reason of the last refusal
abbrev pub with_refusal : Option Refusal → Books → Books
with_refusal r books = record books { refusal = r }

stands_too : (r : Option Refusal) (books : Books) (l : Ledger) → StandsForLedger books l → StandsForLedger (with_refusal r books) l
stands_too r books l h = record { registry = h.registry; stats = h.stats; forwards = h.forwards }

-- a row that no ledger accepts is refused
module _ (context : Context) (head : CallHead) (row : Row) (books : Books) (r : Option Refusal)
    (refused : (l : Ledger) → StandsForLedger books l → accepts_row context l row ≡ false) where
  pub refuses : ActsAs (set_row context head (Some row)) books (with_refusal r books) false
  unfolding set_row
  refuses = record {
    gives = λ l h. sym (refused l h);
    stands = λ l h. rw (refused l h) (stands_too r books l h);
    kept = λ l h e. refl;
  }

-- so is one that the caller may not set
pub may_not_set : (context : Context) (head : CallHead) (row : Row) (books : Books) (r : Option Refusal) → may_set context row ≡ false
    → ActsAs (set_row context head (Some row)) books (with_refusal r books) false
unfolding accepts_row
may_not_set context head row books r may_not = refuses context head row books r refused
  where
    refused : (l : Ledger) → StandsForLedger books l → accepts_row context l row ≡ false
    refused l h = is_not_accepted context (rows_in l) (length l.changes) row may_not

-- and one that it has no share for
pub no_share : (context : Context) (head : CallHead) (row : Row) (books : Books) (r : Option Refusal) → may_set context row ≡ true → has_share context (rows_of books.registry) ≡ false
    → ActsAs (set_row context head (Some row)) books (with_refusal r books) false
unfolding accepts_row
no_share context head row books r may used = refuses context head row books r refused
  where
    refused : (l : Ledger) → StandsForLedger books l → accepts_row context l row ≡ false
    refused l h = sym (share_is_used context (rows_in l) (length l.changes) row may (subst (λ (rows : List Row). has_share context rows ≡ false) h.registry.rows used))

module _ (context : Context) (row : Row) (kept : Registry) (may : may_set context row ≡ true)
    (share : has_share context (rows_of kept) ≡ true) (limit : kept.limit ≡ context.limit) (room : HasRoomFor context (Some row) kept) where
  abbrev has_row_place : Bool
  has_row_place = has_place kept.limit (rows_of kept) kept.stamp row

  -- a row that has its place is taken, since there is room for it
  takes_what_has_place : takes kept row ≡ has_row_place
  takes_what_has_place = by_place has_row_place refl
    where
      by_place : (b : Bool) → has_row_place ≡ b → (b && nat_lt (length (rows_of kept) + retained_count kept) kept.limit) ≡ b
      by_place true e = lt-ltb _ _ (room (rw (may, share, ← limit) e))
      by_place false e = refl

  -- so the ledger says whether it is
  pub takes_as_ledger : (books : Books) → books.registry ≡ kept → (l : Ledger) → StandsForLedger books l → takes kept row ≡ accepts_row context l row
  unfolding accepts_row
  takes_as_ledger books same l h =
      takes_what_has_place ∙ rw (may, ← h.registry.rows, same, share, ← limit, ← h.registry.stamp, same) refl

  -- why it is not
  pub reason_is : (b : Bool) → takes kept row ≡ b
      → cond b None (Some (cond (is_change_left kept.stamp) reasons.Taken reasons.NoPlace)) ≡ refusal_beside context (rows_of kept) kept.stamp row
  unfolding has_place
  reason_is b taken =
      rw share
      (by_parts (list_any (is_of_key row) (rows_of kept)) (nat_lt (length (rows_of kept)) kept.limit) (is_change_left kept.stamp) b
      (rw limit (lt-ltb _ _ (few_enough context (rows_of kept) share)))
      (sym takes_what_has_place ∙ taken))
    where
      by_parts : (there few left b : Bool) → few ≡ true → (not there && few && left) ≡ b
          → cond b None (Some (cond left reasons.Taken reasons.NoPlace)) ≡ cond (not left) (Some reasons.NoPlace) (cond there (Some reasons.Taken) None)
      by_parts there few left b e f = grind arith

module _ (context : Context) (head : CallHead) (row : Row) (old new : Books)
    (may : may_set context row ≡ true) (share : has_share context (rows_of old.registry) ≡ true)
    (limit : old.registry.limit ≡ context.limit)
    (room : HasRoomFor context (Some row) old.registry) where
  asked : (b : Bool) → takes old.registry row ≡ b → (l : Ledger) → StandsForLedger old l → accepts_row context l row ≡ b
  asked b taken l h = sym (takes_as_ledger context row old.registry may share limit room old refl l h) ∙ taken

  pub set_acts : (taken : takes old.registry row ≡ true) → StandsForMore old.registry new.registry true (Added row) → HasNoted (WasSet (version_of head.vers)) old.stats new.stats
      → new.forwards ≡ old.forwards → ActsAs (set_row context head (Some row)) old new true
  unfolding set_row
  set_acts taken more noted forwards = record {
    gives = λ l h. sym (asked true taken l h);
    stands = λ l h. rw (asked true taken l h) (record { registry = more l.own l.changes h.registry; stats = noted l.history h.stats; forwards = rw forwards h.forwards });
    kept = λ l h e. absurd (one_more l.changes (Added row) (rw (asked true taken l h) at e));
  }

  pub set_refused : (taken : takes old.registry row ≡ false) (r : Option Refusal) → new ≡ with_refusal r old → ActsAs (set_row context head (Some row)) old new false
  set_refused taken r same = rw same (refuses context head row old r (asked false taken))

-- ---- UNSET

module _ (context : Context) (head : CallHead) (prog vers : ℕ) (which : Which) (old new : Books)
    (here : comes_from_here context ≡ true) (taken : removes_some (rows_of old.registry) old.registry.stamp (removal_of context head prog vers which) ≡ true)
    (more : StandsForMore old.registry new.registry true (removal_of context head prog vers which)) (noted : HasNoted (WasUnset (version_of head.vers)) old.stats new.stats)
    (forwards : new.forwards ≡ old.forwards) where
  removed : (l : Ledger) → StandsForLedger old l → accepts_removal context l (removal_of context head prog vers which) ≡ true
  unfolding accepts_removal
  removed l h =
      let of_rows : removes_some (rows_in l) old.registry.stamp (removal_of context head prog vers which) ≡ true = subst (λ (rows : List Row). removes_some rows old.registry.stamp (removal_of context head prog vers which) ≡ true) h.registry.rows taken in
      rw (here, ← h.registry.stamp) of_rows

  pub unset_acts : ActsAs (unset_rows context head prog vers (Some which)) old new true
  unfolding unset_rows
  unset_acts = record {
    gives = λ l h. sym (removed l h);
    stands = λ l h. rw (removed l h) (record {
      registry = more l.own l.changes h.registry;
      stats = noted l.history h.stats;
      forwards = rw forwards h.forwards;
    });
    kept = λ l h e. absurd (one_more l.changes (removal_of context head prog vers which) (rw (removed l h) at e));
  }
