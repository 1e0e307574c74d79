-- Lists, item by item.
use Rattle.std.proofs.Common.{◌≡◌, ◌+◌, ℕ, suc, Bool, true, false, List, [], ◌∷◌, ◌++◌, drop, Option, Some, None, refl}
use Rattle.rb_xdr.specs.Xdr.{Reader, read_bool}
use Rattle.rb_xdr.specs.XdrTypes.{read_optional}
use Rattle.rb_show.specs.declared.fault.InfoFault.TheVariants.{TooMany}
use Rattle.rb_show.specs.declared.take.Pause.{Pause}
use Rattle.rb_show.specs.declared.take.Pause.TheVariants.{Fault}
use Rattle.rb_show.specs.Telling.{Teller, ◌>>=◌, give, take_one}
use Rattle.rb_show.specs.Lists.{tell_items, tell_item, tell_end}
use Rattle.rb_show.specs.WholeLists.{take_items, next_item, take_end}
use Rattle.rb_show.specs.Fronts.{GoesOn, Pauses, Takes}
use Rattle.rb_show.proofs.Fronts.{gives_then, pauses_then, pauses_after, goes_at_once, breaks}

module _ {A : Type 0} (reads : Reader A) (bytes : List ℕ) where
  abbrev One : Option A → ℕ → Type 0
  One item used = Takes (take_one (read_optional reads)) bytes item used

  abbrev End : Bool → ℕ → Type 0
  End more used = Takes (take_one read_bool) bytes more used

  -- ---- lines

  module _ (line : A → List ℕ) (n k shown : ℕ) (one_more : n ≡ suc k) where
    unfolded : tell_items reads line n shown ≡ take_one (read_optional reads) >>= tell_item line shown (tell_items reads line k (shown + 1))
    unfolding tell_items
    unfolded = rw one_more refl

    pub line_pause : (pause : Pause) → Pauses (take_one (read_optional reads)) bytes pause → Pauses (tell_items reads line n shown) bytes pause
    line_pause pause p = rw unfolded (pauses_then (take_one (read_optional reads)) (tell_item line shown (tell_items reads line k (shown + 1))) bytes pause p)

    pub line_none : (used : ℕ) → One None used → GoesOn (tell_items reads line n shown) bytes [] used (give shown)
    line_none used p = rw unfolded (gives_then (take_one (read_optional reads)) (tell_item line shown (tell_items reads line k (shown + 1))) bytes [] used None p.goes_on)

    pub line_some : (x : A) (used : ℕ) → One (Some x) used → GoesOn (tell_items reads line n shown) bytes (line x ∷ []) used (tell_items reads line k (shown + 1))
    unfolding ◌>>=◌
    line_some x used p =
        let next : Option A → Teller ℕ = tell_item line shown (tell_items reads line k (shown + 1)) in
        rw unfolded (goes_at_once (take_one (read_optional reads) >>= next) bytes [] used (next (Some x)) (line x ∷ []) (tell_items reads line k (shown + 1))
        (gives_then (take_one (read_optional reads)) next bytes [] used (Some x) p.goes_on) (λ end content. refl))

  module _ (line : A → List ℕ) (n shown : ℕ) (no_more : n ≡ 0) where
    at_end : tell_items reads line n shown ≡ take_one read_bool >>= tell_end shown
    unfolding tell_items
    at_end = rw no_more refl

    pub last_pause : (pause : Pause) → Pauses (take_one read_bool) bytes pause → Pauses (tell_items reads line n shown) bytes pause
    last_pause pause p = rw at_end (pauses_then (take_one read_bool) (tell_end shown) bytes pause p)

    pub last_none : (used : ℕ) → End false used → GoesOn (tell_items reads line n shown) bytes [] used (give shown)
    last_none used p = rw at_end (gives_then (take_one read_bool) (tell_end shown) bytes [] used false p.goes_on)

    pub last_more : (used : ℕ) → End true used → Pauses (tell_items reads line n shown) bytes (Fault TooMany)
    last_more used p =
        rw at_end (pauses_after (take_one read_bool >>= tell_end shown) bytes used (tell_end shown true) (Fault TooMany)
        (gives_then (take_one read_bool) (tell_end shown) bytes [] used true p.goes_on) (breaks {A = ℕ} TooMany (drop used bytes)))

  -- ---- items that are taken

  module _ (n k : ℕ) (taken : List A) (one_more : n ≡ suc k) where
    taken_is : take_items reads n taken ≡ take_one (read_optional reads) >>= next_item taken (take_items reads k)
    unfolding take_items
    taken_is = rw one_more refl

    pub item_pause : (pause : Pause) → Pauses (take_one (read_optional reads)) bytes pause → Pauses (take_items reads n taken) bytes pause
    item_pause pause p = rw taken_is (pauses_then (take_one (read_optional reads)) (next_item taken (take_items reads k)) bytes pause p)

    pub item_none : (used : ℕ) → One None used → GoesOn (take_items reads n taken) bytes [] used (give taken)
    item_none used p = rw taken_is (gives_then (take_one (read_optional reads)) (next_item taken (take_items reads k)) bytes [] used None p.goes_on)

    pub item_some : (x : A) (used : ℕ) → One (Some x) used → GoesOn (take_items reads n taken) bytes [] used (take_items reads k (taken ++ x ∷ []))
    item_some x used p = rw taken_is (gives_then (take_one (read_optional reads)) (next_item taken (take_items reads k)) bytes [] used (Some x) p.goes_on)

  module _ (n : ℕ) (taken : List A) (no_more : n ≡ 0) where
    taken_end : take_items reads n taken ≡ take_one read_bool >>= take_end taken
    unfolding take_items
    taken_end = rw no_more refl

    pub end_pause : (pause : Pause) → Pauses (take_one read_bool) bytes pause → Pauses (take_items reads n taken) bytes pause
    end_pause pause p = rw taken_end (pauses_then (take_one read_bool) (take_end taken) bytes pause p)

    pub end_none : (used : ℕ) → End false used → GoesOn (take_items reads n taken) bytes [] used (give taken)
    end_none used p = rw taken_end (gives_then (take_one read_bool) (take_end taken) bytes [] used false p.goes_on)

    pub end_more : (used : ℕ) → End true used → Pauses (take_items reads n taken) bytes (Fault TooMany)
    end_more used p =
        rw taken_end (pauses_after (take_one read_bool >>= take_end taken) bytes used (take_end taken true) (Fault TooMany)
        (gives_then (take_one read_bool) (take_end taken) bytes [] used true p.goes_on) (breaks {A = List A} TooMany (drop used bytes)))
