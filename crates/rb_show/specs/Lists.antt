-- Linked lists (RFC 4506 section 4.19), whose items are told one by one.
use Rattle.std.specs.Prelude.{ℕ, zero, suc, ◌+◌, Bool, if◌then◌else◌, List, [], ◌∷◌, Option, Some, None}
use Rattle.rb_xdr.specs.Xdr.{Reader, read_bool}
use Rattle.rb_xdr.specs.XdrTypes.{read_optional}
use Rattle.rb_show.specs.declared.fault.InfoFault.TheVariants.{TooMany}
use Rattle.rb_show.specs.Telling.{Teller, ◌>>=◌, give, stop, tell, take_one}

-- ITEM-1: At most 4,096 items of a list are shown; a further TRUE is too many.
abbrev pub greatest_list : ℕ
greatest_list = 4096

-- another TRUE is too many
abbrev pub tell_end : ℕ → Bool → Teller ℕ
tell_end shown more = if more then stop TooMany else give shown

-- an item's line, and then more; without an item, how many there were
-- ITEM-2: An item's line is written once the item was read whole.
abbrev pub tell_item : {A : Type 0} → (A → List ℕ) → ℕ → Teller ℕ → Option A → Teller ℕ
tell_item line shown more None = give shown
tell_item line shown more (Some x) = tell (line x ∷ []) >>= λ _. more

-- A list of at most this many more items, after those that were shown: TRUE and the item for each, FALSE at the end.
unfoldable pub tell_items : {A : Type 0} → Reader A → (A → List ℕ) → ℕ → ℕ → Teller ℕ
tell_items reads line zero shown = take_one read_bool >>= tell_end shown
tell_items reads line (suc k) shown = take_one (read_optional reads) >>= tell_item line shown (tell_items reads line k (shown + 1))
