-- Linked lists (RFC 4506 section 4.19) that are taken whole, before anything of them is told.
use Rattle.std.specs.Prelude.{ℕ, zero, suc, Bool, if◌then◌else◌, List, [], ◌∷◌, ◌++◌, Option, Some, None}
use Rattle.rb_xdr.specs.Xdr.{Reader, read_bool}
use Rattle.rb_xdr.specs.XdrTypes.{read_optional}
use Rattle.rb_show.specs.declared.fault.InfoFault.TheVariants.{TooMany}
use Rattle.rb_show.specs.Telling.{Teller, ◌>>=◌, give, stop, take_one}

-- another TRUE is too many
abbrev pub take_end : {A : Type 0} → List A → Bool → Teller (List A)
take_end taken more = if more then stop TooMany else give taken

-- an item, and then more; without an item, those that were taken
abbrev pub next_item : {A : Type 0} → List A → (List A → Teller (List A)) → Option A → Teller (List A)
next_item taken more None = give taken
next_item taken more (Some x) = more (taken ++ x ∷ [])

-- A list of at most this many more items, after those that were taken: TRUE and the item for each, FALSE at the end.
-- ITEM-1
unfoldable pub take_items : {A : Type 0} → Reader A → ℕ → List A → Teller (List A)
take_items reads zero taken = take_one read_bool >>= take_end taken
take_items reads (suc k) taken = take_one (read_optional reads) >>= next_item taken (take_items reads k)
