-- The removals that a registry keeps.
use Rattle.std.proofs.Common.{◌≡◌, List, ap}
use Rattle.std.specs.List.{filter_map}
use Rattle.rb_registry.specs.declared.slot.Slot.{Slot}
use Rattle.rb_registry.specs.Registry.{removals_of}
use Rattle.rb_answers.specs.Ledger.{Ledger}
use Rattle.rb_proto.specs.Ledger.{Books, StandsForLedger}
use Rattle.rb_proto.specs.Books.{removals_after}

pub removals_kept : (books : Books) (l : Ledger) → StandsForLedger books l → removals_of books.registry ≡ removals_after books.registry.floor l
removals_kept books l h = ap (λ (slots : List Slot). filter_map (λ slot. slot.removed) slots) h.registry.slots
