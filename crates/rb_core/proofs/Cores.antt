-- What is true of all that a core holds is true of it after a call too.
use Rattle.std.proofs.Common.{◌≡◌, ◌≤◌, ℕ, [], length, refl, sym, ◌∙◌}
use Rattle.rb_xdr.specs.Kept.{Kept}
use Rattle.rb_proto.specs.declared.books.Books.{Books}
use Rattle.rb_proto.specs.Books.{SameFrame}
use Rattle.rb_model.specs.State.{Setting}
use Rattle.rb_model.specs.Calls.{longest_reply}
use Rattle.rb_connections.specs.StandsFor.{Table}
use Rattle.rb_connections.specs.Slots.{StaysTable, IsDraft}
use Rattle.rb_connections.specs.Listings.{CanContinueAll}
use Rattle.rb_core.specs.Awaits.{AreAwaited}
use Rattle.rb_core.specs.Core.{IsCore}

-- with other connections, books and buffers
pub core_changed : (setting : Setting) (old new : Table) (books left : Books) (reply written draft after arguments ended : Kept) (len count : ℕ)
    → IsCore setting old books reply draft arguments len → StaysTable old new → SameFrame books left
    → written.tie ≡ reply.tie → written.cap ≡ reply.cap → count ≡ length written.bytes → length written.bytes ≤ longest_reply
    → AreAwaited left.forwards new → CanContinueAll left.registry new
    → IsDraft written.tie after → after.bytes ≡ [] → IsDraft written.tie ended
    → IsCore setting new left written after ended count
core_changed setting old new books left reply written draft after arguments ended len count h stays frame tie cap counted short awaited told is_draft empty has_arguments = record {
  conns = stays.conns ∙ h.conns;
  few_conns = h.few_conns;
  few_rows = h.few_rows;
  len = counted;
  short = short;
  limit = frame.limit ∙ h.limit;
  forwards = frame.cap ∙ h.forwards;
  few = h.few;
  first_xid = frame.first_xid ∙ h.first_xid;
  awaited = awaited;
  lists = told;
  tied = record {
    registry = tie ∙ h.tied.registry ∙ sym frame.registry;
    stats = tie ∙ h.tied.stats ∙ sym frame.stats;
    forwards = tie ∙ h.tied.forwards ∙ sym frame.forwards;
  };
  connections_tie = stays.tie ∙ h.connections_tie ∙ sym tie;
  reply_cap = cap ∙ h.reply_cap;
  is_draft = is_draft;
  empty = empty;
  has_arguments = has_arguments;
}

-- with other connections, draft and arguments
pub core_moved : (setting : Setting) (old new : Table) (books : Books) (reply draft after arguments ended : Kept) (len : ℕ)
    → IsCore setting old books reply draft arguments len → StaysTable old new → AreAwaited books.forwards new
    → (CanContinueAll books.registry old → CanContinueAll books.registry new)
    → IsDraft reply.tie after → after.bytes ≡ [] → IsDraft reply.tie ended
    → IsCore setting new books reply after ended len
core_moved setting old new books reply draft after arguments ended len h stays awaited told =
    core_changed setting old new books books reply reply draft after arguments ended len len h stays
    (record { limit = refl; cap = refl; first_xid = refl; registry = refl; stats = refl; forwards = refl; memory = record { registry = refl; stats = refl; forwards = refl } }) refl refl h.len h.short
    awaited (told h.lists)
