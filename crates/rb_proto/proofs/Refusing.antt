-- A call that finds no place among the forwarded ones is refused.
use Rattle.std.proofs.Common.{◌≡◌, ℕ, Bool, true, false, List, Some, refl, sym, ◌∙◌, ap}
use Rattle.std.specs.Prelude.{IsTrue}
use Rattle.rb_rpc.specs.declared.reply.ReplyStatus.TheVariants as replies
use Rattle.rb_uaddr.specs.declared.address.Uaddr.{Uaddr}
use Rattle.rb_arguments.specs.declared.kind.Kind.{Kind}
use Rattle.rb_forward.specs.Forwards.{can_start}
use Rattle.rb_answers.specs.declared.answers.Answer.{Answer}
use Rattle.rb_answers.specs.declared.context.Context.{Context}
use Rattle.rb_arguments.specs.declared.remote.RemoteCall.{RemoteCall}
use Rattle.rb_answers.specs.Ledger.{Ledger, rows_in}
use Rattle.rb_proto.specs.Ledger.{Books, StandsForLedger}
use Rattle.rb_proto.specs.Books.{ActsAs}
use Rattle.rb_answers.specs.Forwarding.{address_asked, refuse, forward_call}

-- a test that can't be passed
pub is_false : (b : Bool) → (IsTrue b → false ≡ true) → b ≡ false
is_false true h = sym (h refl)
is_false false h = refl

module _ (context : Context) (xid : ℕ) (kind : Kind) (remote : RemoteCall) (arguments : List ℕ) (registered : Uaddr) (old new : Books) (given : Answer)
    (found : (l : Ledger) → StandsForLedger old l → address_asked context remote (rows_in l) ≡ Some registered)
    (full : (l : Ledger) → StandsForLedger old l → can_start context.forwards l.forwards ≡ false)
    (refused : ActsAs (refuse context kind remote replies.SystemErr) old new given) where
  same : (l : Ledger) → StandsForLedger old l → forward_call context xid kind remote arguments l ≡ refuse context kind remote replies.SystemErr l
  unfolding forward_call
  same l h = rw (found l h, full l h) refl

  pub acts_where_full : ActsAs (forward_call context xid kind remote arguments) old new given
  acts_where_full = record {
    gives = λ l h. refused.gives l h ∙ ap (λ told. told.0) (sym (same l h));
    stands = λ l h. rw (same l h) (refused.stands l h);
    kept = λ l h e. refused.kept l h (rw (same l h) at e);
  }
