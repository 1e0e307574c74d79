-- Replies that list rows, part by part.
use Rattle.std.proofs.Common.{◌≡◌, ℕ, length, false, Option, refl, arith}
use Rattle.rb_xdr.specs.Xdr.{number, opaque}
use Rattle.rb_rpc.specs.Replies.{reply_head}
use Rattle.rb_rpc.specs.declared.reply.ReplyStatus.TheVariants.{Success}
use Rattle.rb_registry.specs.Registry.{Registry, rows_at, rows_of, rows_passed}
use Rattle.rb_registry.specs.Cursors.{GoesOn}
use Rattle.rb_answers.specs.declared.answers.Listing.{Listing}
use Rattle.rb_answers.specs.ListParts.{list_reply, ListRepliesGoOn}
use Rattle.rb_answers.specs.ListReplies.{rest_of}
use Rattle.rb_answers.proofs.Lists.{list-rows}

-- ---- other calls in between

-- a registry that is as it was goes on
pub goes_on_same : (old new : Registry) → new ≡ old → GoesOn old new
goes_on_same old new same = rw same (record { rows = λ stamp low made. refl; place = λ stamp cursor low stands. stands; passed = λ stamp cursor low stands. refl })

pub list_reply_goes_on : ListRepliesGoOn
unfolding rest_of
list_reply_goes_on old new r goes low told =
    let rows : rows_at new r.stamp ≡ rows_at old r.stamp = goes.rows r.stamp low told.place.reached.made in
    let passed : rows_passed new r.stamp r.cursor ≡ rows_passed old r.stamp r.cursor = goes.passed r.stamp r.cursor low told.place in
    record {
      told = record { place = goes.place r.stamp r.cursor low told.place; given = told.given };
      rest = rw (passed, rows) refl;
    }

-- ---- a reply that begins

pub whole_is_left : (kept : Registry) (xid stamp : ℕ) (list : Listing) (cursor : Option ℕ) → stamp ≡ kept.stamp → rows_passed kept stamp cursor ≡ 0
    → rest_of kept (record { xid = xid; list = list; stamp = stamp; cursor = cursor; given = 0; begun = false }) ≡ list_reply xid (rows_of kept) list
unfolding rest_of
whole_is_left kept xid stamp list cursor now none = rw (none, now, list-rows (rows_of kept) list) refl

-- ---- the head

pub success_head : (xid : ℕ) → length (reply_head xid Success) ≡ 24
unfolding reply_head number opaque
success_head xid = omega arith
