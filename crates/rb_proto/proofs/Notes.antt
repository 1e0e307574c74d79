-- Forwarded calls are noted once.
use Rattle.std.proofs.Common.{◌≡◌, ℕ, ◌+◌, Bool, true, false, cond, List, [], ◌∷◌, ◌++◌, length, Option, Some, None, refl, ap, ◌∙◌, append-nil, length-append, arith}
use Rattle.std.specs.Prelude.{find}
use Rattle.std.specs.List.{count_by}
use Rattle.std.specs.Option.{option_map}
use Rattle.std.proofs.lemmas.Option.{none-some}
use Rattle.rb_rpc.specs.declared.reply.ReplyStatus.{ReplyStatus}
use Rattle.rb_rpc.specs.declared.reply.ReplyStatus.TheVariants as replies
use Rattle.rb_uaddr.specs.declared.address.Uaddr.{Uaddr}
use Rattle.rb_stats.specs.Statistics.{Note}
use Rattle.rb_stats.proofs.Items.{count_by-push}
use Rattle.rb_forward.specs.declared.types.Forward.{Forward}
use Rattle.rb_arguments.specs.declared.kind.Kind.{Kind}
use Rattle.rb_arguments.specs.declared.kind.Kind.TheVariants.{Callit2, Callit3, Bcast, Indirect}
use Rattle.rb_forward.specs.declared.types.ForwardEnd.{ForwardEnd}
use Rattle.rb_forward.specs.declared.types.ForwardEnd.TheVariants.{Failed, Dropped}
use Rattle.rb_forward.specs.Forwards.{Entry, without_first, change_first, as_sent, is_unsent, ended_by, with_end, can_start, next_entry, with_next_entry, sent, counts_for, outcome_of, reply, is_due, due, is_of_connection, drop_caller}
use Rattle.rb_forward.proofs.Tables.{all_stay}
use Rattle.rb_answers.specs.declared.answers.Answer.{Answer}
use Rattle.rb_answers.specs.declared.answers.Answer.TheVariants as answers
use Rattle.rb_answers.specs.declared.context.Context.{Context}
use Rattle.rb_arguments.specs.declared.remote.RemoteCall.{RemoteCall}
use Rattle.rb_arguments.specs.Remote.{args_of}
use Rattle.rb_answers.specs.Ledger.{Ledger, rows_in, note_where, notes_where}
use Rattle.rb_answers.specs.Terms.{counts_forward}
use Rattle.rb_answers.specs.Forwarding.{outcome_note, counts_end, end_note, end_notes, noted_end, address_asked, forward_of, refuse, forward_to, forward_call, target_replied, fell_due, caller_dropped, call_sent}
use Rattle.rb_proto.specs.ForwardLaws.{is_outcome, asked_so_far, uncounted_at_once, uncounted_at_end, CountsOn, ForwardsAreNotedOnce}

-- ---- how many entries there are

one_less : (test : Entry → Bool) (all : List Entry) (e : Entry) → find test all ≡ Some e → length all ≡ length (without_first test all) + 1
one_less test [] e h = absurd (none-some e h)
one_less test (x ∷ all) e h = by_cases (test x) refl (one_less test all e)
  where
    by_cases : (t : Bool) → test x ≡ t → (find test all ≡ Some e → length all ≡ length (without_first test all) + 1)
        → length (x ∷ all) ≡ length (without_first test (x ∷ all)) + 1
    by_cases true t further = rw t (omega arith)
    by_cases false t further = let l = further (rw t at h) in rw t (omega (arith, l))

as_many : (test : Entry → Bool) (change : Entry → Entry) (all : List Entry) → length (change_first test change all) ≡ length all
as_many test change [] = refl
as_many test change (x ∷ all) = by_cases (test x) refl (as_many test change all)
  where
    by_cases : (t : Bool) → test x ≡ t → length (change_first test change all) ≡ length all → length (change_first test change (x ∷ all)) ≡ length (x ∷ all)
    by_cases true t further = rw t refl
    by_cases false t further = rw t (omega (arith, further))

-- ---- a note more

one_noted : (note : Note) (history : List Note) → is_outcome note ≡ true → count_by is_outcome (history ++ note ∷ []) ≡ count_by is_outcome history + 1
one_noted note history is = count_by-push is_outcome history note ∙ ap (λ (b : Bool). count_by is_outcome history + cond b 1 0) is

is_of_end : (e : Entry) (outcome : ForwardEnd) → is_outcome (end_note (ended_by outcome e)) ≡ true
unfolding end_note outcome_note
is_of_end e outcome = refl

-- a note that counts, or one that does not and is counted as such
counted : (note : Note) (l : Ledger) (b : Bool) → is_outcome note ≡ true
    → asked_so_far (note_where b note l) + cond b 0 1 ≡ asked_so_far l + 1
counted note l true is = let one = one_noted note l.history is in omega (arith, one)
counted note l false is = refl

refused_is_noted : (context : Context) (kind : Kind) (remote : RemoteCall) (status : ReplyStatus) (l : Ledger)
    → CountsOn (uncounted_at_once context) (asked_so_far l + 1) (refuse context kind remote status l)
unfolding outcome_note
refused_is_noted context kind remote status l = by_kind kind
  where
    counts : Bool
    counts = counts_forward context.caller false

    notes : (k : Kind) → asked_so_far (note_where counts (outcome_note k context.caller remote.prog remote.vers remote.proc false) l) + cond counts 0 1 ≡ asked_so_far l + 1
    notes k = counted (outcome_note k context.caller remote.prog remote.vers remote.proc false) l counts refl

    by_kind : (k : Kind) → CountsOn (uncounted_at_once context) (asked_so_far l + 1) (refuse context k remote status l)
    by_kind Callit2 = notes Callit2
    by_kind Callit3 = notes Callit3
    by_kind Bcast = notes Bcast
    by_kind Indirect = notes Indirect

-- ---- a call comes

start_counts : (clock : ℕ) (forward : Forward) (args : List ℕ) (l : Ledger) → asked_so_far (record l { forwards = with_next_entry clock forward args l.forwards }) ≡ asked_so_far l + 1
unfolding with_next_entry
start_counts clock forward args l = omega (arith, length-append l.forwards.all (next_entry clock forward args l.forwards ∷ []))

module _ (context : Context) (xid : ℕ) (kind : Kind) (remote : RemoteCall) (l : Ledger) where
  by_address : (args : List ℕ) (found : Option Uaddr)
      → CountsOn (uncounted_at_once context) (asked_so_far l + 1) (forward_to context xid kind remote args found l)
  by_address args None = refused_is_noted context kind remote replies.ProgUnavail l
  by_address args (Some address) = by_room (can_start context.forwards l.forwards)
    where
      begun : Answer × Ledger
      begun = (answers.Forwarded, record l { forwards = with_next_entry context.clock (forward_of context xid kind remote address) args l.forwards })

      by_room : (b : Bool) → CountsOn (uncounted_at_once context) (asked_so_far l + 1) (cond b begun (refuse context kind remote replies.SystemErr l))
      by_room true = let one = start_counts context.clock (forward_of context xid kind remote address) args l in omega (arith, one)
      by_room false = refused_is_noted context kind remote replies.SystemErr l

  call_counts : (arguments : List ℕ) → CountsOn (uncounted_at_once context) (asked_so_far l + 1) (forward_call context xid kind remote arguments l)
  unfolding forward_call
  call_counts arguments = by_address (args_of remote arguments) (address_asked context remote (rows_in l))

-- ---- an entry ends

end_counts : (test : Entry → Bool) (outcome : ForwardEnd) (l : Ledger) → CountsOn uncounted_at_end (asked_so_far l) (noted_end (with_end test outcome l.forwards) l)
end_counts test outcome l = by_found (find test l.forwards.all) refl
  where
    all : List Entry
    all = l.forwards.all

    by_found : (o : Option Entry) → find test all ≡ o
        → count_by is_outcome (l.history ++ end_notes (option_map (ended_by outcome) o)) + length (without_first test all)
        + uncounted_at_end (option_map (ended_by outcome) o) ≡ asked_so_far l
    by_found None h = rw (append-nil l.history, all_stay test all h) (omega arith)
    by_found (Some e) h = by_counts (counts_end (ended_by outcome e))
      where
        by_counts : (b : Bool)
            → count_by is_outcome (l.history ++ notes_where b (end_note (ended_by outcome e))) + length (without_first test all) + cond b 0 1
            ≡ asked_so_far l
        by_counts true =
            let one = one_noted (end_note (ended_by outcome e)) l.history (is_of_end e outcome) in
            omega (arith, one, one_less test all e h)
        by_counts false = rw (append-nil l.history) (omega (arith, one_less test all e h))

sent_counts : (number : ℕ) (l : Ledger) → asked_so_far (call_sent number l) ≡ asked_so_far l
unfolding call_sent sent
sent_counts number l = ap (λ (n : ℕ). count_by is_outcome l.history + n) (as_many (is_unsent number) as_sent l.forwards.all)

pub forwards_are_noted_once : ForwardsAreNotedOnce
unfolding target_replied fell_due caller_dropped reply due drop_caller
forwards_are_noted_once l = record {
  comes = λ context xid kind remote arguments. call_counts context xid kind remote l arguments;
  is_sent = λ number. sent_counts number l;
  is_answered = λ first_xid clock from message. end_counts (counts_for first_xid clock from message) (outcome_of message) l;
  falls_due = λ clock. end_counts (is_due clock) Failed l;
  is_dropped = λ id. end_counts (is_of_connection id) Dropped l;
}
