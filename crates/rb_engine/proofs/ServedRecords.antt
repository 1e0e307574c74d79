-- The record of a served core is read back.
use Rattle.std.specs.List.{concat, AllByRecursion}
use Rattle.std.proofs.Common.{◌≡◌, ◌≤◌, ℕ, zero, suc, Bool, true, false, List, [], ◌∷◌, ◌++◌, length, take, arith, refl, sym, ap, subst, ◌∙◌, ◌⊎◌, inl, inr, append-nil}
use Rattle.std.proofs.lemmas.List.{take_all}
use Rattle.rb_model.specs.State.{Setting, State, opening}
use Rattle.rb_model.specs.Step.{Event, step, run, IsReached}
use Rattle.rb_laws.proofs.EntriesKept.{after-setting}
use Rattle.rb_lines.specs.Entries.{run_entries, options_text}
use Rattle.rb_lines.specs.Tapes.{Tape, last_line, IsFull, EndsWithin, HasFirst}
use Rattle.rb_lines.specs.Lines.{longest_input}
use Rattle.rb_lines.specs.RecordLaws.{HasLine, HasPath, ReadsAs}
use Rattle.rb_lines.proofs.Recorded.{records_are_read, ended_records_are_read, no_entries_are_read}
use Rattle.rb_engine.specs.Recording.{HasRecorded}
use Rattle.rb_engine.specs.ServedLaws.{ReadsBack, IsFront, ServedRecordsAreRead, ServedRecordsEndFull}
use mathlib.Core.Bool.{true≢false}

entry_count : (s : State) (events : List Event) → length (run_entries s events) ≡ length events
unfolding run_entries
entry_count s [] = refl
entry_count s (event ∷ events) = ap suc (entry_count (step s event).1 events)

module _ (s : State) (r : IsReached s) (tape : Tape) (recorded : HasRecorded r tape) (path : HasPath r.listener) (lines : AllByRecursion HasLine r.events) (short : length tape.text ≤ longest_input) where
  -- while the recording goes on
  all_read : tape.is_on ≡ true → ReadsBack s r tape
  all_read on =
      let whole = recorded.all on in
      let events_are : take (length r.events) r.events ≡ r.events = take_all (length r.events) r.events (omega arith) in
      record {
        count = length r.events;
        are_there = omega arith;
        all = λ is. refl;
        reads = subst (λ (events : List Event). ReadsAs tape.text events (run (opening r.limits r.listener r.first_xid r.now) events)) (sym events_are)
            (subst (λ (text : List ℕ). ReadsAs text r.events (run (opening r.limits r.listener r.first_xid r.now) r.events)) (sym whole)
            (records_are_read r.limits r.listener r.first_xid r.now r.events path lines (subst (λ (text : List ℕ). length text ≤ longest_input) whole short)));
      }

  -- if it has ended
  first_read : tape.is_on ≡ false → (held : HasFirst (options_text r.limits r.listener r.first_xid r.now ∷ run_entries (opening r.limits r.listener r.first_xid r.now) r.events) tape.text) (count : ℕ) → held.count ≡ count → ReadsBack s r tape
  first_read off held zero none = record {
    count = 0;
    are_there = omega arith;
    all = λ is. absurd (true≢false (sym is ∙ off));
    reads = no_entries_are_read tape.text held.last (subst (λ (n : ℕ). tape.text ≡ concat (take n (options_text r.limits r.listener r.first_xid r.now ∷ run_entries (opening r.limits r.listener r.first_xid r.now) r.events)) ++ held.last) none held.is) held.last_is short;
  }
  first_read off held (suc k) some = record {
    count = k;
    are_there = omega (arith, held.are_there, some, entry_count (opening r.limits r.listener r.first_xid r.now) r.events);
    all = λ is. absurd (true≢false (sym is ∙ off));
    reads = ended_records_are_read r.limits r.listener r.first_xid r.now r.events tape.text k held some path lines short;
  }

  pub reads_back : ReadsBack s r tape
  reads_back = by_flag tape.is_on refl
    where
      by_flag : (flag : Bool) → tape.is_on ≡ flag → ReadsBack s r tape
      by_flag true is = all_read is
      by_flag false is = first_read is recorded.first recorded.first.count refl

pub served_records_are_read : ServedRecordsAreRead
served_records_are_read core tape served =
    let within = served.recorded.within in
    let few = served.begins.record_fits in
    let r = served.reached in
    let stays : served.state.setting.listener ≡ r.listener =
    ap (λ (s : State). s.setting.listener) r.is ∙ ap (λ (x : Setting). x.listener) (after-setting (opening r.limits r.listener r.first_xid r.now) r.events) in
    reads_back served.state r tape served.recorded (subst HasPath stays served.begins.path) served.lines (omega (arith, within, few))

-- ---- where a record ends

ends_full : (limit : ℕ) (entries : List (List ℕ)) (text : List ℕ) (held : HasFirst entries text) → (held.last ≡ last_line → IsFull limit [] entries held.count) → (held.last ≡ []) ⊎ (held.last ≡ last_line) → IsFront entries text ⊎ EndsWithin limit entries [] text
ends_full limit entries text held full (inl none) =
    inl (held.count, held.is ∙ ap (λ (t : List ℕ). concat (take held.count entries) ++ t) none ∙ append-nil (concat (take held.count entries)))
ends_full limit entries text held full (inr line) =
    inr (record { count = held.count; is_full = full line; text = held.is ∙ ap (λ (t : List ℕ). concat (take held.count entries) ++ t) line })

pub served_records_end_full : ServedRecordsEndFull
served_records_end_full core tape served =
    ends_full tape.limit _ tape.text served.recorded.first served.recorded.ends served.recorded.first.last_is
