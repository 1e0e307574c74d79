-- What is told from each stage on.
use Rattle.std.proofs.Common.{◌≡◌, ◌<◌, ℕ, List, [], ◌++◌, Option, Some, None, Result, Ok, Err, refl, sym, subst, append-nil}
use Rattle.std.specs.Prelude.{IfOk}
use Rattle.std.specs.Global.{Vec}
use Rattle.rb_arguments.specs.declared.mapping.Mapping.{Mapping}
use Rattle.rb_arguments.specs.declared.rpcb.Rpcb.{Rpcb}
use Rattle.rb_show.specs.declared.ask.Question.{Question}
use Rattle.rb_show.specs.declared.ask.Question.TheVariants as questions
use Rattle.rb_show.specs.declared.fault.InfoFault.{InfoFault}
use Rattle.rb_show.specs.declared.form.Form.{Form}
use Rattle.rb_show.specs.declared.form.Form.TheVariants.{Plain, Named, Json}
use Rattle.rb_show.specs.declared.show.Shown.{Shown}
use Rattle.rb_show.specs.declared.show.Shown.TheVariants as shown
use Rattle.rb_show.specs.declared.stage.List.{List as Listed}
use Rattle.rb_show.specs.declared.stage.List.TheVariants as lists
use Rattle.rb_show.specs.declared.stage.Counted.{Counted}
use Rattle.rb_show.specs.declared.stage.Counted.TheVariants.{Nothing, Two, Three}
use Rattle.rb_show.specs.declared.stage.Stage.TheVariants.{Item, Row, Mapping as Mapped, Numbers, LookUp, Forward}
use Rattle.rb_show.specs.Statistics.{VersionFields, version_stat, read_version, read_addr, read_call}
use Rattle.rb_show.specs.Counts.{addr_line, call_line, count_lines, tell_lists, tell_version, tell_statistics}
use Rattle.rb_show.specs.Telling.{Teller, ◌>>=◌, give, tell, take_one, add_lines, lines_text}
use Rattle.rb_show.specs.declared.take.Pause.{Pause}
use Rattle.rb_arguments.specs.Types.{read_mapping, read_rpcb}
use Rattle.rb_show.specs.Rows.{itself, mapping_row}
use Rattle.rb_show.specs.Fronts.{GoesOn, Takes, TakesOr, Tells, TellsOr, items_from, items_after}
use Rattle.rb_show.specs.Replies.{tell_list, tell_summary, tell_columns, tell_ready, tell_port, tell_address, tell_unset, tell_results}
use Rattle.rb_show.specs.Stages.{first_stage, first_lines, stage_after_line, version_of, stage_after_version, stage_after_found, stage_after_called, lines_from, lines_after, called_from, found_from, after_version, rest_at, as_done, sum_after, stage_after_sum}
use Rattle.rb_show.proofs.Fronts.{no_lines, goes_then, gives_then, goes_at_once}

-- ---- the results

abbrev Begins : Form → Question → Type 0
Begins form question = (end : InfoFault) (content : List ℕ) → tell_results form question end content ≡ add_lines (first_lines form question) (rest_at form [] [] (first_stage question) end content)

table_begins : (form : Form) → Begins form questions.Pmap
unfolding ◌>>=◌ tell_list tell_columns
table_begins Plain end content = refl
table_begins (Named services) end content = refl
table_begins Json end content = sym (no_lines (rest_at Json [] [] (first_stage questions.Pmap) end content))

pub begins : (form : Form) (question : Question) → Begins form question
unfolding ◌>>=◌ tell_list tell_summary tell_statistics tell_ready
begins form questions.Rows end content = sym (no_lines (rest_at form [] [] (first_stage questions.Rows) end content))
begins form questions.Short end content = sym (no_lines (rest_at form [] [] (first_stage questions.Short) end content))
begins form questions.OldRows end content = sym (no_lines (rest_at form [] [] (first_stage questions.OldRows) end content))
begins form questions.OldShort end content = sym (no_lines (rest_at form [] [] (first_stage questions.OldShort) end content))
begins form questions.Summary end content = sym (no_lines (rest_at form [] [] (first_stage questions.Summary) end content))
begins form questions.OldSummary end content = sym (no_lines (rest_at form [] [] (first_stage questions.OldSummary) end content))
begins form questions.Pmap end content = table_begins form end content
begins form (questions.Entries prog vers) end content = sym (no_lines (rest_at form [] [] (first_stage (questions.Entries prog vers)) end content))
begins form questions.Stats end content = sym (no_lines (rest_at form [] [] (first_stage questions.Stats) end content))
begins form (questions.Port prot prog vers) end content = sym (no_lines (tell_port end content))
begins form (questions.Address netid prog vers) end content = sym (no_lines (tell_address end content))
begins form (questions.Null prog vers) end content = refl
begins form (questions.Probe prog vers) end content = refl
begins form (questions.Callit prog vers) end content = sym (no_lines (tell_port end content))
begins form (questions.Unset netid prog vers) end content = sym (no_lines (tell_unset end content))

-- ---- from one stage to the next

-- the same lines, of other tellers
tells_on : {A B : Type 0} (teller rest : Teller A) (teller' rest' : Teller B) (bytes : List ℕ) (used : ℕ) (old new : List ℕ) (t : Tells teller bytes used rest old new)
    → GoesOn teller' bytes t.lines used rest' → Tells teller' bytes used rest' old new
tells_on teller rest teller' rest' bytes used old new t goes = record { lines = t.lines; some = t.some; within = t.within; text = t.text; goes_on = goes }

module _ (form : Form) (rows : List Rpcb) (mappings : List Mapping) (bytes : List ℕ) (used : ℕ) (old new : List ℕ) where
  some_after : (list : Listed) (count n : ℕ) → lines_after form list count (Some n) ≡ lines_from form list n
  some_after lists.Rows count n = refl
  some_after lists.Short count n = refl
  some_after lists.OldRows count n = refl
  some_after lists.OldShort count n = refl
  some_after lists.Table count n = refl
  some_after (lists.Entries prog) count n = refl

  none_after : (list : Listed) (count : ℕ) → lines_after form list count None ≡ give count
  none_after lists.Rows count = refl
  none_after lists.Short count = refl
  none_after lists.OldRows count = refl
  none_after lists.OldShort count = refl
  none_after lists.Table count = refl
  none_after (lists.Entries prog) count = refl

  pub line_next : (list : Listed) (count : ℕ) (next : Option ℕ) → Tells (lines_from form list count) bytes used (lines_after form list count next) old new
      → Tells (rest_at form rows mappings (Item list count)) bytes used (rest_at form rows mappings (stage_after_line list count next)) old new
  line_next list count (Some n) t =
      let goes : GoesOn (lines_from form list count) bytes t.lines used (lines_from form list n) = subst (GoesOn (lines_from form list count) bytes t.lines used) (some_after list count n) t.goes_on in
      tells_on _ _ _ _ bytes used old new t (goes_then (lines_from form list count) (λ n. give (shown.Rows n)) bytes t.lines used (lines_from form list n) goes)
  line_next list count None t =
      let goes : GoesOn (lines_from form list count) bytes t.lines used (give count) = subst (GoesOn (lines_from form list count) bytes t.lines used) (none_after list count) t.goes_on in
      tells_on _ _ _ _ bytes used old new t (gives_then (lines_from form list count) (λ n. give (shown.Rows n)) bytes t.lines used count goes)

  -- the numbers of a version
  pub numbers_next : (counted : Counted) (v : VersionFields) → 0 < used → Takes (take_one read_version) bytes v used → new ≡ old ++ lines_text (count_lines form (version_of counted) (version_stat v))
      → Tells (rest_at form rows mappings (Numbers counted)) bytes used (rest_at form rows mappings (LookUp counted 0)) old new
  unfolding tell_version tell_lists ◌>>=◌
  numbers_next counted v some t text =
      let vers : ℕ = version_of counted in
      let next : VersionFields → Teller (ℕ × ℕ) = λ m. tell (count_lines form vers (version_stat m)) >>= λ _. tell_lists form vers in
      record {
        lines = count_lines form vers (version_stat v);
        some = some;
        within = t.within;
        text = text;
        goes_on = goes_then (tell_version form vers) (after_version form counted) bytes (count_lines form vers (version_stat v)) used (tell_lists form vers)
            (goes_at_once (tell_version form vers) bytes [] used (next v) (count_lines form vers (version_stat v)) (tell_lists form vers) (gives_then (take_one read_version) next bytes [] used v t.goes_on) (λ end content. refl));
      }

  pub look_up_next : (counted : Counted) (count : ℕ) (next : Option ℕ)
      → Tells (items_from read_addr (addr_line form (version_of counted)) count) bytes used (items_after read_addr (addr_line form (version_of counted)) count next) old new
      → Tells (rest_at form rows mappings (LookUp counted count)) bytes used (rest_at form rows mappings (stage_after_found counted count next)) old new
  look_up_next counted count (Some n) t =
      let vers : ℕ = version_of counted in
      tells_on _ _ _ _ bytes used old new t
      (goes_then (found_from form vers count) (after_version form counted) bytes t.lines used (found_from form vers n)
      (goes_then (items_from read_addr (addr_line form vers) count) (λ found. called_from form vers found 0) bytes t.lines used (items_from read_addr (addr_line form vers) n) t.goes_on))
  look_up_next counted count None t =
      let vers : ℕ = version_of counted in
      tells_on _ _ _ _ bytes used old new t
      (goes_then (found_from form vers count) (after_version form counted) bytes t.lines used (called_from form vers count 0)
      (gives_then (items_from read_addr (addr_line form vers) count) (λ found. called_from form vers found 0) bytes t.lines used count t.goes_on))

  after_is : (counted : Counted) (counts : ℕ × ℕ) → after_version form counted counts ≡ rest_at form rows mappings (stage_after_version counted counts)
  after_is Nothing counts = refl
  after_is (Two two) counts = refl
  after_is (Three two three) counts = refl

  pub forward_next : (counted : Counted) (found count : ℕ) (next : Option ℕ)
      → Tells (items_from read_call (call_line form (version_of counted)) count) bytes used (items_after read_call (call_line form (version_of counted)) count next) old new
      → Tells (rest_at form rows mappings (Forward counted found count)) bytes used (rest_at form rows mappings (stage_after_called counted found count next)) old new
  forward_next counted found count (Some n) t =
      let vers : ℕ = version_of counted in
      tells_on _ _ _ _ bytes used old new t
      (goes_then (called_from form vers found count) (after_version form counted) bytes t.lines used (called_from form vers found n)
      (goes_then (items_from read_call (call_line form vers) count) (λ called. give (found, called)) bytes t.lines used (items_from read_call (call_line form vers) n) t.goes_on))
  forward_next counted found count None t =
      let vers : ℕ = version_of counted in
      rw (sym (after_is counted (found, count))) (tells_on _ _ _ _ bytes used old new t
      (gives_then (called_from form vers found count) (after_version form counted) bytes t.lines used (found, count)
      (gives_then (items_from read_call (call_line form vers) count) (λ called. give (found, called)) bytes t.lines used count t.goes_on)))

-- something was shown
pub done_next : (form : Form) (rows : List Rpcb) (mappings : List Mapping) (teller : Teller Shown) (bytes : List ℕ) (text : Vec ℕ) (taken : Result (Shown × ℕ) Pause) → TakesOr teller bytes taken
    → IfOk taken (λ (t : Shown × ℕ). 0 < t.1) → TellsOr teller bytes (rest_at form rows mappings) text text (as_done taken)
done_next form rows mappings teller bytes text (Ok t) takes some = record { lines = []; some = some; within = takes.within; text = sym (append-nil text.items); goes_on = takes.goes_on }
done_next form rows mappings teller bytes text (Err pause) takes some = (refl, takes)

-- items that are summed up
pub row_after : (form : Form) (rows : List Rpcb) (mappings : List Mapping) (what : Option Shown) → sum_after form read_rpcb itself rows what ≡ rest_at form rows mappings (stage_after_sum Row what)
row_after form rows mappings None = refl
row_after form rows mappings (Some what) = refl

pub mapping_after : (form : Form) (rows : List Rpcb) (mappings : List Mapping) (what : Option Shown) → sum_after form read_mapping mapping_row mappings what ≡ rest_at form rows mappings (stage_after_sum Mapped what)
mapping_after form rows mappings None = refl
mapping_after form rows mappings (Some what) = refl
