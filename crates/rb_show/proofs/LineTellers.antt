-- What is so of each line of an item is so of each line that a reply tells.
use Rattle.std.proofs.Common.{◌≡◌, ◌+◌, ℕ, zero, suc, Bool, true, false, List, [], ◌∷◌, ◌++◌, take, drop, Option, Some, None, Ok, Err, refl, arith, inl, inr}
use Rattle.std.specs.Prelude.{slice_range, nat_eq}
use Rattle.std.specs.List.{AllByRecursion}
use Rattle.std.proofs.lemmas.Bool.{cases_Bool}
use Rattle.rb_xdr.specs.Xdr.{AreBytes, Reader, Reading, IsNumber, boolean, read_bool}
use Rattle.rb_xdr.specs.XdrTypes.{optional, read_optional}
use Rattle.rb_xdr.specs.XdrLaws.{IsSound, anything, if_there}
use Rattle.rb_xdr.specs.declared.fault.XdrFault.TheVariants as faults
use Rattle.rb_xdr.proofs.Words.{AreBytes-drop, AreBytes-take}
use Rattle.rb_xdr.proofs.Types.{bool_sound, optional_sound}
use Rattle.rb_rpc.specs.Records.{is_last, fragment_end, data_in, data_of}
use Rattle.rb_rpc.specs.ReadReplies.{Read, read_reply}
use Rattle.rb_rpc.specs.declared.reply.ReplyHead.{ReplyHead}
use Rattle.rb_rpc.proofs.Calls.{AreBytes-append}
use Rattle.rb_arguments.specs.declared.mapping.Mapping.{Mapping}
use Rattle.rb_arguments.specs.declared.rpcb.Rpcb.{Rpcb}
use Rattle.rb_arguments.specs.declared.entry.Entry.{Entry}
use Rattle.rb_arguments.specs.Types.{IsMapping, mapping_spelling, read_mapping, IsRpcb, rpcb_spelling, read_rpcb, IsEntry, entry_spelling, read_entry}
use Rattle.rb_arguments.proofs.Readings.{mapping_sound, rpcb_sound, entry_sound}
use Rattle.rb_show.specs.declared.fault.InfoFault.{InfoFault}
use Rattle.rb_show.specs.declared.fault.InfoFault.TheVariants.{Unreadable, Refused, TooMany}
use Rattle.rb_show.specs.Data.{longest_record, front_of, end_of}
use Rattle.rb_show.specs.Heads.{may_begin, by_reading, take_head}
use Rattle.rb_show.specs.Lists.{tell_end, tell_item, tell_items, greatest_list}
use Rattle.rb_show.specs.Telling.{Told, Teller, add_lines, tell_on, ◌>>=◌, give, stop, tell, told_by, take_one, told_lines}
use Rattle.rb_show.specs.Telling.Told.{Done, Stop}
use Rattle.rb_show.specs.declared.ask.Ask.{Ask}
use Rattle.rb_show.specs.declared.ask.Question.{Question}
use Rattle.rb_show.specs.declared.ask.Question.TheVariants.{Rows, Short, OldRows, OldShort, Summary, OldSummary, Pmap, Entries, Stats, Port, Address, Null, Probe, Callit, Unset}
use Rattle.rb_show.specs.declared.form.Form.TheVariants.{Json}
use Rattle.rb_show.specs.declared.show.Shown.{Shown}
use Rattle.rb_show.specs.declared.show.Shown.TheVariants as shown
use Rattle.rb_show.specs.Counts.{total, addr_line, call_line, tell_lists, tell_version, tell_statistics}
use Rattle.rb_show.specs.Statistics.{VersionStat, IsVersionStat, read_version, version_stat, AddrStat, IsAddrStat, read_addr, addr_stat, CallStat, IsCallStat, read_call, call_stat}
use Rattle.rb_show.specs.Lines.{row_line, mapping_line, entry_line}
use Rattle.rb_show.specs.Objects.{row_object, mapping_object, entry_object, numbers_object, look_ups_object, forwards_object}
use Rattle.rb_show.specs.ObjectLaws.{has_objects}
use Rattle.rb_show.specs.Rows.{mapping_row}
use Rattle.rb_show.specs.Replies.{tell_list, tell_results, is_success, by_status, by_head, tell_reply, tell_bytes}
use Rattle.rb_show.proofs.RowTexts.{mapping_row_fits}
use Rattle.rb_show.proofs.StatReadings.{AreVersionFields, version_spelling, version_sound, is_version, AreAddrFields, addr_spelling, addr_sound, is_addr, AreCallFields, call_spelling, call_sound, is_call}

-- ---- the data of a reply

range_bytes : (bytes : List ℕ) (from to : ℕ) → AreBytes bytes → AreBytes (slice_range bytes from to)
range_bytes bytes from to are = AreBytes-take _ _ (AreBytes-drop from bytes are)

data_bytes : (k : ℕ) (bytes : List ℕ) → AreBytes bytes → AreBytes (data_in k bytes)
data_bytes zero bytes are = are_none
  where
    are_none : AreBytes []
    are_none i = omega arith
data_bytes (suc k) bytes are =
    let first = range_bytes bytes 4 (fragment_end bytes) are in
    let more = data_bytes k (drop (fragment_end bytes) bytes) (AreBytes-drop (fragment_end bytes) bytes are) in
    elim (cases_Bool (is_last bytes)) [
      | inl last ↦ rw last first
      | inr open_still ↦ rw open_still (AreBytes-append (slice_range bytes 4 (fragment_end bytes)) (data_in k (drop (fragment_end bytes) bytes)) first more)
    ]

front_bytes : (bytes : List ℕ) → AreBytes bytes → AreBytes (data_of (front_of bytes))
unfolding data_of front_of
front_bytes bytes are = data_bytes _ (take longest_record bytes) (AreBytes-take longest_record bytes are)

module _ (IsLine : List ℕ → Type 0) where
  -- ---- tellers

  -- such lines, and then a value that is so with bytes after it, or a stop
  abbrev Good : {A : Type 0} → (A → Type 0) → Told A → Type 0
  Good Is (Done lines x left) = AllByRecursion IsLine lines × Is x × AreBytes left
  Good Is (Stop lines fault) = AllByRecursion IsLine lines

  -- of all bytes
  abbrev IsGood : {A : Type 0} → (A → Type 0) → Teller A → Type 0
  IsGood Is teller = (end : InfoFault) (content : List ℕ) → AreBytes content → Good Is (teller end content)

  all_lines : (a b : List (List ℕ)) → AllByRecursion IsLine a → AllByRecursion IsLine b → AllByRecursion IsLine (a ++ b)
  all_lines [] b a_are b_are = b_are
  all_lines (line ∷ a) b a_are b_are = (a_are.0, all_lines a b a_are.1 b_are)

  behind_lines : {A : Type 0} (Is : A → Type 0) (lines : List (List ℕ)) (told : Told A) → AllByRecursion IsLine lines → Good Is told → Good Is (add_lines lines told)
  behind_lines Is lines (Done more x left) are good = (all_lines lines more are good.0, good.1, good.2)
  behind_lines Is lines (Stop more fault) are good = all_lines lines more are good

  next_good : {A B : Type 0} (Is : A → Type 0) (IsNext : B → Type 0) (told : Told A) (next : A → List ℕ → Told B) → Good Is told → ((x : A) (left : List ℕ) → Is x → AreBytes left → Good IsNext (next x left))
      → Good IsNext (tell_on told next)
  next_good Is IsNext (Done lines x left) next good more = behind_lines IsNext lines (next x left) good.0 (more x left good.1 good.2)
  next_good Is IsNext (Stop lines fault) next good more = good

  onward : {A B : Type 0} (Is : A → Type 0) (IsNext : B → Type 0) (first : Teller A) (next : A → Teller B) → IsGood Is first → ((x : A) → Is x → IsGood IsNext (next x)) → IsGood IsNext (first >>= next)
  unfolding ◌>>=◌
  onward Is IsNext first next good more end content are =
      next_good Is IsNext (first end content) (λ x. next x end) (good end content are) (λ x left is left_are. more x is end left left_are)

  gives : {A : Type 0} (Is : A → Type 0) (x : A) → Is x → IsGood Is (give x)
  gives Is x is end content are = (tt, is, are)

  stops : {A : Type 0} (Is : A → Type 0) (fault : InfoFault) → IsGood Is (stop fault)
  stops Is fault end content are = tt

  tells_line : (line : List ℕ) → IsLine line → IsGood anything (tell (line ∷ []))
  tells_line line is end content are = ((is, tt), tt, are)

  read_good : {A : Type 0} (Is : A → Type 0) (spelling : A → List ℕ) (reads : Reader A) (end : InfoFault) (content : List ℕ) (read : Reading A) → IsSound Is spelling reads → AreBytes content
      → reads content ≡ read → Good Is (told_by end read content)
  read_good Is spelling reads end content (Ok read) sound are e = (tt, (sound content read.0 read.1 are e).0, AreBytes-drop read.1 content are)
  read_good Is spelling reads end content (Err faults.Short) sound are e = tt
  read_good Is spelling reads end content (Err faults.TooLong) sound are e = tt
  read_good Is spelling reads end content (Err faults.BadBool) sound are e = tt
  read_good Is spelling reads end content (Err faults.BadPadding) sound are e = tt

  takes : {A : Type 0} (Is : A → Type 0) (spelling : A → List ℕ) (reads : Reader A) → IsSound Is spelling reads → IsGood Is (take_one reads)
  unfolding take_one
  takes Is spelling reads sound end content are = read_good Is spelling reads end content (reads content) sound are refl

  -- ---- lists

  ends : (shown : ℕ) (more : Bool) → IsGood anything (tell_end shown more)
  ends shown true = stops {A = ℕ} anything TooMany
  ends shown false = gives anything shown tt

  tells_item : {A : Type 0} (Is : A → Type 0) (line : A → List ℕ) (shown : ℕ) (more : Teller ℕ) (item : Option A) → ((x : A) → Is x → IsLine (line x)) → IsGood anything more → if_there Is item
      → IsGood anything (tell_item line shown more item)
  tells_item Is line shown more None lines good is = gives anything shown tt
  tells_item Is line shown more (Some x) lines good is = onward anything anything (tell (line x ∷ [])) (λ _. more) (tells_line (line x) (lines x is)) (λ _ _. good)

  tells_items : {A : Type 0} (Is : A → Type 0) (spelling : A → List ℕ) (reads : Reader A) (line : A → List ℕ) → IsSound Is spelling reads → ((x : A) → Is x → IsLine (line x))
      → (k shown : ℕ) → IsGood anything (tell_items reads line k shown)
  unfolding tell_items
  tells_items Is spelling reads line sound lines zero shown =
      onward anything anything (take_one read_bool) (tell_end shown) (takes anything boolean read_bool bool_sound) (λ more _. ends shown more)
  tells_items Is spelling reads line sound lines (suc k) shown =
      let more = tells_items Is spelling reads line sound lines k (shown + 1) in
      onward (if_there Is) anything (take_one (read_optional reads)) (tell_item line shown (tell_items reads line k (shown + 1)))
      (takes (if_there Is) (optional spelling) (read_optional reads) (optional_sound Is spelling reads sound))
      (λ item is. tells_item Is line shown (tell_items reads line k (shown + 1)) item lines more is)

  tells_list : {A : Type 0} (Is : A → Type 0) (spelling : A → List ℕ) (reads : Reader A) (line : A → List ℕ) → IsSound Is spelling reads → ((x : A) → Is x → IsLine (line x))
      → IsGood anything (tell_list reads line)
  unfolding tell_list
  tells_list Is spelling reads line sound lines =
      onward anything anything (tell_items reads line greatest_list 0) _ (tells_items Is spelling reads line sound lines greatest_list 0) (λ n _. gives {A = Shown} anything (shown.Rows n) tt)

  -- ---- statistics

  -- the lines of a version's numbers, look-ups and forwarded calls
  pub record StatisticsLines : Type 0 where
    pub numbers : (vers : ℕ) (s : VersionStat) → IsNumber vers → IsVersionStat s → IsLine (numbers_object vers s)
    pub look_ups : (vers : ℕ) (s : AddrStat) → IsNumber vers → IsAddrStat s → IsLine (look_ups_object vers s)
    pub forwards : (vers : ℕ) (s : CallStat) → IsNumber vers → IsCallStat s → IsLine (forwards_object vers s)

  tells_lists : StatisticsLines → (vers : ℕ) → IsNumber vers → IsGood anything (tell_lists Json vers)
  unfolding tell_lists
  tells_lists lines vers small =
      onward anything anything (tell_items read_addr (addr_line Json vers) greatest_list 0) _
      (tells_items AreAddrFields addr_spelling read_addr (addr_line Json vers) addr_sound (λ l are. lines.look_ups vers (addr_stat l) small (is_addr l are)) greatest_list 0)
      (λ found _. onward anything anything (tell_items read_call (call_line Json vers) greatest_list 0) _
      (tells_items AreCallFields call_spelling read_call (call_line Json vers) call_sound (λ f are. lines.forwards vers (call_stat f) small (is_call f are)) greatest_list 0)
      (λ called _. gives {A = ℕ × ℕ} anything (found, called) tt))

  tells_version : StatisticsLines → (vers : ℕ) → IsNumber vers → IsGood anything (tell_version Json vers)
  unfolding tell_version
  tells_version lines vers small =
      onward AreVersionFields anything (take_one read_version) _ (takes AreVersionFields version_spelling read_version version_sound)
      (λ v are. onward anything anything (tell (numbers_object vers (version_stat v) ∷ [])) _ (tells_line (numbers_object vers (version_stat v)) (lines.numbers vers (version_stat v) small (is_version v are))) (λ _ _. tells_lists lines vers small))

  tells_statistics : StatisticsLines → IsGood anything (tell_statistics Json)
  unfolding tell_statistics
  tells_statistics lines =
      onward anything anything (tell_version Json 2) _ (tells_version lines 2 (omega arith))
      (λ a _. onward anything anything (tell_version Json 3) _ (tells_version lines 3 (omega arith))
      (λ b _. onward anything anything (tell_version Json 4) _ (tells_version lines 4 (omega arith)) (λ c _. gives {A = Shown} anything (shown.Statistics (total a b c)) tt)))

  -- ---- replies

  head_good : (end : InfoFault) (content : List ℕ) (read : Read) (may : Bool) → AreBytes content → Good anything (by_reading read may end content)
  head_good end content (Some read) may are = (tt, tt, AreBytes-drop read.1 content are)
  head_good end content None true are = tt
  head_good end content None false are = tt

  takes_head : IsGood anything take_head
  unfolding take_head
  takes_head end content are = head_good end content (read_reply content) (may_begin content) are

  tells_by_status : (question : Question) (head : ReplyHead) → IsGood anything (tell_results Json question) → IsGood anything (by_status Json question head)
  tells_by_status question head results =
      elim (cases_Bool (is_success head.status)) [
        | inl success ↦ rw success results
        | inr other ↦ rw other (stops {A = Shown} anything (Refused head))
      ]

  tells_by_head : (question : Question) (xid : ℕ) (head : ReplyHead) → IsGood anything (tell_results Json question) → IsGood anything (by_head Json question xid head)
  unfolding by_head
  tells_by_head question xid head results =
      elim (cases_Bool (nat_eq head.xid xid)) [
        | inl same ↦ rw same (tells_by_status question head results)
        | inr other ↦ rw other (stops {A = Shown} anything Unreadable)
      ]

  tells_reply : (ask : Ask) (xid : ℕ) → IsGood anything (tell_results Json ask.question) → IsGood anything (tell_reply ask Json xid)
  unfolding tell_reply
  tells_reply ask xid results = onward anything anything take_head _ takes_head (λ head _. tells_by_head ask.question xid head results)

  good_lines : {A : Type 0} (Is : A → Type 0) (told : Told A) → Good Is told → AllByRecursion IsLine (told_lines told)
  good_lines Is (Done lines x left) good = good.0
  good_lines Is (Stop lines fault) good = good

  -- if the results of a question tell such lines, whole replies do
  reply_lines : (ask : Ask) (xid : ℕ) (bytes : List ℕ) → IsGood anything (tell_results Json ask.question) → AreBytes bytes → AllByRecursion IsLine (told_lines (tell_bytes ask Json xid bytes))
  reply_lines ask xid bytes results are = good_lines anything (tell_bytes ask Json xid bytes) (tells_reply ask xid results (end_of bytes) (data_of (front_of bytes)) (front_bytes bytes are))

-- ---- objects

-- what is so of the objects of each question's reply
pub record ObjectsAre (IsLine : Question → List ℕ → Type 0) : Type 0 where
  pub row : (r : Rpcb) → IsRpcb r → IsLine Rows (row_object r)
  pub old_row : (r : Rpcb) → IsRpcb r → IsLine OldRows (row_object r)
  pub mapping : (m : Mapping) → IsMapping m → IsLine Pmap (mapping_object m)
  pub entry : (prog vers : ℕ) (e : Entry) → IsEntry e → IsLine (Entries prog vers) (entry_object e)
  pub statistics : StatisticsLines (IsLine Stats)

module _ (IsLine : Question → List ℕ → Type 0) (objects : ObjectsAre IsLine) where
  results : (question : Question) → has_objects question ≡ true → IsGood (IsLine question) anything (tell_results Json question)
  results Rows has = tells_list (IsLine Rows) IsRpcb rpcb_spelling read_rpcb (row_line Json) rpcb_sound objects.row
  results OldRows has = tells_list (IsLine OldRows) IsMapping mapping_spelling read_mapping (λ m. row_line Json (mapping_row m)) mapping_sound (λ m fits. objects.old_row (mapping_row m) (mapping_row_fits m fits))
  results Pmap has = tells_list (IsLine Pmap) IsMapping mapping_spelling read_mapping (mapping_line Json) mapping_sound objects.mapping
  results (Entries prog vers) has = tells_list (IsLine (Entries prog vers)) IsEntry entry_spelling read_entry (entry_line Json prog) entry_sound (objects.entry prog vers)
  results Stats has = tells_statistics (IsLine Stats) objects.statistics
  results Short has = absurd cc
  results OldShort has = absurd cc
  results Summary has = absurd cc
  results OldSummary has = absurd cc
  results (Port prot prog vers) has = absurd cc
  results (Address netid prog vers) has = absurd cc
  results (Null prog vers) has = absurd cc
  results (Probe prog vers) has = absurd cc
  results (Callit prog vers) has = absurd cc
  results (Unset netid prog vers) has = absurd cc

  pub each_line : (ask : Ask) (xid : ℕ) (bytes : List ℕ) → has_objects ask.question ≡ true → AreBytes bytes → AllByRecursion (IsLine ask.question) (told_lines (tell_bytes ask Json xid bytes))
  each_line ask xid bytes has are = reply_lines (IsLine ask.question) ask xid bytes (results ask.question has) are
