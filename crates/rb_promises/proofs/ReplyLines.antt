-- What is told of a reply that lists rows.
use Rattle.std.specs.Prelude.{All}
use Rattle.std.proofs.Common.{◌≡◌, ◌≤◌, ℕ, Bool, true, false, cond, eq-eqb, List, [], ◌∷◌, ◌++◌, length, map, refl, sym, ap, subst, ◌∙◌, append-nil}
use Rattle.std.proofs.lemmas.List.{drop_at, length-map}
use Rattle.rb_xdr.specs.Xdr.{Reader, IsNumber, linked_list}
use Rattle.rb_xdr.specs.XdrLaws.{IsComplete}
use Rattle.rb_rpc.specs.declared.reply.ReplyHead.{ReplyHead}
use Rattle.rb_rpc.specs.declared.reply.ReplyStatus.TheVariants.{Success}
use Rattle.rb_rpc.specs.Replies.{reply_head}
use Rattle.rb_rpc.specs.ReadReplies.{Read}
use Rattle.rb_rpc.specs.Grammar.{WrittenRepliesAreRead}
use Rattle.rb_arguments.specs.declared.mapping.Mapping.{Mapping}
use Rattle.rb_arguments.specs.declared.rpcb.Rpcb.{Rpcb}
use Rattle.rb_arguments.specs.Types.{IsMapping, IsRpcb, IsEntry, mapping_spelling, rpcb_spelling, entry_spelling, read_mapping, read_rpcb, read_entry}
use Rattle.rb_arguments.proofs.Readings.{mapping_complete, rpcb_complete, entry_complete}
use Rattle.rb_show.specs.declared.fault.InfoFault.{InfoFault}
use Rattle.rb_show.specs.declared.fault.InfoFault.TheVariants.{Unreadable}
use Rattle.rb_show.specs.Telling.{Told, add_lines, tell_on, give, stop, ◌>>=◌}
use Rattle.rb_show.specs.Telling.Told.{Done, Stop}
use Rattle.rb_show.specs.Heads.{take_head}
use Rattle.rb_show.specs.HeadLaws.{IsHead}
use Rattle.rb_show.specs.Lists.{greatest_list}
use Rattle.rb_show.proofs.HeadReads.{heads_read}
use Rattle.rb_show.proofs.ShownLists.{lists_are_shown, lists_are_taken}
use Rattle.rb_show.specs.declared.ask.Question.{Question}
use Rattle.rb_show.specs.declared.ask.Question.TheVariants as questions
use Rattle.rb_show.specs.declared.form.Form.{Form}
use Rattle.rb_show.specs.declared.show.Shown.TheVariants as shown
use Rattle.rb_show.specs.Rows.{itself, mapping_row}
use Rattle.rb_show.specs.Summary.{ShownRow, as_shown, summary_text, items_summary}
use Rattle.rb_show.specs.Lines.{is_json, heading, mapping_line, row_line, short_line, entry_line}
use Rattle.rb_show.specs.Replies.{tell_list, tell_rows, tell_summary, tell_items_summary, tell_columns, tell_table, tell_results, by_status, by_head, tell_reply}
use Rattle.rb_promises.specs.RowLists.{ShowsLines, ShowsSum, rpcbs, dump, DumpsAreShown, mappings, pmap_dump, table_lines, MappingsAreShown, entries, address_list, EntriesAreShown}

-- after no lines
no_lines : {A : Type 0} (told : Told A) → add_lines [] told ≡ told
no_lines (Done more x left) = refl
no_lines (Stop more fault) = refl

-- ---- the head

abbrev head-of : ℕ → ReplyHead
head-of xid = record { xid = xid; status = Success }

takes-head : WrittenRepliesAreRead → (xid : ℕ) (results : List ℕ) (end : InfoFault) → IsNumber xid → take_head end (reply_head xid Success ++ results) ≡ Done [] (record { xid = xid; status = Success }) results
takes-head again xid results end fits =
    let told = subst (λ (r : Read). IsHead r end (reply_head xid Success ++ results) (take_head end (reply_head xid Success ++ results))) (again xid Success results fits tt) (heads_read end (reply_head xid Success ++ results)) in
    told ∙ ap (λ (xs : List ℕ). Done [] (record { xid = xid; status = Success }) xs) (drop_at (reply_head xid Success) results (length (reply_head xid Success)) refl)

-- the head is of this call, and is no refusal
head-passes : (form : Form) (question : Question) (xid : ℕ) (end : InfoFault) (content : List ℕ) → by_head form question xid (head-of xid) end content ≡ tell_results form question end content
unfolding by_head
head-passes form question xid end content = ap (λ (b : Bool). (cond b (by_status form question (head-of xid)) (stop Unreadable)) end content) (eq-eqb xid xid refl)

-- results that are told so whatever stands after them
abbrev TellsResults : Form → Question → List ℕ → List (List ℕ) → ℕ → Type 0
TellsResults form question bytes lines count = (rest : List ℕ) (end : InfoFault) → tell_results form question end (bytes ++ rest) ≡ Done lines (shown.Rows count) rest

-- the reply is told as its results are
shows-lines : WrittenRepliesAreRead → (form : Form) (question : Question) (bytes : List ℕ) (lines : List (List ℕ)) (count : ℕ) → TellsResults form question bytes lines count → ShowsLines form question bytes count lines
unfolding tell_reply ◌>>=◌
shows-lines again form question bytes lines count results uid xid rest end fits =
    ap (λ (t : Told ReplyHead). tell_on t (λ head. by_head form question xid head end)) (takes-head again xid (bytes ++ rest) end fits)
    ∙ no_lines (by_head form question xid (head-of xid) end (bytes ++ rest))
    ∙ head-passes form question xid end (bytes ++ rest)
    ∙ results rest end

-- ---- lists

-- one after the other
map-again : {A B C : Type 0} (f : A → B) (g : B → C) (items : List A) → map g (map f items) ≡ map (λ item. g (f item)) items
map-again f g [] = refl
map-again f g (item ∷ items) = ap (λ rest. g (f item) ∷ rest) (map-again f g items)

-- rows stand for themselves
themselves : (rows : List Rpcb) → map itself rows ≡ rows
themselves [] = refl
themselves (row ∷ rows) = ap (λ (rest : List Rpcb). row ∷ rest) (themselves rows)

module _ {A : Type 0} (is_value : A → Type 0) (spelling : A → List ℕ) (reads : Reader A) (complete : IsComplete is_value spelling reads) (items : List A) (are : All is_value items) (few : length items ≤ greatest_list) where
  list-told : (line : A → List ℕ) (rest : List ℕ) (end : InfoFault) → tell_list reads line end (linked_list spelling items ++ rest) ≡ Done (map line items) (shown.Rows (length items)) rest
  unfolding tell_list ◌>>=◌
  list-told line rest end =
      ap (λ (t : Told ℕ). tell_on t (λ n. give (shown.Rows n) end)) (lists_are_shown is_value spelling reads complete line items rest end are few)
      ∙ ap (λ (lines : List (List ℕ)). Done lines (shown.Rows (length items)) rest) (append-nil (map line items))

  -- what is told of the rows that the items stand for
  tells-rows : (stands_for : A → Rpcb) (rest : List ℕ) (lines more : List (List ℕ)) → lines ≡ more → Done lines (shown.Rows (length items)) rest ≡ Done more (shown.Rows (length (map stands_for items))) rest
  tells-rows stands_for rest lines more same =
      ap (λ (all : List (List ℕ)). Done all (shown.Rows (length items)) rest) same
      ∙ ap (λ (n : ℕ). Done more (shown.Rows n) rest) (sym (length-map items stands_for))

  rows-told : (stands_for : A → Rpcb) (line : Rpcb → List ℕ) (rest : List ℕ) (end : InfoFault) → tell_rows reads stands_for line end (linked_list spelling items ++ rest) ≡ Done (map line (map stands_for items)) (shown.Rows (length (map stands_for items))) rest
  rows-told stands_for line rest end =
      list-told (λ item. line (stands_for item)) rest end
      ∙ tells-rows stands_for rest _ _ (sym (map-again stands_for line items))

  summary-told : (form : Form) (stands_for : A → Rpcb) (rest : List ℕ) (end : InfoFault) → tell_summary form reads stands_for end (linked_list spelling items ++ rest) ≡ Done (summary_text form (map as_shown (map stands_for items)) ∷ []) (shown.Rows (length (map stands_for items))) rest
  unfolding tell_summary ◌>>=◌
  summary-told form stands_for rest end =
      ap (λ (t : Told (List A)). tell_on t (λ all. (tell_items_summary form stands_for all >>= λ _. give (shown.Rows (length all))) end)) (lists_are_taken is_value spelling reads complete items rest end are few)
      ∙ tells-rows stands_for rest (items_summary form stands_for items ∷ []) _ (ap (λ (rows : List ShownRow). summary_text form rows ∷ []) (sym (map-again stands_for as_shown items)))

columns-told : (form : Form) (items : List Mapping) → All IsMapping items → length items ≤ greatest_list → (rest : List ℕ) (end : InfoFault)
    → tell_columns form end (linked_list mapping_spelling items ++ rest) ≡ Done (heading form ∷ map (mapping_line form) items) (shown.Rows (length items)) rest
unfolding tell_columns ◌>>=◌
columns-told form items are few rest end = ap (add_lines (heading form ∷ [])) (list-told IsMapping mapping_spelling read_mapping mapping_complete items are few (mapping_line form) rest end)

table-told : (form : Form) (items : List Mapping) → All IsMapping items → length items ≤ greatest_list → (rest : List ℕ) (end : InfoFault)
    → tell_table form end (linked_list mapping_spelling items ++ rest) ≡ Done (table_lines form items) (shown.Rows (length items)) rest
table-told form items are few rest end = by_form (is_json form)
  where
    by_form : (b : Bool) → (cond b (tell_list read_mapping (mapping_line form)) (tell_columns form)) end (linked_list mapping_spelling items ++ rest)
        ≡ Done (cond b (map (mapping_line form) items) (heading form ∷ map (mapping_line form) items)) (shown.Rows (length items)) rest
    by_form true = list-told IsMapping mapping_spelling read_mapping mapping_complete items are few (mapping_line form) rest end
    by_form false = columns-told form items are few rest end

-- ---- the laws

pub dumps_are_shown : WrittenRepliesAreRead → DumpsAreShown
dumps_are_shown again form rows are few = record {
  each = shows-lines again form questions.Rows (dump rows) _ _ (list-told IsRpcb rpcb_spelling read_rpcb rpcb_complete (rpcbs rows) are few (row_line form));
  short = shows-lines again form questions.Short (dump rows) _ _ (list-told IsRpcb rpcb_spelling read_rpcb rpcb_complete (rpcbs rows) are few (short_line form));
  summary = subst (λ (all : List Rpcb). ShowsSum form questions.Summary (dump rows) all) (themselves (rpcbs rows))
      (shows-lines again form questions.Summary (dump rows) _ _ (summary-told IsRpcb rpcb_spelling read_rpcb rpcb_complete (rpcbs rows) are few form itself));
}

pub mappings_are_shown : WrittenRepliesAreRead → MappingsAreShown
mappings_are_shown again form rows are few = record {
  each = shows-lines again form questions.OldRows (pmap_dump rows) _ _ (rows-told IsMapping mapping_spelling read_mapping mapping_complete (mappings rows) are few mapping_row (row_line form));
  short = shows-lines again form questions.OldShort (pmap_dump rows) _ _ (rows-told IsMapping mapping_spelling read_mapping mapping_complete (mappings rows) are few mapping_row (short_line form));
  summary = shows-lines again form questions.OldSummary (pmap_dump rows) _ _ (summary-told IsMapping mapping_spelling read_mapping mapping_complete (mappings rows) are few form mapping_row);
  table = shows-lines again form questions.Pmap (pmap_dump rows) _ _ (table-told form (mappings rows) are few);
}

pub entries_are_shown : WrittenRepliesAreRead → EntriesAreShown
entries_are_shown again form rows prog vers hosts are few =
    shows-lines again form (questions.Entries prog vers) (address_list prog vers hosts rows) _ _
    (list-told IsEntry entry_spelling read_entry entry_complete (entries prog vers hosts rows) are few (entry_line form prog))
