-- What is told of a front of data stays, whatever follows.
use Rattle.std.proofs.Common.{◌≡◌, ◌+◌, ℕ, zero, suc, Bool, true, false, cond, List, [], ◌∷◌, ◌++◌, length, Option, Some, None, Ok, Err, refl, sym, ap, ◌∙◌, subst, append_assoc, append-nil}
use Rattle.std.specs.Prelude.{nat_eq}
use Rattle.std.proofs.lemmas.List.{drop-append-le}
use Rattle.rb_xdr.specs.declared.fault.XdrFault.TheVariants.{Short, TooLong, BadBool, BadPadding}
use Rattle.rb_xdr.specs.Xdr.{Reading, Reader, ◌>>=◌ as ◌>>>◌, give as yield, read_number, read_bool, read_opaque}
use Rattle.rb_xdr.specs.XdrTypes.{read_signed, read_pair, read_item, read_optional}
use Rattle.rb_arguments.specs.declared.rpcb.Rpcb.{Rpcb}
use Rattle.rb_arguments.specs.Types.{read_mapping, read_rpcb, read_entry}
use Rattle.rb_rpc.specs.ReadReplies.{Read, read_reply}
use Rattle.rb_rpc.specs.declared.reply.ReplyHead.{ReplyHead}
use Rattle.rb_show.specs.declared.ask.Question.{Question}
use Rattle.rb_show.specs.declared.ask.Question.TheVariants.{Rows, Short as ShortRows, OldRows, OldShort, Summary, OldSummary, Pmap, Entries, Stats, Port, Address, Null, Probe, Callit, Unset}
use Rattle.rb_show.specs.declared.fault.InfoFault.{InfoFault}
use Rattle.rb_show.specs.declared.fault.InfoFault.TheVariants.{TooMany, Unreadable, Refused}
use Rattle.rb_show.specs.declared.form.Form.{Form}
use Rattle.rb_show.specs.declared.show.Shown.{Shown}
use Rattle.rb_show.specs.declared.show.Shown.TheVariants as shown
use Rattle.rb_show.specs.Telling.{Told, Teller, add_lines, tell_on, ◌>>=◌, give, stop, tell, told_by, take_one, told_lines}
use Rattle.rb_show.specs.Telling.Told.{Done, Stop}
use Rattle.rb_show.specs.Heads.{may_begin, by_reading, take_head}
use Rattle.rb_show.specs.Lists.{tell_end, tell_item, tell_items, greatest_list}
use Rattle.rb_show.specs.WholeLists.{take_end, next_item, take_items}
use Rattle.rb_show.specs.Lines.{is_json, mapping_line}
use Rattle.rb_show.specs.Rows.{itself, mapping_row}
use Rattle.rb_show.specs.Statistics.{read_two, read_four, read_version, read_addr, read_call}
use Rattle.rb_show.specs.Counts.{tell_lists, tell_version, tell_statistics}
use Rattle.rb_show.specs.Replies.{tell_list, tell_summary, tell_columns, tell_port, address_in, by_address, tell_address, tell_ready, tell_removed, tell_unset, tell_results, is_success, by_status, by_head, tell_reply}
use Rattle.rb_show.specs.FrontLaws.{BeginsWithLines, LinesStay}
use Rattle.rb_show.proofs.HeadReads.{head_stays, head_ends}
use Rattle.rb_show.proofs.Settles.{Settles, give_settles, bind_settles, number_settles, bool_settles, opaque_settles}

-- ---- tellers

-- the same value, before what follows, or a front of the lines
abbrev Grown : {A : Type 0} → Told A → Told A → List ℕ → Type 0
Grown (Done lines x left) told more = told ≡ Done lines x (left ++ more)
Grown (Stop lines fault) told more = BeginsWithLines (told_lines told) lines

abbrev IsGrowing : {A : Type 0} → Teller A → Type 0
IsGrowing teller = (end end' : InfoFault) (content more : List ℕ) → Grown (teller end content) (teller end' (content ++ more)) more

no_lines_yet : (all : List (List ℕ)) → BeginsWithLines all []
no_lines_yet all = record { more = all; whole = refl }

lines_behind : {A : Type 0} (lines : List (List ℕ)) (told : Told A) → told_lines (add_lines lines told) ≡ lines ++ told_lines told
lines_behind lines (Done more x left) = refl
lines_behind lines (Stop more fault) = refl

behind_lines : {A : Type 0} (lines : List (List ℕ)) (told told' : Told A) (more : List ℕ) → Grown told told' more → Grown (add_lines lines told) (add_lines lines told') more
behind_lines lines (Done further x left) told' more e = ap (add_lines lines) e
behind_lines lines (Stop further fault) told' more front = record {
  more = front.more;
  whole = lines_behind lines told' ∙ ap (λ (xs : List (List ℕ)). lines ++ xs) front.whole ∙ sym (append_assoc lines further front.more);
}

lines_first : {A B : Type 0} (told : Told A) (next : A → List ℕ → Told B) → BeginsWithLines (told_lines (tell_on told next)) (told_lines told)
lines_first (Done lines x left) next = record { more = told_lines (next x left); whole = lines_behind lines (next x left) }
lines_first (Stop lines fault) next = record { more = []; whole = sym (append-nil lines) }

next_grown : {A B : Type 0} (told told' : Told A) (next next' : A → List ℕ → Told B) (more : List ℕ) → Grown told told' more
    → ((x : A) (left : List ℕ) → Grown (next x left) (next' x (left ++ more)) more) → Grown (tell_on told next) (tell_on told' next') more
next_grown {A} {B} (Done lines x left) told' next next' more e grows =
    subst (λ (t : Told A). Grown (add_lines lines (next x left)) (tell_on t next') more) (sym e) (behind_lines lines (next x left) (next' x (left ++ more)) more (grows x left))
next_grown (Stop lines fault) told' next next' more front grows =
    let all = lines_first told' next' in
    record {
      more = front.more ++ all.more;
      whole = all.whole ∙ ap (λ (xs : List (List ℕ)). xs ++ all.more) front.whole ∙ append_assoc lines front.more all.more;
    }

onward : {A B : Type 0} (first : Teller A) (next : A → Teller B) → IsGrowing first → ((x : A) → IsGrowing (next x)) → IsGrowing (first >>= next)
unfolding ◌>>=◌
onward first next grows then_grows end end' content more =
    next_grown (first end content) (first end' (content ++ more)) (λ x. next x end) (λ x. next x end') more (grows end end' content more) (λ x left. then_grows x end end' left more)

gives : {A : Type 0} (x : A) → IsGrowing (give x)
gives x end end' content more = refl

stops : (A : Type 0) (fault : InfoFault) → IsGrowing {A = A} (stop fault)
stops A fault end end' content more = no_lines_yet []

tells : (lines : List (List ℕ)) → IsGrowing (tell lines)
tells lines end end' content more = refl

by_test : {A : Type 0} (b : Bool) (first second : Teller A) → IsGrowing first → IsGrowing second → IsGrowing (cond b first second)
by_test true first second p q = p
by_test false first second p q = q

takes : {A : Type 0} (reads : Reader A) → Settles reads → IsGrowing (take_one reads)
unfolding take_one
takes {A} reads settles end end' content more = by_value (reads content) refl
  where
    by_value : (r : Reading A) → reads content ≡ r → Grown (told_by end r content) (told_by end' (reads (content ++ more)) (content ++ more)) more
    by_value (Ok x) e =
        ap (λ (r : Reading A). told_by end' r (content ++ more)) (settles.keeps content more (Ok x) e (λ short. absurd cc))
        ∙ ap (λ (left : List ℕ). Done [] x.0 left) (drop-append-le x.1 content more (settles.ends content x.0 x.1 e))
    by_value (Err Short) e = no_lines_yet _
    by_value (Err TooLong) e = no_lines_yet _
    by_value (Err BadBool) e = no_lines_yet _
    by_value (Err BadPadding) e = no_lines_yet _

takes_head : IsGrowing take_head
unfolding take_head
takes_head end end' content more = by_read (read_reply content) refl (may_begin content)
  where
    by_read : (read : Read) → read_reply content ≡ read → (may : Bool) → Grown (by_reading read may end content) (by_reading (read_reply (content ++ more)) (may_begin (content ++ more)) end' (content ++ more)) more
    by_read (Some read) e may =
        ap (λ (r : Read). by_reading r (may_begin (content ++ more)) end' (content ++ more)) (head_stays content more read e)
        ∙ ap (λ (left : List ℕ). Done [] read.0 left) (drop-append-le read.1 content more (head_ends content read e).1)
    by_read None e true = no_lines_yet _
    by_read None e false = no_lines_yet _

-- ---- values

pair_settles : {A B : Type 0} (first : Reader A) (second : Reader B) → Settles first → Settles second → Settles (read_pair first second)
unfolding read_pair
pair_settles first second p q = bind_settles first (λ a. second >>> λ b. yield (a, b)) p (λ a. bind_settles second (λ b. yield (a, b)) q (λ b. give_settles (a, b)))

signed_settles : Settles read_signed
unfolding read_signed
signed_settles = bind_settles read_number _ number_settles (λ n. give_settles _)

optional_settles : {A : Type 0} (reads : Reader A) → Settles reads → Settles (read_optional reads)
unfolding read_optional
optional_settles reads settles = bind_settles read_bool (read_item reads) bool_settles item_settles
  where
    item_settles : (there : Bool) → Settles (read_item reads there)
    item_settles true = bind_settles reads (λ x. yield (Some x)) settles (λ x. give_settles (Some x))
    item_settles false = give_settles None

mapping_settles : Settles read_mapping
unfolding read_mapping
mapping_settles =
    bind_settles read_number _ number_settles (λ prog. bind_settles read_number _ number_settles (λ vers. bind_settles read_number _ number_settles (λ prot. bind_settles read_number _ number_settles (λ port. give_settles _))))

rpcb_settles : Settles read_rpcb
unfolding read_rpcb
rpcb_settles =
    bind_settles read_number _ number_settles (λ prog. bind_settles read_number _ number_settles (λ vers. bind_settles (read_opaque 32) _ (opaque_settles 32)
    (λ netid. bind_settles (read_opaque 128) _ (opaque_settles 128) (λ addr. bind_settles (read_opaque 128) _ (opaque_settles 128) (λ owner. give_settles _)))))

entry_settles : Settles read_entry
unfolding read_entry
entry_settles =
    bind_settles (read_opaque 128) _ (opaque_settles 128) (λ maddr. bind_settles (read_opaque 32) _ (opaque_settles 32) (λ netid. bind_settles read_number _ number_settles
    (λ semantics. bind_settles (read_opaque 32) _ (opaque_settles 32) (λ protofmly. bind_settles (read_opaque 32) _ (opaque_settles 32) (λ proto. give_settles _)))))

two_settles : Settles read_two
two_settles = pair_settles read_signed read_signed signed_settles signed_settles

four_settles : Settles read_four
four_settles = pair_settles read_two read_two two_settles two_settles

version_settles : Settles read_version
version_settles =
    pair_settles (read_pair (read_pair read_four read_four) (read_pair read_four read_signed)) read_two
    (pair_settles (read_pair read_four read_four) (read_pair read_four read_signed) (pair_settles read_four read_four four_settles four_settles) (pair_settles read_four read_signed four_settles signed_settles)) two_settles

counted_settles : Settles (read_pair read_signed (read_pair read_signed (read_opaque 32)))
counted_settles = pair_settles read_signed (read_pair read_signed (read_opaque 32)) signed_settles (pair_settles read_signed (read_opaque 32) signed_settles (opaque_settles 32))

addr_settles : Settles read_addr
addr_settles =
    pair_settles read_number (read_pair read_number (read_pair read_signed (read_pair read_signed (read_opaque 32)))) number_settles
    (pair_settles read_number (read_pair read_signed (read_pair read_signed (read_opaque 32))) number_settles counted_settles)

call_settles : Settles read_call
call_settles =
    let passed = read_pair read_signed (read_pair read_signed (read_pair read_signed (read_opaque 32))) in
    pair_settles read_number (read_pair read_number (read_pair read_number passed)) number_settles
    (pair_settles read_number (read_pair read_number passed) number_settles
    (pair_settles read_number passed number_settles (pair_settles read_signed (read_pair read_signed (read_pair read_signed (read_opaque 32))) signed_settles counted_settles)))

-- ---- lists

module _ {A : Type 0} (reads : Reader A) (settles : Settles reads) where
  tells_item : (line : A → List ℕ) (shown : ℕ) (more : Teller ℕ) → IsGrowing more → (item : Option A) → IsGrowing (tell_item line shown more item)
  tells_item line shown more grows None = gives shown
  tells_item line shown more grows (Some x) = onward (tell (line x ∷ [])) (λ _. more) (tells (line x ∷ [])) (λ _. grows)

  tells_items : (line : A → List ℕ) (k shown : ℕ) → IsGrowing (tell_items reads line k shown)
  unfolding tell_items
  tells_items line zero shown = onward (take_one read_bool) (tell_end shown) (takes read_bool bool_settles) (λ more. by_test more (stop TooMany) (give shown) (stops ℕ TooMany) (gives shown))
  tells_items line (suc k) shown =
      onward (take_one (read_optional reads)) (tell_item line shown (tell_items reads line k (shown + 1))) (takes (read_optional reads) (optional_settles reads settles))
      (tells_item line shown (tell_items reads line k (shown + 1)) (tells_items line k (shown + 1)))

  tells_list : (line : A → List ℕ) → IsGrowing (tell_list reads line)
  unfolding tell_list
  tells_list line = onward (tell_items reads line greatest_list 0) (λ n. give (shown.Rows n)) (tells_items line greatest_list 0) (λ n. gives {A = Shown} (shown.Rows n))

  takes_item : (taken : List A) (more : List A → Teller (List A)) → ((items : List A) → IsGrowing (more items)) → (item : Option A) → IsGrowing (next_item taken more item)
  takes_item taken more grows None = gives taken
  takes_item taken more grows (Some x) = grows (taken ++ x ∷ [])

  takes_items : (k : ℕ) (taken : List A) → IsGrowing (take_items reads k taken)
  unfolding take_items
  takes_items zero taken = onward (take_one read_bool) (take_end taken) (takes read_bool bool_settles) (λ more. by_test more (stop TooMany) (give taken) (stops (List A) TooMany) (gives taken))
  takes_items (suc k) taken =
      onward (take_one (read_optional reads)) (next_item taken (take_items reads k)) (takes (read_optional reads) (optional_settles reads settles))
      (takes_item taken (take_items reads k) (takes_items k))

  tells_summary : (form : Form) (stands_for : A → Rpcb) → IsGrowing (tell_summary form reads stands_for)
  unfolding tell_summary
  tells_summary form stands_for =
      onward (take_items reads greatest_list []) _ (takes_items greatest_list []) (λ items. onward (tell _) (λ _. give (shown.Rows (length items))) (tells _) (λ _. gives {A = Shown} (shown.Rows (length items))))

-- ---- replies

tells_version : (form : Form) (vers : ℕ) → IsGrowing (tell_version form vers)
unfolding tell_version tell_lists
tells_version form vers =
    onward (take_one read_version) _ (takes read_version version_settles) (λ v. onward (tell _) (λ _. tell_lists form vers) (tells _)
    (λ _. onward (tell_items read_addr _ greatest_list 0) _ (tells_items read_addr addr_settles _ greatest_list 0)
    (λ found. onward (tell_items read_call _ greatest_list 0) _ (tells_items read_call call_settles _ greatest_list 0) (λ called. gives {A = ℕ × ℕ} (found, called)))))

tells_statistics : (form : Form) → IsGrowing (tell_statistics form)
unfolding tell_statistics
tells_statistics form =
    onward (tell_version form 2) _ (tells_version form 2) (λ a. onward (tell_version form 3) _ (tells_version form 3) (λ b. onward (tell_version form 4) _ (tells_version form 4) (λ c. gives {A = Shown} _)))

tells_table : (form : Form) → IsGrowing (tell_results form Pmap)
unfolding tell_columns
tells_table form =
    by_test (is_json form) (tell_list read_mapping (mapping_line form)) (tell_columns form) (tells_list read_mapping mapping_settles (mapping_line form))
    (onward (tell _) (λ _. tell_list read_mapping (mapping_line form)) (tells _) (λ _. tells_list read_mapping mapping_settles (mapping_line form)))

tells_port : IsGrowing tell_port
unfolding tell_port
tells_port = onward (take_one read_number) (λ port. give (shown.Port port)) (takes read_number number_settles) (λ port. gives {A = Shown} (shown.Port port))

tells_address : IsGrowing tell_address
unfolding tell_address
tells_address = onward (take_one (read_opaque 128)) (λ text. by_address (address_in text)) (takes (read_opaque 128) (opaque_settles 128)) (λ text. by_text (address_in text))
  where
    by_text : (address : _) → IsGrowing (by_address address)
    by_text (Some address) = gives {A = Shown} (shown.Address address)
    by_text None = stops Shown Unreadable

tells_line : (line : List ℕ) (what : Shown) → IsGrowing (tell (line ∷ []) >>= λ _. give what)
tells_line line what = onward (tell (line ∷ [])) (λ _. give what) (tells (line ∷ [])) (λ _. gives what)

tells_results : (form : Form) (question : Question) → IsGrowing (tell_results form question)
unfolding tell_ready tell_removed tell_unset
tells_results form Rows = tells_list read_rpcb rpcb_settles _
tells_results form ShortRows = tells_list read_rpcb rpcb_settles _
tells_results form OldRows = tells_list read_mapping mapping_settles _
tells_results form OldShort = tells_list read_mapping mapping_settles _
tells_results form Summary = tells_summary read_rpcb rpcb_settles form itself
tells_results form OldSummary = tells_summary read_mapping mapping_settles form mapping_row
tells_results form Pmap = tells_table form
tells_results form (Entries prog vers) = tells_list read_entry entry_settles _
tells_results form Stats = tells_statistics form
tells_results form (Port prot prog vers) = tells_port
tells_results form (Address netid prog vers) = tells_address
tells_results form (Null prog vers) = tells_line _ shown.Null
tells_results form (Probe prog vers) = gives {A = Shown} shown.Null
tells_results form (Callit prog vers) = tells_port
tells_results form (Unset netid prog vers) = onward (take_one read_bool) tell_removed (takes read_bool bool_settles) (λ removed. tells_line _ (shown.Removed removed))

tells_by_head : (form : Form) (question : Question) (xid : ℕ) (head : ReplyHead) → IsGrowing (by_head form question xid head)
unfolding by_head
tells_by_head form question xid head =
    by_test (nat_eq head.xid xid) (by_status form question head) (stop Unreadable)
    (by_test (is_success head.status) (tell_results form question) (stop (Refused head)) (tells_results form question) (stops Shown (Refused head))) (stops Shown Unreadable)

lines_grown : {A : Type 0} (told told' : Told A) (more : List ℕ) → Grown told told' more → BeginsWithLines (told_lines told') (told_lines told)
lines_grown (Done lines x left) told' more e = record { more = []; whole = ap told_lines e ∙ sym (append-nil lines) }
lines_grown (Stop lines fault) told' more front = front

pub lines_stay : LinesStay
unfolding tell_reply
lines_stay ask form xid end end' content more =
    lines_grown (tell_reply ask form xid end content) (tell_reply ask form xid end' (content ++ more)) more
    (onward take_head (by_head form ask.question xid) takes_head (tells_by_head form ask.question xid) end end' content more)
