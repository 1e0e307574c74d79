-- What passes with one event, and the records in it.
use Rattle.std.specs.List.{flat_map}
use Rattle.std.proofs.Common.{◌≡◌, ◌≤◌, ℕ, Option, Some, None, List, [], ◌∷◌, ◌++◌, length, take, drop, refl, sym, ap, subst, ◌∙◌, append_assoc, append-nil, arith}
use Rattle.std.proofs.lemmas.List.{take-append-drop, take_all, length-take, drop_at, take_at}
use Rattle.std.proofs.lemmas.Grind.{flat_map-append}
use Rattle.rb_xdr.specs.Xdr.{AreBytes}
use Rattle.rb_xdr.proofs.Words.{AreBytes-drop, AreBytes-take}
use Rattle.rb_address.specs.declared.caller.Caller.TheVariants.{Tcp}
use Rattle.rb_rpc.specs.RecordLaws.{IsMarked, AreMarked, HasNoRecord, Records}
use Rattle.rb_rpc.specs.Records.{first_record, data_of}
use Rattle.rb_rpc.proofs.Markings.{first_is_least, none_where_no_front, data_is_joined}
use Rattle.rb_rpc.proofs.RecordCuts.{ends_later, stays}
use Rattle.rb_model.specs.State.{State, Connection}
use Rattle.rb_model.specs.Connections.{live_connection}
use Rattle.rb_model.specs.Step.{serve}
use Rattle.rb_model.specs.Sessions.{Exchange, Session, session_with, calls_ended, call_in, left_behind, marked_reply_in, replies_to}

-- ---- one event

pub same-session : {ta tb ga gb ua ub : List ℕ} {ca cb : List Exchange} → ta ≡ tb → ga ≡ gb → ua ≡ ub → ca ≡ cb
    → ◌≡◌ {A = Session} (record { taken = ta; given = ga; unfinished = ua; calls = ca }) (record { taken = tb; given = gb; unfinished = ub; calls = cb })
same-session p q r u = rw (p, q, r, u) refl

-- nothing is taken
pub none-taken : (s : State) (id : ℕ) (gave : List ℕ) (t : Session) → first_record t.unfinished ≡ None → session_with s id [] gave t ≡ record t { given = t.given ++ gave }
none-taken s id gave t none =
    let all : List ℕ = t.unfinished ++ [] in
    let e : first_record all ≡ None = ap first_record (append-nil t.unfinished) ∙ none in
    same-session (append-nil t.taken) refl
    (ap (left_behind all) e ∙ append-nil t.unfinished)
    (ap (λ (o : Option ℕ). t.calls ++ calls_ended s id all o) e ∙ append-nil t.calls)

-- nothing passes
pub none-passed : (s : State) (id : ℕ) (t : Session) → first_record t.unfinished ≡ None → session_with s id [] [] t ≡ t
none-passed s id t none = none-taken s id [] t none ∙ same-session refl (append-nil t.given) refl refl

-- no record ends in what is taken
pub goes-on : (s : State) (id : ℕ) (more : List ℕ) (t : Session) → first_record (t.unfinished ++ more) ≡ None
    → session_with s id more [] t ≡ record t { taken = t.taken ++ more; unfinished = t.unfinished ++ more }
goes-on s id more t e =
    let all : List ℕ = t.unfinished ++ more in
    same-session refl (append-nil t.given)
    (ap (left_behind all) e)
    (ap (λ (o : Option ℕ). t.calls ++ calls_ended s id all o) e ∙ append-nil t.calls)

-- the call in the bytes of a record
abbrev pub call_of : State → ℕ → Connection → List ℕ → Exchange
call_of s id c bytes = record { content = data_of bytes; said = (serve s (Tcp id c.who) (data_of bytes)).0 }

-- a record ends
pub ends : (s : State) (id : ℕ) (more : List ℕ) (t : Session) (n : ℕ) (c : Connection) → first_record (t.unfinished ++ more) ≡ Some n → live_connection id s.connections.all ≡ Some c
    → session_with s id more [] t ≡ record t { taken = t.taken ++ more; unfinished = []; calls = t.calls ++ call_of s id c (t.unfinished ++ more) ∷ [] }
ends s id more t n c e there =
    let all : List ℕ = t.unfinished ++ more in
    same-session refl (append-nil t.given)
    (ap (left_behind all) e)
    (ap (λ (o : Option ℕ). t.calls ++ calls_ended s id all o) e ∙ ap (λ (o : Option Connection). t.calls ++ call_in s id all o) there)

pub one-more-reply : (calls : List Exchange) (call : Exchange) → replies_to (calls ++ call ∷ []) ≡ replies_to calls ++ marked_reply_in call.said
one-more-reply calls call =
    flat_map-append (λ (x : Exchange). marked_reply_in x.said) calls (call ∷ []) ∙ ap (λ (xs : List ℕ). replies_to calls ++ xs) (append-nil (marked_reply_in call.said))

-- ---- the end of a record

-- the bytes up to the end of the first record are a first record themselves
pub first-alone : (bytes : List ℕ) (n : ℕ) → first_record bytes ≡ Some n → first_record (take n bytes) ≡ Some n
first-alone bytes n is = grind (arith, take-append-drop n bytes, ends_later (take n bytes) (drop n bytes) n, take_all n bytes, length-take n bytes, stays (take n bytes) (drop n bytes))

-- ---- the records in what was taken

AreBytes-back : (front back : List ℕ) → AreBytes (front ++ back) → AreBytes back
AreBytes-back front back are = subst AreBytes (drop_at front back (length front) refl) (AreBytes-drop (length front) (front ++ back) are)

AreBytes-front : (front back : List ℕ) → AreBytes (front ++ back) → AreBytes front
AreBytes-front front back are = subst AreBytes (take_at front back (length front) refl) (AreBytes-take (length front) (front ++ back) are)

abbrev all_of : List (List ℕ) → List ℕ
all_of texts = flat_map (λ text. text) texts

-- the bytes after the records are among those that were taken
unfinished-bytes : (taken more rest : List ℕ) (texts : List (List ℕ)) → taken ≡ all_of texts ++ rest → AreBytes (taken ++ more) → AreBytes (rest ++ more)
unfinished-bytes taken more rest texts whole are =
    AreBytes-back (all_of texts) (rest ++ more) (subst AreBytes (ap (λ (xs : List ℕ). xs ++ more) whole ∙ append_assoc (all_of texts) rest more) are)

-- bytes more, in which no record ends
pub records-on : (taken more rest : List ℕ) (contents : List (List ℕ)) → (AreBytes taken → Records taken contents rest) → first_record (rest ++ more) ≡ None
    → AreBytes (taken ++ more) → Records (taken ++ more) contents (rest ++ more)
records-on taken more rest contents before none are =
    let r : Records taken contents rest = before (AreBytes-front taken more are) in
    record {
      texts = r.texts;
      are_marked = r.are_marked;
      whole = ap (λ (xs : List ℕ). xs ++ more) r.whole ∙ append_assoc (all_of r.texts) rest more;
      none_more = (none_where_no_front (rest ++ more) (unfinished-bytes taken more rest r.texts r.whole are)).0 none;
    }

one-more-marked : (texts contents : List (List ℕ)) (text content : List ℕ) → AreMarked texts contents → IsMarked text content → AreMarked (texts ++ text ∷ []) (contents ++ content ∷ [])
one-more-marked [] [] text content are is = (is, tt)
one-more-marked (x ∷ xs) (y ∷ ys) text content are is = (are.0, one-more-marked xs ys text content are.1 is)
one-more-marked [] (y ∷ ys) text content are is = absurd are
one-more-marked (x ∷ xs) [] text content are is = absurd are

pub no-record : HasNoRecord []
unfolding first_record
no-record = (none_where_no_front [] (λ i. omega arith)).0 refl

-- bytes more, which end a record
pub records-end : (taken more rest : List ℕ) (contents : List (List ℕ)) (n : ℕ) → (AreBytes taken → Records taken contents rest) → first_record (rest ++ more) ≡ Some n → length (rest ++ more) ≤ n
    → AreBytes (taken ++ more) → Records (taken ++ more) (contents ++ data_of (rest ++ more) ∷ []) []
records-end taken more rest contents n before some short are =
    let r : Records taken contents rest = before (AreBytes-front taken more are) in
    let all : List ℕ = rest ++ more in
    let f = (first_is_least all (unfinished-bytes taken more rest r.texts r.whole are) n).0 some in
    let is_marked : IsMarked all f.content = subst (λ (xs : List ℕ). IsMarked xs f.content) (take_all n all short) f.is_marked in
    let content_is : data_of all ≡ f.content = ap data_of (sym (append-nil all)) ∙ data_is_joined all f.content [] is_marked in
    record {
      texts = r.texts ++ all ∷ [];
      are_marked = one-more-marked r.texts contents all (data_of all) r.are_marked (subst (λ (xs : List ℕ). IsMarked all xs) (sym content_is) is_marked);
      whole = ap (λ (xs : List ℕ). xs ++ more) r.whole ∙ append_assoc (all_of r.texts) rest more
          ∙ sym (append-nil (all_of r.texts ++ all)) ∙ ap (λ (xs : List ℕ). xs ++ []) (sym (flat_map-append (λ (text : List ℕ). text) r.texts (all ∷ []) ∙ ap (λ (xs : List ℕ). all_of r.texts ++ xs) (append-nil all)));
      none_more = no-record;
    }
