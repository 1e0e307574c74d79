-- Words that want objects ask for them, and texts are shown as objects.
use Rattle.std.proofs.Common.{◌≡◌, ℕ, Bool, true, false, List, [], ◌∷◌, Option, Some, None, Result, Ok, Err, refl, sym, subst, ◌∙◌, inl, inr}
use Rattle.std.specs.Prelude.{◌≢◌, is_some, if◌then◌else◌, length}
use Rattle.std.specs.Borrow.{Bor}
use Rattle.std.specs.Io.KnownBytes.{Keeps, Appends}
use Rattle.std.specs.List.{AllByRecursion}
use Rattle.std.proofs.lemmas.Bool.{cases_Bool, cases_lt, lt-ltb, le-ltb}
use Rattle.std.proofs.lemmas.List.{append-nil}
use Rattle.hex.specs.Hex.{decode_of}
use Rattle.hex.proofs.HexLemmas.{decode_of-ok}
use Rattle.rb_words.specs.declared.services.Service.{Service}
use Rattle.rb_words.specs.declared.plan.Layout.{Layout}
use Rattle.rb_words.specs.declared.plan.Layout.TheVariants as layouts
use Rattle.rb_words.specs.declared.plan.Listing.{Listing}
use Rattle.rb_words.specs.declared.plan.Listing.TheVariants as listings
use Rattle.rb_words.specs.declared.plan.Plan.{Plan}
use Rattle.rb_words.specs.declared.plan.Plan.TheVariants.{Show, Entries, Ping, Delete, Broadcast}
use Rattle.rb_words.specs.declared.plan.Request.{Request}
use Rattle.rb_words.specs.declared.plan.Source.{Source}
use Rattle.rb_words.specs.declared.refusal.Refusal.{Refusal}
use Rattle.rb_words.specs.declared.refusal.Spot.TheVariants as spots
use Rattle.rb_words.specs.declared.refusal.Expected.TheVariants as wants
use Rattle.rb_words.specs.declared.shape.Shape.{Shape}
use Rattle.rb_words.specs.Words.{◌>>=◌, flag_of, check_options, option_number, plan_of, only_where, is_here, has_layout, layout_of, request_of}
use Rattle.rb_show.specs.declared.fault.InfoFault.{InfoFault}
use Rattle.rb_show.specs.declared.fault.InfoFault.TheVariants.{Write}
use Rattle.rb_show.specs.Telling.{told_lines}
use Rattle.rb_show.specs.declared.ask.Ask.{Ask}
use Rattle.rb_show.specs.declared.ask.Question.{Question}
use Rattle.rb_show.specs.declared.ask.Question.TheVariants as questions
use Rattle.rb_show.specs.declared.form.Form.TheVariants.{Json}
use Rattle.rb_show.specs.declared.show.Shown.{Shown}
use Rattle.rb_show.specs.ObjectLaws.{has_objects, IsObjectLine, WritesObjects}
use Rattle.rb_show.proofs.ObjectTellers.{each_is_an_object, nothing, written}
use Rattle.rb_plans.specs.Fallback.{has_two, old_of}
use Rattle.rb_plans.specs.declared.fault.Fault.TheVariants.{Info, NoConnection, NoSocket, NoReply, NoHost, NoAddress, NotAvailable, NoProgram, TooManyVersions, TooManyRoutes, SomeLack}
use Rattle.rb_plans.specs.Input.{digits_of, read_hex, bytes_of, longest_text, first_xid, tell_read, tell_text, IsToldOr}
use Rattle.rb_plans.specs.ObjectLaws.{AsksForObjects, ObjectsAreAskedFor, VersionTwoHasObjects, TextsAreShownAsObjects}
use Rattle.rb_plans.specs.Invocations.{layout_form, form_by}
use Rattle.rb_plans.proofs.HexTexts.{was_ok}

-- ---- words

ok_is : {A : Type 0} (x y : A) → ◌≡◌ {A = Result A Refusal} (Ok x) (Ok y) → x ≡ y
ok_is x y e = cc

then_ok : {A B : Type 0} (first : Result A Refusal) (next : A → Result B Refusal) (y : B) → (first >>= next) ≡ Ok y → (x : A) × (first ≡ Ok x) × (next x ≡ Ok y)
then_ok (Ok x) next y e = (x, refl, e)
then_ok (Err refusal) next y e = absurd cc

-- a layout that was read is one that the plan has
abbrev HasIt : Plan → Option Layout → Type 0
HasIt plan None = Unit {0}
HasIt plan (Some layout) = has_layout plan layout ≡ true

has_it : (layouts : List Layout) (plan : Plan) (layout : Option Layout) → layout_of layouts plan ≡ Ok layout → HasIt plan layout
has_it [] plan None e = tt
has_it [] plan (Some layout) e = absurd cc
has_it (first ∷ []) plan None e = tt
has_it (first ∷ []) plan (Some layout) e =
    elim (cases_Bool (has_layout plan first)) [
      | inl has ↦
          let same : ◌≡◌ {A = Result (Option Layout) Refusal} (Ok (Some first)) (Ok (Some layout)) = rw has at e in
          let is : first ≡ layout = cc in rw (sym is) has
      | inr has_none ↦ absurd (let refused = rw has_none at e in cc)
    ]
has_it (first ∷ second ∷ layouts) plan layout e = absurd cc

has_layout_of : (shape : Shape) (request : Request) → request_of shape ≡ Ok request → HasIt request.plan request.layout
has_layout_of shape request e =
    let flag = then_ok (flag_of shape.flags.now) _ request e in
    let options = then_ok (check_options flag.0 shape) _ request flag.2 in
    let port = then_ok (option_number shape.port spots.Port wants.Port 1 65535) _ request options.2 in
    let uid = then_ok (option_number shape.uid spots.Uid wants.Uid 0 4294967295) _ request port.2 in
    let plan = then_ok (plan_of flag.0 shape) _ request uid.2 in
    let local = then_ok (only_where (is_some shape.local) (is_here plan.0) spots.Local wants.NoHost) _ request plan.2 in
    let layout = then_ok (layout_of shape.layouts.now plan.0) _ request local.2 in
    subst (λ (r : Request). HasIt r.plan r.layout) (ok_is _ request layout.2) (has_it shape.layouts.now plan.0 layout.0 layout.1)

-- ---- questions

list_asks : (listing : Listing) (source : Source) (layout : Option Layout) (services : Bor (List Service)) → HasIt (Show listing source) layout → form_by (Show listing source) layout services ≡ Json → AsksForObjects (Show listing source)
list_asks listings.Rows source layout services has e = record { source = source; question = questions.Rows; is = refl; has = refl }
list_asks listings.Table source layout services has e = record { source = source; question = questions.Pmap; is = refl; has = refl }
list_asks listings.Statistics source layout services has e = record { source = source; question = questions.Stats; is = refl; has = refl }
list_asks listings.Summary source layout services has e = absurd cc
list_asks listings.Short source None services has e = absurd cc
list_asks listings.Short source (Some layouts.Names) services has e = absurd cc
list_asks listings.Short source (Some layouts.Json) services has e = absurd cc

none_asks : (plan : Plan) (layout : Option Layout) (services : Bor (List Service)) → HasIt plan layout → layout_form layout services ≡ Json → ((one : Layout) → has_layout plan one ≡ false) → AsksForObjects plan
none_asks plan None services has e none = absurd cc
none_asks plan (Some layout) services has e none = absurd (let never = none layout in cc)

plan_asks : (plan : Plan) (layout : Option Layout) (services : Bor (List Service)) → HasIt plan layout → form_by plan layout services ≡ Json → AsksForObjects plan
plan_asks (Show listing source) layout services has e = list_asks listing source layout services has e
plan_asks (Entries source prog vers) layout services has e = record { source = source; question = questions.Entries prog vers; is = refl; has = refl }
plan_asks (Ping means prog vers) layout services has e = none_asks (Ping means prog vers) layout services has e (λ one. refl)
plan_asks (Delete netid prog vers) layout services has e = none_asks (Delete netid prog vers) layout services has e (λ one. refl)
plan_asks (Broadcast prog vers) layout services has e = none_asks (Broadcast prog vers) layout services has e (λ one. refl)

pub objects_are_asked_for : ObjectsAreAskedFor
objects_are_asked_for shape request services read form = plan_asks request.plan request.layout services (has_layout_of shape request read) form

old_has : (question old : Question) (two : Bool) → has_objects question ≡ true → (if two then old_of question else None) ≡ Some old → has_objects old ≡ true
old_has questions.Rows old true has e = let is : questions.OldRows ≡ old = cc in rw (sym is) refl
old_has question old false has e = absurd cc
old_has question old true has e = absurd cc

pub old_has_objects : VersionTwoHasObjects
old_has_objects question old status has e = old_has question old (has_two status) has e

-- ---- texts

is_short : (text bytes : List ℕ) → bytes_of text ≡ Ok bytes → read_hex text ≡ Ok bytes
is_short text bytes e =
    elim (cases_lt longest_text (length text)) [
      | inl long ↦ absurd (let never = rw (lt-ltb longest_text (length text) long) at e in cc)
      | inr fits ↦ rw (le-ltb longest_text (length text) fits) at e
    ]

by_bytes : (ask : Ask) (text : List ℕ) (read : Result (List ℕ) InfoFault) → has_objects ask.question ≡ true → bytes_of text ≡ read → AllByRecursion IsObjectLine (told_lines (tell_read ask Json read))
by_bytes ask text (Ok bytes) has e =
    let all = decode_of-ok (digits_of text) bytes (was_ok (decode_of (digits_of text)) bytes (is_short text bytes e)) in
    each_is_an_object ask first_xid bytes has all.3
by_bytes ask text (Err fault) has e = tt

by_result : (ask : Ask) (text : List ℕ) (old new : Option (List ℕ)) (result : Result Shown InfoFault) → has_objects ask.question ≡ true → IsToldOr (tell_text ask Json text) old new result → result ≢ Err Write
    → WritesObjects old new
by_result ask text old new result has (inl outcome) whole = written (tell_text ask Json text) old new result (by_bytes ask text (bytes_of text) has refl) outcome whole
by_result ask text old new result has (inr unread) whole = record { lines = []; are = tt; written = nothing old new unread.1 }

pub texts_are_shown : TextsAreShownAsObjects
texts_are_shown ask text old new (Ok shown) has told whole = by_result ask text old new (Ok shown) has told (λ e. absurd cc)
texts_are_shown ask text old new (Err (Info fault)) has told whole = by_result ask text old new (Err fault) has told (λ e. whole (let same : fault ≡ Write = cc in rw same refl))
texts_are_shown ask text old new (Err NoConnection) has told whole = absurd told
texts_are_shown ask text old new (Err NoSocket) has told whole = absurd told
texts_are_shown ask text old new (Err NoReply) has told whole = absurd told
texts_are_shown ask text old new (Err NoHost) has told whole = absurd told
texts_are_shown ask text old new (Err (NoAddress family)) has told whole = absurd told
texts_are_shown ask text old new (Err (NotAvailable prog vers why)) has told whole = absurd told
texts_are_shown ask text old new (Err (NoProgram prog why)) has told whole = absurd told
texts_are_shown ask text old new (Err TooManyVersions) has told whole = absurd told
texts_are_shown ask text old new (Err TooManyRoutes) has told whole = absurd told
texts_are_shown ask text old new (Err SomeLack) has told whole = absurd told
