use Rattle.std.proofs.Common.{◌≡◌, ◌++◌, ◌∷◌, [], ℕ, List, Bool, true, false, length, refl, sym, ap, ◌∙◌, subst, append-nil, rules}
use Rattle.std.proofs.lemmas.Result.{err_from_is_err_and}
use Rattle.rb_show.specs.declared.form.Form.{Form}
use Rattle.rb_show.specs.declared.show.Shown.{Shown}
use Rattle.rb_show.specs.declared.show.Shown.TheVariants as shown
use Rattle.rb_show.specs.Telling.{Teller, ◌>>=◌, give}
use Rattle.rb_arguments.specs.declared.rpcb.Rpcb.{Rpcb}
use Rattle.rb_show.specs.Fronts.{GoesOn, TakesOne, rest_items}
use Rattle.rb_show.specs.Summary.{items_summary}
use Rattle.rb_show.specs.Replies.{tell_items_summary}
use Rattle.rb_show.proofs.Fronts.{pauses_then, goes_then, gives_then, goes_at_once}
use Rattle.rb_show.proofs.telling.sum_up.Goals as goal

last : {A : Type 0} (form : Form) (stands_for : A → Rpcb) (teller : Teller (List A)) (bytes : List ℕ) (used : ℕ) (items : List A) → GoesOn teller bytes [] used (give items)
    → GoesOn (teller >>= λ items. tell_items_summary form stands_for items >>= λ _. give (shown.Rows (length items))) bytes (items_summary form stands_for items ∷ []) used (give (shown.Rows (length items)))
unfolding ◌>>=◌
last {A} form stands_for teller bytes used items goes =
    let next : List A → Teller Shown = λ (items : List A). tell_items_summary form stands_for items >>= λ _. give (shown.Rows (length items)) in
    goes_at_once (teller >>= next) bytes [] used (next items) (items_summary form stands_for items ∷ []) (give (shown.Rows (length items))) (gives_then teller next bytes [] used items goes) (λ end content. refl)

pub returns-in_err-more : goal.returns-in_err-more
returns-in_err-more g c =
    let p = err_from_is_err_and c.from_residual.result c.from_residual.ensures.1 in
    rw (p.1, p.2) (
      c.in_err-more.ensures.0,
      refl,
      pauses_then (rest_items g.T.Xdr.reads c.args.items.now.items)
          (λ (items : List g.row.T.Denot). tell_items_summary c.args.form g.T.AsRow.stands_for items >>= λ _. give (shown.Rows (length items))) c.args.bytes.now _ c.in_err-more.ensures.1,
    )

pub returns-then-more : goal.returns-then-more
returns-then-more g c =
    let is : c.in_ok-more.more ≡ true = search rules in
    let one : TakesOne g.T.Xdr.reads c.args.items.now.items c.take_next.new.items.items c.args.bytes.now true c.in_ok-more.used =
    subst (λ (b : Bool). TakesOne g.T.Xdr.reads c.args.items.now.items c.take_next.new.items.items c.args.bytes.now b c.in_ok-more.used) is c.in_ok-more.ensures in
    record {
      lines = [];
      some = one.some;
      within = one.within;
      text = sym (append-nil c.args.text.now.items);
      goes_on = goes_then (rest_items g.T.Xdr.reads c.args.items.now.items) (λ (items : List g.row.T.Denot). tell_items_summary c.args.form g.T.AsRow.stands_for items >>= λ _. give (shown.Rows (length items)))
          c.args.bytes.now [] c.in_ok-more.used (rest_items g.T.Xdr.reads c.take_next.new.items.items) one.goes_on;
    }

pub returns : goal.returns
returns g c =
    let is : c.in_ok-more.more ≡ false = search rules in
    let one : TakesOne g.T.Xdr.reads c.args.items.now.items c.take_next.new.items.items c.args.bytes.now false c.in_ok-more.used =
    subst (λ (b : Bool). TakesOne g.T.Xdr.reads c.args.items.now.items c.take_next.new.items.items c.args.bytes.now b c.in_ok-more.used) is c.in_ok-more.ensures in
    let line : List ℕ = items_summary c.args.form g.T.AsRow.stands_for c.take_next.new.items.items in
    let count : c.in-Ok.count ≡ length c.take_next.new.items.items = search rules in
    let added : c.add_lines.new.text.items ≡ c.args.text.now.items ++ line = search rules in
    rw count (record {
      lines = line ∷ [];
      some = one.some;
      within = one.within;
      text = added ∙ ap (λ (xs : List ℕ). c.args.text.now.items ++ xs) (sym (append-nil line));
      goes_on = last c.args.form g.T.AsRow.stands_for (rest_items g.T.Xdr.reads c.args.items.now.items) c.args.bytes.now c.in_ok-more.used c.take_next.new.items.items one.goes_on;
    })
