use Rattle.std.proofs.Common.{◌≡◌, ◌+◌, ◌-◌, ◌++◌, ◌∷◌, [], List, ℕ, Bool, true, false, Option, Some, None, refl, sym, ap, ◌∙◌, subst, append-nil, arith, rules}
use Rattle.std.proofs.lemmas.Result.{err_from_is_err_and}
use Rattle.rb_xdr.specs.Xdr.{read_bool}
use Rattle.rb_xdr.specs.XdrTypes.{read_optional}
use Rattle.rb_show.specs.Telling.{take_one}
use Rattle.rb_show.specs.Fronts.{Takes}
use Rattle.rb_show.proofs.Items.{line_pause, line_none, line_some, last_pause, last_none, last_more}
use Rattle.rb_show.proofs.list.next_item.Goals as goal

pub returns-in_err-more : goal.returns-in_err-more
returns-in_err-more g c =
    let p = err_from_is_err_and c.from_residual.result c.from_residual.ensures.1 in
    rw (p.1, p.2) (refl, last_pause g.T.Xdr.reads c.args.bytes.now (g.S.Style.text c.args.style.now) (4096 - c.args.shown) c.args.shown (omega arith) _ c.in_err-more.ensures.takes)

pub returns-then-more : goal.returns-then-more
returns-then-more g c =
    let is : c.in_ok-more.more ≡ true = search rules in
    let takes : Takes (take_one read_bool) c.args.bytes.now true c.in_ok-more.used = subst (λ (b : Bool). Takes (take_one read_bool) c.args.bytes.now b c.in_ok-more.used) is c.in_ok-more.ensures.takes in
    (refl, last_more g.T.Xdr.reads c.args.bytes.now (g.S.Style.text c.args.style.now) (4096 - c.args.shown) c.args.shown (omega arith) c.in_ok-more.used takes)

pub returns-else-more : goal.returns-else-more
returns-else-more g c =
    let is : c.in_ok-more.more ≡ false = search rules in
    let takes : Takes (take_one read_bool) c.args.bytes.now false c.in_ok-more.used = subst (λ (b : Bool). Takes (take_one read_bool) c.args.bytes.now b c.in_ok-more.used) is c.in_ok-more.ensures.takes in
    record {
      lines = [];
      some = c.in_ok-more.ensures.some;
      within = takes.within;
      text = sym (append-nil c.args.text.now.items);
      goes_on = last_none g.T.Xdr.reads c.args.bytes.now (g.S.Style.text c.args.style.now) (4096 - c.args.shown) c.args.shown (omega arith) c.in_ok-more.used takes;
    }

pub returns-in_err-next : goal.returns-in_err-next
returns-in_err-next g c =
    let p = err_from_is_err_and c.from_residual-in_err-next.result c.from_residual-in_err-next.ensures.1 in
    rw (p.1, p.2) (refl, line_pause g.T.Xdr.reads c.args.bytes.now (g.S.Style.text c.args.style.now) (4096 - c.args.shown) (4096 - (c.args.shown + 1)) c.args.shown (omega arith) _ c.in_err-next.ensures.takes)

pub returns-in-None : goal.returns-in-None
returns-in-None g c =
    let is : c.in_ok-next.next ≡ None = search rules in
    let takes : Takes (take_one (read_optional g.T.Xdr.reads)) c.args.bytes.now None c.in_ok-next.used = subst (λ (item : Option g.row.T.Denot). Takes (take_one (read_optional g.T.Xdr.reads)) c.args.bytes.now item c.in_ok-next.used) is c.in_ok-next.ensures.takes in
    record {
      lines = [];
      some = c.in_ok-next.ensures.some;
      within = takes.within;
      text = sym (append-nil c.args.text.now.items);
      goes_on = line_none g.T.Xdr.reads c.args.bytes.now (g.S.Style.text c.args.style.now) (4096 - c.args.shown) (4096 - (c.args.shown + 1)) c.args.shown (omega arith) c.in_ok-next.used takes;
    }

pub returns-in_ok-add_lines-in-Some : goal.returns-in_ok-add_lines-in-Some
returns-in_ok-add_lines-in-Some g c =
    let is : c.in_ok-next.next ≡ Some c.in-Some.item = search rules in
    let takes : Takes (take_one (read_optional g.T.Xdr.reads)) c.args.bytes.now (Some c.in-Some.item) c.in_ok-next.used = subst (λ (item : Option g.row.T.Denot). Takes (take_one (read_optional g.T.Xdr.reads)) c.args.bytes.now item c.in_ok-next.used) is c.in_ok-next.ensures.takes in
    let line : List ℕ = g.S.Style.text c.args.style.now c.in-Some.item in
    let added : c.add_lines.new.text.items ≡ c.args.text.now.items ++ line = search rules in
    record {
      lines = line ∷ [];
      some = c.in_ok-next.ensures.some;
      within = takes.within;
      text = added ∙ ap (λ (xs : List ℕ). c.args.text.now.items ++ xs) (sym (append-nil line));
      goes_on = line_some g.T.Xdr.reads c.args.bytes.now (g.S.Style.text c.args.style.now) (4096 - c.args.shown) (4096 - (c.args.shown + 1)) c.args.shown (omega arith) c.in-Some.item c.in_ok-next.used takes;
    }
