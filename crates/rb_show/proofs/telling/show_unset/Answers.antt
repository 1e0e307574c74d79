use Rattle.std.proofs.Common.{◌≡◌, ◌++◌, ◌∷◌, [], List, ℕ, refl, sym, ap, ◌∙◌, append-nil, inl, rules}
use Rattle.std.proofs.lemmas.Result.{err_from_is_err_and}
use Rattle.rb_xdr.specs.Xdr.{read_bool}
use Rattle.rb_show.specs.declared.show.Shown.TheVariants.{Removed}
use Rattle.rb_show.specs.Telling.{◌>>=◌, take_one, give}
use Rattle.rb_show.specs.Replies.{removed_line, tell_removed, tell_unset}
use Rattle.rb_show.proofs.Fronts.{pauses_then, gives_then, goes_at_once}
use Rattle.rb_show.proofs.telling.show_unset.Goals as goal

pub returns-in_err-removed : goal.returns-in_err-removed
unfolding tell_unset
returns-in_err-removed c = λ form rows mappings.
    let p = err_from_is_err_and c.from_residual.result c.from_residual.ensures.1 in
    rw (p.1, p.2) (refl, pauses_then (take_one read_bool) tell_removed c.args.bytes.now _ c.in_err-removed.ensures.takes)

pub returns-in_err-add_lines : goal.returns-in_err-add_lines
returns-in_err-add_lines c = λ form rows mappings.
    let p = err_from_is_err_and c.from_residual-in_err-add_lines.result c.from_residual-in_err-add_lines.ensures.1 in
    rw (p.1, p.2, c.in_err-add_lines.ensures.1) (c.in_err-add_lines.ensures.0, inl refl)

pub returns : goal.returns
unfolding tell_unset tell_removed ◌>>=◌
returns c = λ form rows mappings.
    let line : List ℕ = removed_line c.in_ok-removed.removed in
    let added : c.add_lines.new.text.items ≡ c.args.text.now.items ++ line = search rules in
    record {
      lines = line ∷ [];
      some = c.in_ok-removed.ensures.some;
      within = c.in_ok-removed.ensures.takes.within;
      text = added ∙ ap (λ (xs : List ℕ). c.args.text.now.items ++ xs) (sym (append-nil line));
      goes_on = goes_at_once tell_unset c.args.bytes.now [] c.in_ok-removed.used (tell_removed c.in_ok-removed.removed) (line ∷ []) (give (Removed c.in_ok-removed.removed))
          (gives_then (take_one read_bool) tell_removed c.args.bytes.now [] c.in_ok-removed.used c.in_ok-removed.removed c.in_ok-removed.ensures.takes.goes_on) (λ end content. refl);
    }
