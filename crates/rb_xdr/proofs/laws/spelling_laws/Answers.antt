use Rattle.std.proofs.Common.{ℕ, ◌≡◌, List, [], ◌++◌, length, drop, sym, ap, ◌∙◌, append-nil}
use Rattle.std.proofs.Math.Seq.{drop-length}
use Rattle.rb_xdr.proofs.Types.{prefix_free_from}
use Rattle.rb_xdr.proofs.laws.spelling_laws.Goals as goal

-- a text that is read whole is the spelling of its value
spelled : {A : Type 0} (spelling : A → List ℕ) (x : A) (text : List ℕ) → text ≡ spelling x ++ drop (length text) text → text ≡ spelling x
spelled spelling x text begins = begins ∙ ap (λ (rest : List ℕ). spelling x ++ rest) (drop-length text) ∙ append-nil (spelling x)

pub returns-clause-one_spelling : goal.returns-clause-one_spelling
returns-clause-one_spelling g c = λ x a b in_a in_b first second.
    let spelling = g.T.Xdr.spelling in
    spelled spelling x a (c.laws.ensures.sound a x _ in_a first).2 ∙ sym (spelled spelling x b (c.laws.ensures.sound b x _ in_b second).2)

pub returns-clause-no_proper_prefix : goal.returns-clause-no_proper_prefix
returns-clause-no_proper_prefix g c = λ a more v w first second.
    let free = prefix_free_from g.T.Xdr.is_value g.T.Xdr.spelling g.T.Xdr.reads c.laws.ensures.complete in
    (free v w more first.0 second.0 (ap (λ (s : List ℕ). s ++ more) (sym first.1) ∙ second.1)).1

pub returns-clause-one_value : goal.returns-clause-one_value
returns-clause-one_value g c = λ v w a first second.
    let free = prefix_free_from g.T.Xdr.is_value g.T.Xdr.spelling g.T.Xdr.reads c.laws.ensures.complete in
    (free v w [] first.0 second.0 (append-nil (g.T.Xdr.spelling v) ∙ sym first.1 ∙ second.1)).0
