use Rattle.std.proofs.Common.{◌≡◌, ℕ, false, cond, List, [], ◌∷◌, length, eqb, arith, sym, ◌∙◌, subst}
use Rattle.std.proofs.lemmas.Bool.{cond-false}
use Rattle.rb_lines.specs.Tapes.{Tape, Records}
use Rattle.rb_lines.proofs.Tapes.{records_more}
use Rattle.rb_engine.proofs.Reached.{off_records}
use Rattle.rb_engine.proofs.showing.record_exchange.Goals as goal

-- what is recorded of bytes that were given after the bytes that came, if some were
given_behind : (first given : List ℕ) (entries : List (List ℕ)) (old mid new : Tape) → eqb (length given) 0 ≡ false → Records (first ∷ []) old mid → Records entries mid new → Records (first ∷ cond (eqb (length given) 0) [] entries) old new
given_behind first given entries old mid new some one two =
    subst (λ (more : List (List ℕ)). Records (first ∷ more) old new) (sym (cond-false _ _ _ some)) (records_more (first ∷ []) entries old mid new one two)

pub returns-then-not-is_on : goal.returns-then-not-is_on
returns-then-not-is_on c = off_records _ c.args.tape.now (sym c.is_on.ensures ∙ c.if-not-is_on.true) c.requires.within

pub returns-then-not-is_empty : goal.returns-then-not-is_empty
returns-then-not-is_empty c =
    let some : eqb (length c.args.given.now) 0 ≡ false = grind (arith, c.is_empty.ensures, c.if-not-is_empty.true, c.if-not-is_empty.ensures) in
    given_behind _ c.args.given.now _ _ _ _ some (rw c.show_taken.ensures at c.«record».ensures) c.record_given.ensures
