-- What an event of a run gives.
use Rattle.std.proofs.Common.{◌≡◌, ℕ, List, Option, Some, None, Result, Ok, Err, refl, ap, ◌∙◌}
use Rattle.rb_model.specs.declared.types.CoreFault.{CoreFault}
use Rattle.rb_model.specs.State.{State}
use Rattle.rb_model.specs.declared.types.Told.{Told}
use Rattle.rb_model.specs.declared.types.Expired.{Expired}
use Rattle.rb_model.specs.declared.types.Expired.TheVariants.{Ended}
use Rattle.rb_model.specs.declared.types.Expired.TheVariants as expiries
use Rattle.rb_model.specs.Step.{Output, output_or, show_told, show_end, show_expired}
use Rattle.rb_model.specs.Step.Output.{Refused, Ignored, Nothing, ConnectionLost}
use Rattle.rb_connections.specs.Slots.{Acts}
use Rattle.rb_core.specs.StandsFor.{CoreView, StandsFor}

module _ {A : Type 0} (show : A → Output) (act : State → Result A CoreFault × State) (old new : CoreView) where
  abbrev ok : A → Result A CoreFault
  ok x = Ok x

  abbrev err : CoreFault → Result A CoreFault
  err f = Err f

  ok_is : (x y : A) → ok x ≡ ok y → x ≡ y
  ok_is x y e = cc

  err_is : (f g : CoreFault) → err f ≡ err g → f ≡ g
  err_is f g e = cc

  pub done : (x : A) → Acts StandsFor act old new (Ok x) → (s : State) → StandsFor old s → (show x ≡ (output_or show (act s)).0) × StandsFor new (output_or show (act s)).1
  done x acts s h = by_result (act s) (acts.gives s h) (acts.stands s h)
    where
      by_result : (r : Result A CoreFault × State) → Ok x ≡ r.0 → StandsFor new r.1 → (show x ≡ (output_or show r).0) × StandsFor new (output_or show r).1
      by_result (Ok y, t) e z = (ap show (ok_is x y e), z)
      by_result (Err f, t) e z = absurd cc

  pub refused : (f : CoreFault) → Acts StandsFor act old new (Err f) → (s : State) → StandsFor old s → (Refused f ≡ (output_or show (act s)).0) × StandsFor new (output_or show (act s)).1
  refused f acts s h = by_result (act s) (acts.gives s h) (acts.stands s h)
    where
      by_result : (r : Result A CoreFault × State) → Err f ≡ r.0 → StandsFor new r.1 → (Refused f ≡ (output_or show r).0) × StandsFor new (output_or show r).1
      by_result (Ok y, t) e z = absurd cc
      by_result (Err g, t) e z = (ap Refused (err_is f g e), z)

-- an entry ended, and its caller is told
module _ (act : State → Option Told × State) (old new : CoreView) where
  pub end_shown : (told : Told) (out : Output) → Acts StandsFor act old new (Some told) → out ≡ show_told new.reply told → (s : State) → StandsFor old s → (out ≡ (show_end (act s)).0) × StandsFor new (show_end (act s)).1
  end_shown told out acts is s h = by_result (act s) (acts.gives s h) (acts.stands s h)
    where
      by_result : (r : Option Told × State) → Some told ≡ r.0 → StandsFor new r.1 → (out ≡ (show_end r).0) × StandsFor new (show_end r).1
      by_result (None, t) e z = absurd cc
      by_result (Some other, t) e z =
          let same : told ≡ other = cc in
          (is ∙ ap (λ (reply : List ℕ). show_told reply told) z.reply ∙ ap (show_told t.reply) same, z)

  pub none_shown : Acts StandsFor act old new None → (s : State) → StandsFor old s → (Ignored ≡ (show_end (act s)).0) × StandsFor new (show_end (act s)).1
  none_shown acts s h = by_result (act s) (acts.gives s h) (acts.stands s h)
    where
      by_result : (r : Option Told × State) → None ≡ r.0 → StandsFor new r.1 → (Ignored ≡ (show_end r).0) × StandsFor new (show_end r).1
      by_result (None, t) e z = (refl, z)
      by_result (Some other, t) e z = absurd cc

module _ (act : State → Expired × State) (old new : CoreView) where
  pub expired_shown : (told : Told) (out : Output) → Acts StandsFor act old new (Ended told) → out ≡ show_told new.reply told → (s : State) → StandsFor old s → (out ≡ (show_expired (act s)).0) × StandsFor new (show_expired (act s)).1
  expired_shown told out acts is s h = by_result (act s) (acts.gives s h) (acts.stands s h)
    where
      by_result : (r : Expired × State) → Ended told ≡ r.0 → StandsFor new r.1 → (out ≡ (show_expired r).0) × StandsFor new (show_expired r).1
      by_result (expiries.Nothing, t) e z = absurd cc
      by_result (expiries.ConnectionLost id, t) e z = absurd cc
      by_result (Ended other, t) e z =
          let same : told ≡ other = cc in
          (is ∙ ap (λ (reply : List ℕ). show_told reply told) z.reply ∙ ap (show_told t.reply) same, z)

  pub nothing_shown : Acts StandsFor act old new expiries.Nothing → (s : State) → StandsFor old s → (Nothing ≡ (show_expired (act s)).0) × StandsFor new (show_expired (act s)).1
  nothing_shown acts s h = by_result (act s) (acts.gives s h) (acts.stands s h)
    where
      by_result : (r : Expired × State) → expiries.Nothing ≡ r.0 → StandsFor new r.1 → (Nothing ≡ (show_expired r).0) × StandsFor new (show_expired r).1
      by_result (expiries.Nothing, t) e z = (refl, z)
      by_result (Ended other, t) e z = absurd cc
      by_result (expiries.ConnectionLost id, t) e z = absurd cc

  pub closed_shown : (id : ℕ) → Acts StandsFor act old new (expiries.ConnectionLost id) → (s : State) → StandsFor old s → (ConnectionLost id ≡ (show_expired (act s)).0) × StandsFor new (show_expired (act s)).1
  closed_shown id acts s h = by_result (act s) (acts.gives s h) (acts.stands s h)
    where
      closes : (number : ℕ) → expiries.ConnectionLost id ≡ expiries.ConnectionLost number → id ≡ number
      closes number e = cc

      by_result : (r : Expired × State) → expiries.ConnectionLost id ≡ r.0 → StandsFor new r.1 → (ConnectionLost id ≡ (show_expired r).0) × StandsFor new (show_expired r).1
      by_result (expiries.ConnectionLost number, t) e z = (ap ConnectionLost (closes number e), z)
      by_result (expiries.Nothing, t) e z = absurd cc
      by_result (Ended other, t) e z = absurd cc
