-- A socket that a turn calls no more.
use Rattle.std.specs.Prelude.{slice_get}
use Rattle.std.proofs.Common.{◌≡◌, ◌<◌, ◌≤◌, ℕ, false, List, Some, length, set, sym, ap, subst, ◌∙◌, arith}
use Rattle.std.proofs.lemmas.List.{length-set, get_or-set_same}
use Rattle.std.proofs.lemmas.Option.{slice_get_within, get_or_from_slice_get}
use Rattle.rb_policy.specs.declared.turns.Again.{Again}
use Rattle.rb_sockets.specs.declared.watched.Watched.{Watched}
use Rattle.rb_sockets.specs.Leaving.{IsServedNextAt}

-- the one that is written there is the one that is found
pub written : {X : Type 0} (xs : List X) (k : ℕ) (x y : X) → slice_get (set xs k x) k ≡ Some y → y ≡ x
written xs k x y at =
    sym (get_or_from_slice_get (set xs k x) k y x at)
    ∙ get_or-set_same xs k x x (subst (λ (n : ℕ). k < n) (length-set xs k x) (slice_get_within (set xs k x) k y at))

pub left_here : {S : Type 0} (sockets : List (Watched S)) (number : ℕ) (socket : Watched S) (again : Again) → socket.again ≡ again → socket.is_shown ≡ false → IsServedNextAt number again (set sockets number socket)
left_here {S} sockets number socket again next shown = λ one at.
    let same = written sockets number socket one at in
    record {
      again_is = ap (λ (w : Watched S). w.again) same ∙ next;
      shown = ap (λ (w : Watched S). w.is_shown) same ∙ shown;
    }

pub none_here : {S : Type 0} (sockets : List (Watched S)) (number : ℕ) (again : Again) → length sockets ≤ number → IsServedNextAt number again sockets
none_here sockets number again past = λ one at. absurd (omega (arith, past, slice_get_within sockets number one at))
