-- What waits until the changes of a turn are kept.
use Rattle.std.specs.Prelude.{◌≡◌, ℕ, List, [], ◌∷◌, ◌++◌, Option, Some}
use Rattle.rb_address.specs.declared.who.Source.{Source}
use Rattle.rb_model.specs.State.{State}
use Rattle.rb_core.specs.StandsFor.{StandsFor}
use Rattle.rb_arrivals.specs.Dispatches.{Dispatch, Hands}
use Rattle.rb_engine.specs.declared.engine.Engine.{Engine}

-- A reply to a datagram, the caller that gets it, and the number of the socket on which it goes out.
pub record Waiting : Type 0 where
  pub bytes : List ℕ
  pub to : Source
  pub socket : ℕ

abbrev pub waiting : ℕ → Source → List ℕ → Waiting
waiting socket to reply = record { bytes = reply; to = to; socket = socket }

abbrev pub dispatch_of : Waiting → Dispatch
dispatch_of w = Dispatch.Reply w.socket w.to w.bytes

-- something stands between that has both
pub record Between {S : Type 0} (first rest : S → Type 0) : Type 0 where
  pub mid : S
  pub before : first mid
  pub after : rest mid

-- Sockets were handed these replies, in their order, and nothing else.
-- KEEP-20: A reply to a datagram that waits until what changed is kept goes out as it is, to its caller, over the socket on
-- which the datagram came, after those that waited before it.
unfoldable pub HandsAll : {S : Type 0} → (S → Dispatch → S → Type 0) → List Waiting → S → S → Type 0
HandsAll sends [] old new = new ≡ old
HandsAll sends (w ∷ ws) old new = Between (λ mid. sends old (dispatch_of w) mid) (λ mid. HandsAll sends ws mid new)

-- A reply waits behind the others, or goes out after them.
-- KEEP-18
pub data PostsReply {S : Type 0} (sends : S → Dispatch → S → Type 0) (w : Waiting) (before after : List Waiting) (old new : S) : Type 0 where
  Waits : after ≡ before ++ w ∷ [] → new ≡ old → PostsReply sends w before after old new
  GoesOut : (mid : S) → HandsAll sends before old mid → sends mid (dispatch_of w) new → after ≡ [] → PostsReply sends w before after old new

-- What is done about a datagram: nothing more, or a forwarded call is handed on, and what waits stays; or a reply is posted.
pub data Posts {S : Type 0} (sends : S → Dispatch → S → Type 0) (datagram : Option Dispatch) (before after : List Waiting) (old new : S) : Type 0 where
  HandedOn : Hands sends datagram old new → after ≡ before → Posts sends datagram before after old new
  Posted : (w : Waiting) → datagram ≡ Some (dispatch_of w) → PostsReply sends w before after old new → Posts sends datagram before after old new

-- So it is in each state that the core stood for.
abbrev pub PostsNow : {S : Type 0} → (S → Dispatch → S → Type 0) → (State → ℕ → Option Dispatch) → Engine → List Waiting → List Waiting → S → S → Type 0
PostsNow sends datagram engine before after old new = (s : State) → StandsFor engine.core.core s → Posts sends (datagram s engine.moment) before after old new
