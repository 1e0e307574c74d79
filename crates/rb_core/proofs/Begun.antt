-- A state does not know when the last event of a core began.
use Rattle.std.proofs.Common.{◌≡◌, ℕ, sym, ap, subst, ◌∙◌}
use Rattle.rb_xdr.specs.Meter.{Meter}
use Rattle.rb_model.specs.State.{State}
use Rattle.rb_connections.specs.Slots.{Acts}
use Rattle.rb_core.specs.StandsFor.{CoreView, StandsFor}
use Rattle.rb_core.specs.Events.{count_shown, BeginsAt}

-- what is held once an event began as the meter showed this
abbrev pub with_steps_before : CoreView → ℕ → CoreView
with_steps_before held n = record held { steps_before = n }

pub still_stands : (held : CoreView) (n : ℕ) (s : State) → StandsFor held s → StandsFor (with_steps_before held n) s
still_stands held n s h = record {
  setting = h.setting;
  clock = h.clock;
  conns = h.conns;
  connections = h.connections;
  within = h.within;
  limit = h.limit;
  ledger = h.ledger;
  forwards = h.forwards;
  first_xid = h.first_xid;
  reply = h.reply;
  short = h.short;
  arguments = h.arguments;
}

-- the event that began so, of a core by its other name
pub acts_begun : {A : Type 0} (act : State → A × State) (view now new : CoreView) (n : ℕ) (x : A) → view ≡ now → Acts StandsFor act (with_steps_before view n) new x → Acts StandsFor act now new x
acts_begun act view now new n x is acts =
    subst (λ (held : CoreView). Acts StandsFor act held new x) is (record { gives = λ s h. acts.gives s (still_stands view n s h); stands = λ s h. acts.stands s (still_stands view n s h) })

-- what it shows, of a core by its other name
pub shows_begun : {A : Type 0} (show : State → A) (view now : CoreView) (n : ℕ) (x : A) → view ≡ now → ((s : State) → StandsFor (with_steps_before view n) s → x ≡ show s) → (s : State) → StandsFor now s → x ≡ show s
shows_begun show view now n x is shows = subst (λ (held : CoreView). (s : State) → StandsFor held s → x ≡ show s) is (λ s h. shows s (still_stands view n s h))

-- that event alone, of a core by its other name
pub begins_at : (view now : CoreView) (n : ℕ) (before : Meter) → view ≡ now → n ≡ count_shown before → BeginsAt before now (with_steps_before view n)
begins_at view now n before is count = ap (λ (held : CoreView). with_steps_before held n) is ∙ ap (with_steps_before now) count

-- what is held after it stands for the same states
pub stands_begun : (old new : CoreView) (n : ℕ) → new ≡ with_steps_before old n → (s : State) → StandsFor old s → StandsFor new s
stands_begun old new n is s h = subst (λ (held : CoreView). StandsFor held s) (sym is) (still_stands old n s h)

pub same_tie : (old new : CoreView) (n : ℕ) → new ≡ with_steps_before old n → new.tie ≡ old.tie
same_tie old new n is = ap (λ (held : CoreView). held.tie) is
