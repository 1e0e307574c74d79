use Rattle.std.proofs.Common.{◌∙◌, ap}
use Rattle.rb_sockets.specs.declared.calls.CallSocket.{CallSocket}
use Rattle.rb_sockets.specs.Room.{free_door, put_in}
use Rattle.rb_sockets.specs.Watching.{unserved}
use Rattle.rb_sockets.proofs.sockets.Sockets.listen.Goals as goal

pub returns-clause-calls : goal.returns-clause-calls
returns-clause-calls g c = (
  c.register.new.self,
  record {
    bound = ap (λ (s : CallSocket). s.bound) c.register.ensures.kept ∙ c.in_ok-calls.ensures.bound;
    beliefs_are = ap (λ (s : CallSocket). s.beliefs) c.register.ensures.kept ∙ c.in_ok-calls.ensures.beliefs_are;
    open_is = c.register.ensures.open ∙ c.in_ok-calls.ensures.open_is;
  },
  c.in_ok-put_at.ensures ∙ ap (λ p. put_in p (unserved c.register.new.self) c.args.self.now.calls.all.items) c.free_place-place.ensures,
)

pub returns-clause-listener : goal.returns-clause-listener
returns-clause-listener g c = (
  c.register-2.new.self,
  c.register-2.ensures ∙ c.in_ok-listener.ensures,
  c.in_ok-put_at-2.ensures ∙ ap (λ p. put_in p (unserved c.register-2.new.self) c.args.self.now.listeners.items) (c.free_door-door.ensures ∙ ap free_door c.deref.ensures.value),
)
