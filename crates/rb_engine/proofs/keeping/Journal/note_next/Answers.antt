use Rattle.std.proofs.lemmas.Bool.{ltb-true, ne_eqb}
use Rattle.rb_engine.proofs.keeping.Journal.note_next.Goals as goal

pub returns-in-Ok-clause-lines : goal.returns-in-Ok-clause-lines
returns-in-Ok-clause-lines g c = λ some.
    rw (← c.make_room.ensures.text, ← c.make_room.ensures.owners)
    (record { prog = c.in-Some.prog; vers = c.in-Some.vers; other = ne_eqb _ _ c.if-prog-eq-RPCB_PROG.false; some = rw (← c.as_slice-before.ensures.value, ← c.as_slice.ensures.value) (ltb-true _ _ some); lines = c.in-Ok.ensures.lines; owned = c.in-Ok.ensures.owners })
