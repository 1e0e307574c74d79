use Rattle.std.proofs.Common.{◌*◌, ◌-◌, Bool, not, leb, length, sym, ap, ◌∙◌}
use Rattle.std.specs.Prelude.{◌&&◌}
use Rattle.std.proofs.lemmas.Bool.{le-ltb, lt-ltb, lt-leb}
use Rattle.rb_rpc.proofs.SysBodies.{gids_there, no_gids}
use Rattle.rb_rpc.proofs.sys.has_gids.Goals as goal

pub returns-then-count-le-MAX_GIDS : goal.returns-then-count-le-MAX_GIDS
returns-then-count-le-MAX_GIDS c =
    sym (gids_there c.args.bytes.now c.in-Ok.count c.in-Ok.used c.in-Ok.ensures.found.0 c.in-Ok.ensures.exact
    ∙ ap (λ (b : Bool). not b && leb (4 * c.in-Ok.count) (length c.args.bytes.now - c.in-Ok.used)) (le-ltb 16 c.in-Ok.count c.if-count-le-MAX_GIDS.true))

pub returns-else-count-le-MAX_GIDS : goal.returns-else-count-le-MAX_GIDS
returns-else-count-le-MAX_GIDS c =
    lt-leb c.in-Ok.count 16 c.if-count-le-MAX_GIDS.false
    ∙ sym (gids_there c.args.bytes.now c.in-Ok.count c.in-Ok.used c.in-Ok.ensures.found.0 c.in-Ok.ensures.exact
    ∙ ap (λ (b : Bool). not b && leb (4 * c.in-Ok.count) (length c.args.bytes.now - c.in-Ok.used)) (lt-ltb 16 c.in-Ok.count c.if-count-le-MAX_GIDS.false))

pub returns-in-Err : goal.returns-in-Err
returns-in-Err c = sym (no_gids c.args.bytes.now _ c.in-Err.ensures.exact)
