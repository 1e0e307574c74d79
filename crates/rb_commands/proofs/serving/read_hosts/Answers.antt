use Rattle.std.proofs.Common.{rules, ◌≡◌, [], ◌∷◌, ◌++◌, sym}
use Rattle.std.proofs.lemmas.Result.{err_from_is_err_and}
use Rattle.rb_commands.specs.Serving.{host_at}
use Rattle.rb_commands.proofs.Binds.{goes_on, stops, ends}
use Rattle.rb_commands.proofs.serving.read_hosts.Goals as goal

pub returns-in_err-host : goal.returns-in_err-host
returns-in_err-host c =
    let p = err_from_is_err_and c.from_residual.result c.from_residual.ensures.1 in
    rw (p.1, p.2) (sym (stops host_at c.loop-text.hosts c.in_err-host.field-0.0 c.loop-text.text-index c.args.texts.now _ _ c.loop-text-test.true c.len.result c.len.ensures c.in_err-host.ensures.host c.loop-text.invariant))

pub loop-text-preserved : goal.loop-text-preserved
loop-text-preserved c =
    let grown : c.push.new.self ≡ c.loop-text.hosts ++ c.in_ok-host.host ∷ [] = search rules in
    rw grown (goes_on host_at c.loop-text.hosts c.in_ok-host.host c.loop-text.text-index c.args.texts.now _ _ c.loop-text-test.true c.len.result c.len.ensures c.in_ok-host.ensures.host c.loop-text.invariant)

pub returns : goal.returns
returns c = sym (ends host_at c.loop-text.hosts c.loop-text.text-index c.args.texts.now _ c.loop-text-test.false c.loop-text.invariant)
