-- The line of one more host stands after those of the hosts before it.
use Rattle.std.proofs.Common.{◌≡◌, ◌<◌, ◌+◌, ◌++◌, ◌∙◌, ℕ, List, [], length, take, get_or, refl, sym, ap, append_assoc}
use Rattle.std.specs.Prelude.{codes, decimal}
use Rattle.std.specs.List.{flat_map}
use Rattle.std.proofs.lemmas.Grind.{put_two}
use Rattle.std.proofs.lemmas.List.{take_more, flat_map_more}
use Rattle.rb_address.specs.declared.host.Host.{Host}
use Rattle.rb_address.specs.declared.host.Host.TheVariants.{V4}
use Rattle.rb_address.specs.Peers.{bare_host_text}
use Rattle.rb_startup.specs.Starts.{host_line}
use Rattle.rb_startup.proofs.start.HostLinesDisplay.fmt.Goals as goal

one_more : (port : ℕ) (hosts : List Host) (i : ℕ) (d : Host) → i < length hosts
    → flat_map (host_line port) (take i hosts) ++ host_line port (get_or hosts i d) ≡ flat_map (host_line port) (take (i + 1) hosts)
one_more port hosts i d within =
    flat_map_more (host_line port) [] (take i hosts) (get_or hosts i d)
    ∙ ap (λ (hs : List Host). flat_map (host_line port) hs) (sym (take_more hosts i d within))

-- a line as its five parts are written
parts_are : (host port : List ℕ)
    → codes "rpcbind: listening on " ++ (host ++ (codes " port " ++ (port ++ codes "\n")))
    ≡ codes "rpcbind: listening on " ++ host ++ codes " port " ++ port ++ codes "\n"
parts_are host port = simp append_assoc

pub loop-host-preserved : goal.loop-host-preserved
loop-host-preserved g c = λ p.
    let so_far = c.loop-host.invariant p in
    let port = c.args.self.now.port in
    let hosts = c.args.self.now.hosts.now in
    let host : Host = get_or hosts c.loop-host.host-index (V4 []) in
    let before : List ℕ = flat_map (host_line port) (take c.loop-host.host-index hosts) in
    put_two _ _ _ _ _ _ _ so_far (c.in_ok-write.ensures.writes so_far.plain refl)
    (ap (λ (line : List ℕ). before ++ line) (parts_are (bare_host_text host) (decimal port)) ∙ one_more port hosts c.loop-host.host-index (V4 []) c.loop-host-test.true)
