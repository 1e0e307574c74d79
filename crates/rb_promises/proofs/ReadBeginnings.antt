-- Which values of the options of `replay` give which beginning.
use Rattle.std.proofs.Common.{◌≡◌, ◌<◌, ◌-◌, ◌^◌, ℕ, List, length, Ok, refl, sym, ap, subst, lit<, arith}
use Rattle.rb_address.specs.Reading.{number_below}
use Rattle.rb_model.specs.declared.types.Limits.{Limits}
use Rattle.rb_lines.specs.declared.beginning.Beginning.{Beginning}
use Rattle.rb_commands.specs.declared.options.ReplayTexts.{ReplayTexts}
use Rattle.rb_commands.specs.declared.options.Valued.{Valued}
use Rattle.rb_commands.specs.declared.options.Valued.TheVariants.{Conns, Rows, Forwards, UdpLists, ReplayForwardFor, Port, Xid, Now}
use Rattle.rb_commands.specs.Options.{value_of, announced_of, local_address, limits_of, port, udp_lists, forwarding_of, reserved_from, beginning_of}
use Rattle.rb_promises.specs.WordForms.{SpellsWithin}
use Rattle.rb_promises.specs.OptionTexts.{SpellsLong}
use Rattle.rb_promises.specs.ReplayOptions.{IsBeginning, BeginningsAreSpelled}
use Rattle.rb_promises.proofs.ReservedValues.{reserved_are, reserved_read, all_from_start}
use Rattle.rb_promises.proofs.OptionValues.{bound, followed, same_Ok, valued, below_is, below_of, port_is, port_of, announced_is, announced_read, local_is, local_of, lists_is, lists_of, whom_is, whom_of}

pub number_is : (limit : ℕ) (option : Valued) (text : List ℕ) (n : ℕ) → 0 < limit → value_of option (number_below limit text) ≡ Ok n → SpellsWithin 0 (limit - 1) n text
number_is limit option text n some h = below_is limit n text some (valued option (number_below limit text) n h)

pub number_of : (limit : ℕ) (option : Valued) (text : List ℕ) (n : ℕ) → 0 < limit → SpellsWithin 0 (limit - 1) n text → value_of option (number_below limit text) ≡ Ok n
number_of limit option text n some s = ap (value_of option) (below_of limit n text some s)

pub record AreLimits (conns rows forwards : List ℕ) (limits : Limits) : Type 0 where
  pub conns_are : SpellsLong limits.conns conns
  pub rows_are : SpellsLong limits.rows rows
  pub forwards_are : SpellsLong limits.forwards forwards

pub limits_are : (conns rows forwards : List ℕ) (limits : Limits) → limits_of conns rows forwards ≡ Ok limits → AreLimits conns rows forwards limits
limits_are conns rows forwards limits h =
    let (most_conns, read1, rest1) = bound (value_of Conns (number_below (2 ^ 64) conns)) _ limits h in
    let (most_rows, read2, rest2) = bound (value_of Rows (number_below (2 ^ 64) rows)) _ limits rest1 in
    let (most_forwards, read3, made) = bound (value_of Forwards (number_below (2 ^ 64) forwards)) _ limits rest2 in
    subst (AreLimits conns rows forwards) (same_Ok _ _ made) (record {
      conns_are = number_is (2 ^ 64) Conns conns most_conns (lit< tt) read1;
      rows_are = number_is (2 ^ 64) Rows rows most_rows (lit< tt) read2;
      forwards_are = number_is (2 ^ 64) Forwards forwards most_forwards (lit< tt) read3;
    })

pub limits_read : (conns rows forwards : List ℕ) (limits : Limits) → AreLimits conns rows forwards limits → limits_of conns rows forwards ≡ Ok limits
limits_read conns rows forwards limits a =
    followed (value_of Conns (number_below (2 ^ 64) conns)) _ limits.conns limits (number_of (2 ^ 64) Conns conns limits.conns (lit< tt) a.conns_are)
    (followed (value_of Rows (number_below (2 ^ 64) rows)) _ limits.rows limits (number_of (2 ^ 64) Rows rows limits.rows (lit< tt) a.rows_are)
    (followed (value_of Forwards (number_below (2 ^ 64) forwards)) _ limits.forwards limits (number_of (2 ^ 64) Forwards forwards limits.forwards (lit< tt) a.forwards_are) refl))

beginning_is : (texts : ReplayTexts) (beginning : Beginning) → beginning_of texts ≡ Ok beginning → IsBeginning texts beginning
beginning_is texts beginning h =
    let (announced, read1, rest1) = bound (announced_of texts.announce.now) _ beginning h in
    let (path, read2, rest2) = bound (local_address texts.local) _ beginning rest1 in
    let (limits, read3, rest3) = bound (limits_of texts.conns.now texts.rows.now texts.forwards.now) _ beginning rest2 in
    let (listens, read4, rest4) = bound (value_of Port (port texts.port.now)) _ beginning rest3 in
    let (xid, read5, rest5) = bound (value_of Xid (number_below (2 ^ 32) texts.xid.now)) _ beginning rest4 in
    let (moment, read6, rest6) = bound (value_of Now (number_below (2 ^ 64) texts.moment.now)) _ beginning rest5 in
    let (lists, read7, rest7) = bound (value_of UdpLists (udp_lists texts.udp_lists.now)) _ beginning rest6 in
    let (whom, read8, rest8) = bound (value_of ReplayForwardFor (forwarding_of texts.forward_for.now)) _ beginning rest7 in
    let (owned, read9, made) = bound (reserved_from 0 texts.reserve.now) _ beginning rest8 in
    let reserved = reserved_are texts.reserve.now owned read9 in
    let limits_are = limits_are texts.conns.now texts.rows.now texts.forwards.now limits read3 in
    subst (IsBeginning texts) (same_Ok _ _ made) (record {
      announce = announced_is texts.announce.now announced read1;
      local = local_is texts.local path read2;
      conns = limits_are.conns_are;
      rows = limits_are.rows_are;
      forwards = limits_are.forwards_are;
      port = port_is texts.port.now listens (valued Port (port texts.port.now) listens read4);
      xid = number_is (2 ^ 32) Xid texts.xid.now xid (lit< tt) read5;
      moment = number_is (2 ^ 64) Now texts.moment.now moment (lit< tt) read6;
      udp_lists = lists_is texts.udp_lists.now lists (valued UdpLists (udp_lists texts.udp_lists.now) lists read7);
      forward_for = whom_is texts.forward_for.now whom (valued ReplayForwardFor (forwarding_of texts.forward_for.now) whom read8);
      reserve = reserved.each;
      few_reserved = all_from_start (length texts.reserve.now) reserved.few;
      steps = refl;
    })

beginning_read : (texts : ReplayTexts) (beginning : Beginning) → IsBeginning texts beginning → beginning_of texts ≡ Ok beginning
beginning_read texts beginning b =
    let listener = beginning.listener in
    let limits : AreLimits texts.conns.now texts.rows.now texts.forwards.now beginning.limits = record { conns_are = b.conns; rows_are = b.rows; forwards_are = b.forwards } in
    followed (announced_of texts.announce.now) _ listener.announced beginning (announced_read texts.announce.now listener.announced b.announce)
    (followed (local_address texts.local) _ listener.local beginning (local_of texts.local listener.local b.local)
    (followed (limits_of texts.conns.now texts.rows.now texts.forwards.now) _ beginning.limits beginning (limits_read texts.conns.now texts.rows.now texts.forwards.now beginning.limits limits)
    (followed (value_of Port (port texts.port.now)) _ listener.port beginning (ap (value_of Port) (port_of texts.port.now listener.port b.port))
    (followed (value_of Xid (number_below (2 ^ 32) texts.xid.now)) _ beginning.first_xid beginning (number_of (2 ^ 32) Xid texts.xid.now beginning.first_xid (lit< tt) b.xid)
    (followed (value_of Now (number_below (2 ^ 64) texts.moment.now)) _ beginning.moment beginning (number_of (2 ^ 64) Now texts.moment.now beginning.moment (lit< tt) b.moment)
    (followed (value_of UdpLists (udp_lists texts.udp_lists.now)) _ listener.terms.long_replies beginning (ap (value_of UdpLists) (lists_of texts.udp_lists.now listener.terms.long_replies b.udp_lists))
    (followed (value_of ReplayForwardFor (forwarding_of texts.forward_for.now)) _ listener.terms.forwarding beginning (ap (value_of ReplayForwardFor) (whom_of texts.forward_for.now listener.terms.forwarding b.forward_for))
    (followed (reserved_from 0 texts.reserve.now) _ listener.reserved beginning (reserved_read texts.reserve.now listener.reserved (record { each = b.reserve; few = let few = b.few_reserved in omega (arith, few) }))
    (ap (λ (steps : _). Ok (record beginning { steps = steps })) (sym b.steps))))))))))

pub beginnings_are_spelled : BeginningsAreSpelled
beginnings_are_spelled texts beginning = (beginning_is texts beginning, beginning_read texts beginning)
