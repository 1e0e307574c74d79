-- Questions are requests of rb_arguments.
use Rattle.std.proofs.Common.{ℕ, zero, suc, ◌<◌, lit<, [], ◌∷◌, List, get_or, ◌++◌, append_assoc, Option, Some, None, refl, sym, append-nil, arith}
use Rattle.rb_xdr.specs.Xdr.{number, opaque, IsNumber, IsContent}
use Rattle.rb_arguments.specs.Arguments.{procedure_at}
use Rattle.rb_arguments.specs.Numbers.{is_void, is_mapping, is_rpcb, is_procedure, number_of}
use Rattle.rb_arguments.specs.Types.{IsMapping, mapping_spelling, IsRpcb, rpcb_spelling}
use Rattle.rb_arguments.specs.Grammar.{BeginsWith}
use Rattle.rb_show.specs.declared.ask.Question.TheVariants.{Rows, Short, OldRows, OldShort, Summary, OldSummary, Pmap, Entries, Stats, Port, Address, Null, Probe, Callit, Unset}
use Rattle.std.specs.List.{AllByRecursion}
use Rattle.rb_address.specs.Netids.{netid_text}
use Rattle.rb_address.specs.declared.netid.Netid.{Netid}
use Rattle.rb_address.specs.declared.netid.Netid.TheVariants.{Tcp, Udp, Tcp6, Udp6, Local}
use Rattle.rb_arguments.specs.Forwarded.{longest_forwarded}
use Rattle.rb_arguments.specs.Remote.{SpellsRemote}
use Rattle.rb_show.specs.Asks.{netid_text_of, rpcb_of, mapping_of, callit_arguments}
use Rattle.rb_show.specs.AskLaws.{remote_of, QuestionsAreRequests}

nothing : (limit : ℕ) → IsContent limit []
nothing limit = (omega arith, omega arith, λ i. omega arith)

small_at : (text : List ℕ) → AllByRecursion (λ b. b < 256) text → (i : ℕ) → get_or text i 0 < 256
small_at [] all i = omega arith
small_at (b ∷ text) all zero = all.0
small_at (b ∷ text) all (suc i) = small_at text all.1 i

netid_fits : (netid : Option Netid) → IsContent 32 (netid_text_of netid)
netid_fits None = nothing 32
netid_fits (Some Tcp) = (omega arith, omega arith, λ i. small_at (netid_text Tcp) (lit< tt, (lit< tt, (lit< tt, (tt)))) i)
netid_fits (Some Udp) = (omega arith, omega arith, λ i. small_at (netid_text Udp) (lit< tt, (lit< tt, (lit< tt, (tt)))) i)
netid_fits (Some Tcp6) = (omega arith, omega arith, λ i. small_at (netid_text Tcp6) (lit< tt, (lit< tt, (lit< tt, (lit< tt, (tt))))) i)
netid_fits (Some Udp6) = (omega arith, omega arith, λ i. small_at (netid_text Udp6) (lit< tt, (lit< tt, (lit< tt, (lit< tt, (tt))))) i)
netid_fits (Some Local) = (omega arith, omega arith, λ i. small_at (netid_text Local) (lit< tt, (lit< tt, (lit< tt, (lit< tt, (lit< tt, (tt)))))) i)

rpcb_fits : (netid : Option Netid) (prog vers : ℕ) → IsNumber prog → IsNumber vers → BeginsWith IsRpcb rpcb_spelling (rpcb_of netid prog vers) (rpcb_spelling (rpcb_of netid prog vers))
rpcb_fits netid prog vers p v = record {
  fits = record { prog = p; vers = v; netid = netid_fits netid; addr = nothing 128; owner = nothing 128 };
  rest = [];
  whole = sym (append-nil (rpcb_spelling (rpcb_of netid prog vers)));
}

mapping_fits : (prot prog vers : ℕ) → IsNumber prot → IsNumber prog → IsNumber vers → BeginsWith IsMapping mapping_spelling (mapping_of prot prog vers) (mapping_spelling (mapping_of prot prog vers))
mapping_fits prot prog vers t p v = record {
  fits = record { prog = p; vers = v; prot = t; port = omega arith };
  rest = [];
  whole = sym (append-nil (mapping_spelling (mapping_of prot prog vers)));
}

remote_fits : (prog vers : ℕ) → IsNumber prog → IsNumber vers → SpellsRemote (remote_of prog vers) (callit_arguments prog vers)
unfolding opaque number
remote_fits prog vers p v = record {
  prog = p;
  vers = v;
  proc = omega arith;
  args = nothing longest_forwarded;
  count = refl;
  rest = [];
  whole = append_assoc (number prog) (number vers) (number 0 ++ number 0);
}

pub are_requests : QuestionsAreRequests
unfolding is_void is_mapping is_rpcb is_procedure number_of procedure_at
are_requests Rows fit = (refl, tt)
are_requests Short fit = (refl, tt)
are_requests OldRows fit = (refl, tt)
are_requests OldShort fit = (refl, tt)
are_requests Summary fit = (refl, tt)
are_requests OldSummary fit = (refl, tt)
are_requests Pmap fit = (refl, tt)
are_requests (Entries prog vers) fit = (refl, rpcb_fits None prog vers fit.0 fit.1)
are_requests Stats fit = (refl, tt)
are_requests (Port prot prog vers) fit = (refl, mapping_fits prot prog vers fit.0 fit.1 fit.2)
are_requests (Address netid prog vers) fit = (refl, rpcb_fits (Some netid) prog vers fit.0 fit.1)
are_requests (Null prog vers) fit = tt
are_requests (Probe prog vers) fit = tt
are_requests (Callit prog vers) fit = (refl, remote_fits prog vers fit.0 fit.1)
are_requests (Unset netid prog vers) fit = (refl, rpcb_fits netid prog vers fit.0 fit.1)
