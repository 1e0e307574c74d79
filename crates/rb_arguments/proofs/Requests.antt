-- Requests are read exactly if their arguments are spelled.
use Rattle.std.proofs.Common.{◌≡◌, ℕ, List, drop, Option, Some, None, Ok, Err, refl, ap, subst, ◌∙◌}
use Rattle.std.specs.Prelude.{option_map, option_and_then}
use Rattle.std.proofs.lemmas.Option.{none-some, same_Some}
use Rattle.rb_xdr.specs.Xdr.{Reader, Reading, IsContent, AreBytes, opaque, read_opaque}
use Rattle.rb_xdr.specs.XdrLaws.{IsSound, IsComplete}
use Rattle.rb_xdr.proofs.Readers.{opaque_sound, opaque_complete}
use Rattle.rb_arguments.specs.declared.procedure.Procedure.{Procedure}
use Rattle.rb_arguments.specs.declared.procedure.Procedure.TheVariants as procedures
use Rattle.rb_arguments.specs.declared.request.Request.TheVariants.{Void, Mapping, Rpcb, Uaddr2taddr, Taddr2uaddr, Forward}
use Rattle.rb_arguments.specs.Types.{IsMapping, mapping_spelling, read_mapping, IsRpcb, rpcb_spelling, read_rpcb, IsNetbuf, netbuf_spelling, read_netbuf}
use Rattle.rb_arguments.specs.declared.kind.Kind.{Kind}
use Rattle.rb_arguments.specs.declared.remote.RemoteCall.{RemoteCall}
use Rattle.rb_arguments.specs.Remote.{read_remote, SpellsRemote}
use Rattle.rb_arguments.proofs.Readings.{mapping_sound, mapping_complete, rpcb_sound, rpcb_complete, netbuf_sound, netbuf_complete, remote_spelled, remote_read}
use Rattle.rb_arguments.specs.Arguments.{Request, procedure_at, value_of, front, arguments, request}
use Rattle.rb_arguments.specs.Grammar.{BeginsWith, SpellsRequest, procedure_of, Asks, RequestsAreOfTheGrammar}

-- a request of this procedure, whose arguments the bytes begin with
abbrev IsOf : Procedure → List ℕ → Request → Type 0
IsOf p bytes r = (p ≡ procedure_of r) × SpellsRequest r bytes

-- ---- one type

module _ {A : Type 0} (is_value : A → Type 0) (spelling : A → List ℕ) (reads : Reader A) (made : A → Request) where
  by_reading : (read : Reading A) (r : Request) (P : Request → Type 0)
      → ((v : A) (n : ℕ) → read ≡ Ok (v, n) → P (made v)) → option_map made (value_of read) ≡ Some r → P r
  by_reading (Ok read) r P h e = subst P (same_Some (made read.0) r e) (h read.0 read.1 refl)
  by_reading (Err fault) r P h e = absurd (none-some r e)

  spelled : (p : Procedure) → IsSound is_value spelling reads → ((v : A) (bytes : List ℕ) → BeginsWith is_value spelling v bytes → IsOf p bytes (made v))
      → (bytes : List ℕ) → AreBytes bytes → (r : Request) → option_map made (front reads bytes) ≡ Some r → IsOf p bytes r
  spelled p sound h bytes are r e =
      by_reading (reads bytes) r (IsOf p bytes)
      (λ v n was. let s = sound bytes v n are was in h v bytes (record { fits = s.0; rest = drop n bytes; whole = s.2 })) e

  is_read : IsComplete is_value spelling reads → (v : A) (bytes : List ℕ) → BeginsWith is_value spelling v bytes → option_map made (front reads bytes) ≡ Some (made v)
  is_read complete v bytes b =
      ap (λ (xs : List ℕ). option_map made (front reads xs)) b.whole ∙ ap (λ (r : Reading A). option_map made (value_of r)) (complete v b.rest b.fits)

forward_spelled : (kind : Kind) (read : Reading RemoteCall) (bytes : List ℕ) (r : Request)
    → ((remote : RemoteCall) (n : ℕ) → read ≡ Ok (remote, n) → SpellsRemote remote bytes) → option_map (Forward kind) (value_of read) ≡ Some r → IsOf (procedures.Forward kind) bytes r
forward_spelled kind (Ok read) bytes r h e = subst (IsOf (procedures.Forward kind) bytes) (same_Some (Forward kind read.0) r e) (refl, h read.0 read.1 refl)
forward_spelled kind (Err fault) bytes r h e = absurd (none-some r e)

-- ---- each type

arguments_spelled : (p : Procedure) (bytes : List ℕ) → AreBytes bytes → (r : Request) → arguments p bytes ≡ Some r → IsOf p bytes r
unfolding arguments
arguments_spelled (procedures.Void p) bytes are r e = subst (IsOf (procedures.Void p) bytes) (same_Some (Void p) r e) (refl, tt)
arguments_spelled (procedures.Mapping p) bytes are r e = spelled IsMapping mapping_spelling read_mapping (Mapping p) (procedures.Mapping p) mapping_sound (λ _ _ b. (refl, b)) bytes are r e
arguments_spelled (procedures.Rpcb p) bytes are r e = spelled IsRpcb rpcb_spelling read_rpcb (Rpcb p) (procedures.Rpcb p) rpcb_sound (λ _ _ b. (refl, b)) bytes are r e
arguments_spelled procedures.Uaddr2taddr bytes are r e = spelled (IsContent 128) opaque (read_opaque 128) Uaddr2taddr procedures.Uaddr2taddr (opaque_sound 128) (λ _ _ b. (refl, b)) bytes are r e
arguments_spelled procedures.Taddr2uaddr bytes are r e = spelled IsNetbuf netbuf_spelling read_netbuf Taddr2uaddr procedures.Taddr2uaddr netbuf_sound (λ _ _ b. (refl, b)) bytes are r e
arguments_spelled (procedures.Forward kind) bytes are r e = forward_spelled kind (read_remote bytes) bytes r (λ remote n was. remote_spelled bytes remote n are was) e

arguments_read : (r : Request) (bytes : List ℕ) → SpellsRequest r bytes → arguments (procedure_of r) bytes ≡ Some r
unfolding arguments
arguments_read (Void p) bytes is = refl
arguments_read (Mapping p m) bytes is = is_read IsMapping mapping_spelling read_mapping (Mapping p) mapping_complete m bytes is
arguments_read (Rpcb p r) bytes is = is_read IsRpcb rpcb_spelling read_rpcb (Rpcb p) rpcb_complete r bytes is
arguments_read (Uaddr2taddr text) bytes is = is_read (IsContent 128) opaque (read_opaque 128) Uaddr2taddr (opaque_complete 128) text bytes is
arguments_read (Taddr2uaddr n) bytes is = is_read IsNetbuf netbuf_spelling read_netbuf Taddr2uaddr netbuf_complete n bytes is
arguments_read (Forward kind remote) bytes is = ap (option_map (Forward kind)) (remote_read remote bytes is)

-- ---- the law

request_asks : (vers proc : ℕ) (bytes : List ℕ) → AreBytes bytes → (r : Request) → request vers proc bytes ≡ Some r → Asks vers proc r bytes
unfolding request
request_asks vers proc bytes are r e = by_procedure (procedure_at vers proc) e
  where
    by_procedure : (p : Option Procedure) → option_and_then (λ q. arguments q bytes) p ≡ Some r → (p ≡ Some (procedure_of r)) × SpellsRequest r bytes
    by_procedure None e = absurd (none-some r e)
    by_procedure (Some p) e = let is = arguments_spelled p bytes are r e in (ap Some is.0, is.1)

pub asked_request : (vers proc : ℕ) (bytes : List ℕ) (r : Request) → Asks vers proc r bytes → request vers proc bytes ≡ Some r
unfolding request
asked_request vers proc bytes r is = ap (λ (p : Option Procedure). option_and_then (λ q. arguments q bytes) p) is.0 ∙ arguments_read r bytes is.1

pub requests_are_of_the_grammar : RequestsAreOfTheGrammar
requests_are_of_the_grammar vers proc bytes are r = (request_asks vers proc bytes are r, asked_request vers proc bytes r)
