-- Worked examples of requests.
use Rattle.std.specs.Prelude.{◌≡◌, ℕ, List, [], ◌∷◌, ◌++◌, length, map, filter, replicate, Ok, Err}
use Rattle.rb_xdr.specs.Xdr.{words}
use Rattle.rb_arguments.specs.declared.kind.Kind.TheVariants.{Callit2}
use Rattle.rb_arguments.specs.declared.request.ArgumentFault.TheVariants.{GarbageArgs}
use Rattle.rb_arguments.specs.declared.request.Request.TheVariants as requests
use Rattle.rb_arguments.specs.declared.remote.RemoteCall.{RemoteCall}
use Rattle.rb_arguments.specs.Arguments.{is_known, read_request}
use Rattle.rb_arguments.specs.Remote.{args_of}

-- how many procedures below 16 the version has
abbrev pub known_in : ℕ → ℕ
known_in vers =
    length (filter (is_known vers) (0 ∷ 1 ∷ 2 ∷ 3 ∷ 4 ∷ 5 ∷ 6 ∷ 7 ∷ 8 ∷ 9 ∷ 10 ∷ 11 ∷ 12 ∷ 13 ∷ 14 ∷ 15 ∷ []))

abbrev pub ProceduresAreKnown : Type 0
ProceduresAreKnown = map known_in (1 ∷ 2 ∷ 3 ∷ 4 ∷ 5 ∷ []) ≡ 0 ∷ 6 ∷ 9 ∷ 13 ∷ 0 ∷ []

-- the content of args may have 8,800 bytes, and no more
abbrev pub GreatestArguments : Type 0
GreatestArguments =
    let remote : RemoteCall = record { prog = 200001; vers = 1; proc = 0; count = 8800 } in
    let bytes : List ℕ = words (200001 ∷ 1 ∷ 0 ∷ 8800 ∷ []) ++ replicate 8800 7 in
    (read_request 2 5 bytes ≡ Ok (requests.Forward Callit2 remote))
    × (args_of remote bytes ≡ replicate 8800 7)
    × (read_request 2 5 (words (200001 ∷ 1 ∷ 0 ∷ 8801 ∷ []) ++ replicate 8801 7 ++ replicate 3 0) ≡ Err GarbageArgs)
