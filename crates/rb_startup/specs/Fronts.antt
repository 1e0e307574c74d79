-- What stands before a word for what is wrong.
use Rattle.std.specs.Prelude.{ℕ, List, ◌++◌, codes, Option, Some}
use Rattle.rb_settings.specs.declared.settings.LocalSocket.{LocalSocket}
use Rattle.rb_settings.specs.Faults.{step_text}
use Rattle.rb_settings.specs.declared.faults.Step.{Step}
use Rattle.rb_settings.specs.declared.faults.Step.TheVariants.{BindLocal}
use Rattle.rb_startup.specs.declared.telling.Front.{Front}
use Rattle.rb_startup.specs.declared.telling.Front.TheVariants.{Own, At, Read, Make, OfStep}

-- of a step that failed, with its address, or the path of the local socket
-- FAULT-3
abbrev pub step_front : Step → Option LocalSocket → List ℕ
step_front BindLocal (Some local) = codes "rpcbind: bind " ++ local.path.now ++ codes ": "
step_front step local = codes "rpcbind: " ++ step_text step ++ codes ": "

abbrev pub front_text : Front → List ℕ
front_text Own = codes "rpcbind: "
front_text (At path) = codes "rpcbind: " ++ path.now ++ codes ": "
front_text (Read path) = codes "rpcbind: read " ++ path.now ++ codes ": "
front_text (Make path) = codes "rpcbind: make " ++ path.now ++ codes ": "
front_text (OfStep step local) = step_front step local
