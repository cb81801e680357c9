use mathlib.Core.Path.{◌≡◌}
use lib.ListN.{drop}
use Rattle.script.specs.Session.{add_bytes}
use Rattle.script.proofs.texts.with_bytes.Given as goal

abbrev pub invariant-loop-byte : goal.invariant-loop-byte
invariant-loop-byte l = add_bytes l.text (drop l.byte-index l.bytes) ≡ add_bytes l.initial.text l.bytes
