use Prim.Native.Nat.{◌+◌}
use mathlib.Core.Path.{◌≡◌}
use lib.ListN.{get_or}
use Rattle.characters.specs.Code.{character_of}
use Rattle.transmission.specs.Layout.{rx}
use Rattle.sending.specs.Laid.{places_laid}
use Rattle.sending.proofs.lay_symbols.Given as goal

abbrev pub invariant-loop-k : goal.invariant-loop-k
invariant-loop-k l = (l.room ≡ places_laid l.symbols 8 (7 + l.k) l.initial.room)
    × (l.before ≡ character_of (get_or (rx l.symbols) (7 + l.k) 0))
    × (l.last ≡ character_of (get_or (rx l.symbols) (8 + l.k) 0))
