use mathlib.Core.Path.{sym, ◌∙◌}
use native.Mathlib.Omega.{arith}
use Rattle.transmission.proofs.SymbolLaws.{behind-format}
use Rattle.receiving.proofs.copies.Heard.symbol.Goals as goal

pub returns : goal.returns
returns c = c.first_good.ensures ∙ sym (behind-format _ _ _ (omega arith))
