use mathlib.Core.Path.{sym}
use Rattle.transmission.proofs.LayoutLaws.{dx-phasing, dx-formats}
use Rattle.sending.proofs.first_dx.Goals as goal

pub returns-then-place-lt-DX_PHASING : goal.returns-then-place-lt-DX_PHASING
returns-then-place-lt-DX_PHASING c = sym (dx-phasing c.args.symbols.now c.args.place 0 c.if-place-lt-DX_PHASING.true)

pub returns-else-place-lt-DX_PHASING : goal.returns-else-place-lt-DX_PHASING
returns-else-place-lt-DX_PHASING c = sym (dx-formats c.args.symbols.now c.args.place 0 c.requires.0 c.if-place-lt-DX_PHASING.false c.requires.1)
