use mathlib.Core.Path.{sym, ◌∙◌}
use native.Mathlib.Omega.{arith}
use Rattle.transmission.proofs.LayoutLaws.{transmission-length}
use Rattle.sending.proofs.LaidLaws.{all-places-laid}
use Rattle.sending.proofs.lay.Goals as goal

pub returns : goal.returns
returns c =
    let s = c.args.symbols.now in
    record {
      value = sym (transmission-length s);
      room_written =
          c.lay_symbols.ensures ∙ rw c.lay_phasing.ensures (all-places-laid s c.args.room.now c.requires 8 (omega arith));
    }
