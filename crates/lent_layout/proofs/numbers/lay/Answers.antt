use mathlib.Core.Path.{refl}
use native.Mathlib.Omega.{arith}
use Rattle.std.proofs.lemmas.Slice.{put_mid-paste}
use Rattle.layouts.specs.Fields.{laid}
use Rattle.lent_layout.proofs.numbers.lay.Goals as goal

pub returns : goal.returns
unfolding laid
returns c = put_mid-paste c.args.place _ c.args.room.now _ c.args.bytes.now _ c.copy_from_slice.ensures.after (omega arith) refl
