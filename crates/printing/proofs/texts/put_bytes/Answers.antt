use mathlib.Core.Path.{refl}
use native.Mathlib.Omega.{arith}
use lib.ListN.{length}
use Rattle.std.proofs.lemmas.Slice.{put_mid-paste}
use Rattle.printing.proofs.PutLaws.{copied}
use Rattle.printing.proofs.texts.put_bytes.Goals as goal

pub returns : goal.returns
returns c = let a = c.args in
    copied a.out.now a.bytes.now _ a.at (length a.bytes.now) refl
    (put_mid-paste a.at _ a.out.now _ a.bytes.now (length a.bytes.now) c.copy_from_slice.ensures.after (omega arith) refl)
