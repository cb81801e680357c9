use Rattle.sequence.proofs.Rest.{or-is}
use Rattle.std.specs.List.{fold}
use Rattle.std.specs.Int.Bits.{bit_xor}
use Rattle.std.proofs.Common.{rules, ◌≡◌, sym, ◌∙◌}
use Rattle.sequence.proofs.symbols.exclusive_or.Goals as goal

pub returns : goal.returns
returns c = let e : c.fold.result ≡ fold bit_xor 0 c.args.symbols.now = search rules in e ∙ sym (or-is 0 c.args.symbols.now)
