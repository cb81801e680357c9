-- What feeding hands back, out of what its parts hand back.
use mathlib.Core.List.{List}
use mathlib.Core.Path.{◌≡◌, ◌∙◌, ap}
use Rattle.std.specs.Prelude.{Option as Optional}
use Prim.Native.Nat.{ℕ}
use Rattle.units.specs.declared.Tenths.{Tenths}
use Rattle.lines.specs.declared.line.Line.{Line}
use Rattle.lines.specs.Readable.{ReadAs}
use Rattle.printing.specs.Replies.{reply_text, put_text, put_length}
use Rattle.script.specs.declared.Handled.{Handled}
use Rattle.script.specs.declared.Text.{Text}
use Rattle.script.specs.Answering.{Desk, handled_for, blocks_for, clock_of, due_of, no_blocks, desk_after, reply_to}
use Rattle.script.specs.Lining.{line_said}
use Rattle.script.specs.Session.{no_text, says_text, answered}
use Rattle.script.proofs.LineLaws.{said-back}
use Rattle.script.proofs.TextLaws.{says-in-range}

module _ (d : Desk) (text : Text) (line : Optional Line) (l : ReadAs line (says_text text)) where
  said-as : line_said line ≡ says_text text
  said-as = said-back (says_text text) line l (says-in-range text)

  module _ (h : Handled) (blocks : List ℕ) (clock : Tenths) (due : Optional Tenths) (hh : h ≡ handled_for d no_blocks (line_said line))
      (bb : blocks ≡ blocks_for d no_blocks (line_said line)) (cc' : clock ≡ clock_of h.desk) (dd : due ≡ due_of h.desk) where
    shown : reply_text h.answer clock.0 h.count due blocks ≡ reply_to d (says_text text)
    unfolding reply_to
    shown = rw (cc', dd, bb, hh, said-as)

    pub answer-as : (used count : ℕ) (t : Text) (out out' : List ℕ) → t ≡ no_text
        → count ≡ put_length out (reply_text h.answer clock.0 h.count due blocks)
        → out' ≡ put_text out (reply_text h.answer clock.0 h.count due blocks)
        → (record { used = used; count = count; session = record { desk = h.desk; text = t } } ≡ answered used d text out)
        × (out' ≡ put_text out (reply_to d (says_text text)))
    unfolding desk_after
    answer-as used count t out out' te ke oe =
        (rw (ke, shown, te, hh, said-as), oe ∙ ap (put_text out) shown)
