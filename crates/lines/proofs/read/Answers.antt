use mathlib.Core.Path.{sym, ◌∙◌}
use Rattle.lines.proofs.ReadLaws.{no_line, too_long, empty, by-letter, unnumbered, unfit, fit}
use Rattle.lines.proofs.read.Goals as goal

pub returns-then-text-gt-LONGEST_LINE : goal.returns-then-text-gt-LONGEST_LINE
returns-then-text-gt-LONGEST_LINE c = no_line _ (too_long c.args.text.now c.if-text-gt-LONGEST_LINE.true)

pub returns-in_err-letter : goal.returns-in_err-letter
returns-in_err-letter c = rw c.from_residual.ensures (no_line _ (empty c.args.text.now c.in_err-letter.ensures.cases))

pub returns-in_err-command : goal.returns-in_err-command
returns-in_err-command c =
    rw (c.from_residual-in_err-command.ensures, by-letter _ _ _ c.in_ok-letter.ensures.cases.0 c.if-text-gt-LONGEST_LINE.false, ← c.in_err-command.ensures) tt

pub returns-in_err-found : goal.returns-in_err-found
returns-in_err-found c =
    rw (c.from_residual-in_err-found.ensures, by-letter _ _ _ c.in_ok-letter.ensures.cases.0 c.if-text-gt-LONGEST_LINE.false, ← c.in_ok-command.ensures)
    (no_line _ (unnumbered c.in_ok-command.command _ c.in_err-found.ensures.value))

pub returns-then-not-fits : goal.returns-then-not-fits
returns-then-not-fits c =
    rw (by-letter _ _ _ c.in_ok-letter.ensures.cases.0 c.if-text-gt-LONGEST_LINE.false, ← c.in_ok-command.ensures)
    (no_line _ (unfit c.in_ok-command.command _ c.in_ok-found.found c.in_ok-found.ensures.value c.in_ok-found.ensures.count_bound (sym c.fits.ensures ∙ c.if-not-fits.true)))

pub returns : goal.returns
returns c =
    rw (by-letter _ _ _ c.in_ok-letter.ensures.cases.0 c.if-text-gt-LONGEST_LINE.false, ← c.in_ok-command.ensures)
    (fit c.in_ok-command.command _ c.in_ok-found.found c.in_ok-found.ensures.value _ (sym c.fits.ensures ∙ c.if-not-fits.false))
