-- The digits of a caller ashore, as they are handed to the station.
use Rattle.std.specs.Prelude.{ℕ, List}
use Rattle.rules.specs.Rules.Bytes.{padded}
use Rattle.requests.specs.Views.{viewed, itself}

-- one more than a number may have
abbrev pub looked_at : ℕ
looked_at = 17

unfoldable pub digit_numbers : List ℕ → List ℕ
digit_numbers l = padded 0 looked_at (viewed itself looked_at l)
