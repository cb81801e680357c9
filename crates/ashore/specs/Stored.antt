-- What is stored of a call from ashore, of any numbers: past sixteen digits the others are left out, and a digit over 255 is 255.
use Rattle.std.specs.Prelude.{ℕ, min, List}
use Rattle.sequence.specs.Figures.{most_digits}
use Rattle.rules.specs.Rules.Ashore.{ashore_request}
use Rattle.requests.specs.declared.Request.{Request}
use Rattle.requests.specs.Views.{viewed}
use Rattle.requests.specs.Images.{request_image}
use Rattle.slots.specs.declared.mast.Mast.{Mast}
use Rattle.slots.specs.Views.{named}

abbrev pub stored_digit : ℕ → ℕ
stored_digit d = min 255 d

unfoldable pub stored_digits : List ℕ → List ℕ
stored_digits l = viewed stored_digit most_digits l

unfoldable pub request_from : Mast → ℕ → ℕ → List ℕ → Request
request_from mast ship mode l = request_image (ashore_request (named mast) (record { ship = ship; mode = mode; digits = stored_digits l }))
