-- How a request is laid out for what it stands for, every unused place blank.
use Rattle.std.specs.Prelude.{replicate}
use Rattle.sequence.specs.Figures.{most_digits}
use Rattle.rules.specs.Rules.Words as W
use Rattle.rules.specs.Rules.Words.{simplex, duplex}
use Rattle.rules.specs.Rules.Bytes.{number_of}
use Rattle.requests.specs.declared.Mode.{Mode}
use Rattle.requests.specs.declared.Mode.TheVariants.{Simplex, Duplex}
use Rattle.requests.specs.declared.Request.{Request}
use Rattle.requests.specs.Views.{request_of}

abbrev pub mode_image : W.Mode → Mode
mode_image simplex = Simplex
mode_image duplex = Duplex

unfoldable pub request_image : W.Request → Request
request_image r =
    record {
      ship = r.who.ship;
      station = r.who.station;
      mode = mode_image r.mode;
      second = r.second;
      number = number_of r.number;
    }

unfoldable pub blank_request : Request
blank_request =
    record { ship = 0; station = 0; mode = Simplex; second = 0; number = record { count = 0; digits = replicate most_digits 0 } }

-- a record laid out anew
unfoldable pub tidy_request : Request → Request
tidy_request q = request_image (request_of q)
