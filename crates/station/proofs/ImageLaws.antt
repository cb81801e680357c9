-- A model that fits is what its image stands for; and every station of a run fits.
use mathlib.Core.List.{List}
use mathlib.Core.Option.{none}
use mathlib.Core.Path.{◌≡◌}
use Rattle.rules.specs.Rules.Words.{Config, Event}
use Rattle.rules.specs.Rules.Station as R
use Rattle.rules.specs.Rules.Verdict.{set_up_verdict}
use Rattle.rules.specs.Statement.{AlwaysSound, station_after}
use Rattle.rules.proofs.Kept.{always-sound}
use Rattle.slots.specs.Images.{Fits}
use Rattle.slots.proofs.ImageLaws.{slots-there, channels-there, queue-there}
use Rattle.soundness.proofs.FitLaws.{sound-fits}
use Rattle.station.specs.Model.{model_of, config_of, image_of}

module _ (c : Config) (m : R.Station) (f : Fits c m) where
  pub model-back : model_of (image_of c m) ≡ m
  unfolding model_of image_of
  model-back = rw (slots-there c m f, queue-there c m f)

  pub config-back : config_of (image_of c m) ≡ c
  unfolding config_of image_of
  config-back = rw (channels-there c m f)

pub run_fits : (c : Config) → set_up_verdict c ≡ none → (es : List Event) → Fits c (station_after c es)
unfolding AlwaysSound
run_fits c set es = sound-fits c (station_after c es) (always-sound c set es)
