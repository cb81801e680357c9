-- The model that a station of the rack stands for, and the station laid out for a model.
use Rattle.std.specs.Prelude.{map, length}
use Rattle.rules.specs.Rules.Words.{Config}
use Rattle.rules.specs.Rules.Station as R
use Rattle.rules.specs.Rules.Bytes.{padded}
use Rattle.requests.specs.Views.{viewed}
use Rattle.slots.specs.Views.{slot_view, waiting_view, mast_of, config_for}
use Rattle.slots.specs.Images.{slot_images, waiting_image, blank_slot, blank_waiting, tenths}
use Rattle.station.specs.declared.Station.{Station}

-- the first `count` slots and the first `waiting` ships
unfoldable pub model_of : Station → R.Station
model_of s =
    record {
      clock = s.clock.0;
      slots = viewed slot_view s.count s.slots;
      queue = viewed waiting_view s.waiting s.queue;
      last_call = s.last.0;
    }

-- what never changes
unfoldable pub config_of : Station → Config
config_of s = config_for s.mast s.count s.slots

-- every unused place blank
unfoldable pub image_of : Config → R.Station → Station
image_of c m =
    record {
      clock = tenths m.clock;
      mast = mast_of c;
      last = record { 0 = m.last_call };
      count = length m.slots;
      waiting = length m.queue;
      slots = padded blank_slot 16 (slot_images c.channels m.slots);
      queue = padded blank_waiting 32 (map waiting_image m.queue);
    }
