-- Which sequence is of which kind, in 01's words; and that `addressed` tells just these.
use Rattle.std.specs.Prelude.{◌≡◌, true, ℕ}
use Rattle.std.proofs.Math.Option.{some}
use Rattle.units.specs.declared.Channel.{Channel as ChannelNumber}
use Rattle.sequence.specs.declared.Field.TheVariants.{Blank, Channel}
use Rattle.sequence.specs.declared.Meaning.{Meaning}
use Rattle.rules.specs.Rules.Places.{lowest}
use Rattle.rules.specs.Rules.Words.{Mode, Config, mode_number, Ours}
use Rattle.rules.specs.Rules.Heard.{Heard, call_request, data_request, bq, working_call, end_of_call, declined, nothing}
use Rattle.rules.specs.Rules.Heard.{digits_in, sent_by, request_in, same_channel, addressed}
use Rattle.rules.specs.Rules.Ashore.{is_mode, mode_of}

-- to this station, with an end of sequence and a first telecommand, the field 126s
pub record Plain (c : Config) (end first : ℕ) (m : Meaning) : Type 0 where
  pub to-this : Ours c m.address
  pub ends : m.end ≡ end
  pub begins : m.first ≡ first
  pub empty : m.field ≡ Blank

pub data Means (c : Config) (m : Meaning) : Heard → Type 0 where
  -- "Call request (117; 100, 101 ..; field 126s)"
  as_call_request : (w : Mode) → Plain c 117 (mode_number w) m → Means c m (call_request (request_in w m))
  -- ".. or 106"
  as_data_request : Plain c 117 106 m → Means c m (data_request (sent_by m) (digits_in m.number))
  -- "Working call (127; 100 or 101; field 126s)"
  as_working_call : (w : Mode) → Plain c 127 (mode_number w) m → Means c m (working_call (sent_by m))
  -- "Ship's end of call (117, 105, field 126s)"
  as_end_of_call : Plain c 117 105 m → Means c m (end_of_call (sent_by m))
  -- "BQ .., telecommand 100 or 101, naming that channel"
  as_bq : (w : Mode) (n : ChannelNumber) (i : ℕ) → Ours c m.address → m.end ≡ 122 → m.first ≡ mode_number w → m.field ≡ Channel n
      → lowest (same_channel n) c.channels ≡ some i → Means c m (bq i (sent_by m))
  -- 02, no. 2: "BQ with 104"
  as_declined : Plain c 122 104 m → Means c m (declined (sent_by m))
  -- anything else
  as_nothing : Means c m nothing

-- 02, no. 2: "The mode is 100 or 101": the mode of a call from ashore is sent as it was asked for
unfoldable pub ModesKept : Type 0
ModesKept = (n : ℕ) → is_mode n ≡ true → mode_number (mode_of n) ≡ n

-- what is heard as a kind is of that kind
unfoldable pub OnlyThese : Type 0
OnlyThese = (c : Config) (m : Meaning) → Means c m (addressed c m)

-- what is of a kind is heard as that kind
unfoldable pub AllThese : Type 0
AllThese = (c : Config) (m : Meaning) (h : Heard) → Means c m h → (h ≡ nothing → ⊥) → addressed c m ≡ h
