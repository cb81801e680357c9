-- The telecommands, and the channel field behind them.
use Rattle.std.specs.Prelude.{ℕ, Bool, true, cond, not, ◌&&◌, ◌||◌, leb, eqb}
use Rattle.units.specs.declared.Channel.{Channel as ChannelNumber}
use Rattle.units.specs.declared.Duration.{Duration as Lasting}
use Rattle.sequence.specs.declared.Field.{Field}
use Rattle.sequence.specs.declared.Field.TheVariants.{Blank, Channel, Duration}
use Rattle.sequence.specs.Figures.{first_simplex, first_duplex, first_data, first_unable, first_over}
use Rattle.sequence.specs.Figures.{least_second, last_second, last_reason, untold, channel_told}
use Rattle.sequence.specs.Symbols.{within}

-- "100 simplex, 101 duplex or 106 data"
unfoldable pub is_call : ℕ → Bool
is_call first = eqb first first_simplex || (eqb first first_duplex || eqb first first_data)

-- "104 unable, second 100 to 109 or 126"
unfoldable pub unable_second : ℕ → Bool
unable_second second = within least_second last_reason second || eqb second untold

-- calls "second 100 to 126", 104 as above, "105 end of call, second 126"
unfoldable pub telecommands_ok : ℕ → ℕ → Bool
telecommands_ok first second =
    cond (is_call first) (within least_second last_second second)
    (cond (eqb first first_unable) (unable_second second) (eqb first first_over && eqb second untold))

-- "not 16 or 70", "1 to 28 or 60 to 88"
unfoldable pub channel_ok : ChannelNumber → Bool
channel_ok c = not (eqb c.0 16) && (not (eqb c.0 70) && (within 1 28 c.0 || within 60 88 c.0))

-- "hours 0 to 99, minutes and seconds 0 to 59"
unfoldable pub duration_ok : Lasting → Bool
duration_ok d = leb d.hours 99 && (leb d.minutes 59 && leb d.seconds 59)

-- "may always be 126 126 126. Otherwise with 100, 101 and 106 it is [a] channel; with 105 [a duration]; with 104 nothing else"
unfoldable pub field_ok : ℕ → Field → Bool
field_ok first Blank = true
field_ok first (Channel c) = is_call first && channel_ok c
field_ok first (Duration d) = eqb first first_over && duration_ok d

-- the three symbols of a field: 126 126 126, or 90, 0, channel, or hours, minutes, seconds
abbrev pub field_first : Field → ℕ
field_first Blank = untold
field_first (Channel c) = channel_told
field_first (Duration d) = d.hours

abbrev pub field_second : Field → ℕ
field_second Blank = untold
field_second (Channel c) = 0
field_second (Duration d) = d.minutes

abbrev pub field_third : Field → ℕ
field_third Blank = untold
field_third (Channel c) = c.0
field_third (Duration d) = d.seconds
