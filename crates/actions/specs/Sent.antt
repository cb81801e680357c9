-- What is sent for each action, whatever the request holds: the sequence of a valid meaning, nothing for another.
use Rattle.std.specs.Prelude.{ℕ, Bool, true, cond, List, []}
use Rattle.units.specs.declared.Channel.{Channel}
use Rattle.sequence.specs.declared.Meaning.{Meaning}
use Rattle.sequence.specs.Figures.{end_rq, end_bq}
use Rattle.sequence.specs.Layout.{valid, layout}
use Rattle.rules.specs.Rules.Words.{Party, Config}
use Rattle.rules.specs.Rules.Words.{carrier_on, carrier_off, acknowledge, call_ship, unable, dial, release_line, ringing_on, ringing_off}
use Rattle.rules.specs.Rules.Words.{busy_tone}
use Rattle.rules.specs.Rules.Actions as R
use Rattle.rules.specs.Rules.Actions.{the_ship, the_coast, does, over, charge, charge_numbers}
use Rattle.rules.specs.Rules.Bytes.{able_said, unable_said, over_said, channel_at, kind_number, slot_number, block, fours}
use Rattle.actions.specs.declared.Ender.{Ender}
use Rattle.actions.specs.declared.Ender.TheVariants.{Ship, Coast}

unfoldable pub sent : Meaning → List ℕ
sent m = cond (valid m) (layout m) []

abbrev pub party : ℕ → ℕ → Party
party ship station = record { ship = ship; station = station }

abbrev pub ender_of : Ender → R.Ender
ender_of Ship = the_ship
ender_of Coast = the_coast

-- the payload of an action of the rules as it is made, where its slot works on the channel
unfoldable pub sent_payload : Channel → R.Action → List ℕ
sent_payload channel (does (carrier_on i)) = []
sent_payload channel (does (carrier_off i)) = []
sent_payload channel (does (acknowledge i r)) = sent (able_said channel end_bq r)
sent_payload channel (does (call_ship i r)) = sent (able_said channel end_rq r)
sent_payload channel (does (unable n x digits)) = sent (unable_said n x digits)
sent_payload channel (does (dial i digits)) = digits
sent_payload channel (does (release_line i)) = []
sent_payload channel (does (ringing_on i)) = []
sent_payload channel (does (ringing_off i)) = []
sent_payload channel (does (busy_tone i)) = []
sent_payload channel (over i e x digits n) = sent (over_said e x digits n)
sent_payload channel (charge h) = fours (charge_numbers h)

unfoldable pub sent_on : Channel → R.Action → List ℕ
sent_on channel a = block (kind_number a) (slot_number a) (sent_payload channel a)

unfoldable pub sent_block : Config → R.Action → List ℕ
sent_block c a = sent_on (channel_at c (slot_number a)) a

-- what is sent for an action is a sequence
abbrev pub speaks : Config → R.Action → Bool
speaks c (does (carrier_on i)) = true
speaks c (does (carrier_off i)) = true
speaks c (does (acknowledge i r)) = valid (able_said (channel_at c i) end_bq r)
speaks c (does (call_ship i r)) = valid (able_said (channel_at c i) end_rq r)
speaks c (does (unable n x digits)) = valid (unable_said n x digits)
speaks c (does (dial i digits)) = true
speaks c (does (release_line i)) = true
speaks c (does (ringing_on i)) = true
speaks c (does (ringing_off i)) = true
speaks c (does (busy_tone i)) = true
speaks c (over i e x digits n) = valid (over_said e x digits n)
speaks c (charge h) = true
