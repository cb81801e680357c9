-- What a script prints of an event: answer, clock, action count, next due time; then each action as kind, slot, payload bytes.
use Rattle.std.specs.Prelude.{List, [], ◌∷◌, map, ℕ, length}
use Rattle.std.proofs.Math.Option.{Option, none, some}
use Rattle.sequence.specs.Identity.{is_ship, is_coast, identities_ok, identity_pairs, identity_of}
use Rattle.sequence.specs.Field.{is_call, unable_second, telecommands_ok, channel_ok, duration_ok, field_ok}
use Rattle.sequence.specs.Number.{number_ok, parity, evened}
use Rattle.sequence.specs.Layout.{end_ok, valid, front, body, layout}
use Rattle.sequence.specs.Reading as Reader
use Rattle.rules.specs.Rules.Words.{Config, Event}
use Rattle.rules.specs.Rules.Actions.{Action}
use Rattle.rules.specs.Rules.Station.{Station, next_due}
use Rattle.rules.specs.Rules.Sound.{identity_keeps, channels_keep, config_keeps, one_slot_each, number_keeps}
use Rattle.rules.specs.Rules.Sound.{request_keeps, duration_keeps, no_ship_twice, stored_keeps, times_fit, sound}
use Rattle.rules.specs.Rules.Requests.{Out}
use Rattle.rules.specs.Rules.Calls.{rules_open}
use Rattle.rules.specs.Rules.Verdict.{refusals, verdict, set_up_verdict, step, play, final}
use Rattle.rules.specs.Rules.Bytes.{kind_number, slot_number, block, block_of, padded}
use Rattle.rules.specs.Rules.Bytes.{answer_to, able_said, unable_said, over_said, payload_of}

-- "`-` if none": here nothing
abbrev pub due_shown : Option ℕ → List ℕ
due_shown none = []
due_shown (some d) = d ∷ []

abbrev pub shown : Config → Action → List ℕ
shown c a = kind_number a ∷ slot_number a ∷ payload_of c a

abbrev pub lines : Config → Out → List (List ℕ)
lines c o = (o.answer ∷ o.next.clock ∷ length o.acts ∷ due_shown (next_due o.next)) ∷ map (shown c) o.acts

-- of each event of a script
unfoldable pub printed : Config → List Event → Station → List (List (List ℕ))
printed c [] st = []
printed c (e ∷ es) st = lines c (step c st e) ∷ printed c es (step c st e).next

abbrev pub last_of : {A : Type 0} → A → List A → A
last_of x [] = x
last_of x (y ∷ ys) = last_of y ys

-- of its last event
unfoldable pub last_printed : Config → List Event → Station → List (List ℕ)
last_printed c es st = last_of [] (printed c es st)

-- all that a run rests on, open, for the tables that compute one
unfoldable pub runs_open : Unit {0}
unfolding rules_open is_ship is_coast identities_ok identity_pairs identity_of is_call unable_second telecommands_ok channel_ok duration_ok
    field_ok number_ok parity evened end_ok valid front body layout Reader.length_in Reader.check_in Reader.format_in Reader.identity_at
    Reader.identity_pairs_at Reader.identities_in Reader.category_in Reader.telecommands_in Reader.blank_symbols Reader.channel_symbols
    Reader.duration_symbols Reader.field_symbols Reader.field_of Reader.field_in Reader.pairs_in Reader.parity_ok Reader.pairs_ok
    Reader.number_in Reader.zero_before Reader.sixteen Reader.number_of Reader.end_in Reader.refusals Reader.answer_of Reader.meaning_of
    Reader.blank_meaning Reader.meaning_read identity_keeps channels_keep config_keeps one_slot_each number_keeps request_keeps duration_keeps
    no_ship_twice stored_keeps times_fit sound refusals verdict set_up_verdict step play final block block_of padded answer_to able_said
    unable_said over_said payload_of printed last_printed
runs_open = tt
