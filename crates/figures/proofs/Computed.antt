-- Every figure and clause of the definitions, on both sides: computed.
use mathlib.Core.Path.{◌≡◌, refl}
use mathlib.Core.List.{map}
use Rattle.sequence.specs.Identity.{is_ship, is_coast, identities_ok, identity_pairs, identity_of}
use Rattle.sequence.specs.Field.{is_call, unable_second, telecommands_ok, channel_ok, duration_ok, field_ok}
use Rattle.sequence.specs.Number.{number_ok, parity, evened}
use Rattle.sequence.specs.Layout.{end_ok, valid, front, body, layout}
use Rattle.sequence.specs.Reading as Reader
use Rattle.sequence.specs.Writing.{meaning_refusals, writing_answer, written_of, room_after}
use Rattle.rules.specs.Rules.Station.{fresh}
use Rattle.rules.specs.Rules.Verdict.{play}
use Rattle.rules.specs.Rules.Printed.{runs_open}
use Rattle.rules.specs.ListAlone.Book.{alike, blank_book, falls}
use Rattle.rules.specs.ListAlone.Reading.{reads, turn, stops_in, stops, read_all, counted, counted_by_calls}
use Rattle.rules.specs.ListAlone.Repeated.{last_asked}
use Rattle.rules.specs.Statement.{charged, notes, owed_for, uncharged_tenths}
use Rattle.rules.specs.Tables.Runs.{station}
use Rattle.rules.proofs.Tested.{as-expected}
use Rattle.figures.specs.BoundCases.{bound_cases, bound_sounds}
use Rattle.rules.specs.ListAlone.LineWords.{words_done, word_after, ringing_after}
use Rattle.figures.specs.Pages.{page_cases, page_runs}
use Rattle.figures.specs.Bounds.{bounds}

-- each test of a sequence's parts on both sides of its bounds
pub bounds-computed : map (λ l. l.computed) bounds ≡ map (λ l. l.expected) bounds
unfolding is_ship is_coast identities_ok identity_pairs identity_of is_call unable_second telecommands_ok channel_ok duration_ok field_ok number_ok parity evened end_ok valid front body layout Reader.length_in Reader.check_in Reader.format_in Reader.identity_at Reader.identity_pairs_at Reader.identities_in Reader.category_in Reader.telecommands_in Reader.blank_symbols Reader.channel_symbols Reader.duration_symbols Reader.field_symbols Reader.field_of Reader.field_in Reader.pairs_in Reader.parity_ok Reader.pairs_ok Reader.number_in Reader.zero_before Reader.sixteen Reader.number_of Reader.end_in Reader.refusals Reader.answer_of Reader.meaning_of Reader.blank_meaning Reader.meaning_read Reader.reading_of meaning_refusals writing_answer written_of room_after
bounds-computed = refl

-- events: on both sides of a boundary, and in other slots, places and stations
pub bound-cases-computed : map (λ r. r.computed) bound_cases ≡ map (λ r. r.expected) bound_cases
unfolding runs_open
bound-cases-computed = as-expected bound_cases refl

-- soundness and set-up
pub bound-sounds-computed : map (λ j. j.given) bound_sounds ≡ map (λ j. j.expected) bound_sounds
unfolding runs_open
bound-sounds-computed = refl

-- what the list of each run tells after each entry, and what it counts
pub pages-computed : map (λ r. r.computed) page_cases ≡ map (λ r. r.expected) page_cases
unfolding runs_open charged notes alike blank_book falls reads turn stops_in stops counted counted_by_calls read_all uncharged_tenths word_after words_done ringing_after last_asked
pages-computed = as-expected page_cases refl

-- what is charged in each run
pub page-charges-computed : map (λ r. charged 0 (play (station r.slots) r.events (fresh (station r.slots)))) page_runs ≡ map (λ r. r.owing) page_runs
unfolding runs_open charged
page-charges-computed = refl

-- what the list of each run alone calls for
pub page-stops-computed : map (λ r. owed_for (stops (station r.slots) 0 (notes (play (station r.slots) r.events (fresh (station r.slots)))) (blank_book (station r.slots)))) page_runs ≡ map (λ r. r.owing) page_runs
unfolding runs_open notes alike blank_book falls reads turn stops_in stops
page-stops-computed = refl
