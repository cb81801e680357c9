-- The cases of 01, its sample script, and the runs on both sides: computed.
use mathlib.Core.Path.{◌≡◌, refl}
use mathlib.Core.List.{[], ◌∷◌, ◌++◌, map}
use Rattle.rules.specs.Rules.Words.{simplex, duplex, carrier_on, call_ship, unable}
use Rattle.rules.specs.Rules.Heard.{call_request, nothing}
use Rattle.rules.specs.Rules.Station.{fresh}
use Rattle.rules.specs.Rules.Verdict.{play}
use Rattle.rules.specs.Rules.Printed.{printed, runs_open}
use Rattle.rules.specs.ListAlone.Book.{alike, blank_book, falls}
use Rattle.rules.specs.ListAlone.Reading.{reads, turn, stops_in, stops}
use Rattle.rules.specs.ListAlone.Repeated.{last_asked}
use Rattle.rules.specs.Statement.{charged, notes, owed_for}
use Rattle.rules.specs.Tables.Runs.{station, seven, usual, asks_anew, runs}
use Rattle.rules.specs.Tables.Cases.{cases, sample, sample_shows}
use Rattle.rules.specs.Tables.RequestCases.{request_cases}
use Rattle.rules.specs.Tables.CallCases.{call_cases}
use Rattle.rules.specs.Tables.AshoreCases.{ashore_cases}
use Rattle.rules.specs.Tables.NumberCases.{number_cases}
use Rattle.rules.specs.Tables.RefusalCases.{refusal_cases}
use Rattle.rules.specs.Tables.Phases.{row_of, phases}
use Rattle.rules.specs.Tables.SoundCases.{from, set_up_cases, stored_cases, count_cases, time_cases}
use Rattle.rules.proofs.Tested.{as-expected}

-- P1 to P12, "Hold begun at 6000", "Number 7"
pub cases-computed : map (λ r. r.computed) cases ≡ map (λ r. r.expected) cases
unfolding runs_open
cases-computed = as-expected cases refl

-- a case for each rule, and for each refusal
pub rules-computed : map (λ r. r.computed) (request_cases ++ call_cases ++ ashore_cases ++ number_cases ++ refusal_cases) ≡ map (λ r. r.expected) (request_cases ++ call_cases ++ ashore_cases ++ number_cases ++ refusal_cases)
unfolding runs_open
rules-computed = as-expected (request_cases ++ call_cases ++ ashore_cases ++ number_cases ++ refusal_cases) refl

-- a case for each part of soundness, and for set-up
pub sound-computed : map (λ j. j.given) (set_up_cases ++ stored_cases ++ count_cases ++ time_cases) ≡ map (λ j. j.expected) (set_up_cases ++ stored_cases ++ count_cases ++ time_cases)
unfolding runs_open
sound-computed = refl

-- which events are named for which phase
pub phases-computed : map (λ p. row_of p.slot) phases ≡ map (λ p. p.gives) phases
unfolding runs_open
phases-computed = refl

-- 01's sample script gives the printed answers
pub sample-computed : printed (station 1) sample (fresh (station 1)) ≡ sample_shows
unfolding runs_open
sample-computed = refl

-- what is charged in each run
pub charges-computed : map (λ r. charged 0 (play (station r.slots) r.events (fresh (station r.slots)))) runs ≡ map (λ r. r.owing) runs
unfolding runs_open charged
charges-computed = refl

-- what the list of each run alone calls for
pub stops-computed : map (λ r. owed_for (stops (station r.slots) 0 (notes (play (station r.slots) r.events (fresh (station r.slots)))) (blank_book (station r.slots)))) runs ≡ map (λ r. r.owing) runs
unfolding runs_open notes alike blank_book falls reads turn stops_in stops
stops-computed = refl

-- duplex, then simplex: what seven was last told to wait with, and what it is rung back with
pub other-mode-computed : (last_asked (station 1) (from seven simplex).who nothing (notes (play (station 1) (asks_anew duplex simplex []) (fresh (station 1)))) ≡ call_request (from seven simplex))
    × (map (λ n. n.deeds) (notes (play (station 1) (asks_anew duplex simplex []) (fresh (station 1)))) ≡ [] ∷ (unable 103 (from seven simplex).who usual ∷ []) ∷ (unable 103 (from seven simplex).who usual ∷ []) ∷ (carrier_on 0 ∷ call_ship 0 (from seven simplex) ∷ []) ∷ [])
unfolding runs_open notes last_asked
other-mode-computed = (refl, refl)
