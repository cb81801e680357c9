-- The transmissions worked out by hand: computed.
use mathlib.Core.Path.{◌≡◌, refl}
use mathlib.Core.List.{map}
use lib.Count.{ones, ones_in}
use Rattle.sequence.specs.Layout.{end_ok}
use Rattle.sequence.specs.Reading.{length_in}
use Rattle.characters.specs.Code.{zeros, ten_units, character_of, symbol_of}
use Rattle.transmission.specs.Layout.{dx_phasing, rx_phasing, dx, rx, transmission}
use Rattle.transmission.specs.Writing.{writing_refusals, writing_answer, transmission_written, transmission_laid, room_after_writing}
use Rattle.transmission.specs.Phasing.{heard, dx_good, rx_good, is_phasing, phasing_at, best_start}
use Rattle.transmission.specs.Copies.{symbol_at, symbols_from, count_of, copies_there}
use Rattle.transmission.specs.Reading.{start_in, phasing_in}
use Rattle.transmission.specs.Cases.{writing_cases, phasing_cases, reading_cases, computed_of, expected_of}
use Rattle.transmission.proofs.Tested.{all-as-read}

pub writing-computed : map (λ c. c.computed) writing_cases ≡ map (λ c. c.expected) writing_cases
unfolding zeros ten_units character_of ones ones_in dx_phasing rx_phasing dx rx transmission length_in
    writing_refusals writing_answer transmission_written transmission_laid room_after_writing
writing-computed = refl

pub phasing-computed : map (λ c. c.computed) phasing_cases ≡ map (λ c. c.expected) phasing_cases
unfolding zeros ten_units character_of symbol_of ones ones_in dx_phasing rx_phasing heard dx_good rx_good is_phasing phasing_at best_start
phasing-computed = refl

pub reading-computed : map computed_of reading_cases ≡ map expected_of reading_cases
unfolding zeros ten_units character_of symbol_of ones ones_in dx_phasing rx_phasing dx rx heard dx_good rx_good is_phasing phasing_at best_start
    start_in phasing_in symbol_at symbols_from count_of copies_there end_ok
reading-computed = all-as-read reading_cases refl
