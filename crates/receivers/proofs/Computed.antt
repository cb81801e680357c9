-- The bytes worked out by hand: computed.
use mathlib.Core.Path.{◌≡◌, refl}
use mathlib.Core.List.{map}
use Rattle.sequence.specs.Layout.{end_ok}
use Rattle.sequence.specs.Identity.{is_ship, is_coast, identities_ok, identity_pairs, identity_of}
use Rattle.sequence.specs.Field.{is_call, telecommands_ok}
use Rattle.sequence.specs.Reading.{length_in, check_in, format_in, identity_at, identity_pairs_at, identities_in, category_in, telecommands_in}
use Rattle.sequence.specs.Reading.{blank_symbols, field_symbols, field_in, pairs_in, parity_ok, pairs_ok, number_in, end_in, refusals, answer_of}
use Rattle.receivers.specs.Finding.{is_valid, begins_with, length_at, first_in, found_in, bytes_of, stretch_found, placed_at, place_found}
use Rattle.receivers.specs.Cases.{finding_cases, computed_of}

pub finding-computed : map computed_of finding_cases ≡ finding_cases
unfolding end_ok is_ship is_coast identities_ok identity_pairs identity_of is_call telecommands_ok length_in check_in format_in identity_at
    identity_pairs_at identities_in category_in telecommands_in blank_symbols field_symbols field_in pairs_in parity_ok pairs_ok number_in end_in
    refusals answer_of is_valid begins_with length_at first_in found_in bytes_of stretch_found
    placed_at place_found
finding-computed = refl
