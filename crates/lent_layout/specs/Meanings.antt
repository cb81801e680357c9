-- A meaning in bytes, as a host in C lends them.
use Rattle.std.specs.Prelude.{ℕ, cond, List, ◌∷◌, leb, length, get_or, drop}
use Rattle.sequence.specs.declared.Meaning.{Meaning}
use Rattle.sequence.specs.Figures.{most_digits}
use Rattle.sequence.specs.Reading.{blank_meaning}
use Rattle.layouts.specs.Fields.{Field, row, size, encode, decode, laid}
use Rattle.channel_fields.specs.ChannelFields.{field_bytes, field_from}
use Rattle.lent_layout.specs.Layout.{run}
use Rattle.lent_layout.specs.Numbers.{numbers_from}

abbrev pub meaning_fields : List Field
meaning_fields =
    row "address" 4
    ∷ row "sender" 4
    ∷ row "first telecommand" 1
    ∷ row "second telecommand" 1
    ∷ row "kind of the channel field" 1
    ∷ row "its first byte" 1
    ∷ row "its second byte" 1
    ∷ row "its third byte" 1
    ∷ row "count of digits" 1
    ∷ row "end of sequence" 1
    ∷ run "digit" most_digits

abbrev pub meaning_size : ℕ
meaning_size = size meaning_fields

unfoldable pub meaning_numbers : Meaning → List ℕ
meaning_numbers m =
    m.address
    ∷ m.sender
    ∷ m.first
    ∷ m.second
    ∷ (field_bytes m.field).kind
    ∷ (field_bytes m.field).first
    ∷ (field_bytes m.field).second
    ∷ (field_bytes m.field).third
    ∷ m.number.count
    ∷ m.end
    ∷ numbers_from most_digits 0 m.number.digits

unfoldable pub meaning_bytes : Meaning → List ℕ
meaning_bytes m = encode meaning_fields (meaning_numbers m)

unfoldable pub meaning_in : List ℕ → Meaning
meaning_in ns =
    record {
      address = get_or ns 0 0;
      sender = get_or ns 1 0;
      first = get_or ns 2 0;
      second = get_or ns 3 0;
      field = field_from (record { kind = get_or ns 4 0; first = get_or ns 5 0; second = get_or ns 6 0; third = get_or ns 7 0 });
      number = record { count = get_or ns 8 0; digits = drop 10 ns };
      end = get_or ns 9 0;
    }

-- fewer bytes tell no meaning
unfoldable pub meaning_from : List ℕ → Meaning
meaning_from b = cond (leb meaning_size (length b)) (meaning_in (decode meaning_fields b 0)) blank_meaning

-- at the front of lent bytes; fewer stay as they are
unfoldable pub meaning_laid : Meaning → List ℕ → List ℕ
meaning_laid m room = cond (leb meaning_size (length room)) (laid room 0 (meaning_bytes m)) room
