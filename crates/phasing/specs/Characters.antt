-- The characters behind what was heard: a phasing character is known by its number, with no look at the table.
use Rattle.std.specs.Prelude.{ℕ, ◌+◌, cond, List, [], ◌∷◌, ◌++◌, eqb, get_or, replicate}
use Rattle.characters.specs.Code.{no_character}
use Rattle.transmission.specs.Phasing.{characters_of, most_lost}

-- the character at a place of what was heard, and none before the first and past the last that was handed in
unfoldable pub character_at : List ℕ → ℕ → ℕ
character_at bytes place = get_or (replicate most_lost no_character ++ characters_of bytes) place no_character

-- the characters of 125, six times, and of 111, 110, .., 104
abbrev pub dx_characters : List ℕ
dx_characters = replicate 6 637

abbrev pub rx_characters : List ℕ
rx_characters = 623 ∷ 366 ∷ 365 ∷ 876 ∷ 363 ∷ 874 ∷ 873 ∷ 232 ∷ []

-- how many of the characters wanted stand in their places, every second one from a place on
abbrev pub standing : List ℕ → List ℕ → ℕ → ℕ
standing bytes [] place = 0
standing bytes (character ∷ wanted) place = cond (eqb (character_at bytes place) character) 1 0 + standing bytes wanted (place + 2)
