-- Bytes of two receivers, and the stretch that is found in them, worked out by hand: cases.
use Rattle.std.specs.Prelude.{ℕ, Option as Optional, Some, None, List, [], ◌∷◌, ◌++◌, take, drop, replicate, set}
use Rattle.receivers.specs.declared.Receiver.{Receiver}
use Rattle.receivers.specs.declared.Receiver.TheVariants.{First, Second}
use Rattle.receivers.specs.declared.Found.{Found}
use Rattle.receivers.specs.Finding.{found_in, stretch_found, place_found}

-- ── bytes ────────────────────────────────────────────────────────────────────

-- 01's P1; the same for number 7, which is as short as a sequence can be, and for sixteen digits
abbrev pub p1 : List ℕ
p1 = 123 ∷ 0 ∷ 20 ∷ 1 ∷ 23 ∷ 40 ∷ 100 ∷ 20 ∷ 0 ∷ 56 ∷ 78 ∷ 90 ∷ 101 ∷ 126 ∷ 126 ∷ 126 ∷ 126 ∷ 105 ∷ 5 ∷ 55 ∷ 12 ∷ 34 ∷ 117 ∷ 104 ∷ []

abbrev pub of21 : List ℕ
of21 = 123 ∷ 0 ∷ 20 ∷ 1 ∷ 23 ∷ 40 ∷ 100 ∷ 20 ∷ 0 ∷ 56 ∷ 78 ∷ 90 ∷ 101 ∷ 126 ∷ 126 ∷ 126 ∷ 126 ∷ 105 ∷ 7 ∷ 117 ∷ 115 ∷ []

abbrev pub of28 : List ℕ
of28 =
    123 ∷ 0 ∷ 20 ∷ 1 ∷ 23 ∷ 40 ∷ 100 ∷ 20 ∷ 0 ∷ 56 ∷ 78 ∷ 90 ∷ 101 ∷ 126 ∷ 126 ∷ 126 ∷ 126
    ∷ 106 ∷ 12 ∷ 34 ∷ 56 ∷ 78 ∷ 90 ∷ 12 ∷ 34 ∷ 56 ∷ 117 ∷ 99 ∷ []

-- a fade: so many bytes of nothing
abbrev pub fade : ℕ → List ℕ
fade n = replicate n 9

-- ── what is found ────────────────────────────────────────────────────────────

pub record FindCase : Type 0 where
  pub first : List ℕ
  pub second : List ℕ
  pub found : Optional Found
  pub stretch : List ℕ
  pub memory : ℕ × ℕ

-- where either receiver's bytes stand: a block of memory, and a place in it
abbrev pub first_stands : ℕ × ℕ
first_stands = (1, 100)

abbrev pub second_stands : ℕ × ℕ
second_stands = (2, 200)

abbrev pub at : Receiver → ℕ → ℕ → Optional Found
at receiver place count = Some (record { receiver = receiver; stretch = record { place = place; count = count } })

abbrev pub finds : List ℕ → List ℕ → Optional Found → List ℕ → ℕ × ℕ → FindCase
finds first second found stretch memory =
    record { first = first; second = second; found = found; stretch = stretch; memory = memory }

-- 54
abbrev pub finds_none : List ℕ → List ℕ → FindCase
finds_none first second = finds first second None [] (2, 200)

abbrev pub finding_cases : List FindCase
finding_cases =
    finds p1 [] (at First 0 24) p1 (1, 100)
    -- the shortest there is, and the longest
    ∷ finds of21 [] (at First 0 21) of21 (1, 100)
    ∷ finds of28 [] (at First 0 28) of28 (1, 100)
    -- behind others and before others
    ∷ finds (fade 3 ++ p1 ++ fade 2) [] (at First 3 24) p1 (1, 103)
    -- "failing that, in the second's"
    ∷ finds [] p1 (at Second 0 24) p1 (2, 200)
    ∷ finds (fade 5) (9 ∷ of21) (at Second 1 21) of21 (2, 201)
    -- faded in the one, whole in the other
    ∷ finds (set p1 20 9) (9 ∷ p1) (at Second 1 24) p1 (2, 201)
    ∷ finds (9 ∷ p1) (set p1 20 9) (at First 1 24) p1 (1, 101)
    -- in both: the first receiver's, though the other's stands earlier
    ∷ finds (fade 2 ++ p1) of21 (at First 2 24) p1 (1, 102)
    -- "the earliest starting place": of two, whichever is the shorter
    ∷ finds (of28 ++ of21) [] (at First 0 28) of28 (1, 100)
    ∷ finds (of21 ++ of28) [] (at First 0 21) of21 (1, 100)
    -- a 123 before it, one cut short before it, one whose check differs before it
    ∷ finds (123 ∷ p1) [] (at First 1 24) p1 (1, 101)
    ∷ finds (take 20 p1 ++ of21) [] (at First 20 21) of21 (1, 120)
    ∷ finds (set of21 20 9 ++ p1) [] (at First 21 24) p1 (1, 121)
    -- it begins where another, which is none, would end
    ∷ finds (set p1 23 123 ++ drop 1 of21) [] (at First 23 21) of21 (1, 123)
    -- one symbol short at either end, over 127, and nothing at all
    ∷ finds_none (take 23 p1) (drop 1 p1)
    ∷ finds_none (set p1 2 148) (take 20 of21)
    ∷ finds_none (fade 30) []
    ∷ finds_none [] []
    -- half in the one and half in the other
    ∷ finds_none (take 12 p1) (drop 12 p1)
    ∷ []

abbrev pub computed_of : FindCase → FindCase
computed_of c =
    let found = found_in c.first c.second in
    finds c.first c.second found (stretch_found c.first c.second) (place_found found first_stands second_stands)
