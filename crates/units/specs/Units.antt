-- Tenths, charged seconds and durations: document 01, "so that no tenth is ever read as a charged second".
use Rattle.std.specs.Prelude.{ℕ, ◌/◌, ◌%◌, cond, leb, Option as Optional, Some, None}
use Rattle.units.specs.declared.Tenths.{Tenths}
use Rattle.units.specs.declared.Seconds.{Seconds}
use Rattle.units.specs.declared.Duration.{Duration}

-- the greatest number that a script or a host in C can hand in
abbrev pub greatest : ℕ
greatest = 4294967295

-- "whole seconds, rounded down"
abbrev pub whole_seconds : Tenths → Seconds
whole_seconds t = record { 0 = t.0 / 10 }

-- hours, minutes and seconds; "100 hours and over: 126s"
abbrev pub duration_of : Seconds → Optional Duration
duration_of s =
    cond (leb s.0 359999)
    (Some (record { hours = s.0 / 3600; minutes = s.0 / 60 % 60; seconds = s.0 % 60 }))
    None
