use mathlib.Core.Path.{sym}
use native.Mathlib.Nat.{zero-add}
use Rattle.receivers.specs.Finding.{bytes_of, placed_at, stretch_found, place_found}
use Rattle.receivers.proofs.FoundLaws.{found_within}
use Rattle.receivers.proofs.find_sequence.Goals as goal

pub returns-in_default : goal.returns-in_default
unfolding bytes_of placed_at stretch_found place_found
returns-in_default c = record { contents = rw (← c.in_default.ensures); location = rw (← c.in_default.ensures, zero-add) }

pub part-requires : goal.part-requires
part-requires c = let a = c.args in
    let e = sym c.in-Some.ensures in
    rw c.in-First.is at (rw e at (found_within a.first.now a.second.now))

pub part-requires-in-Second : goal.part-requires-in-Second
part-requires-in-Second c = let a = c.args in
    let e = sym c.in-Some.ensures in
    rw c.in-Second.is at (rw e at (found_within a.first.now a.second.now))

pub returns-in-First : goal.returns-in-First
unfolding stretch_found place_found
returns-in-First c = let e = c.in-Some.ensures in
    let which = c.in-First.is in
    record { contents = rw (← e, which, c.part.ensures.contents); location = rw (← e, which, c.part.ensures.location) }

pub returns-in-Second : goal.returns-in-Second
unfolding stretch_found place_found
returns-in-Second c = let e = c.in-Some.ensures in
    let which = c.in-Second.is in
    record { contents = rw (← e, which, c.part-in-Second.ensures.contents); location = rw (← e, which, c.part-in-Second.ensures.location) }
