-- The clock goes on, a charge's beginning is not after its end, its end is the clock; and the two counts agree.
use mathlib.Core.Path.{◌≡◌, refl, sym, ap, ◌∙◌}
use mathlib.Core.List.{List, [], ◌∷◌, map}
use mathlib.Core.Bool.{true}
use mathlib.Core.Option.{Option, none}
use Prim.Native.Nat.{ℕ, ◌+◌, ◌≤◌}
use native.Mathlib.Omega.{arith}
use borrow.Author.Tests.{leb-true}
use Rattle.rules.specs.Rules.Places.{all, Each}
use Rattle.rules.specs.Rules.Words.{Config, What, Event}
use Rattle.rules.specs.Rules.Waits.{Due}
use Rattle.rules.specs.Rules.Station.{Slot, Station, fresh}
use Rattle.rules.specs.Rules.Calls.{act}
use Rattle.rules.specs.Rules.Verdict.{verdict, play, final}
use Rattle.rules.specs.ListAlone.Book.{Stop, Call, quiet, called, dialled, talking, Book, blank_book}
use Rattle.rules.specs.ListAlone.Reading.{stops_in, Numbered, stops, read_all, talked_by, lengths, counted_by_calls, falling, moment, stop_of, stops_at}
use Rattle.rules.specs.Statement.{notes, owed, owed_for, ChargesAreStops, tenths_in, uncharged_tenths, TenthsAgree, CountsAgree, InOrder, ClockIsNow, EndsAt}
use Rattle.sequence.proofs.Tests.{both_true}
use Rattle.rules.proofs.Base.{view, seen, begun_by}
use Rattle.rules.proofs.Accepted.{accepted, sounds, begun_all}
use Rattle.rules.proofs.Run.{note_of, stops-are, fresh-seen, charges-are-stops}
use Rattle.rules_theorems.proofs.Entries.{read-final}
use Rattle.rules_theorems.proofs.Stopped.{each-stop}
use Rattle.rules.proofs.Tenths.{since, since-slot, uncharged-seen, clock-is, tenths-agree}
use Rattle.rules.proofs.Moments.{moment-on}

-- ── the order of times ───────────────────────────────────────────────────────

module _ (cfg : Config) (c t : ℕ) (h : c ≤ t) where
  one-good : (i : ℕ) (k : Call) → since c k ≡ true → Each (λ s. EndsAt t (owed s)) (stop_of t i k)
  one-good i quiet e = tt
  one-good i (called r b) e = tt
  one-good i (dialled r o) e = tt
  one-good i (talking r b) e = let a = leb-true b c e in ((omega arith, refl), tt)

  all-good : (b : Book) → all (λ l. since c l.call) b.columns ≡ true → (o : Option Due) (w : What)
      → Each (λ s. EndsAt t (owed s)) (stops_at cfg t b o w)
  all-good b e o w = each-stop cfg t (λ s. EndsAt t (owed s)) (since c) refl one-good b e o w

all-since : (c : ℕ) (ss : List Slot) → all (begun_by c) ss ≡ true → all (λ l. since c l.call) (map view ss) ≡ true
all-since c [] h = refl
all-since c (s ∷ ss) h = let w = both_true (begun_by c s) (all (begun_by c) ss) h in rw (since-slot c s, w.0) (all-since c ss w.1)

owed-each : (t : ℕ) (ss : List Stop) → Each (λ s. EndsAt t (owed s)) ss → Each (EndsAt t) (map owed ss)
owed-each t [] g = tt
owed-each t (s ∷ ss) g = (g.0, owed-each t ss g.1)

stops-good : (cfg : Config) (st : Station) (e : Event) → verdict cfg st e ≡ none → Each (λ s. EndsAt (moment (seen st) e) (owed s)) (stops_in cfg (seen st) (note_of e (act cfg st e).acts))
unfolding stops_in seen
stops-good cfg st e v = all-good cfg st.clock (moment (seen st) e) (moment-on cfg st e v) (seen st) (all-since st.clock st.slots (begun_all cfg st (sounds cfg st (accepted cfg st e v).is-sound))) (falling (seen st) e) e.what

pub in_order : InOrder
unfolding InOrder
in_order cfg st e v = rw (clock-is cfg st e v, stops-are cfg st e v) (moment-on cfg st e v, owed-each (moment (seen st) e) (stops_in cfg (seen st) (note_of e (act cfg st e).acts)) (stops-good cfg st e v))

-- ── the two counts ───────────────────────────────────────────────────────────

owed-lengths : (ss : List (Numbered Stop)) → tenths_in (owed_for ss) ≡ lengths ss
owed-lengths [] = refl
owed-lengths (s ∷ ss) = rw (owed-lengths ss) refl

uncharged-read : (cfg : Config) (es : List Event) → talked_by (read_all cfg (notes (play cfg es (fresh cfg))) (blank_book cfg)).now (read_all cfg (notes (play cfg es (fresh cfg))) (blank_book cfg)).columns ≡ uncharged_tenths (final cfg es (fresh cfg))
unfolding seen
uncharged-read cfg es = ap (λ (b : Book). talked_by b.now b.columns) (ap (read_all cfg (notes (play cfg es (fresh cfg)))) (sym (fresh-seen cfg)) ∙ read-final cfg es (fresh cfg)) ∙ sym (uncharged-seen (final cfg es (fresh cfg)))

pub counts-agree : CountsAgree
unfolding CountsAgree counted_by_calls ChargesAreStops TenthsAgree
counts-agree cfg set es = ap (λ m. lengths (stops cfg 0 (notes (play cfg es (fresh cfg))) (blank_book cfg)) + m) (uncharged-read cfg es) ∙ ap (λ m. m + uncharged_tenths (final cfg es (fresh cfg))) (sym (ap tenths_in (charges-are-stops cfg set es) ∙ owed-lengths (stops cfg 0 (notes (play cfg es (fresh cfg))) (blank_book cfg)))) ∙ tenths-agree cfg set es

-- the station's clock is the time of the last entry
pub clock-is-now : ClockIsNow
unfolding ClockIsNow seen
clock-is-now cfg set es = ap (λ (b : Book). b.now) (ap (read_all cfg (notes (play cfg es (fresh cfg)))) (sym (fresh-seen cfg)) ∙ read-final cfg es (fresh cfg))
