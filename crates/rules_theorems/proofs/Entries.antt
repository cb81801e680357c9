-- A claim on every entry of a run, and on the station after it: it is shown of one accepted event, where what a reader has kept fits the
-- station.
use mathlib.Core.Path.{◌≡◌, refl}
use mathlib.Core.List.{List, [], ◌∷◌, ◌++◌}
use mathlib.Core.Option.{Option, none, some}
use Prim.Native.Nat.{ℕ}
use native.Mathlib.Omega.{arith}
use Rattle.rules.specs.Rules.Words.{Config, Event}
use Rattle.rules.specs.Rules.Station.{Station, fresh}
use Rattle.rules.specs.Rules.Calls.{act}
use Rattle.rules.specs.Rules.Verdict.{verdict, play, final}
use Rattle.rules.specs.ListAlone.Book.{Note, Book, blank_book}
use Rattle.rules.specs.ListAlone.Reading.{turn, read_all}
use Rattle.rules.specs.Statement.{notes, EveryEntry, OfEveryEntry}
use Rattle.rules.proofs.Base.{seen}
use Rattle.rules.proofs.Run.{note_of, turn_is, play-on, play-past, final-on, final-past, fresh-seen}

-- what is kept, changed by one entry and by a list of them
pub record Reader (S : Type 0) : Type 0 where
  pub on : Note → S → S
  pub after : List Note → S → S
  pub at_first : (s : S) → after [] s ≡ s
  pub one_by_one : (n : Note) (l : List Note) (s : S) → after (n ∷ l) s ≡ after l (on n s)

-- every accepted event leaves it fitting
abbrev pub FitsOn : {S : Type 0} → Reader S → Config → (S → Station → Type 0) → Type 0
FitsOn k cfg Fits = (s : _) (st : Station) (e : Event) → verdict cfg st e ≡ none → Fits s st → Fits (k.on (note_of e (act cfg st e).acts) s) (act cfg st e).next

module _ {S : Type 0} (k : Reader S) (cfg : Config) (Fits : S → Station → Type 0) (fits : FitsOn k cfg Fits) where
  pub run-final : (es : List Event) (s : S) (st : Station) → Fits s st → Fits (k.after (notes (play cfg es st)) s) (final cfg es st)
  unfolding play final notes
  run-final [] s st f = rw (k.at_first s) f
  run-final (e ∷ es) s st f = go (verdict cfg st e) refl (λ s st. run-final es s st)
    where
      go : (o : Option ℕ) → verdict cfg st e ≡ o → ((s : S) (st : Station) → Fits s st → Fits (k.after (notes (play cfg es st)) s) (final cfg es st)) → Fits (k.after (notes (play cfg (e ∷ es) st)) s) (final cfg (e ∷ es) st)
      go none v ih = rw (play-on cfg e es st v, final-on cfg e es st v, k.one_by_one (note_of e (act cfg st e).acts) (notes (play cfg es (act cfg st e).next)) s) (ih _ (act cfg st e).next (fits s st e v f))
      go (some n) v ih = rw (play-past cfg e es st n v, final-past cfg e es st n v) (ih s st f)

  module _ (P : S → Note → Type 0) (claim : (s : S) (st : Station) (e : Event) → verdict cfg st e ≡ none → Fits s st → P s (note_of e (act cfg st e).acts)) where
    abbrev Entries : S → List Note → Type 0
    Entries s l = EveryEntry (λ c before n. P (k.after before s) n) cfg l

    no-entry : (s : S) → Entries s []
    no-entry s [] n rest e = let y : ◌≡◌ {A = ℕ} 0 1 = cc in absurd (omega arith)
    no-entry s (m ∷ before) n rest e = let y : ◌≡◌ {A = ℕ} 0 1 = cc in absurd (omega arith)

    one_more : (s : S) (m : Note) (l : List Note) → P s m → Entries (k.on m s) l → Entries s (m ∷ l)
    one_more s m l p f [] n rest e = let y : m ≡ n = cc in rw (k.at_first s, ← y) p
    one_more s m l p f (o ∷ before) n rest e = let y : m ≡ o = cc in let z : l ≡ before ++ n ∷ rest = cc in rw (k.one_by_one o before s, ← y) (f before n rest z)

    pub run-entries : (es : List Event) (s : S) (st : Station) → Fits s st → Entries s (notes (play cfg es st))
    unfolding play notes
    run-entries [] s st f = no-entry s
    run-entries (e ∷ es) s st f = go (verdict cfg st e) refl (λ s st. run-entries es s st)
      where
        go : (o : Option ℕ) → verdict cfg st e ≡ o → ((s : S) (st : Station) → Fits s st → Entries s (notes (play cfg es st))) → Entries s (notes (play cfg (e ∷ es) st))
        go none v ih = rw (play-on cfg e es st v) (one_more s (note_of e (act cfg st e).acts) _ (claim s st e v f) (ih _ (act cfg st e).next (fits s st e v f)))
        go (some n) v ih = rw (play-past cfg e es st n v) (ih s st f)

-- ── the book ─────────────────────────────────────────────────────────────────

module _ (cfg : Config) where
  keeps-book : Reader Book
  unfolding read_all
  keeps-book = record { on = λ n b. turn cfg b n; after = read_all cfg; at_first = λ b. refl; one_by_one = λ n l b. refl }

  abbrev IsSeen : Book → Station → Type 0
  IsSeen b st = b ≡ seen st

  seen-on : FitsOn keeps-book cfg IsSeen
  unfolding keeps-book
  seen-on b st e v f = rw f (turn_is cfg st e v)

  pub read-final : (es : List Event) (st : Station) → read_all cfg (notes (play cfg es st)) (seen st) ≡ seen (final cfg es st)
  unfolding keeps-book
  read-final es st = run-final keeps-book cfg IsSeen seen-on es (seen st) st refl

-- what holds of every accepted event, with the book before it, holds of every entry
pub book-entries : (P : Config → Book → Note → Type 0) → ((cfg : Config) (st : Station) (e : Event) → verdict cfg st e ≡ none → P cfg (seen st) (note_of e (act cfg st e).acts))
    → OfEveryEntry (λ c before n. P c (read_all c before (blank_book c)) n)
unfolding keeps-book
book-entries P h cfg set es = rw (← (fresh-seen cfg)) (run-entries (keeps-book cfg) cfg (IsSeen cfg) (seen-on cfg) (P cfg) (λ b st e v f. rw f (h cfg st e v)) es (seen (fresh cfg)) (fresh cfg) refl)
