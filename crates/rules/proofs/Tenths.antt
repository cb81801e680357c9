-- The tenths: time moves on, and theorem two.
use mathlib.Core.Path.{◌≡◌, refl, sym, ap, ◌∙◌}
use mathlib.Core.List.{List, [], ◌∷◌, map}
use mathlib.Core.Bool.{Bool, true, false, cond}
use mathlib.Core.Option.{Option, none, some}
use Prim.Native.Nat.{ℕ, zero, suc, ◌+◌, ◌-◌, ◌*◌, ◌≤◌}
use native.Mathlib.Omega.{arith}
use lib.Dec.{eqb}
use lib.ListN.{length, replicate}
use borrow.Author.Tests.{leb-true}
use Rattle.rules.specs.Rules.Places.{all}
use Rattle.rules.specs.Rules.Words.{Party, Config, Ashore, What, Event, Deed, carrier_on, carrier_off, acknowledge, call_ship, unable, dial, release_line, ringing_on, ringing_off, busy_tone}
use Rattle.rules.specs.Rules.Actions.{Charge}
use Rattle.rules.specs.Rules.Station.{Dealing, Stage, Slot, Station, fresh, answered_at, answered_in}
use Rattle.rules.specs.Rules.Calls.{act}
use Rattle.rules.specs.Rules.Verdict.{verdict, play, final}
use Rattle.rules.specs.ListAlone.Book.{Note, Stop, Call, quiet, called, dialled, talking, Book, at_places, blank}
use Rattle.rules.specs.ListAlone.Reading.{join, read, reads, turn, stops_in, Numbered, numbered, is_talking, talkers, counted, talked, talked_by, falling, moment}
use Rattle.rules.specs.Statement.{notes, charged, owed, tenths_in, uncharged_from, uncharged_slot, uncharged_slots, uncharged_tenths, TenthsAgree}
use Rattle.sequence.proofs.Tests.{both_true}
use Rattle.rules.proofs.Base.{by-kind, by-stage, line_of, call_in, view, seen, Calling, no_call, a-caller, a_call, calling, fresh-mapped, begun, begun_by}
use Rattle.rules.proofs.Accepted.{accepted, sounds, begun_all}
use Rattle.rules.proofs.Run.{note_of, turn_is, stops-are, play-on, play-past, final-on, final-past, fresh-seen}
use Rattle.rules.proofs.Talked.{sum, turn-takes}
use Rattle.rules.proofs.Moments.{moment-on}
use Rattle.rules.proofs.Hears.{Hearing, no-column, one-column, all-columns, event-hearing}

-- ── the time moves on ────────────────────────────────────────────────────────

-- since when a call is answered, if it is
abbrev answered_of : Call → Option ℕ
answered_of quiet = none
answered_of (called r b) = none
answered_of (dialled x o) = none
answered_of (talking x b) = some b

abbrev pub since : ℕ → Call → Bool
since t k = begun t (answered_of k)

call-answered : (r : Dealing) (g : Stage) → answered_of (call_in r g) ≡ answered_at g
call-answered r = by-stage (λ s. answered_of (call_in r s) ≡ answered_at s) (λ d. refl) (λ d. refl) (λ b. refl)

slot-answered : (s : Slot) → answered_of (view s).call ≡ answered_in s
slot-answered s = go s (view s).call (calling s)
  where
    go : (s : Slot) (k : Call) → Calling s k → answered_of k ≡ answered_in s
    go _ _ (no_call s n) = sym n
    go _ _ (a-caller k r d) = by-kind (λ z. answered_of (line_of z r) ≡ none) refl refl refl refl refl refl refl k
    go _ _ (a_call r g c) = call-answered r g

pub since-slot : (t : ℕ) (s : Slot) → since t (view s).call ≡ begun_by t s
since-slot t s = ap (begun t) (slot-answered s)

talked-from : (t : ℕ) (k : Call) → talked t k ≡ uncharged_from t (answered_of k)
talked-from t quiet = refl
talked-from t (called r b) = refl
talked-from t (dialled x o) = refl
talked-from t (talking x b) = refl

uncharged-slot : (t : ℕ) (s : Slot) → talked t (view s).call ≡ uncharged_slot t s
uncharged-slot t s = talked-from t (view s).call ∙ ap (uncharged_from t) (slot-answered s)

uncharged-slots : (t : ℕ) (ss : List Slot) → talked_by t (map view ss) ≡ uncharged_slots t ss
uncharged-slots t [] = refl
uncharged-slots t (s ∷ ss) = rw (uncharged-slot t s, uncharged-slots t ss) refl

advance-one : (c t : ℕ) → c ≤ t → (k : Call) → since c k ≡ true → talked t k ≡ talked c k + (t - c) * is_talking k
advance-one c t h quiet e = omega arith
advance-one c t h (called r b) e = omega arith
advance-one c t h (dialled x o) e = omega arith
advance-one c t h (talking x b) e = omega (arith, leb-true b c e)

add-both : (d x y p q a b : ℕ) → a ≡ x + d * p → b ≡ y + d * q → a + b ≡ x + y + d * (p + q)
add-both d x y p q a b h k = omega arith

advance : (c t : ℕ) → c ≤ t → (ss : List Slot) → all (begun_by c) ss ≡ true → talked_by t (map view ss) ≡ talked_by c (map view ss) + (t - c) * talkers (map view ss)
advance c t h [] e = omega arith
advance c t h (s ∷ ss) e =
    let w = both_true (begun_by c s) (all (begun_by c) ss) e in
    let a = advance-one c t h (view s).call (since-slot c s ∙ w.0) in
    let r = advance c t h ss w.1 in
    add-both (t - c) (talked c (view s).call) (talked_by c (map view ss)) (is_talking (view s).call) (talkers (map view ss)) (talked t (view s).call) (talked_by t (map view ss)) a r

-- ── the run ──────────────────────────────────────────────────────────────────

tenths-numbered : (k : ℕ) (cs : List Stop) (r : List (Numbered Charge)) → tenths_in (numbered k (map owed cs) r) ≡ sum cs + tenths_in r
tenths-numbered k [] r = omega arith
tenths-numbered k (c ∷ cs) r = omega (arith, tenths-numbered k cs r)

pub uncharged-seen : (st : Station) → uncharged_tenths st ≡ talked_by st.clock (seen st).columns
unfolding uncharged_tenths seen
uncharged-seen st = sym (uncharged-slots st.clock st.slots)

reads_now : (q : Option Ashore) (u : ℕ) (ds : List Deed) (b : Book) → (reads q u ds b).now ≡ b.now
unfolding reads
reads_now q u [] b = refl
reads_now q u (d ∷ ds) b = reads_now q u ds (read q u d b) ∙ one q d
  where
    queued-now : (n : ℕ) (x : Party) (c : Bool) → (cond c (at_places (join u x) b) b).now ≡ b.now
    queued-now n x true = refl
    queued-now n x false = refl

    one : (q : Option Ashore) (d : Deed) → (read q u d b).now ≡ b.now
    one q (carrier_on i) = refl
    one q (carrier_off i) = refl
    one q (acknowledge i r) = refl
    one none (call_ship i r) = refl
    one (some o) (call_ship i r) = refl
    one q (unable n x digits) = queued-now n x (eqb n 103)
    one q (dial i n) = refl
    one q (release_line i) = refl
    one q (ringing_on i) = refl
    one q (ringing_off i) = refl
    one q (busy_tone i) = refl

hearing-now : (u : ℕ) (e : What) (b k : Book) (cs : List Stop) → Hearing u e b k cs → k.now ≡ u
hearing-now u e b _ _ (no-column ps) = refl
hearing-now u e b _ _ (one-column i f s h) = refl
hearing-now u e b _ _ (all-columns x) = refl

pub turn-now : (cfg : Config) (b : Book) (n : Note) → (turn cfg b n).now ≡ moment b n.event
unfolding turn
turn-now cfg b n = reads_now _ _ n.deeds _ ∙ hearing-now _ _ b _ _ (event-hearing cfg (moment b n.event) b (falling b n.event) n.event.what)

-- the clock of the next station is the entry's moment
pub clock-is : (cfg : Config) (st : Station) (e : Event) → verdict cfg st e ≡ none → (act cfg st e).next.clock ≡ moment (seen st) e
unfolding seen
clock-is cfg st e v = sym (ap (λ (b : Book). b.now) (turn_is cfg st e v)) ∙ turn-now cfg (seen st) (note_of e (act cfg st e).acts)

settle-up : (h x s a n w : ℕ) → w ≡ h + x → s + a ≡ w → n ≡ a → h + x ≡ s + n
settle-up h x s a n w p q r = omega arith

-- one entry: what ran before, and the tenths that passed, are what it charges and what runs after
entry-tenths : (cfg : Config) (st : Station) (e : Event) → verdict cfg st e ≡ none
    → uncharged_tenths st + (moment (seen st) e - st.clock) * talkers (seen st).columns ≡ sum (stops_in cfg (seen st) (note_of e (act cfg st e).acts)) + uncharged_tenths (act cfg st e).next
unfolding seen
entry-tenths cfg st e v =
    let t = moment (seen st) e in
    let o = act cfg st e in
    let after : ℕ = talked_by t (turn cfg (seen st) (note_of e o.acts)).columns in
    let p1 : talked_by t (seen st).columns ≡ uncharged_tenths st + (t - st.clock) * talkers (seen st).columns = rw (uncharged-seen st) (advance st.clock t (moment-on cfg st e v) st.slots (begun_all cfg st (sounds cfg st (accepted cfg st e v).is-sound))) in
    let p2 : sum (stops_in cfg (seen st) (note_of e o.acts)) + after ≡ talked_by t (seen st).columns = turn-takes cfg (seen st) (note_of e o.acts) in
    let p3 : uncharged_tenths o.next ≡ after = uncharged-seen o.next ∙ ap (λ (c : ℕ). talked_by c (seen o.next).columns) (clock-is cfg st e v) ∙ ap (λ (b : Book). talked_by t b.columns) (sym (turn_is cfg st e v)) in
    settle-up (uncharged_tenths st) ((t - st.clock) * talkers (seen st).columns) (sum (stops_in cfg (seen st) (note_of e o.acts))) after (uncharged_tenths o.next) (talked_by t (seen st).columns) p1 p2 p3

carry : (s r f h x n c : ℕ) → h + x ≡ s + n → r + f ≡ n + c → s + r + f ≡ h + (x + c)
carry s r f h x n c p q = omega arith

run-tenths : (cfg : Config) (es : List Event) (k : ℕ) (st : Station) → tenths_in (charged k (play cfg es st)) + uncharged_tenths (final cfg es st) ≡ uncharged_tenths st + counted cfg (notes (play cfg es st)) (seen st)
unfolding play final charged counted notes seen
run-tenths cfg [] k st = omega arith
run-tenths cfg (e ∷ es) k st = go (verdict cfg st e) refl (λ k s. run-tenths cfg es k s)
  where
    go : (o : Option ℕ) → verdict cfg st e ≡ o → ((k : ℕ) (s : Station) → tenths_in (charged k (play cfg es s)) + uncharged_tenths (final cfg es s) ≡ uncharged_tenths s + counted cfg (notes (play cfg es s)) (seen s))
        → tenths_in (charged k (play cfg (e ∷ es) st)) + uncharged_tenths (final cfg (e ∷ es) st) ≡ uncharged_tenths st + counted cfg (notes (play cfg (e ∷ es) st)) (seen st)
    go none h ih = rw (play-on cfg e es st h, final-on cfg e es st h, turn_is cfg st e h, stops-are cfg st e h, tenths-numbered k (stops_in cfg (seen st) (note_of e (act cfg st e).acts)) (charged (suc k) (play cfg es (act cfg st e).next))) (carry (sum (stops_in cfg (seen st) (note_of e (act cfg st e).acts))) (tenths_in (charged (suc k) (play cfg es (act cfg st e).next))) (uncharged_tenths (final cfg es (act cfg st e).next)) (uncharged_tenths st) ((moment (seen st) e - st.clock) * talkers (seen st).columns) (uncharged_tenths (act cfg st e).next) (counted cfg (notes (play cfg es (act cfg st e).next)) (seen (act cfg st e).next)) (entry-tenths cfg st e h) (ih (suc k) (act cfg st e).next))
    go (some n) h ih = rw (play-past cfg e es st n h, final-past cfg e es st n h) (ih k st)

none-uncharged : (n : ℕ) → talked_by 0 (replicate n blank) ≡ 0
none-uncharged zero = refl
none-uncharged (suc n) = omega (arith, none-uncharged n)

fresh-uncharged : (cfg : Config) → uncharged_tenths (fresh cfg) ≡ 0
unfolding uncharged_tenths fresh
fresh-uncharged cfg = sym (uncharged-slots 0 (fresh cfg).slots) ∙ ap (talked_by 0) (fresh-mapped cfg view) ∙ none-uncharged (length cfg.channels)

zero_left : (a b c : ℕ) → a ≡ 0 → b ≡ a + c → b ≡ c
zero_left a b c p q = omega arith

-- after every event: the charged tenths and those of the answered calls not charged yet are the answered tenths counted from the list
pub tenths-agree : TenthsAgree
unfolding TenthsAgree
tenths-agree cfg set es = rw (← (fresh-seen cfg)) (zero_left (uncharged_tenths (fresh cfg)) _ _ (fresh-uncharged cfg) (run-tenths cfg es 0 (fresh cfg)))
