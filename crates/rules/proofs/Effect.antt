-- What an event comes to, said once: the one walk of the kinds of events. A law on every event goes by effect.
use mathlib.Core.Path.{◌≡◌, refl, sym, ap, subst, ◌∙◌}
use mathlib.Core.List.{List, []}
use mathlib.Core.Bool.{true, false, ◌&&◌, cond, Bool}
use mathlib.Core.Option.{Option, none, some}
use Prim.Native.Nat.{ℕ, ◌≤◌, ◌<◌}
use native.Mathlib.Omega.{arith}
use lib.ListN.{get_or, length}
use lib.Dec.{eqb}
use Rattle.sequence.specs.Answers.{is_done}
use Rattle.sequence.specs.Reading.{answer_of}
use Rattle.rules.specs.Rules.Places.{mod_at, drop_at, is_some}
use Rattle.rules.specs.Rules.Words.{Party, Request, Config, Ashore, What, tick, on_channel70, on_slot, from_ashore, ashore_in, Event, is_answering, is_transmitting}
use Rattle.rules.specs.Rules.Waits.{Wait, of_queue, loss, main, Due}
use Rattle.rules.specs.Rules.Heard.{Heard, call_request, data_request, bq, working_call, end_of_call, declined, nothing, meaning}
use Rattle.rules.specs.Rules.Station.{Station, the_slot, set_clock, set_queue, used_up, fires}
use Rattle.rules.specs.Rules.Requests.{Out, done, Standing, nowhere, holds, waits, standing, being_called, rule_a, requested, ignored}
use Rattle.rules.specs.Rules.Ashore.{ashore_request, slot_to_take, called_from}
use Rattle.rules.specs.Rules.Calls.{declined_at, fire, ticked, heard_on70, act_at}
use Rattle.rules.specs.Rules.Verdict.{overtaken, read_in, verdict}
use Rattle.rules.specs.ListAlone.Book.{Stop, Column, Book, at_column, at_places}
use Rattle.rules.specs.ListAlone.Reading.{hear_heard, hear_due, hear, set_now, falls_at, moment_of, moment, stops_due, stops_again, stops_heard, stops_at, heard_at}
use Rattle.rules.specs.ListAlone.LineWords.{Word, worded, unused, word_heard, answer, transmit}
use Rattle.rules.proofs.PlaceLaws.{mod_at-length, mod_at-none}
use Rattle.rules.proofs.Base.{seen, falls-fires, column-is}
use Rattle.rules.proofs.Outcome.{lifted, Outcome, end-outcome, bq-outcome, declined-outcome, main-outcome, happened-outcome}
use Rattle.rules.proofs.Spoken.{words, one_of}
use Rattle.rules.proofs.Accepted.{accepted}

-- ── the effect ───────────────────────────────────────────────────────────────

-- st stands at the event's moment; the event is asked ashore, is read into a book and the words of all slots, stops calls, and is heard on
-- channel 70
pub data Effect (cfg : Config) (st : Station) : Option Ashore → Book → List Word → List Stop → Heard → Out → Type 0 where
  -- nothing but the clock moves
  rests : {q : Option Ashore} (m : Heard) (n : ℕ) → n ≤ 1 → Effect cfg st q (seen st) (words st) [] m (record { answer = n; next = st; acts = [] })
  -- the time of a waiting ship is over
  drops : (k : ℕ) → Effect cfg st none (at_places (drop_at k) (seen st)) (words st) [] nothing (done (set_queue (drop_at k st.queue) st))
  -- a request on channel 70
  data-asked : (x : Party) (n : List ℕ) → Effect cfg st none (seen st) (words st) [] (data_request x n) (rule_a st x n)
  call-asked : (r : Request) → Effect cfg st none (hear_heard st.clock (call_request r) (seen st)) (words st) (stops_again st.clock r.who 0 (seen st).columns) (call_request r) (requested st r (standing st r.who))
  -- whatever happens to a slot
  to-slot : (m : Heard) (i : ℕ) {f : Column → Column} {w : Word → Word} {ws : List Word} {cs : List Stop} {o : Out} → Outcome i st f w cs (the_slot st i) o → ws ≡ mod_at w i (words st)
      → Effect cfg st none (at_column i f (seen st)) ws cs m o
  -- a call from ashore
  called-ashore : (a : Ashore) (i : ℕ) → slot_to_take st ≡ some i → Effect cfg st (some a) (seen st) (words st) [] nothing (called_from st (ashore_request cfg a) (some i))

-- ── an event of each kind ────────────────────────────────────────────────────

data-effect : (cfg : Config) (st : Station) (x : Party) (n : List ℕ) (b : Bool) → Effect cfg st none (seen st) (words st) [] (data_request x n) (cond b (ignored st) (rule_a st x n))
data-effect cfg st x n true = rests (data_request x n) 1 (omega arith)
data-effect cfg st x n false = data-asked x n

-- nothing is read of it but what is then done
unread : (i : ℕ) (b : Book) → at_column i (λ l. l) b ≡ b
unread i b = ap (λ (ls : List Column). record { now = b.now; columns = ls; places = b.places; given = b.given }) (sym (mod_at-none i b.columns))

declined-effect : (cfg : Config) (st : Station) (x : Party) (s : Standing) → Effect cfg st none (seen st) (words st) [] (declined x) (declined_at st s)
unfolding declined_at
declined-effect cfg st x nowhere = rests (declined x) 1 (omega arith)
declined-effect cfg st x (holds i) = subst (λ b. Effect cfg st none b (words st) [] (declined x) (declined_at st (holds i))) (unread i (seen st)) (to-slot (declined x) i (declined-outcome i st (the_slot st i)) (mod_at-none i (words st)))
declined-effect cfg st x (waits k) = rests (declined x) 1 (omega arith)

heard-effect : (cfg : Config) (st : Station) (m : Heard) → Effect cfg st none (hear_heard st.clock m (seen st)) (words st) (stops_heard st.clock (seen st).columns m) m (heard_on70 st m)
unfolding heard_on70
heard-effect cfg st (call_request r) = call-asked r
heard-effect cfg st (data_request x n) = data-effect cfg st x n (being_called st x)
heard-effect cfg st (bq i x) = to-slot (bq i x) i (bq-outcome i st x (the_slot st i)) (mod_at-none i (words st))
heard-effect cfg st (working_call x) = rests (working_call x) 1 (omega arith)
heard-effect cfg st (declined x) = declined-effect cfg st x (standing st x)
heard-effect cfg st (end_of_call x) = rests (end_of_call x) 1 (omega arith)
heard-effect cfg st nothing = rests nothing 1 (omega arith)

fire-effect : (cfg : Config) (st : Station) (w : Wait) (d : ℕ)
    → Effect cfg (set_clock d st) none (hear_due (set_now d (seen st)) (some record { what = w; at = d })) (words st) (stops_due d (seen st) (some record { what = w; at = d })) nothing (fire (set_clock d st) w)
unfolding fire set_clock seen
fire-effect cfg st (of_queue k) d = drops k
fire-effect cfg st (loss i) d = rw (column-is i st (the_slot st i) refl) (to-slot nothing i (end-outcome i (set_clock d st) (the_slot st i)) (mod_at-none i (words st)))
fire-effect cfg st (main i) d = to-slot nothing i (main-outcome i (set_clock d st) (the_slot st i)) (mod_at-none i (words st))

tick-effect : (cfg : Config) (st : Station) (t : ℕ) (o : Option Due)
    → Effect cfg (set_clock (moment_of t o) st) none (hear_due (set_now (moment_of t o) (seen st)) o) (words st) (stops_due (moment_of t o) (seen st) o) nothing (ticked st t o)
unfolding ticked set_clock seen
tick-effect cfg st t none = rests nothing 0 (omega arith)
tick-effect cfg st t (some p) = fire-effect cfg st p.what p.at

-- the words of all slots, one of them being answered
abbrev pub heard_by : ℕ → What → List Word → List Word
heard_by t tick ws = ws
heard_by t (on_channel70 m) ws = ws
heard_by t (on_slot j h) ws = mod_at (lifted t h) j ws
heard_by t (from_ashore a) ws = ws

abbrev pub EffectOf : Config → Station → ℕ → What → ℕ → Option Due → Type 0
EffectOf cfg st t w u f = Effect cfg (set_clock u st) (ashore_in w) (hear cfg u f w (set_now u (seen st))) (heard_by t w (words st)) (stops_at cfg u (seen st) f w) (heard_at cfg w) (act_at cfg st t w)

ashore-effect : (cfg : Config) (st : Station) (a : Ashore) (o : Option ℕ) → slot_to_take st ≡ o → Effect cfg st (some a) (seen st) (words st) [] nothing (called_from st (ashore_request cfg a) o)
unfolding called_from
ashore-effect cfg st a none h = rests nothing 1 (omega arith)
ashore-effect cfg st a (some i) h = called-ashore a i h

pub act-effect : (cfg : Config) (st : Station) (t : ℕ) (w : What) → EffectOf cfg st t w (moment_of t (falls_at (seen st) t w)) (falls_at (seen st) t w)
unfolding act_at seen set_clock used_up
act-effect cfg st t tick = rw (falls-fires t st) (tick-effect cfg st t (fires t st))
act-effect cfg st t (on_channel70 m) = heard-effect cfg (set_clock t st) (meaning cfg m)
act-effect cfg st t (from_ashore a) = ashore-effect cfg (set_clock t st) a (slot_to_take st) refl
act-effect cfg st t (on_slot i h) = rw (column-is i st (the_slot st i) refl) (to-slot nothing i (happened-outcome i (set_clock t st) cfg (the_slot st i) h) refl)

-- ── what else is told of an event by its kind ────────────────────────────────

-- what channel 70 says is the meaning of symbols that the reader accepts, or nothing
pub heard-at : (cfg : Config) (P : Heard → Type 0) (w : What) → is_done (read_in w) ≡ true → P nothing → ((m : List ℕ) → is_done (answer_of m) ≡ true → P (meaning cfg m)) → P (heard_at cfg w)
heard-at cfg P tick d z f = z
heard-at cfg P (on_channel70 m) d z f = f m d
heard-at cfg P (on_slot i h) d z f = z
heard-at cfg P (from_ashore a) d z f = z

-- its moment is its own time, or the due time of the wait that it fires: where it is no tick, none is due
pub moment-is : (cfg : Config) (st : Station) (e : Event) → verdict cfg st e ≡ none → moment (seen st) e ≡ moment_of e.time (fires e.time st)
moment-is cfg st e v = go e.what (accepted cfg st e v).none-due
  where
    none-fired : (o : Option Due) → is_some o ≡ false → e.time ≡ moment_of e.time o
    none-fired none h = refl
    none-fired (some p) h = cc

    go : (w : What) → overtaken st e.time w ≡ false → moment_of e.time (falls_at (seen st) e.time w) ≡ moment_of e.time (fires e.time st)
    go tick h = ap (moment_of e.time) (falls-fires e.time st)
    go (on_channel70 m) h = none-fired (fires e.time st) h
    go (on_slot i x) h = none-fired (fires e.time st) h
    go (from_ashore a) h = none-fired (fires e.time st) h

pub lifted-one : (i t : ℕ) (w : What) (ws : List Word) → i < length ws → word_heard i t w (get_or ws i unused) ≡ get_or (heard_by t w ws) i unused
lifted-one i t tick ws h = refl
lifted-one i t (on_channel70 x) ws h = refl
lifted-one i t (from_ashore a) ws h = refl
lifted-one i t (on_slot j x) ws h = both (eqb i j) ∙ one_of (lifted t x) i j ws h
  where
    both : (b : Bool) → cond (b && is_answering x) (worded (answer t (get_or ws i unused).line) (get_or ws i unused).rings) (cond (b && is_transmitting x) (worded (transmit t (get_or ws i unused).line (get_or ws i unused).rings) (get_or ws i unused).rings) (get_or ws i unused)) ≡ cond b (lifted t x (get_or ws i unused)) (get_or ws i unused)
    both true = refl
    both false = refl

pub lifted-length : (t : ℕ) (w : What) (ws : List Word) → length (heard_by t w ws) ≡ length ws
lifted-length t tick ws = refl
lifted-length t (on_channel70 x) ws = refl
lifted-length t (from_ashore a) ws = refl
lifted-length t (on_slot j x) ws = mod_at-length (lifted t x) j ws
