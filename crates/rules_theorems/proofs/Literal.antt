-- `Literally`: the words say of every slot what the book says of its column.
use mathlib.Core.Path.{◌≡◌, refl, sym, ap, ◌∙◌}
use mathlib.Core.List.{List, [], ◌∷◌}
use mathlib.Core.Bool.{Bool, true, false, cond}
use mathlib.Core.Option.{Option, none, some}
use Prim.Native.Nat.{ℕ, zero, suc, ◌<◌}
use lib.Dec.{eqb, ltb}
use lib.ListN.{get_or, length, length-map, replicate}
use Rattle.rules.specs.Rules.Places.{lowest}
use Rattle.rules.specs.Rules.Words.{Request, Config, Ashore, What, ashore_in, Event, Deed, carrier_on, carrier_off, acknowledge, call_ship, unable, dial, release_line, ringing_on, ringing_off, busy_tone}
use Rattle.rules.specs.Rules.Heard.{Heard}
use Rattle.rules.specs.Rules.Station.{Dealing, Slot, Station, the_slot, fresh, set_slot, set_clock, set_queue, used_up, new_call, answered_at, is_free, offer_of, called_of}
use Rattle.rules.specs.Rules.Requests.{Out, coast_end, slot_of, place_of, stands_at, standing, rule_a, no_number, repeated, afresh, rule_d, offer, rule_f, rule_g, e_to_g, newcomer, waiting_or_new, d_to_g, redial, requested}
use Rattle.rules.specs.Rules.Ashore.{ashore_request, called_from}
use Rattle.rules.specs.Rules.Calls.{act_at, act}
use Rattle.rules.specs.Rules.Verdict.{verdict, play}
use Rattle.rules.specs.ListAlone.Book.{Stop, Column, Book, column}
use Rattle.rules.specs.ListAlone.Reading.{read_all}
use Rattle.rules.specs.ListAlone.LineWords.{Line, Word, worded, unused, word_heard, word_done, words_done, word_after, word_of}
use Rattle.rules.specs.Statement.{deeds_of, notes, Literally}
use Rattle.rules.proofs.PlaceLaws.{mod_at-length}
use Rattle.rules.proofs.Base.{by-stage, no-caller, call_in, view, seen, slot-taken, slot-lowest, slot-mapped, fresh-mapped, fresh-length, free-is}
use Rattle.rules.proofs.Outcome.{word}
use Rattle.rules.proofs.Ruling.{Ruling, passes, repeats, renews, runs-out, redials, b_or_c-ruling}
use Rattle.rules.proofs.Run.{turn_is, play-on, play-past, fresh-seen}
use Rattle.rules.proofs.Spoken.{words, calls_line, dials_line, frees_line, sets_ringing, speak, spoken, SpokenBy, Spoken, told-also, told-if, told-ignored, keeps, turns-to, coast_end-told, outcome-told, one_of}
use Rattle.rules.proofs.Effect.{Effect, rests, drops, data-asked, call-asked, to-slot, called-ashore, act-effect, heard_by, lifted-one, lifted-length}

-- ── a request ────────────────────────────────────────────────────────────────

module _ (st : Station) (r : Request) where
  newcomer-told : Spoken (words st) (newcomer st r)
  unfolding newcomer e_to_g offer afresh rule_f rule_g set_queue new_call set_slot spoken
  newcomer-told = go (lowest is_free st.slots) refl
    where
      go : (o : Option ℕ) → lowest is_free st.slots ≡ o → Spoken (words st) (e_to_g st r o)
      go (some i) h = record { telling = keeps i st (offer_of r st) (ap word (free-is (the_slot st i) (slot-lowest st is_free i h))) }
      go none h = told-if (words st) (ltb (length st.queue) 32) (rule_f st r) (rule_g st r) (record { telling = refl }) (record { telling = refl })

  rule_d-told : (k : ℕ) → Spoken (words st) (rule_d k st r)
  unfolding rule_d set_queue spoken
  rule_d-told k = record { telling = refl }

  waiting_or_new-told : (k : Option ℕ) → Spoken (words st) (waiting_or_new st r k)
  unfolding waiting_or_new
  waiting_or_new-told none = newcomer-told
  waiting_or_new-told (some k) = rule_d-told k

  no_number-told : Spoken (words st) (no_number st r)
  unfolding no_number spoken
  no_number-told = record { telling = refl }

  d_to_g-told : (k : Option ℕ) → Spoken (words st) (d_to_g st r k)
  unfolding d_to_g
  d_to_g-told k = told-if (words st) (used_up st) (no_number st r) (waiting_or_new st r k) no_number-told (waiting_or_new-told k)

module _ (i : ℕ) (st : Station) (r : Request) where
  afresh-told : word (the_slot st i) ≡ unused → Spoken (words st) (afresh i st r)
  unfolding afresh new_call set_slot spoken
  afresh-told h = record { telling = keeps i st (offer_of r st) h }

  repeat-told : Spoken (words st) (repeated i st r)
  unfolding repeated spoken
  repeat-told = record { telling = refl }

  redial-told : (o : Dealing) (g : Option ℕ) → (word (the_slot st i)).rings ≡ false → Spoken (words st) (redial i o g st r)
  unfolding redial
  redial-told o g h = told-also (words st) (words (coast_end i o g st).next) (coast_end i o g st).acts (d_to_g (coast_end i o g st).next r (place_of r.who (coast_end i o g st).next)) (coast_end-told i st o g h).telling (d_to_g-told (coast_end i o g st).next r (place_of r.who (coast_end i o g st).next))

  ruling-told : (cs : List Stop) (p : Slot) (x : Out) → Ruling i st r cs p x → the_slot st i ≡ p → Spoken (words st) x
  ruling-told cs _ _ (passes p a) e = told-ignored none (words st) st refl
  ruling-told cs _ _ (repeats k o d a b) e = repeat-told
  ruling-told cs _ _ (renews k o d z u a b) e = afresh-told (rw (e, no-caller k o z) refl)
  ruling-told cs _ _ (runs-out k o d z u a b) e = no_number-told st r
  ruling-told cs _ _ (redials o g c a) e = redial-told o (answered_at g) (rw e (by-stage (λ z. (word_of (call_in o z)).rings ≡ false) (λ d. refl) (λ d. refl) (λ b. refl) g))

request-told : (st : Station) (r : Request) (o k : Option ℕ) → Spoken (words st) (requested st r (stands_at o k))
unfolding requested
request-told st r none none = d_to_g-told st r none
request-told st r none (some k) = d_to_g-told st r (some k)
request-told st r (some i) k = ruling-told i st r _ (the_slot st i) _ (b_or_c-ruling i st r (the_slot st i)) refl

-- ── an event ─────────────────────────────────────────────────────────────────

effect-told : (cfg : Config) (st : Station) (q : Option Ashore) (b : Book) (ws : List Word) (cs : List Stop) (m : Heard) (o : Out) → Effect cfg st q b ws cs m o → SpokenBy q ws o
unfolding rule_a standing spoken set_queue called_from new_call set_slot
effect-told cfg st _ _ _ _ _ _ (rests m n h) = record { telling = refl }
effect-told cfg st _ _ _ _ _ _ (drops k) = record { telling = refl }
effect-told cfg st _ _ _ _ _ _ (data-asked x n) = record { telling = refl }
effect-told cfg st _ _ _ _ _ _ (call-asked r) = request-told st r (slot_of r.who st) (place_of r.who st)
effect-told cfg st _ _ _ _ _ _ (to-slot m i u e) = rw e (outcome-told i st (the_slot st i) u refl)
effect-told cfg st _ _ _ _ _ _ (called-ashore a i h) = record { telling = turns-to i st (calls_line (some a)) (called_of (ashore_request cfg a) st) (rw (free-is (the_slot st i) (slot-lowest st is_free i (slot-taken st i h).1)) refl) }

act-told : (cfg : Config) (st : Station) (t : ℕ) (w : What) → SpokenBy (ashore_in w) (heard_by t w (words st)) (act_at cfg st t w)
unfolding set_clock
act-told cfg st t w = effect-told cfg _ _ _ _ _ _ _ (act-effect cfg st t w)

-- ── one slot of them ─────────────────────────────────────────────────────────

-- a deed on it, or on another slot, changes one part of its word or none
of-line : (b : Bool) (l : Line) (w : Word) → worded (cond b l w.line) w.rings ≡ cond b (worded l w.rings) w
of-line true l w = refl
of-line false l w = refl

of-ringing : (b r : Bool) (w : Word) → worded w.line (cond b r w.rings) ≡ cond b (worded w.line r) w
of-ringing true r w = refl
of-ringing false r w = refl

module _ (q : Option Ashore) where
  speak-length : (d : Deed) (ws : List Word) → length (speak q d ws) ≡ length ws
  speak-length (carrier_on i) ws = refl
  speak-length (carrier_off i) ws = refl
  speak-length (acknowledge i r) ws = refl
  speak-length (call_ship i r) ws = mod_at-length (calls_line q) i ws
  speak-length (unable n x digits) ws = refl
  speak-length (dial i n) ws = mod_at-length dials_line i ws
  speak-length (release_line i) ws = mod_at-length frees_line i ws
  speak-length (ringing_on i) ws = mod_at-length (sets_ringing true) i ws
  speak-length (ringing_off i) ws = mod_at-length (sets_ringing false) i ws
  speak-length (busy_tone i) ws = refl

  speak-one : (i : ℕ) (d : Deed) (ws : List Word) → i < length ws → word_done q i d (get_or ws i unused) ≡ get_or (speak q d ws) i unused
  speak-one i (carrier_on j) ws h = refl
  speak-one i (carrier_off j) ws h = refl
  speak-one i (acknowledge j r) ws h = refl
  speak-one i (call_ship j r) ws h = of-line (eqb i j) _ (get_or ws i unused) ∙ one_of (calls_line q) i j ws h
  speak-one i (unable n x digits) ws h = refl
  speak-one i (dial j n) ws h = of-line (eqb i j) _ (get_or ws i unused) ∙ one_of dials_line i j ws h
  speak-one i (release_line j) ws h = of-line (eqb i j) _ (get_or ws i unused) ∙ one_of frees_line i j ws h
  speak-one i (ringing_on j) ws h = of-ringing (eqb i j) true (get_or ws i unused) ∙ one_of (sets_ringing true) i j ws h
  speak-one i (ringing_off j) ws h = of-ringing (eqb i j) false (get_or ws i unused) ∙ one_of (sets_ringing false) i j ws h
  speak-one i (busy_tone j) ws h = refl

  spoken-one : (i : ℕ) (ds : List Deed) (ws : List Word) → i < length ws → words_done q i ds (get_or ws i unused) ≡ get_or (spoken q ds ws) i unused
  unfolding words_done spoken
  spoken-one i [] ws h = refl
  spoken-one i (d ∷ ds) ws h = ap (words_done q i ds) (speak-one i d ws h) ∙ spoken-one i ds (speak q d ws) (rw (speak-length d ws) h)

  spoken-length : (ds : List Deed) (ws : List Word) → length (spoken q ds ws) ≡ length ws
  unfolding spoken
  spoken-length [] ws = refl
  spoken-length (d ∷ ds) ws = spoken-length ds (speak q d ws) ∙ speak-length d ws

-- ── the run ──────────────────────────────────────────────────────────────────

next-length : (cfg : Config) (st : Station) (e : Event) → length (words (act cfg st e).next) ≡ length (words st)
next-length cfg st e = ap length (sym (act-told cfg st e.time e.what).telling) ∙ spoken-length (ashore_in e.what) (deeds_of (act cfg st e).acts) (heard_by e.time e.what (words st)) ∙ lifted-length e.time e.what (words st)

next_word : (cfg : Config) (i : ℕ) (st : Station) (e : Event) → i < length (words st) → words_done (ashore_in e.what) i (deeds_of (act cfg st e).acts) (word_heard i e.time e.what (get_or (words st) i unused)) ≡ get_or (words (act cfg st e).next) i unused
next_word cfg i st e h = ap (words_done (ashore_in e.what) i (deeds_of (act cfg st e).acts)) (lifted-one i e.time e.what (words st) h) ∙ spoken-one (ashore_in e.what) i (deeds_of (act cfg st e).acts) (heard_by e.time e.what (words st)) (rw (lifted-length e.time e.what (words st)) h) ∙ ap (λ (ws : List Word). get_or ws i unused) (act-told cfg st e.time e.what).telling

word-seen : (i : ℕ) (st : Station) → get_or (words st) i unused ≡ word_of (column (seen st) i).call
unfolding seen
word-seen i st = slot-mapped st word i ∙ ap (λ (l : Column). word_of l.call) (sym (slot-mapped st view i))

run-words : (cfg : Config) (i : ℕ) (es : List Event) (st : Station) → i < length (words st) → word_after i (notes (play cfg es st)) (get_or (words st) i unused) ≡ word_of (column (read_all cfg (notes (play cfg es st)) (seen st)) i).call
unfolding play word_after read_all notes
run-words cfg i [] st h = word-seen i st
run-words cfg i (e ∷ es) st h = go (verdict cfg st e) refl (λ s k. run-words cfg i es s k)
  where
    go : (o : Option ℕ) → verdict cfg st e ≡ o → ((s : Station) → i < length (words s) → word_after i (notes (play cfg es s)) (get_or (words s) i unused) ≡ word_of (column (read_all cfg (notes (play cfg es s)) (seen s)) i).call)
        → word_after i (notes (play cfg (e ∷ es) st)) (get_or (words st) i unused) ≡ word_of (column (read_all cfg (notes (play cfg (e ∷ es) st)) (seen st)) i).call
    go none v ih = rw (play-on cfg e es st v) (ap (word_after i (notes (play cfg es (act cfg st e).next))) (next_word cfg i st e h) ∙ ih (act cfg st e).next (rw (next-length cfg st e) h) ∙ ap (λ (b : Book). word_of (column (read_all cfg (notes (play cfg es (act cfg st e).next)) b) i).call) (sym (turn_is cfg st e v)))
    go (some n) v ih = rw (play-past cfg e es st n v) (ih st h)

blank-word : (n i : ℕ) → get_or (replicate n unused) i unused ≡ unused
blank-word zero i = refl
blank-word (suc n) zero = refl
blank-word (suc n) (suc i) = blank-word n i

fresh-words : (cfg : Config) → length (words (fresh cfg)) ≡ length cfg.channels
fresh-words cfg = length-map (fresh cfg).slots word ∙ fresh-length cfg

fresh-word : (cfg : Config) (i : ℕ) → get_or (words (fresh cfg)) i unused ≡ unused
fresh-word cfg i = ap (λ (ws : List Word). get_or ws i unused) (fresh-mapped cfg word) ∙ blank-word (length cfg.channels) i

pub literally : Literally
unfolding Literally fresh
literally cfg set es i h = rw (← (fresh-seen cfg)) (ap (word_after i (notes (play cfg es (fresh cfg)))) (sym (fresh-word cfg i)) ∙ run-words cfg i es (fresh cfg) (rw (fresh-words cfg) h))
