-- What an event does to a slot, said once: the one walk of events by phases. A law on every event goes by outcome.
use mathlib.Core.Path.{◌≡◌, refl}
use mathlib.Core.List.{List, [], ◌∷◌, map}
use mathlib.Core.Bool.{Bool, true, false, cond, ◌&&◌}
use mathlib.Core.Option.{Option, none, some}
use Prim.Native.Nat.{ℕ}
use Rattle.units.specs.declared.Duration.{Duration}
use Rattle.std.specs.Prelude.{Option as Optional}
use Rattle.rules.specs.Rules.Places.{Each}
use Rattle.rules.specs.Rules.Words.{Party, is, Config, line_dialled_out, line_lifted, line_hung, carrier_heard, carrier_lost, hand_takes, hand_gives, Happened, heard, signal, operator, off_hook, Deed, carrier_on, carrier_off, acknowledge, call_ship, unable, dial, release_line, ringing_on, ringing_off, busy_tone, Mode, is_answering, is_transmitting, carrier_up}
use Rattle.rules.specs.Rules.Heard.{Heard, call_request, data_request, bq, working_call, end_of_call, declined, nothing, meaning}
use Rattle.rules.specs.Rules.Actions.{Action, does, over, Ender, the_ship, the_coast}
use Rattle.rules.specs.Rules.Station.{Kind, first_ring_back, first_call, ringing, is_called, rings, ring_back_again_of, agreed_at, called_again, ringing_at, Stage, answered_at, dialling, dialled_out, answered, Dealing, Slot, free, taken, pending, busy, held, Station, set_slot, due_after, dialling_wait, reply_wait, hold_wait, carrier_wait}
use Rattle.rules.specs.Rules.Requests.{Out, ignored, also, freed, lasted, end_acts, coast_end}
use Rattle.rules.specs.Rules.Calls.{dial_now, working_kind, working_on, agreed, starts_ringing, bq_kind, bq_for, dialled_out_stage, dialled_out_on, off_hook_stage, off_hook_on, start_loss, down_on, transmitted, up_kind, up_on, drop_acts, dropped, declined_kind, declined_on, hung_kind, hung_on, call_again, ship_end, say_again, ship_end_on, end_on, take_on, give_on, offer_due, rung_back_again, pending_due, reply_due, main_on, heard_on, happened_on}
use Rattle.rules.specs.ListAlone.Book.{Stop, Column, Place}
use Rattle.rules.specs.ListAlone.Reading.{CountedColumn, goes_on, close, with_wait, dial_out, pick_up, come_up, lose, sign_off, hear_said, hear_column, settle, tell, summon, dial_up, let_go, hush, leave, stop_of, call_of, stops_said, stops_on}
use Rattle.rules.specs.ListAlone.Repeated.{Dials}
use Rattle.rules.specs.ListAlone.LineWords.{Word, worded, idle, outward, answer, transmit, word_of}
use Rattle.rules.specs.Statement.{deeds_of, charges_of, owed}
use Rattle.rules.specs.Rules.Sound.{stage_fits, loss_fits, slot_fits}
use Rattle.rules.proofs.Base.{by-kind, by-stage, said_of, view, silence-is, new-wait, again-fits, agreed-fits, called-again-fits, ringing-fits}
use Rattle.sequence.proofs.Tests.{both_true}
use borrow.Author.Tests.{le-leb}
use native.Mathlib.Omega.{arith}

-- ── what a slot can do, and the actions with it, at the time t ───────────────

-- it stays as it is, turns into another, or is freed, with the ring-back that follows
pub data Next : Type 0 where
  stays : Next
  becomes : Slot → Next
  frees : Next

pub data Move (i t : ℕ) : Slot → Next → List Action → Type 0 where
  -- before its line is dialled: the number is the one named on channel 70
  to-dial : (k : Kind) (r : Dealing) (d : ℕ) → Dials r.request.number (said_of k r)
      → Move i t (pending k r d) (becomes (busy r (dialling (due_after t dialling_wait)) none)) (does (dial i r.request.number) ∷ [])
  to-agree : (k : Kind) (r : Dealing) (d : ℕ) → is_called k ≡ false
      → Move i t (pending k r d) (becomes (agreed_at r t)) []
  to-ring : (r : Dealing) (d : ℕ)
      → Move i t (pending first_ring_back r d) (becomes (ring_back_again_of r t)) (does (call_ship i r.request) ∷ [])
  to_drop : (k : Kind) (r : Dealing) (d : ℕ) → is_called k ≡ false → Move i t (pending k r d) frees (does (carrier_off i) ∷ [])
  -- called from ashore
  to-call : (r : Dealing) (d : ℕ)
      → Move i t (pending first_call r d) (becomes (called_again r t)) (does (call_ship i r.request) ∷ [])
  to-rings : (k : Kind) (r : Dealing) (d : ℕ) → rings k ≡ false → Move i t (pending k r d) (becomes (ringing_at r t)) (does (ringing_on i) ∷ [])
  to-answer : (r : Dealing) (d : ℕ)
      → Move i t (pending ringing r d) (becomes (busy r (answered t) none)) (does (ringing_off i) ∷ [])
  to-let-go : (k : Kind) (r : Dealing) (d : ℕ) (tone : Bool) → Move i t (pending k r d) frees (drop_acts i (rings k) tone)
  -- dialling, dialled out or answered
  to-stage : (r : Dealing) (g q : Stage) (c : Option ℕ) → stage_fits t q ≡ true → Move i t (busy r g c) (becomes (busy r q c)) []
  to-lose : (r : Dealing) (g : Stage) (c : Option ℕ) → Move i t (busy r g c) (becomes (busy r g (start_loss t r.request.mode c))) []
  to-regain : (r : Dealing) (g : Stage) (c : Option ℕ) → Move i t (busy r g c) (becomes (busy r g none)) []
  to-hold : (r : Dealing) (g : Stage) (c : Option ℕ)
      → Move i t (busy r g c) (becomes (held r (lasted (answered_at g) t) (due_after t hold_wait))) (end_acts i the_ship r (answered_at g) t)
  to_end : (r : Dealing) (g : Stage) (c : Option ℕ) → Move i t (busy r g c) frees (end_acts i the_coast r (answered_at g) t)
  -- in its hold
  to-repeat : (r : Dealing) (n : Optional Duration) (d : ℕ)
      → Move i t (held r n d) stays (does (carrier_on i) ∷ over i the_ship r.request.who r.request.number n ∷ does (carrier_off i) ∷ [])
  to-run-out : (r : Dealing) (n : Optional Duration) (d : ℕ) → Move i t (held r n d) frees []
  -- the operator's
  to_take : Move i t free (becomes taken) []
  to-give : Move i t taken frees []

-- the word of a column that an event is heard on
abbrev pub lifted : ℕ → Happened → Word → Word
lifted t h w =
    cond (is_answering h) (worded (answer t w.line) w.rings)
    (cond (is_transmitting h) (worded (transmit t w.line w.rings) w.rings) w)

-- what a move gives
abbrev pub played : ℕ → Station → Next → List Action → Out
played i st stays acts = record { answer = 0; next = st; acts = acts }
played i st (becomes q) acts = record { answer = 0; next = set_slot i q st; acts = acts }
played i st frees acts = also acts (freed i st)

-- what it leaves in the slot, before a ring-back
abbrev pub leaves : Slot → Next → Slot
leaves p stays = p
leaves p (becomes q) = q
leaves p frees = free

-- ── what is read of it: the book's column of the slot, and its word ────────────

abbrev pub word : Slot → Word
word s = word_of (view s).call

-- a deed about the slot itself, with the last call number given
abbrev pub column_done : ℕ → Deed → Column → ℕ → CountedColumn
column_done t (carrier_on i) l n = goes_on l n
column_done t (carrier_off i) l n = goes_on (hush l) n
column_done t (acknowledge i r) l n = tell t r l n
column_done t (call_ship i r) l n = summon t r l n
column_done t (unable k x digits) l n = goes_on l n
column_done t (dial i digits) l n = goes_on (dial_up t l) n
column_done t (release_line i) l n = goes_on (let_go l) n
column_done t (ringing_on i) l n = goes_on l n
column_done t (ringing_off i) l n = goes_on l n
column_done t (busy_tone i) l n = goes_on l n

abbrev pub columns_done : ℕ → List Deed → Column → ℕ → CountedColumn
columns_done t [] l n = goes_on l n
columns_done t (d ∷ ds) l n = columns_done t ds (column_done t d l n).line (column_done t d l n).given

abbrev pub one_done : Deed → Word → Word
one_done (carrier_on i) w = w
one_done (carrier_off i) w = w
one_done (acknowledge i r) w = w
one_done (call_ship i r) w = w
one_done (unable n x digits) w = w
one_done (dial i digits) w = worded outward w.rings
one_done (release_line i) w = worded idle w.rings
one_done (ringing_on i) w = worded w.line true
one_done (ringing_off i) w = worded w.line false
one_done (busy_tone i) w = w

abbrev pub all_done : List Deed → Word → Word
all_done [] w = w
all_done (d ∷ ds) w = all_done ds (one_done d w)

-- a deed about the slot i, and not about a ship among those that wait
abbrev pub About : ℕ → List Place → Deed → Type 0
About i ps (carrier_on j) = i ≡ j
About i ps (carrier_off j) = i ≡ j
About i ps (acknowledge j r) = i ≡ j
About i ps (call_ship j r) = (i ≡ j) × (leave r.who ps ≡ ps)
About i ps (unable n x digits) = ⊥
About i ps (dial j digits) = i ≡ j
About i ps (release_line j) = i ≡ j
About i ps (ringing_on j) = i ≡ j
About i ps (ringing_off j) = i ≡ j
About i ps (busy_tone j) = i ≡ j

-- no ship that a pending slot has stands among those that wait
abbrev pub Apart : List Place → Slot → Type 0
Apart ps p = (k : Kind) (r : Dealing) (d : ℕ) → p ≡ pending k r d → leave r.request.who ps ≡ ps

end-about : (i : ℕ) (ps : List Place) (e : Ender) (r : Dealing) (b : Option ℕ) (t : ℕ) → Each (About i ps) (deeds_of (end_acts i e r b t))
end-about i ps e r none t = (refl, (refl, tt))
end-about i ps e r (some b) t = (refl, (refl, tt))

drop-about : (i : ℕ) (ps : List Place) (rung tone : Bool) → Each (About i ps) (deeds_of (drop_acts i rung tone))
drop-about i ps false false = (refl, (refl, tt))
drop-about i ps false true = (refl, (refl, (refl, tt)))
drop-about i ps true false = (refl, (refl, (refl, tt)))
drop-about i ps true true = (refl, (refl, (refl, (refl, tt))))

-- all that a slot does is about itself
pub move-about : (ps : List Place) (i t : ℕ) (p : Slot) (n : Next) (acts : List Action) → Move i t p n acts → Apart ps p → Each (About i ps) (deeds_of acts)
move-about ps i t _ _ _ (to-dial k r d z) h = (refl, tt)
move-about ps i t _ _ _ (to-agree k r d z) h = tt
move-about ps i t _ _ _ (to-ring r d) h = ((refl, h first_ring_back r d refl), tt)
move-about ps i t _ _ _ (to_drop k r d z) h = (refl, tt)
move-about ps i t _ _ _ (to-call r d) h = ((refl, h first_call r d refl), tt)
move-about ps i t _ _ _ (to-rings k r d z) h = (refl, tt)
move-about ps i t _ _ _ (to-answer r d) h = (refl, tt)
move-about ps i t _ _ _ (to-let-go k r d tone) h = drop-about i ps (rings k) tone
move-about ps i t _ _ _ (to-stage r n q c z) h = tt
move-about ps i t _ _ _ (to-lose r g c) h = tt
move-about ps i t _ _ _ (to-regain r g c) h = tt
move-about ps i t _ _ _ (to-hold r g c) h = end-about i ps the_ship r (answered_at g) t
move-about ps i t _ _ _ (to_end r g c) h = end-about i ps the_coast r (answered_at g) t
move-about ps i t _ _ _ (to-repeat r n d) h = (refl, (refl, tt))
move-about ps i t _ _ _ (to-run-out r n d) h = tt
move-about ps i t _ _ _ to_take h = tt
move-about ps i t _ _ _ to-give h = tt

down_fits : (t : ℕ) (g : Stage) (m : Mode) (c : Option ℕ) → stage_fits t g ≡ true → loss_fits t m c ≡ true → (stage_fits t g && loss_fits t m (start_loss t m c)) ≡ true
down_fits t g m none h k = rw h (new-wait t (carrier_wait m))
down_fits t g m (some d) h k = rw h k

-- what the slot becomes fits the clock
pub turned-fits : (i t : ℕ) (p q : Slot) (acts : List Action) → Move i t p (becomes q) acts → slot_fits t p ≡ true → slot_fits t q ≡ true
turned-fits i t _ _ _ (to-dial k r d z) h = rw (new-wait t dialling_wait) refl
turned-fits i t _ _ _ (to-agree k r d z) h = agreed-fits r t
turned-fits i t _ _ _ (to-call r d) h = called-again-fits r t
turned-fits i t _ _ _ (to-rings k r d z) h = ringing-fits r t
turned-fits i t _ _ _ (to-answer r d) h = rw (le-leb t t (omega arith)) refl
turned-fits i t _ _ _ (to-ring r d) h = again-fits r t
turned-fits i t _ _ _ (to-stage r g q c z) h = rw z (both_true (stage_fits t g) (loss_fits t r.request.mode c) h).1
turned-fits i t _ _ _ (to-lose r g c) h = let f = both_true (stage_fits t g) (loss_fits t r.request.mode c) h in down_fits t g r.request.mode c f.0 f.1
turned-fits i t _ _ _ (to-regain r g c) h = rw (both_true (stage_fits t g) (loss_fits t r.request.mode c) h).0 refl
turned-fits i t _ _ _ (to-hold r g c) h = new-wait t hold_wait
turned-fits i t _ _ _ to_take h = refl

-- ── the outcome ──────────────────────────────────────────────────────────────

-- the slot i of st holds p; the event is read on its column by f and on its word by w, and stops cs
pub data Outcome (i : ℕ) (st : Station) (f : Column → Column) (w : Word → Word) (cs : List Stop) (p : Slot) : Out → Type 0 where
  passed : f (view p) ≡ view p → w (word p) ≡ word p → [] ≡ map owed cs → Outcome i st f w cs p (ignored st)
  moved : {n : Next} {acts : List Action} → Move i st.clock p n acts
      → columns_done st.clock (deeds_of acts) (f (view p)) st.last_call ≡ goes_on (view (leaves p n)) st.last_call
      → all_done (deeds_of acts) (w (word p)) ≡ word (leaves p n) → charges_of acts ≡ map owed cs
      → Outcome i st f w cs p (played i st n acts)

module _ (i : ℕ) (st : Station) where
  outcome-if : {f : Column → Column} {w : Word → Word} {cs : List Stop} {p : Slot} (b : Bool) (x y : Out) → (b ≡ true → Outcome i st f w cs p x) → (b ≡ false → Outcome i st f w cs p y) → Outcome i st f w cs p (cond b x y)
  outcome-if true x y g h = g refl
  outcome-if false x y g h = h refl

  -- ── dialling ended ──
  dialled-out-outcome : (p : Slot) → Outcome i st (dial_out st.clock) (λ w. w) [] p (dialled_out_on i st p)
  unfolding dialled_out_on dialled_out_stage
  dialled-out-outcome free = passed refl refl refl
  dialled-out-outcome taken = passed refl refl refl
  dialled-out-outcome (pending k r d) = by-kind (λ z. Outcome i st (dial_out st.clock) (λ w. w) [] (pending z r d) (ignored st)) (passed refl refl refl) (passed refl refl refl) (passed refl refl refl) (passed refl refl refl) (passed refl refl refl) (passed refl refl refl) (passed refl refl refl) k
  dialled-out-outcome (busy r (dialling d) c) = moved (to-stage r _ (dialled_out (due_after st.clock reply_wait)) c (new-wait st.clock reply_wait)) refl refl refl
  dialled-out-outcome (busy r (dialled_out d) c) = passed refl refl refl
  dialled-out-outcome (busy r (answered b) c) = passed refl refl refl
  dialled-out-outcome (held r n d) = passed refl refl refl

  -- ── off-hook, carrier ──
  off_hook-outcome : (p : Slot) → Outcome i st (pick_up st.clock) (lifted st.clock off_hook) [] p (off_hook_on i st p)
  unfolding off_hook_on off_hook_stage
  off_hook-outcome free = passed refl refl refl
  off_hook-outcome taken = passed refl refl refl
  off_hook-outcome (pending k r d) = by-kind (λ z. Outcome i st (pick_up st.clock) (lifted st.clock off_hook) [] (pending z r d) (ignored st)) (passed refl refl refl) (passed refl refl refl) (passed refl refl refl) (passed refl refl refl) (passed refl refl refl) (passed refl refl refl) (passed refl refl refl) k
  off_hook-outcome (busy r (dialling d) c) = moved (to-stage r _ (answered st.clock) c (le-leb st.clock st.clock (omega arith))) refl refl refl
  off_hook-outcome (busy r (dialled_out d) c) = moved (to-stage r _ (answered st.clock) c (le-leb st.clock st.clock (omega arith))) refl refl refl
  off_hook-outcome (busy r (answered b) c) = passed refl refl refl
  off_hook-outcome (held r n d) = passed refl refl refl

  up-outcome : (p : Slot) → Outcome i st (come_up st.clock) (lifted st.clock carrier_up) [] p (up_on i st p)
  unfolding up_on up_kind transmitted
  up-outcome free = passed refl refl refl
  up-outcome taken = passed refl refl refl
  up-outcome (pending k r d) = by-kind (λ z. Outcome i st (come_up st.clock) (lifted st.clock carrier_up) [] (pending z r d) (up_kind i z r st)) (passed refl refl refl) (passed refl refl refl) (passed refl refl refl) (passed refl refl refl) (passed refl refl refl) (passed refl refl refl) (moved (to-answer r d) refl refl refl) k
  up-outcome (busy r (dialling d) c) = moved (to-regain r _ c) refl refl refl
  up-outcome (busy r (dialled_out d) c) = moved (to-regain r _ c) refl refl refl
  up-outcome (busy r (answered b) c) = moved (to-regain r _ c) refl refl refl
  up-outcome (held r n d) = passed refl refl refl

  down-outcome : (p : Slot) → Outcome i st (lose st.clock) (λ w. w) [] p (down_on i st p)
  unfolding down_on
  down-outcome free = passed refl refl refl
  down-outcome taken = passed refl refl refl
  down-outcome (pending k r d) = by-kind (λ z. Outcome i st (lose st.clock) (λ w. w) [] (pending z r d) (ignored st)) (passed refl refl refl) (passed refl refl refl) (passed refl refl refl) (passed refl refl refl) (passed refl refl refl) (passed refl refl refl) (passed refl refl refl) k
  down-outcome (busy r (dialling d) none) = moved (to-lose r (dialling d) none) (rw (silence-is r.request.mode) refl) refl refl
  down-outcome (busy r (dialling d) (some u)) = moved (to-lose r (dialling d) (some u)) refl refl refl
  down-outcome (busy r (dialled_out d) none) = moved (to-lose r (dialled_out d) none) (rw (silence-is r.request.mode) refl) refl refl
  down-outcome (busy r (dialled_out d) (some u)) = moved (to-lose r (dialled_out d) (some u)) refl refl refl
  down-outcome (busy r (answered b) none) = moved (to-lose r (answered b) none) (rw (silence-is r.request.mode) refl) refl refl
  down-outcome (busy r (answered b) (some u)) = moved (to-lose r (answered b) (some u)) refl refl refl
  down-outcome (held r n d) = passed refl refl refl

  -- ── carrier loss, and on-hook ──
  pub end-outcome : (p : Slot) → Outcome i st close (λ w. w) (stop_of st.clock i (view p).call) p (end_on i st p)
  unfolding end_on coast_end
  end-outcome free = passed refl refl refl
  end-outcome taken = passed refl refl refl
  end-outcome (pending k r d) = by-kind (λ z. Outcome i st close (λ w. w) (stop_of st.clock i (view (pending z r d)).call) (pending z r d) (ignored st)) (passed refl refl refl) (passed refl refl refl) (passed refl refl refl) (passed refl refl refl) (passed refl refl refl) (passed refl refl refl) (passed refl refl refl) k
  end-outcome (busy r (dialling d) c) = moved (to_end r (dialling d) c) refl refl refl
  end-outcome (busy r (dialled_out d) c) = moved (to_end r (dialled_out d) c) refl refl refl
  end-outcome (busy r (answered b) c) = moved (to_end r (answered b) c) refl refl refl
  end-outcome (held r n d) = passed refl refl refl

  hung-outcome : (p : Slot) → Outcome i st close (λ w. w) (stop_of st.clock i (view p).call) p (hung_on i st p)
  unfolding hung_on hung_kind dropped coast_end
  hung-outcome free = passed refl refl refl
  hung-outcome taken = passed refl refl refl
  hung-outcome (pending k r d) = by-kind (λ z. Outcome i st close (λ w. w) (stop_of st.clock i (view (pending z r d)).call) (pending z r d) (hung_kind i z st)) (passed refl refl refl) (passed refl refl refl) (passed refl refl refl) (passed refl refl refl) (moved (to-let-go _ r d false) refl refl refl) (moved (to-let-go _ r d false) refl refl refl) (moved (to-let-go _ r d false) refl refl refl) k
  hung-outcome (busy r (dialling d) c) = moved (to_end r (dialling d) c) refl refl refl
  hung-outcome (busy r (dialled_out d) c) = moved (to_end r (dialled_out d) c) refl refl refl
  hung-outcome (busy r (answered b) c) = moved (to_end r (answered b) c) refl refl refl
  hung-outcome (held r n d) = passed refl refl refl

  -- ── the ship is unable to come ──
  pub declined-outcome : (p : Slot) → Outcome i st (λ l. l) (λ w. w) [] p (declined_on i st p)
  unfolding declined_on declined_kind dropped
  declined-outcome free = passed refl refl refl
  declined-outcome taken = passed refl refl refl
  declined-outcome (pending k r d) = by-kind (λ z. Outcome i st (λ l. l) (λ w. w) [] (pending z r d) (declined_kind i z st)) (passed refl refl refl) (passed refl refl refl) (passed refl refl refl) (passed refl refl refl) (moved (to-let-go _ r d true) refl refl refl) (moved (to-let-go _ r d true) refl refl refl) (moved (to-let-go _ r d true) refl refl refl) k
  declined-outcome (busy r g c) = passed refl refl refl
  declined-outcome (held r n d) = passed refl refl refl

  -- ── the ship's end ──
  ship_end-outcome : (x : Party) (p : Slot) → Outcome i st (sign_off st.clock x) (λ w. w) (cond (call_of x (view p).call) (stop_of st.clock i (view p).call) []) p (ship_end_on i x st p)
  unfolding ship_end_on ship_end say_again
  ship_end-outcome x free = passed refl refl refl
  ship_end-outcome x taken = passed refl refl refl
  ship_end-outcome x (pending k r d) = by-kind (λ z. Outcome i st (sign_off st.clock x) (λ w. w) (cond (call_of x (view (pending z r d)).call) (stop_of st.clock i (view (pending z r d)).call) []) (pending z r d) (ignored st)) (passed refl refl refl) (passed refl refl refl) (passed refl refl refl) (passed refl refl refl) (passed refl refl refl) (passed refl refl refl) (passed refl refl refl) k
  ship_end-outcome x (busy r (dialling d) c) = outcome-if (is x r.request.who) (ship_end i r none st) (ignored st) (λ h. moved (to-hold r (dialling d) c) (rw h refl) refl (rw h refl)) (λ h. passed (rw h refl) refl (rw h refl))
  ship_end-outcome x (busy r (dialled_out d) c) = outcome-if (is x r.request.who) (ship_end i r none st) (ignored st) (λ h. moved (to-hold r (dialled_out d) c) (rw h refl) refl (rw h refl)) (λ h. passed (rw h refl) refl (rw h refl))
  ship_end-outcome x (busy r (answered b) c) = outcome-if (is x r.request.who) (ship_end i r (some b) st) (ignored st) (λ h. moved (to-hold r (answered b) c) (rw h refl) refl (rw h refl)) (λ h. passed (rw h refl) refl (rw h refl))
  ship_end-outcome x (held r n d) = outcome-if (is x r.request.who) (say_again i r.request n st) (ignored st) (λ h. moved (to-repeat r n d) refl refl refl) (λ h. passed refl refl refl)

  -- ── the working call ──
  working-outcome : (x : Party) (p : Slot) → Outcome i st (λ l. l) (λ w. w) [] p (working_on i x st p)
  unfolding working_on working_kind dial_now
  working-outcome x free = passed refl refl refl
  working-outcome x taken = passed refl refl refl
  working-outcome x (pending k r d) = outcome-if (is x r.request.who) (working_kind i k r st) (ignored st) (λ h. by-kind (λ z. Outcome i st (λ l. l) (λ w. w) [] (pending z r d) (working_kind i z r st)) (moved (to-dial _ r d refl) refl refl refl) (passed refl refl refl) (passed refl refl refl) (moved (to-dial _ r d refl) refl refl refl) (passed refl refl refl) (passed refl refl refl) (passed refl refl refl) k) (λ h. passed refl refl refl)
  working-outcome x (busy r g c) = passed refl refl refl
  working-outcome x (held r n d) = passed refl refl refl

  -- ── the ring-back agreed to ──
  pub bq-outcome : (x : Party) (p : Slot) → Outcome i st (settle st.clock x) (λ w. w) [] p (bq_for i x st p)
  unfolding bq_for bq_kind agreed starts_ringing
  bq-outcome x free = passed refl refl refl
  bq-outcome x taken = passed refl refl refl
  bq-outcome x (pending k r d) = by-kind (λ z. Outcome i st (settle st.clock x) (λ w. w) [] (pending z r d) (cond (is x r.request.who) (bq_kind i z r st) (ignored st)))
      (outcome-if (is x r.request.who) (ignored st) (ignored st) (λ h. passed refl refl refl) (λ h. passed refl refl refl))
      (outcome-if (is x r.request.who) (agreed i r st) (ignored st) (λ h. moved (to-agree _ r d refl) (rw h refl) refl refl) (λ h. passed (rw h refl) refl refl))
      (outcome-if (is x r.request.who) (agreed i r st) (ignored st) (λ h. moved (to-agree _ r d refl) (rw h refl) refl refl) (λ h. passed (rw h refl) refl refl))
      (outcome-if (is x r.request.who) (ignored st) (ignored st) (λ h. passed refl refl refl) (λ h. passed refl refl refl))
      (outcome-if (is x r.request.who) (starts_ringing i r st) (ignored st) (λ h. moved (to-rings _ r d refl) (rw h refl) refl refl) (λ h. passed (rw h refl) refl refl))
      (outcome-if (is x r.request.who) (starts_ringing i r st) (ignored st) (λ h. moved (to-rings _ r d refl) (rw h refl) refl refl) (λ h. passed (rw h refl) refl refl))
      (outcome-if (is x r.request.who) (ignored st) (ignored st) (λ h. passed refl refl refl) (λ h. passed refl refl refl)) k
  bq-outcome x (busy r g c) = by-stage (λ z. Outcome i st (settle st.clock x) (λ w. w) [] (busy r z c) (ignored st)) (λ d. passed refl refl refl) (λ d. passed refl refl refl) (λ b. passed refl refl refl) g
  bq-outcome x (held r n d) = passed refl refl refl

  -- ── the operator ──
  take-outcome : (p : Slot) → Outcome i st (λ l. l) (λ w. w) [] p (take_on i st p)
  unfolding take_on
  take-outcome free = moved to_take refl refl refl
  take-outcome taken = passed refl refl refl
  take-outcome (pending k r d) = passed refl refl refl
  take-outcome (busy r g c) = passed refl refl refl
  take-outcome (held r n d) = passed refl refl refl

  give-outcome : (p : Slot) → Outcome i st (λ l. l) (λ w. w) [] p (give_on i st p)
  unfolding give_on
  give-outcome free = passed refl refl refl
  give-outcome taken = moved to-give refl refl refl
  give-outcome (pending k r d) = passed refl refl refl
  give-outcome (busy r g c) = passed refl refl refl
  give-outcome (held r n d) = passed refl refl refl

  -- ── the slot's other wait falls due ──
  pub main-outcome : (p : Slot) → Outcome i st (with_wait none) (λ w. w) [] p (main_on i st p)
  unfolding main_on pending_due offer_due rung_back_again call_again dropped reply_due coast_end
  main-outcome free = passed refl refl refl
  main-outcome taken = passed refl refl refl
  main-outcome (pending k r d) = by-kind (λ z. Outcome i st (with_wait none) (λ w. w) [] (pending z r d) (pending_due i z r st)) (moved (to_drop _ r d refl) refl refl refl) (moved (to-ring r d) refl refl refl) (moved (to_drop _ r d refl) refl refl refl) (moved (to_drop _ r d refl) refl refl refl) (moved (to-call r d) refl refl refl) (moved (to-let-go _ r d true) refl refl refl) (moved (to-let-go _ r d true) refl refl refl) k
  main-outcome (busy r (dialling d) c) = moved (to_end r (dialling d) c) refl refl refl
  main-outcome (busy r (dialled_out d) c) = moved (to_end r (dialled_out d) c) refl refl refl
  main-outcome (busy r (answered b) c) = passed refl refl refl
  main-outcome (held r n d) = moved (to-run-out r n d) refl refl refl

  -- ── whatever is heard on the slot, and whatever happens on it ──
  said-outcome : (p : Slot) (m : Heard) → Outcome i st (hear_said st.clock m) (λ w. w) (stops_said st.clock i (view p).call m) p (heard_on i st p m)
  unfolding heard_on
  said-outcome p (call_request r) = passed refl refl refl
  said-outcome p (data_request x n) = passed refl refl refl
  said-outcome p (bq j x) = passed refl refl refl
  said-outcome p (working_call x) = working-outcome x p
  said-outcome p (end_of_call x) = ship_end-outcome x p
  said-outcome p (declined x) = passed refl refl refl
  said-outcome p nothing = passed refl refl refl

  pub happened-outcome : (cfg : Config) (p : Slot) (h : Happened) → Outcome i st (hear_column cfg st.clock h) (lifted st.clock h) (stops_on cfg st.clock i (view p).call h) p (happened_on cfg i st p h)
  unfolding happened_on
  happened-outcome cfg p (heard m) = said-outcome p (meaning cfg m)
  happened-outcome cfg p (signal line_dialled_out) = dialled-out-outcome p
  happened-outcome cfg p (signal line_lifted) = off_hook-outcome p
  happened-outcome cfg p (signal line_hung) = hung-outcome p
  happened-outcome cfg p (signal carrier_heard) = up-outcome p
  happened-outcome cfg p (signal carrier_lost) = down-outcome p
  happened-outcome cfg p (operator hand_takes) = take-outcome p
  happened-outcome cfg p (operator hand_gives) = give-outcome p
