-- Whatever is handed out is found again in its bytes.
use Prim.Native.Nat.{ℕ, zero, suc, ◌*◌, ◌≤◌}
use mathlib.Core.Path.{◌≡◌, refl, sym, ap, ◌∙◌}
use mathlib.Core.List.{List, [], ◌∷◌, ◌++◌, map, flat_map, append-nil}
use mathlib.Core.Option.{Option, none, some}
use native.Mathlib.Omega.{arith}
use native.Mathlib.Nat.{le_of_suc-le-suc, not-suc-le-zero}
use lib.ListN.{length, drop, length-map}
use lib.Seq.{drop_at}
use Rattle.std.specs.Prelude.{Ok}
use Rattle.units.specs.declared.Channel.{Channel}
use Rattle.sequence.specs.Identity.{is_coast}
use Rattle.rules.specs.Rules.Places.{Each}
use Rattle.rules.specs.Rules.Words.{Config, Event}
use Rattle.rules.specs.Rules.Words as W
use Rattle.rules.specs.Rules.Bytes.{padded}
use Rattle.rules.specs.Rules.Station as R
use Rattle.rules.specs.Rules.Station.{fresh}
use Rattle.rules.specs.Rules.Sound.{identity_keeps, config_keeps, sound}
use Rattle.rules.specs.Rules.Verdict.{refusals, set_up_verdict}
use Rattle.rules.specs.Rules.Calls.{act}
use Rattle.requests.specs.declared.Mode.{Mode}
use Rattle.requests.specs.declared.Mode.TheVariants.{Simplex, Duplex}
use Rattle.requests.specs.declared.Request.{Request}
use Rattle.requests.specs.Images.{request_image, blank_request}
use Rattle.requests.specs.Views.{viewed}
use Rattle.rules.proofs.Payloads.{padded-length}
use Rattle.slots.specs.declared.Slot.{Slot}
use Rattle.slots.specs.declared.Waiting.{Waiting}
use Rattle.slots.specs.Phases.{kept_in}
use Rattle.slots.specs.Images.{image_or, slot_image, slot_images, waiting_image, blank_slot, blank_waiting}
use Rattle.station.specs.declared.Station.{Station}
use Rattle.station.specs.Model.{image_of, config_of, model_of}
use Rattle.station.specs.Step.{records_keep, refusal, stepped_by, blank_station, given, set_up_for}
use Rattle.phase_fields.proofs.Back.{phase-back}
use Rattle.layouts.specs.Fields.{encode, decode}
use Rattle.layouts.specs.Records.{records_in}
use Rattle.layouts.proofs.FieldLaws.{there_and_back}
use Rattle.layouts.proofs.RecordLaws.{records-told}
use Rattle.lent_layout.specs.Layout.{slot_fields, waiting_fields, head_fields, station_fields}
use Rattle.lent_layout.specs.Numbers.{request_numbers, request_from, slot_numbers, waiting_numbers, station_numbers, slot_from, waiting_from, in_use, station_in}
use Rattle.lent_layout.specs.Stations.{current, station_bytes, station_from}
use Rattle.lent_layout.specs.Statement.{FoundAgain, HandedOutIsFoundAgain, BlankIsFoundAgain, OtherLayoutIsNotSound}
use Rattle.lent_layout.proofs.LayLaws.{sixteen}
use Rattle.lent_layout.proofs.StationLaws.{slot-numbers, waiting-numbers, used_slots, used_queue, slots16, queue32, slots-numbers, fields-filled, station-numbers, station-sized, station-first}

-- ── one record ───────────────────────────────────────────────────────────────

abbrev Wide : Request → Type 0
Wide q = length q.number.digits ≡ 16

request-back : (q : Request) → Wide q → request_from (request_numbers q) ≡ q
unfolding request_from request_numbers
request-back q w = go q.mode refl
  where
    go : (m : Mode) → q.mode ≡ m → request_from (request_numbers q) ≡ q
    go Simplex e = rw (e, sixteen q.number.digits w)
    go Duplex e = rw (e, sixteen q.number.digits w)

slot-back : (s : Slot) → Wide s.request → slot_from (slot_numbers s) ≡ s
unfolding slot_from slot_numbers
slot-back s w = rw (phase-back s.phase, request-back s.request w)

waiting-back : (w : Waiting) → Wide w.request → waiting_from (waiting_numbers w) ≡ w
unfolding waiting_from waiting_numbers
waiting-back w h = rw (request-back w.request h)

-- ── a station whose unused places are blank ──────────────────────────────────

record Whole (s : Station) : Type 0 where
  slots_blank : used_slots s ≡ s.slots
  queue_blank : used_queue s ≡ s.queue
  slots_wide : Each (λ x. Wide x.request) s.slots
  queue_wide : Each (λ x. Wide x.request) s.queue

same : {A : Type 0} (f : A → A) (P : A → Type 0) → ((x : A) → P x → f x ≡ x) → (l : List A) → Each P l → map f l ≡ l
same f P h [] e = refl
same f P h (x ∷ l) e = rw (h x e.0, same f P h l e.1)

module _ (s : Station) (w : Whole s) where
  slots-back : (rest : List ℕ) → records_in slot_from 16 (length slot_fields) (flat_map slot_numbers (used_slots s) ++ rest) ≡ s.slots
  slots-back rest =
      (rw (slots16 s) at (records-told slot_numbers slot_fields slot-numbers slot_from (used_slots s) rest))
      ∙ ap (map (λ x. slot_from (slot_numbers x))) w.slots_blank
      ∙ same (λ x. slot_from (slot_numbers x)) (λ x. Wide x.request) slot-back s.slots w.slots_wide

  queue-back : records_in waiting_from 32 (length waiting_fields) (flat_map waiting_numbers (used_queue s)) ≡ s.queue
  queue-back =
      ap (records_in waiting_from 32 (length waiting_fields)) (sym (append-nil (flat_map waiting_numbers (used_queue s))))
      ∙ (rw (queue32 s) at (records-told waiting_numbers waiting_fields waiting-numbers waiting_from (used_queue s) []))
      ∙ ap (map (λ x. waiting_from (waiting_numbers x))) w.queue_blank
      ∙ same (λ x. waiting_from (waiting_numbers x)) (λ x. Wide x.request) waiting-back s.queue w.queue_wide

  numbers-back : station_in (station_numbers s) ≡ s
  unfolding station_in station_numbers head_fields
  numbers-back =
      let first = flat_map slot_numbers (used_slots s) in
      let second = flat_map waiting_numbers (used_queue s) in
      let behind : drop (length slot_fields * 16) (first ++ second) ≡ second = drop_at first second (length slot_fields * 16) (slots-numbers s) in
      rw (behind, slots-back second, queue-back, w.slots_blank, w.queue_blank)

  found-again : FoundAgain s
  unfolding station_from current
  found-again =
      let decoded : decode station_fields (station_bytes s) 0 ≡ station_numbers s =
      unfold station_bytes in
      ap (λ b. decode station_fields b 0) (sym (append-nil (encode station_fields (station_numbers s))))
      ∙ there_and_back station_fields (station_numbers s) [] [] 0 0 (station-numbers s) fields-filled refl in
      (station-sized s, rw (station-sized s, station-first s, decoded) numbers-back)

-- ── what is handed out ───────────────────────────────────────────────────────

each-padded : {A : Type 0} (P : A → Type 0) (b : A) → P b → (n : ℕ) (l : List A) → Each P l → Each P (padded b n l)
unfolding padded
each-padded P b h zero l e = tt
each-padded P b h (suc n) [] e = (h, each-padded P b h n [] tt)
each-padded P b h (suc n) (x ∷ l) e = (e.0, each-padded P b h n l e.1)

padded-again : {A : Type 0} (b : A) (m n : ℕ) (l : List A) → length l ≤ n → in_use b m n (padded b m l) ≡ padded b m l
unfolding in_use padded
padded-again b zero n l h = refl
padded-again b (suc m) zero [] h = ap (λ r. b ∷ r) (padded-again b m zero [] h)
padded-again b (suc m) (suc n) [] h = ap (λ r. b ∷ r) (padded-again b m n [] (omega arith))
padded-again b (suc m) zero (x ∷ l) h = absurd (not-suc-le-zero h)
padded-again b (suc m) (suc n) (x ∷ l) h = ap (λ r. x ∷ r) (padded-again b m n l (le_of_suc-le-suc h))

request-wide : (r : W.Request) → Wide (request_image r)
unfolding request_image
request-wide r = padded-length 0 16 r.number

blank-wide : Wide blank_request
unfolding blank_request
blank-wide = refl

slot-wide : (c : Channel) (s : R.Slot) → Wide (slot_image c s).request
unfolding slot_image
slot-wide c s = go (kept_in s)
  where
    go : (o : Option R.Dealing) → Wide (image_or o)
    go none = blank-wide
    go (some r) = request-wide r.request

slots-wide : (cs : List Channel) (ss : List R.Slot) → Each (λ x. Wide x.request) (slot_images cs ss)
slots-wide [] ss = tt
slots-wide (c ∷ cs) [] = tt
slots-wide (c ∷ cs) (s ∷ ss) = (slot-wide c s, slots-wide cs ss)

queue-wide : (q : List R.Waiting) → Each (λ x. Wide x.request) (map waiting_image q)
unfolding waiting_image
queue-wide [] = tt
queue-wide (w ∷ q) = (request-wide w.request, queue-wide q)

few-images : (cs : List Channel) (ss : List R.Slot) → length (slot_images cs ss) ≤ length ss
few-images [] ss = omega arith
few-images (c ∷ cs) [] = omega arith
few-images (c ∷ cs) (s ∷ ss) = omega (arith, few-images cs ss)

image-whole : (c : Config) (m : R.Station) → Whole (image_of c m)
unfolding image_of blank_slot blank_waiting slot_image
image-whole c m =
    record {
      slots_blank = padded-again blank_slot 16 (length m.slots) (slot_images c.channels m.slots) (few-images c.channels m.slots);
      queue_blank = padded-again blank_waiting 32 (length m.queue) (map waiting_image m.queue) (omega (arith, length-map m.queue waiting_image));
      slots_wide = each-padded (λ x. Wide x.request) blank_slot blank-wide 16 (slot_images c.channels m.slots) (slots-wide c.channels m.slots);
      queue_wide = each-padded (λ x. Wide x.request) blank_waiting blank-wide 32 (map waiting_image m.queue) (queue-wide m.queue);
    }

set-up-found : (c : Config) (v : Option ℕ) (s : Station) → set_up_for c v ≡ Ok s → FoundAgain s
set-up-found c none s e =
    let same : image_of c (fresh c) ≡ s = cc in
    rw (← same) (found-again (image_of c (fresh c)) (image-whole c (fresh c)))
set-up-found c (some n) s e = cc

pub blank-is-found-again : BlankIsFoundAgain
unfolding blank_station
blank-is-found-again = found-again blank_station (image-whole (given 0 []) (fresh (given 0 [])))

step-found : (s : Station) (e : Event) → refusal s e ≡ none → FoundAgain (stepped_by s e).station
unfolding stepped_by
step-found s e h =
    rw h (found-again (image_of (config_of s) (act (config_of s) (model_of s) e).next) (image-whole (config_of s) (act (config_of s) (model_of s) e).next))

pub handed-out-is-found-again : HandedOutIsFoundAgain
handed-out-is-found-again = (λ c. set-up-found c (set_up_verdict c), step-found)

-- ── bytes of another size or another version ─────────────────────────────────

blank-refused : (e : Event) → refusal blank_station e ≡ some 29
unfolding refusal refusals records_keep viewed blank_station image_of model_of config_of sound config_keeps identity_keeps is_coast fresh padded
blank-refused e = refl

pub other-layout-is-not-sound : OtherLayoutIsNotSound
unfolding station_from
other-layout-is-not-sound b h e = rw h (blank-refused e)
