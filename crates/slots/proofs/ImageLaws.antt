-- What is laid out stands for what it was laid out for; and a record laid out anew.
use Prim.Native.Nat.{ℕ, zero, suc, ◌≤◌}
use mathlib.Core.List.{List, [], ◌∷◌, map}
use mathlib.Core.Path.{◌≡◌, refl, sym, ap, ◌∙◌}
use native.Mathlib.Nat.{le_of_suc-le-suc, not-suc-le-zero}
use native.Mathlib.Omega.{arith}
use lib.ListN.{length, length-map, take}
use Rattle.units.specs.declared.Channel.{Channel}
use Rattle.rules.specs.Rules.Words as W
use Rattle.rules.specs.Rules.Words.{Config, simplex, duplex}
use Rattle.rules.specs.Rules.Places.{Each}
use Rattle.rules.specs.Rules.Bytes.{padded}
use Rattle.rules.specs.Rules.Station as R
use Rattle.rules.specs.Rules.Station.{dealing, call_number_in, free, taken, pending, busy, held}
use Rattle.requests.specs.Views.{viewed, itself, mode_of, digits_of, request_of}
use Rattle.requests.specs.Images.{mode_image, request_image}
use Rattle.slots.specs.declared.Slot.{Slot}
use Rattle.slots.specs.declared.Waiting.{Waiting}
use Rattle.slots.specs.Phases.{kept_in}
use Rattle.slots.specs.Views.{dealing_of, slot_view, waiting_view, channel_of}
use Rattle.slots.specs.Images.{stored_image, slot_image, waiting_image, blank_slot, blank_waiting, tidy_slot, tidy_waiting, slot_images, Short, ShortSlot, Fits}
use Rattle.slots.proofs.PhaseLaws.{Keeps, phase-there}

-- ── one record ──

mode-there : (m : W.Mode) → mode_of (mode_image m) ≡ m
mode-there simplex = refl
mode-there duplex = refl

-- the first of an array that was laid out from a list
read_back : {A B : Type 0} (v : B → A) (b : B) (m : ℕ) (l : List B) → length l ≤ m → viewed v (length l) (padded b m l) ≡ map v l
unfolding viewed padded
read_back v b zero [] h = refl
read_back v b (suc m) [] h = refl
read_back v b zero (x ∷ l) h = absurd (not-suc-le-zero h)
read_back v b (suc m) (x ∷ l) h = ap (λ r. v x ∷ r) (read_back v b m l (le_of_suc-le-suc h))

pub map-itself : {A : Type 0} (l : List A) → map itself l ≡ l
map-itself [] = refl
map-itself (x ∷ l) = ap (λ r. x ∷ r) (map-itself l)

pub request-there : (r : W.Request) → Short r → request_of (request_image r) ≡ r
unfolding request_of request_image digits_of
request-there r h = rw (mode-there r.mode, read_back itself 0 16 r.number h, map-itself r.number)

pub slot-there : (c : Channel) (s : R.Slot) → ShortSlot s → slot_view (slot_image c s) ≡ s
unfolding slot_image
slot-there c s h = phase-there s (dealing_of (slot_image c s)) (go s h)
  where
    go : (s : R.Slot) → ShortSlot s → Keeps (dealing (call_number_in s) (request_of (stored_image s))) (kept_in s)
    go free h = tt
    go taken h = tt
    go (pending k r t) h = ap (dealing r.call_number) (request-there r.request h)
    go (busy r g l) h = ap (dealing r.call_number) (request-there r.request h)
    go (held r n t) h = ap (dealing r.call_number) (request-there r.request h)

pub waiting-there : (w : R.Waiting) → Short w.request → waiting_view (waiting_image w) ≡ w
unfolding waiting_image
waiting-there w h = rw (request-there w.request h)

-- ── the arrays ──

images-length : (cs : List Channel) (ss : List R.Slot) → length cs ≡ length ss → length (slot_images cs ss) ≡ length ss
images-length [] [] e = refl
images-length [] (s ∷ ss) e = absurd (omega arith)
images-length (c ∷ cs) [] e = absurd (omega arith)
images-length (c ∷ cs) (s ∷ ss) e = ap suc (images-length cs ss (omega arith))

slots-back : (cs : List Channel) (ss : List R.Slot) → length cs ≡ length ss → Each ShortSlot ss → map slot_view (slot_images cs ss) ≡ ss
slots-back [] [] e h = refl
slots-back [] (s ∷ ss) e h = absurd (omega arith)
slots-back (c ∷ cs) [] e h = absurd (omega arith)
slots-back (c ∷ cs) (s ∷ ss) e h = rw (slot-there c s h.0, slots-back cs ss (omega arith) h.1)

channels-back : (cs : List Channel) (ss : List R.Slot) → length cs ≡ length ss → map channel_of (slot_images cs ss) ≡ cs
unfolding slot_image
channels-back [] [] e = refl
channels-back [] (s ∷ ss) e = absurd (omega arith)
channels-back (c ∷ cs) [] e = absurd (omega arith)
channels-back (c ∷ cs) (s ∷ ss) e = ap (λ r. c ∷ r) (channels-back cs ss (omega arith))

queue-back : (q : List R.Waiting) → Each (λ w. Short w.request) q → map waiting_view (map waiting_image q) ≡ q
queue-back [] h = refl
queue-back (w ∷ q) h = rw (waiting-there w h.0, queue-back q h.1)

module _ (c : Config) (m : R.Station) (f : Fits c m) where
  pub slots-there : viewed slot_view (length m.slots) (padded blank_slot 16 (slot_images c.channels m.slots)) ≡ m.slots
  slots-there =
      let l = slot_images c.channels m.slots in
      let e : length l ≡ length m.slots = images-length c.channels m.slots f.beside in
      ap (λ n. viewed slot_view n (padded blank_slot 16 l)) (sym e) ∙ read_back slot_view blank_slot 16 l (omega (arith, f.few)) ∙ slots-back c.channels m.slots f.beside f.short_slots

  pub channels-there : viewed channel_of (length m.slots) (padded blank_slot 16 (slot_images c.channels m.slots)) ≡ c.channels
  channels-there =
      let l = slot_images c.channels m.slots in
      let e : length l ≡ length m.slots = images-length c.channels m.slots f.beside in
      ap (λ n. viewed channel_of n (padded blank_slot 16 l)) (sym e) ∙ read_back channel_of blank_slot 16 l (omega (arith, f.few)) ∙ channels-back c.channels m.slots f.beside

  pub queue-there : viewed waiting_view (length m.queue) (padded blank_waiting 32 (map waiting_image m.queue)) ≡ m.queue
  queue-there =
      let l = map waiting_image m.queue in
      let e : length l ≡ length m.queue = simp length-map in
      ap (λ n. viewed waiting_view n (padded blank_waiting 32 l)) (sym e) ∙ read_back waiting_view blank_waiting 32 l (omega (arith, f.few_wait)) ∙ queue-back m.queue f.short_queue

-- ── laid out anew ──

pub tidied-slots : (n : ℕ) (a : List Slot) → viewed tidy_slot n a ≡ slot_images (viewed channel_of n a) (viewed slot_view n a)
unfolding viewed tidy_slot
tidied-slots n a = go (take n a)
  where
    go : (l : List Slot) → map tidy_slot l ≡ slot_images (map channel_of l) (map slot_view l)
    go [] = refl
    go (s ∷ l) = ap (λ r. tidy_slot s ∷ r) (go l)

pub tidied-queue : (n : ℕ) (a : List Waiting) → viewed tidy_waiting n a ≡ map waiting_image (viewed waiting_view n a)
unfolding viewed tidy_waiting
tidied-queue n a = go (take n a)
  where
    go : (l : List Waiting) → map tidy_waiting l ≡ map waiting_image (map waiting_view l)
    go [] = refl
    go (w ∷ l) = ap (λ r. tidy_waiting w ∷ r) (go l)
