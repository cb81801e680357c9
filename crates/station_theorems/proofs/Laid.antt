-- A station that was laid out keeps its records; what it has not charged yet, and which slots are free, as its model says.
use Prim.Native.Nat.{ℕ, zero, suc, ◌≤◌}
use mathlib.Core.Path.{◌≡◌, refl, ap}
use mathlib.Core.Bool.{Bool, true, false, cond, ◌&&◌}
use mathlib.Core.List.{List, [], ◌∷◌, map}
use mathlib.Core.Option.{Option, none, some}
use native.Mathlib.Omega.{arith}
use lib.ListN.{length, take, drop}
use borrow.Author.Tests.{le-leb}
use Rattle.units.specs.declared.Channel.{Channel}
use Rattle.sequence.specs.Symbols.{all_at_most}
use Rattle.rules.specs.Rules.Words.{Config, Event}
use Rattle.rules.specs.Rules.Places.{is_some, shift, lowest, all, Each}
use Rattle.rules.specs.Rules.Station as R
use Rattle.rules.specs.Rules.Station.{is_free}
use Rattle.rules.specs.Rules.Verdict.{verdict}
use Rattle.rules.specs.Rules.Bytes.{padded, number_of}
use Rattle.rules.specs.Statement.{uncharged_slots, uncharged_tenths}
use Rattle.sequence.proofs.Tests.{both_true}
use Rattle.rules.proofs.PlaceLaws.{shift_none}
use Rattle.requests.specs.Views.{viewed, itself}
use Rattle.requests.specs.Images.{request_image, blank_request}
use Rattle.slots.specs.declared.Slot.{Slot}
use Rattle.slots.specs.Phases.{kept_in}
use Rattle.slots.specs.Views.{dealing_of, slot_view}
use Rattle.slots.specs.Images.{image_or, slot_image, waiting_image, blank_slot, blank_waiting, slot_images, Short, ShortOr, ShortSlot, Fits}
use Rattle.slots.proofs.PhaseLaws.{stored-kept, since-view}
use Rattle.sound_records.specs.Kept.{number_exact, slot_exact, waiting_exact}
use Rattle.station.specs.declared.Station.{Station}
use Rattle.station.specs.Model.{model_of, image_of}
use Rattle.station.specs.Step.{records_keep, refusal}
use Rattle.station.proofs.ImageLaws.{model-back, config-back}
use Rattle.station_theorems.specs.Statement.{uncharged_on, uncharged_by}

-- ── the records ──────────────────────────────────────────────────────────────

-- the first n of an array that was laid out
module _ {A : Type 0} (p : A → Bool) where
  all-taken : (n : ℕ) (l : List A) → all p l ≡ true → all p (take n l) ≡ true
  all-taken zero l h = refl
  all-taken (suc n) [] h = refl
  all-taken (suc n) (x ∷ l) h = let w = both_true (p x) (all p l) h in rw w.0 (all-taken n l w.1)

  all-padded : (b : A) → p b ≡ true → (n : ℕ) (l : List A) → all p l ≡ true → all p (padded b n l) ≡ true
  unfolding padded
  all-padded b k zero l h = refl
  all-padded b k (suc n) [] h = rw k (all-padded b k n [] refl)
  all-padded b k (suc n) (x ∷ l) h = let w = both_true (p x) (all p l) h in rw w.0 (all-padded b k n l w.1)

  all-itself : (l : List A) → all p (map itself l) ≡ all p l
  all-itself [] = refl
  all-itself (x ∷ l) = ap (λ b. p x && b) (all-itself l)

  all-viewed : (b : A) → p b ≡ true → (n m : ℕ) (l : List A) → all p l ≡ true → all p (viewed itself n (padded b m l)) ≡ true
  unfolding viewed
  all-viewed b k n m l h = rw (all-itself (take n (padded b m l))) (all-taken n (padded b m l) (all-padded b k m l h))

rest-blank : (n : ℕ) (l : List ℕ) → all_at_most 0 (drop (length l) (padded 0 n l)) ≡ true
unfolding padded
rest-blank zero [] = refl
rest-blank (suc n) [] = rest-blank n []
rest-blank zero (x ∷ l) = refl
rest-blank (suc n) (x ∷ l) = rest-blank n l

number-exact : (l : List ℕ) → length l ≤ 16 → number_exact (number_of l) ≡ true
unfolding number_exact
number-exact l h = rw (le-leb (length l) 16 h, rest-blank 16 l)

slot-exact : (c : Channel) (s : R.Slot) → ShortSlot s → slot_exact (slot_image c s) ≡ true
unfolding slot_exact slot_image request_image
slot-exact c s h = rw (stored-kept s) (go (kept_in s) h)
  where
    go : (o : Option R.Dealing) → ShortOr o → cond (is_some o) (number_exact (image_or o).number) true ≡ true
    go none h = refl
    go (some r) h = number-exact r.request.number h

slots-exact : (cs : List Channel) (ss : List R.Slot) → Each ShortSlot ss → all slot_exact (slot_images cs ss) ≡ true
slots-exact [] ss h = refl
slots-exact (c ∷ cs) [] h = refl
slots-exact (c ∷ cs) (s ∷ ss) h = rw (slot-exact c s h.0) (slots-exact cs ss h.1)

queue-exact : (q : List R.Waiting) → Each (λ w. Short w.request) q → all waiting_exact (map waiting_image q) ≡ true
unfolding waiting_exact waiting_image request_image
queue-exact [] h = refl
queue-exact (w ∷ q) h = rw (number-exact w.request.number h.0) (queue-exact q h.1)

blank-slot : slot_exact blank_slot ≡ true
unfolding slot_exact blank_slot slot_image
blank-slot = refl

blank-waiting : waiting_exact blank_waiting ≡ true
unfolding waiting_exact number_exact blank_waiting blank_request
blank-waiting = refl

module _ (c : Config) (m : R.Station) (f : Fits c m) where
  pub records-keep : records_keep (image_of c m) ≡ true
  unfolding records_keep image_of
  records-keep =
      let a = slots-exact c.channels m.slots f.short_slots in
      let b = queue-exact m.queue f.short_queue in
      rw (le-leb (length m.slots) 16 f.few, le-leb (length m.queue) 32 f.few_wait, all-viewed slot_exact blank_slot blank-slot (length m.slots) 16 (slot_images c.channels m.slots) a)
      (all-viewed waiting_exact blank_waiting blank-waiting (length m.queue) 32 (map waiting_image m.queue) b)

  -- what is refused is what the rules refuse
  pub refusal_is : (e : Event) → refusal (image_of c m) e ≡ verdict c m e
  unfolding refusal verdict
  refusal_is e = rw (records-keep, config-back c m f, model-back c m f)

-- ── the tenths held ──────────────────────────────────────────────────────────

slots-uncharged : (t : ℕ) (l : List Slot) → uncharged_on t l ≡ uncharged_slots t (map slot_view l)
slots-uncharged t [] = refl
slots-uncharged t (s ∷ l) = rw (since-view s.phase (dealing_of s), slots-uncharged t l)

pub uncharged-is : (s : Station) → uncharged_by s ≡ uncharged_tenths (model_of s)
unfolding uncharged_by uncharged_tenths model_of viewed
uncharged-is s = slots-uncharged s.clock.0 (take s.count s.slots)

-- ── the slots that are free ──────────────────────────────────────────────────

pub none_free : (l : List Slot) → lowest is_free (map slot_view l) ≡ none → Each (λ x. is_free (slot_view x) ≡ false) l
none_free [] h = tt
none_free (x ∷ l) h = go (is_free (slot_view x)) refl h (none_free l)
  where
    go : (b : Bool) → is_free (slot_view x) ≡ b → cond b (some zero) (shift (lowest is_free (map slot_view l))) ≡ none
        → (lowest is_free (map slot_view l) ≡ none → Each (λ x. is_free (slot_view x) ≡ false) l) → Each (λ x. is_free (slot_view x) ≡ false) (x ∷ l)
    go true f h more = let q : ◌≡◌ {A = ℕ} 0 1 = cc in absurd (omega (arith, q))
    go false f h more = (f, more (shift_none (lowest is_free (map slot_view l)) h))
