-- The records laid out anew, and the wait that falls due first: what is handed back of a station.
use Prim.Native.Nat.{ℕ, zero, suc, ◌+◌, ◌≤◌}
use mathlib.Core.List.{List, [], ◌∷◌, ◌++◌, map}
use Rattle.std.specs.Prelude.{Option as Optional}
use mathlib.Core.Path.{◌≡◌, refl, sym, ap, ◌∙◌}
use native.Mathlib.Omega.{arith}
use lib.ListN.{length, take, drop, replicate}
use Rattle.rules.specs.Rules.Bytes.{padded}
use Rattle.rules.specs.Rules.Waits.{earliest}
use Rattle.rules.specs.Rules.Station.{slot_table, table, next_due, due_at}
use Rattle.requests.specs.Views.{viewed}
use Rattle.requests.proofs.ArrayLaws.{viewed-length}
use Rattle.slots.specs.declared.Due.{Due}
use Rattle.slots.specs.Views.{slot_view, waiting_view, due_view, due_of}
use Rattle.slots.specs.Images.{tidy_slot, tidy_waiting, blank_slot, blank_waiting}
use Rattle.slots.proofs.ImageLaws.{tidied-slots, tidied-queue}
use Rattle.slots.proofs.TidyLaws.{done_from, all_done}
use Rattle.due_times.specs.Joins.{queue_joined}
use Rattle.due_times.proofs.DueLaws.{earliest-queue}
use Rattle.station.specs.declared.Station.{Station}
use Rattle.station.specs.Model.{model_of, config_of, image_of}
use Rattle.station.specs.Step.{due_image}

module _ {A : Type 0} (f : A → A) (b : A) where
  -- the k unused places written over with the blank, and nothing else done yet
  pub blanked : (n k m : ℕ) (l z : List A) (x : A) → n + k ≡ length l → z ≡ replicate m x → m ≡ k → x ≡ b → take n l ++ (z ++ drop k (drop n l)) ≡ done_from f b n l n
  unfolding done_from
  blanked n k m l z x h e p q = rw (e, p, q) (go n l h)
    where
      all_blank : (k : ℕ) (l : List A) → k ≡ length l → replicate k b ++ drop k l ≡ done_from f b zero l zero
      all_blank k [] h = rw h
      all_blank k (x ∷ l) h = rw h (ap (λ r. b ∷ r) (all_blank (length l) l refl))

      go : (n : ℕ) (l : List A) → n + k ≡ length l → take n l ++ (replicate k b ++ drop k (drop n l)) ≡ done_from f b n l n
      go zero [] h = all_blank k [] (omega arith)
      go zero (x ∷ l) h = all_blank k (x ∷ l) (omega arith)
      go (suc n) [] h = absurd (omega arith)
      go (suc n) (x ∷ l) h = ap (λ r. x ∷ r) (go n l (omega arith))

  pub done-view : {B : Type 0} (v : A → B) (n : ℕ) (l : List A) → viewed v n (done_from f b n l n) ≡ viewed v n l
  unfolding done_from viewed
  done-view v zero [] = refl
  done-view v zero (x ∷ l) = refl
  done-view v (suc n) [] = refl
  done-view v (suc n) (x ∷ l) = ap (λ r. v x ∷ r) (done-view v n l)

  pub done-whole : (n i m : ℕ) (l z : List A) → z ≡ done_from f b n l i → i ≡ 0 → length l ≡ m → z ≡ padded b m (viewed f n l)
  done-whole n i m l z e j k = e ∙ rw j (all_done f b n l) ∙ ap (λ m. padded b m (viewed f n l)) k

-- the station s, with its slots and its queue laid out anew
module _ (s : Station) (few : s.count ≤ 16) (few_wait : s.waiting ≤ 32) (wide : length s.slots ≡ 16) (long : length s.queue ≡ 32) where
  pub image-is : (r : Station) → r.clock ≡ s.clock → r.mast ≡ s.mast → r.last ≡ s.last → r.count ≡ s.count → r.waiting ≡ s.waiting
      → r.slots ≡ padded blank_slot 16 (viewed tidy_slot s.count s.slots) → r.queue ≡ padded blank_waiting 32 (viewed tidy_waiting s.waiting s.queue)
      → r ≡ image_of (config_of s) (model_of s)
  unfolding image_of config_of model_of
  image-is r a b l c d e f =
      let n : s.count ≡ length (viewed slot_view s.count s.slots) = omega (arith, viewed-length slot_view s.count s.slots) in
      let m : s.waiting ≡ length (viewed waiting_view s.waiting s.queue) = omega (arith, viewed-length waiting_view s.waiting s.queue) in
      same r (image_of (config_of s) (model_of s)) a b l (c ∙ n) (d ∙ m) (e ∙ ap (padded blank_slot 16) (tidied-slots s.count s.slots)) (f ∙ ap (padded blank_waiting 32) (tidied-queue s.waiting s.queue))
    where
      same : (x y : Station) → x.clock ≡ y.clock → x.mast ≡ y.mast → x.last ≡ y.last → x.count ≡ y.count → x.waiting ≡ y.waiting → x.slots ≡ y.slots → x.queue ≡ y.queue → x ≡ y
      same x y a b l c d e f =
          ap (λ k. record { clock = k; mast = x.mast; last = x.last; count = x.count; waiting = x.waiting; slots = x.slots; queue = x.queue }) a
          ∙ ap (λ k. record { clock = y.clock; mast = k; last = x.last; count = x.count; waiting = x.waiting; slots = x.slots; queue = x.queue }) b
          ∙ ap (λ k. record { clock = y.clock; mast = y.mast; last = k; count = x.count; waiting = x.waiting; slots = x.slots; queue = x.queue }) l
          ∙ ap (λ k. record { clock = y.clock; mast = y.mast; last = y.last; count = k; waiting = x.waiting; slots = x.slots; queue = x.queue }) c
          ∙ ap (λ k. record { clock = y.clock; mast = y.mast; last = y.last; count = y.count; waiting = k; slots = x.slots; queue = x.queue }) d
          ∙ ap (λ k. record { clock = y.clock; mast = y.mast; last = y.last; count = y.count; waiting = y.waiting; slots = k; queue = x.queue }) e
          ∙ ap (λ k. record { clock = y.clock; mast = y.mast; last = y.last; count = y.count; waiting = y.waiting; slots = y.slots; queue = k }) f

  -- d is the earliest wait of the slots, e of all
  pub due-is : (d e : Optional Due) → due_view d ≡ earliest (slot_table 0 (viewed slot_view s.count s.slots)) → due_view e ≡ queue_joined 0 (map due_of (viewed waiting_view s.waiting s.queue)) (due_view d)
      → due_image (due_at (due_view e)) ≡ due_image (next_due (model_of s))
  unfolding next_due table model_of
  due-is d e h k =
      let q = viewed waiting_view s.waiting s.queue in
      let t = viewed slot_view s.count s.slots in
      ap (λ z. due_image (due_at z)) (k ∙ ap (queue_joined 0 (map due_of q)) h ∙ sym (earliest-queue 0 (map due_of q) (slot_table 0 t)))
