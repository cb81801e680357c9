-- What set-up lays out: a free slot for each channel of the list.
use Prim.Native.Nat.{ℕ, zero, suc, ◌<◌, ◌≤◌, min}
use mathlib.Core.Bool.{Bool, true, false, ◌&&◌}
use mathlib.Core.List.{List, [], ◌∷◌, map}
use mathlib.Core.Path.{◌≡◌, refl, sym, ap, ◌∙◌}
use native.Mathlib.Omega.{arith}
use native.Mathlib.Nat.{le_of_suc-le-suc, not-suc-le-zero}
use lib.Dec.{leb}
use lib.ListN.{length, take, length-map}
use lib.Seq.{take_all, length-take-le}
use borrow.Author.Tests.{le-leb, lt-leb, leb-true, leb-false}
use Rattle.units.specs.declared.Channel.{Channel}
use Rattle.sequence.proofs.Tests.{Either, yes!, no!, which}
use Rattle.rules.specs.Rules.Words.{Config}
use Rattle.rules.specs.Rules.Station.{fresh}
use Rattle.rules.specs.Rules.Sound.{identity_keeps, channels_keep, config_keeps}
use Rattle.rules.specs.Rules.Verdict.{set_up_verdict}
use Rattle.rules.specs.Rules.Bytes.{padded}
use Rattle.requests.specs.Views.{viewed}
use Rattle.requests.proofs.ArrayLaws.{padded-front, viewed-min}
use Rattle.slots.specs.declared.Slot.{Slot}
use Rattle.slots.specs.declared.mast.Mast.{Mast}
use Rattle.slots.specs.Views.{channel_of, alone, on_mast, named, config_for}
use Rattle.slots.specs.Images.{slot_image, free_on, blank_slot, blank_waiting, tenths, slot_images}
use Rattle.std.specs.Prelude.{Ok, Err}
use Rattle.gate.specs.declared.Refusal.TheVariants.{BadSetUp}
use Rattle.station.specs.Model.{image_of}
use Rattle.station.specs.Step.{channel_number, counted_of, chosen, sixteen_of, set_up_of, set_up_by}

channels-back : (m n : ℕ) (l : List Channel) → length l ≤ m → n ≡ length l → viewed channel_of n (padded blank_slot m (map free_on l)) ≡ l
unfolding viewed padded free_on slot_image
channels-back m n l h e = rw e (go m l h)
  where
    go : (m : ℕ) (l : List Channel) → length l ≤ m → viewed channel_of (length l) (padded blank_slot m (map free_on l)) ≡ l
    go m [] h = refl
    go zero (x ∷ l) h = absurd (not-suc-le-zero h)
    go (suc m) (x ∷ l) h = ap (λ r. x ∷ r) (go m l (le_of_suc-le-suc h))

images : (mast : Mast) (l : List Channel) → slot_images l (fresh (on_mast mast l)).slots ≡ map free_on l
unfolding fresh free_on
images mast [] = refl
images mast (x ∷ l) = ap (λ r. free_on x ∷ r) (images mast l)

counts : (mast : Mast) (l : List Channel) → length (fresh (on_mast mast l)).slots ≡ length l
unfolding fresh
counts mast [] = refl
counts mast (x ∷ l) = ap suc (counts mast l)

-- ── what is refused ──────────────────────────────────────────────────────────

pub set-up-refused : (c : Config) → config_keeps c ≡ false → Err BadSetUp ≡ set_up_of c
unfolding set_up_verdict
set-up-refused c h = rw h

pub none-chosen : (mast : Mast) (channels : List Channel) (n : ℕ) → 16 < n → config_keeps (on_mast mast (counted_of channels n)) ≡ false
unfolding config_keeps channels_keep
none-chosen mast channels n h = rw (lt-leb n 16 h) (never (identity_keeps (named mast)))
  where
    never : (a : Bool) → (a && false) ≡ false
    never true = refl
    never false = refl

pub too_long : (mast : Mast) (l : List ℕ) → 16 < length l → config_keeps (on_mast mast (map channel_number l)) ≡ false
unfolding config_keeps channels_keep
too_long mast l h =
    let n : length (map channel_number l) ≡ length l = simp length-map in
    rw (n, lt-leb (length l) 16 h) (none_left (identity_keeps (on_mast mast (map channel_number l))) (leb 1 (length l)) _)
  where
    none_left : (a b y : Bool) → (a && ((b && false) && y)) ≡ false
    none_left true true y = refl
    none_left true false y = refl
    none_left false b y = refl

-- ── sixteen channels and a count ─────────────────────────────────────────────

module _ (mast : Mast) (channels : List Channel) (n : ℕ) (w : length channels ≡ 16) (h : n ≤ 16) where
  counted : length (take n channels) ≡ n
  counted = length-take-le n channels (omega (arith, w, h))

  pub keeps-chosen : (a : List Slot) → a ≡ padded blank_slot 16 (viewed free_on n channels) → config_keeps (config_for mast n a) ≡ config_keeps (on_mast mast (counted_of channels n))
  unfolding viewed
  keeps-chosen a e =
      let back = channels-back 16 n (take n channels) (omega (arith, counted, h)) (sym counted) in
      ap (λ (l : List Channel). config_keeps (on_mast mast l)) (rw (e, le-leb n 16 h) back)

  pub set-up-done : config_keeps (on_mast mast (counted_of channels n)) ≡ true
      → Ok (record { clock = tenths 0; mast = mast; last = record { 0 = 0 }; count = n; waiting = 0; slots = padded blank_slot 16 (viewed free_on n channels); queue = padded blank_waiting 32 [] }) ≡ (set_up_of (on_mast mast (counted_of channels n)))
  unfolding set_up_verdict image_of fresh viewed
  set-up-done k = rw (k, le-leb n 16 h, images mast (take n channels), counts mast (take n channels), counted)

-- channels that come as numbers: laid out one by one, and what set-up makes of them
pub all_laid : (l : List ℕ) (i : ℕ) → i ≡ min 16 (length l) → padded (channel_number 0) 16 (viewed channel_number i l) ≡ sixteen_of l
unfolding sixteen_of
all_laid l i e = rw (e, viewed-min channel_number 16 l)

pub set-up-numbers : (k : ℕ) (l : List ℕ) (n : ℕ) → n ≡ length l → set_up_of (chosen k (sixteen_of l) n) ≡ set_up_by k l
unfolding set_up_by sixteen_of viewed
set-up-numbers k l n e = go (which (leb n 16))
  where
    numbers : n ≤ 16 → take n (sixteen_of l) ≡ map channel_number l
    numbers h =
        let m : length (map channel_number l) ≡ length l = simp length-map in
        rw (e ∙ sym m, take_all 16 l (omega (arith, e, h))) (padded-front (channel_number 0) 16 (map channel_number l) (omega (arith, m, e, h)))

    go : Either (leb n 16) → set_up_of (chosen k (sixteen_of l) n) ≡ set_up_by k l
    go (yes! p) = rw p (ap (λ (c : List Channel). set_up_of (on_mast (alone k) c)) (numbers (leb-true n 16 p)))
    go (no! p) =
        let long : 16 < n = leb-false n 16 p in
        sym (set-up-refused _ (none-chosen (alone k) (sixteen_of l) n long)) ∙ set-up-refused _ (too_long (alone k) l (omega (arith, e, long)))
