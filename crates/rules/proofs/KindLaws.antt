-- What is heard is of its kind, and every sequence of a kind is heard as that kind.
use mathlib.Core.Path.{◌≡◌, refl, sym}
use mathlib.Core.Bool.{Bool, true, false, cond, ◌&&◌, ◌||◌}
use mathlib.Core.Option.{Option, none, some}
use Prim.Native.Nat.{ℕ}
use lib.Dec.{eqb}
use borrow.Author.Tests.{eq-eqb, eqb-true}
use Rattle.sequence.specs.declared.Field.{Field}
use Rattle.sequence.specs.declared.Field.TheVariants.{Blank, Channel, Duration}
use Rattle.sequence.specs.declared.Meaning.{Meaning}
use Rattle.rules.specs.Rules.Places.{lowest}
use Rattle.rules.specs.Rules.Words.{Mode, simplex, duplex, mode_number, Config, ours, Ours}
use Rattle.rules.specs.Rules.Heard.{Heard, nothing, sent_by, is_blank, says, same_channel, slot_named, bq_on, agrees, kind_of, addressed}
use Rattle.rules.specs.Rules.Kinds.{Plain, Means, as_call_request, as_data_request, as_working_call, as_end_of_call, as_bq, as_declined, as_nothing, OnlyThese, AllThese, ModesKept}
use Rattle.sequence.proofs.Tests.{both_true}

blank-is : (f : Field) → is_blank f ≡ true → f ≡ Blank
blank-is Blank h = refl
blank-is (Channel n) h = cc
blank-is (Duration d) h = cc

or-true : (a b : Bool) → (a || b) ≡ true → (G : Type 0) → (a ≡ true → G) → (b ≡ true → G) → G
or-true true b h G p q = p refl
or-true false b h G p q = q h

module _ (c : Config) (m : Meaning) where
  plain : (e f : ℕ) → Ours c m.address → says e f m ≡ true → Plain c e f m
  plain e f a h =
      let p = both_true (eqb m.end e && eqb m.first f) (is_blank m.field) h in
      let q = both_true (eqb m.end e) (eqb m.first f) p.0 in
      record { to-this = a; ends = eqb-true m.end e q.0; begins = eqb-true m.first f q.1; empty = blank-is m.field p.1 }

  means-if : (b : Bool) (x y : Heard) → (b ≡ true → Means c m x) → Means c m y → Means c m (cond b x y)
  means-if true x y p q = p refl
  means-if false x y p q = q

  bq-means : Ours c m.address → m.end ≡ 122 → (w : Mode) → m.first ≡ mode_number w → (f : Field) → m.field ≡ f → Means c m (bq_on (sent_by m) (slot_named c f))
  bq-means a e w g Blank h = as_nothing
  bq-means a e w g (Duration d) h = as_nothing
  bq-means a e w g (Channel n) h = go (lowest (same_channel n) c.channels) refl
    where
      go : (o : Option ℕ) → lowest (same_channel n) c.channels ≡ o → Means c m (bq_on (sent_by m) o)
      go none k = as_nothing
      go (some i) k = as_bq w n i a e g h k

  kind-means : Ours c m.address → Means c m (kind_of c m)
  unfolding kind_of
  kind-means a =
      means-if (says 117 100 m) _ _ (λ h. as_call_request simplex (plain 117 100 a h))
      (means-if (says 117 101 m) _ _ (λ h. as_call_request duplex (plain 117 101 a h))
      (means-if (says 117 106 m) _ _ (λ h. as_data_request (plain 117 106 a h))
      (means-if (says 127 100 m || says 127 101 m) _ _ (λ h. or-true (says 127 100 m) (says 127 101 m) h _ (λ k. as_working_call simplex (plain 127 100 a k)) (λ k. as_working_call duplex (plain 127 101 a k)))
      (means-if (says 117 105 m) _ _ (λ h. as_end_of_call (plain 117 105 a h))
      (means-if (agrees m) _ _
      (λ h.
      let p = both_true (eqb m.end 122) (eqb m.first 100 || eqb m.first 101) h in
      let e = eqb-true m.end 122 p.0 in
      or-true (eqb m.first 100) (eqb m.first 101) p.1 _ (λ k. bq-means a e simplex (eqb-true m.first 100 k) m.field refl) (λ k. bq-means a e duplex (eqb-true m.first 101 k) m.field refl))
      (means-if (says 122 104 m) _ _ (λ h. as_declined (plain 122 104 a h)) as_nothing))))))

-- what is heard as a kind is of that kind
pub only-these : OnlyThese
unfolding OnlyThese addressed
only-these c m = go (ours c m.address) refl
  where
    go : (b : Bool) → ours c m.address ≡ b → Means c m (cond b (kind_of c m) nothing)
    go true e = kind-means c m (eqb-true _ _ e)
    go false e = as_nothing

-- what is of a kind is heard as that kind
pub all-these : AllThese
unfolding AllThese addressed kind_of
all-these c m _ (as_call_request simplex p) k = rw (eq-eqb _ _ p.to-this, p.ends, p.begins, p.empty) refl
all-these c m _ (as_call_request duplex p) k = rw (eq-eqb _ _ p.to-this, p.ends, p.begins, p.empty) refl
all-these c m _ (as_data_request p) k = rw (eq-eqb _ _ p.to-this, p.ends, p.begins, p.empty) refl
all-these c m _ (as_working_call simplex p) k = rw (eq-eqb _ _ p.to-this, p.ends, p.begins, p.empty) refl
all-these c m _ (as_working_call duplex p) k = rw (eq-eqb _ _ p.to-this, p.ends, p.begins, p.empty) refl
all-these c m _ (as_end_of_call p) k = rw (eq-eqb _ _ p.to-this, p.ends, p.begins, p.empty) refl
all-these c m _ (as_bq simplex n i a e g h l) k = rw (eq-eqb _ _ a, e, g, h, l) refl
all-these c m _ (as_bq duplex n i a e g h l) k = rw (eq-eqb _ _ a, e, g, h, l) refl
all-these c m _ (as_declined p) k = rw (eq-eqb _ _ p.to-this, p.ends, p.begins, p.empty) refl
all-these c m _ as_nothing k = absurd (k refl)

-- the mode of a call from ashore
pub modes-kept : ModesKept
unfolding ModesKept
modes-kept n h = go (eqb n 101) refl (eqb n 100) refl h
  where
    go : (b : Bool) → eqb n 101 ≡ b → (c : Bool) → eqb n 100 ≡ c → (c || b) ≡ true → mode_number (cond b duplex simplex) ≡ n
    go true e c f k = sym (eqb-true n 101 e)
    go false e true f k = sym (eqb-true n 100 f)
    go false e false f k = cc
