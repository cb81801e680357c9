-- A mode laid out again is the mode; two records that stand for one thing are one.
use mathlib.Core.Path.{◌≡◌, refl, ap}
use Rattle.std.specs.Prelude.{Option as Optional, Some, None}
use Rattle.units.specs.declared.SlotNumber.{SlotNumber}
use Rattle.units.specs.declared.Tenths.{Tenths}
use Rattle.rules.specs.Rules.Waits as T
use Rattle.requests.specs.declared.Mode.{Mode}
use Rattle.requests.specs.declared.Mode.TheVariants.{Simplex, Duplex}
use Rattle.requests.specs.Views.{mode_of}
use Rattle.requests.specs.Images.{mode_image}
use Rattle.slots.specs.declared.QueuePlace.{QueuePlace}
use Rattle.slots.specs.declared.Wait.{Wait}
use Rattle.slots.specs.declared.Wait.TheVariants.{Entry, Loss, Main}
use Rattle.slots.specs.declared.Due.{Due}
use Rattle.slots.specs.declared.Standing.{Standing}
use Rattle.slots.specs.declared.Standing.TheVariants.{Nowhere, Holds, Waits}
use Rattle.slots.specs.Views.{wait_view, when_view, due_view, found_view, place_view, standing_view}

pub mode-back : (m : Mode) → mode_image (mode_of m) ≡ m
mode-back Simplex = refl
mode-back Duplex = refl

slot-number : (i j : SlotNumber) → i.0 ≡ j.0 → i ≡ j
slot-number i j e = ap (λ n. record { 0 = n }) e

place-number : (i j : QueuePlace) → i.0 ≡ j.0 → i ≡ j
place-number i j e = ap (λ n. record { 0 = n }) e

pub found-one : (a b : Optional SlotNumber) → found_view a ≡ found_view b → a ≡ b
found-one (Some i) (Some j) e = ap Some (slot-number i j cc)
found-one (Some i) None e = cc
found-one None (Some j) e = cc
found-one None None e = refl

pub place-one : (a b : Optional QueuePlace) → place_view a ≡ place_view b → a ≡ b
place-one (Some i) (Some j) e = ap Some (place-number i j cc)
place-one (Some i) None e = cc
place-one None (Some j) e = cc
place-one None None e = refl

pub standing-one : (a b : Standing) → standing_view a ≡ standing_view b → a ≡ b
standing-one Nowhere Nowhere e = refl
standing-one Nowhere (Holds j) e = cc
standing-one Nowhere (Waits j) e = cc
standing-one (Holds i) Nowhere e = cc
standing-one (Holds i) (Holds j) e = ap Holds (slot-number i j cc)
standing-one (Holds i) (Waits j) e = cc
standing-one (Waits i) Nowhere e = cc
standing-one (Waits i) (Holds j) e = cc
standing-one (Waits i) (Waits j) e = ap Waits (place-number i j cc)

wait-one : (a b : Wait) → wait_view a ≡ wait_view b → a ≡ b
wait-one (Entry i) (Entry j) e = ap Entry (place-number i j cc)
wait-one (Entry i) (Loss j) e = cc
wait-one (Entry i) (Main j) e = cc
wait-one (Loss i) (Entry j) e = cc
wait-one (Loss i) (Loss j) e = ap Loss (slot-number i j cc)
wait-one (Loss i) (Main j) e = cc
wait-one (Main i) (Entry j) e = cc
wait-one (Main i) (Loss j) e = cc
wait-one (Main i) (Main j) e = ap Main (slot-number i j cc)

pub when-one : (a b : Optional Tenths) → when_view a ≡ when_view b → a ≡ b
when-one None None e = refl
when-one None (Some t) e = cc
when-one (Some t) None e = cc
when-one (Some t) (Some u) e = let n : t.0 ≡ u.0 = cc in ap (λ x. Some (record { 0 = x })) n

pub due-one : (a b : Optional Due) → due_view a ≡ due_view b → a ≡ b
due-one None None e = refl
due-one None (Some d) e = cc
due-one (Some d) None e = cc
due-one (Some d) (Some f) e =
    let g : ◌≡◌ {A = T.Due} (record { what = wait_view d.wait; at = d.at.0 }) (record { what = wait_view f.wait; at = f.at.0 }) = cc in
    rw (wait-one d.wait f.wait (ap (λ p. p.what) g)) (ap (λ p. Some (record { at = record { 0 = p.at }; wait = f.wait })) g)
