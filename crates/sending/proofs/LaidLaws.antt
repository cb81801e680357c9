-- Parts of a transmission laid one behind the other.
use Prim.Native.Nat.{ℕ, suc, ◌+◌, ◌-◌, ◌*◌, ◌<◌, ◌≤◌}
use mathlib.Core.Path.{◌≡◌, sym, ap, ◌∙◌}
use mathlib.Core.List.{List, [], ◌∷◌, ◌++◌, append_assoc, append-nil}
use native.Mathlib.Omega.{arith}
use lib.ListN.{length, get_or, take, drop, length-append, length-drop, take-append-drop}
use lib.Seq.{slice, slice_empty, slice-cons, length-slice, sets, sets-eq, length-take-le}
use lib.Seq.{take_all, take_at, take-add, drop_at, drop-append-le, drop-drop}
use Rattle.characters.specs.Code.{character_of}
use Rattle.transmission.specs.Layout.{end_of, dx, rx, transmission, bytes_of}
use Rattle.transmission.specs.Writing.{transmission_laid}
use Rattle.transmission.proofs.LayoutLaws.{bytes-length, bytes-taken, bytes-dropped, dx-end, rx-end}
use Rattle.transmission.proofs.LayoutLaws.{transmission-length, transmission-dx, transmission-rx}
use Rattle.sending.specs.Laid.{Fit, laid, places_laid}

-- ── parts of a list ──────────────────────────────────────────────────────────

slice-two : (l : List ℕ) (i : ℕ) → i + 2 ≤ length l → slice i (i + 2) l ≡ get_or l i 0 ∷ get_or l (i + 1) 0 ∷ []
slice-two l i h =
    let e : i + 2 ≡ suc (suc i) = omega arith in
    let f : i + 1 ≡ suc i = omega arith in
    rw (
      e,
      f,
      slice-cons i (suc (suc i)) l 0 (omega arith) (omega arith),
      slice-cons (suc i) (suc (suc i)) l 0 (omega arith) (omega arith),
      slice_empty (suc (suc i)) l,
    )

slices-join : (l : List ℕ) (from to n : ℕ) → from ≤ to → to + n ≤ length l → slice from to l ++ slice to (to + n) l ≡ slice from (to + n) l
slices-join l from to n low fits =
    let k : length (take to l) ≡ to = length-take-le to l (omega arith) in
    rw (take-add to n l, drop_at (take to l) (take n (drop to l)) to k, drop-append-le from (take to l) (take n (drop to l)) (omega arith))

-- ── bytes laid in a room ─────────────────────────────────────────────────────

nothing-laid : (bytes : List ℕ) (from : ℕ) (room : List ℕ) → room ≡ laid bytes from from room
nothing-laid bytes from room = rw (slice_empty from bytes, append-nil (take from room)) (sym (take-append-drop from room))

whole-laid : (bytes room : List ℕ) (n : ℕ) → length bytes ≡ n → laid bytes 0 n room ≡ bytes ++ drop n room
whole-laid bytes room n e = rw (take_all n bytes (omega arith))

-- stores one after the other
stores-lay : (bytes room stored : List ℕ) (at : ℕ) → stored ≡ slice at (at + length stored) bytes → at + length stored ≤ length room
    → sets room at stored ≡ laid bytes at (at + length stored) room
stores-lay bytes room stored at e wide = sets-eq stored room at wide ∙ rw (← e)

module _ (bytes room : List ℕ) (from to n : ℕ) (low : from ≤ to) (fits : to + n ≤ length bytes) (wide : to + n ≤ length room) where
  before-length : length (take from room ++ slice from to bytes) ≡ to
  before-length =
      let a : length (take from room) ≡ from = length-take-le from room (omega arith) in
      let b : length (slice from to bytes) ≡ to - from = length-slice from to bytes (omega arith) in
      simp length-append (omega arith)

  laid-length : length (laid bytes from to room) ≡ length room
  laid-length =
      length-append (take from room ++ slice from to bytes) (drop to room)
      ∙ rw (before-length, length-drop to room) (omega arith)

  laid-behind : laid bytes to (to + n) (laid bytes from to room) ≡ laid bytes from (to + n) room
  laid-behind =
      let d : drop (to + n) (laid bytes from to room) ≡ drop (to + n) room =
      sym (drop-drop n to (laid bytes from to room))
      ∙ ap (drop n) (drop_at (take from room ++ slice from to bytes) (drop to room) to before-length)
      ∙ drop-drop n to room in
      rw (
        d,
        take_at (take from room ++ slice from to bytes) (drop to room) to before-length,
        append_assoc (take from room) (slice from to bytes) (slice to (to + n) bytes),
        slices-join bytes from to n low fits,
      )

-- ── places of a transmission ─────────────────────────────────────────────────

pub no-places-laid : (s room : List ℕ) (from : ℕ) → room ≡ places_laid s from from room
unfolding places_laid
no-places-laid s room from = nothing-laid (bytes_of (transmission s)) (4 * from) room

module _ (s room : List ℕ) (fit : Fit s room) where
  all-bytes : length (bytes_of (transmission s)) ≡ 4 * (length s + 9)
  all-bytes =
      let a = bytes-length (transmission s) in
      let b = transmission-length s in
      omega arith

  pub room-kept : {now : List ℕ} (from to : ℕ) → from ≤ to → to ≤ length s + 9 → now ≡ places_laid s from to room → length now ≡ length room
  unfolding places_laid
  room-kept from to low high e =
      let l = all-bytes in
      rw e (laid-length (bytes_of (transmission s)) room (4 * from) (4 * to) 0 (omega arith) (omega arith) (omega arith))

  -- the two characters of a place
  characters-at : (p : ℕ) → p < length s + 9
      → slice (2 * p) (2 * p + 2) (transmission s) ≡ character_of (get_or (dx s) p 0) ∷ character_of (get_or (rx s) p 0) ∷ []
  characters-at p h =
      let l = transmission-length s in
      slice-two (transmission s) (2 * p) (omega arith) ∙ rw (transmission-dx s p 0 h, transmission-rx s p 0 h)

  bytes-at : (p : ℕ) → p < length s + 9
      → bytes_of (character_of (get_or (dx s) p 0) ∷ character_of (get_or (rx s) p 0) ∷ []) ≡ slice (4 * p) (4 * p + 4) (bytes_of (transmission s))
  bytes-at p h =
      let a : 4 * p ≡ 2 * (2 * p) = omega arith in
      let b : 2 * (2 * p) + 4 ≡ 2 * (2 * p + 2) = omega arith in
      rw (
        a,
        b,
        bytes-taken (2 * p + 2) (transmission s),
        bytes-dropped (2 * p) (take (2 * p + 2) (transmission s)),
        characters-at p h,
      )

  -- one place more
  pub place-laid : (from p dx-there rx-there : ℕ) → from ≤ p → p < length s + 9
      → dx-there ≡ character_of (get_or (dx s) p 0) → rx-there ≡ character_of (get_or (rx s) p 0)
      → sets (places_laid s from p room) (4 * p) (bytes_of (dx-there ∷ rx-there ∷ [])) ≡ places_laid s from (p + 1) room
  unfolding places_laid
  place-laid from p dx-there rx-there low high d r =
      let bytes = bytes_of (transmission s) in
      let l = all-bytes in
      let k : 4 * (p + 1) ≡ 4 * p + 4 = omega arith in
      let n = laid-length bytes room (4 * from) (4 * p) 4 (omega arith) (omega arith) (omega arith) in
      rw (d, r, k)
      (stores-lay bytes (laid bytes (4 * from) (4 * p) room) _ (4 * p) (bytes-at p high) (omega arith)
      ∙ laid-behind bytes room (4 * from) (4 * p) 4 (omega arith) (omega arith) (omega arith))

  -- the last two places, with the end of sequence in DX
  pub ends-laid : (end check : ℕ)
      → end ≡ character_of (get_or (rx s) (7 + length s) 0) → check ≡ character_of (get_or (rx s) (8 + length s) 0)
      → sets (sets (places_laid s 8 (7 + length s) room) (4 * (7 + length s)) (bytes_of (end ∷ end ∷ [])))
      (4 * (7 + length s + 1)) (bytes_of (end ∷ check ∷ []))
      ≡ places_laid s 8 (length s + 9) room
  ends-laid end check e f =
      let k = length s in
      let a : 7 + k ≡ length s + 7 = omega arith in
      let b : 8 + k ≡ 7 + k + 1 = omega arith in
      let d : length s + 9 ≡ 7 + k + 1 + 1 = omega arith in
      let is-end : end ≡ character_of (end_of s) = e ∙ ap character_of (rw a (rx-end s 0 (omega arith))) in
      let dx-there : (p : ℕ) → length s + 7 ≤ p → p < length s + 9 → end ≡ character_of (get_or (dx s) p 0) =
      λ p low high. is-end ∙ ap character_of (sym (dx-end s p 0 low high)) in
      rw (d, place-laid 8 (7 + k) end end (omega arith) (omega arith) (dx-there (7 + k) (omega arith) (omega arith)) e)
      (place-laid 8 (7 + k + 1) end check (omega arith) (omega arith) (dx-there (7 + k + 1) (omega arith) (omega arith)) (rw b at f))

  -- all places, in two parts
  pub all-places-laid : (p : ℕ) → p ≤ length s + 9 → places_laid s p (length s + 9) (places_laid s 0 p room) ≡ transmission_laid s room
  unfolding places_laid transmission_laid
  all-places-laid p h =
      let bytes = bytes_of (transmission s) in
      let l = all-bytes in
      let n = 4 * (length s + 9) - 4 * p in
      let k : 4 * (length s + 9) ≡ 4 * p + n = omega arith in
      rw (all-bytes, k)
      (laid-behind bytes room 0 (4 * p) n (omega arith) (omega arith) (omega arith) ∙ whole-laid bytes room (4 * p + n) (omega arith))
