-- Blocks laid one at a time are blocks laid at once, in a room that holds them.
use Prim.Native.Nat.{ℕ, suc, ◌+◌, ◌-◌, ◌*◌, ◌<◌, ◌≤◌}
use mathlib.Core.Path.{◌≡◌, refl, sym, ap, ◌∙◌}
use mathlib.Core.List.{List, [], ◌∷◌, ◌++◌, append_assoc, append-nil}
use native.Mathlib.Omega.{arith}
use native.Mathlib.Nat.{zero-add}
use lib.ListN.{length, take, drop, take-append-drop}
use borrow.Rule.Slice.PartMut.{put_mid, Post-is}
use lib.Seq.{paste, take_all, length-paste, take-paste, drop-paste, drop-drop}
use borrow.Author.Tests.{le-leb, lt-leb, lt-ltb, le-ltb}
use Rattle.rules.specs.Rules.Places.{Each}
use Rattle.actions.specs.Blocks.{in_bytes, joined, holds, put_count, put_room}
use Rattle.blocks.specs.Laid.{holds_at, lay_count, lay_room, Laid, laid_from}

-- ── one block ────────────────────────────────────────────────────────────────

module _ (b : List ℕ) (k : ℕ) (room : List ℕ) where
  pub no_number : 255 ≤ k → (k ≡ lay_count k (length room)) × (room ≡ lay_room b k room)
  unfolding holds_at lay_count lay_room
  no_number h = rw (le-ltb k 255 h) (refl, refl)

  pub no_room : k < 255 → length room < 40 * suc k → (k ≡ lay_count k (length room)) × (room ≡ lay_room b k room)
  unfolding holds_at lay_count lay_room
  no_room n h = rw (lt-ltb k 255 n, lt-leb (40 * suc k) (length room) h) (refl, refl)

  module _ (n : k < 255) (h : 40 * suc k ≤ length room) where
    pub counted : lay_count k (length room) ≡ suc k
    unfolding holds_at lay_count
    counted = rw (lt-ltb k 255 n, le-leb (40 * suc k) (length room) h)

    pub put : (now : List ℕ) → now ≡ in_bytes b → put_mid (40 * k) (40 * k + 40 - 40 * k) room now ≡ lay_room b k room
    unfolding holds_at lay_room
    put now w =
        let e : 40 * k + 40 ≡ 40 * suc k = omega arith in
        rw (lt-ltb k 255 n, le-leb (40 * suc k) (length room) h, w, Post-is (40 * k) (40 * k + 40) room (omega arith), e) (sym (append_assoc (take (40 * k) room) (in_bytes b) (drop (40 * suc k) room)))

    pub pasted : length (in_bytes b) ≡ 40 → lay_room b k room ≡ paste room (40 * k) (in_bytes b) 40
    unfolding holds_at lay_room
    pasted w =
        let e : 40 * suc k ≡ 40 * k + 40 = omega arith in
        rw (lt-ltb k 255 n, le-leb (40 * suc k) (length room) h, take_all 40 (in_bytes b) (omega (arith, w)), e)

-- ── many blocks ──────────────────────────────────────────────────────────────

-- 40 bytes each
abbrev pub Forty : List (List ℕ) → Type 0
Forty bs = Each (λ b. length (in_bytes b) ≡ 40) bs

-- some, then others
pub laid-append : (l m : List (List ℕ)) (k : ℕ) (room : List ℕ) → laid_from (l ++ m) k room ≡ laid_from m (laid_from l k room).next (laid_from l k room).room
unfolding laid_from
laid-append [] m k room = refl
laid-append (b ∷ l) m k room = laid-append l m (lay_count k (length room)) (lay_room b k room)

-- at once
abbrev at_once : List (List ℕ) → ℕ → List ℕ → Laid
at_once bs k room = record { next = k + length bs; room = take (40 * k) room ++ joined bs ++ drop (40 * (k + length bs)) room }

one_more : (b : List ℕ) (bs : List (List ℕ)) (k : ℕ) (room : List ℕ) → 40 * (k + length (b ∷ bs)) ≤ length room → length (in_bytes b) ≡ 40
    → at_once bs (suc k) (paste room (40 * k) (in_bytes b) 40) ≡ at_once (b ∷ bs) k room
one_more b bs k room h w =
    let n : suc k + length bs ≡ k + length (b ∷ bs) = omega arith in
    let e : 40 * suc k ≡ 40 * k + 40 = omega arith in
    let d : 40 * (k + length (b ∷ bs)) ≡ (40 * k + 40) + 40 * length bs = omega arith in
    let front = take-paste room (40 * k) (in_bytes b) 40 (omega arith) (omega (arith, w)) in
    let back = drop-paste room (40 * k) (in_bytes b) 40 (omega arith) (omega (arith, w)) in
    let behind : drop (40 * (k + length (b ∷ bs))) (paste room (40 * k) (in_bytes b) 40) ≡ drop (40 * (k + length (b ∷ bs))) room =
    rw d (sym (drop-drop (40 * length bs) (40 * k + 40) (paste room (40 * k) (in_bytes b) 40)) ∙ ap (drop (40 * length bs)) back ∙ drop-drop (40 * length bs) (40 * k + 40) room) in
    let q : take (40 * suc k) (paste room (40 * k) (in_bytes b) 40) ≡ take (40 * k) room ++ in_bytes b = rw e (front ∙ ap (λ l. take (40 * k) room ++ l) (take_all 40 (in_bytes b) (omega (arith, w)))) in
    rw (n, q, behind)
    (ap (λ (l : List ℕ). record { next = k + length (b ∷ bs); room = l ++ drop (40 * (k + length (b ∷ bs))) room }) (append_assoc (take (40 * k) room) (in_bytes b) (joined bs)))

-- in a room that holds them
pub laid-whole : (bs : List (List ℕ)) → Forty bs → (k : ℕ) (room : List ℕ) → k + length bs ≤ 255 → 40 * (k + length bs) ≤ length room
    → laid_from bs k room ≡ record { next = k + length bs; room = take (40 * k) room ++ joined bs ++ drop (40 * (k + length bs)) room }
unfolding laid_from
laid-whole [] f k room m h = let n : k + 0 ≡ k = omega arith in rw (n, append-nil (take (40 * k) room)) (ap (λ (l : List ℕ). record { next = k; room = l }) (sym (take-append-drop (40 * k) room)))
laid-whole (b ∷ bs) f k room m h =
    let c = counted b k room (omega arith) (omega arith) in
    let p = pasted b k room (omega arith) (omega arith) f.0 in
    let l = length-paste room (40 * k) (in_bytes b) 40 (omega arith) (omega (arith, f.0)) in
    rw (c, p) (laid-whole bs f.1 (suc k) (paste room (40 * k) (in_bytes b) 40) (omega arith) (omega (arith, l)) ∙ one_more b bs k room h f.0)

-- from the front
pub laid-put : (bs : List (List ℕ)) → Forty bs → (room : List ℕ) → length bs ≤ 255 → 40 * length bs ≤ length room
    → laid_from bs 0 room ≡ record { next = put_count bs (length room); room = put_room bs room }
unfolding put_count put_room holds
laid-put bs f room m h = rw (le-leb (40 * length bs) (length room) h)
    (laid-whole bs f 0 room (omega arith) (omega arith) ∙ ap (λ (n : ℕ). record { next = n; room = joined bs ++ drop (40 * n) room }) (zero-add (length bs)))
