-- What the pieces of a record leave in a room, and what its bytes are read as.
use Prim.Native.Nat.{ℕ, zero, suc, ◌+◌, ◌-◌, ◌*◌, ◌≤◌, min}
use Prim.Native.String.{String}
use mathlib.Core.Path.{◌≡◌, refl, sym, ap, ◌∙◌}
use mathlib.Core.List.{List, [], ◌∷◌, ◌++◌, flat_map, flatten, append-nil, append_assoc}
use native.Mathlib.Omega.{arith}
use native.Mathlib.Nat.{mul-suc, le_of_suc-le-suc, not-suc-le-zero}
use native.Mathlib.Numerals.{add-one}
use lib.ListN.{length, get_or, set, take, drop, replicate, length-take, replicate-append-replicate}
use Rattle.std.proofs.lemmas.List.{take_min}
use lib.Seq.{drop-cons, length-take-le, take-suc, take_all}
use Rattle.sequence.specs.declared.Meaning.{Meaning}
use Rattle.rules.specs.Rules.Bytes.{padded}
use Rattle.requests.specs.declared.Request.{Request}
use Rattle.requests.proofs.ArrayLaws.{padded-snoc}
use Rattle.slots.specs.declared.Slot.{Slot}
use Rattle.slots.specs.declared.Waiting.{Waiting}
use Rattle.layouts.specs.Fields.{size, low_first, encode, decode_from, decode, laid}
use Rattle.layouts.specs.Records.{records_at}
use Rattle.layouts.proofs.FieldLaws.{laid_all, laid-all, laid_next}
use Rattle.layouts.proofs.RecordLaws.{records_at-more, flat_map-more, flat_map-length}
use Rattle.phase_fields.specs.declared.PhaseFields.{PhaseFields}
use Rattle.phase_fields.specs.Phases.{phase_fields}
use Rattle.channel_fields.specs.declared.FieldBytes.{FieldBytes}
use Rattle.channel_fields.specs.ChannelFields.{field_bytes}
use Rattle.lent_layout.specs.Layout.{run, request_fields, slot_fields, waiting_fields}
use Rattle.lent_layout.specs.Numbers.{numbers_from, mode_mark, request_numbers, phase_numbers, slot_numbers, waiting_numbers, in_use}
use Rattle.lent_layout.specs.Meanings.{meaning_fields, meaning_numbers, meaning_bytes}
use Rattle.lent_layout.specs.Stations.{slot_bytes, waiting_bytes}

-- ── numbers ──────────────────────────────────────────────────────────────────

pub numbers-taken : (k i : ℕ) (l : List ℕ) → i + k ≤ length l → numbers_from k i l ≡ take k (drop i l)
numbers-taken zero i l h = refl
numbers-taken (suc k) i l h =
    rw (numbers-taken k (i + 1) l (omega arith), add-one i, drop-cons l i 0 (omega arith))

digits-read : (name : String) (n : ℕ) (b : List ℕ) (p o : ℕ) → decode_from (run name n) b p o ≡ numbers_from n (p + o) b
digits-read name zero b p o = refl
digits-read name (suc n) b p o =
    let e : p + (o + 1) ≡ p + o + 1 = omega arith in
    ap (λ r. get_or b (p + o) 0 ∷ r) (digits-read name n b p (o + 1) ∙ (rw e))

pub request-digits : (b : List ℕ) (p : ℕ) → drop 5 (decode request_fields b p) ≡ numbers_from 16 (p + size (take 5 request_fields)) b
unfolding request_fields
request-digits b p = digits-read "digit" 16 b p (size (take 5 request_fields))

pub meaning-digits : (b : List ℕ) → drop 10 (decode meaning_fields b 0) ≡ numbers_from 16 (size (take 10 meaning_fields)) b
meaning-digits b = digits-read "digit" 16 b 0 (size (take 10 meaning_fields))

-- the digits of a stored number
pub sixteen : (d : List ℕ) → length d ≡ 16 → numbers_from 16 0 d ≡ d
sixteen d e = numbers-taken 16 0 d (omega arith) ∙ take_all 16 d (omega arith)

-- ── a request, a slot, a waiting ship ────────────────────────────────────────

pub request-laid : (q : Request) (room : List ℕ) (p : ℕ) → length q.number.digits ≡ 16 → p ≤ length room
    → laid_all (laid room p (low_first 4 q.ship)) p 4
    (low_first 4 q.station ∷ (mode_mark q.mode ∷ q.second ∷ q.number.count ∷ []) ∷ q.number.digits ∷ [])
    ≡ laid room p (encode request_fields (request_numbers q))
unfolding flatten request_fields request_numbers
request-laid q room p w h =
    laid-all room p (low_first 4 q.ship) (low_first 4 q.station ∷ (mode_mark q.mode ∷ q.second ∷ q.number.count ∷ []) ∷ q.number.digits ∷ []) h
    ∙ (rw (append-nil q.number.digits, sixteen q.number.digits w))

pub meaning-laid : (m : Meaning) (f : FieldBytes) (room : List ℕ) → length m.number.digits ≡ 16 → f ≡ field_bytes m.field
    → laid_all (laid room 0 (low_first 4 m.address)) 0 4
    (low_first 4 m.sender
    ∷ (m.first ∷ m.second ∷ f.kind ∷ f.first ∷ f.second ∷ f.third ∷ m.number.count ∷ m.end ∷ [])
    ∷ m.number.digits
    ∷ [])
    ≡ laid room 0 (meaning_bytes m)
unfolding flatten meaning_bytes meaning_numbers
meaning-laid m f room w e =
    laid-all room 0 (low_first 4 m.address)
    (low_first 4 m.sender ∷ (m.first ∷ m.second ∷ f.kind ∷ f.first ∷ f.second ∷ f.third ∷ m.number.count ∷ m.end ∷ []) ∷ m.number.digits ∷ [])
    (omega arith)
    ∙ (rw (append-nil m.number.digits, sixteen m.number.digits w, e))

pub phase-laid : (f : PhaseFields) (room : List ℕ) (p : ℕ) → p ≤ length room
    → laid_all (laid room p (f.kind ∷ [])) p 1
    (low_first 4 f.time ∷ (f.carrier.mark ∷ []) ∷ low_first 4 f.carrier.due ∷ (f.lasted.mark ∷ f.lasted.hours ∷ f.lasted.minutes ∷ f.lasted.seconds ∷ []) ∷ [])
    ≡ laid room p (encode (take 8 slot_fields) (phase_numbers f []))
unfolding flatten slot_fields
phase-laid f room p h =
    laid-all room p (f.kind ∷ [])
    (low_first 4 f.time ∷ (f.carrier.mark ∷ []) ∷ low_first 4 f.carrier.due ∷ (f.lasted.mark ∷ f.lasted.hours ∷ f.lasted.minutes ∷ f.lasted.seconds ∷ []) ∷ []) h

pub slot-laid : (s : Slot) (f : PhaseFields) (room : List ℕ) (p : ℕ) → f ≡ phase_fields s.phase → p ≤ length room
    → laid_all (laid room p (encode (take 8 slot_fields) (phase_numbers f []))) p (size (take 8 slot_fields))
    (low_first 4 s.channel.0 ∷ low_first 4 s.call.0 ∷ encode request_fields (request_numbers s.request) ∷ [])
    ≡ laid room p (slot_bytes s)
unfolding flatten slot_bytes slot_fields slot_numbers
slot-laid s f room p e h =
    laid-all room p (encode (take 8 slot_fields) (phase_numbers f [])) (low_first 4 s.channel.0 ∷ low_first 4 s.call.0 ∷ encode request_fields (request_numbers s.request) ∷ []) h
    ∙ (rw (append-nil (encode request_fields (request_numbers s.request)), e))

pub waiting-laid : (w : Waiting) (room : List ℕ) (p : ℕ) → p ≤ length room
    → laid_all (laid room p (low_first 4 w.due.0)) p 4 (encode request_fields (request_numbers w.request) ∷ []) ≡ laid room p (waiting_bytes w)
unfolding flatten waiting_bytes waiting_fields waiting_numbers
waiting-laid w room p h =
    laid-all room p (low_first 4 w.due.0) (encode request_fields (request_numbers w.request) ∷ []) h
    ∙ (rw (append-nil (encode request_fields (request_numbers w.request))))

-- ── the records of an array ──────────────────────────────────────────────────

module _ {A : Type 0} (f : A → List ℕ) (n : ℕ) (whole : (x : A) → length (f x) ≡ n) where
  -- one more, laid behind the others
  pub record-laid : (room : List ℕ) (p i : ℕ) (l : List A) (d : A) → i + 1 ≤ length l → p ≤ length room
      → laid (laid room p (flat_map f (take i l))) (p + n * i) (f (get_or l i d)) ≡ laid room p (flat_map f (take (i + 1) l))
  unfolding flat_map
  record-laid room p i l d h k =
      let short : length (take i l) ≡ i = length-take-le i l (omega arith) in
      let size : length (flat_map f (take i l)) ≡ n * i = flat_map-length f n whole (take i l) ∙ ap (λ j. n * j) short in
      let one : take (i + 1) l ≡ take i l ++ (get_or l i d ∷ []) = rw (add-one i) (take-suc l i d (omega arith)) in
      rw (one, flat_map-more f (take i l) (get_or l i d ∷ []), append-nil (f (get_or l i d)), ← size) (laid_next room p (flat_map f (take i l)) (f (get_or l i d)) k)

  -- a blank record is zeros
  module _ (b : A) (zeros : f b ≡ replicate n 0) where
    blanks : (m : ℕ) (l : List A) → length l ≤ m → flat_map f (padded b m l) ≡ flat_map f l ++ replicate (n * (m - length l)) 0
    unfolding flat_map padded
    blanks zero [] h = let e : n * (0 - 0) ≡ 0 = omega arith in rw e
    blanks zero (x ∷ l) h = absurd (not-suc-le-zero h)
    blanks (suc m) [] h =
        let all : suc m - 0 ≡ suc m = omega arith in
        let rest : m - 0 ≡ m = omega arith in
        let e : n + n * (m - 0) ≡ n * (suc m - 0) = rw (all, rest, mul-suc n m) (omega arith) in
        rw (zeros, blanks m [] (omega arith), replicate-append-replicate {A = ℕ} n (n * (m - 0)) 0, e)
    blanks (suc m) (x ∷ l) h =
        let e : suc m - suc (length l) ≡ m - length l = omega arith in
        rw (e, blanks m l (le_of_suc-le-suc h)) (sym (append_assoc (f x) (flat_map f l) (replicate (n * (m - length l)) 0)))

    -- zeros behind those in use
    pub blanks-laid : (room : List ℕ) (p m k : ℕ) (l : List A) → length l ≡ m → p ≤ length room
        → laid (laid room p (flat_map f (take (min k m) l))) (p + n * min k m) (replicate (n * (m - min k m)) 0) ≡ laid room p (flat_map f (in_use b m k l))
    unfolding in_use
    blanks-laid room p m k l e h =
        let used : take (min k m) l ≡ take k l = rw (← e) (take_min k l) in
        let short : length (take k l) ≡ min k m = length-take k l ∙ (rw e) in
        let size : length (flat_map f (take k l)) ≡ n * min k m = flat_map-length f n whole (take k l) ∙ ap (λ j. n * j) short in
        rw (used, blanks m (take k l) (omega arith), short) (rw size at (laid_next room p (flat_map f (take k l)) (replicate (n * (m - min k m)) 0) h))

pub padded_none : {A : Type 0} (b : A) (m : ℕ) → replicate m b ≡ padded b m []
unfolding padded
padded_none b zero = refl
padded_none b (suc m) = ap (λ r. b ∷ r) (padded_none b m)

module _ {A : Type 0} (f : ℕ → A) (size : ℕ) where
  records-length : (k p : ℕ) → length (records_at f k size p) ≡ k
  unfolding records_at
  records-length zero p = refl
  records-length (suc k) p = ap suc (records-length k (p + size))

  records-front : (n k p : ℕ) → take n (records_at f k size p) ≡ records_at f (min n k) size p
  unfolding records_at
  records-front zero k p = let e : min 0 k ≡ 0 = omega arith in rw e
  records-front (suc n) zero p = let e : min (suc n) 0 ≡ 0 = omega arith in rw e
  records-front (suc n) (suc k) p = let e : min (suc n) (suc k) ≡ suc (min n k) = omega arith in rw e (ap (λ r. f p ∷ r) (records-front n k (p + size)))

  -- one more, read into its place
  pub record-read : (b : A) (m i p : ℕ) → i + 1 ≤ m
      → set (padded b m (records_at f i size p)) i (f (p + size * i)) ≡ padded b m (records_at f (i + 1) size p)
  record-read b m i p h =
      let read = records_at f i size p in
      let next = f (p + size * i) in
      rw (add-one i, records_at-more f i size p) (ap (λ j. set (padded b m read) j next) (sym (records-length i p)) ∙ padded-snoc b m read next (omega (arith, records-length i p)))

  pub records-read : (b : A) (m n p : ℕ) → padded b m (records_at f (min n m) size p) ≡ in_use b m n (records_at f m size p)
  unfolding in_use
  records-read b m n p = ap (padded b m) (sym (records-front n m p))
