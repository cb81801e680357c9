-- `feed`: an S line sets a station up, and an empty line behind it is unreadable; the count printed is that of the lines behind it.
use Prim.Native.Nat.{ℕ, zero, suc, ◌+◌, ◌/◌, ◌%◌, ◌≤◌, min}
use mathlib.Core.Path.{◌≡◌, refl, sym, ap, ◌∙◌}
use mathlib.Core.Bool.{Bool, true, false, cond, true≢false}
use mathlib.Core.List.{List, [], ◌∷◌, ◌++◌, map, append_assoc, append-nil}
use mathlib.Core.Option.{Option, none, some}
use native.Mathlib.Omega.{arith}
use lib.Dec.{leb, eqb}
use lib.ListN.{length, get_or, take, drop, replicate, length-replicate}
use lib.Seq.{take_at}
use borrow.Author.Tests.{le-leb, lt-ltb, leb-true, ne_eqb}
use Rattle.sequence.proofs.Tests.{both_true, Either, yes!, no!, which}
use Rattle.rules.specs.Rules.Places.{all}
use Rattle.rules.specs.Rules.Words.{Event}
use Rattle.rules.specs.Statement.{AtMostEight}
use Rattle.rules.proofs.Eight.{at-most-eight}
use Rattle.std.specs.Prelude.{Option as Optional, Some, None, Result, Ok, Err}
use Rattle.units.specs.declared.Tenths.{Tenths}
use Rattle.gate.specs.declared.Refusal.{Refusal}
use Rattle.station.specs.declared.Station.{Station}
use Rattle.station.specs.Model.{config_of, model_of}
use Rattle.station.specs.Step.{event_at, refusal, stepped_by, set_up_of}
use Rattle.station.proofs.GateLaws.{passed}
use Rattle.lines.specs.Decimal.{is_digit}
use Rattle.lines.specs.Lines.{Said, sets_up, happens, command_of, set_up_said, spaced}
use Rattle.lines.specs.Readable.{scan, reads_as}
use Rattle.printing.specs.Texts.{ten_digits, shortened, decimal, numbers_text, put_at}
use Rattle.printing.specs.Replies.{line_feed, due_text, head_text, payload_in, action_text, block_at, action_texts, reply_text, put_text, put_length}
use Rattle.script.specs.declared.Fed.{Fed}
use Rattle.script.specs.declared.Session.{Session}
use Rattle.script.specs.declared.Text.{Text}
use Rattle.script.specs.Answering.{Desk, after_set_up, asked_for, set_up_on, event_on, handled_for, blocks_for, clock_of, due_of, no_blocks, desk_after, reply_to}
use Rattle.script.specs.Session.{no_text, add_byte, add_bytes, says_text, before_feed, begun, answered, text_with, fed_with, room_with}
use Rattle.station_theorems.proofs.Steps.{lives, lent, lent_mut}
use Rattle.useless_versions.specs.Feeds.{Feeding, Answered, FedBy, by-feed, Talked, begins, goes_on, Ends, Comes, printed_by, number_from, behind_space, line_feeds, signs, NoUselessFeed}
use Rattle.useless_versions.proofs.ShutOut.{one, shut_out}
use Rattle.useless_versions.proofs.Events.{set-up}

-- ── a line that ends is answered ─────────────────────────────────────────────

fed-is : (x : Feeding) (y : Answered) → FedBy x y → (y.fed ≡ fed_with x.session x.bytes x.room) × (y.left ≡ room_with x.session x.bytes x.room)
fed-is _ _ (by-feed κs a r s p) = (p.0, p.1)

abbrev said_in : Feeding → Option Said
said_in x = says_text (text_with x.session x.bytes)

abbrev answering : Feeding → Fed
answering x = answered (before_feed x.bytes + 1) x.session.desk (text_with x.session x.bytes) x.room

module _ (x : Feeding) (e : Ends x) where
  fed-whole : fed_with x.session x.bytes x.room ≡ answering x
  unfolding fed_with
  fed-whole = rw (le-leb 4096 (length x.room) e.roomy, lt-ltb (before_feed x.bytes) (length x.bytes) e.ends) refl

  room_whole : room_with x.session x.bytes x.room ≡ put_text x.room (reply_to x.session.desk (said_in x))
  unfolding room_with
  room_whole = rw (le-leb 4096 (length x.room) e.roomy, lt-ltb (before_feed x.bytes) (length x.bytes) e.ends) refl

  put_whole : (text : List ℕ) → take (put_length x.room text) (put_text x.room text) ≡ text
  unfolding put_length put_text put_at
  put_whole text = rw (le-leb 4096 (length x.room) e.roomy) (take_at text (drop (0 + length text) x.room) (length text) refl)

  module _ (y : Answered) (m : FedBy x y) where
    fed-as : y.fed ≡ answering x
    fed-as = (fed-is x y m).0 ∙ fed-whole

    printed-as : printed_by y ≡ reply_to x.session.desk (said_in x)
    printed-as =
        let n : y.fed.count ≡ put_length x.room (reply_to x.session.desk (said_in x)) = ap (λ (f : Fed). f.count) fed-as in
        rw (n, (fed-is x y m).1 ∙ room_whole) (put_whole (reply_to x.session.desk (said_in x)))

    desk-as : y.fed.session.desk ≡ desk_after x.session.desk (said_in x)
    desk-as = ap (λ (f : Fed). f.session.desk) fed-as

-- ── the S line, and the empty line ───────────────────────────────────────────

-- S 002001234 26
abbrev letter_s : List ℕ
letter_s = 83 ∷ 32 ∷ 48 ∷ 48 ∷ 50 ∷ 48 ∷ 48 ∷ 49 ∷ 50 ∷ 51 ∷ 52 ∷ 32 ∷ 50 ∷ 54 ∷ 10 ∷ []

abbrev feeding : Session → List ℕ → Feeding
feeding s bytes = record { session = s; bytes = bytes; room = replicate 4096 0 }

big : 4096 ≤ length (replicate {A = ℕ} 4096 0)
big = rw (length-replicate {A = ℕ} 4096 0) (omega arith)

s-ends : (s : Session) → Ends (feeding s letter_s)
s-ends s = record { ends = omega arith; roomy = big }

empty-ends : (s : Session) → Ends (feeding s (10 ∷ []))
empty-ends s = record { ends = omega arith; roomy = big }

abbrev said_s : Option Said
said_s = some (set_up_said 2001234 (26 ∷ []))

read-s : says_text (add_bytes no_text (take (before_feed letter_s) letter_s)) ≡ said_s
unfolding add_byte says_text reads_as scan command_of is_digit
read-s = refl

stands-s : (handled_for None no_blocks said_s).desk ≡ None → ⊥
stands-s e = let f = rw set-up at e in cc

told-0 : (t n : ℕ) (d : Optional Tenths) (blocks : List ℕ) → number_from 0 (reply_text 0 t n d blocks) ≡ 0
unfolding reply_text head_text decimal shortened ten_digits is_digit
told-0 t n d blocks = refl

told-40 : (t n : ℕ) (d : Optional Tenths) (blocks : List ℕ) → number_from 0 (reply_text 40 t n d blocks) ≡ 40
unfolding reply_text head_text decimal shortened ten_digits is_digit
told-40 t n d blocks = refl

module _ (s : Session) (fresh : s.text ≡ no_text) where
  says-s : said_in (feeding s letter_s) ≡ said_s
  says-s = ap (λ (t : Text). says_text (add_bytes t (take (before_feed letter_s) letter_s))) fresh ∙ read-s

  empty-answered : number_from 0 (reply_to s.desk (said_in (feeding s (10 ∷ [])))) ≡ 40
  unfolding reply_to says_text reads_as
  empty-answered = rw fresh (told-40 _ _ _ _)

  module _ (none-stands : s.desk ≡ None) where
    s-answered : number_from 0 (reply_to s.desk (said_in (feeding s letter_s))) ≡ 0
    unfolding reply_to
    s-answered = rw (says-s, none-stands, set-up) (told-0 _ _ _ _)

    s-stands : desk_after s.desk (said_in (feeding s letter_s)) ≡ None → ⊥
    unfolding desk_after
    s-stands e = stands-s (rw (says-s, none-stands) at e)

-- ── the count ────────────────────────────────────────────────────────────────

-- neither a space nor a line feed
abbrev plain : ℕ → Bool
plain b = leb 48 b

all_short : (l : List ℕ) → all plain l ≡ true → all plain (shortened l) ≡ true
unfolding shortened
all_short [] e = refl
all_short (d ∷ []) e = e
all_short (d ∷ c ∷ l) e = go (eqb d 48) (all_short (c ∷ l) (both_true (plain d) (all plain (c ∷ l)) e).1)
  where
    go : (t : Bool) → all plain (shortened (c ∷ l)) ≡ true → all plain (cond t (shortened (c ∷ l)) (d ∷ c ∷ l)) ≡ true
    go true h = h
    go false h = e

digit-plain : (n : ℕ) → plain (48 + n) ≡ true
digit-plain n = le-leb 48 (48 + n) (omega arith)

decimal-plain : (n : ℕ) → all plain (decimal n) ≡ true
unfolding decimal ten_digits
decimal-plain n =
    all_short _ (rw (digit-plain (n / 1000000000 % 10), digit-plain (n / 100000000 % 10), digit-plain (n / 10000000 % 10), digit-plain (n / 1000000 % 10), digit-plain (n / 100000 % 10), digit-plain (n / 10000 % 10), digit-plain (n / 1000 % 10), digit-plain (n / 100 % 10), digit-plain (n / 10 % 10), digit-plain (n % 10)) refl)

no-space : (b : ℕ) → plain b ≡ true → eqb b 32 ≡ false
no-space b p = ne_eqb b 32 (λ e. omega (arith, leb-true 48 b p, e))

no-feed : (b : ℕ) → plain b ≡ true → eqb b 10 ≡ false
no-feed b p = ne_eqb b 10 (λ e. omega (arith, leb-true 48 b p, e))

behind-plain : (l r : List ℕ) → all plain l ≡ true → behind_space (l ++ (32 ∷ r)) ≡ r
behind-plain [] r e = refl
behind-plain (b ∷ l) r e = let p = both_true (plain b) (all plain l) e in rw (no-space b p.0) (behind-plain l r p.1)

feeds-plain : (l r : List ℕ) → all plain l ≡ true → line_feeds (l ++ r) ≡ line_feeds r
feeds-plain [] r e = refl
feeds-plain (b ∷ l) r e = let p = both_true (plain b) (all plain l) e in rw (no-feed b p.0) (feeds-plain l r p.1)

feeds-numbers : (l r : List ℕ) → line_feeds (numbers_text l ++ r) ≡ line_feeds r
unfolding numbers_text
feeds-numbers [] r = refl
feeds-numbers (n ∷ l) r = rw (append_assoc (decimal n) (spaced (map decimal l)) r) (feeds-plain (decimal n) (spaced (map decimal l) ++ r) (decimal-plain n) ∙ feeds-numbers l r)

feeds-action : (b r : List ℕ) → line_feeds (action_text b ++ r) ≡ suc (line_feeds r)
unfolding action_text
feeds-action b r =
    let kind : List ℕ = decimal (get_or b 0 0) in
    let slot : List ℕ = decimal (get_or b 1 0) in
    let payload : List ℕ = numbers_text (payload_in b) in
    rw (append_assoc ((kind ++ (32 ∷ slot)) ++ payload) line_feed r, append_assoc (kind ++ (32 ∷ slot)) payload (10 ∷ r), append_assoc kind (32 ∷ slot) (payload ++ (10 ∷ r)))
    (feeds-plain kind (32 ∷ (slot ++ (payload ++ (10 ∷ r)))) (decimal-plain (get_or b 0 0)) ∙ feeds-plain slot (payload ++ (10 ∷ r)) (decimal-plain (get_or b 1 0)) ∙ feeds-numbers (payload_in b) (10 ∷ r))

feeds-actions : (k : ℕ) (room r : List ℕ) → line_feeds (action_texts k room ++ r) ≡ k + line_feeds r
unfolding action_texts
feeds-actions zero room r = omega arith
feeds-actions (suc k) room r =
    let last : List ℕ = action_text (block_at k room) in
    let e : line_feeds ((action_texts k room ++ last) ++ r) ≡ k + line_feeds (last ++ r) = rw (append_assoc (action_texts k room) last r) (feeds-actions k room (last ++ r)) in
    omega (arith, e, feeds-action (block_at k room) r)

feeds-due : (d : Optional Tenths) (r : List ℕ) → line_feeds (due_text d ++ r) ≡ line_feeds r
feeds-due None r = refl
feeds-due (Some t) r = feeds-plain (decimal t.0) r (decimal-plain t.0)

-- a count of at most eight is one digit
single : (n : ℕ) → n ≤ 8 → decimal n ≡ (48 + n) ∷ []
unfolding decimal shortened ten_digits
single n h =
    let a : n / 1000000000 % 10 ≡ 0 = omega arith in
    let b : n / 100000000 % 10 ≡ 0 = omega arith in
    let c : n / 10000000 % 10 ≡ 0 = omega arith in
    let d : n / 1000000 % 10 ≡ 0 = omega arith in
    let e : n / 100000 % 10 ≡ 0 = omega arith in
    let f : n / 10000 % 10 ≡ 0 = omega arith in
    let g : n / 1000 % 10 ≡ 0 = omega arith in
    let i : n / 100 % 10 ≡ 0 = omega arith in
    let j : n / 10 % 10 ≡ 0 = omega arith in
    let k : n % 10 ≡ n = omega arith in
    rw (a, b, c, d, e, f, g, i, j, k) refl

one-digit : (n : ℕ) → n ≤ 8 → (d : Optional Tenths) (r : List ℕ) → number_from 0 ((48 + n) ∷ (due_text d ++ r)) ≡ n
unfolding is_digit
one-digit n h None r = rw (le-leb 48 (48 + n) (omega arith), le-leb (48 + n) 57 (omega arith)) (omega arith)
one-digit n h (Some t) r = rw (le-leb 48 (48 + n) (omega arith), le-leb (48 + n) 57 (omega arith)) (omega arith)

module _ (a t n : ℕ) (d : Optional Tenths) (blocks : List ℕ) (h : n ≤ 8) where
  abbrev rest : List ℕ
  rest = action_texts (min n 8) blocks

  nested : reply_text a t n d blocks ≡ decimal a ++ (32 ∷ (decimal t ++ (32 ∷ (decimal n ++ (due_text d ++ (10 ∷ rest))))))
  unfolding reply_text head_text
  nested =
      append_assoc (((decimal a ++ (32 ∷ decimal t)) ++ (32 ∷ decimal n)) ++ due_text d) line_feed rest
      ∙ append_assoc ((decimal a ++ (32 ∷ decimal t)) ++ (32 ∷ decimal n)) (due_text d) (10 ∷ rest)
      ∙ append_assoc (decimal a ++ (32 ∷ decimal t)) (32 ∷ decimal n) (due_text d ++ (10 ∷ rest))
      ∙ append_assoc (decimal a) (32 ∷ decimal t) (32 ∷ (decimal n ++ (due_text d ++ (10 ∷ rest))))

  third : number_from 0 (behind_space (behind_space (reply_text a t n d blocks))) ≡ n
  third =
      ap (λ l. number_from 0 (behind_space (behind_space l))) nested
      ∙ ap (λ l. number_from 0 (behind_space l)) (behind-plain (decimal a) _ (decimal-plain a))
      ∙ ap (number_from 0) (behind-plain (decimal t) _ (decimal-plain t))
      ∙ ap (λ l. number_from 0 (l ++ (due_text d ++ (10 ∷ rest)))) (single n h)
      ∙ one-digit n h d (10 ∷ rest)

  all_lines : line_feeds (reply_text a t n d blocks) ≡ suc n
  all_lines =
      let e = rw (append-nil rest) at (feeds-actions (min n 8) blocks []) in
      let head : line_feeds (reply_text a t n d blocks) ≡ suc (line_feeds rest) =
      ap line_feeds nested
      ∙ feeds-plain (decimal a) _ (decimal-plain a)
      ∙ feeds-plain (decimal t) _ (decimal-plain t)
      ∙ feeds-plain (decimal n) _ (decimal-plain n)
      ∙ feeds-due d (10 ∷ rest) in
      omega (arith, e, head, h)

stepped-few : (s : Station) (e : Event) → (stepped_by s e).count ≤ 8
unfolding stepped_by AtMostEight
stepped-few s e = go (refusal s e) refl
  where
    go : (o : Option ℕ) → refusal s e ≡ o → (stepped_by s e).count ≤ 8
    go none h = rw h (at-most-eight (config_of s) (model_of s) e (passed s e (sym h)).sounds).0
    go (some n) h = rw h (omega arith)

few : (d : Desk) (said : Option Said) → (handled_for d no_blocks said).count ≤ 8
few d none = omega arith
few d (some (sets_up a)) = at_desk d
  where
    told : (u : Result Station Refusal) → (after_set_up u).count ≤ 8
    told (Ok s) = omega arith
    told (Err r) = omega arith

    at_desk : (d : Desk) → (set_up_on d a).count ≤ 8
    at_desk None = told (set_up_of (asked_for a))
    at_desk (Some s) = omega arith
few d (some (happens time what)) = go d
  where
    go : (d : Desk) → (event_on d (event_at time what no_blocks)).count ≤ 8
    go None = omega arith
    go (Some s) = stepped-few s (event_at time what no_blocks)

counted : (x : Feeding) (y : Answered) → FedBy x y → Ends x → suc (number_from 0 (behind_space (behind_space (printed_by y)))) ≡ line_feeds (printed_by y)
unfolding reply_to
counted x y m e =
    let d = x.session.desk in
    let h = handled_for d no_blocks (said_in x) in
    let blocks = blocks_for d no_blocks (said_in x) in
    let a = ap (λ l. suc (number_from 0 (behind_space (behind_space l)))) (printed-as x e y m) in
    let b = ap suc (third h.answer (clock_of h.desk).0 h.count (due_of h.desk) blocks (few d (said_in x))) in
    let c = all_lines h.answer (clock_of h.desk).0 h.count (due_of h.desk) blocks (few d (said_in x)) in
    a ∙ b ∙ sym c ∙ sym (ap line_feeds (printed-as x e y m))

-- ── the theorem ──────────────────────────────────────────────────────────────

-- a session that was fed an empty line
abbrev first : Feeding
first = feeding begun (10 ∷ [])

abbrev back : Answered
back = record { fed = fed_with begun (10 ∷ []) first.room; left = room_with begun (10 ∷ []) first.room }

abbrev next : Session
next = back.fed.session

talked : Talked (first ∷ []) next
talked =
    let fed = by-feed lives (begun, (lent (10 ∷ []), (lent_mut first.room, tt))) _ (begun, (lent (10 ∷ []), (lent_mut _, tt))) (refl, refl) in
    goes_on [] first back (begins tt tt begun tt refl) fed

next-is : next ≡ (answering first).session
next-is = ap (λ (f : Fed). f.session) (fed-whole first (empty-ends begun))

no_text_lem : next.text ≡ no_text
no_text_lem = ap (λ (s : Session). s.text) next-is

none-stands : next.desk ≡ None
unfolding begun desk_after says_text reads_as
none-stands = ap (λ (s : Session). s.desk) next-is

pub no-useless-feed : NoUselessFeed
unfolding NoUselessFeed
no-useless-feed =
    shut_out Comes signs FedBy (record {
      past = first ∷ [];
      begun = one;
      doable = feeding next letter_s;
      doable-comes = record { talked = talked; line = s-ends next };
      done = λ y m. ap (number_from 0) (printed-as (feeding next letter_s) (s-ends next) y m) ∙ s-answered next no_text_lem none-stands;
      busy = λ y m i. s-stands next no_text_lem none-stands (sym (desk-as (feeding next letter_s) (s-ends next) y m) ∙ i ∙ none-stands);
      later = first ∷ [];
      begun-later = one;
      bad = feeding next (10 ∷ []);
      bad-comes = record { talked = talked; line = empty-ends next };
      refused = λ y m. omega (arith, ap (number_from 0) (printed-as (feeding next (10 ∷ [])) (empty-ends next) y m) ∙ empty-answered next no_text_lem);
      counted = λ x y m u. u.other (counted x y m u.line);
    })
