-- Everything that an accepted event sends is a sequence: the blocks that the rack hands out are those of the rules.
use Prim.Native.Nat.{ℕ}
use mathlib.Core.Path.{◌≡◌, refl}
use mathlib.Core.Bool.{true}
use mathlib.Core.List.{List, map}
use mathlib.Core.Option.{Option, none, some}
use native.Mathlib.Omega.{arith}
use lib.ListN.{length, take, length-take}
use borrow.Author.Tests.{le-leb, eq-eqb}
use Rattle.sequence.specs.declared.Meaning.{Meaning}
use Rattle.sequence.specs.declared.Number.{Number}
use Rattle.sequence.specs.Answers.{is_done}
use Rattle.sequence.specs.Identity.{is_coast}
use Rattle.sequence.specs.Field.{unable_second}
use Rattle.sequence.specs.Number.{number_ok}
use Rattle.sequence.specs.Layout.{valid}
use Rattle.sequence.specs.Reading.{answer_of, meaning_read}
use Rattle.writing.proofs.Valid.{parts}
use Rattle.writing.proofs.EvenedLaws.{fit, all_take}
use Rattle.rules.specs.Rules.Words.{Party, Request, Config, Ashore, ashore_in, Event, unable, Ours}
use Rattle.rules.specs.Rules.Heard.{Heard, call_request, data_request, digits_in, sent_by, addressed, meaning}
use Rattle.rules.specs.Rules.Kinds.{Means, as_call_request, as_data_request, as_working_call, as_end_of_call, as_bq, as_declined, as_nothing, OnlyThese}
use Rattle.rules.specs.Rules.Actions.{does}
use Rattle.rules.specs.Rules.Bytes.{blocks}
use Rattle.rules.specs.Rules.Station.{Station, the_slot, set_clock}
use Rattle.rules.specs.Rules.Sound.{config_keeps, number_keeps, request_keeps}
use Rattle.rules.specs.Rules.Requests.{standing, rule_a, Out}
use Rattle.rules.specs.Rules.Ashore.{ashore_request}
use Rattle.rules.specs.Rules.Calls.{act}
use Rattle.rules.specs.Rules.Verdict.{names_ship, names_number, verdict}
use Rattle.rules.specs.ListAlone.Book.{Stop, Book}
use Rattle.rules.specs.ListAlone.Reading.{moment}
use Rattle.rules.specs.ListAlone.LineWords.{Word}
use Rattle.rules.proofs.KindLaws.{only-these}
use Rattle.rules.proofs.Readable.{heard-keeps, from-ship}
use Rattle.rules.proofs.SentLaws.{unable-valid}
use Rattle.rules.proofs.Stored.{Stored, clock-stored}
use Rattle.rules.proofs.Accepted.{accepted, sounds}
use Rattle.rules.proofs.Effect.{Effect, rests, drops, data-asked, call-asked, to-slot, called-ashore, act-effect, heard-at}
use Rattle.rules.proofs.Base.{seen}
use Rattle.rules.proofs.Kept.{stored}
use Rattle.actions.specs.Blocks.{joined}
use Rattle.actions.specs.Sent.{sent_block, speaks}
use Rattle.actions.proofs.Speaking.{Speaks, coast, sent-blocks}
use Rattle.actions.proofs.Saying.{Says, requested-says, called-says, outcome-says}

-- ── a data request ───────────────────────────────────────────────────────────

number-keeps : (n : Number) → number_ok n ≡ true → number_keeps (digits_in n) ≡ true
unfolding number_keeps
number-keeps n h =
    let f = fit n h in
    let e : length (take n.count n.digits) ≡ n.count = simp length-take (omega (arith, f.most, f.wide)) in
    rw (e, le-leb 1 n.count f.some, le-leb n.count 16 f.most, all_take 9 n.count n.digits f.each)

module _ (c : Config) (good : config_keeps c ≡ true) where
  pub data-speaks : (m : Meaning) → valid m ≡ true → Ours c m.address → Speaks c (does (unable 109 (sent_by m) (digits_in m.number)))
  unfolding unable_second
  data-speaks m v e =
      let p = parts m v in
      let k : is_coast m.address ≡ true = coast c good m.address e in
      (unable-valid 109 (sent_by m) (digits_in m.number) (from-ship m.address m.sender k p.identities) k refl (number-keeps m.number p.number), omega arith)

  heard-data : (s : List ℕ) → valid (meaning_read s) ≡ true → (x : Party) (n : List ℕ) → meaning c s ≡ data_request x n → Speaks c (does (unable 109 x n))
  unfolding meaning OnlyThese
  heard-data s v x n e = (go (addressed c (meaning_read s)) (only-these c (meaning_read s)) e, omega arith)
    where
      go : (h : Heard) → Means c (meaning_read s) h → h ≡ data_request x n → speaks c (does (unable 109 x n)) ≡ true
      go _ (as_call_request w p) e = cc
      go _ (as_data_request p) e =
          let y : sent_by (meaning_read s) ≡ x = cc in
          let z : digits_in (meaning_read s).number ≡ n = cc in
          rw (← y, ← z) (data-speaks (meaning_read s) v p.to-this).0
      go _ (as_working_call w p) e = cc
      go _ (as_end_of_call p) e = cc
      go _ (as_bq w n i a b k d f) e = cc
      go _ (as_declined p) e = cc
      go _ as_nothing e = cc

  -- what is heard on channel 70 can be answered
  abbrev Answerable : Heard → Type 0
  Answerable m = ((r : Request) → m ≡ call_request r → request_keeps c r ≡ true) × ((x : Party) (n : List ℕ) → m ≡ data_request x n → Speaks c (does (unable 109 x n)))

  -- what is asked for ashore
  abbrev Callable : Option Ashore → Type 0
  Callable q = (a : Ashore) → q ≡ some a → request_keeps c (ashore_request c a) ≡ true

  effect-says : (st : Station) → Stored c st → (q : Option Ashore) (b : Book) (ws : List Word) (cs : List Stop) (m : Heard) (o : Out) → Effect c st q b ws cs m o → Callable q → Answerable m → Says c o
  unfolding rule_a
  effect-says st s _ _ _ _ _ _ (rests m n h) k a = tt
  effect-says st s _ _ _ _ _ _ (drops n) k a = tt
  effect-says st s _ _ _ _ _ _ (data-asked x n) k a = (a.1 x n refl, tt)
  effect-says st s _ _ _ _ _ _ (call-asked r) k a = requested-says c good r (a.0 r refl) st s (standing st r.who)
  effect-says st s _ _ _ _ _ _ (to-slot m i u e) k a = outcome-says c good st s i (the_slot st i) u refl
  effect-says st s _ _ _ _ _ _ (called-ashore x i e) k a = called-says c good (ashore_request c x) (k x refl) st s i e

-- 02, no. 2: a request from ashore that is not refused keeps the rules
pub asked-keeps : (c : Config) (q : Option Ashore) → names_ship q ≡ true → names_number q ≡ true → (a : Ashore) → q ≡ some a → request_keeps c (ashore_request c a) ≡ true
unfolding ashore_request request_keeps
asked-keeps c q s n a e = rw (rw e at s, eq-eqb c.identity c.identity refl, rw e at n) refl

-- ── an event of a sound station ──────────────────────────────────────────────

-- where symbols that the reader accepts have a valid meaning, the blocks handed out are those of the rules
module _ (reads : (s : List ℕ) → is_done (answer_of s) ≡ true → valid (meaning_read s) ≡ true) where
  pub act-says : (c : Config) (st : Station) (e : Event) → verdict c st e ≡ none → Says c (act c st e)
  unfolding set_clock
  act-says c st e v =
      let a = accepted c st e v in
      let from = sounds c st a.is-sound in
      effect-says c from.config _ (clock-stored c (moment (seen st) e) st (stored c st from)) _ _ _ _ _ _ (act-effect c st e.time e.what) (asked-keeps c (ashore_in e.what) a.ship a.number)
      (heard-at c (Answerable c from.config) e.what a.readable (λ r y. cc, λ x n y. let q : ◌≡◌ {A = ℕ} 0 1 = cc in absurd (omega (arith, q))) (λ m k. (heard-keeps c from.config m k, heard-data c from.config m (reads m k))))

  pub handed_out : (c : Config) (st : Station) (e : Event) → verdict c st e ≡ none → joined (map (sent_block c) (act c st e).acts) ≡ blocks c (act c st e).acts
  handed_out c st e v = sent-blocks c (act c st e).acts (act-says c st e v)
