-- Actions told one after the other, and all on the channel of their slot.
use Prim.Native.Nat.{ℕ, zero, suc}
use mathlib.Core.Path.{◌≡◌, refl, sym, ap, ◌∙◌}
use mathlib.Core.Bool.{Bool, true, false}
use mathlib.Core.List.{List, [], ◌∷◌, ◌++◌, map, map-append}
use Rattle.units.specs.declared.Channel.{Channel}
use Rattle.rules.specs.Rules.Words.{Config, Request, carrier_off}
use Rattle.rules.specs.Rules.Actions.{Action, Ender, does, the_ship, the_coast}
use Rattle.rules.specs.Rules.Station.{Dealing}
use Rattle.rules.specs.Rules.Requests.{end_acts}
use Rattle.rules.specs.Rules.Calls.{drop_acts}
use Rattle.rules.specs.Rules.Bytes.{channel_at}
use Rattle.actions.specs.declared.Action.{Action as Made}
use Rattle.actions.specs.Blocks.{action_block}
use Rattle.actions.specs.Sent.{sent_payload, sent_on, sent_block}
use Rattle.blocks.specs.Laid.{laid_from}
use Rattle.blocks.proofs.LaidLaws.{laid-append}
use Rattle.outcomes.specs.declared.Talk.{Talk}
use Rattle.outcomes.specs.declared.Talk.TheVariants.{Unanswered, Since}
use Rattle.outcomes.specs.declared.Outcome.{Outcome}
use Rattle.outcomes.specs.declared.Outcome.TheVariants.{Ignored, Passes, Turns, Dials, RingsBackAgain, Frees, Clears, CoastEnds, ShipEnds, SaysAgain, Repeats, Renews, Redials, Offers, Joins, Replaces, Unable, Drops, Calls, CallsAgain, StartsRinging, Transmits, DropsCall}
use Rattle.outcomes.specs.Does as D
use Rattle.outcomes.specs.Does.{since_of, ring_back_acts, acts_of}
use Rattle.telling.specs.declared.Scene.{Scene}
use Rattle.telling.specs.declared.Told.{Told}
use Rattle.telling.specs.Tells.{scene_view, telling, Lays, Tells}

-- ── one after the other ──────────────────────────────────────────────────────

module _ (s : Scene) where
  pub tells_none : (t : Told) → Tells s [] t t
  unfolding telling laid_from
  tells_none t = record { same_room = refl; next = refl; written = refl }

  pub tells_more : {acts : List Action} (a : Action) {x : Made} {t u v : Told} → action_block x ≡ sent_on s.channel a → Lays x t u → Tells s acts u v → Tells s (a ∷ acts) t v
  unfolding telling laid_from
  tells_more {acts} a {x} {t} {u} {v} e l r =
      let f : telling s acts u.next u.room.now ≡ telling s (a ∷ acts) t.next t.room.now = rw (l.next, l.written, e) in
      record { same_room = r.same_room ∙ l.same_room; next = r.next ∙ ap (λ y. y.next) f; written = r.written ∙ ap (λ y. y.room) f }

  pub tells-one : (a : Action) {x : Made} {t u : Told} → action_block x ≡ sent_on s.channel a → Lays x t u → Tells s (a ∷ []) t u
  tells-one a {x} {t} {u} e l = tells_more a e l (tells_none u)

  pub tells-append : {k l : List Action} {t u v : Told} → Tells s k t u → Tells s l u v → Tells s (k ++ l) t v
  unfolding telling
  tells-append {k} {l} {t} {u} {v} p q =
      let f : telling s l u.next u.room.now ≡ telling s (k ++ l) t.next t.room.now =
      rw (p.next, p.written, map-append (sent_on s.channel) k l) (sym (laid-append (map (sent_on s.channel) k) (map (sent_on s.channel) l) t.next t.room.now)) in
      record { same_room = q.same_room ∙ p.same_room; next = q.next ∙ ap (λ y. y.next) f; written = q.written ∙ ap (λ y. y.room) f }

-- how many may be rung back does not matter, where one may
pub oldest-acts : (i : ℕ) (q : Request) (n : ℕ) → (n ≡ 0 → ⊥) → ring_back_acts i q n ≡ ring_back_acts i q 1
oldest-acts i q zero h = absurd (h refl)
oldest-acts i q (suc n) h = refl

-- ── on the channel of the slot ───────────────────────────────────────────────

module _ (c : Config) where
  end_on : (i : ℕ) (e : Ender) (r : Dealing) (k : Talk) (t : ℕ) → map (sent_on (channel_at c i)) (end_acts i e r (since_of k) t) ≡ map (sent_block c) (end_acts i e r (since_of k) t)
  unfolding sent_block sent_on sent_payload
  end_on i e r Unanswered t = refl
  end_on i e r (Since b) t = refl

  ring-on : (i : ℕ) (r : Request) (n : ℕ) → map (sent_on (channel_at c i)) (ring_back_acts i r n) ≡ map (sent_block c) (ring_back_acts i r n)
  unfolding sent_block sent_on sent_payload
  ring-on i r zero = refl
  ring-on i r (suc n) = refl

  drop-on : (i : ℕ) (rung tone : Bool) → map (sent_on (channel_at c i)) (drop_acts i rung tone) ≡ map (sent_block c) (drop_acts i rung tone)
  unfolding sent_block sent_on sent_payload
  drop-on i false false = refl
  drop-on i false true = refl
  drop-on i true false = refl
  drop-on i true true = refl

  both-on : (ch : Channel) (l m : List Action) → map (sent_on ch) l ≡ map (sent_block c) l → map (sent_on ch) m ≡ map (sent_block c) m
      → map (sent_on ch) (l ++ m) ≡ map (sent_block c) (l ++ m)
  both-on ch l m p q = map-append (sent_on ch) l m ∙ ap (λ x. x ++ map (sent_on ch) m) p ∙ ap (λ x. map (sent_block c) l ++ x) q ∙ sym (map-append (sent_block c) l m)

  -- every action of an outcome is about its slot, or needs no channel
  pub told-on : (sc : D.Scene) (o : Outcome) → map (sent_on (channel_at c sc.slot)) (acts_of sc o) ≡ map (sent_block c) (acts_of sc o)
  unfolding acts_of sent_block sent_on sent_payload
  told-on sc Ignored = refl
  told-on sc Passes = refl
  told-on sc (Turns p) = refl
  told-on sc Dials = refl
  told-on sc RingsBackAgain = refl
  told-on sc Frees = ring-on sc.slot sc.oldest sc.ringable
  told-on sc Clears = ap (λ l. sent_on (channel_at c sc.slot) (does (carrier_off sc.slot)) ∷ l) (ring-on sc.slot sc.oldest sc.ringable)
  told-on sc (CoastEnds k) = both-on (channel_at c sc.slot) (end_acts sc.slot the_coast sc.own (since_of k) sc.clock) (ring_back_acts sc.slot sc.oldest sc.ringable) (end_on sc.slot the_coast sc.own k sc.clock) (ring-on sc.slot sc.oldest sc.ringable)
  told-on sc (ShipEnds k) = end_on sc.slot the_ship sc.own k sc.clock
  told-on sc (SaysAgain n) = refl
  told-on sc Repeats = refl
  told-on sc Renews = refl
  told-on sc (Redials k) = both-on (channel_at c sc.slot) (end_acts sc.slot the_coast sc.own (since_of k) sc.clock) (ring_back_acts sc.slot sc.oldest sc.ringable) (end_on sc.slot the_coast sc.own k sc.clock) (ring-on sc.slot sc.oldest sc.ringable)
  told-on sc Offers = refl
  told-on sc Joins = refl
  told-on sc (Replaces k) = refl
  told-on sc (Unable n) = refl
  told-on sc (Drops k) = refl
  told-on sc Calls = refl
  told-on sc CallsAgain = refl
  told-on sc StartsRinging = refl
  told-on sc Transmits = refl
  told-on sc (DropsCall rung tone) = both-on (channel_at c sc.slot) (drop_acts sc.slot rung tone) (ring_back_acts sc.slot sc.oldest sc.ringable) (drop-on sc.slot rung tone) (ring-on sc.slot sc.oldest sc.ringable)

  -- what a scene tells on the channel of its slot is what the rules send
  pub telling-sent : (s : Scene) → s.channel ≡ channel_at c s.slot.0 → (o : Outcome) (k : ℕ) (room : List ℕ)
      → telling s (acts_of (scene_view s) o) k room ≡ laid_from (map (sent_block c) (acts_of (scene_view s) o)) k room
  unfolding telling scene_view
  telling-sent s e o k room =
      ap (λ x. laid_from (map (sent_on x) (acts_of (scene_view s) o)) k room) e ∙ ap (λ l. laid_from l k room) (told-on (scene_view s) o)
