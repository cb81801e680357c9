-- What an outcome tells: its actions, laid as blocks.
use Rattle.std.specs.Prelude.{Option as Optional, ◌≡◌, ℕ, Bool, List, [], ◌∷◌, map, length}
use Rattle.rules.specs.Rules.Words.{carrier_on, carrier_off}
use Rattle.rules.specs.Rules.Actions.{Action, Ender, does, over, the_ship}
use Rattle.rules.specs.Rules.Station.{dealing}
use Rattle.rules.specs.Rules.Requests.{bill, end_acts}
use Rattle.rules.specs.Rules.Calls.{drop_acts}
use Rattle.units.specs.declared.Duration.{Duration}
use Rattle.requests.specs.Views.{request_of}
use Rattle.actions.specs.declared.Action.{Action as Made}
use Rattle.actions.specs.Blocks.{action_block}
use Rattle.actions.specs.Sent.{sent_on}
use Rattle.blocks.specs.Laid.{Laid, lay_count, lay_room, laid_from}
use Rattle.outcomes.specs.declared.Talk.{Talk}
use Rattle.outcomes.specs.Does as D
use Rattle.outcomes.specs.Does.{since_of}
use Rattle.telling.specs.declared.Scene.{Scene}
use Rattle.telling.specs.declared.Told.{Told}

-- a scene as the outcomes read it
unfoldable pub scene_view : Scene → D.Scene
scene_view s =
    record {
      clock = s.clock.0;
      slot = s.slot.0;
      own = dealing s.call.0 (request_of s.own);
      asked = request_of s.asked;
      oldest = request_of s.oldest;
      ringable = s.ringable;
    }

-- actions about its slot, from block number k on
unfoldable pub telling : Scene → List Action → ℕ → List ℕ → Laid
telling s acts k room = laid_from (map (sent_on s.channel) acts) k room

-- ── the same of a room with the number of its next block ─────────────────────

-- it is the same room, and one action is laid into it
pub record Lays (x : Made) (old new : Told) : Type 0 where
  pub same_room : new.room.ghost_name ≡ old.room.ghost_name
  pub next : new.next ≡ lay_count old.next (length old.room.now)
  pub written : new.room.now ≡ lay_room (action_block x) old.next old.room.now

-- it is the same room, and these actions are told into it
pub record Tells (s : Scene) (acts : List Action) (old new : Told) : Type 0 where
  pub same_room : new.room.ghost_name ≡ old.room.ghost_name
  pub next : new.next ≡ (telling s acts old.next old.room.now).next
  pub written : new.room.now ≡ (telling s acts old.next old.room.now).room

-- ── an outcome's parts ───────────────────────────────────────────────────────

-- "charge if answered"
abbrev pub bill_acts : D.Scene → Talk → List Action
bill_acts sc k = bill sc.slot sc.own (since_of k) sc.clock

abbrev pub off_acts : D.Scene → Ender → Optional Duration → List Action
off_acts sc e n = over sc.slot e sc.own.request.who sc.own.request.number n ∷ does (carrier_off sc.slot) ∷ []

abbrev pub ended_acts : D.Scene → Ender → Talk → List Action
ended_acts sc e k = end_acts sc.slot e sc.own (since_of k) sc.clock

abbrev pub again_acts : D.Scene → Optional Duration → List Action
again_acts sc n = does (carrier_on sc.slot) ∷ off_acts sc the_ship n

abbrev pub drop_call_acts : D.Scene → Bool → Bool → List Action
drop_call_acts sc rung tone = drop_acts sc.slot rung tone
