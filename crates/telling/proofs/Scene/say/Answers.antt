use mathlib.Core.Logic.{inl, inr}
use Rattle.rules.specs.Rules.Words.{carrier_on, carrier_off, ringing_on, ringing_off}
use Rattle.rules.specs.Rules.Actions.{does}
use Rattle.requests.specs.Views.{request_of}
use Rattle.actions.specs.Sent.{sent_payload, sent_on}
use Rattle.outcomes.specs.Does.{acts_of}
use Rattle.telling.specs.Tells.{scene_view}
use Rattle.telling.proofs.TellLaws.{tells_none, tells-one, tells_more, tells-append}
use Rattle.telling.proofs.Scene.say.Goals as goal

pub returns-in-Dials : goal.returns-in-Dials
unfolding acts_of scene_view sent_on sent_payload request_of
returns-in-Dials c = rw c.in-Dials.is (tells-one c.args.self.now _ c.dial.ensures.result_value c.lay.ensures)

pub returns-in-RingsBackAgain : goal.returns-in-RingsBackAgain
unfolding acts_of scene_view
returns-in-RingsBackAgain c = elim c.in-RingsBackAgain.is [ inl e ↦ rw e (tells-one c.args.self.now _ c.call.ensures c.lay-in-RingsBackAgain.ensures) | inr e ↦ rw e (tells-one c.args.self.now _ c.call.ensures c.lay-in-RingsBackAgain.ensures) ]

pub returns-in-Frees : goal.returns-in-Frees
unfolding acts_of
returns-in-Frees c = rw c.in-Frees.is c.free.ensures

pub returns-in-Clears : goal.returns-in-Clears
unfolding acts_of scene_view sent_on sent_payload request_of
returns-in-Clears c = rw c.in-Clears.is (tells_more c.args.self.now (does (carrier_off c.args.self.now.slot.0)) c.carrier_off.ensures.result_value c.lay-in-Clears.ensures c.free-in-Clears.ensures)

pub returns-in-CoastEnds : goal.returns-in-CoastEnds
unfolding acts_of
returns-in-CoastEnds c = elim c.in-CoastEnds.is [ inl e ↦ rw e (tells-append c.args.self.now c.end-in-CoastEnds.ensures c.free-in-CoastEnds.ensures) | inr e ↦ rw e (tells-append c.args.self.now c.end-in-CoastEnds.ensures c.free-in-CoastEnds.ensures) ]

pub returns-in-ShipEnds : goal.returns-in-ShipEnds
unfolding acts_of
returns-in-ShipEnds c = rw c.in-ShipEnds.is c.end.ensures

pub returns-in-SaysAgain : goal.returns-in-SaysAgain
unfolding acts_of
returns-in-SaysAgain c = rw c.in-SaysAgain.is c.again.ensures

pub returns-in-DropsCall : goal.returns-in-DropsCall
unfolding acts_of
returns-in-DropsCall c = rw c.in-DropsCall.is (tells-append c.args.self.now c.drop_call.ensures c.free-in-DropsCall.ensures)

pub returns-in-Repeats : goal.returns-in-Repeats
unfolding acts_of scene_view
returns-in-Repeats c = elim c.in-Repeats.is [ inl e ↦ rw e (tells-one c.args.self.now _ c.acknowledge.ensures c.lay-in-Repeats.ensures) | inr e ↦ rw e (tells-one c.args.self.now _ c.acknowledge.ensures c.lay-in-Repeats.ensures) ]

pub returns-in-Offers : goal.returns-in-Offers
unfolding acts_of scene_view sent_on sent_payload request_of
returns-in-Offers c = let i = c.args.self.now.slot.0 in
    rw c.in-Offers.is
    (tells_more c.args.self.now (does (carrier_on i)) c.carrier_on.ensures.result_value c.lay-in-Offers.ensures
    (tells-one c.args.self.now _ c.acknowledge-in-Offers.ensures c.lay-in-Offers-2.ensures))

pub returns-in-Calls : goal.returns-in-Calls
unfolding acts_of scene_view sent_on sent_payload request_of
returns-in-Calls c = let i = c.args.self.now.slot.0 in
    rw c.in-Calls.is
    (tells_more c.args.self.now (does (carrier_on i)) c.carrier_on-in-Calls.ensures.result_value c.lay-in-Calls.ensures
    (tells-one c.args.self.now _ c.call-in-Calls.ensures c.lay-in-Calls-2.ensures))

pub returns-in-Joins : goal.returns-in-Joins
unfolding acts_of scene_view sent_on sent_payload request_of
returns-in-Joins c = elim c.in-Joins.is [ inl e ↦ rw e (tells-one c.args.self.now _ c.unable_to.ensures.result_value c.lay-in-Joins.ensures) | inr p ↦ rw p.1 (tells-one c.args.self.now _ c.unable_to.ensures.result_value c.lay-in-Joins.ensures) ]

pub returns-in-Unable : goal.returns-in-Unable
unfolding acts_of scene_view sent_on sent_payload request_of
returns-in-Unable c = rw c.in-Unable.is (tells-one c.args.self.now _ c.unable_to-in-Unable.ensures.result_value c.lay-in-Unable.ensures)

pub returns-in-StartsRinging : goal.returns-in-StartsRinging
unfolding acts_of scene_view sent_on sent_payload request_of
returns-in-StartsRinging c = rw c.in-StartsRinging.is (tells-one c.args.self.now (does (ringing_on c.args.self.now.slot.0)) c.ringing_on.ensures.result_value c.lay-in-StartsRinging.ensures)

pub returns-in-Transmits : goal.returns-in-Transmits
unfolding acts_of scene_view sent_on sent_payload request_of
returns-in-Transmits c = rw c.in-Transmits.is (tells-one c.args.self.now (does (ringing_off c.args.self.now.slot.0)) c.ringing_off.ensures.result_value c.lay-in-Transmits.ensures)

pub returns-in-Ignored : goal.returns-in-Ignored
unfolding acts_of scene_view sent_on sent_payload request_of
returns-in-Ignored c = let none = tells_none c.args.self.now c.args.told.now in
    elim c.in-Ignored.is [ inl e ↦ rw e none | inr (inl e) ↦ rw e none | inr (inr (inl p)) ↦ rw p.1 none | inr (inr (inr p)) ↦ rw p.1 none ]
