-- A sequence's request is the one that its kind asks for; and a kind is told by what was heard.
use Prim.Native.Nat.{ℕ}
use mathlib.Core.Bool.{Bool, true, false, ◌&&◌}
use mathlib.Core.List.{map-id}
use mathlib.Core.Path.{◌≡◌, refl, sym, ap, ◌∙◌}
use lib.Dec.{eqb}
use borrow.Author.Tests.{eqb-true}
use Rattle.sequence.specs.declared.Meaning.{Meaning}
use Rattle.rules.specs.Rules.Words as W
use Rattle.rules.specs.Rules.Words.{simplex, duplex}
use Rattle.rules.specs.Rules.Heard as H
use Rattle.rules.specs.Rules.Heard.{call_request, data_request, bq, declined, working_call, end_of_call, nothing, is_blank, says, request_in}
use Rattle.requests.specs.Views.{viewed, digits_of, mode_of, request_of}
use Rattle.hearing.specs.declared.HeardKind.{HeardKind}
use Rattle.hearing.specs.declared.HeardKind.TheVariants.{CallRequest, DataRequest, Bq, Declined, WorkingCall, EndOfCall, Nothing}
use Rattle.hearing.specs.declared.Heard.{Heard}
use Rattle.hearing.specs.Said.{mode_in, asked_in, heard_as, heard_of}

pub asked_is : (m : Meaning) → request_of (asked_in m) ≡ request_in (mode_of (mode_in m.first)) m
unfolding request_of asked_in digits_of viewed
asked_is m = rw map-id

first-is : (e f : ℕ) (m : Meaning) → says e f m ≡ true → m.first ≡ f
first-is e f m h = eqb-true m.first f (go (eqb m.end e) (eqb m.first f) (is_blank m.field) h)
  where
    go : (a b c : Bool) → ((a && b) && c) ≡ true → b ≡ true
    go true true c h = refl
    go true false c h = h
    go false true c h = refl
    go false false c h = h

pub simplex_asked : (m : Meaning) → says 117 100 m ≡ true → request_of (asked_in m) ≡ request_in simplex m
simplex_asked m h = asked_is m ∙ ap (λ f. request_in (mode_of (mode_in f)) m) (first-is 117 100 m h)

pub duplex_asked : (m : Meaning) → says 117 101 m ≡ true → request_of (asked_in m) ≡ request_in duplex m
duplex_asked m h = asked_is m ∙ ap (λ f. request_in (mode_of (mode_in f)) m) (first-is 117 101 m h)

abbrev kind_in : H.Heard → HeardKind
kind_in (call_request r) = CallRequest
kind_in (data_request x n) = DataRequest
kind_in (bq i x) = Bq (record { 0 = i })
kind_in (declined x) = Declined
kind_in (working_call x) = WorkingCall
kind_in (end_of_call x) = EndOfCall
kind_in nothing = Nothing

kind-back : (k : HeardKind) (r : W.Request) → kind_in (heard_as k r) ≡ k
kind-back CallRequest r = refl
kind-back DataRequest r = refl
kind-back (Bq i) r = refl
kind-back Declined r = refl
kind-back WorkingCall r = refl
kind-back EndOfCall r = refl
kind-back Nothing r = refl

-- the same request, and the same thing heard
pub heard-one : (a b : Heard) → a.request ≡ b.request → heard_of a ≡ heard_of b → a ≡ b
heard-one a b q h =
    let k : a.kind ≡ b.kind = sym (kind-back a.kind (request_of a.request)) ∙ ap kind_in h ∙ kind-back b.kind (request_of b.request) in
    rw (k, q)
