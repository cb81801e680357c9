-- What a sequence says, on the records: who asks for what, and what a kind of sequence makes of that.
use Rattle.std.specs.Prelude.{ℕ, cond, eqb}
use Rattle.sequence.specs.declared.Meaning.{Meaning}
use Rattle.rules.specs.Rules.Words as W
use Rattle.rules.specs.Rules.Heard as H
use Rattle.rules.specs.Rules.Heard.{call_request, data_request, bq, declined, working_call, end_of_call, nothing}
use Rattle.requests.specs.declared.Mode.{Mode}
use Rattle.requests.specs.declared.Mode.TheVariants.{Simplex, Duplex}
use Rattle.requests.specs.declared.Request.{Request}
use Rattle.requests.specs.Views.{request_of}
use Rattle.hearing.specs.declared.HeardKind.{HeardKind}
use Rattle.hearing.specs.declared.HeardKind.TheVariants.{CallRequest, DataRequest, Bq, Declined, WorkingCall, EndOfCall, Nothing}
use Rattle.hearing.specs.declared.Heard.{Heard}

-- "101 duplex"
abbrev pub mode_in : ℕ → Mode
mode_in first = cond (eqb first 101) Duplex Simplex

-- the sender, the station that it addresses, and the rest as it was sent
unfoldable pub asked_in : Meaning → Request
asked_in m = record { ship = m.sender; station = m.address; mode = mode_in m.first; second = m.second; number = m.number }

-- a kind, and who asks for what
abbrev pub heard_as : HeardKind → W.Request → H.Heard
heard_as CallRequest r = call_request r
heard_as DataRequest r = data_request r.who r.number
heard_as (Bq i) r = bq i.0 r.who
heard_as Declined r = declined r.who
heard_as WorkingCall r = working_call r.who
heard_as EndOfCall r = end_of_call r.who
heard_as Nothing r = nothing

abbrev pub heard_of : Heard → H.Heard
heard_of h = heard_as h.kind (request_of h.request)
