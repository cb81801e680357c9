-- What rules b and c do with a request of the ship that has the slot, said once. A law on requests goes by ruling.
use mathlib.Core.Path.{◌≡◌, refl}
use mathlib.Core.List.{List, [], map}
use mathlib.Core.Bool.{Bool, true, false, cond}
use mathlib.Core.Option.{Option, none, some}
use Prim.Native.Nat.{ℕ}
use Rattle.rules.specs.Rules.Words.{Party, Mode, simplex, duplex, Request}
use Rattle.rules.specs.Rules.Station.{Kind, is_called, Stage, answered_at, Dealing, Slot, pending, busy, Station, used_up, next_call, offer_of}
use Rattle.rules.specs.Rules.Requests.{Out, ignored, owns, no_number, repeated, afresh, same, rule_b, redial, rule_c, b_or_c}
use Rattle.rules.specs.ListAlone.Book.{Stop, begun_as, Column, blank}
use Rattle.rules.specs.ListAlone.Reading.{goes_on, begins, again, told, tell, let_go, hush, stop_of, asked_again}
use Rattle.rules.specs.Statement.{owed}
use Rattle.rules.proofs.Base.{by-slot, by-kind, by-stage, call_in, view, alike_same, next-left}

-- what the request stops on the slot's column
abbrev pub again_of : ℕ → Party → ℕ → Column → List Stop
again_of t x i l = cond (asked_again x l.call l.gone) (stop_of t i l.call) []

-- the slot i of st holds p; where it is the ship's, the request is read on its column by `again`, and stops cs
pub data Ruling (i : ℕ) (st : Station) (r : Request) (cs : List Stop) : Slot → Out → Type 0 where
  passes : (p : Slot) → (owns r.who p ≡ true → (again r.who (view p) ≡ view p) × ([] ≡ map owed cs))
      → Ruling i st r cs p (ignored st)
  repeats : (k : Kind) (o : Dealing) (d : ℕ) → tell st.clock r (again r.who (view (pending k o d))) st.last_call ≡ goes_on (view (pending k o d)) st.last_call → [] ≡ map owed cs
      → Ruling i st r cs (pending k o d) (repeated i st r)
  renews : (k : Kind) (o : Dealing) (d : ℕ) → is_called k ≡ false → used_up st ≡ false → tell st.clock r (again r.who (view (pending k o d))) st.last_call ≡ goes_on (view (offer_of r st)) (next_call st) → [] ≡ map owed cs
      → Ruling i st r cs (pending k o d) (afresh i st r)
  runs-out : (k : Kind) (o : Dealing) (d : ℕ) → is_called k ≡ false → used_up st ≡ true → again r.who (view (pending k o d)) ≡ view (pending k o d) → [] ≡ map owed cs
      → Ruling i st r cs (pending k o d) (no_number st r)
  redials : (o : Dealing) (g : Stage) (c : Option ℕ)
      → (owns r.who (busy o g c) ≡ true → (hush (let_go (again r.who (view (busy o g c)))) ≡ blank) × (cs ≡ stop_of st.clock i (call_in o g)))
      → Ruling i st r cs (busy o g c) (redial i o (answered_at g) st r)

module _ (i : ℕ) (st : Station) (r : Request) where
  ruling-if : {cs : List Stop} {p : Slot} (b : Bool) (x y : Out) → (b ≡ true → Ruling i st r cs p x) → (b ≡ false → Ruling i st r cs p y) → Ruling i st r cs p (cond b x y)
  ruling-if true x y g h = g refl
  ruling-if false x y g h = h refl

  abbrev RuledC : Dealing → Mode → Option ℕ → Stage → Type 0
  RuledC o m c g = Ruling i st r (again_of st.clock r.who i (view (busy o g c))) (busy o g c) (rule_c i o (answered_at g) m c st r)

  rule_c-ruling : (o : Dealing) (g : Stage) (m : Mode) (c : Option ℕ) → o.request.mode ≡ m → RuledC o m c g
  unfolding rule_c
  rule_c-ruling o g duplex c e = by-stage (RuledC o duplex c) (λ d. passes _ (λ h. (refl, refl))) (λ d. passes _ (λ h. (refl, refl))) (λ b. passes _ (λ h. (rw (h, e) refl, rw (h, e) refl))) g
  rule_c-ruling o g simplex none e = by-stage (RuledC o simplex none) (λ d. passes _ (λ h. (refl, refl))) (λ d. passes _ (λ h. (refl, refl))) (λ b. passes _ (λ h. (rw (h, e) refl, rw (h, e) refl))) g
  rule_c-ruling o g simplex (some u) e = by-stage (RuledC o simplex (some u)) (λ d. redials o _ (some u) (λ h. (refl, refl))) (λ d. redials o _ (some u) (λ h. (refl, refl))) (λ b. redials o _ (some u) (λ h. (rw (h, e) refl, rw (h, e) refl))) g

  abbrev Ruled : Slot → Type 0
  Ruled p = Ruling i st r (again_of st.clock r.who i (view p)) p (b_or_c i p st r)

  -- offered afresh, if a number is left
  afresh-ruling : {cs : List Stop} (k : Kind) (o : Dealing) (d : ℕ) → is_called k ≡ false → again r.who (view (pending k o d)) ≡ view (pending k o d) → [] ≡ map owed cs
      → tell st.clock r (view (pending k o d)) st.last_call ≡ begins (told st.clock (view (pending k o d))) r st.last_call → told st.clock (view (pending k o d)) (begun_as (next_call st) r) ≡ view (offer_of r st)
      → Ruling i st r cs (pending k o d) (cond (used_up st) (no_number st r) (afresh i st r))
  afresh-ruling k o d z a c h e = ruling-if (used_up st) (no_number st r) (afresh i st r) (λ u. runs-out k o d z u a c) (λ u. renews k o d z u (rw (a, h, ← e, next-left st u) refl) c)

  rule_b-ruling : (k : Kind) (o : Dealing) (d : ℕ) → Ruled (pending k o d)
  unfolding b_or_c rule_b
  rule_b-ruling k o d = by-kind (λ x. Ruled (pending x o d))
      (ruling-if (same r o.request) (repeated i st r) (cond (used_up st) (no_number st r) (afresh i st r)) (λ h. repeats _ o d (rw (alike_same r o.request, h) refl) refl) (λ h. afresh-ruling _ o d refl refl refl (rw (alike_same r o.request, h) refl) refl))
      (afresh-ruling _ o d refl refl refl refl refl) (afresh-ruling _ o d refl refl refl refl refl) (afresh-ruling _ o d refl refl refl refl refl) (passes _ (λ h. (refl, refl))) (passes _ (λ h. (refl, refl))) (passes _ (λ h. (refl, refl))) k

  pub b_or_c-ruling : (p : Slot) → Ruled p
  unfolding b_or_c
  b_or_c-ruling = by-slot Ruled (passes _ (λ h. (refl, refl))) (passes _ (λ h. (refl, refl))) rule_b-ruling (λ o g c. rule_c-ruling o g o.request.mode c refl) (λ o n d. passes _ (λ h. (refl, refl)))
