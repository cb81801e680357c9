-- "Try these useless versions": what each of the five is, of any function. "Demand 2 shuts out all five."
use Rattle.std.specs.Prelude.{ℕ, ◌<◌, ◌≡◌, List, []}

-- A version has a memory: what it hands back is a function of what is handed in and of all that was handed in before. It is useless
-- already where it is so in the calls that `comes` names, in each of them or in each but the first.
module _ {In Out : Type 0} (comes : List In → In → Type 0) (f : List In → In → Out) where
  abbrev pub Always : (In → Out → Type 0) → Type 0
  Always P = (past : List In) (x : In) → comes past x → P x (f past x)

  abbrev pub AfterTheFirst : (In → Out → Type 0) → Type 0
  AfterTheFirst P = (past : List In) (x : In) → (past ≡ [] → ⊥) → comes past x → P x (f past x)

-- what is seen of a call: the answer's number, whether nothing was done, and whether a count was told other than that of what was laid
pub record Signs (In Out : Type 0) : Type 1 where
  pub answer : Out → ℕ
  pub idle : In → Out → Type 0
  pub miscounted : In → Out → Type 0

pub data UselessVersion {In Out : Type 0} (comes : List In → In → Type 0) (v : Signs In Out) (f : List In → In → Out) : Type 0 where
  -- "0 done, 1 ignored": every other answer is a refusal
  refuses-everything : Always comes f (λ x y. 1 < v.answer y) → UselessVersion comes v f
  -- a fixed reply has a fixed answer; the rest of it is not even asked
  has-one-fixed-reply : (n : ℕ) → Always comes f (λ x y. v.answer y ≡ n) → UselessVersion comes v f
  does-nothing : Always comes f (λ x y. v.idle x y) → UselessVersion comes v f
  -- whatever it answers to the first: of the others it says "done", or it answers as it should and does no more
  only-says-done-after-the-first : AfterTheFirst comes f (λ x y. v.answer y ≡ 0) → UselessVersion comes v f
  only-answers-after-the-first : AfterTheFirst comes f (λ x y. v.idle x y) → UselessVersion comes v f
  -- at one call, whether it ever comes or not
  invents-the-count : (past : List In) (x : In) → v.miscounted x (f past x) → UselessVersion comes v f

-- no version that meets a contract is one of them
abbrev pub NoUselessVersion : {In Out : Type 0} → (List In → In → Type 0) → Signs In Out → (In → Out → Type 0) → Type 0
NoUselessVersion {In} {Out} comes v meets =
    (f : List In → In → Out) → ((past : List In) (x : In) → meets x (f past x)) → UselessVersion comes v f → ⊥

-- where anything may be handed in
abbrev pub Anything : {In : Type 0} → List In → In → Type 0
Anything past x = Unit {0}

-- of what changes nothing and tells no count: no version that meets a contract has one fixed reply, a refusal or any other, not even from
-- the second call on
abbrev pub NoFixedReply : {In Out : Type 0} → (In → Out → Type 0) → Type 0
NoFixedReply {In} {Out} meets =
    (f : List In → In → Out) → ((past : List In) (x : In) → meets x (f past x))
    → (n : Out) → AfterTheFirst Anything f (λ x y. y ≡ n) → ⊥
