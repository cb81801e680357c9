-- What a command says, and the letter that names a command.
use mathlib.Core.Bool.{Bool, true, false, cond, ◌&&◌}
use mathlib.Core.List.{List, [], ◌∷◌}
use mathlib.Core.Option.{none, some}
use mathlib.Core.Path.{◌≡◌, refl, sym, ◌∙◌}
use Rattle.std.specs.Prelude.{Option as Optional, Some, None}
use Prim.Native.Nat.{ℕ}
use native.Mathlib.Omega.{arith}
use lib.Dec.{eqb}
use borrow.Author.Tests.{eqb-true, le-leb, leb-true}
use Rattle.rules.specs.Rules.Places.{all}
use Rattle.rules.specs.Rules.Words.{line_dialled_out, line_lifted, line_hung, carrier_heard, carrier_lost, hand_takes, hand_gives, heard, signal, operator, What, tick, on_channel70, on_slot, from_ashore}
use Rattle.sequence.proofs.Tests.{Either, yes!, no!, which, both_true}
use Rattle.slots.specs.declared.Signal.TheVariants.{LineDialledOut, LineLifted, LineHung, CarrierHeard, CarrierLost}
use Rattle.slots.specs.declared.Hand.TheVariants.{Takes, GivesBack}
use Rattle.lines.specs.declared.Form.{Form}
use Rattle.lines.specs.declared.Form.TheVariants.{Symbols, SlotSymbols, Signalled, Operated, Called, Alone}
use Rattle.lines.specs.declared.Command.{Command}
use Rattle.lines.specs.declared.Command.TheVariants.{SetUp, Happens}
use Rattle.lines.specs.Lines.{Said, sets_up, happens, what_letter, set_up_letter, letter_of, form_what, form_letter, forms, command_among, command_of, symbols_in, what_numbers, numbers_of, set_up_said, is_symbol, is_number, what_in_range, in_range}
use Rattle.lines.specs.Readable.{says_slot, says, says_of}

pub no-some : {A : Type 0} {x : A} → none ≡ some x → ⊥
no-some e = let z : ◌≡◌ {A = ℕ} 0 1 = cc in omega arith

-- ── every letter ─────────────────────────────────────────────────────────────

-- the letter of what a form says names that form
pub names-form : (f : Form) (slot : ℕ) (symbols : List ℕ) → command_of (what_letter (form_what f slot symbols)) ≡ Some (Happens f)
unfolding command_of
names-form Symbols slot symbols = refl
names-form SlotSymbols slot symbols = refl
names-form (Signalled LineDialledOut) slot symbols = refl
names-form (Signalled LineLifted) slot symbols = refl
names-form (Signalled LineHung) slot symbols = refl
names-form (Signalled CarrierHeard) slot symbols = refl
names-form (Signalled CarrierLost) slot symbols = refl
names-form (Operated Takes) slot symbols = refl
names-form (Operated GivesBack) slot symbols = refl
names-form Called slot symbols = refl
names-form Alone slot symbols = refl

-- and whatever happens some form says: so what holds of every form holds of all that happens
pub by_form : (P : What → Type 0) → ((f : Form) (slot : ℕ) (symbols : List ℕ) → P (form_what f slot symbols)) → (what : What) → P what
by_form P h tick = h Alone 0 []
by_form P h (on_channel70 symbols) = h Symbols 0 symbols
by_form P h (on_slot i (heard symbols)) = h SlotSymbols i symbols
by_form P h (on_slot i (signal line_dialled_out)) = h (Signalled LineDialledOut) i []
by_form P h (on_slot i (signal line_lifted)) = h (Signalled LineLifted) i []
by_form P h (on_slot i (signal line_hung)) = h (Signalled LineHung) i []
by_form P h (on_slot i (signal carrier_heard)) = h (Signalled CarrierHeard) i []
by_form P h (on_slot i (signal carrier_lost)) = h (Signalled CarrierLost) i []
by_form P h (on_slot i (operator hand_takes)) = h (Operated Takes) i []
by_form P h (on_slot i (operator hand_gives)) = h (Operated GivesBack) i []
by_form P h (from_ashore a) = h Called a.ship (a.mode ∷ a.digits)

-- ── of the command that its letter names, with its numbers ───────────────────

abbrev letter_for : Command → ℕ
letter_for SetUp = set_up_letter
letter_for (Happens f) = form_letter f

pub record SaidBy (k : Command) (ns : List ℕ) (said : Said) : Type 0 where
  pub letter : letter_for k ≡ letter_of said
  pub command : command_of (letter_of said) ≡ Some k
  pub numbers : numbers_of said ≡ ns

the_same : {k : Command} {ns : List ℕ} {x said : Said} → SaidBy k ns x → some x ≡ some said → SaidBy k ns said
the_same {k} {ns} {x} {said} t e = let q : x ≡ said = cc in rw (← q) t

of-symbols : {k : Command} {ns : List ℕ} {x said : Said} (b : Bool) → SaidBy k ns x → cond b (some x) none ≡ some said → SaidBy k ns said
of-symbols true t e = the_same t e
of-symbols false t e = absurd (no-some e)

same-letter : (f : Form) (slot : ℕ) (symbols : List ℕ) → form_letter f ≡ what_letter (form_what f slot symbols)
same-letter Symbols slot symbols = refl
same-letter SlotSymbols slot symbols = refl
same-letter (Signalled g) slot symbols = refl
same-letter (Operated h) slot symbols = refl
same-letter Called slot symbols = refl
same-letter Alone slot symbols = refl

form-said-by : (f : Form) (time slot : ℕ) (symbols ns : List ℕ) → numbers_of (happens time (form_what f slot symbols)) ≡ ns
    → SaidBy (Happens f) ns (happens time (form_what f slot symbols))
form-said-by f time slot symbols ns e = record { letter = same-letter f slot symbols; command = names-form f slot symbols; numbers = e }

slot-said-by : (f : Form) (ns : List ℕ) (said : Said) → ((slot : ℕ) → what_numbers (form_what f slot []) ≡ slot ∷ []) → says_slot f ns ≡ some said → SaidBy (Happens f) ns said
slot-said-by f [] said s e = absurd (no-some e)
slot-said-by f (time ∷ []) said s e = absurd (no-some e)
slot-said-by f (time ∷ slot ∷ []) said s e = the_same (form-said-by f time slot [] (time ∷ slot ∷ []) (rw (s slot))) e
slot-said-by f (time ∷ slot ∷ more ∷ rest) said s e = absurd (no-some e)

pub said-by : (k : Command) (ns : List ℕ) (said : Said) → says k ns ≡ some said → SaidBy k ns said
unfolding command_of
said-by SetUp [] said e = absurd (no-some e)
said-by SetUp (n ∷ ns) said e = the_same (record { letter = refl; command = refl; numbers = refl }) e
said-by (Happens Symbols) [] said e = absurd (no-some e)
said-by (Happens Symbols) (time ∷ symbols) said e = of-symbols (all is_symbol symbols) (form-said-by Symbols time 0 symbols (time ∷ symbols) refl) e
said-by (Happens SlotSymbols) [] said e = absurd (no-some e)
said-by (Happens SlotSymbols) (time ∷ []) said e = absurd (no-some e)
said-by (Happens SlotSymbols) (time ∷ slot ∷ symbols) said e = of-symbols (all is_symbol symbols) (form-said-by SlotSymbols time slot symbols (time ∷ slot ∷ symbols) refl) e
said-by (Happens (Signalled g)) ns said e = slot-said-by (Signalled g) ns said (λ slot. refl) e
said-by (Happens (Operated h)) ns said e = slot-said-by (Operated h) ns said (λ slot. refl) e
said-by (Happens Called) [] said e = absurd (no-some e)
said-by (Happens Called) (time ∷ []) said e = absurd (no-some e)
said-by (Happens Called) (time ∷ ship ∷ []) said e = absurd (no-some e)
said-by (Happens Called) (time ∷ ship ∷ mode ∷ digits) said e = the_same (form-said-by Called time ship (mode ∷ digits) (time ∷ ship ∷ mode ∷ digits) refl) e
said-by (Happens Alone) [] said e = absurd (no-some e)
said-by (Happens Alone) (time ∷ []) said e = the_same (form-said-by Alone time 0 [] (time ∷ []) refl) e
said-by (Happens Alone) (time ∷ more ∷ rest) said e = absurd (no-some e)

-- ── from a command to its letter ─────────────────────────────────────────────

abbrev Named : ℕ → Optional Command → Type 0
Named b None = Unit {0}
Named b (Some k) = letter_for k ≡ b

named_more : (b n : ℕ) (k : Command) (rest : Optional Command) → letter_for k ≡ n → Named b rest → Named b (cond (eqb b n) (Some k) rest)
named_more b n k rest l r = go (which (eqb b n))
  where
    go : Either (eqb b n) → Named b (cond (eqb b n) (Some k) rest)
    go (yes! e) = rw e (l ∙ sym (eqb-true b n e))
    go (no! e) = rw e r

named-among : (b : ℕ) (fs : List Form) → Named b (command_among b fs)
named-among b [] = tt
named-among b (f ∷ fs) = named_more b (form_letter f) (Happens f) (command_among b fs) refl (named-among b fs)

named : (b : ℕ) → Named b (command_of b)
unfolding command_of
named b = named_more b set_up_letter SetUp (command_among b forms) refl (named-among b forms)

-- only its own letter names a command that says something
pub its-letter : (b : ℕ) (k : Command) (ns : List ℕ) (said : Said) → command_of b ≡ Some k → says k ns ≡ some said → b ≡ letter_of said
its-letter b k ns said c e = let l : letter_for k ≡ b = rw c at (named b) in sym l ∙ (said-by k ns said e).letter

-- ── what is in range is said ─────────────────────────────────────────────────

form-said : (time : ℕ) (f : Form) (slot : ℕ) (symbols : List ℕ) → in_range (happens time (form_what f slot symbols)) ≡ true
    → says (Happens f) (numbers_of (happens time (form_what f slot symbols))) ≡ some (happens time (form_what f slot symbols))
unfolding in_range
form-said time Symbols slot symbols e = rw (both_true (is_number time) (all is_symbol symbols) e).1
form-said time SlotSymbols slot symbols e =
    let h = both_true (is_number time) (is_number slot && all is_symbol symbols) e in
    rw (both_true (is_number slot) (all is_symbol symbols) h.1).1
form-said time (Signalled g) slot symbols e = refl
form-said time (Operated h) slot symbols e = refl
form-said time Called slot symbols e = refl
form-said time Alone slot symbols e = refl

pub said_of : (said : Said) → in_range said ≡ true → says_of (command_of (letter_of said)) (some (numbers_of said)) ≡ some said
unfolding command_of
said_of (sets_up a) e = refl
said_of (happens time what) e =
    by_form
    (λ w. in_range (happens time w) ≡ true → says_of (command_of (what_letter w)) (some (numbers_of (happens time w))) ≡ some (happens time w))
    (λ f slot symbols e. rw (names-form f slot symbols) (form-said time f slot symbols e))
    what e

-- and its numbers are numbers; a symbol is a number
symbols-are : (l : List ℕ) → all is_symbol l ≡ true → all is_number l ≡ true
symbols-are [] e = refl
symbols-are (x ∷ l) e =
    let h = both_true (is_symbol x) (all is_symbol l) e in
    rw (le-leb x 4294967295 (omega (arith, leb-true x 255 h.0))) (symbols-are l h.1)

pub numbers-are : (said : Said) → in_range said ≡ true → all is_number (numbers_of said) ≡ true
unfolding in_range
numbers-are (sets_up a) e = e
numbers-are (happens time tick) e = e
numbers-are (happens time (on_channel70 symbols)) e =
    let h = both_true (is_number time) (all is_symbol symbols) e in
    rw h.0 (symbols-are symbols h.1)
numbers-are (happens time (on_slot i h)) e =
    let k = both_true (is_number time) (is_number i && all is_symbol (symbols_in h)) e in
    let l = both_true (is_number i) (all is_symbol (symbols_in h)) k.1 in
    rw (k.0, l.0) (symbols-are (symbols_in h) l.1)
numbers-are (happens time (from_ashore a)) e = e

-- ── and what is said of numbers is in range ──────────────────────────────────

of-symbols-in : (b : Bool) {x said : Said} → cond b (some x) none ≡ some said → (b ≡ true) × (x ≡ said)
of-symbols-in true e = (refl, cc)
of-symbols-in false e = absurd (no-some e)

slot-in : (f : Form) (ns : List ℕ) (said : Said) → ((slot : ℕ) → what_in_range (form_what f slot []) ≡ (is_number slot && true)) → all is_number ns ≡ true
    → says_slot f ns ≡ some said → in_range said ≡ true
unfolding in_range
slot-in f [] said s n e = absurd (no-some e)
slot-in f (time ∷ []) said s n e = absurd (no-some e)
slot-in f (time ∷ slot ∷ []) said s n e = let q : happens time (form_what f slot []) ≡ said = cc in rw (← q, s slot) n
slot-in f (time ∷ slot ∷ more ∷ rest) said s n e = absurd (no-some e)

pub in-range : (k : Command) (ns : List ℕ) (said : Said) → all is_number ns ≡ true → says k ns ≡ some said → in_range said ≡ true
unfolding in_range
in-range SetUp [] said n e = absurd (no-some e)
in-range SetUp (x ∷ ns) said n e = let q : set_up_said x ns ≡ said = cc in rw (← q) n
in-range (Happens Symbols) [] said n e = absurd (no-some e)
in-range (Happens Symbols) (time ∷ symbols) said n e =
    let h = of-symbols-in (all is_symbol symbols) e in
    let k = both_true (is_number time) (all is_number symbols) n in
    rw (← h.1, k.0) h.0
in-range (Happens SlotSymbols) [] said n e = absurd (no-some e)
in-range (Happens SlotSymbols) (time ∷ []) said n e = absurd (no-some e)
in-range (Happens SlotSymbols) (time ∷ slot ∷ symbols) said n e =
    let h = of-symbols-in (all is_symbol symbols) e in
    let k = both_true (is_number time) (is_number slot && all is_number symbols) n in
    let l = both_true (is_number slot) (all is_number symbols) k.1 in
    rw (← h.1, k.0, l.0) h.0
in-range (Happens (Signalled g)) ns said n e = slot-in (Signalled g) ns said (λ slot. refl) n e
in-range (Happens (Operated h)) ns said n e = slot-in (Operated h) ns said (λ slot. refl) n e
in-range (Happens Called) [] said n e = absurd (no-some e)
in-range (Happens Called) (time ∷ []) said n e = absurd (no-some e)
in-range (Happens Called) (time ∷ ship ∷ []) said n e = absurd (no-some e)
in-range (Happens Called) (time ∷ ship ∷ mode ∷ digits) said n e = let q : happens time (form_what Called ship (mode ∷ digits)) ≡ said = cc in rw (← q) n
in-range (Happens Alone) [] said n e = absurd (no-some e)
in-range (Happens Alone) (time ∷ []) said n e = let q : happens time (form_what Alone 0 []) ≡ said = cc in rw (← q) n
in-range (Happens Alone) (time ∷ more ∷ rest) said n e = absurd (no-some e)
