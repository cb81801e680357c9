-- One slot's line by a few words alone: idle; outward, dialled for a ship; inward, taken by a caller ashore; answered since a time. And
-- whether it rings at the caller's, by the actions 8 and 9: that is meant by ringing here, and no ring-back.
use Rattle.std.specs.Prelude.{◌≡◌, List, [], ◌∷◌, Bool, true, false, cond, ℕ, ◌+◌, eqb}
use Rattle.std.proofs.Math.Option.{Option, none, some}
use Rattle.rules.specs.Rules.Words.{Config, Ashore, What, is_answering_on, is_transmitting_on, ashore_in}
use Rattle.rules.specs.Rules.Words.{Deed, carrier_on, carrier_off, acknowledge, call_ship, unable, dial, release_line}
use Rattle.rules.specs.Rules.Words.{ringing_on, ringing_off, busy_tone}
use Rattle.rules.specs.ListAlone.Book.{Note, Call, quiet, called, dialled, talking}

pub data Line : Type 0 where
  idle : Line
  outward : Line  -- dialled, and not released
  inward : Line  -- taken by a caller ashore, and not released
  since : ℕ → Line  -- answered, and not released

pub record Word : Type 0 where
  pub line : Line
  pub rings : Bool  -- the last of 8 and 9 is 8

abbrev pub worded : Line → Bool → Word
worded l b = record { line = l; rings = b }

-- before the first entry
abbrev pub unused : Word
unused = worded idle false

-- off-hook
abbrev pub answer : ℕ → Line → Line
answer t idle = idle
answer t outward = since t
answer t inward = inward
answer t (since b) = since b

-- carrier up, where it rings or not
abbrev pub transmit : ℕ → Line → Bool → Line
transmit t idle b = idle
transmit t outward b = outward
transmit t inward true = since t
transmit t inward false = inward
transmit t (since s) b = since s

-- the called person answers on slot i, or the ship transmits there
abbrev pub word_heard : ℕ → ℕ → What → Word → Word
word_heard i t e w =
    cond (is_answering_on i e) (worded (answer t w.line) w.rings)
    (cond (is_transmitting_on i e) (worded (transmit t w.line w.rings) w.rings) w)

-- a call to a ship takes the line in the entry of a caller ashore, and in no other
abbrev pub line_called : Option Ashore → Line → Line
line_called none l = l
line_called (some a) l = inward

-- "dial", "release line" on slot i
abbrev pub line_done : Option Ashore → ℕ → Deed → Line → Line
line_done q i (carrier_on j) l = l
line_done q i (carrier_off j) l = l
line_done q i (acknowledge j r) l = l
line_done q i (call_ship j r) l = cond (eqb i j) (line_called q l) l
line_done q i (unable n x digits) l = l
line_done q i (dial j digits) l = cond (eqb i j) outward l
line_done q i (release_line j) l = cond (eqb i j) idle l
line_done q i (ringing_on j) l = l
line_done q i (ringing_off j) l = l
line_done q i (busy_tone j) l = l

-- 8 and 9, "ringing on" and "ringing off", on slot i
abbrev pub ringing_done : ℕ → Deed → Bool → Bool
ringing_done i (carrier_on j) b = b
ringing_done i (carrier_off j) b = b
ringing_done i (acknowledge j r) b = b
ringing_done i (call_ship j r) b = b
ringing_done i (unable n x digits) b = b
ringing_done i (dial j digits) b = b
ringing_done i (release_line j) b = b
ringing_done i (ringing_on j) b = cond (eqb i j) true b
ringing_done i (ringing_off j) b = cond (eqb i j) false b
ringing_done i (busy_tone j) b = b

abbrev pub word_done : Option Ashore → ℕ → Deed → Word → Word
word_done q i d w = worded (line_done q i d w.line) (ringing_done i d w.rings)

unfoldable pub words_done : Option Ashore → ℕ → List Deed → Word → Word
words_done q i [] w = w
words_done q i (d ∷ ds) w = words_done q i ds (word_done q i d w)

unfoldable pub word_after : ℕ → List Note → Word → Word
word_after i [] w = w
word_after i (n ∷ ns) w =
    word_after i ns (words_done (ashore_in n.event.what) i n.deeds (word_heard i n.event.time n.event.what w))

-- what the book's column says, in the same words
abbrev pub word_of : Call → Word
word_of quiet = worded idle false
word_of (called o rings) = worded inward rings
word_of (dialled o ended) = worded outward false
word_of (talking o b) = worded (since b) false

-- ── 8, 9 and 6 by themselves ─────────────────────────────────────────────────

-- whether slot i rings: the last of 8 and 9 on it is 8
abbrev pub ringings_done : ℕ → List Deed → Bool → Bool
ringings_done i [] b = b
ringings_done i (d ∷ ds) b = ringings_done i ds (ringing_done i d b)

unfoldable pub ringing_after : ℕ → List Note → Bool → Bool
ringing_after i [] b = b
ringing_after i (n ∷ ns) b = ringing_after i ns (ringings_done i n.deeds b)

-- the 8s and 9s on slot i, in order: true for an 8
abbrev pub ringing_switch : ℕ → Deed → List Bool → List Bool
ringing_switch i (carrier_on j) l = l
ringing_switch i (carrier_off j) l = l
ringing_switch i (acknowledge j r) l = l
ringing_switch i (call_ship j r) l = l
ringing_switch i (unable n x digits) l = l
ringing_switch i (dial j digits) l = l
ringing_switch i (release_line j) l = l
ringing_switch i (ringing_on j) l = cond (eqb i j) (true ∷ l) l
ringing_switch i (ringing_off j) l = cond (eqb i j) (false ∷ l) l
ringing_switch i (busy_tone j) l = l

abbrev pub ringing_switches : ℕ → List Deed → List Bool
ringing_switches i [] = []
ringing_switches i (d ∷ ds) = ringing_switch i d (ringing_switches i ds)

-- what is to be given where it rang by a and rings by b
abbrev pub change : Bool → Bool → List Bool
change false false = []
change false true = true ∷ []
change true false = false ∷ []
change true true = []

-- of an entry, with the entries before it
abbrev pub InTurn : Config → List Note → Note → Type 0
InTurn c before n = (i : ℕ)
    → ringing_switches i n.deeds ≡ change (ringing_after i before false) (ringings_done i n.deeds (ringing_after i before false))

-- how often the line of slot i is released
abbrev pub release : ℕ → Deed → ℕ
release i (carrier_on j) = 0
release i (carrier_off j) = 0
release i (acknowledge j r) = 0
release i (call_ship j r) = 0
release i (unable n x digits) = 0
release i (dial j digits) = 0
release i (release_line j) = cond (eqb i j) 1 0
release i (ringing_on j) = 0
release i (ringing_off j) = 0
release i (busy_tone j) = 0

abbrev pub releases : ℕ → List Deed → ℕ
releases i [] = 0
releases i (d ∷ ds) = release i d + releases i ds
