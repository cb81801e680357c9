-- The script's `feed`: it has no useless version. What is seen of it are the characters that it prints.
use Rattle.std.specs.Prelude.{ℕ, suc, ◌+◌, ◌-◌, ◌*◌, ◌<◌, ◌≤◌, ◌≡◌, cond, List, [], ◌∷◌, ◌++◌, eqb, length, take}
use contract.Lifetimes.{Lfts}
use Rattle.lines.specs.Decimal.{is_digit}
use Rattle.script.specs.declared.Fed.{Fed}
use Rattle.script.specs.declared.Session.{Session}
use Rattle.script.specs.Session.{before_feed}
use Rattle.script.proofs.Session.begin.Reads as Session-begin
use Rattle.script.proofs.Session.feed.Reads as Session-feed
use Rattle.useless_versions.specs.Versions.{Signs, NoUselessVersion}

pub record Feeding : Type 0 where
  pub session : Session
  pub bytes : List ℕ
  pub room : List ℕ

pub record Answered : Type 0 where
  pub fed : Fed
  pub left : List ℕ  -- what the room then holds

pub data FedBy : Feeding → Answered → Type 0 where
  by-feed : (κs : Lfts 2) (a : _) (r : _) (s : _) → Session-feed.Post κs a r s
      → FedBy (record { session = a.0; bytes = a.1.0.now; room = a.1.1.0.now }) (record { fed = r; left = s.1.1.0.now })

-- a session from its beginning on, with what was fed to it
pub data Talked : List Feeding → Session → Type 0 where
  begins : (κs : Lfts 0) (a : _) (r : _) (s : _) → Session-begin.Post κs a r s → Talked [] r
  goes_on : (past : List Feeding) (x : Feeding) (y : Answered) → Talked past x.session → FedBy x y
      → Talked (past ++ (x ∷ [])) y.fed.session

-- a line ends among the bytes, and the room takes any answer
pub record Ends (x : Feeding) : Type 0 where
  pub ends : before_feed x.bytes < length x.bytes
  pub roomy : 4096 ≤ length x.room

pub record Comes (past : List Feeding) (x : Feeding) : Type 0 where
  pub talked : Talked past x.session
  pub line : Ends x

-- ── what is read off the characters ──────────────────────────────────────────

abbrev pub printed_by : Answered → List ℕ
printed_by y = take y.fed.count y.left

-- the number at the front of a text
abbrev pub number_from : ℕ → List ℕ → ℕ
number_from n [] = n
number_from n (b ∷ l) = cond (is_digit b) (number_from (n * 10 + (b - 48)) l) n

abbrev pub behind_space : List ℕ → List ℕ
behind_space [] = []
behind_space (b ∷ l) = cond (eqb b 32) l (behind_space l)

abbrev pub line_feeds : List ℕ → ℕ
line_feeds [] = 0
line_feeds (b ∷ l) = cond (eqb b 10) (suc (line_feeds l)) (line_feeds l)

-- "answer, clock, action count": the third number is another than that of the lines behind the first
pub record Miscounted (x : Feeding) (y : Answered) : Type 0 where
  pub line : Ends x
  pub other : suc (number_from 0 (behind_space (behind_space (printed_by y)))) ≡ line_feeds (printed_by y) → ⊥

-- nothing done: the desk as it was, a station or none
abbrev pub signs : Signs Feeding Answered
signs = record { answer = λ y. number_from 0 (printed_by y); idle = λ x y. y.fed.session.desk ≡ x.session.desk; miscounted = Miscounted }

unfoldable pub NoUselessFeed : Type 0
NoUselessFeed = NoUselessVersion Comes signs FedBy
