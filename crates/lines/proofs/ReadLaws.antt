-- From the numbers of a line to the record of what it says.
use mathlib.Core.Bool.{true, false}
use mathlib.Core.List.{List, [], ◌∷◌}
use mathlib.Core.Option.{Option, none, some}
use mathlib.Core.Path.{◌≡◌, refl, sym, ◌∙◌, ap, subst}
use Rattle.std.proofs.Math.Bridge.{le_prop}
use Rattle.std.specs.Prelude.{Option as Optional, Some, None}
use Rattle.lines.specs.declared.line.Line.{Line}
use Prim.Native.Nat.{ℕ, ◌<◌, ◌≤◌}
use native.Mathlib.Omega.{arith}
use lib.ListN.{length, take}
use borrow.Author.Tests.{le-leb, lt-leb}
use Rattle.rules.specs.Rules.Places.{is_some}
use Rattle.rules.specs.Rules.Bytes.{padded}
use Rattle.requests.proofs.ArrayLaws.{padded-front}
use Rattle.lines.specs.declared.Command.{Command}
use Rattle.lines.specs.declared.Numbers.{Numbers}
use Rattle.lines.specs.Lines.{Said, command_of}
use Rattle.lines.specs.Readable.{between, scan, says, says_of, reads_as, numbers_image, ReadAs}
use Rattle.lines.proofs.SaidLaws.{said-by}

module _ (text : List ℕ) where
  pub too_long : 200 < length text → reads_as text ≡ none
  unfolding reads_as
  too_long h = rw (lt-leb (length text) 200 h)

  pub empty : length text ≡ 0 → reads_as text ≡ none
  unfolding reads_as
  empty e = go text e
    where
      go : (t : List ℕ) → length t ≡ 0 → reads_as t ≡ none
      go [] e = refl
      go (b ∷ t) e = absurd (omega arith)

-- a line of a letter and its fields
pub by-letter : (text fields : List ℕ) (letter : ℕ) → text ≡ letter ∷ fields → length text ≤ 200 → reads_as text ≡ says_of (command_of letter) (scan between fields)
unfolding reads_as
by-letter text fields letter e h = rw (le-leb (length text) 200 h, e)

-- ── from the numbers to what was read ────────────────────────────────────────

-- a field that cannot be read, or is not the command's
pub unnumbered : (k : Command) (o : Option (List ℕ)) → None ≡ numbers_image o → says_of (Some k) o ≡ none
unnumbered k none e = refl
unnumbered k (some ns) e = cc

taken : (ns : List ℕ) (n : Numbers) → Some n ≡ numbers_image (some ns) → n.count ≤ 99 → take n.count n.all ≡ ns
taken ns n e h =
    let a : n ≡ record { count = length ns; all = padded 0 100 ns } = cc in
    let c : n.count ≡ length ns = ap (λ m. m.count) a in
    rw (c, ap (λ m. m.all) a) (padded-front 0 100 ns (omega arith))

pub unfit : (k : Command) (o : Option (List ℕ)) (n : Numbers) → Some n ≡ numbers_image o → n.count ≤ 99
    → is_some (says k (take n.count n.all)) ≡ false → says_of (Some k) o ≡ none
unfit k none n e h f = cc
unfit k (some ns) n e h f = go (says k ns) (rw (taken ns n e h) at f)
  where
    go : (x : Option Said) → is_some x ≡ false → x ≡ none
    go none e = refl
    go (some said) e = cc

pub no_line : (o : Option Said) → o ≡ none → ReadAs None o
no_line none e = tt
no_line (some said) e = cc

-- the bound of a line has one proof, so two lines with the same fields are one
abbrev pub line : Command → List ℕ → (n : ℕ) → n ≤ 99 → Line
line k a n few = record { command = k; count = n; numbers = a; few = few }

same-count : (k : Command) (a : List ℕ) (n m : ℕ) → n ≡ m → (f : n ≤ 99) (g : m ≤ 99) → line k a n f ≡ line k a m g
same-count k a n m e = subst (λ m. (f : n ≤ 99) (g : m ≤ 99) → line k a n f ≡ line k a m g) e (λ f g. ap (λ h. line k a n h) (le_prop f g))

pub read-alike : (r r' : Optional Line) (o : Option Said) → ReadAs r o → ReadAs r' o → r ≡ r'
read-alike None None none p q = refl
read-alike None None (some said) p q = elim p [ ]
read-alike None (Some y) none p q = elim q [ ]
read-alike None (Some y) (some said) p q = elim p [ ]
read-alike (Some x) None none p q = elim p [ ]
read-alike (Some x) None (some said) p q = elim q [ ]
read-alike (Some x) (Some y) none p q = elim p [ ]
read-alike (Some x) (Some y) (some said) p q =
    let k : x.command ≡ y.command = cc in
    let a : x.numbers ≡ y.numbers = p.numbers ∙ sym q.numbers in
    ap Some (rw (k, a) (same-count y.command y.numbers x.count y.count (p.count ∙ sym q.count) x.few y.few))

pub fit : (k : Command) (o : Option (List ℕ)) (n : Numbers) → Some n ≡ numbers_image o → (few : n.count ≤ 99)
    → is_some (says k (take n.count n.all)) ≡ true → ReadAs (Some (line k n.all n.count few)) (says_of (Some k) o)
fit k none n e few f = cc
fit k (some ns) n e few f = go (says k ns) refl
  where
    go : (x : Option Said) → says k ns ≡ x → ReadAs (Some (line k n.all n.count few)) (says k ns)
    go none q = let b : false ≡ true = rw (taken ns n e few, q) at f in cc
    go (some said) q =
        let a : n ≡ record { count = length ns; all = padded 0 100 ns } = cc in
        let t = said-by k ns said q in
        rw q (record {
          command = sym t.command;
          count = ap (λ m. m.count) a ∙ ap length (sym t.numbers);
          numbers = ap (λ m. m.all) a ∙ ap (padded 0 100) (sym t.numbers);
        })
