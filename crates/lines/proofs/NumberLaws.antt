-- The numbers of a line that have been read, and those that are left.
use mathlib.Core.List.{List, [], ◌∷◌, ◌++◌, append_assoc, append-nil}
use mathlib.Core.Option.{Option, none, some}
use Rattle.std.specs.Prelude.{Some}
use mathlib.Core.Path.{◌≡◌, refl, sym, ◌∙◌, ap}
use Prim.Native.Nat.{ℕ, ◌+◌, ◌*◌, ◌≤◌}
use native.Mathlib.Omega.{arith}
use lib.ListN.{length, drop, set, length-append, drop_of_length-le}
use Rattle.rules.specs.Rules.Bytes.{padded}
use Rattle.requests.proofs.ArrayLaws.{padded-snoc}
use Rattle.lines.specs.Readable.{between, with, scan, numbers_image}

abbrev pub behind : List ℕ → Option (List ℕ) → Option (List ℕ)
behind ns none = none
behind ns (some ms) = some (ns ++ ms)

-- a field takes two characters at least
pub record Got (s array : List ℕ) (count i : ℕ) : Type 0 where
  pub numbers : List ℕ
  pub laid : array ≡ padded 0 100 numbers
  pub counted : count ≡ length numbers
  pub few : 2 * count ≤ i
  pub place : i ≤ length s
  pub rest : behind numbers (scan between (drop i s)) ≡ scan between s

one_more : (ns : List ℕ) (v : ℕ) (o : Option (List ℕ)) → behind ns (with v o) ≡ behind (ns ++ (v ∷ [])) o
one_more ns v none = refl
one_more ns v (some ms) = ap some (sym (append_assoc ns (v ∷ []) ms))

module _ (s : List ℕ) where
  pub none_yet : Got s (padded 0 100 []) 0 0
  none_yet = record { numbers = []; laid = refl; counted = refl; few = omega arith; place = omega arith; rest = all_left (scan between s) }
    where
      all_left : (o : Option (List ℕ)) → behind [] o ≡ o
      all_left none = refl
      all_left (some ms) = refl

  module _ {array : List ℕ} {count i : ℕ} (g : Got s array count i) where
    pub nothing : scan between (drop i s) ≡ none → scan between s ≡ none
    nothing e = sym g.rest ∙ ap (behind g.numbers) e

    pub got-more : (v next : ℕ) → length s ≤ 199 → i + 2 ≤ next → next ≤ length s
        → scan between (drop i s) ≡ with v (scan between (drop next s)) → Got s (set array count v) (count + 1) next
    got-more v next short on within e =
        record {
          numbers = g.numbers ++ (v ∷ []);
          laid = rw (g.laid, g.counted) (padded-snoc 0 100 g.numbers v (omega (arith, g.counted, g.few, g.place)));
          counted = rw g.counted (sym (length-append g.numbers (v ∷ [])));
          few = omega (arith, g.few);
          place = within;
          rest = sym (one_more g.numbers v (scan between (drop next s))) ∙ ap (behind g.numbers) (sym e) ∙ g.rest;
        }

    pub got-all : length s ≤ i → Some (record { count = count; all = array }) ≡ numbers_image (scan between s)
    unfolding scan
    got-all h =
        let e : scan between s ≡ some g.numbers = sym g.rest ∙ rw (drop_of_length-le s {i = i} h, append-nil) in
        rw (e, g.counted, g.laid)
