-- What variables become in what the one writer puts: by the pairs of a bet stack, or by an atom's arguments and new numbers.
use Rattle.std.specs.Prelude.{◌≡◌, ℕ, ◌≤◌, ◌<◌, ◌-◌, length}
use Rattle.records.specs.Format.Syntax.{Term}
use Rattle.records.specs.Format.Syntax.Term.{var}
use Rattle.records.specs.Format.Encode.{term_bytes}
use Rattle.records.specs.Ends.Traversal.{traverse}
use Rattle.records.specs.Ends.Steps.{On}
use Rattle.terms.specs.Theory.Substitution.{Substitution}
use Rattle.terms.specs.Body.Body.{numbered}
use Rattle.terms.specs.Body.Arguments.{ArgumentTable}
use Rattle.terms.specs.Values.Entries.{PairTable, under}
use Rattle.terms.specs.Values.Pairs.{Tabled, Linked}
use Rattle.terms.specs.Values.NodeBytes.{traversal_bytes}
use Rattle.terms.specs.declared.pairs.PairList.{PairList}
use Rattle.terms.specs.declared.substitute.Numbering.{Numbering}
use Rattle.terms.specs.declared.substitute.Bound.{Bound}
use Rattle.terms.specs.declared.substitute.Bound.TheVariants.{Free, To}
use Rattle.terms.specs.declared.substitute.Replacing.{Replacing}
use Rattle.terms.specs.declared.substitute.Replacing.TheVariants.{Pairs, Numbered}

-- the terms whose places a table tells, one more than they are
abbrev pub ArgumentsOf : Numbering → Type 0
ArgumentsOf n = ArgumentTable n.event.now (length n.table.now - 1) n.table.now

-- variables become what θ makes of them: by the pairs, or by the arguments
pub record Replaces (by : Replacing) (θ : Substitution) : Type 0 where
  pub pairs : {p : PairList} → by ≡ Pairs p → (t : Tabled p) × (θ ≡ under t.bets)
  pub numbers : {n : Numbering} → by ≡ Numbered n → (a : ArgumentsOf n) × (θ ≡ numbered a.listed.terms n.next) × (n.next ≤ 65536)

-- the pairs, where it is by pairs, are linked
pub record LinkedIn (by : Replacing) : Type 0 where
  pub pairs : {p : PairList} → by ≡ Pairs p → Linked p

-- what stands at `term`, under the bets of the first `above` pairs, which are fewer, is t
pub record BoundTo (p : PairList) (t : Term) (term above : ℕ) : Type 0 where
  pub fewer : above < length p.entries.now
  pub table : PairTable p.event.now p.entries.now above
  pub on : On (traverse p.event.now term 1 0)
  pub bytes : traversal_bytes (under table.bets) (traverse p.event.now term 1 0) ≡ term_bytes t

-- what a look for the value t of a variable finds among the pairs
pub record ValueFound (p : PairList) (t : Term) (r : Bound) : Type 0 where
  pub free : {x : ℕ} → r ≡ Free x → t ≡ var x
  pub bound : {term above : ℕ} → r ≡ To term above → BoundTo p t term above

-- how many pairs are left
abbrev pub pairs_left : Replacing → ℕ
pairs_left (Pairs p) = length p.entries.now
pairs_left (Numbered n) = 0
