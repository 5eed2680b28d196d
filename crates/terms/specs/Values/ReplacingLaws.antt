-- Laws of what variables become: the two ways, and what a table of pairs makes of a variable, for code that looks for it: a variable that no pair
-- binds, or the term of the pair that was found, under the bets above.
use Rattle.std.specs.Prelude.{◌≡◌, refl, List, ℕ, ◌≤◌, ◌<◌, ◌+◌, length, get_or, take, Option, Some, None}
use Rattle.std.proofs.Common.{sym, ap, subst, ◌∙◌, arith, length-take-le}
use Rattle.records.specs.Format.Never.{never}
use Rattle.records.specs.Format.Syntax.Term.{var}
use Rattle.records.specs.Format.Encode.{term_bytes}
use Rattle.records.specs.Ends.Traversal.{traverse}
use Rattle.records.specs.Ends.Steps.{On}
use Rattle.records.specs.Ends.StandsLaws.{stands_within, traverse_term, term_stands}
use Rattle.records.specs.Ends.Stands.{Stands, head_of_term}
use Rattle.records.specs.Format.Syntax.{Term}
use Rattle.records.specs.Format.Formed.{TermFormed}
use Rattle.records.specs.Format.Heads.{term_head_at}
use Rattle.records.specs.declared.heads.TermHead.{TermHead}
use Rattle.records.specs.declared.heads.TermHead.TheVariants.{Variable}
use Rattle.terms.specs.Body.Body.{numbered}
use Rattle.terms.specs.declared.pairs.ListedPair.{ListedPair}
use Rattle.terms.specs.declared.pairs.PairList.{PairList}
use Rattle.terms.specs.declared.substitute.Numbering.{Numbering}
use Rattle.terms.specs.Values.Pairs.{Tabled, Linked}
use Rattle.terms.specs.Values.Entries.{PairTable, under, PairEntry, entry, Means, Entered, FoundPair}
use Rattle.terms.specs.Values.Replacing.{ArgumentsOf, Replaces, LinkedIn, BoundTo, ValueFound}
use Rattle.terms.specs.declared.substitute.Bound.TheVariants.{Free, To}
use Rattle.terms.specs.Theory.Substitution.{apply}
use Rattle.terms.specs.Theory.SubstitutionLaws.{term_length_least}
use Rattle.terms.specs.Values.NodeBytes.{traversal_bytes}
use Rattle.terms.specs.Values.NodeBytesLaws.{substituted_bytes}
use Rattle.terms.specs.Values.EntryLaws.{apply_variables, table_means, entry_entered, above_fewer, above_table}
use Rattle.terms.specs.declared.substitute.Replacing.TheVariants.{Pairs, Numbered}

pub replaces_pairs : {l : PairList} (t : Tabled l) → Replaces (Pairs l) (under t.bets)
replaces_pairs {l} t = record { pairs = same; numbers = λ e. never cc }
  where
    same : {m : PairList} → Pairs l ≡ Pairs m → (u : Tabled m) × (under t.bets ≡ under u.bets)
    same {m} e = let d : l ≡ m = cc in subst (λ (n : PairList). (u : Tabled n) × (under t.bets ≡ under u.bets)) d (t, refl)

pub replaces_numbers : {n : Numbering} (a : ArgumentsOf n) → n.next ≤ 65536 → Replaces (Numbered n) (numbered a.listed.terms n.next)
replaces_numbers {n} a h = record { pairs = λ e. never cc; numbers = same }
  where
    same : {m : Numbering} → Numbered n ≡ Numbered m → (b : ArgumentsOf m) × (numbered a.listed.terms n.next ≡ numbered b.listed.terms m.next) × (m.next ≤ 65536)
    same {m} e =
        let d : n ≡ m = cc in
        subst (λ (x : Numbering). (b : ArgumentsOf x) × (numbered a.listed.terms n.next ≡ numbered b.listed.terms x.next) × (x.next ≤ 65536)) d (a, refl, h)

pub linked_pairs : {l : PairList} → Linked l → LinkedIn (Pairs l)
linked_pairs {l} u = record { pairs = same }
  where
    same : {m : PairList} → Pairs l ≡ Pairs m → Linked m
    same {m} e = let d : l ≡ m = cc in subst Linked d u

pub linked_numbers : {n : Numbering} → LinkedIn (Numbered n)
linked_numbers = record { pairs = λ e. never cc }

module _ {s : List ℕ} {listed : List ListedPair} {i : ℕ} (p : PairTable s listed i) (v : ℕ) {r : Option ℕ} (f : FoundPair p.bets i v r) where
  -- no pair binds v
  pub unbound : r ≡ None → apply p.bets (var v) ≡ var v
  unbound e = subst (Means p.bets v) (f.none_binds e) (table_means p v)

  -- the pair at k does
  module _ {k : ℕ} (e : r ≡ Some k) where
    pub found_within : k < i
    found_within = (f.found e).0

    abbrev pub found_entry : PairEntry
    found_entry = (f.found e).1.0

    pub found_entered : Entered s (entry listed k) found_entry
    found_entered = entry_entered p {k = k} (f.found e).1.1 found_within

    pub found_fewer : (entry listed k).first < i
    found_fewer = above_fewer p {k = k} (f.found e).1.1 found_within

    abbrev pub found_table : PairTable s listed (entry listed k).first
    found_table = above_table p {k = k} (f.found e).1.1 (f.found e).0

    pub found_room : (entry listed k).place + 2 ≤ length s
    found_room = omega (arith, stands_within found_entered.stands (omega (arith, term_length_least found_entry.term)))

    pub found_on : On (traverse s ((entry listed k).place + 2) 1 0)
    found_on = rw (traverse_term found_entry.term found_entered.formed found_entered.stands) tt

    -- its bytes under the bets above are those of v's value
    pub found_bytes : traversal_bytes (under found_table.bets) (traverse s ((entry listed k).place + 2) 1 0) ≡ term_bytes (apply p.bets (var v))
    found_bytes =
        ap (traversal_bytes (under found_entry.above)) (traverse_term found_entry.term found_entered.formed found_entered.stands)
        ∙ substituted_bytes (under found_entry.above) found_entry.term
        ∙ ap term_bytes (apply_variables found_entry.above found_entry.term ∙ sym (subst (Means p.bets v) (f.found e).1.2 (table_means p v)))

-- a look's two outcomes
pub found_free : {p : PairList} {t : Term} {x : ℕ} → t ≡ var x → ValueFound p t (Free x)
found_free {t = t} {x} h = record { free = same; bound = λ e. never cc }
  where
    same : {y : ℕ} → Free x ≡ Free y → t ≡ var y
    same {y} e = let d : x ≡ y = cc in h ∙ ap var d

pub found_bound : {p : PairList} {t : Term} {term above : ℕ} → BoundTo p t term above → ValueFound p t (To term above)
found_bound {p} {t} {term} {above} h = record { free = λ e. never cc; bound = same }
  where
    same : {i j : ℕ} → To term above ≡ To i j → BoundTo p t i j
    same {i} {j} e =
        let d : term ≡ i = cc in
        let f : above ≡ j = cc in
        rw (← d, ← f) h

-- the pairs above a term are cut off
pub bound_fewer : {p : PairList} {t : Term} {term above : ℕ} → BoundTo p t term above → length (take above p.entries.now) < length p.entries.now
bound_fewer {p} {t} {term} {above} b = omega (arith, length-take-le above p.entries.now b.table.held, b.fewer)

-- a look along the pairs: x, under the bets of the first n pairs, is still t
pub record Following (p : PairList) (t : Term) (n x : ℕ) : Type 0 where
  pub left : PairTable p.event.now p.entries.now n
  pub same : apply left.bets (var x) ≡ t
  pub fewer : n ≤ length p.entries.now

module _ {p : PairList} {t : Term} {n x : ℕ} (u : Following p t n x) {r : Option ℕ} (f : FoundPair u.left.bets n x r) where
  pub following_free : r ≡ None → t ≡ var x
  following_free e = sym u.same ∙ unbound u.left x f e

  pub following_within : {k : ℕ} → r ≡ Some k → k < length p.entries.now
  following_within e = omega (arith, found_within u.left x f e, u.left.held)

  pub following_room : {k : ℕ} → r ≡ Some k → (get_or p.entries.now k (record { place = 0; first = 0 })).place + 2 ≤ length p.event.now
  following_room e = found_room u.left x f e

  pub following_bound : {k : ℕ} → r ≡ Some k → BoundTo p t ((entry p.entries.now k).place + 2) (entry p.entries.now k).first
  following_bound e = record {
    fewer = omega (arith, found_fewer u.left x f e, u.fewer);
    table = found_table u.left x f e;
    on = found_on u.left x f e;
    bytes = found_bytes u.left x f e ∙ ap term_bytes u.same;
  }

  pub following_less : {k : ℕ} → r ≡ Some k → (entry p.entries.now k).first < n
  following_less e = found_fewer u.left x f e

  -- the pair's term is a variable
  pub following_next : {k : ℕ} → r ≡ Some k → {h : Option TermHead} → h ≡ term_head_at p.event.now ((entry p.entries.now k).place + 2) → {y : ℕ} → h ≡ (Some (Variable y)) → Following p t (entry p.entries.now k).first y
  following_next {k} e {h} is {y} w =
      let z = found_entered u.left x f e in
      let v = named (found_entry u.left x f e).term z.formed z.stands in
      record {
        left = found_table u.left x f e;
        same = ap (apply (found_entry u.left x f e).above) (sym v) ∙ sym (subst (Means u.left.bets x) (f.found e).1.2 (table_means u.left x)) ∙ u.same;
        fewer = omega (arith, found_fewer u.left x f e, u.fewer);
      }
    where
      named : {end : ℕ} (a : Term) → TermFormed a → Stands p.event.now ((entry p.entries.now k).place + 2) (term_bytes a) end → a ≡ var y
      named (var a) q z = let d : (Some (Variable a)) ≡ (Some (Variable y)) = sym (term_stands (var a) q z) ∙ sym is ∙ w in cc
      named (Term.app a ts) q z = let d : head_of_term (Term.app a ts) ≡ (Some (Variable y)) = sym (term_stands (Term.app a ts) q z) ∙ sym is ∙ w in never cc
