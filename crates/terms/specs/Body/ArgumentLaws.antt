-- Laws of an atom's arguments: the table of their places as it is filled, what stands between two of its entries, and what the variables behind the
-- head's become.
use Rattle.std.specs.Prelude.{◌≡◌, refl, List, ◌++◌, ℕ, zero, suc, ◌+◌, ◌-◌, ◌≤◌, ◌<◌, set, get_or, Option}
use Rattle.std.proofs.Common.{sym, ◌∙◌, append_assoc, add-one, length-take, take-take, get_or-take}
use Rattle.std.proofs.Math.Path.{ap}
use native.Mathlib.Omega.{arith}
use Rattle.std.proofs.Math.ListN.{length, take}
use Rattle.std.proofs.Math.Seq.{take-suc-set}
use Rattle.records.specs.Format.Syntax.{Terms, arity}
use Rattle.records.specs.Format.Syntax.Term.{var}
use Rattle.records.specs.Format.Syntax.Terms.{nil, cons}
use Rattle.records.specs.Format.Encode.{term_bytes, terms_bytes}
use Rattle.records.specs.Format.Formed.{TermsFormed}
use Rattle.records.specs.Ends.EndLaws.{term_long}
use Rattle.records.specs.Ends.Range.{cut, Inside}
use Rattle.records.specs.Ends.Stands.{Stands}
use Rattle.records.specs.Ends.StandsLaws.{stands_first, stands_second, stands_within, stands_cut, stands_inside, term_ends}
use Rattle.records.specs.Ends.Traversal.{position, end_at}
use Rattle.records.specs.declared.put.Range.{Range}
use Rattle.terms.specs.Body.Arguments.{ArgumentsAt, TermTable, ArgumentTable, term_places, argument_range}
use Rattle.terms.specs.Body.Body.{numbered}
use Rattle.terms.specs.declared.arguments.Arguments.{Arguments}

-- the table on its way: the entries made, with the places of the terms from pos on, are the places of all
pub record ArgumentsListing (s places : List ℕ) (k : ℕ) (table : List ℕ) (pos i : ℕ) : Type 0 where
  pub left : Terms
  pub formed : TermsFormed left
  pub many : i + arity left ≡ k
  pub end : ℕ
  pub stands : Stands s pos (terms_bytes left) end
  pub whole : take i table ++ term_places pos left ≡ places

pub arguments_start : {s : List ℕ} {args : Arguments} {table : List ℕ} (a : ArgumentsAt s args) → ArgumentsListing s (term_places args.at a.terms) args.arity table args.at 0
arguments_start a = record { left = a.terms; formed = a.formed; many = omega (arith, a.many); end = a.end; stands = a.stands; whole = refl }

module _ {s places : List ℕ} {k : ℕ} {table : List ℕ} {pos i : ℕ} (u : ArgumentsListing s places k table pos i) (room : k < length table) where
  -- the place of one more term
  pub listing_next : i < k → {o : Option ℕ} {next : ℕ} → o ≡ end_at s pos 1 0 → next ≡ position o → ArgumentsListing s places k (set table i pos) next (i + 1)
  unfolding term_places
  listing_next h {o} {next} is e = go u.left u.formed u.many u.stands u.whole
    where
      go : (ts : Terms) → TermsFormed ts → i + arity ts ≡ k → Stands s pos (terms_bytes ts) u.end → take i table ++ term_places pos ts ≡ places
          → ArgumentsListing s places k (set table i pos) next (i + 1)
      go nil f m w p = absurd (omega arith)
      go (cons t ts) f m w p =
          let q : next ≡ pos + length (term_bytes t) = e ∙ ap position (is ∙ term_ends t f.0 (stands_first (term_bytes t) (terms_bytes ts) w)) in
          rw q (record {
            left = ts;
            formed = f.1;
            many = omega arith;
            end = u.end;
            stands = stands_second (term_bytes t) (terms_bytes ts) w;
            whole = rw (add-one, take-suc-set table i pos (omega arith), append_assoc) p;
          })

  -- the last entry
  pub listing_end : k ≤ i → take (k + 1) (set table k pos) ≡ places
  unfolding term_places
  listing_end h = go u.left u.many u.whole
    where
      go : (ts : Terms) → i + arity ts ≡ k → take i table ++ term_places pos ts ≡ places → take (k + 1) (set table k pos) ≡ places
      go nil m p = let q : i ≡ k = omega arith in rw (add-one, take-suc-set table k pos room) (rw q at p)
      go (cons t ts) m p = absurd (omega arith)

-- the first of the places, and how many they are
first_place : (at : ℕ) (ts : Terms) → get_or (term_places at ts) 0 0 ≡ at
unfolding term_places
first_place at nil = refl
first_place at (cons t ts) = refl

places_many : (at : ℕ) (ts : Terms) → length (term_places at ts) ≡ arity ts + 1
unfolding term_places
places_many at nil = refl
places_many at (cons t ts) = omega (arith, places_many (at + length (term_bytes t)) ts)

-- from one place to the next it is as long as the term, which stands there
next_place : (at : ℕ) (ts : Terms) (m i : ℕ) → i < arity ts
    → get_or (term_places at ts) (suc i) 0 ≡ get_or (term_places at ts) i 0 + length (term_bytes (numbered ts m i))
unfolding term_places
next_place at nil m i h = absurd (omega arith)
next_place at (cons t ts) m zero h = first_place (at + length (term_bytes t)) ts
next_place at (cons t ts) m (suc i) h = next_place (at + length (term_bytes t)) ts m i (omega arith)

place_stands : {s : List ℕ} {at e : ℕ} (ts : Terms) → Stands s at (terms_bytes ts) e → (m i : ℕ) → i < arity ts
    → Stands s (get_or (term_places at ts) i 0) (term_bytes (numbered ts m i)) (get_or (term_places at ts) i 0 + length (term_bytes (numbered ts m i)))
unfolding term_places
place_stands {at = at} nil w m i h = absurd (omega arith)
place_stands {at = at} (cons t ts) w m zero h = stands_first (term_bytes t) (terms_bytes ts) w
place_stands {at = at} (cons t ts) w m (suc i) h = place_stands {at = at + length (term_bytes t)} ts (stands_second (term_bytes t) (terms_bytes ts) w) m i (omega arith)

module _ {k : ℕ} {table : List ℕ} (t : TermTable k table) where
  pub table_room : k < length table
  table_room = omega (arith, ap length t.places, length-take (k + 1) table, places_many t.at t.terms, t.many)

  at_entry : (i : ℕ) → i ≤ k → get_or table i 0 ≡ get_or (term_places t.at t.terms) i 0
  at_entry i h = sym (get_or-take (k + 1) table i 0 (omega arith)) ∙ ap (λ (l : List ℕ). get_or l i 0) t.places

  next_entry : (m i : ℕ) → i < k → get_or table (i + 1) 0 ≡ get_or table i 0 + length (term_bytes (numbered t.terms m i))
  next_entry m i h =
      at_entry (i + 1) (omega arith) ∙ ap (λ (j : ℕ). get_or (term_places t.at t.terms) j 0) (add-one i)
      ∙ next_place t.at t.terms m i (omega (arith, t.many)) ∙ ap (λ (j : ℕ). j + length (term_bytes (numbered t.terms m i))) (sym (at_entry i (omega arith)))

  -- how long an argument is
  pub argument_ends : (m i : ℕ) → i < k → {r : Range} → r ≡ argument_range table i → r.to ≡ r.from + length (term_bytes (numbered t.terms m i))
  argument_ends m i h is = rw is (next_entry m i h)

  -- a variable behind the head's
  pub numbered_behind : (m i : ℕ) → k ≤ i → numbered t.terms m i ≡ var (m + (i - k))
  numbered_behind m i h = go t.terms i (omega (arith, t.many)) ∙ ap (λ (j : ℕ). var (m + (i - j))) t.many
    where
      go : (ts : Terms) (i : ℕ) → arity ts ≤ i → numbered ts m i ≡ var (m + (i - arity ts))
      go nil i h = ap var (omega arith)
      go (cons x ts) zero h = absurd (omega arith)
      go (cons x ts) (suc i) h = go ts i (omega arith) ∙ ap var (omega arith)

-- the table cut off behind its last entry
module _ {s : List ℕ} {k : ℕ} {table : List ℕ} (a : ArgumentTable s k table) where
  pub cut_length : length (take (k + 1) table) - 1 ≡ k
  cut_length = omega (arith, ap length a.listed.places, places_many a.listed.at a.listed.terms, a.listed.many)

  pub cut_places : take (length (take (k + 1) table) - 1 + 1) (take (k + 1) table) ≡ term_places a.listed.at a.listed.terms
  cut_places = rw cut_length (take-take (k + 1) (k + 1) table (omega arith) ∙ a.listed.places)

  abbrev pub arguments_cut : ArgumentTable s (length (take (k + 1) table) - 1) (take (k + 1) table)
  arguments_cut = record {
    listed = record { terms = a.listed.terms; many = a.listed.many ∙ sym cut_length; at = a.listed.at; places = cut_places };
    end = a.end;
    stands = a.stands;
  }

-- an argument stands where the table says, and is what the range there cuts out
module _ {s : List ℕ} {k : ℕ} {table : List ℕ} (a : ArgumentTable s k table) (m i : ℕ) (h : i < k) {r : Range} (is : r ≡ argument_range table i) where
  argument_stands : Stands s r.from (term_bytes (numbered a.listed.terms m i)) r.to
  argument_stands =
      rw (is, next_entry a.listed m i h, at_entry a.listed i (omega arith)) (place_stands a.listed.terms a.stands m i (omega (arith, a.listed.many)))

  pub argument_inside : Inside r s
  argument_inside = stands_inside argument_stands (stands_within argument_stands (omega (arith, term_long (numbered a.listed.terms m i)))).1

  pub argument_cut : cut s r ≡ term_bytes (numbered a.listed.terms m i)
  argument_cut = stands_cut argument_stands
