-- Laws of forests in pre-order: what is left behind the first nodes, and the term at each node.
use Rattle.std.specs.Prelude.{◌≡◌, refl, ◌++◌, ℕ, zero, suc, ◌+◌, ◌*◌, ◌≤◌, ◌<◌, length}
use Rattle.std.proofs.Common.{sym, ◌∙◌, ap, append_assoc, suc-add, zero-add, arith, length-append}
use Rattle.records.specs.Format.Syntax.{Term, Terms}
use Rattle.records.specs.Format.Syntax.Term.{var, app}
use Rattle.records.specs.Format.Syntax.Terms.{nil, cons}
use Rattle.records.specs.Format.Encode.{term_bytes, terms_bytes}
use Rattle.records.specs.Format.Formed.{TermFormed, TermsFormed}
use Rattle.terms.specs.Classes.Forest.{joined_forest, node_count, nodes_count, forest_after, forest_first, term_at}

-- joining
pub joined_nil : (ts : Terms) → joined_forest ts nil ≡ ts
joined_nil nil = refl
joined_nil (cons t ts) = ap (cons t) (joined_nil ts)

pub joined_assoc : (ts us vs : Terms) → joined_forest (joined_forest ts us) vs ≡ joined_forest ts (joined_forest us vs)
joined_assoc nil us vs = refl
joined_assoc (cons t ts) us vs = ap (cons t) (joined_assoc ts us vs)

pub joined_count : (ts us : Terms) → nodes_count (joined_forest ts us) ≡ nodes_count ts + nodes_count us
joined_count nil us = omega arith
joined_count (cons t ts) us = let h = joined_count ts us in omega arith

pub joined_forest_bytes : (ts us : Terms) → terms_bytes (joined_forest ts us) ≡ terms_bytes ts ++ terms_bytes us
joined_forest_bytes nil us = refl
joined_forest_bytes (cons t ts) us = ap (λ l. term_bytes t ++ l) (joined_forest_bytes ts us) ∙ sym (append_assoc (term_bytes t) (terms_bytes ts) (terms_bytes us))

pub joined_formed : (ts us : Terms) → TermsFormed ts → TermsFormed us → TermsFormed (joined_forest ts us)
joined_formed nil us h k = k
joined_formed (cons t ts) us h k = (h.0, joined_formed ts us h.1 k)

-- a node takes three bytes or more
mutual
  pub count_bytes : (t : Term) → 3 * node_count t ≤ length (term_bytes t)
  count_bytes (var v) = omega arith
  count_bytes (app f ts) = let h = counts_bytes ts in omega arith

  pub counts_bytes : (ts : Terms) → 3 * nodes_count ts ≤ length (terms_bytes ts)
  counts_bytes nil = omega arith
  counts_bytes (cons t ts) =
      let h = count_bytes t in
      let k = counts_bytes ts in
      omega (arith, length-append (term_bytes t) (terms_bytes ts))

pub count_positive : (t : Term) → 0 < node_count t
count_positive (var v) = omega arith
count_positive (app f ts) = omega arith

-- what is left behind i and then j nodes
pub after_add : (i j : ℕ) (ts : Terms) → forest_after (i + j) ts ≡ forest_after j (forest_after i ts)
after_add zero j ts = ap (λ k. forest_after k ts) (zero-add j)
after_add (suc i) j nil = ap (λ k. forest_after k nil) (suc-add i j) ∙ sym (after_nil j)
  where
    after_nil : (j : ℕ) → forest_after j nil ≡ nil
    after_nil zero = refl
    after_nil (suc j) = refl
after_add (suc i) j (cons (var v) ts) = ap (λ k. forest_after k (cons (var v) ts)) (suc-add i j) ∙ after_add i j ts
after_add (suc i) j (cons (app f us) ts) = ap (λ k. forest_after k (cons (app f us) ts)) (suc-add i j) ∙ after_add i j (joined_forest us ts)

-- behind a whole term, and behind a whole list
mutual
  pub after_term : (t : Term) (ts : Terms) → forest_after (node_count t) (cons t ts) ≡ ts
  after_term (var v) ts = refl
  after_term (app f us) ts = after_terms us ts

  pub after_terms : (us ts : Terms) → forest_after (nodes_count us) (joined_forest us ts) ≡ ts
  after_terms nil ts = refl
  after_terms (cons u us) ts =
      after_add (node_count u) (nodes_count us) (cons u (joined_forest us ts))
      ∙ ap (forest_after (nodes_count us)) (after_term u (joined_forest us ts)) ∙ after_terms us ts

-- what stands at node j of a list: a term and what follows it in the list
pub record Split (us : Terms) (j : ℕ) : Type 0 where
  pub term : Term
  pub rest : Terms
  pub here : (ts : Terms) → forest_after j (joined_forest us ts) ≡ cons term (joined_forest rest ts)
  pub total : j + (node_count term + nodes_count rest) ≡ nodes_count us

pub split : (j : ℕ) (us : Terms) → j < nodes_count us → Split us j
split zero nil h = absurd (omega arith)
split zero (cons u us) h = record { term = u; rest = us; here = λ ts. refl; total = omega arith }
split (suc j) nil h = absurd (omega arith)
split (suc j) (cons (var v) us) h =
    let s = split j us (omega arith) in
    record { term = s.term; rest = s.rest; here = s.here; total = omega (arith, s.total) }
split (suc j) (cons (app f vs) us) h =
    let k = joined_count vs us in
    let s = split j (joined_forest vs us) (omega arith) in
    record {
      term = s.term;
      rest = s.rest;
      here = λ ts. ap (forest_after j) (sym (joined_assoc vs us ts)) ∙ s.here ts;
      total = omega (arith, s.total);
    }

-- of one term and then another: the nodes of the first, and those of the second
pub pair_first : (s : Term) (ts : Terms) (i : ℕ) → i < node_count s → term_at (cons s ts) i ≡ term_at (cons s nil) i
pair_first s ts i h =
    let k = split i (cons s nil) (omega arith) in
    ap forest_first (k.here ts) ∙ sym (ap forest_first (k.here nil))

pub pair_second : (s : Term) (ts : Terms) (i : ℕ) → term_at (cons s ts) (node_count s + i) ≡ term_at ts i
pair_second s ts i = ap forest_first (after_add (node_count s) i (cons s ts) ∙ ap (forest_after i) (after_term s ts))

-- the terms at the nodes of well-formed terms are well formed
pub formed_at : (i : ℕ) (ts : Terms) → i < nodes_count ts → TermsFormed ts → TermFormed (term_at ts i)
formed_at zero nil h k = absurd (omega arith)
formed_at zero (cons t ts) h k = k.0
formed_at (suc i) nil h k = absurd (omega arith)
formed_at (suc i) (cons (var v) ts) h k = formed_at i ts (omega arith) k.1
formed_at (suc i) (cons (app f us) ts) h k =
    let e = joined_count us ts in
    formed_at i (joined_forest us ts) (omega arith) (joined_formed us ts k.0.2 k.1)
