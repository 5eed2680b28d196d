-- What two clauses say: q(a). q(f(Z)) :- q(Z). From them q(f(a)) follows, and q(b) does not. With symbols a 1, b 2, f 3 and predicate q 1.
use Rattle.std.specs.Prelude.{◌≡◌, refl, List, [], ◌∷◌, ℕ}
use Rattle.std.proofs.Common.{sym, ◌∙◌, ap, inl, inr}
use Rattle.records.specs.Format.Never.{never}
use Rattle.records.specs.Format.Syntax.{Term, var, app, Terms, nil, cons, Goal, truth, atom, Clause, clause}
use Rattle.terms.specs.Theory.Substitution.{Substitution, substitute_all}
use Rattle.meaning.specs.Says.Holds.{true_holds, atom_holds, ClauseBody, Follows}
use Rattle.meaning.specs.Says.HoldsLaws.{made_of}
use Rattle.meaning.specs.Says.Any.{Belongs}

abbrev a : Term
a = app 1 nil

abbrev b : Term
b = app 2 nil

abbrev f : Term → Term
f t = app 3 (cons t nil)

abbrev q : Term → Goal
q t = atom 1 (cons t nil)

abbrev clauses : List Clause
clauses = clause 1 0 (cons a nil) truth ∷ clause 1 1 (cons (f (var 0)) nil) (q (var 0)) ∷ []

-- Z=a
abbrev all_a : Substitution
all_a i = a

pub q_of_f_of_a : Follows clauses (q (f a))
q_of_f_of_a = atom_holds rule (atom_holds fact true_holds)
  where
    fact : ClauseBody clauses 1 (cons a nil) truth
    fact = record { variables = 0; head = cons a nil; goal = truth; stands = inl refl; terms = all_a; head_is = refl; is = refl }

    rule : ClauseBody clauses 1 (cons (f a) nil) (q a)
    rule = record { variables = 1; head = cons (f (var 0)) nil; goal = q (var 0); stands = inr (inl refl); terms = all_a; head_is = refl; is = refl }

pub not_q_of_b : Follows clauses (q b) → ⊥
not_q_of_b h = let (g, m, _) = made_of (ClauseBody clauses) (q b) h in go m.variables m.head m.goal m.terms m.stands m.head_is
  where
    go : (v : ℕ) (hs : Terms) (g : Goal) (δ : Substitution) → Belongs (clause 1 v hs g) clauses → substitute_all δ hs ≡ cons b nil → ⊥
    go v hs g δ (inl e) k = let z : hs ≡ cons a nil = cc in let w = ap (substitute_all δ) (sym z) ∙ k in never cc
    go v hs g δ (inr (inl e)) k = let z : hs ≡ cons (f (var 0)) nil = cc in let w = ap (substitute_all δ) (sym z) ∙ k in never cc
    go v hs g δ (inr (inr e)) k = absurd e
