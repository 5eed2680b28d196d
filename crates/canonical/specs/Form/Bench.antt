-- The bench line of the canonical form (SPECIFICATION 11.12, 11.16), and small programs beside it, computed from the definitions.
use Rattle.std.specs.Prelude.{◌≡◌, refl, List, [], ◌∷◌, ◌++◌, ℕ, ◌≤◌, length, drop}
use Rattle.std.proofs.Math.Decide.{ℕ_discrete, dec_lt}
use Rattle.std.proofs.Common.{le-leb}
use Rattle.records.specs.Format.Syntax.{Term, var, app, nil, cons, Goal, truth, failure, equal, conj, disj, atom, Clause, clause, definition}
use Rattle.records.specs.Format.Encode.{record_of, clauses_record, program_record}
use Rattle.records.specs.Gate.RecordRules.{exactly, clauses_rules}
use Rattle.records.specs.Format.Reader.{read}
use Rattle.records.specs.Format.Items.{many, read_counted, read_clause}
use Rattle.records.specs.Gate.Gate.{framed, of_version, read_record}
use Rattle.canonical.specs.Form.Canonical.{canonical}
use Rattle.records.specs.Gate.Reply.{Reply}
use Rattle.canonical.specs.Writing.Service.{canonical_record}

-- the constant a, and f of one term
abbrev pub a : Term
a = app 1 nil

abbrev pub f : Term → Term
f t = app 3 (cons t nil)

-- the atom q(t)
abbrev pub q : Term → Goal
q t = atom 7 (cons t nil)

-- q(a). q(f(Z)) :- q(Z).
abbrev pub q_clauses : List Clause
q_clauses = clause 7 0 (cons a nil) truth ∷ (clause 7 1 (cons (f (var 0)) nil) (q (var 0)) ∷ [])

-- (X0=a, true) ; (X0=f(V1), q(V1))
abbrev pub q_body : Goal
q_body = disj (conj (equal (var 0) a) truth) (conj (equal (var 0) (f (var 1))) (q (var 1)))

-- SPECIFICATION 11.12: the definition of q, with one local
pub bench_line : canonical q_clauses ≡ definition 7 1 1 q_body ∷ []
unfolding canonical
bench_line = refl

-- nothing comes of nothing
pub no_clauses : canonical [] ≡ []
unfolding canonical
no_clauses = refl

-- two arities of one predicate and another predicate, interleaved: p(X, X). o. p(Y) :- fail. p(U, W) :- q(W).
pub interleaved : canonical (
    clause 5 1 (cons (var 0) (cons (var 0) nil)) truth
    ∷ (clause 4 0 nil truth
    ∷ (clause 5 1 (cons (var 0) nil) failure
    ∷ (clause 5 2 (cons (var 0) (cons (var 1) nil)) (q (var 1)) ∷ []))))
    ≡ definition 4 0 0 truth
    ∷ (definition 5 1 1 (conj (equal (var 0) (var 1)) failure)
    ∷ (definition 5 2 3 (disj
    (conj (equal (var 0) (var 2)) (conj (equal (var 1) (var 2)) truth))
    (conj (equal (var 0) (var 3)) (conj (equal (var 1) (var 4)) (q (var 4))))) ∷ []))
unfolding canonical
interleaved = refl

-- the service, opened to all that it computes by
unfoldable pub canonical_bytes : List ℕ → List ℕ → Reply
unfolding canonical_record read_record framed of_version read many read_counted read_clause clauses_rules exactly record_of ℕ_discrete dec_lt
canonical_bytes = canonical_record

-- the bench line on bytes; `out` is any buffer that passes question 5
pub bench_bytes : (out : List ℕ) → 32768 ≤ length out → canonical_bytes (clauses_record q_clauses) out
    ≡ record {
      number = 0;
      output = program_record (definition 7 1 1 q_body ∷ []) ++ drop (length (program_record (definition 7 1 1 q_body ∷ []))) out;
    }
unfolding canonical_bytes
bench_bytes out room = rw (le-leb 32768 (length out) room)
