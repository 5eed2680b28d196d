-- The arguments of an atom: a list of terms that stands somewhere, and the table of where each of them starts and the last one ends.
use Rattle.std.specs.Prelude.{◌≡◌, List, [], ◌∷◌, ℕ, ◌+◌, ◌-◌, length, take, get_or}
use Rattle.records.specs.Format.Syntax.{Terms, arity}
use Rattle.records.specs.Format.Syntax.Terms.{nil, cons}
use Rattle.records.specs.Format.Encode.{term_bytes, terms_bytes}
use Rattle.records.specs.Format.Formed.{TermsFormed}
use Rattle.records.specs.Ends.Stands.{Stands}
use Rattle.records.specs.declared.put.Range.{Range}
use Rattle.terms.specs.declared.arguments.Arguments.{Arguments}

-- an argument list that stands somewhere
pub record ArgumentsAt (s : List ℕ) (a : Arguments) : Type 0 where
  pub terms : Terms
  pub formed : TermsFormed terms
  pub many : arity terms ≡ a.arity
  pub end : ℕ
  pub stands : Stands s a.at (terms_bytes terms) end

-- where each of the terms starts that stand from a position on, and where the last one ends
unfoldable pub term_places : ℕ → Terms → List ℕ
term_places at nil = at ∷ []
term_places at (cons t ts) = at ∷ term_places (at + length (term_bytes t)) ts

-- from entry i to the next one
abbrev pub argument_range : List ℕ → ℕ → Range
argument_range table i = record { from = get_or table i 0; to = get_or table (i + 1) 0 }

-- a table of the places of k terms
pub record TermTable (k : ℕ) (table : List ℕ) : Type 0 where
  pub terms : Terms
  pub many : arity terms ≡ k
  pub at : ℕ
  pub places : take (k + 1) table ≡ term_places at terms

-- a table of the places of as many terms as it has entries, but for the last one
abbrev pub TermsOf : List ℕ → Type 0
TermsOf table = TermTable (length table - 1) table

-- the terms stand at these places
pub record ArgumentTable (s : List ℕ) (k : ℕ) (table : List ℕ) : Type 0 where
  pub listed : TermTable k table
  pub end : ℕ
  pub stands : Stands s listed.at (terms_bytes listed.terms) end
