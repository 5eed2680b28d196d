-- Laws of tables: a node is a variable or a symbol, and not both.
use Rattle.std.specs.Prelude.{◌≡◌, ℕ}
use Rattle.std.proofs.Math.Path.{refl}
use Rattle.records.specs.Format.Never.{never}
use Rattle.terms.specs.declared.nodes.NodeKind.{NodeKind}
use Rattle.terms.specs.declared.nodes.NodeKind.TheVariants.{Variable, Symbol}
use Rattle.terms.specs.Classes.Nodes.{Nodes, kind, IsVariable, IsSymbol}

module _ (n : Nodes) (i : ℕ) where
  pub not_both : IsVariable n i → IsSymbol n i → ⊥
  not_both v s = let e : kind n i ≡ Symbol s.0 = s.1 in never cc

  pub variable? : Dec (IsVariable n i)
  variable? = go (kind n i) refl
    where
      go : (k : NodeKind) → kind n i ≡ k → Dec (IsVariable n i)
      go Variable e = yes e
      go (Symbol arity) e = no (λ v. never cc)
