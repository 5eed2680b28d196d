-- A forest in pre-order: the terms of an argument list, node by node. It is how two terms are laid into one table.
use Rattle.std.specs.Prelude.{ℕ, zero, suc, ◌+◌}
use Rattle.records.specs.Format.Syntax.{Term, Terms, arity}
use Rattle.records.specs.Format.Syntax.Term.{var, app}
use Rattle.records.specs.Format.Syntax.Terms.{nil, cons}
use Rattle.terms.specs.declared.nodes.NodeKind.{NodeKind}
use Rattle.terms.specs.declared.nodes.NodeKind.TheVariants.{Variable, Symbol}

-- one argument list after another
abbrev pub joined_forest : Terms → Terms → Terms
joined_forest nil us = us
joined_forest (cons t ts) us = cons t (joined_forest ts us)

-- how many nodes a term has, and an argument list
abbrev mutual
  pub node_count : Term → ℕ
  node_count (var v) = 1
  node_count (app f ts) = suc (nodes_count ts)

  pub nodes_count : Terms → ℕ
  nodes_count nil = 0
  nodes_count (cons t ts) = node_count t + nodes_count ts

-- the kind of a term's first node
abbrev pub term_kind : Term → NodeKind
term_kind (var v) = Variable
term_kind (app f ts) = Symbol (arity ts)

-- the number of its variable or symbol
abbrev pub term_number : Term → ℕ
term_number (var v) = v
term_number (app f ts) = f

-- what is left of a forest behind its first i nodes
abbrev pub forest_after : ℕ → Terms → Terms
forest_after zero ts = ts
forest_after (suc i) nil = nil
forest_after (suc i) (cons (var v) ts) = forest_after i ts
forest_after (suc i) (cons (app f us) ts) = forest_after i (joined_forest us ts)

-- the first term of a forest
abbrev pub forest_first : Terms → Term
forest_first nil = var 0
forest_first (cons t ts) = t

-- the term at node i of a forest
abbrev pub term_at : Terms → ℕ → Term
term_at ts i = forest_first (forest_after i ts)
