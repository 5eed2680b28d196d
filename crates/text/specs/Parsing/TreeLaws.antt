-- Laws of a tree's tokens: the tests that they pass, what stands behind them, and where a goal ends that a full stop follows.
use Rattle.std.specs.Prelude.{◌≡◌, refl, Bool, true, false, List, [], ◌∷◌, ◌++◌}
use Rattle.std.proofs.Common.{sym, ap, ap₂, ◌∙◌}
use Rattle.records.specs.Format.Never.{never}
use Rattle.records.specs.Gate.RecordRules.{every}
use Rattle.records.specs.Gate.RecordRulesLaws.{and_both}
use Rattle.text.specs.Grammar.{Token, TermTree, ArgumentTrees, GoalTree, ConjunctionTree, PrimaryTree, ClauseTree, term_then, arguments_then, goal_then, conjunction_then, primary_then, clauses_tokens}
use Rattle.text.specs.Grammar.Token.{bare, functor, opening, closing, comma, semicolon, equals, neck, stop, wrong}
use Rattle.text.specs.Grammar.TermTree.{alone, applied}
use Rattle.text.specs.Grammar.ArgumentTrees.{last, more}
use Rattle.text.specs.Grammar.GoalTree.{only, either}
use Rattle.text.specs.Grammar.ConjunctionTree.{sole, both}
use Rattle.text.specs.Grammar.PrimaryTree.{equality, atomic, bracketed}
use Rattle.text.specs.Grammar.ClauseTree.{fact, implied}
use Rattle.text.specs.Tokens.Lexer.{is_token}
use Rattle.text.specs.Parsing.Questions.{no_stop}

-- the tokens that a goal may hold
abbrev pub inner : Token → Bool
inner (bare w) = true
inner (functor w) = true
inner opening = true
inner closing = true
inner comma = true
inner semicolon = true
inner equals = true
inner neck = false
inner stop = false
inner wrong = false

-- a test that they pass is passed by a goal's tokens
module _ (p : Token → Bool) (pass : (t : Token) → inner t ≡ true → p t ≡ true) where
  first : (t : Token) (r : List Token) → inner t ≡ true → every p r ≡ true → every p (t ∷ r) ≡ true
  first t r e h = rw (pass t e) h

  mutual
    term_every : (t : TermTree) (r : List Token) → every p r ≡ true → every p (term_then t r) ≡ true
    term_every (alone w) r h = first (bare w) r refl h
    term_every (applied w ts) r h = first (functor w) (arguments_then ts r) refl (arguments_every ts r h)

    arguments_every : (ts : ArgumentTrees) (r : List Token) → every p r ≡ true → every p (arguments_then ts r) ≡ true
    arguments_every (last t) r h = term_every t (closing ∷ r) (first closing r refl h)
    arguments_every (more t ts) r h = term_every t (comma ∷ arguments_then ts r) (first comma (arguments_then ts r) refl (arguments_every ts r h))

  mutual
    pub goal_every : (g : GoalTree) (r : List Token) → every p r ≡ true → every p (goal_then g r) ≡ true
    goal_every (only c) r h = conjunction_every c r h
    goal_every (either c g) r h = conjunction_every c (semicolon ∷ goal_then g r) (first semicolon (goal_then g r) refl (goal_every g r h))

    conjunction_every : (c : ConjunctionTree) (r : List Token) → every p r ≡ true → every p (conjunction_then c r) ≡ true
    conjunction_every (sole x) r h = primary_every x r h
    conjunction_every (both x c) r h = primary_every x (comma ∷ conjunction_then c r) (first comma (conjunction_then c r) refl (conjunction_every c r h))

    primary_every : (x : PrimaryTree) (r : List Token) → every p r ≡ true → every p (primary_then x r) ≡ true
    primary_every (equality t u) r h = term_every t (equals ∷ term_then u r) (first equals (term_then u r) refl (term_every u r h))
    primary_every (atomic t) r h = term_every t r h
    primary_every (bracketed g) r h = first opening (goal_then g (closing ∷ r)) refl (goal_every g (closing ∷ r) (first closing r refl h))

inner_token : (t : Token) → inner t ≡ true → is_token t ≡ true
inner_token (bare w) e = refl
inner_token (functor w) e = refl
inner_token opening e = refl
inner_token closing e = refl
inner_token comma e = refl
inner_token semicolon e = refl
inner_token equals e = refl
inner_token neck e = refl
inner_token stop e = refl
inner_token wrong e = e

inner_no_stop : (t : Token) → inner t ≡ true → no_stop t ≡ true
inner_no_stop (bare w) e = refl
inner_no_stop (functor w) e = refl
inner_no_stop opening e = refl
inner_no_stop closing e = refl
inner_no_stop comma e = refl
inner_no_stop semicolon e = refl
inner_no_stop equals e = refl
inner_no_stop neck e = refl
inner_no_stop stop e = e
inner_no_stop wrong e = refl

-- no token of a tree is `wrong`, and none of a goal is a full stop
pub goal_tokens : (g : GoalTree) → every is_token (goal_then g []) ≡ true
goal_tokens g = goal_every is_token inner_token g [] refl

pub goal_no_stop : (g : GoalTree) → every no_stop (goal_then g []) ≡ true
goal_no_stop g = goal_every no_stop inner_no_stop g [] refl

pub clauses_are_tokens : (cs : List ClauseTree) → every is_token (clauses_tokens cs) ≡ true
clauses_are_tokens [] = refl
clauses_are_tokens (fact t ∷ cs) = term_every is_token inner_token t (stop ∷ clauses_tokens cs) (clauses_are_tokens cs)
clauses_are_tokens (implied t g ∷ cs) =
    term_every is_token inner_token t (neck ∷ goal_then g (stop ∷ clauses_tokens cs)) (goal_every is_token inner_token g (stop ∷ clauses_tokens cs) (clauses_are_tokens cs))

-- what stands behind a tree
mutual
  term_append : (t : TermTree) (r k : List Token) → term_then t r ++ k ≡ term_then t (r ++ k)
  term_append (alone w) r k = refl
  term_append (applied w ts) r k = ap (λ (l : List Token). functor w ∷ l) (arguments_append ts r k)

  arguments_append : (ts : ArgumentTrees) (r k : List Token) → arguments_then ts r ++ k ≡ arguments_then ts (r ++ k)
  arguments_append (last t) r k = term_append t (closing ∷ r) k
  arguments_append (more t ts) r k = term_append t (comma ∷ arguments_then ts r) k ∙ ap (λ (l : List Token). term_then t (comma ∷ l)) (arguments_append ts r k)

mutual
  pub goal_append : (g : GoalTree) (r k : List Token) → goal_then g r ++ k ≡ goal_then g (r ++ k)
  goal_append (only c) r k = conjunction_append c r k
  goal_append (either c g) r k = conjunction_append c (semicolon ∷ goal_then g r) k ∙ ap (λ (l : List Token). conjunction_then c (semicolon ∷ l)) (goal_append g r k)

  conjunction_append : (c : ConjunctionTree) (r k : List Token) → conjunction_then c r ++ k ≡ conjunction_then c (r ++ k)
  conjunction_append (sole p) r k = primary_append p r k
  conjunction_append (both p c) r k = primary_append p (comma ∷ conjunction_then c r) k ∙ ap (λ (l : List Token). primary_then p (comma ∷ l)) (conjunction_append c r k)

  primary_append : (p : PrimaryTree) (r k : List Token) → primary_then p r ++ k ≡ primary_then p (r ++ k)
  primary_append (equality t u) r k = term_append t (equals ∷ term_then u r) k ∙ ap (λ (l : List Token). term_then t (equals ∷ l)) (term_append u r k)
  primary_append (atomic t) r k = term_append t r k
  primary_append (bracketed g) r k = ap (λ (l : List Token). opening ∷ l) (goal_append g (closing ∷ r) k)

-- two lists without a full stop that one follows
pub up_to_stop : (a b q r : List Token) → every no_stop a ≡ true → every no_stop b ≡ true → a ++ (stop ∷ q) ≡ b ++ (stop ∷ r) → a ≡ b
up_to_stop [] [] q r f g e = refl
up_to_stop [] (y ∷ b) q r f g e = let d : stop ≡ y = cc in never (sym (and_both (no_stop y) (every no_stop b) g).0 ∙ sym (ap no_stop d))
up_to_stop (x ∷ a) [] q r f g e = let d : x ≡ stop = cc in never (sym (and_both (no_stop x) (every no_stop a) f).0 ∙ ap no_stop d)
up_to_stop (x ∷ a) (y ∷ b) q r f g e =
    ap₂ ◌∷◌ (cc) (up_to_stop a b q r (and_both (no_stop x) (every no_stop a) f).1 (and_both (no_stop y) (every no_stop b) g).1 (cc))
