-- The round trip: what the printer writes of a tree is read back as that tree.
use Rattle.std.specs.Prelude.{ℕ, ◌≡◌, refl, Bool, true, false, ◌||◌, List, [], ◌∷◌, ◌++◌}
use Rattle.std.proofs.Common.{append_assoc}
use Rattle.std.proofs.Math.Option.{some}
use Rattle.records.specs.Format.Never.{never}
use Rattle.records.specs.Gate.RecordRules.{every}
use Rattle.records.specs.Gate.RecordRulesLaws.{and_both}
use Rattle.text.specs.Grammar.{Token, TermTree, ArgumentTrees, GoalTree, ConjunctionTree, PrimaryTree, ClauseTree, ProperTerm, ProperArguments, ProperAtom, ProperHead, ProperGoal, ProperConjunction, ProperPrimary, ProperClause, ProperClauses, term_then, arguments_then, goal_then, conjunction_then, primary_then, clause_then, clauses_tokens, lower, upper, digit, underscore, alphanumeric, is_name, is_variable, is_number, is_word, word_ends, Spelled, Says, SaysGoal}
use Rattle.text.specs.Grammar.Token.{bare, functor, opening, closing, comma, semicolon, equals, neck, stop}
use Rattle.text.specs.Grammar.TermTree.{alone, applied}
use Rattle.text.specs.Grammar.ArgumentTrees.{last, more}
use Rattle.text.specs.Grammar.GoalTree.{only, either}
use Rattle.text.specs.Grammar.ConjunctionTree.{sole, both}
use Rattle.text.specs.Grammar.PrimaryTree.{equality, atomic, bracketed}
use Rattle.text.specs.Grammar.ClauseTree.{fact, implied}
use Rattle.text.specs.Grammar.Spelled.{ended, blanks, token}
use Rattle.text.specs.Tokens.ClassLaws.{or_cases}
use Rattle.text.specs.Reading.{reading, reading_says, goal_reading, goal_reading_says}
use Rattle.text.specs.Printer.{term_text, arguments_text, goal_text, conjunction_text, primary_text, clause_text, printed, printed_goal}

-- names, variables and numbers are words
digit_letter : (b : ℕ) → digit b ≡ true → alphanumeric b ≡ true
digit_letter b e = go (lower b) (upper b)
  where
    go : (l u : Bool) → (l || (u || (digit b || underscore b))) ≡ true
    go true u = refl
    go false true = refl
    go false false = rw e

digits_letters : (w : List ℕ) → every digit w ≡ true → every alphanumeric w ≡ true
digits_letters [] e = refl
digits_letters (b ∷ w) e = let k = and_both (digit b) (every digit w) e in rw (digit_letter b k.0, digits_letters w k.1)

name_is_word : (w : List ℕ) → is_name w ≡ true → is_word w ≡ true
name_is_word [] e = never cc
name_is_word (b ∷ w) e = let k = and_both (lower b) (every alphanumeric w) e in rw (k.0, k.1)

variable_is_word : (w : List ℕ) → is_variable w ≡ true → is_word w ≡ true
variable_is_word [] e = never cc
variable_is_word (b ∷ w) e = let k = and_both (upper b || underscore b) (every alphanumeric w) e in rw (start (lower b) (upper b) (digit b) (underscore b) k.0, k.1)
  where
    start : (l u d s : Bool) → (u || s) ≡ true → (l || (u || (d || s))) ≡ true
    start true u d s h = refl
    start false true d s h = refl
    start false false true s h = refl
    start false false false s h = h

number_is_word : (w : List ℕ) → is_number w ≡ true → is_word w ≡ true
number_is_word [] e = never cc
number_is_word (b ∷ w) e = digits_letters (b ∷ w) e

term_is_word : (w : List ℕ) → ProperTerm (alone w) → is_word w ≡ true
term_is_word w e = or_cases (is_name w) (is_variable w || is_number w) e (name_is_word w) (λ d. or_cases (is_variable w) (is_number w) d (variable_is_word w) (number_is_word w))

-- a word before what ends it, and a name with its bracket
bare_spelled : (w : List ℕ) → is_word w ≡ true → {ts : List Token} {s : List ℕ} → word_ends s ≡ true → Spelled ts s → Spelled (bare w ∷ ts) (w ++ s)
bare_spelled w e {s = s} d h = token {s = s} (bare w) (rw (e, d)) h

functor_spelled : (w : List ℕ) → is_name w ≡ true → {ts : List Token} {s : List ℕ} → Spelled ts s → Spelled (functor w ∷ ts) (w ++ (40 ∷ s))
functor_spelled w e {s = s} h = rw (append_assoc w (40 ∷ []) s) at (token (functor w) (name_is_word w e) h)

mutual
  term_spelled : (t : TermTree) → ProperTerm t → {ts : List Token} {s : List ℕ} → word_ends s ≡ true → Spelled ts s → Spelled (term_then t ts) (term_text t s)
  term_spelled (alone w) p e h = bare_spelled w (term_is_word w p) e h
  term_spelled (applied w us) p e h = functor_spelled w p.0 (arguments_spelled us p.1 h)

  arguments_spelled : (us : ArgumentTrees) → ProperArguments us → {ts : List Token} {s : List ℕ} → Spelled ts s → Spelled (arguments_then us ts) (arguments_text us s)
  arguments_spelled (last t) p h = term_spelled t p refl (token closing refl h)
  arguments_spelled (more t us) p h = term_spelled t p.0 refl (token comma refl (blanks refl (arguments_spelled us p.1 h)))

atom_spelled : (t : TermTree) → ProperAtom t → {ts : List Token} {s : List ℕ} → word_ends s ≡ true → Spelled ts s → Spelled (term_then t ts) (term_text t s)
atom_spelled (alone w) p e h = bare_spelled w (name_is_word w p) e h
atom_spelled (applied w us) p e h = term_spelled (applied w us) p e h

head_spelled : (t : TermTree) → ProperHead t → {ts : List Token} {s : List ℕ} → word_ends s ≡ true → Spelled ts s → Spelled (term_then t ts) (term_text t s)
head_spelled (alone w) p e h = bare_spelled w (name_is_word w p.0) e h
head_spelled (applied w us) p e h = term_spelled (applied w us) p e h

mutual
  goal_spelled : (g : GoalTree) → ProperGoal g → {ts : List Token} {s : List ℕ} → word_ends s ≡ true → Spelled ts s → Spelled (goal_then g ts) (goal_text g s)
  goal_spelled (only c) p e h = conjunction_spelled c p e h
  goal_spelled (either c g) p e h = conjunction_spelled c p.0 refl (blanks refl (token semicolon refl (blanks refl (goal_spelled g p.1 e h))))

  conjunction_spelled : (c : ConjunctionTree) → ProperConjunction c → {ts : List Token} {s : List ℕ} → word_ends s ≡ true → Spelled ts s → Spelled (conjunction_then c ts) (conjunction_text c s)
  conjunction_spelled (sole q) p e h = primary_spelled q p e h
  conjunction_spelled (both q c) p e h = primary_spelled q p.0 refl (token comma refl (blanks refl (conjunction_spelled c p.1 e h)))

  primary_spelled : (q : PrimaryTree) → ProperPrimary q → {ts : List Token} {s : List ℕ} → word_ends s ≡ true → Spelled ts s → Spelled (primary_then q ts) (primary_text q s)
  primary_spelled (equality t u) p e h = term_spelled t p.0 refl (blanks refl (token equals refl (blanks refl (term_spelled u p.1 e h))))
  primary_spelled (atomic t) p e h = atom_spelled t p e h
  primary_spelled (bracketed g) p e h = token opening refl (goal_spelled g p refl (token closing refl h))

clause_spelled : (c : ClauseTree) → ProperClause c → {ts : List Token} {s : List ℕ} → Spelled ts s → Spelled (clause_then c ts) (clause_text c s)
clause_spelled (fact t) p h = head_spelled t p refl (token stop refl (blanks refl h))
clause_spelled (implied t g) p h = head_spelled t p.0 refl (blanks refl (token neck refl (blanks refl (goal_spelled g p.1 refl (token stop refl (blanks refl h))))))

clauses_spelled : (cs : List ClauseTree) → ProperClauses cs → Spelled (clauses_tokens cs) (printed cs)
clauses_spelled [] p = ended
clauses_spelled (c ∷ cs) p = clause_spelled c p.0 (clauses_spelled cs p.1)

pub says_printed : (cs : List ClauseTree) → ProperClauses cs → Says (printed cs) cs
says_printed cs p = record { proper = p; spelled = clauses_spelled cs p }

pub says_printed_goal : (g : GoalTree) → ProperGoal g → SaysGoal (printed_goal g) g
says_printed_goal g p = record { proper = p; spelled = goal_spelled g p refl ended }

pub reading_printed : (cs : List ClauseTree) → ProperClauses cs → reading (printed cs) ≡ some cs
reading_printed cs p = (reading_says (printed cs) cs).1 (says_printed cs p)

pub goal_reading_printed : (g : GoalTree) → ProperGoal g → goal_reading (printed_goal g) ≡ some g
goal_reading_printed g p = (goal_reading_says (printed_goal g) g).1 (says_printed_goal g p)
