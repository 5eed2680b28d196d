-- Every list of tokens that is accepted is that of a tree, by induction on the list: for each mode, what is to come. The functions that build trees are open,
-- so that a tree can be computed.
use Rattle.std.specs.Prelude.{ℕ, zero, suc, ◌+◌, ◌≡◌, refl, Bool, true, false, ◌||◌, List, [], ◌∷◌}
use Rattle.std.proofs.Common.{sym, ap, ◌∙◌, add-one}
use Rattle.std.proofs.lemmas.Bool.{false≢true}
use Rattle.records.specs.Format.Heads.{pick}
use Rattle.text.specs.Grammar.{Token, TermTree, ArgumentTrees, GoalTree, PrimaryTree, ClauseTree, ProperTerm, ProperArguments, ProperAtom, ProperHead, ProperGoal, ProperPrimary, ProperClauses, term_then, arguments_then, goal_then, primary_then, clauses_tokens, is_name, is_variable, is_number, is_true, is_fail}
use Rattle.text.specs.Grammar.Token.{bare, functor, opening, closing, comma, semicolon, equals, neck, stop, wrong}
use Rattle.text.specs.Grammar.TermTree.{alone, applied}
use Rattle.text.specs.Grammar.ArgumentTrees.{last, more}
use Rattle.text.specs.Grammar.GoalTree.{only, either}
use Rattle.text.specs.Grammar.ConjunctionTree.{sole, both}
use Rattle.text.specs.Grammar.PrimaryTree.{equality, atomic, bracketed}
use Rattle.text.specs.Grammar.ClauseTree.{fact, implied}
use Rattle.text.specs.Parsing.Table.{kind, state, row, look_by, accepts, start, goal_start, bad, closed, stopped, shut}
use Rattle.text.specs.declared.tokens.Kind.{Kind}
use Rattle.text.specs.declared.tokens.Kind.TheVariants.{Name, True, Fail, Variable, Number, Functor, Open, Close, Comma, Semicolon, Equals, Neck, Stop, Wrong}
use Rattle.text.specs.declared.table.Place.{Place}
use Rattle.text.specs.declared.table.Place.TheVariants.{Head, Left as OfLeft, Right as OfRight}
use Rattle.text.specs.declared.table.Mode.{Mode}
use Rattle.text.specs.declared.table.Mode.TheVariants.{Clause, Headed, Goal, Left, Bare, Right, Done, Term, Rest, Bad}
use Rattle.text.specs.declared.table.State.{State}

-- the kind of a token, with what it says of the token
pub data Shape : Token → Kind → Type 0 where
  named : {w : List ℕ} → is_name w ≡ true → (is_true w || is_fail w) ≡ false → Shape (bare w) Name
  trues : {w : List ℕ} → is_name w ≡ true → Shape (bare w) True
  fails : {w : List ℕ} → is_name w ≡ true → Shape (bare w) Fail
  varies : {w : List ℕ} → ProperTerm (alone w) → Shape (bare w) Variable
  counts : {w : List ℕ} → ProperTerm (alone w) → Shape (bare w) Number
  applies : {w : List ℕ} → is_name w ≡ true → Shape (functor w) Functor
  opens : Shape opening Open
  closes : Shape closing Close
  commas : Shape comma Comma
  semicolons : Shape semicolon Semicolon
  equates : Shape equals Equals
  necks : Shape neck Neck
  stops : Shape stop Stop
  none : (t : Token) → Shape t Wrong

abbrev bare_shape : (w : List ℕ) (n : Bool) → is_name w ≡ n → (t : Bool) → is_true w ≡ t → (f : Bool) → is_fail w ≡ f → (v : Bool) → is_variable w ≡ v → (d : Bool) → is_number w ≡ d
    → Shape (bare w) (pick n (pick t True (pick f Fail Name)) (pick v Variable (pick d Number Wrong)))
bare_shape w true a true b f c v d n e = trues a
bare_shape w true a false b true c v d n e = fails a
bare_shape w true a false b false c v d n e = named {w = w} a (rw (b, c))
bare_shape w false a t b f c true d n e = varies {w = w} (rw (a, d))
bare_shape w false a t b f c false d true e = counts {w = w} (rw (a, d, e))
bare_shape w false a t b f c false d false e = none (bare w)

abbrev functor_shape : (w : List ℕ) (n : Bool) → is_name w ≡ n → Shape (functor w) (pick n Functor Wrong)
functor_shape w true e = applies e
functor_shape w false e = none (functor w)

abbrev shape : (t : Token) → Shape t (kind t)
shape (bare w) = bare_shape w (is_name w) refl (is_true w) refl (is_fail w) refl (is_variable w) refl (is_number w) refl
shape (functor w) = functor_shape w (is_name w) refl
shape opening = opens
shape closing = closes
shape comma = commas
shape semicolon = semicolons
shape equals = equates
shape neck = necks
shape stop = stops
shape wrong = none wrong

-- a row of the table, by what its tokens are
abbrev by_row : (P : Token → State → Type 0) {z n r o f op cl co se eq ne st : State} →
    ((w : List ℕ) → is_name w ≡ true → (is_true w || is_fail w) ≡ false → P (bare w) n) →
    ((w : List ℕ) → is_name w ≡ true → P (bare w) r) →
    ((w : List ℕ) → ProperTerm (alone w) → P (bare w) o) →
    ((w : List ℕ) → is_name w ≡ true → P (functor w) f) →
    P opening op → P closing cl → P comma co → P semicolon se → P equals eq → P neck ne → P stop st →
    ((t : Token) → P t z) → (t : Token) (k : Kind) → Shape t k → P t (row z k n r o f op cl co se eq ne st)
by_row P n r o f op cl co se eq ne st z t k (named {w} e d) = n w e d
by_row P n r o f op cl co se eq ne st z t k (trues {w} e) = r w e
by_row P n r o f op cl co se eq ne st z t k (fails {w} e) = r w e
by_row P n r o f op cl co se eq ne st z t k (varies {w} e) = o w e
by_row P n r o f op cl co se eq ne st z t k (counts {w} e) = o w e
by_row P n r o f op cl co se eq ne st z t k (applies {w} e) = f w e
by_row P n r o f op cl co se eq ne st z t k opens = op
by_row P n r o f op cl co se eq ne st z t k closes = cl
by_row P n r o f op cl co se eq ne st z t k commas = co
by_row P n r o f op cl co se eq ne st z t k semicolons = se
by_row P n r o f op cl co se eq ne st z t k equates = eq
by_row P n r o f op cl co se eq ne st z t k necks = ne
by_row P n r o f op cl co se eq ne st z t k stops = st
by_row P n r o f op cl co se eq ne st z t k (none x) = z x

-- what follows a primary in its goal
pub data GoalRest : Type 0 where
  nothing : GoalRest
  and_then or_then : GoalTree → GoalRest

abbrev rest_then : GoalRest → List Token → List Token
rest_then nothing r = r
rest_then (and_then g) r = comma ∷ goal_then g r
rest_then (or_then g) r = semicolon ∷ goal_then g r

abbrev ProperRest : GoalRest → Type 0
ProperRest nothing = Unit {0}
ProperRest (and_then g) = ProperGoal g
ProperRest (or_then g) = ProperGoal g

abbrev combine : PrimaryTree → GoalRest → GoalTree
combine p nothing = only (sole p)
combine p (and_then (only c)) = only (both p c)
combine p (and_then (either c g)) = either (both p c) g
combine p (or_then g) = either (sole p) g

abbrev combine_then : (p : PrimaryTree) (q : GoalRest) (r : List Token) → goal_then (combine p q) r ≡ primary_then p (rest_then q r)
combine_then p nothing r = refl
combine_then p (and_then (only c)) r = refl
combine_then p (and_then (either c g)) r = refl
combine_then p (or_then g) r = refl

abbrev combine_proper : (p : PrimaryTree) (q : GoalRest) → ProperPrimary p → ProperRest q → ProperGoal (combine p q)
combine_proper p nothing a b = a
combine_proper p (and_then (only c)) a b = (a, b)
combine_proper p (and_then (either c g)) a b = ((a, b.0), b.1)
combine_proper p (or_then g) a b = (a, b)

-- what follows a term in its argument list
pub data ArgumentsRest : Type 0 where
  shuts : ArgumentsRest
  goes_on : ArgumentTrees → ArgumentsRest

abbrev list_then : ArgumentsRest → List Token → List Token
list_then shuts r = closing ∷ r
list_then (goes_on ts) r = comma ∷ arguments_then ts r

abbrev ProperList : ArgumentsRest → Type 0
ProperList shuts = Unit {0}
ProperList (goes_on ts) = ProperArguments ts

abbrev join : TermTree → ArgumentsRest → ArgumentTrees
join t shuts = last t
join t (goes_on ts) = more t ts

abbrev join_then : (t : TermTree) (q : ArgumentsRest) (r : List Token) → arguments_then (join t q) r ≡ term_then t (list_then q r)
join_then t shuts r = refl
join_then t (goes_on ts) r = refl

abbrev join_proper : (t : TermTree) (q : ArgumentsRest) → ProperTerm t → ProperList q → ProperArguments (join t q)
join_proper t shuts a b = a
join_proper t (goes_on ts) a b = (a, b)

-- what is to come, by the mode
abbrev Clauses : List Token → Type 0
Clauses ts = (cs : List ClauseTree) × ProperClauses cs × (ts ≡ clauses_tokens cs)

abbrev Rests : (List Token → Type 0) → List Token → Type 0
Rests X ts = (q : GoalRest) × ProperRest q × (r : List Token) × (ts ≡ rest_then q r) × X r

abbrev Ends : ℕ → List Token → Type 0
Ends zero ts = (r : List Token) × (ts ≡ stop ∷ r) × Clauses r
Ends (suc g) ts = (r : List Token) × (ts ≡ closing ∷ r) × Rests (Ends g) r

abbrev Goals : ℕ → List Token → Type 0
Goals g ts = (x : GoalTree) × ProperGoal x × (r : List Token) × (ts ≡ goal_then x r) × Ends g r

abbrev Rights : ℕ → List Token → Type 0
Rights g ts = (u : TermTree) × ProperTerm u × (r : List Token) × (ts ≡ term_then u r) × Rests (Ends g) r

abbrev Bares : ℕ → List Token → Type 0
Bares g ts = (r : List Token) × (ts ≡ equals ∷ r) × Rights g r

pub data Lefts (g : ℕ) (ts : List Token) : Type 0 where
  as_atom : Rests (Ends g) ts → Lefts g ts
  as_left : Bares g ts → Lefts g ts

pub data Heads (ts : List Token) : Type 0 where
  as_fact : (r : List Token) → ts ≡ stop ∷ r → Clauses r → Heads ts
  as_rule : (r : List Token) → ts ≡ neck ∷ r → Goals 0 r → Heads ts

abbrev Afters : Place → ℕ → List Token → Type 0
Afters Head g ts = Heads ts
Afters OfLeft g ts = Lefts g ts
Afters OfRight g ts = Rests (Ends g) ts

abbrev Lists : Place → ℕ → ℕ → List Token → Type 0
Lists p zero g ts = Afters p g ts
Lists p (suc k) g ts = (q : ArgumentsRest) × ProperList q × (r : List Token) × (ts ≡ list_then q r) × Lists p k g r

abbrev Terms : Place → ℕ → ℕ → List Token → Type 0
Terms p zero g ts = Unit {0}
Terms p (suc k) g ts = (l : ArgumentTrees) × ProperArguments l × (r : List Token) × (ts ≡ arguments_then l r) × Lists p k g r

abbrev Opens : Place → ℕ → ℕ → List Token → Type 0
Opens p zero g ts = Unit {0}
Opens p (suc k) g ts = Lists p (suc k) g ts

abbrev Completes : Mode → ℕ → ℕ → List Token → Type 0
Completes Clause t g ts = Clauses ts
Completes Headed t g ts = Heads ts
Completes Goal t g ts = Goals g ts
Completes Left t g ts = Lefts g ts
Completes Bare t g ts = Bares g ts
Completes Right t g ts = Rights g ts
Completes Done t g ts = Rests (Ends g) ts
Completes (Term p) t g ts = Terms p t g ts
Completes (Rest p) t g ts = Opens p t g ts
Completes Bad t g ts = ⊥

abbrev goals_at : (g : ℕ) {ts us : List Token} → ts ≡ us → Goals g us → Goals g ts
goals_at g e x = (x.0, x.1, x.2, e ∙ x.3, x.4)

abbrev primary_goal : (p : PrimaryTree) → ProperPrimary p → (g : ℕ) (ts : List Token) → Rests (Ends g) ts → Goals g (primary_then p ts)
primary_goal p f g ts d = (combine p d.0, combine_proper p d.0 f d.1, d.2, ap (primary_then p) d.3 ∙ sym (combine_then p d.0 d.2), d.4)

abbrev bare_goal : (t : TermTree) → ProperTerm t → (g : ℕ) (ts : List Token) → Bares g ts → Goals g (term_then t ts)
bare_goal t f g ts b =
    goals_at g (ap (term_then t) (b.1 ∙ ap (λ (l : List Token). equals ∷ l) b.2.3)) (primary_goal (equality t b.2.0) (f, b.2.1) g b.2.2 b.2.4)

abbrev left_goal : (t : TermTree) → ProperTerm t → ProperAtom t → (g : ℕ) (ts : List Token) → Lefts g ts → Goals g (term_then t ts)
left_goal t f a g ts (as_atom d) = primary_goal (atomic t) a g ts d
left_goal t f a g ts (as_left b) = bare_goal t f g ts b

abbrev head_clauses : (t : TermTree) → ProperHead t → (ts : List Token) → Heads ts → Clauses (term_then t ts)
head_clauses t f ts (as_fact r e cl) = (fact t ∷ cl.0, (f, cl.1), ap (term_then t) (e ∙ ap (λ (l : List Token). stop ∷ l) cl.2))
head_clauses t f ts (as_rule r e x) = (
  implied t x.0 ∷ x.4.2.0,
  ((f, x.1), x.4.2.1),
  ap (term_then t) (e ∙ ap (λ (l : List Token). neck ∷ l) (x.3 ∙ ap (goal_then x.0) (x.4.1 ∙ ap (λ (l : List Token). stop ∷ l) x.4.2.2))),
)

abbrev term_list : (t : TermTree) → ProperTerm t → (p : Place) (k g : ℕ) (ts : List Token) → Lists p (suc k) g ts → Terms p (suc k) g (term_then t ts)
term_list t f p k g ts x = (join t x.0, join_proper t x.0 f x.1, x.2, ap (term_then t) x.3 ∙ sym (join_then t x.0 x.2), x.4)

abbrev terms_at : (p : Place) (k g : ℕ) {ts us : List Token} → ts ≡ us → Terms p (suc k) g us → Terms p (suc k) g ts
terms_at p k g e x = (x.0, x.1, x.2, e ∙ x.3, x.4)

abbrev word_proper : (w : List ℕ) → is_name w ≡ true → ProperTerm (alone w)
word_proper w e = ap (λ (b : Bool). b || (is_variable w || is_number w)) e

-- one token before what is to come; the lines have the columns of the table
module _ (ts : List Token) (on : (m : Mode) (t g : ℕ) → accepts (state m t g) ts ≡ true → Completes m t g ts) where
  abbrev Before : Mode → ℕ → ℕ → Token → State → Type 0
  Before m t g x s = accepts s ts ≡ true → Completes m t g (x ∷ ts)

  abbrev no : {A : Type 0} → accepts bad ts ≡ true → A
  no h = absurd (on Bad 0 0 h)

  abbrev closing_rests : (g : ℕ) → accepts (closed g) ts ≡ true → Rests (Ends g) (closing ∷ ts)
  closing_rests zero h = no h
  closing_rests (suc g) h = (nothing, tt, closing ∷ ts, refl, (ts, refl, on Done 0 g h))

  abbrev stop_rests : (g : ℕ) → accepts (stopped g) ts ≡ true → Rests (Ends g) (stop ∷ ts)
  stop_rests zero h = (nothing, tt, stop ∷ ts, refl, (ts, refl, on Clause 0 0 h))
  stop_rests (suc g) h = no h

  abbrev comma_rests : (g : ℕ) → accepts (state Goal 0 g) ts ≡ true → Rests (Ends g) (comma ∷ ts)
  comma_rests g h = let x = on Goal 0 g h in (and_then x.0, x.1, x.2, ap (λ (l : List Token). comma ∷ l) x.3, x.4)

  abbrev semicolon_rests : (g : ℕ) → accepts (state Goal 0 g) ts ≡ true → Rests (Ends g) (semicolon ∷ ts)
  semicolon_rests g h = let x = on Goal 0 g h in (or_then x.0, x.1, x.2, ap (λ (l : List Token). semicolon ∷ l) x.3, x.4)

  abbrev arguments_goal : (w : List ℕ) → is_name w ≡ true → (g : ℕ) → accepts (state (Term OfLeft) 1 g) ts ≡ true → Goals g (functor w ∷ ts)
  arguments_goal w e g h =
      let x = on (Term OfLeft) 1 g h in
      goals_at g (ap (λ (l : List Token). functor w ∷ l) x.3) (left_goal (applied w x.0) (e, x.1) (e, x.1) g x.2 x.4)

  abbrev arguments_right : (w : List ℕ) → is_name w ≡ true → (g : ℕ) → accepts (state (Term OfRight) 1 g) ts ≡ true → Rights g (functor w ∷ ts)
  arguments_right w e g h =
      let x = on (Term OfRight) 1 g h in
      (applied w x.0, (e, x.1), x.2, ap (λ (l : List Token). functor w ∷ l) x.3, x.4)

  abbrev arguments_head : (w : List ℕ) → is_name w ≡ true → accepts (state (Term Head) 1 0) ts ≡ true → Clauses (functor w ∷ ts)
  arguments_head w e h =
      let x = on (Term Head) 1 0 h in
      let y = head_clauses (applied w x.0) (e, x.1) x.2 x.4 in
      (y.0, y.1, ap (λ (l : List Token). functor w ∷ l) x.3 ∙ y.2)

  abbrev arguments_term : (w : List ℕ) → is_name w ≡ true → (p : Place) (k g : ℕ) → accepts (state (Term p) (suc k + 1) g) ts ≡ true → Terms p (suc k) g (functor w ∷ ts)
  arguments_term w e p k g h =
      let x = on (Term p) (suc (suc k)) g (rw (add-one (suc k)) at h) in
      terms_at p k g (ap (λ (l : List Token). functor w ∷ l) x.3) (term_list (applied w x.0) (e, x.1) p k g x.2 x.4)

  abbrev bracket_goal : (g : ℕ) → accepts (state Goal 0 (g + 1)) ts ≡ true → Goals g (opening ∷ ts)
  bracket_goal g h =
      let x = on Goal 0 (suc g) (rw (add-one g) at h) in
      goals_at g (ap (λ (l : List Token). opening ∷ l) (x.3 ∙ ap (goal_then x.0) x.4.1)) (primary_goal (bracketed x.0) x.1 g x.4.0 x.4.2)

  abbrev shut_list : (p : Place) (k g : ℕ) → accepts (shut p (suc k) g) ts ≡ true → Lists p (suc k) g (closing ∷ ts)
  shut_list Head zero g h = (shuts, tt, ts, refl, on Headed 0 g h)
  shut_list OfLeft zero g h = (shuts, tt, ts, refl, on Left 0 g h)
  shut_list OfRight zero g h = (shuts, tt, ts, refl, on Done 0 g h)
  shut_list p (suc k) g h = (shuts, tt, ts, refl, on (Rest p) (suc k) g h)

  abbrev comma_list : (p : Place) (k g : ℕ) → accepts (state (Term p) (suc k) g) ts ≡ true → Lists p (suc k) g (comma ∷ ts)
  comma_list p k g h = let x = on (Term p) (suc k) g h in (goes_on x.0, x.1, x.2, ap (λ (l : List Token). comma ∷ l) x.3, x.4)

  abbrev before : (m : Mode) (t g : ℕ) (x : Token) (k : Kind) → Shape x k → Before m t g x (look_by m t g k)
  before Clause t g = by_row (Before Clause t g)
      (λ w e d h. head_clauses (alone w) (e, d) ts (on Headed 0 0 h)) (λ w e. no) (λ w e. no) (λ w e h. arguments_head w e h)
      no no no no no no no (λ x. no)
  before Headed t g = by_row (Before Headed t g)
      (λ w e d. no) (λ w e. no) (λ w e. no) (λ w e. no)
      no no no no no (λ h. as_rule ts refl (on Goal 0 0 h)) (λ h. as_fact ts refl (on Clause 0 0 h)) (λ x. no)
  before Goal t g = by_row (Before Goal t g)
      (λ w e d h. left_goal (alone w) (word_proper w e) e g ts (on Left 0 g h)) (λ w e h. left_goal (alone w) (word_proper w e) e g ts (on Left 0 g h))
      (λ w e h. bare_goal (alone w) e g ts (on Bare 0 g h)) (λ w e h. arguments_goal w e g h)
      (λ h. bracket_goal g h) no no no no no no (λ x. no)
  before Left t g = by_row (Before Left t g)
      (λ w e d. no) (λ w e. no) (λ w e. no) (λ w e. no)
      no (λ h. as_atom (closing_rests g h)) (λ h. as_atom (comma_rests g h)) (λ h. as_atom (semicolon_rests g h)) (λ h. as_left (ts, refl, on Right 0 g h)) no (λ h. as_atom (stop_rests g h)) (λ x. no)
  before Bare t g = by_row (Before Bare t g)
      (λ w e d. no) (λ w e. no) (λ w e. no) (λ w e. no)
      no no no no (λ h. (ts, refl, on Right 0 g h)) no no (λ x. no)
  before Right t g = by_row (Before Right t g)
      (λ w e d h. (alone w, word_proper w e, ts, refl, on Done 0 g h)) (λ w e h. (alone w, word_proper w e, ts, refl, on Done 0 g h))
      (λ w e h. (alone w, e, ts, refl, on Done 0 g h)) (λ w e h. arguments_right w e g h)
      no no no no no no no (λ x. no)
  before Done t g = by_row (Before Done t g)
      (λ w e d. no) (λ w e. no) (λ w e. no) (λ w e. no)
      no (λ h. closing_rests g h) (λ h. comma_rests g h) (λ h. semicolon_rests g h) no no (λ h. stop_rests g h) (λ x. no)
  before (Term p) zero g = λ x k s h. tt
  before (Term p) (suc t) g = by_row (Before (Term p) (suc t) g)
      (λ w e d h. term_list (alone w) (word_proper w e) p t g ts (on (Rest p) (suc t) g h)) (λ w e h. term_list (alone w) (word_proper w e) p t g ts (on (Rest p) (suc t) g h))
      (λ w e h. term_list (alone w) e p t g ts (on (Rest p) (suc t) g h)) (λ w e h. arguments_term w e p t g h)
      no no no no no no no (λ x. no)
  before (Rest p) zero g = λ x k s h. tt
  before (Rest p) (suc t) g = by_row (Before (Rest p) (suc t) g)
      (λ w e d. no) (λ w e. no) (λ w e. no) (λ w e. no)
      no (λ h. shut_list p t g h) (λ h. comma_list p t g h) no no no no (λ x. no)
  before Bad t g = λ x k s h. absurd (on Bad 0 0 h)

unfoldable pub sound_by : (ts : List Token) (m : Mode) (t g : ℕ) → accepts (state m t g) ts ≡ true → Completes m t g ts
unfolding accepts
sound_by [] Clause t g h = ([], tt, refl)
sound_by [] Headed t g h = absurd (false≢true h)
sound_by [] Goal t g h = absurd (false≢true h)
sound_by [] Left t g h = absurd (false≢true h)
sound_by [] Bare t g h = absurd (false≢true h)
sound_by [] Right t g h = absurd (false≢true h)
sound_by [] Done t g h = absurd (false≢true h)
sound_by [] (Term p) t g h = absurd (false≢true h)
sound_by [] (Rest p) t g h = absurd (false≢true h)
sound_by [] Bad t g h = absurd (false≢true h)
sound_by (x ∷ ts) m t g h = before ts (sound_by ts) m t g x (kind x) (shape x) h

unfoldable pub clauses_sound : (ts : List Token) → accepts start ts ≡ true → (cs : List ClauseTree) × ProperClauses cs × (ts ≡ clauses_tokens cs)
clauses_sound ts h = sound_by ts Clause 0 0 h

-- a goal, with what follows its full stop
unfoldable pub goal_sound : (ts : List Token) → accepts goal_start ts ≡ true → (g : GoalTree) × ProperGoal g × (r : List Token) × (ts ≡ goal_then g (stop ∷ r))
goal_sound ts h = let x = sound_by ts Goal 0 0 h in (x.0, x.1, x.4.0, x.3 ∙ ap (goal_then x.0) x.4.1)
