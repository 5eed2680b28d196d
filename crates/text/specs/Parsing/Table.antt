-- The parsing table: from the kinds of tokens to yes or no, with a mode and two counts and no stack, since terms do not hold goals.
-- Choices: what may follow a name in a goal is told by the mode alone (`Left`: an atom so far, which `=` makes the left side of an equality; `Bare`: a variable
-- or a number, which must become one), so that no token is looked at twice; a count that would fall below zero is `Bad`, which nothing leaves.
use Rattle.std.specs.Prelude.{ℕ, zero, suc, ◌+◌, Bool, true, false, List, [], ◌∷◌}
use Rattle.records.specs.Format.Heads.{pick}
use Rattle.text.specs.Grammar.{Token, is_name, is_variable, is_number, is_true, is_fail}
use Rattle.text.specs.Grammar.Token.{bare, functor, opening, closing, comma, semicolon, equals, neck, stop, wrong}
use Rattle.text.specs.declared.tokens.Kind.{Kind}
use Rattle.text.specs.declared.tokens.Kind.TheVariants.{Name, True, Fail, Variable, Number, Functor, Open, Close, Comma, Semicolon, Equals, Neck, Stop, Wrong, End}
use Rattle.text.specs.declared.table.Place.{Place}
use Rattle.text.specs.declared.table.Place.TheVariants.{Head, Left as OfLeft, Right as OfRight}
use Rattle.text.specs.declared.table.Mode.{Mode}
use Rattle.text.specs.declared.table.Mode.TheVariants.{Clause, Headed, Goal, Left, Bare, Right, Done, Term, Rest, Bad}
use Rattle.text.specs.declared.table.State.{State}

-- the kind of a name that stands alone, of a word that does, and of a token
abbrev pub name_kind : List ℕ → Kind
name_kind w = pick (is_true w) True (pick (is_fail w) Fail Name)

abbrev pub word_kind : List ℕ → Kind
word_kind w = pick (is_name w) (name_kind w) (pick (is_variable w) Variable (pick (is_number w) Number Wrong))

abbrev pub kind : Token → Kind
kind (bare w) = word_kind w
kind (functor w) = pick (is_name w) Functor Wrong
kind opening = Open
kind closing = Close
kind comma = Comma
kind semicolon = Semicolon
kind equals = Equals
kind neck = Neck
kind stop = Stop
kind wrong = Wrong

-- the kind that no token has
abbrev pub end_kind : Kind → Bool
end_kind Name = false
end_kind True = false
end_kind Fail = false
end_kind Variable = false
end_kind Number = false
end_kind Functor = false
end_kind Open = false
end_kind Close = false
end_kind Comma = false
end_kind Semicolon = false
end_kind Equals = false
end_kind Neck = false
end_kind Stop = false
end_kind Wrong = false
end_kind End = true

-- the kind of the full stop
abbrev pub stop_kind : Kind → Bool
stop_kind Name = false
stop_kind True = false
stop_kind Fail = false
stop_kind Variable = false
stop_kind Number = false
stop_kind Functor = false
stop_kind Open = false
stop_kind Close = false
stop_kind Comma = false
stop_kind Semicolon = false
stop_kind Equals = false
stop_kind Neck = false
stop_kind Stop = true
stop_kind Wrong = false
stop_kind End = false

abbrev pub state : Mode → ℕ → ℕ → State
state m t g = record { mode = m; terms = t; goals = g }

abbrev pub bad : State
bad = state Bad 0 0

-- what follows a list of arguments
abbrev pub after : Place → Mode
after Head = Headed
after OfLeft = Left
after OfRight = Done

-- a closing bracket, with so many open around a goal
abbrev pub closed : ℕ → State
closed zero = bad
closed (suc g) = state Done 0 g

-- a full stop, with so many open around a goal
abbrev pub stopped : ℕ → State
stopped zero = state Clause 0 0
stopped (suc g) = bad

-- a closing bracket, with so many argument lists open
abbrev pub shut : Place → ℕ → ℕ → State
shut p zero g = bad
shut p (suc zero) g = state (after p) 0 g
shut p (suc (suc t)) g = state (Rest p) (suc t) g

-- by the kind of the next token, one column a kind; true and fail have one column, variables and numbers too; z where there is none
abbrev pub row : {A : Type 0} → A → Kind → A → A → A → A → A → A → A → A → A → A → A → A
row z Name n r o f op cl co se eq ne st = n
row z True n r o f op cl co se eq ne st = r
row z Fail n r o f op cl co se eq ne st = r
row z Variable n r o f op cl co se eq ne st = o
row z Number n r o f op cl co se eq ne st = o
row z Functor n r o f op cl co se eq ne st = f
row z Open n r o f op cl co se eq ne st = op
row z Close n r o f op cl co se eq ne st = cl
row z Comma n r o f op cl co se eq ne st = co
row z Semicolon n r o f op cl co se eq ne st = se
row z Equals n r o f op cl co se eq ne st = eq
row z Neck n r o f op cl co se eq ne st = ne
row z Stop n r o f op cl co se eq ne st = st
row z Wrong n r o f op cl co se eq ne st = z
row z End n r o f op cl co se eq ne st = z

-- the table: columns are a name, true or fail, a variable or number, p(, then ( ) , ; = :- and the full stop
abbrev pub look_by : Mode → ℕ → ℕ → Kind → State
look_by Clause t g k = row bad k (state Headed 0 0) bad bad (state (Term Head) 1 0) bad bad bad bad bad bad bad
look_by Headed t g k = row bad k bad bad bad bad bad bad bad bad bad (state Goal 0 0) (state Clause 0 0)
look_by Goal t g k = row bad k (state Left 0 g) (state Left 0 g) (state Bare 0 g) (state (Term OfLeft) 1 g) (state Goal 0 (g + 1)) bad bad bad bad bad bad
look_by Left t g k = row bad k bad bad bad bad bad (closed g) (state Goal 0 g) (state Goal 0 g) (state Right 0 g) bad (stopped g)
look_by Bare t g k = row bad k bad bad bad bad bad bad bad bad (state Right 0 g) bad bad
look_by Right t g k = row bad k (state Done 0 g) (state Done 0 g) (state Done 0 g) (state (Term OfRight) 1 g) bad bad bad bad bad bad bad
look_by Done t g k = row bad k bad bad bad bad bad (closed g) (state Goal 0 g) (state Goal 0 g) bad bad (stopped g)
look_by (Term p) t g k = row bad k (state (Rest p) t g) (state (Rest p) t g) (state (Rest p) t g) (state (Term p) (t + 1) g) bad bad bad bad bad bad bad
look_by (Rest p) t g k = row bad k bad bad bad bad bad (shut p t g) (state (Term p) t g) bad bad bad bad
look_by Bad t g k = bad

abbrev pub look : State → Kind → State
look s k = look_by s.mode s.terms s.goals k

-- a text ends where a clause may start
abbrev pub final : Mode → Bool
final Clause = true
final Headed = false
final Goal = false
final Left = false
final Bare = false
final Right = false
final Done = false
final (Term p) = false
final (Rest p) = false
final Bad = false

unfoldable pub accepts : State → List Token → Bool
accepts s [] = final s.mode
accepts s (t ∷ ts) = accepts (look s (kind t)) ts

-- where a text starts, and where a goal
abbrev pub start : State
start = state Clause 0 0

abbrev pub goal_start : State
goal_start = state Goal 0 0
