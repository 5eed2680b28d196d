-- Writing from the right. A cell is a token's role with its numbers; `emission` reads cells from the last to the first and puts bytes in front of those it has,
-- so that the kind byte of a goal comes once both its halves are there. What it keeps besides: the arguments counted of each term that is open, and of each
-- open bracket whether a comma or a semicolon stands behind it; whether a comma stands behind the primary that is read, a semicolon behind its conjunction,
-- and = behind the left side of an equality; the variables of the clause.
use Rattle.std.specs.Prelude.{Bool, true, false, cond, ◌||◌, not, List, [], ◌∷◌, ◌++◌, ℕ, zero, suc, leb, length}
use Rattle.records.specs.Format.Encode as encode
use Rattle.reader.specs.Form.Meaning.{place, number_in, met}
use Rattle.reader.specs.Items.Items.{Item, item}
use Rattle.reader.specs.declared.emit.Behind.{Behind}
use Rattle.reader.specs.declared.roles.Role.{Role}
use Rattle.reader.specs.declared.roles.Role.TheVariants.{Variable, Constant, Functor, GoalVariable, GoalConstant, GoalFunctor, Truth, Failure, Head, HeadFunctor, Shut, Next, And, Or, Equal, Open, Close, Neck, Fact, Rule}

-- the role, the number of the name, and the number of the variable or, at the end of a clause, how many it has
pub data Cell : Type 0 where
  cell : Role → ℕ → ℕ → Cell

-- one answer for roles of names, one for variables, one for ends of clauses, and one for others
abbrev pub by_sort : {A : Type 0} → Role → A → A → A → A → A
by_sort Variable n v e o = v
by_sort GoalVariable n v e o = v
by_sort Constant n v e o = n
by_sort Functor n v e o = n
by_sort GoalConstant n v e o = n
by_sort GoalFunctor n v e o = n
by_sort Head n v e o = n
by_sort HeadFunctor n v e o = n
by_sort Truth n v e o = o
by_sort Failure n v e o = o
by_sort Shut n v e o = o
by_sort Next n v e o = o
by_sort And n v e o = o
by_sort Or n v e o = o
by_sort Equal n v e o = o
by_sort Open n v e o = o
by_sort Close n v e o = o
by_sort Neck n v e o = o
by_sort Fact n v e o = e
by_sort Rule n v e o = e

-- the number of an item's name under the names ns, and of its variable behind the variables vs
abbrev pub name_number : List (List ℕ) → Item → ℕ
name_number ns (item r w) = by_sort r (place w ns) 0 0 0

abbrev pub variable_number : List (List ℕ) → Item → ℕ
variable_number vs (item r w) = by_sort r 0 (number_in vs w) (length vs) 0

-- the variables met behind an item
abbrev pub met_behind : List (List ℕ) → Item → List (List ℕ)
met_behind vs (item r w) = by_sort r vs (met vs w) [] vs

abbrev pub role : Item → Role
role (item r w) = r

unfoldable pub cells : List (List ℕ) → List (List ℕ) → List Item → List Cell
cells ns vs [] = []
cells ns vs (i ∷ is) = cell (role i) (name_number ns i) (variable_number vs i) ∷ cells ns (met_behind vs i) is

pub data Emission : Type 0 where
  -- the bytes, whether an arity is over 16, the clauses, the counts of arguments, the brackets, comma, semicolon, =, variables
  emission : List ℕ → Bool → ℕ → List ℕ → List Behind → Bool → Bool → Bool → ℕ → Emission

-- a byte in front where one is due
abbrev pub due : Bool → ℕ → List ℕ → List ℕ
due true b l = b ∷ l
due false b l = l

-- a conjunction is whole: the disjunction that it starts, if a semicolon stands behind it
abbrev pub whole : Emission → Emission
whole (emission l o n ks bs c s q v) = emission (due s 0x14 l) o n ks bs c false q v

-- a primary is whole: the equality, and the conjunction that it starts, if a comma stands behind it
abbrev pub primary : Emission → Emission
primary (emission l o n ks bs c s q v) = emission (due c 0x13 (due q 0x12 l)) o n ks bs false s false v

-- the number of arguments of the term that is read, and the counts of those around it
abbrev pub top : List ℕ → ℕ
top [] = zero
top (k ∷ ks) = k

abbrev pub popped : List ℕ → List ℕ
popped [] = []
popped (k ∷ ks) = ks

-- one argument more
abbrev pub counted_on : List ℕ → List ℕ
counted_on [] = suc zero ∷ []
counted_on (k ∷ ks) = suc k ∷ ks

-- a symbol or predicate with its arity
abbrev pub headed : ℕ → ℕ → ℕ → List ℕ → List ℕ
headed kind n k l = kind ∷ (encode.word n ++ (k ∷ l))

-- an opening bracket gives back what stands behind its closing one
abbrev pub reopened : Emission → Emission
reopened (emission l o n ks [] c s q v) = emission l o n ks [] false false q v
reopened (emission l o n ks (b ∷ bs) c s q v) = emission l o n ks bs b.comma b.semicolon q v

abbrev pub shown_clause : ℕ → ℕ → ℕ → List ℕ → List ℕ
shown_clause p k v l = encode.word p ++ (k ∷ (v ∷ l))

-- one cell in front
abbrev pub emit_cell : Cell → Emission → Emission
emit_cell (cell Variable a x) (emission l o n ks bs c s q v) = emission (0x01 ∷ (encode.word x ++ l)) o n ks bs c s q v
emit_cell (cell Constant a x) (emission l o n ks bs c s q v) = emission (headed 0x02 a 0 l) o n ks bs c s q v
emit_cell (cell Functor a x) (emission l o n ks bs c s q v) = emission (headed 0x02 a (top ks) l) (not (leb (top ks) 16) || o) n (popped ks) bs c s q v
emit_cell (cell GoalVariable a x) (emission l o n ks bs c s q v) = primary (emission (0x01 ∷ (encode.word x ++ l)) o n ks bs c s q v)
emit_cell (cell GoalConstant a x) (emission l o n ks bs c s q v) = primary (emission (headed (cond q 0x02 0x15) a 0 l) o n ks bs c s q v)
emit_cell (cell GoalFunctor a x) (emission l o n ks bs c s q v) = primary (emission (headed (cond q 0x02 0x15) a (top ks) l) (not (leb (top ks) 16) || o) n (popped ks) bs c s q v)
emit_cell (cell Truth a x) (emission l o n ks bs c s q v) = primary (emission (0x10 ∷ l) o n ks bs c s q v)
emit_cell (cell Failure a x) (emission l o n ks bs c s q v) = primary (emission (0x11 ∷ l) o n ks bs c s q v)
emit_cell (cell Head a x) (emission l o n ks bs c s q v) = emission (shown_clause a 0 v l) o n ks bs c s q 0
emit_cell (cell HeadFunctor a x) (emission l o n ks bs c s q v) = emission (shown_clause a (top ks) v l) (not (leb (top ks) 16) || o) n (popped ks) bs c s q 0
emit_cell (cell Shut a x) (emission l o n ks bs c s q v) = emission l o n (1 ∷ ks) bs c s q v
emit_cell (cell Next a x) (emission l o n ks bs c s q v) = emission l o n (counted_on ks) bs c s q v
emit_cell (cell And a x) (emission l o n ks bs c s q v) = emission l o n ks bs true s q v
emit_cell (cell Or a x) (emission l o n ks bs c s q v) = emission (due s 0x14 l) o n ks bs c true q v
emit_cell (cell Equal a x) (emission l o n ks bs c s q v) = emission l o n ks bs c s true v
emit_cell (cell Open a x) e = primary (reopened (whole e))
emit_cell (cell Close a x) (emission l o n ks bs c s q v) = emission l o n ks (record { comma = c; semicolon = s } ∷ bs) false false q v
emit_cell (cell Neck a x) e = whole e
emit_cell (cell Fact a x) (emission l o n ks bs c s q v) = emission (0x10 ∷ l) o (suc n) ks bs c s q x
emit_cell (cell Rule a x) (emission l o n ks bs c s q v) = emission l o (suc n) ks bs c s q x

-- all cells, the last one first
unfoldable pub emitted : List Cell → Emission
emitted [] = emission [] false 0 [] [] false false false 0
emitted (c ∷ cs) = emit_cell c (emitted cs)

-- what is asked of an emission in the end
abbrev pub bytes_of : Emission → List ℕ
bytes_of (emission l o n ks bs c s q v) = l

abbrev pub over_of : Emission → Bool
over_of (emission l o n ks bs c s q v) = o

abbrev pub clause_count : Emission → ℕ
clause_count (emission l o n ks bs c s q v) = n
