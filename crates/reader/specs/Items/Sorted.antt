-- The table of roles: what sorting the tokens of a text leaves, and how far it has come at a token.
use Rattle.std.specs.Prelude.{◌≡◌, Bool, true, false, List, ℕ, ◌+◌, ◌≤◌, length, drop}
use Rattle.text.specs.Tokens.Lexer.{tokens_of}
use Rattle.text.specs.Tokens.Places.{tokens_from}
use Rattle.text.specs.declared.table.State.{State}
use Rattle.text.specs.declared.tokens.Kind.{Kind}
use Rattle.text.specs.declared.tokens.Kind.TheVariants.{Name, True, Fail, Variable, Number, Functor, Open, Close, Comma, Semicolon, Equals, Neck, Stop, Wrong, End}
use Rattle.reader.specs.Items.Items.{Item, items}
use Rattle.reader.specs.Items.Words.{RolesAre}
use Rattle.reader.specs.declared.roles.Role.{Role}

-- the items of a text, from a state on
abbrev pub text_items : State → List ℕ → List Item
text_items start s = items start (tokens_of s)

-- the table, and how many items there are
pub record Sorted (s : List ℕ) (start : State) (before roles : List Role) (count : ℕ) : Type 0 where
  pub counted : count ≡ length (text_items start s)
  pub bounded : count ≤ length s
  pub kept : length roles ≡ length before
  pub table : RolesAre roles (text_items start s) count

-- the same at the place `at`, in a state, with so many items sorted
pub record Sorting (s : List ℕ) (start : State) (before roles : List Role) (count at : ℕ) (now : State) : Type 0 where
  pub left : drop count (text_items start s) ≡ items now (tokens_from s at)
  pub reached : count ≤ length (text_items start s)
  pub behind : count ≤ at
  pub within : at ≤ length s
  pub kept : length roles ≡ length before
  pub table : RolesAre roles (text_items start s) count
  pub few : now.terms + now.goals ≤ count

-- the kinds whose role hangs on what comes next, and the kind of =
abbrev pub reserved : Kind → Bool
reserved Name = false
reserved True = true
reserved Fail = true
reserved Variable = false
reserved Number = false
reserved Functor = false
reserved Open = false
reserved Close = false
reserved Comma = false
reserved Semicolon = false
reserved Equals = false
reserved Neck = false
reserved Stop = false
reserved Wrong = false
reserved End = false

abbrev pub equals_kind : Kind → Bool
equals_kind Name = false
equals_kind True = false
equals_kind Fail = false
equals_kind Variable = false
equals_kind Number = false
equals_kind Functor = false
equals_kind Open = false
equals_kind Close = false
equals_kind Comma = false
equals_kind Semicolon = false
equals_kind Equals = true
equals_kind Neck = false
equals_kind Stop = false
equals_kind Wrong = false
equals_kind End = false
