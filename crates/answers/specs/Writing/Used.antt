-- The bodies and branches among bets as code finds them.
use Rattle.std.specs.Prelude.{Bool, true, false, List, [], ℕ, ◌+◌, length, Option, Some, None}
use Rattle.records.specs.Format.Syntax.{Bet}
use Rattle.records.specs.Format.Encode.{each, bet_bytes}
use Rattle.records.specs.declared.heads.BetHead.{BetHead}
use Rattle.records.specs.declared.heads.BetHead.TheVariants.{Unifier, Or, By}
use Rattle.answers.specs.declared.used.UsedSize.{UsedSize}

-- is a bet with this head a body or a branch?
abbrev pub head_used : Option BetHead → Bool
head_used (Some (Unifier n)) = false
head_used (Some (Or k)) = true
head_used (Some By) = true
head_used None = false

-- how many they are, and how many bytes they have
abbrev pub used_size : List Bet → UsedSize
used_size u = record { count = length u; length = length (each bet_bytes u) }

-- one more of so many bytes, if it is one
abbrev pub with_bet : Bool → UsedSize → ℕ → UsedSize
with_bet true u n = record { count = u.count + 1; length = u.length + n }
with_bet false u n = u

-- how many of its bytes are written, and which
abbrev pub bytes_used : Bool → ℕ → ℕ
bytes_used true n = n
bytes_used false n = 0

abbrev pub if_used : Bool → List ℕ → List ℕ
if_used true l = l
if_used false l = []
