-- What may follow a goal and its parts: a token of rank 0 or the end follows a goal, one of at most 1 a conjunction, one of at most 2 a primary.
use Rattle.std.specs.Prelude.{ℕ, List, [], ◌∷◌}
use Rattle.text.specs.Grammar.{Token}
use Rattle.text.specs.Grammar.Token.{bare, functor, opening, closing, comma, semicolon, equals, neck, stop, wrong}

abbrev pub follower_rank : List Token → ℕ
follower_rank [] = 0
follower_rank (stop ∷ r) = 0
follower_rank (closing ∷ r) = 0
follower_rank (semicolon ∷ r) = 1
follower_rank (comma ∷ r) = 2
follower_rank (bare w ∷ r) = 3
follower_rank (functor w ∷ r) = 3
follower_rank (opening ∷ r) = 3
follower_rank (equals ∷ r) = 3
follower_rank (neck ∷ r) = 3
follower_rank (wrong ∷ r) = 3
