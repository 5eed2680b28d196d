-- Bytes in hexadecimal.
use Rattle.std.specs.Prelude.{ℕ, ◌/◌, ◌%◌, List, [], ◌∷◌}
use Rattle.io.specs.Digits.{hex_digit_ascii}

-- two digits for each byte, in lower case
abbrev pub hex_digits : List ℕ → List ℕ
hex_digits [] = []
hex_digits (b ∷ bytes) = hex_digit_ascii (b / 16) ∷ hex_digit_ascii (b % 16) ∷ hex_digits bytes
