-- What cannot be: true is not false, so anything follows. `never cc` stands where two constructors would be one, `never h` where a test is both.
use Rattle.std.specs.Prelude.{◌≡◌, true, false}
use Rattle.std.proofs.Common.{true≢false}

pub never {ℓ} : {A : Type ℓ} → true ≡ false → A
never h = absurd (true≢false h)
