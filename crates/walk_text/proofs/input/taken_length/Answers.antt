use Rattle.std.proofs.Common.{◌≡◌, ◌+◌, min, length, arith, rules}
use Rattle.walk_text.specs.InputLaws.{named_most, taken_length}
use Rattle.walk_text.proofs.input.taken_length.Goals as goal

pub overflow_add-named : goal.overflow_add-named
overflow_add-named c = omega (arith, c.named.ensures, named_most c.args.input.now)

pub returns-clause-value : goal.returns-clause-value
returns-clause-value c =
    let least : c.min.result ≡ min (length c.args.input.now) (2 + c.named.result) = search rules in
    omega (arith, least, c.named.ensures, taken_length c.args.input.now)
