use Rattle.std.specs.Prelude.{◌≡◌, ◌||◌, leb}
use Rattle.std.proofs.Common.{refl, ◌∙◌, arith}
use borrow.Author.Tests.{le-leb, lt-leb}
use Rattle.reader.specs.Emit.TurnsLaws.{turns_symbol}
use Rattle.reader.proofs.emit.emit_symbol.Goals.{then-count-ge-MANY, else-count-ge-MANY}
use Rattle.reader.proofs.emit.emit_symbol.Goals as goal

pub returns : goal.returns
returns c =
    let p = c.push_symbol-next.ensures in
    let over : c.if-count-ge-MANY.result ≡ (leb 17 c.args.count || c.args.e.over)
    = elim c.if-count-ge-MANY.branch [
      | then-count-ge-MANY w ↦ w.result-is ∙ rw (le-leb 17 c.args.count (omega (arith, w.if-count-ge-MANY.true))) refl
      | else-count-ge-MANY w ↦ w.result-is ∙ rw (lt-leb 17 c.args.count (omega (arith, w.if-count-ge-MANY.false))) refl
    ] in
    (p.keeps, p.lower, λ k same counts brackets. turns_symbol k same counts brackets c.args.name p (rw over refl))
