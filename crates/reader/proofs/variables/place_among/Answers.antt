use Rattle.std.proofs.Common.{◌≡◌, sym, ◌∙◌, arith, length}
use Rattle.records.specs.Ends.Range.{cut}
use Rattle.reader.specs.Items.Variables.{range_words, RangesInside}
use Rattle.reader.specs.Items.VariablesLaws.{place_other, place_found, place_end, length_words, range_word_at}
use Rattle.reader.proofs.variables.place_among.Goals as goal

pub same_range-requires-clause-inside_2 : goal.same_range-requires-clause-inside_2
unfolding RangesInside
same_range-requires-clause-inside_2 c = c.requires.ranges_inside c.loop-j.j _ c.loop-j-test.true

pub returns-then-same_range : goal.returns-then-same_range
returns-then-same_range c =
    let s = c.args.s.now in
    let vs = range_words s c.args.met.now in
    let j = c.loop-j.j in
    place_found (cut s c.args.w) vs j (omega (arith, length_words s c.args.met.now)) c.loop-j.invariant (rw (range_word_at s c.args.met.now j (record { from = 0; to = 0 }) c.loop-j-test.true) (sym c.same_range.ensures ∙ c.if-same_range.true))

pub loop-j-preserved : goal.loop-j-preserved
loop-j-preserved c =
    let s = c.args.s.now in
    let vs = range_words s c.args.met.now in
    let j = c.loop-j.j in
    place_other (cut s c.args.w) vs j (omega (arith, length_words s c.args.met.now)) c.loop-j.invariant (rw (range_word_at s c.args.met.now j (record { from = 0; to = 0 }) c.loop-j-test.true) (sym c.same_range.ensures ∙ c.if-same_range.false))

pub returns : goal.returns
returns c =
    let s = c.args.s.now in
    let vs = range_words s c.args.met.now in
    let e : c.loop-j.j ≡ length vs = omega (arith, length_words s c.args.met.now) in
    sym (length_words s c.args.met.now) ∙ place_end (cut s c.args.w) vs (rw e at c.loop-j.invariant)
