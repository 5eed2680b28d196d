use Rattle.std.proofs.Common.{◌≡◌, refl, sym, ◌∙◌, [], arith, length, length-set}
use Rattle.std.proofs.lemmas.Bool.{false≢true}
use Rattle.reader.specs.Items.VariablesLaws.{inside_none, numbering_start, numbering_more, numbering_over, numbering_end}
use Rattle.reader.proofs.variables.number_variables.Goals as goal

pub loop-k-init : goal.loop-k-init
loop-k-init c = record { within = omega arith; few = omega arith; kept = refl; room = refl; inside = inside_none _; numbering = λ is l. numbering_start l _ [] }

pub number_item-n-requires : goal.number_item-n-requires
number_item-n-requires c =
    let inv = c.loop-k.invariant in
    let next = c.next_token-t.ensures in
    record { inside = record { order = next.ends; stop = omega (arith, next.follows, next.within) }; n_bound = (omega arith, omega arith); ranges_inside = inv.inside }

pub returns-then-met-gt-MOST_VARIABLES : goal.returns-then-met-gt-MOST_VARIABLES
returns-then-met-gt-MOST_VARIABLES c =
    let inv = c.loop-k.invariant in
    record {
      over = λ is l. numbering_over l (inv.numbering is l) c.next_token-t.ensures (omega arith) c.number_item-n.ensures (omega arith);
      table = λ is l e. absurd (false≢true (sym e));
      kept = inv.kept;
    }

pub loop-k-preserved : goal.loop-k-preserved
loop-k-preserved c =
    let loop = c.loop-k in
    let inv = loop.invariant in
    let numbered = c.number_item-n.ensures in
    record {
      within = c.next_token-t.ensures.within;
      few = omega arith;
      kept = length-set loop.variables loop.k c.number_item-n.result.number ∙ inv.kept;
      room = numbered.kept ∙ inv.room;
      inside = numbered.inside (omega arith);
      numbering = λ is l. numbering_more l (inv.numbering is l) c.next_token-t.ensures (omega arith) numbered (omega arith) (omega arith);
    }

pub returns : goal.returns
returns c =
    let inv = c.loop-k.invariant in
    let e : c.loop-k.k ≡ length c.args.roles.now = omega arith in
    record { over = λ is l. numbering_end l (rw e at (inv.numbering is l)); table = λ is l q. rw e at (inv.numbering is l).table; kept = inv.kept }
