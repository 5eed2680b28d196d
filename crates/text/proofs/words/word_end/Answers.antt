use Rattle.std.proofs.Common.{rules, arith, ◌≡◌, ◌∙◌, refl, true, false, drop}
use Rattle.std.proofs.lemmas.Iterator.{YieldsList-from_slice, IsFirst-from_position}
use borrow.Author.Tests.{tests}
use Rattle.text.specs.Grammar.{alphanumeric}
use Rattle.text.specs.Tokens.WordsLaws.{rest_whole, run_found, run_all, run_word}
use Rattle.text.proofs.words.word_end.Goals as goal

pub returns-in-Some : goal.returns-in-Some
returns-in-Some c =
    let f = IsFirst-from_position _ _ c.position.result (λ b. alphanumeric b ≡ false) (λ b. alphanumeric b ≡ true) c.position.ensures.ran (YieldsList-from_slice (drop c.args.at c.args.s.now) (c.iter.ensures.rest ∙ rest_whole c.args.s.now c.args.at)) (λ x q k. search (rules, tests)) (λ x q k. search (rules, tests)) in
    run_word (run_found alphanumeric c.args.s.now c.args.at c.in-Some.n c.requires (rw c.in-Some.is at f)) refl

pub returns-in-None : goal.returns-in-None
returns-in-None c =
    let f = IsFirst-from_position _ _ c.position.result (λ b. alphanumeric b ≡ false) (λ b. alphanumeric b ≡ true) c.position.ensures.ran (YieldsList-from_slice (drop c.args.at c.args.s.now) (c.iter.ensures.rest ∙ rest_whole c.args.s.now c.args.at)) (λ x q k. search (rules, tests)) (λ x q k. search (rules, tests)) in
    run_word (run_all alphanumeric c.args.s.now c.args.at c.requires (rw c.in-None.is at f)) (omega arith)
