-- The readers, the unifier and the bodies of the desk keep the laws that it rests on.
use Rattle.records.specs.Gate.GateLaws.{program_tree, query_tree, event_tree, event_read}
use Rattle.terms.specs.Theory.OutcomeLaws.{unified_formed, unified_rules}
use Rattle.terms.specs.Body.BodyLaws.{body_formed}
use Rattle.stepper.specs.Services.Layers.{Lawful}
use Rattle.stepper.specs.Rules.FormedLaws.{bets_formed}
use Rattle.stepper.specs.Services.Desk.{layers}

pub lawful : Lawful layers
lawful = record {
  program_read = λ s b P h. let r = program_tree s b P h in (r.formed, r.keeps);
  query_read = λ s b g h. (query_tree s b g h).formed;
  event_read = λ s b e h. let r = event_tree s b e h in (r.laid, (r.formed, r.keeps), r.short);
  event_back = λ e f n. event_read e f.0 f.1 n;
  unifier_sound = λ s l r m f h k e. (unified_formed s l r m e (bets_formed s f) h k, unified_rules s l r m e);
  body_formed = λ P p ts u s g f a b d e. body_formed P p ts u s g f.0.1 f.1 a e;
}
