-- The text that was passed is the word.
use Rattle.twkb_layer.proofs.Prelude.{Some, None, Decides-eqb}
use Rattle.std.proofs.lemmas.Slice.Eq.{strip_prefix_is}
use Rattle.twkb_layer.proofs.text_reader.TextReader.skip.Goals as goal

pub returns-in-Some-clause-taken : goal.returns-in-Some-clause-taken
returns-in-Some-clause-taken c = rw (← c.self.view_is) (strip_prefix_is Decides-eqb c.self.inside.rest.now c.args.word.now (Some c.in-Some.rest) c.in-Some.ensures.cases)

pub returns-in-None-clause-exact : goal.returns-in-None-clause-exact
returns-in-None-clause-exact c = λ behind e. absurd (strip_prefix_is Decides-eqb c.self.inside.rest.now c.args.word.now None c.in-None.ensures.cases behind (rw (← c.self.view_is) at e))
