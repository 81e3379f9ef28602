-- A fraction is a point and digits; without a digit after the point there is none.
use Rattle.twkb_layer.proofs.Prelude.{◌∙◌, sym}
use Rattle.twkb_layer.proofs.Texts.{fraction_once, fraction_parts, rest_behind}
use Rattle.twkb_layer.proofs.text_reader.TextReader.fraction.Goals as goal

pub returns-then-has_fraction-clause-parts : goal.returns-then-has_fraction-clause-parts
returns-then-has_fraction-clause-parts c =
    rw (← c.self.view_is) (fraction_parts c.self.inside.rest.now c.digits.result.now c.digits.new.self (sym c.has_fraction.ensures ∙ c.if-has_fraction.true) (sym (rest_behind c.self.inside.rest.now) ∙ c.digits.ensures.parts) c.digits.ensures.most)

pub returns-then-has_fraction-clause-exact : goal.returns-then-has_fraction-clause-exact
returns-then-has_fraction-clause-exact c = λ digits behind e h stop.
    fraction_once c.self.inside.rest.now _ _ digits behind (sym c.has_fraction.ensures ∙ c.if-has_fraction.true) (sym (rest_behind c.self.inside.rest.now) ∙ c.digits.ensures.parts) c.digits.ensures.digits c.digits.ensures.most
    (rw (← c.self.view_is) at e) h stop
