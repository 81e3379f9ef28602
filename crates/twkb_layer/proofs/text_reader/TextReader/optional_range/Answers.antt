-- With the name there is a range; without it there is none.
use Rattle.twkb_layer.proofs.Prelude.{Option, Some, None, ap, sym, ◌∙◌, Span}
use Rattle.twkb_layer.proofs.Texts.{named_is, optional_there}
use Rattle.twkb_layer.proofs.text_reader.TextReader.optional_range.Goals as goal

pub returns-in_err-span-clause-exact : goal.returns-in_err-span-clause-exact
returns-in_err-span-clause-exact c = λ front behind span e n stop other.
    let t = optional_there c.args.name.now c.args.self.now c.skip.new.self c.span.new.self None c.if-skip.ensures.taken (λ rest f. (c.if-skip.ensures.exact rest f).1) c.in_err-span.ensures.exact front behind span e n stop other in
    absurd (let no = t.2 in cc (no))

pub returns-in_ok-span-clause-some : goal.returns-in_ok-span-clause-some
returns-in_ok-span-clause-some c = named_is c.args.name.now c.args.self.now c.skip.new.self c.span.new.self c.in_ok-span.field-0 c.if-skip.ensures.taken c.in_ok-span.ensures.some

pub returns-in_ok-span-clause-exact : goal.returns-in_ok-span-clause-exact
returns-in_ok-span-clause-exact c = λ front behind span e n stop other.
    let t = optional_there c.args.name.now c.args.self.now c.skip.new.self c.span.new.self (Some c.in_ok-span.field-0) c.if-skip.ensures.taken (λ rest f. (c.if-skip.ensures.exact rest f).1) c.in_ok-span.ensures.exact front behind span e n stop other in
    (ap (λ (o : Option Span). Some o) (t.2 ∙ sym t.1), t.3)
