-- After its name the range is the two numbers.
use Rattle.twkb_layer.proofs.Texts.{reads_named}
use Rattle.twkb_layer.proofs.text_reader.TextReader.range.Goals as goal

pub returns-then-skip : goal.returns-then-skip
returns-then-skip c = reads_named c.args.name.now c.args.self.now c.skip.new.self c.span.new.self c.span.result c.if-skip.ensures.taken (λ behind e. (c.if-skip.ensures.exact behind e).1) c.span.ensures.some c.span.ensures.exact
