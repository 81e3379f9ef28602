-- After the first two bytes the rest of the header is read.
use Rattle.twkb_body.proofs.Beginning.{come_same, rest_read}
use Rattle.twkb_body.proofs.HeadStands.{header_starts}
use Rattle.twkb_body.proofs.step.enter_begun.Goals as goal

pub unreachable-requires : goal.unreachable-requires
unreachable-requires g c =
    let (t, depth, before, come) = c.requires.come in
    let known = come_same _ c.announcing.result t depth 11 before c.args.cursor.now (c.is_further_boxed.ensures.0 c.if-is_further_boxed.true) c.announcing.ensures come in
    let no = (c.in_default.ensures.exact 1 before known.sound known.begins).1 (header_starts t depth before known.stands) in
    cc (no)

pub enter_headed-requires-clause-come : goal.enter_headed-requires-clause-come
enter_headed-requires-clause-come g c =
    let (t, depth, before, come) = c.requires.come in
    let known = come_same _ c.announcing.result t depth 11 before c.args.cursor.now (c.is_further_boxed.ensures.0 c.if-is_further_boxed.true) c.announcing.ensures come in
    (t, depth, before, rest_read c.announcing.result t depth before c.args.cursor.now c.take_rest.new.cursor known c.in-Ok.raw (c.in-Ok.ensures.read 1 before known.sound known.begins))

pub returns-then-is_further_boxed : goal.returns-then-is_further_boxed
returns-then-is_further_boxed g c = λ t depth before come.
    let known = come_same _ c.announcing.result t depth 11 before c.args.cursor.now (c.is_further_boxed.ensures.0 c.if-is_further_boxed.true) c.announcing.ensures come in
    c.enter_headed.ensures t depth before (rest_read c.announcing.result t depth before c.args.cursor.now c.take_rest.new.cursor known c.in-Ok.raw (c.in-Ok.ensures.read 1 before known.sound known.begins))

pub unreachable-requires-in_default-take_rest : goal.unreachable-requires-in_default-take_rest
unreachable-requires-in_default-take_rest g c =
    let (t, depth, before, come) = c.requires.come in
    let no = (c.in_default-take_rest.ensures.exact 1 before come.sound come.begins).1 (header_starts t depth before come.stands) in
    cc (no)

pub enter_headed-requires-2-clause-come : goal.enter_headed-requires-2-clause-come
enter_headed-requires-2-clause-come g c =
    let (t, depth, before, come) = c.requires.come in
    (t, depth, before, rest_read _ t depth before c.args.cursor.now c.take_rest-2.new.cursor come c.in-Ok-take_rest.raw (c.in-Ok-take_rest.ensures.read 1 before come.sound come.begins))

pub returns : goal.returns
returns g c = λ t depth before come.
    c.enter_headed-2.ensures t depth before (rest_read _ t depth before c.args.cursor.now c.take_rest-2.new.cursor come c.in-Ok-take_rest.raw (c.in-Ok-take_rest.ensures.read 1 before come.sound come.begins))
