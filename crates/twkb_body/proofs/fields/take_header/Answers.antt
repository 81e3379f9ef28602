-- A header that begins with two bytes that were read: it is read to its end, or once more from its start to name a field.
use Rattle.twkb_body.proofs.Prelude.{◌≡◌, ◌-◌, sym, ap, subst, arith, Reading, StartsWithHeader, two_back}
use Rattle.twkb_body.proofs.Beginning.{announced_same}
use Rattle.twkb_body.proofs.Rereading.{same_rest}
use Rattle.twkb_body.proofs.fields.take_header.Goals as goal

pub stop_at_header-requires-clause-malformed : goal.stop_at_header-requires-clause-malformed
stop_at_header-requires-clause-malformed g c = λ starts.
    let (before, read) = c.requires.read in
    let place : c.place-start.result - 2 ≡ before.place = omega (arith, c.place-start.ensures.value, two_back before c.args.cursor.now _ _ read.moved read.two) in
    let rest_is = same_rest before (record c.args.cursor.now { place = c.place-start.result - 2 }) read.moved.bytes place in
    let no = c.in_default.ensures.none before read.sound read.moved read.two (subst (StartsWithHeader c.args.depth) rest_is starts) in
    cc (no)

pub returns-in_default-clause-stopped : goal.returns-in_default-clause-stopped
returns-in_default-clause-stopped g c = λ before read.
    c.stop_at_header.ensures.stopped before (sym read.moved.bytes) (omega (arith, c.place-start.ensures.value, two_back before c.args.cursor.now _ _ read.moved read.two)) read.sound

pub stop_at_header-requires-in_default-take_rest-clause-malformed : goal.stop_at_header-requires-in_default-take_rest-clause-malformed
stop_at_header-requires-in_default-take_rest-clause-malformed g c = λ starts.
    let (before, read) = c.requires.read in
    let begins = c.in-Some.ensures.some before read.sound read.moved read.two in
    let known = announced_same c.in-Some.begun c.announcing-known.result c.args.depth c.announced.result before c.args.cursor.now (omega (arith, c.in-Some.ensures.metadata, c.announced.ensures)) c.announcing-known.ensures begins in
    let refused = c.in_default-take_rest.ensures.read c.args.depth before read.sound known in
    let place : c.place-start.result - 2 ≡ before.place = omega (arith, c.place-start.ensures.value, two_back before c.args.cursor.now _ _ read.moved read.two) in
    let rest_is = same_rest before (record c.take_rest.new.cursor { place = c.place-start.result - 2 }) (ap (λ (r : Reading). r.bytes) refused.1) place in
    cc ((c.in_default-take_rest.ensures.exact c.args.depth before read.sound known).1 (subst (StartsWithHeader c.args.depth) rest_is starts))

pub returns-in_default-take_rest-clause-stopped : goal.returns-in_default-take_rest-clause-stopped
returns-in_default-take_rest-clause-stopped g c = λ before read.
    let begins = c.in-Some.ensures.some before read.sound read.moved read.two in
    let known = announced_same c.in-Some.begun c.announcing-known.result c.args.depth c.announced.result before c.args.cursor.now (omega (arith, c.in-Some.ensures.metadata, c.announced.ensures)) c.announcing-known.ensures begins in
    let refused = c.in_default-take_rest.ensures.read c.args.depth before read.sound known in
    c.stop_at_header-in_default-take_rest.ensures.stopped before (sym (ap (λ (r : Reading). r.bytes) refused.1)) (omega (arith, c.place-start.ensures.value, two_back before c.args.cursor.now _ _ read.moved read.two)) read.sound

pub returns-clause-ok : goal.returns-clause-ok
returns-clause-ok g c = λ before read.
    let begins = c.in-Some.ensures.some before read.sound read.moved read.two in
    let known = announced_same c.in-Some.begun c.announcing-known.result c.args.depth c.announced.result before c.args.cursor.now (omega (arith, c.in-Some.ensures.metadata, c.announced.ensures)) c.announcing-known.ensures begins in
    c.in-Ok.ensures.read c.args.depth before read.sound known
