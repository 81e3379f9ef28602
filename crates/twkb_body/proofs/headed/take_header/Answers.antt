-- The first two bytes were read, and then the rest.
use Rattle.twkb_body.proofs.Prelude.{HasCome}
use Rattle.twkb_body.proofs.Beginning.{come_same, rest_read}
use Rattle.twkb_body.proofs.HeadStands.{header_starts}
use Rattle.twkb_body.proofs.headed.take_header.Goals as goal

pub unreachable-requires : goal.unreachable-requires
unreachable-requires c = let no = c.in_default.ensures.none (header_starts c.requires.0 1 c.args.cursor.now c.requires.1) in cc (no)

pub unreachable-requires-in_default-take_rest : goal.unreachable-requires-in_default-take_rest
unreachable-requires-in_default-take_rest c =
    let (g, at) = c.requires in
    let known = come_same _ c.announcing.result g 1 3 c.args.cursor.now _ (c.is_flat_boxed.ensures.0 c.if-is_flat_boxed.true) c.announcing.ensures (record { stands = at; sound = c.place_is_within.ensures; begins = c.in-Some.ensures.some }) in
    let no = (c.in_default-take_rest.ensures.exact 1 c.args.cursor.now known.sound known.begins).1 (header_starts g 1 c.args.cursor.now at) in
    cc (no)

pub returns-then-is_flat_boxed-clause-read : goal.returns-then-is_flat_boxed-clause-read
returns-then-is_flat_boxed-clause-read c = λ g at.
    let known = come_same _ c.announcing.result g 1 3 c.args.cursor.now _ (c.is_flat_boxed.ensures.0 c.if-is_flat_boxed.true) c.announcing.ensures (record { stands = at; sound = c.place_is_within.ensures; begins = c.in-Some.ensures.some }) in
    rest_read c.announcing.result g 1 c.args.cursor.now _ c.take_rest.new.cursor known c.in-Ok.header (c.in-Ok.ensures.read 1 c.args.cursor.now known.sound known.begins)

pub unreachable-requires-in_default-take_rest-2 : goal.unreachable-requires-in_default-take_rest-2
unreachable-requires-in_default-take_rest-2 c =
    let (g, at) = c.requires in
    let known = come_same _ c.announcing-then-is_sized_point.result g 1 2 c.args.cursor.now _ (c.is_sized_point.ensures.0 c.if-is_sized_point.true).0 c.announcing-then-is_sized_point.ensures (record { stands = at; sound = c.place_is_within.ensures; begins = c.in-Some.ensures.some }) in
    let no = (c.in_default-take_rest-2.ensures.exact 1 c.args.cursor.now known.sound known.begins).1 (header_starts g 1 c.args.cursor.now at) in
    cc (no)

pub returns-then-is_sized_point-clause-read : goal.returns-then-is_sized_point-clause-read
returns-then-is_sized_point-clause-read c = λ g at.
    let known = come_same _ c.announcing-then-is_sized_point.result g 1 2 c.args.cursor.now _ (c.is_sized_point.ensures.0 c.if-is_sized_point.true).0 c.announcing-then-is_sized_point.ensures (record { stands = at; sound = c.place_is_within.ensures; begins = c.in-Some.ensures.some }) in
    rest_read c.announcing-then-is_sized_point.result g 1 c.args.cursor.now _ c.take_rest-then-is_sized_point.new.cursor known c.in-Ok-take_rest.header (c.in-Ok-take_rest.ensures.read 1 c.args.cursor.now known.sound known.begins)

pub unreachable-requires-in_default-take_rest-3 : goal.unreachable-requires-in_default-take_rest-3
unreachable-requires-in_default-take_rest-3 c =
    let (g, at) = c.requires in
    let come : HasCome c.in-Some.begun _ g 1 c.args.cursor.now = record { stands = at; sound = c.place_is_within.ensures; begins = c.in-Some.ensures.some } in
    let no = (c.in_default-take_rest-3.ensures.exact 1 c.args.cursor.now come.sound come.begins).1 (header_starts g 1 c.args.cursor.now at) in
    cc (no)

pub returns-clause-read : goal.returns-clause-read
returns-clause-read c = λ g at.
    let come : HasCome c.in-Some.begun _ g 1 c.args.cursor.now = record { stands = at; sound = c.place_is_within.ensures; begins = c.in-Some.ensures.some } in
    rest_read c.in-Some.begun g 1 c.args.cursor.now _ c.take_rest-2.new.cursor come c.in-Ok-take_rest-2.header (c.in-Ok-take_rest-2.ensures.read 1 c.args.cursor.now come.sound come.begins)
