-- A list with ids and one without are read as the reader reads them.
use Rattle.twkb_body.proofs.Prelude.{None, sym, ap, subst, refl, ◌∙◌, signeds_at, rest, Stopped, list_at, named, HasManyIds, HasManyIdsAfterCount, first, HasStopped}
use Rattle.twkb_body.proofs.Noting.{first_none}
use Rattle.twkb_body.proofs.Stopping.{stops_outside}
use Rattle.twkb_body.proofs.ListSteps.{list_without, list_with, list_fails, list_wants}
use Rattle.twkb_body.proofs.lists.take_list.Goals as goal

pub returns-in-Err-take_ids : goal.returns-in-Err-take_ids
returns-in-Err-take_ids g c =
    subst (λ (s : Stopped). HasStopped (list_at c.args.has_ids c.args.cursor.now) (HasManyIdsAfterCount c.args.has_ids (rest c.args.cursor.now)) c.args.cursor.now s c.take_ids.new.cursor) (sym c.stop-in-Err-take_ids.ensures)
    (stops_outside (signeds_at c.in-Ok.count c.take_number.new.cursor) (list_at c.args.has_ids c.args.cursor.now) (HasManyIds c.in-Ok.count (rest c.take_number.new.cursor)) (HasManyIdsAfterCount c.args.has_ids (rest c.args.cursor.now)) c.take_number.new.cursor c.args.cursor.now _ _
    (λ m f. list_fails _ _ c.in-Ok.count c.in-Ok.ensures c.args.has_ids _ m c.if-has_ids.true f)
    (λ bytes many. list_wants _ _ c.in-Ok.count c.in-Ok.ensures c.args.has_ids c.take_ids.new.cursor c.place_is_within.ensures c.if-has_ids.true bytes many)
    c.in-Err-take_ids.ensures)

pub returns-in-Ok-take_ids : goal.returns-in-Ok-take_ids
returns-in-Ok-take_ids g c =
    let t = c.in-Ok-take_ids.ensures in
    let list = list_with _ _ c.in-Ok.count c.in-Ok.ensures c.args.has_ids t.0 _ c.in-Ok-take_ids.distinct (named c.claimed.result) c.place-offset.result c.if-has_ids.true t.1 t.2 c.place-offset.ensures.value c.claimed.ensures in
    let before = named c.args.pass.now.refused in (
      list.0,
      list.1,
      (
        record { count = c.in-Ok.count; ids = named c.claimed.result },
        list.2,
        refl,
        c.note.ensures before None c.is_refused-was_refused.ensures (sym (first_none before)) ∙ ap (first before) (first_none (named c.claimed.result)),
      ),
    )

pub returns-else-has_ids : goal.returns-else-has_ids
returns-else-has_ids g c =
    let list = list_without _ _ c.in-Ok.count c.in-Ok.ensures c.args.has_ids c.if-has_ids.false in
    (list.0, list.1, (record { count = c.in-Ok.count; ids = None }, list.2, refl, sym (first_none (named c.args.pass.now.refused))))
