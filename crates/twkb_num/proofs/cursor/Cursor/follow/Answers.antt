-- The count is computed from the place.
use Rattle.twkb_num.proofs.Prelude.{◌≡◌, ap, sym, subst, Reading, IsMoved}
use Rattle.twkb_num.proofs.CursorLemmas.{moved_by_place}
use Rattle.twkb_num.proofs.cursor.Cursor.follow.Goals as goal

pub returns : goal.returns
returns c =
    let there : c.ahead.inside.place ≡ c.args.ahead.now.place = ap (λ (r : Reading). r.place) c.ahead.view_is in
    let inside = c.self.inside in
    let moved = moved_by_place inside.bytes.now inside.place inside.start inside.counted_before c.args.ahead.now c.self.invariant.0 (subst (λ (r : Reading). IsMoved r c.args.ahead.now) (sym c.self.view_is) c.requires) in
    rw there (sym moved)
