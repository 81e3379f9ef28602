-- A blob with a vertex inside is reported, and as many bytes are read as in a scan without a directory.
use Rattle.twkb_layer.proofs.Prelude.{◌+◌, ap, arith, sym, subst, ◌∙◌, true, false, refl, Reading, added, StandsAt, cost, size_of}
use Rattle.twkb_layer.proofs.Looking.{stands_within}
use Rattle.twkb_layer.proofs.Scanning.{finds_if, passed_is}
use Rattle.twkb_layer.proofs.scans.look_up.Goals as goal

pub go_to-requires : goal.go_to-requires
go_to-requires g c = stands_within c.requires.stands.0 _ _ c.requires.stands.1

pub look-requires : goal.look-requires
look-requires g c = (c.requires.stands.0, subst (λ (r : Reading). StandsAt c.requires.stands.0 1 r.bytes r.place) (sym c.go_to.ensures) c.requires.stands.1)

pub found_blob-requires : goal.found_blob-requires
found_blob-requires g c =
    let moved = c.look.ensures.cursor c.requires.stands.0 (subst (λ (r : Reading). StandsAt c.requires.stands.0 1 r.bytes r.place) (sym c.go_to.ensures) c.requires.stands.1) in
    omega (arith, ap (λ (r : Reading). r.place) moved, ap (λ (r : Reading). r.place) c.go_to.ensures)

pub returns-then-look-clause-found : goal.returns-then-look-clause-found
returns-then-look-clause-found g c = λ tree at.
    let stands = subst (λ (r : Reading). StandsAt tree 1 r.bytes r.place) (sym c.go_to.ensures) at in
    let moved = c.look.ensures.cursor tree stands in
    let past = ap (λ (r : Reading). r.place) moved ∙ ap (λ (r : Reading). r.place + size_of tree) c.go_to.ensures in
    let hit = passed_is c.args.blob c.args.offset c.args.offset c.look.new.cursor.place (size_of tree) c.found_blob.result c.found_blob.ensures refl past in
    rw (c.report.ensures.found, c.report.ensures.room)
    (sym (finds_if g.R.FromFound.of c.args.windows.now c.args.found.now c.args.room.now c.args.blob c.args.offset tree _ (ap g.R.FromFound.of hit) true (sym c.if-look.true ∙ c.look.ensures.found tree stands)))

pub returns-else-look-clause-found : goal.returns-else-look-clause-found
returns-else-look-clause-found g c = λ tree at.
    let stands = subst (λ (r : Reading). StandsAt tree 1 r.bytes r.place) (sym c.go_to.ensures) at in
    sym (finds_if g.R.FromFound.of c.args.windows.now c.args.found.now c.args.room.now c.args.blob c.args.offset tree _ refl false (sym c.if-look.false ∙ c.look.ensures.found tree stands))

pub returns-then-look-clause-bytes : goal.returns-then-look-clause-bytes
returns-then-look-clause-bytes g c =
    let moved = c.look.ensures.cursor c.requires.stands.0 (subst (λ (r : Reading). StandsAt c.requires.stands.0 1 r.bytes r.place) (sym c.go_to.ensures) c.requires.stands.1) in
    ap (λ (r : Reading). r.bytes) moved ∙ ap (λ (r : Reading). r.bytes) c.go_to.ensures

pub returns-else-look-clause-bytes : goal.returns-else-look-clause-bytes
returns-else-look-clause-bytes g c =
    let moved = c.look.ensures.cursor c.requires.stands.0 (subst (λ (r : Reading). StandsAt c.requires.stands.0 1 r.bytes r.place) (sym c.go_to.ensures) c.requires.stands.1) in
    ap (λ (r : Reading). r.bytes) moved ∙ ap (λ (r : Reading). r.bytes) c.go_to.ensures

pub returns-then-look-clause-count : goal.returns-then-look-clause-count
returns-then-look-clause-count g c = λ tree at.
    let moved = c.look.ensures.cursor tree (subst (λ (r : Reading). StandsAt tree 1 r.bytes r.place) (sym c.go_to.ensures) at) in
    ap (λ (r : Reading). r.count) moved ∙ ap (λ (r : Reading). added r.count (cost c.args.windows.now tree)) c.go_to.ensures

pub returns-else-look-clause-count : goal.returns-else-look-clause-count
returns-else-look-clause-count g c = λ tree at.
    let moved = c.look.ensures.cursor tree (subst (λ (r : Reading). StandsAt tree 1 r.bytes r.place) (sym c.go_to.ensures) at) in
    ap (λ (r : Reading). r.count) moved ∙ ap (λ (r : Reading). added r.count (cost c.args.windows.now tree)) c.go_to.ensures
