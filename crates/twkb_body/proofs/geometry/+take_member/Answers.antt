-- The passes over a collection and over its members, each by the other: header, body, then the judging of claims.
use Rattle.twkb_body.proofs.Prelude.{rules, ◌≡◌, ◌+◌, ◌-◌, suc, Bool, None, not, ◌==◌, ℕ, refl, sym, ap, subst, ◌∙◌, arith, err_from_is_err_and, rest, Head, deepest, IsAllowedAt, head_said, HasLongList, no_body, members_body, members_of, list_at, geometry_at, members_under, Found, named, HasManyIdsAfterCount, Inside, of_head, Refused, first, in_units, HasSeen, WantsInside}
use Rattle.std.proofs.Common.{◌||◌}
use Rattle.twkb_body.specs.Devices.Stops.{own_ids, member_ids}
use Rattle.twkb_body.proofs.Ending.{body_stops, body_ends, collection_stops}
use Rattle.twkb_body.proofs.ExtentJudging.{box_there, nothing_judged}
use Rattle.twkb_body.proofs.GeometrySteps.{empty_body, nothing_found, nothing_inside}
use Rattle.twkb_body.proofs.HeadFacts.{head_size}
use Rattle.twkb_body.proofs.MemberSteps.{collection_at, collection_below, collection_body, members_read, members_begin, members_go_on, members_fail, members_end, no_list, no_member, collection_gives, members_inside, member_bytes}
use Rattle.twkb_body.proofs.Noting.{first_none, first_assoc}
use Rattle.twkb_body.proofs.SeenRuns.{in_units_none}
use Rattle.twkb_body.proofs.Stopping.{stops_outside}
use Rattle.twkb_body.proofs.geometry.+take_member.Goals as goal

-- ---- take_collection
pub take_collection-take_members-requires : goal.take_collection-take_members-requires
take_collection-take_members-requires g t c =
    let (before, read) = c.requires.read in
    let at = (c.in_ok-raw.ensures.ok before read).0 in
    let allowed = subst (λ (h : Head). IsAllowedAt h.kind c.args.depth) (sym at.fields) at.allowed in
    let many = c.in_ok-raw.ensures.collection ∙ c.requires.collection in
    search rules

pub take_collection-returns-in_err-vertices : goal.take_collection-returns-in_err-vertices
take_collection-returns-in_err-vertices g t c = λ before read.
    let h = c.in_ok-raw.ensures.ok before read in
    let p = err_from_is_err_and c.from_residual-in_err-vertices.result c.from_residual-in_err-vertices.ensures.1 in
    rw p.1 (body_stops (not (g.row.TIGHT == 0)) c.args.depth c.requires.shallowest c.requires.deepest before c.take_header.new.cursor read.sound (head_said c.in_ok-raw.raw) h.0 h.1 c.take_members.new.pass.stopped c.take_members.new.cursor
    c.in_err-vertices.ensures)

pub take_collection-judge_size-requires : goal.take_collection-judge_size-requires
take_collection-judge_size-requires g t c =
    let (before, read) = c.requires.read in
    let h = c.in_ok-raw.ensures.ok before read in
    head_size before c.take_header.new.cursor (head_said c.in_ok-raw.raw) c.args.depth h.0 h.1 _ (omega (arith, c.place.ensures.value, c.in_ok-vertices.ensures.2.1.few))

pub take_collection-returns : goal.take_collection-returns
take_collection-returns g t c = λ before read.
    let h = c.in_ok-raw.ensures.ok before read in
    let ended = c.in_ok-vertices.ensures in
    rw (sym c.in_ok-raw.ensures.same) (body_ends (not (g.row.TIGHT == 0)) c.args.depth c.requires.shallowest c.requires.deepest before c.take_header.new.cursor read.sound (head_said c.in_ok-raw.raw) h.0 h.1 (HasSeen c.args.seen.now c.take_members.new.seen) ended.0 c.take_members.new.cursor
    ended.2.0 ended.1 ended.2.1 c.is_refused-was_refused.result (named c.take_header.new.pass.refused) c.take_members.new.pass c.note.new.self (named c.judge_size.result) c.in_ok-vertices.vertices c.place.result
    c.is_refused-was_refused.ensures ended.2.3 c.note.ensures c.judge_size.ensures c.place.ensures.value ended.2.2)

-- ---- take_members
pub take_members-returns-then-raw : goal.take_members-returns-then-raw
take_members-returns-then-raw g t c =
    let head = head_said c.args.raw.now in
    let saw = subst (HasSeen c.args.seen.now c.show.new.self) (ap (in_units c.args.raw.now.axes) c.empty.ensures ∙ in_units_none c.args.raw.now.axes) c.show.ensures in (
      no_body,
      empty_body (of_head head) (members_under (deepest - c.args.depth)) c.args.cursor.now c.if-raw.true,
      (
        nothing_found,
        nothing_inside (not (g.row.TIGHT == 0)) (of_head head) head.bounds c.args.cursor.now.place (HasSeen c.args.seen.now c.show.new.self) saw (sym (nothing_judged (not (g.row.TIGHT == 0)) (of_head head) head.bounds)),
        refl,
        sym (first_none (named c.args.pass.now.refused)),
      ),
    )

pub take_members-returns-in_err-count : goal.take_members-returns-in_err-count
take_members-returns-in_err-count g t c =
    let p = err_from_is_err_and c.from_residual.result c.from_residual.ensures.1 in
    let inner = deepest - (c.args.depth + 1) in
    let head = head_said c.args.raw.now in
    let a = c.args.cursor.now in
    let below = collection_below head.kind c.args.depth c.requires.allowed c.requires.collection in
    rw p.1 (collection_stops (deepest - c.args.depth) c.args.depth inner head a (omega (arith, below)) refl c.if-raw.false c.requires.collection c.take_list.new.pass.stopped c.take_list.new.cursor
    (stops_outside (list_at head.ids a) (collection_at (geometry_at inner) head.ids a) (HasManyIdsAfterCount head.ids (rest a)) (WantsInside c.args.depth inner head.ids a) a a _ _
    (λ m f. no_list inner head.ids _ m _ f) (λ bytes wants. (bytes, own_ids wants)) c.in_err-count.ensures))

pub take_members-loop-init : goal.take_members-loop-init
take_members-loop-init g t c = (
  None,
  sym (first_none (named c.take_list.new.pass.refused)),
  members_begin (not (g.row.TIGHT == 0)) (deepest - (c.args.depth + 1)) c.in_ok-count.count c.take_list.new.cursor c.for_members-below.result.asked (record { vertices = 0; refused = None }) c.for_members-below.result refl refl refl
      c.for_members-below.ensures.extent,
)

pub take_members-take_member-requires : goal.take_members-take_member-requires
take_members-take_member-requires g t c =
    let below = collection_below c.args.raw.now.kind c.args.depth c.requires.allowed c.requires.collection in
    search rules

pub take_members-returns-in_err-member : goal.take_members-returns-in_err-member
take_members-returns-in_err-member g t c =
    let p = err_from_is_err_and c.from_residual-in_err-member.result c.from_residual-in_err-member.ensures.1 in
    let inner = deepest - (c.args.depth + 1) in
    let head = head_said c.args.raw.now in
    let a = c.args.cursor.now in
    let below = collection_below head.kind c.args.depth c.requires.allowed c.requires.collection in
    let list = c.in_ok-count.ensures in
    let (refused, noted, l) = c.loop.invariant in
    rw p.1 (collection_stops (deepest - c.args.depth) c.args.depth inner head a (omega (arith, below)) refl c.if-raw.false c.requires.collection c.take_member.new.pass.stopped c.take_member.new.cursor
    (stops_outside (geometry_at inner c.loop.cursor) (collection_at (geometry_at inner) head.ids a) (HasLongList (c.args.depth + 1) (rest c.loop.cursor)) (WantsInside c.args.depth inner head.ids a) c.loop.cursor a _ c.take_member.new.cursor
    (λ m f. no_member inner head.ids _ c.take_list.new.cursor list.0 list.1 c.in_ok-count.count (list.2.2 ∙ list.2.1.count) m _
    (members_fail (not (g.row.TIGHT == 0)) inner c.in_ok-count.count c.take_list.new.cursor c.for_members-below.result.asked c.loop.counter (members_read (record { vertices = c.loop.vertices; refused = refused }) c.loop.below c.loop.cursor) _ m c.loop-test.true f l))
    (λ bytes wants. (
      bytes ∙ member_bytes inner head.ids _ c.take_list.new.cursor c.loop.cursor list.0 c.loop.counter l.front c.place_is_within.ensures list.1 l.so_far,
      member_ids list.0 c.take_list.new.cursor c.loop.cursor c.loop.counter l.front list.1 (omega (arith, c.loop-test.true, list.2.2, list.2.1.count)) l.so_far wants,
    ))
    c.in_err-member.ensures))

pub take_members-overflow_add-vertices : goal.take_members-overflow_add-vertices
take_members-overflow_add-vertices g t c =
    let (refused, noted, l) = c.loop.invariant in
    let read = c.in_ok-member.ensures in
    omega (arith, l.few, read.2.1.few, read.2.3, c.place_is_within-in-loop.ensures.within, c.place_is_within-in-loop.ensures.length_fits)

pub take_members-loop-preserved : goal.take_members-loop-preserved
take_members-loop-preserved g t c =
    let (refused, noted, l) = c.loop.invariant in
    let read = c.in_ok-member.ensures in
    let found : Found = read.2.0 in
    let start = named c.take_list.new.pass.refused in (
      first refused found.refused,
      read.2.4 ∙ ap (λ (r : Refused). first r found.refused) noted ∙ first_assoc start refused found.refused,
      members_go_on (not (g.row.TIGHT == 0)) (deepest - (c.args.depth + 1)) c.in_ok-count.count c.take_list.new.cursor c.for_members-below.result.asked c.loop.counter (members_read (record { vertices = c.loop.vertices; refused = refused }) c.loop.below c.loop.cursor)
          (members_read (record { vertices = c.loop.vertices + c.in_ok-member.member; refused = first refused found.refused }) c.take_member.new.seen c.take_member.new.cursor)
          found read.0 c.loop-test.true read.1 (read.2.1, read.2.2) (ap (λ (n : ℕ). c.loop.vertices + n) read.2.3) refl l,
    )

pub take_members-returns : goal.take_members-returns
take_members-returns g t c =
    let inner = deepest - (c.args.depth + 1) in
    let head = head_said c.args.raw.now in
    let a = c.args.cursor.now in
    let below = collection_below head.kind c.args.depth c.requires.allowed c.requires.collection in
    let under : deepest - c.args.depth ≡ suc inner = omega (arith, below) in
    let list = c.in_ok-count.ensures in
    let (refused, noted, l) = c.loop.invariant in
    let found : Found = record { vertices = c.loop.vertices; refused = refused } in
    let claim = named c.judge_members.result in
    let inside : Inside = record { found = found; boxed = claim; ids = list.2.0.ids } in
    let read = members_end (not (g.row.TIGHT == 0)) inner c.in_ok-count.count c.take_list.new.cursor c.for_members-below.result.asked c.loop.counter (members_read found c.loop.below c.loop.cursor) (omega arith) l in
    let outer = named c.args.pass.now.refused in
    let so_far = noted ∙ ap (λ (r : Refused). first r refused) list.2.3 ∙ first_assoc outer list.2.0.ids refused in (
      members_body list.0 (members_of l.front),
      collection_body (deepest - c.args.depth) inner (of_head head) a under c.if-raw.false c.requires.collection ∙ collection_gives inner head.ids a c.take_list.new.cursor list.0 list.1 c.in_ok-count.count (list.2.2 ∙ list.2.1.count) l.front _ read,
      (
        inside,
        members_inside (not (g.row.TIGHT == 0)) inner c.in_ok-count.count c.take_list.new.cursor c.for_members-below.result.asked c.loop.counter c.loop.below c.loop.cursor (of_head head) head.bounds a list.0 list.2.0 inside _ _ list.2.1 refl
            (c.for_members-below.ensures.asked ∙ ap (λ (b : Bool). c.args.seen.now.asked || b) (c.is_some.ensures ∙ box_there c.args.raw.now)) c.judge_members.ensures c.show_all.ensures l,
        refl,
        c.note.ensures outer (first list.2.0.ids refused) c.requires.refused so_far,
      ),
    )
