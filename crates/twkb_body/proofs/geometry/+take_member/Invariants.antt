-- The first false claim so far is the first of the members read; each step of the recursion comes nearer to the deepest level.
use Rattle.twkb_body.proofs.Prelude.{◌≡◌, ◌+◌, ◌-◌, ◌*◌, not, ◌==◌, deepest, named, Refused, first}
use Rattle.twkb_body.proofs.MemberSteps.{IsMemberLoop, members_read}
use Rattle.twkb_body.proofs.geometry.+take_member.Given as goal

-- a collection reads its members a level below, and its own body at its level
abbrev pub decreases-take_collection : goal.decreases-take_collection
decreases-take_collection g l = 3 * (deepest - l.depth) + 1

abbrev pub decreases-take_member : goal.decreases-take_member
decreases-take_member g l = 3 * (deepest - l.depth) + 2

abbrev pub decreases-take_members : goal.decreases-take_members
decreases-take_members g l = 3 * (deepest - l.depth)

abbrev pub invariant-take_members-loop : goal.invariant-take_members-loop
invariant-take_members-loop g l =
    (refused : Refused) × (named l.pass.refused ≡ first (named l.initial.pass.refused) refused)
    × IsMemberLoop (not (g.row.TIGHT == 0)) (deepest - (l.depth + 1)) l.count l.initial.cursor l.initial.below.asked l.counter
    (members_read (record { vertices = l.vertices; refused = refused }) l.below l.cursor)
