-- After the first step, skimming the members leads to where the whole skim leads.
use Rattle.twkb_body.proofs.Prelude.{◌≡◌, ◌∙◌, arith, member_count}
use Rattle.twkb_body.proofs.Remaining.{none_left}
use Rattle.twkb_body.proofs.headed.skim_headed.Goals as goal

pub enter_headed-members-requires-clause-come : goal.enter_headed-members-requires-clause-come
enter_headed-members-requires-clause-come g c = (c.requires.read.0, 1, c.requires.read.1, c.requires.read.2)

pub skim_members-requires : goal.skim_members-requires
skim_members-requires g c =
    let e = c.enter_headed-members.ensures c.requires.read.0 1 c.requires.read.1 c.requires.read.2 in
    (e.below, e.count, e.stand)

pub returns-then-members-gt0 : goal.returns-then-members-gt0
returns-then-members-gt0 g c = λ t before read.
    let e = c.enter_headed-members.ensures t 1 before read in
    c.skim_members.ensures e.below e.count e.stand ∙ e.left

pub returns-else-members-gt0 : goal.returns-else-members-gt0
returns-else-members-gt0 g c = λ t before read.
    let e = c.enter_headed-members.ensures t 1 before read in
    let zero : member_count e.below ≡ 0 = omega (arith, e.count) in
    none_left _ _ _ _ zero ∙ e.left
