-- Where no members follow, the place is the geometry's end, and the size leads there.
use Rattle.twkb_body.proofs.Prelude.{◌≡◌, ℕ, ◌+◌, Option, Some, None, IfSome, refl, sym, ap, ◌∙◌, arith, SizeField, head_said, member_count, Config}
use Rattle.std.specs.Prelude.{option_map}
use Rattle.twkb_body.proofs.Headers.{sized_end}
use Rattle.twkb_body.proofs.HeadStands.{hop_fits}
use Rattle.twkb_body.proofs.Remaining.{none_left}
use Rattle.twkb_body.proofs.step.enter_headed.Goals as goal

pub end_by_size-stop-requires : goal.end_by_size-stop-requires
end_by_size-stop-requires g c =
    let (t, depth, before, come) = c.requires.come in
    hop_fits t depth before _ (head_said c.args.raw.now) come.sound come.stands come.at come.moved

-- an end by a size is this place, if each size leads there
ends_at : (size : Option SizeField) (stop : Option ℕ) (place : ℕ) → stop ≡ option_map (λ size. size.after + size.value) size
    → ((one : SizeField) → size ≡ Some one → one.after + one.value ≡ place) → IfSome stop (λ end. end ≡ place)
ends_at None stop place is leads = rw is tt
ends_at (Some one) stop place is leads = rw is (leads one refl)

pub go_on_after-requires : goal.go_on_after-requires
go_on_after-requires g c = λ last.
    let (t, depth, before, come) = c.requires.come in
    let entered = c.enter_after_header-members.ensures t depth before come in
    let none : member_count entered.below ≡ 0 = sym entered.count ∙ last in
    let end = ap (λ (d : Config g.V.Visit.State). d.reading.place) (none_left _ _ _ _ none ∙ entered.left) in
    ends_at c.args.raw.now.size c.end_by_size-stop.result _ c.end_by_size-stop.ensures
    (λ one is. omega (arith, (sized_end t depth before c.args.cursor.now c.args.raw.now one come is).stop, end))

pub returns : goal.returns
returns g c = λ t depth before come. rw c.go_on_after.ensures (c.enter_after_header-members.ensures t depth before come)
