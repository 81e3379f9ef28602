-- A point whose fields can be read is certified exactly if its size is true; one whose fields can't be read is no blob.
use Rattle.twkb_body.proofs.Prelude.{◌≡◌, ◌++◌, true, false, inl, inr, ℕ, List, Bool, Option, Some, None, is_some, refl, sym, ap, subst, ◌∙◌, arith, rules, Reading, rest, ReadsNumbers, is_collection, has_bit, head_said, RawBox, FalseClaim, Geometry, Blob, StandsAt, named, size_judged, IsCertifiedBy}
use Rattle.std.proofs.Common.{◌⊎◌, ◌+◌, ◌-◌, ◌%◌, ◌^◌, ◌≤◌, ◌<◌}
use Rattle.std.specs.Prelude.{IfSome}
use Rattle.std.proofs.lemmas.Bool.Decides.{eqb_tells}
use Rattle.twkb_head.specs.declared.header.SizeField.{SizeField}
use Rattle.twkb_body.specs.Devices.Pass.{false_at}
use Rattle.twkb_body.specs.Devices.FlatPoint.{IsOnePoint}
use Rattle.twkb_body.proofs.FlatPoints.{point_certified, point_refused}
use Rattle.twkb_body.proofs.HeadFacts.{head_size}
use Rattle.twkb_body.proofs.HeadStands.{header_starts, shape_stands}
use Rattle.twkb_body.proofs.NumberRuns.{two_are}
use Rattle.twkb_body.proofs.PointShapes.{point_stands}
use Rattle.twkb_body.proofs.flat_point.pass_point.Goals as goal

-- a blob that is certified, in tight checking too, stands at the place
stands : (tight : Bool) (g : Geometry) (r : Reading) (front behind : List ℕ) → rest r ≡ front ++ behind → Blob g front 1 → IsCertifiedBy tight g → StandsAt g 1 r.bytes r.place
stands true g r front behind split blob certified = record { front = front; behind = behind; there = split; blob = blob; start = 0; certified = λ k d h. (certified k d h).0 }
stands false g r front behind split blob certified = record { front = front; behind = behind; there = split; blob = blob; start = 0; certified = certified }

-- no field but a size is announced
no_more : (metadata : ℕ) → (metadata ≡ 2) ⊎ (metadata ≡ 0) → (has_bit metadata 8 ≡ false) × (has_bit metadata 16 ≡ false) × (has_bit metadata 1 ≡ false)
no_more metadata (inl e) = rw e (refl, refl, refl)
no_more metadata (inr e) = rw e (refl, refl, refl)

-- whether something is judged false
judged_true : (o : Option FalseClaim) → is_some o ≡ false → named o ≡ None
judged_true None none = refl
judged_true (Some claim) none = absurd (cc none)

judged_false : (o : Option FalseClaim) → is_some o ≡ true → (claim : FalseClaim) × (o ≡ Some claim)
judged_false None some = absurd (cc some)
judged_false (Some claim) some = (claim, refl)

-- a true size claims this end
ended : (o : Option SizeField) (stop end : ℕ) → IfSome o (λ s. s.after ≤ stop) → stop < 2 ^ 64 → size_judged o stop ≡ None
    → ((field : SizeField) → o ≡ Some field → end ≡ (field.after + field.value) % 2 ^ 64) → IfSome o (λ s. end ≡ stop)
ended None stop end before fits judged is = tt
ended (Some s) stop end before fits judged is = elim (eqb_tells s.value (stop - s.after)) [
  | inl same ↦ omega (arith, is s refl, same.1, before, fits)
  | inr other ↦ absurd (cc (ap (λ (b : Bool). false_at b s.offset 6) other.0, judged))
]

pub returns-in_default-clause-refused : goal.returns-in_default-clause-refused
returns-in_default-clause-refused c = λ is_not before sound begins tight g front behind split blob certified.
    absurd (cc ((c.in_default.ensures.exact 1 before sound begins).1 (header_starts g 1 before (stands tight g before front behind split blob certified))))

pub returns-in_default-clause-bytes : goal.returns-in_default-clause-bytes
returns-in_default-clause-bytes c =
    let (before, sound, begins) = c.requires.begun in
    ap (λ (r : Reading). r.bytes) (c.in_default.ensures.read 1 before sound begins).1 ∙ sym begins.moved.bytes

pub returns-in_default-svarints-clause-refused : goal.returns-in_default-svarints-clause-refused
returns-in_default-svarints-clause-refused c = λ is_not before sound begins tight g front behind split blob certified.
    let more = no_more c.args.begun.metadata c.requires.point.fields in
    let head = head_said c.in-Ok.raw in
    let h = c.in-Ok.ensures.read 1 before sound begins in
    let point = c.in-Ok.ensures.kind ∙ c.requires.point.point in
    let flat = c.in-Ok.ensures.flat more.0 in
    let (body, stop, e) = shape_stands g 1 before c.take_rest.new.cursor head sound (stands tight g before front behind split blob certified) h.0 h.1 (c.in-Ok.ensures.empty ∙ more.1) (ap is_collection point) in
    point_stands head c.take_rest.new.cursor point flat.0 flat.1 c.svarints.new.self stop body c.in_default-svarints.field-0 c.place_is_within.ensures e c.in_default-svarints.ensures.err

pub returns-in_default-svarints-clause-bytes : goal.returns-in_default-svarints-clause-bytes
returns-in_default-svarints-clause-bytes c =
    let (before, sound, begins) = c.requires.begun in
    let h = c.in-Ok.ensures.read 1 before sound begins in
    let stops = c.in_default-svarints.ensures.err in
    ap (λ (r : Reading). r.bytes) stops.stops.1 ∙ stops.read.moved.bytes ∙ h.1.bytes ∙ sym begins.moved.bytes

pub judge_size-requires : goal.judge_size-requires
judge_size-requires c =
    let (before, sound, begins) = c.requires.begun in
    let h = c.in-Ok.ensures.read 1 before sound begins in
    head_size before c.take_rest.new.cursor (head_said c.in-Ok.raw) 1 h.0 h.1 _ (omega (arith, c.place.ensures.value, c.in-Ok-svarints.ensures.ok.moved.ahead))

pub go_on_from_end-requires : goal.go_on_from_end-requires
go_on_from_end-requires c =
    let (before, sound, begins) = c.requires.begun in
    let h = c.in-Ok.ensures.read 1 before sound begins in
    let there = head_size before c.take_rest.new.cursor (head_said c.in-Ok.raw) 1 h.0 h.1 c.place.result (omega (arith, c.place.ensures.value, c.in-Ok-svarints.ensures.ok.moved.ahead)) in
    let judged = sym c.judge_size.ensures ∙ judged_true c.judge_size.result (sym c.is_some.ensures ∙ c.if-is_some.false) in
    subst (λ (stop : ℕ). IfSome c.in-Ok.raw.size (λ s. c.claimed_end-end.result ≡ stop)) c.place.ensures.value
    (ended c.in-Ok.raw.size c.place.result c.claimed_end-end.result there c.place.type_inv judged c.claimed_end-end.ensures)

pub returns-clause-certified : goal.returns-clause-certified
returns-clause-certified c = λ is before sound begins tight.
    let more = no_more c.args.begun.metadata c.requires.point.fields in
    let head = head_said c.in-Ok.raw in
    let h = c.in-Ok.ensures.read 1 before sound begins in
    let flat = c.in-Ok.ensures.flat more.0 in
    let no_box = ap (λ (o : Option RawBox). (head_said (record c.in-Ok.raw { bounds = o })).bounds) (c.in-Ok.ensures.no_box more.2) in
    let read = subst (ReadsNumbers c.take_rest.new.cursor c.svarints.new.self) (two_are c.in-Ok-svarints._point (search rules)) c.in-Ok-svarints.ensures.ok in
    subst (IsOnePoint tight before) (sym c.go_on_from_end.ensures)
    (point_certified tight before c.take_rest.new.cursor c.svarints.new.self sound head h.0 h.1 c.place_is_within.ensures (c.in-Ok.ensures.kind ∙ c.requires.point.point) flat.0 flat.1 no_box (c.in-Ok.ensures.empty ∙ more.1) _ _ read
    (sym (ap (size_judged head.size) c.place.ensures.value) ∙ sym c.judge_size.ensures ∙ judged_true c.judge_size.result (sym c.is_some.ensures ∙ c.if-is_some.false)))

pub returns-then-is_some-clause-refused : goal.returns-then-is_some-clause-refused
returns-then-is_some-clause-refused c = λ is_not before sound begins tight.
    let more = no_more c.args.begun.metadata c.requires.point.fields in
    let head = head_said c.in-Ok.raw in
    let h = c.in-Ok.ensures.read 1 before sound begins in
    let flat = c.in-Ok.ensures.flat more.0 in
    let no_box = ap (λ (o : Option RawBox). (head_said (record c.in-Ok.raw { bounds = o })).bounds) (c.in-Ok.ensures.no_box more.2) in
    let read = subst (ReadsNumbers c.take_rest.new.cursor c.svarints.new.self) (two_are c.in-Ok-svarints._point (search rules)) c.in-Ok-svarints.ensures.ok in
    let (claim, judged) = judged_false c.judge_size.result (sym c.is_some.ensures ∙ c.if-is_some.true) in
    point_refused tight before c.take_rest.new.cursor c.svarints.new.self sound head h.0 h.1 c.place_is_within.ensures (c.in-Ok.ensures.kind ∙ c.requires.point.point) flat.0 flat.1 no_box (c.in-Ok.ensures.empty ∙ more.1) _ _ read
    claim c.judge_size.result judged (c.judge_size.ensures ∙ ap (size_judged head.size) c.place.ensures.value)

pub returns-then-is_some-clause-bytes : goal.returns-then-is_some-clause-bytes
returns-then-is_some-clause-bytes c =
    let (before, sound, begins) = c.requires.begun in
    let h = c.in-Ok.ensures.read 1 before sound begins in
    c.in-Ok-svarints.ensures.ok.moved.bytes ∙ h.1.bytes ∙ sym begins.moved.bytes

pub returns-clause-bytes : goal.returns-clause-bytes
returns-clause-bytes c =
    let (before, sound, begins) = c.requires.begun in
    let h = c.in-Ok.ensures.read 1 before sound begins in
    ap (λ (r : Reading). r.bytes) c.go_on_from_end.ensures ∙ c.in-Ok-svarints.ensures.ok.moved.bytes ∙ h.1.bytes ∙ sym begins.moved.bytes
