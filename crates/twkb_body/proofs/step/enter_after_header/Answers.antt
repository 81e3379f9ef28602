-- Each end of a step is on the way of the walk: hopped over, empty, or before its body.
use Rattle.twkb_body.proofs.Prelude.{◌≡◌, ℕ, Bool, false, None, sym, subst, Reading, passed, IsHeadAt, head_said, fields_box, Head, Fields, Bounds, Geometry, full_head, hop_of, IsBehind}
use Rattle.std.specs.Prelude.{option_map}
use Rattle.twkb_body.specs.Devices.Skimmed.{HasRead}
use Rattle.twkb_body.proofs.HeadStands.{hop_fits, hop_within, enter_hops, enter_empty}
use Rattle.twkb_body.proofs.step.enter_after_header.Goals as goal

pub hop-requires-clause-fits : goal.hop-requires-clause-fits
hop-requires-clause-fits g c =
    let come = c.requires.come in
    hop_fits come.0 come.1 come.2 _ (head_said c.args.raw.now) come.3.sound come.3.stands come.3.at come.3.moved

pub go_to-requires : goal.go_to-requires
go_to-requires g c =
    let come = c.requires.come in
    hop_within g.V.Visit.step g.V.Visit.passes _ come.0 come.1 come.2 _ (head_said c.args.raw.now) _ come.3.stands come.3.at come.3.moved (sym c.in-Some.ensures)

pub returns-in-Some : goal.returns-in-Some
returns-in-Some g c = λ t depth before come.
    enter_hops g.V.Visit.step g.V.Visit.passes _ g.met.V.Visit.sound t depth before _ _ (head_said c.args.raw.now) _ come.stands come.at come.moved (sym c.in-Some.ensures) c.go_to.ensures

pub returns-then-raw : goal.returns-then-raw
returns-then-raw g c = λ t depth before come.
    enter_empty g.V.Visit.step g.V.Visit.passes _ t depth before _ (head_said c.args.raw.now) come.stands come.at come.moved (sym c.in_default.ensures) c.if-raw.true

-- the header of a geometry that isn't hopped over, as far as its body depends on it
behind : (passes : Bounds → Bool) (raw : Fields) (now : Reading) (g : Geometry) (depth : ℕ) (before : Reading) → HasRead raw now g depth before → None ≡ hop_of passes (head_said raw).size (head_said raw).bounds → raw.empty ≡ false → IsBehind passes raw.kind raw.axes raw.ids now g depth before
behind passes raw now g depth before come stays full =
    let same : head_said raw ≡ full_head raw.kind raw.axes raw.ids raw.size (option_map (fields_box raw) raw.bounds) raw.start raw.stop = λ j. record (head_said raw) { empty = full j } in
    record {
      size = raw.size;
      bounds = option_map (fields_box raw) raw.bounds;
      start = raw.start;
      stop = raw.stop;
      stands = come.stands;
      sound = come.sound;
      at = subst (λ (h : Head). IsHeadAt h 1 before.place (passed before now)) same come.at;
      moved = come.moved;
      stays = sym stays;
    }

pub enter_body-requires-clause-behind : goal.enter_body-requires-clause-behind
enter_body-requires-clause-behind g c =
    let (t, depth, before, come) = c.requires.come in
    (t, depth, before, behind _ c.args.raw.now c.args.cursor.now t depth before come c.in_default.ensures c.if-raw.false)

pub returns : goal.returns
returns g c = λ t depth before come.
    c.enter_body.ensures t depth before (behind _ c.args.raw.now c.args.cursor.now t depth before come c.in_default.ensures c.if-raw.false)
