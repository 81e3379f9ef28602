-- Field after field, the code answers what the reader answers.
use Rattle.twkb_head.proofs.Prelude.{◌≡◌, Option, Some, None, option_map, is_some, IsSome, refl, sym, ap, ◌∙◌, Ok, Err, arith, ints, to_z, of_z, w8, Reading, Bounds, Head, RawBox, has_bit, z_in, m_in, Answer, viewed}
use Rattle.twkb_head.proofs.HeadSteps.{size_and_box_is, box_seen}
use Rattle.twkb_head.proofs.read.take_size_and_box.Goals as goal

pub returns-clause-read : goal.returns-clause-read
returns-clause-read g c =
    let b2 : c.has_bit.result ≡ has_bit c.args.begun.metadata 2 = c.has_bit.ensures in
    let b1 : c.has_bit-2.result ≡ has_bit c.args.begun.metadata 1 = c.has_bit-2.ensures in
    let fits : to_z w8 (of_z w8 c.args.begun.xy) ≡ c.args.begun.xy = omega (arith, ints) in
    let h4 = rw b2 at c.in_ok-size.ensures in
    let z : c.z_of-z.result ≡ z_in c.args.extended = c.z_of-z.ensures.value in
    let m : c.m_of-m.result ≡ m_in c.args.extended = c.m_of-m.ensures.value in
    let h5 = rw b1 at c.in_ok-bounds.ensures.read c.args.begun.xy (z_in c.args.extended) (m_in c.args.extended) (ap is_some (sym z) ∙ sym c.is_some.ensures) (ap is_some (sym m) ∙ sym c.is_some-2.ensures) in
    let size = rw (c.place-size_place.ensures.value, c.place-box_place.ensures.value) at c.size_field.ensures in
    let is = size_and_box_is _ _ _ _ _ _ c.args.extended _ _ c.args.begun.start h4 h5 in
    is ∙ ap (λ (h : Head). (Ok h, c.take_box.new.cursor)) (λ j. record {
      kind = c.args.begun.kind;
      xy = sym fits j;
      z = sym z j;
      m = sym m j;
      size = sym size j;
      bounds = box_seen c.args.begun.xy _ (z_in c.args.extended) _ (m_in c.args.extended) _ _ _ (sym fits) (sym z) (sym m) (sym c.place-box_place.ensures.value) c.in_ok-bounds.bounds j;
      ids = sym c.ids_of.ensures j;
      empty = sym c.has_bit-3.ensures j;
      start = c.args.begun.start;
      stop = sym c.place.ensures.value j;
    })

pub returns-clause-no_box : goal.returns-clause-no_box
returns-clause-no_box g c unset = c.in_ok-bounds.ensures.none (c.has_bit-2.ensures ∙ unset)

-- a box that was read is there
there : (a : Answer Bounds) (f : RawBox → Bounds) (box : Option RawBox) (new : Reading) → viewed Some a ≡ (Ok (option_map f box), new) → IsSome box
there a f (Some box) new is = refl
there (Ok x, b) f None new is = let same = ap (λ (z : Answer (Option Bounds)). z.0) is in absurd (cc (same))
there (Err m, b) f None new is = let same = ap (λ (z : Answer (Option Bounds)). z.0) is in absurd (cc (same))

pub returns-clause-boxed : goal.returns-clause-boxed
returns-clause-boxed g c set =
    let is = c.in_ok-bounds.ensures.read c.args.begun.xy c.z_of-z.result c.m_of-m.result (sym c.is_some.ensures) (sym c.is_some-2.ensures) in
    there _ _ c.in_ok-bounds.bounds _ (rw (c.has_bit-2.ensures ∙ set) at is)
