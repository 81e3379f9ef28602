-- Two ranges, and perhaps one or two more, are a box. The fault of the first range that can't be read is the fault of the box.
use Rattle.twkb_head.proofs.Prelude.{◌≡◌, Bool, ◌&&◌, ◌||◌, true, false, is_some, Ok, Err, Some, refl, sym, ap, ◌∙◌, err_from_is_err_and, raw_bounds, bounds_from, viewed, optional_at, ℕ, ℤ, pos, Option, None, Result, Reading, span_at, ends_of, zero_range, Answer, Reader, ◌>>=◌, range_from, axis_from, two_ranges_from, two_ranges_result, IsRangeIf, Bounds, RawBox, RawRange, Malformed}
use Rattle.twkb_head.specs.declared.boxes.Span.{Span}
use Rattle.twkb_head.proofs.ranges.take_box.Goals as goal
use Rattle.twkb_head.proofs.ranges.take_box.Goals.{then-has_z-has_m+in_ok-further, else-has_z-has_m+in_ok-take_range_if}

-- the rest of a box after its ranges of X and Y, or the fault of one of these
abbrev box_after : ℤ → Option ℕ → Option ℕ → Result (RawRange × RawRange) Malformed → Reader Bounds
box_after xy z m (Err w) b = (Err w, b)
box_after xy z m (Ok both) b =
    axis_from z b >>= λ z c.
    viewed (λ m. record { x = span_at xy (ends_of both.0); y = span_at xy (ends_of both.1); z = z; m = m }) (axis_from m c)

-- the ranges of X and Y are the first two
module _ (xy : ℤ) (z m : Option ℕ) where
  abbrev end : Span → Span → Reading → Answer Bounds
  end x y b = axis_from z b >>= λ z c. viewed (λ m. record { x = x; y = y; z = z; m = m }) (axis_from m c)

  abbrev go_on : Answer ((ℤ × ℤ) × (ℤ × ℤ)) → Answer Bounds
  go_on (Ok both, b) = end (span_at xy both.0) (span_at xy both.1) b
  go_on (Err w, b) = (Err w, b)

  by_two : (r : Reading) → bounds_from xy z m r ≡ go_on (two_ranges_from r)
  unfolding bounds_from two_ranges_from
  by_two r = first (range_from r)
    where
      second : (x : ℤ × ℤ) (q : Answer (ℤ × ℤ)) → (viewed (span_at xy) q >>= λ y b. end (span_at xy x) y b) ≡ go_on (viewed (λ y. (x, y)) q)
      second x (Ok y, b) = refl
      second x (Err w, b) = refl

      first : (q : Answer (ℤ × ℤ)) → (viewed (span_at xy) q >>= λ x a. (viewed (span_at xy) (range_from a) >>= λ y b. end x y b)) ≡ go_on (q >>= λ x a. viewed (λ y. (x, y)) (range_from a))
      first (Ok x, a) = second x (range_from a)
      first (Err w, a) = refl

  flat_first : (r b : Reading) (both : Result (RawRange × RawRange) Malformed) → two_ranges_from r ≡ (two_ranges_result both, b) → bounds_from xy z m r ≡ box_after xy z m both b
  flat_first r b (Ok both) read = by_two r ∙ ap go_on read
  flat_first r b (Err w) read = by_two r ∙ ap go_on read

-- a box in units, or the fault
abbrev bounds_result : ℤ → Option ℕ → Option ℕ → Result RawBox Malformed → Result Bounds Malformed
bounds_result xy z m (Ok box) = Ok (raw_bounds xy z m box)
bounds_result xy z m (Err w) = Err w

-- the ranges of Z and M are two more
module _ (xy : ℤ) (p q : ℕ) (x y : RawRange) where
  abbrev box_of : RawRange → RawRange → RawBox
  box_of third fourth = record { x = x; y = y; third = third; fourth = fourth }

  abbrev whole : Option Span → Option Span → Bounds
  whole z m = record { x = span_at xy (ends_of x); y = span_at xy (ends_of y); z = z; m = m }

  abbrev bounds : ℤ × ℤ → ℤ × ℤ → Bounds
  bounds third fourth = whole (Some (span_at (pos p) third)) (Some (span_at (pos q) fourth))

  abbrev all : Answer ((ℤ × ℤ) × (ℤ × ℤ)) → Answer Bounds
  all (Ok both, b) = (Ok (bounds both.0 both.1), b)
  all (Err w, b) = (Err w, b)

  by_two_more : (r : Reading) → box_after xy (Some p) (Some q) (Ok (x, y)) r ≡ all (two_ranges_from r)
  unfolding two_ranges_from
  by_two_more r = first (range_from r)
    where
      second : (third : ℤ × ℤ) (a : Answer (ℤ × ℤ)) → viewed (whole (Some (span_at (pos p) third))) (viewed (λ range. Some (span_at (pos q) range)) a) ≡ all (viewed (λ fourth. (third, fourth)) a)
      second third (Ok fourth, b) = refl
      second third (Err w, b) = refl

      first : (a : Answer (ℤ × ℤ)) → (viewed (λ range. Some (span_at (pos p) range)) a >>= λ z c. viewed (whole z) (axis_from (Some q) c)) ≡ all (a >>= λ third c. viewed (λ fourth. (third, fourth)) (range_from c))
      first (Ok third, c) = second third (range_from c)
      first (Err w, c) = refl

  -- the whole box, or the fault of one of its last ranges
  four_read : (r b c : Reading) (third fourth : RawRange) → bounds_from xy (Some p) (Some q) r ≡ box_after xy (Some p) (Some q) (Ok (x, y)) b → two_ranges_from b ≡ (two_ranges_result (Ok (third, fourth)), c)
      → bounds_from xy (Some p) (Some q) r ≡ (bounds_result xy (Some p) (Some q) (Ok (box_of third fourth)), c)
  four_read r b c third fourth flat read = flat ∙ by_two_more b ∙ ap all read

  four_stop : (r b c : Reading) (w : Malformed) → bounds_from xy (Some p) (Some q) r ≡ box_after xy (Some p) (Some q) (Ok (x, y)) b → two_ranges_from b ≡ (two_ranges_result (Err w), c)
      → bounds_from xy (Some p) (Some q) r ≡ (bounds_result xy (Some p) (Some q) (Err w), c)
  four_stop r b c w flat read = flat ∙ by_two_more b ∙ ap all read

-- a box of all four axes, whatever their precisions
both_there : (xy : ℤ) (z m : Option ℕ) (r b : Reading) (box : Result RawBox Malformed) → (is_some z && is_some m) ≡ true
    → ((p q : ℕ) → bounds_from xy (Some p) (Some q) r ≡ (bounds_result xy (Some p) (Some q) box, b)) → bounds_from xy z m r ≡ (bounds_result xy z m box, b)
both_there xy (Some p) (Some q) r b box e read = read p q
both_there xy (Some p) None r b box e read = absurd (cc (e))
both_there xy None m r b box e read = absurd (cc (e))

-- the ranges of the axes that are there make a box
box_read : (xy : ℤ) (z m : Option ℕ) (box : RawBox) (r b c d : Reading) → bounds_from xy z m r ≡ box_after xy z m (Ok (box.x, box.y)) b → IsRangeIf (is_some z || is_some m) box.third b c
    → IsRangeIf (is_some z && is_some m) box.fourth c d → bounds_from xy z m r ≡ (Ok (raw_bounds xy z m box), d)
box_read xy None None box r b c d e (_, third) (_, fourth) = e ∙ rw (fourth, third) refl
box_read xy None (Some q) box r b c d e third (_, fourth) = e ∙ rw (third, fourth) refl
box_read xy (Some p) None box r b c d e third (_, fourth) = e ∙ rw (third, fourth) refl
box_read xy (Some p) (Some q) box r b c d e third fourth = e ∙ rw (third, fourth) refl

-- the fault of the first range after X and Y
third_stop : (xy : ℤ) (z m : Option ℕ) (x y : RawRange) (r b c : Reading) (w : Malformed) → (is_some z || is_some m) ≡ true
    → bounds_from xy z m r ≡ box_after xy z m (Ok (x, y)) b → range_from b ≡ (Err w, c) → bounds_from xy z m r ≡ (Err w, c)
third_stop xy None None x y r b c w some flat read = absurd (cc (some))
third_stop xy None (Some q) x y r b c w some flat read = flat ∙ rw read refl
third_stop xy (Some p) m x y r b c w some flat read = flat ∙ rw read refl

-- an axis that isn't there has no range to read
absent_range : (there : Bool) (r : Reading) → there ≡ false → IsRangeIf there zero_range r r
absent_range false r e = (refl, refl)
absent_range true r e = absurd (cc (e))

pub returns-in_err-x-clause-read : goal.returns-in_err-x-clause-read
returns-in_err-x-clause-read g c xy z m z_is m_is =
    let p = err_from_is_err_and c.from_residual.result c.from_residual.ensures.1 in
    let e = flat_first xy z m _ _ (Err _) c.in_err-x.ensures in
    rw (c.if-not-announced.false, e, p.1, p.2) refl

pub returns-in_err-further-clause-read : goal.returns-in_err-further-clause-read
returns-in_err-further-clause-read g c xy z m z_is m_is =
    let x = c.in_ok-x.x in
    let y = c.in_ok-x.y in
    let both : (is_some z && is_some m) ≡ true = rw (z_is, m_is) c.if-has_z-has_m.true in
    let p = err_from_is_err_and c.from_residual-in_err-further.result c.from_residual-in_err-further.ensures.1 in
    let e = both_there xy z m _ _ (Err _) both (λ k l. four_stop xy k l x y _ _ _ _ (flat_first xy (Some k) (Some l) _ _ (Ok (x, y)) c.in_ok-x.ensures) c.in_err-further.ensures) in
    rw (c.if-not-announced.false, e, p.1, p.2) refl

pub returns-in_err-take_range_if-clause-read : goal.returns-in_err-take_range_if-clause-read
returns-in_err-take_range_if-clause-read g c xy z m z_is m_is =
    let x = c.in_ok-x.x in
    let y = c.in_ok-x.y in
    let some : (is_some z || is_some m) ≡ true = rw (z_is, m_is) c.in_err-take_range_if.ensures.0 in
    let p = err_from_is_err_and c.from_residual-in_err-take_range_if.result c.from_residual-in_err-take_range_if.ensures.1 in
    let e = third_stop xy z m x y _ _ _ _ some (flat_first xy z m _ _ (Ok (x, y)) c.in_ok-x.ensures) c.in_err-take_range_if.ensures.1 in
    rw (c.if-not-announced.false, e, p.1, p.2) refl

pub returns-clause-read : goal.returns-clause-read
returns-clause-read g c xy z m z_is m_is =
    let x = c.in_ok-x.x in
    let y = c.in_ok-x.y in
    let join = c.if-has_z-has_m in
    let read : bounds_from xy z m c.args.cursor.now ≡ (Ok (raw_bounds xy z m (record { x = x; y = y; third = join.further.0; fourth = join.further.1 })), join.cursor) =
    elim join.branch [
      | then-has_z-has_m+in_ok-further w ↦
          let both : (is_some z && is_some m) ≡ true = rw (z_is, m_is) w.if-has_z-has_m.true in
          rw (w.further-is, w.cursor-is) (both_there xy z m _ _ (Ok _) both (λ k l. four_read xy k l x y _ _ _ _ _ (flat_first xy (Some k) (Some l) _ _ (Ok (x, y)) c.in_ok-x.ensures) w.in_ok-further.ensures))
      | else-has_z-has_m+in_ok-take_range_if w ↦
          let one : (is_some z && is_some m) ≡ false = rw (z_is, m_is) w.if-has_z-has_m.false in
          rw (w.further-is, w.cursor-is) (box_read xy z m _ _ _ _ _ (flat_first xy z m _ _ (Ok (x, y)) c.in_ok-x.ensures) (rw (sym z_is, sym m_is) at w.in_ok-take_range_if.ensures) (absent_range _ _ one))
    ] in
    ap (λ (b : Bool). optional_at b (bounds_from xy z m) c.args.cursor.now) c.if-not-announced.false ∙ ap (viewed Some) read
