-- Points that can be read are passed as numbers. Points that change no state may be passed.
use Rattle.twkb_body.proofs.Prelude.{◌≡◌, ℕ, Option, Some, None, zero, suc, ◌+◌, ◌-◌, ◌*◌, ◌^◌, ◌<◌, ◌≤◌, List, [], ◌∷◌, ◌++◌, length, length-append, fold, ℤ, Ok, Err, refl, ap, sym, subst, ◌∙◌, arith, Reading, passed, IsMoved, IsSound, PassesNumbers, StopsAmong, StopsAt, Spells, SpellsAll, zigzag_value, NumFault, IsMoved-two, IsMoved-here, IsMoved-after, IsSound-moved, axes_with, Answer, Reader, many_at, signed_at, after_all, IsLoop, loop_begins, loop_fails, loop_ends, behind_front, ok_not_err, one_answer, no_failure, why_of, read_signed, read_no_signed, signed_moved, Trail, PointValue, first_of, behind, add, sums, point_at, HaveAxes, lasts_from, IsStill, common_steps}
use Rattle.twkb_body.proofs.Coordinates.{coordinate_ahead, signed_back}
use Rattle.twkb_body.proofs.Runs.{IsRun, values_of, goes_far}
use Rattle.twkb_body.proofs.Sums.{after_points}
use Rattle.twkb_body.proofs.Tracing.{many_back, point_back}
use Rattle.twkb_body.proofs.Walks.{walked_then}

-- ---- numbers, one after another
-- n signed numbers, read one after another, lead from one reading to another
abbrev pub NumbersLead : ℕ → Reading → Reading → Type 0
NumbersLead zero r stop = r ≡ stop
NumbersLead (suc n) r stop = (z : ℤ) × (mid : Reading) × (signed_at r ≡ (Ok z, mid)) × NumbersLead n mid stop

-- some numbers and then more are all of them
NumbersLead-append : (n m : ℕ) (r mid stop : Reading) → NumbersLead n r mid → NumbersLead m mid stop → NumbersLead (n + m) r stop
NumbersLead-append zero m r mid stop here more =
    let same : 0 + m ≡ m = omega arith in
    rw same (subst (λ (q : Reading). NumbersLead m q stop) (sym here) more)
NumbersLead-append (suc n) m r mid stop (z, q, one, others) more =
    let next : suc n + m ≡ suc (n + m) = omega arith in
    rw next (z, q, one, NumbersLead-append n m q mid stop others more)

-- after the first numbers the others lead on to the end of all
numbers_rest : (n m : ℕ) (r mid stop : Reading) → n ≤ m → NumbersLead n r mid → NumbersLead m r stop → NumbersLead (m - n) mid stop
numbers_rest zero m r mid stop le here all =
    let same : m - 0 ≡ m = omega arith in
    rw same (subst (λ (q : Reading). NumbersLead m q stop) here all)
numbers_rest (suc n) zero r mid stop le some all = absurd (omega (arith, le))
numbers_rest (suc n) (suc m) r mid stop le (z, q, one, others) (y, t, first, rest) =
    let less : suc m - suc n ≡ m - n = omega arith in
    let same : q ≡ t = (one_answer (signed_at r) z y q t one first).1 in
    rw less (numbers_rest n m q mid stop (omega (arith, le)) others (subst (λ (p : Reading). NumbersLead m p stop) (sym same) rest))

-- a move past no bytes leaves the reading as it is
pub moved_none : (r new : Reading) → IsSound r → IsMoved r new → passed r new ≡ [] → r ≡ new
moved_none r new sound moved none =
    let long : length (passed r new) ≡ new.place - r.place = grind (arith, common_steps, moved.within) in
    let here : r.place ≡ new.place = omega (arith, long, ap length none, moved.ahead) in
    let count : r.count ≡ new.count = omega (arith, moved.count, here, sound.count_fits) in
    λ j. record { bytes = sym moved.bytes j; place = here j; count = count j }

-- the first of many numbers that one move passes
peel : (r new : Reading) (n : ℕ) (ns : List ℕ) → SpellsAll (passed r new) (n ∷ ns) → IsMoved r new
    → (mid : Reading) × IsMoved r mid × IsMoved mid new × Spells (passed r mid) n × SpellsAll (passed mid new) ns
peel r new n ns (front, rest, whole, first, all) moved =
    let way = IsMoved-two r new front rest moved whole in (
      way.0,
      way.1,
      way.2,
      subst (λ (bs : List ℕ). Spells bs n) (sym way.3) first,
      subst (λ (bs : List ℕ). SpellsAll bs ns) (sym way.4) all,
    )

-- numbers that are spelled are read
spelled_lead : (ns : List ℕ) (r new : Reading) → IsSound r → SpellsAll (passed r new) ns → IsMoved r new → NumbersLead (length ns) r new
spelled_lead [] r new sound spelled moved = moved_none r new sound moved spelled
spelled_lead (n ∷ ns) r new sound spelled moved =
    let (mid, there, on, first, others) = peel r new n ns spelled moved in
    (zigzag_value n, mid, read_signed r mid (zigzag_value n) (n, first, refl) there, spelled_lead ns mid new (IsSound-moved r mid sound there) others on)

-- numbers that lead on move ahead
numbers_moved : (n : ℕ) (r stop : Reading) → IsSound r → NumbersLead n r stop → IsMoved r stop
numbers_moved zero r stop sound here = subst (IsMoved r) here (IsMoved-here r sound)
numbers_moved (suc n) r stop sound (z, mid, one, others) =
    let there = signed_moved r mid z sound one in
    IsMoved-after r mid stop there (numbers_moved n mid stop (IsSound-moved r mid sound there) others)

-- a point that is read is a number for each axis
pub point_numbers : (axes : ℕ) (s : PointValue) (r mid : Reading) (p : PointValue) → point_at axes s r ≡ (Ok p, mid) → NumbersLead axes r mid
point_numbers zero s r mid p e = ap (λ (a : Answer PointValue). a.1) e
point_numbers (suc axes) s r mid p e =
    let b = point_back axes s r mid p e in
    (b.first, b.middle, signed_back (first_of s) r b.middle b.first b.one, point_numbers axes (behind s) b.middle mid b.others b.rest)

-- points that are read are a number for each axis of each
points_numbers : (axes count : ℕ) (s : PointValue) (r stop : Reading) (ps : List PointValue) → many_at count add (point_at axes) s r ≡ (Ok ps, stop) → NumbersLead (count * axes) r stop
points_numbers axes zero s r stop ps e = let none : 0 * axes ≡ 0 = omega arith in rw none (ap (λ (a : Answer (List PointValue)). a.1) e)
points_numbers axes (suc count) s r stop ps e =
    let b = many_back add (point_at axes) count s r stop ps e in
    let all : suc count * axes ≡ axes + count * axes = omega arith in
    rw all (NumbersLead-append axes (count * axes) r b.middle stop (point_numbers axes s r b.middle b.first b.one) (points_numbers axes count (add s b.first) b.middle stop b.others b.rest))

-- ---- numbers that are passed by one call
passes_lead : (many : ℕ) (r mid : Reading) → IsSound r → PassesNumbers many r mid → NumbersLead many r mid
passes_lead many r mid sound passes = subst (λ (n : ℕ). NumbersLead n r mid) passes.count (spelled_lead passes.numbers r mid sound passes.spelled passes.moved)

-- where there is a fault, no number can be read
pub no_number : (b c mid : Reading) (fault : NumFault) (z : ℤ) → StopsAt b c fault → signed_at b ≡ (Ok z, mid) → ⊥
no_number b c mid fault z stops e = ok_not_err z (record { offset = c.place; why = why_of fault }) mid c (sym e ∙ read_no_signed b c fault (record { offset = c.place; why = why_of fault }) stops.0 stops.1 refl refl)

no_number_leads : (left : ℕ) (b c stop : Reading) (fault : NumFault) → 0 < left → StopsAt b c fault → NumbersLead left b stop → ⊥
no_number_leads zero b c stop fault some stops lead = omega (arith, some)
no_number_leads (suc n) b c stop fault some stops (z, mid, one, others) = no_number b c mid fault z stops one

-- points that can be read are passed without a fault
pub points_stand : (axes count : ℕ) (s : PointValue) (r new stop : Reading) (ps : List PointValue) (fault : NumFault) → IsSound r → StopsAmong (count * axes) r new fault → many_at count add (point_at axes) s r ≡ (Ok ps, stop) → ⊥
points_stand axes count s r new stop ps fault sound f e =
    no_number_leads (count * axes - f.before) f.middle new stop fault (omega (arith, f.fewer)) f.stops
    (numbers_rest f.before (count * axes) r f.middle stop (omega (arith, f.fewer)) (passes_lead f.before r f.middle sound f.numbers) (points_numbers axes count s r stop ps e))

-- and this leads to their end
pub points_passed : (axes count : ℕ) (s : PointValue) (r new stop : Reading) (ps : List PointValue) → IsSound r → PassesNumbers (count * axes) r new → many_at count add (point_at axes) s r ≡ (Ok ps, stop) → new ≡ stop
points_passed axes count s r new stop ps sound passes e =
    let none : count * axes - count * axes ≡ 0 = omega arith in
    subst (λ (n : ℕ). NumbersLead n new stop) none
    (numbers_rest (count * axes) (count * axes) r new stop (omega arith) (passes_lead (count * axes) r new sound passes) (points_numbers axes count s r stop ps e))

-- ---- values that are read one after another
module _ {A S : Type 0} (after : S → A → S) (each : S → Reader A) (count : ℕ) where
  -- if all values are read, the next one is
  pub next_read : (total : Answer (List A)) (front : List A) (i : ℕ) (s : S) (r stop : Reading) (xs : List A) → total ≡ (Ok xs, stop) → i < count → IsLoop after each count total front i s r
      → (x : A) × (mid : Reading) × (each s r ≡ (Ok x, mid))
  next_read total front i s r stop xs e lt l = go (each s r) refl
    where
      go : (a : Answer A) → each s r ≡ a → (x : A) × (mid : Reading) × (each s r ≡ (Ok x, mid))
      go (Err m, q) is = absurd (no_failure total xs stop q m e (loop_fails after each count total front i s r q m lt (record { left = q; is = is; bytes = refl }) l))
      go (Ok x, q) is = (x, q, is)

  -- if all values are read, the values that are left are
  pub rest_read : (total : Answer (List A)) (front : List A) (i : ℕ) (s : S) (r stop : Reading) (xs : List A) → total ≡ (Ok xs, stop) → IsLoop after each count total front i s r
      → (ys : List A) × (many_at (count - i) after each s r ≡ (Ok ys, stop)) × (front ++ ys ≡ xs)
  rest_read total front i s r stop xs e l = go (many_at (count - i) after each s r) refl (l.is ∙ e)
    where
      go : (a : Answer (List A)) → many_at (count - i) after each s r ≡ a → behind_front front a ≡ (Ok xs, stop) → (ys : List A) × (many_at (count - i) after each s r ≡ (Ok ys, stop)) × (front ++ ys ≡ xs)
      go (Err m, q) is e = absurd (ok_not_err xs m stop q (sym e))
      go (Ok ys, q) is e =
          let there : q ≡ stop = ap (λ (a : Answer (List A)). a.1) e in
          (ys, is ∙ ap (λ (z : Reading). (Ok ys, z)) there, ap values_of e)

-- ---- points that are read
pub record IsPoint (axes : ℕ) (r mid : Reading) (p : PointValue) : Type 0 where
  pub number : length p ≡ axes
  pub ahead : axes + r.place ≤ mid.place

pub point_is : (axes : ℕ) (s : PointValue) (r mid : Reading) (p : PointValue) → point_at axes s r ≡ (Ok p, mid) → IsPoint axes r mid p
point_is zero s r mid p e =
    let here : r.place ≡ mid.place = ap (λ (a : Answer PointValue). a.1.place) e in
    let none : [] ≡ p = ap values_of e in
    record { number = ap length (sym none); ahead = omega (arith, here) }
point_is (suc axes) s r mid p e =
    let b = point_back axes s r mid p e in
    let one = point_is axes (behind s) b.middle mid b.others b.rest in
    record { number = ap length (sym b.all) ∙ ap suc one.number; ahead = omega (arith, coordinate_ahead (first_of s) b.first r b.middle b.one, one.ahead) }

record ArePoints (axes count : ℕ) (r stop : Reading) (ps : List PointValue) : Type 0 where
  number : length ps ≡ count
  have : HaveAxes axes ps
  ahead : length ps + r.place ≤ stop.place

points_are : (axes count : ℕ) (s : PointValue) (r stop : Reading) (ps : List PointValue) → 1 ≤ axes → many_at count add (point_at axes) s r ≡ (Ok ps, stop) → ArePoints axes count r stop ps
points_are axes zero s r stop ps some e =
    let here : r.place ≡ stop.place = ap (λ (a : Answer (List PointValue)). a.1.place) e in
    let none : [] ≡ ps = ap values_of e in
    subst (ArePoints axes 0 r stop) none (record { number = refl; have = tt; ahead = omega (arith, here) })
points_are axes (suc count) s r stop ps some e =
    let b = many_back add (point_at axes) count s r stop ps e in
    let one = point_is axes s r b.middle b.first b.one in
    let further = points_are axes count (add s b.first) b.middle stop b.others some b.rest in
    subst (ArePoints axes (suc count) r stop) b.all (record { number = ap suc further.number; have = (one.number, further.have); ahead = omega (arith, one.ahead, further.ahead, some) })

-- each number of points takes at least a byte
points_long : (axes count : ℕ) (s : PointValue) (r stop : Reading) (ps : List PointValue) → many_at count add (point_at axes) s r ≡ (Ok ps, stop) → count * axes + r.place ≤ stop.place
points_long axes zero s r stop ps e = let here : r.place ≡ stop.place = ap (λ (a : Answer (List PointValue)). a.1.place) e in omega (arith, here)
points_long axes (suc count) s r stop ps e =
    let b = many_back add (point_at axes) count s r stop ps e in
    omega (arith, (point_is axes s r b.middle b.first b.one).ahead, points_long axes count (add s b.first) b.middle stop b.others b.rest)

-- points have fewer than 2^64 numbers
pub points_fit : (axes count : ℕ) (s : PointValue) (r stop : Reading) (ps : List PointValue) → IsSound r → many_at count add (point_at axes) s r ≡ (Ok ps, stop) → count * axes < 2 ^ 64
points_fit axes count s r stop ps sound e =
    let moved = numbers_moved (count * axes) r stop sound (points_numbers axes count s r stop ps e) in
    omega (arith, points_long axes count s r stop ps e, moved.within, sound.length_fits)

-- ---- a state that no point changes
module _ {S : Type 0} (step : S → PointValue → S) (axes : ℕ) where
  stays : (s : S) (ps : List PointValue) → IsStill step s → fold step s ps ≡ s
  stays s [] still = refl
  stays s (p ∷ ps) still = ap (λ (u : S). fold step u ps) (still p) ∙ stays s ps still

  -- the trail after points
  abbrev pub trail_after : Trail → List PointValue → Trail
  trail_after t ps = record { last = sums t.last ps; points = t.points + length ps }

  -- if no point changes the state, points that are passed count as shown
  still_run : (count : ℕ) (t : Trail) (s : S) (r stop : Reading) (ps : List PointValue) → 1 ≤ axes → many_at count add (point_at axes) t.last r ≡ (Ok ps, stop) → IsStill step s
      → IsRun step axes t (trail_after t ps) s s r stop count
  still_run count t s r stop ps some read still =
      let are = points_are axes count t.last r stop ps some read in
      record { numbers = ps; many = are.number; read = read; walked = record { last = refl; points = refl; added = sym (stays s (lasts_from t.last ps) still); have = are.have; ahead = are.ahead } }

  -- a run is the first turns of a loop over more points
  pub run_loop : (count : ℕ) (start now : Trail) (s t : S) (from r : Reading) (i : ℕ) → i ≤ count → (run : IsRun step axes start now s t from r i)
      → IsLoop add (point_at axes) count (many_at count add (point_at axes) start.last from) run.numbers i now.last r
  run_loop count start now s t from r i le run =
      let total = many_at count add (point_at axes) start.last from in
      let far = goes_far add (point_at axes) count total i [] 0 start.last from r run.numbers (omega (arith, le)) run.read (loop_begins add (point_at axes) count total start.last from refl) in
      let zero : 0 + i ≡ i = omega arith in
      subst (λ (p : PointValue). IsLoop add (point_at axes) count total run.numbers i p r) (after_points start.last run.numbers ∙ sym run.walked.last)
      (subst (λ (n : ℕ). IsLoop add (point_at axes) count total run.numbers n (after_all add start.last run.numbers) r) zero far)

  -- if all points are read, reading the point after a run doesn't fail
  pub run_next : (count : ℕ) (start now : Trail) (s t : S) (from r stop : Reading) (i : ℕ) (ps : List PointValue) → many_at count add (point_at axes) start.last from ≡ (Ok ps, stop) → i < count
      → IsRun step axes start now s t from r i → (point : PointValue) × (end : Reading) × (point_at axes now.last r ≡ (Ok point, end))
  run_next count start now s t from r stop i ps e lt run =
      next_read add (point_at axes) count (many_at count add (point_at axes) start.last from) run.numbers i now.last r stop ps e lt (run_loop count start now s t from r i (omega (arith, lt)) run)

  -- a run and another after it are a run
  pub run_then : (start now next : Trail) (s t u : S) (from r new : Reading) (i k : ℕ) → IsRun step axes now next t u r new k → IsRun step axes start now s t from r i → IsRun step axes start next s u from new (i + k)
  run_then start now next s t u from r new i k more run =
      let total = many_at (i + k) add (point_at axes) start.last from in
      let here = run_loop (i + k) start now s t from r i (omega arith) run in
      record {
        numbers = run.numbers ++ more.numbers;
        many = length-append run.numbers more.numbers ∙ (λ j. run.many j + more.many j);
        read = loop_ends add (point_at axes) (i + k) total (run.numbers ++ more.numbers) (i + k) (after_all add now.last more.numbers) new (omega arith)
            (goes_far add (point_at axes) (i + k) total k run.numbers i now.last r new more.numbers (omega arith) more.read here);
        walked = walked_then step axes start now next s t u from.place r.place new.place run.numbers more.numbers run.walked more.walked;
      }

  -- the place is after this many points, whatever they are
  abbrev pub ArePassed : ℕ → Reading → Reading → Type 0
  ArePassed count from new = (s : PointValue) (points : List PointValue) (stop : Reading) → many_at count add (point_at axes) s from ≡ (Ok points, stop) → new ≡ stop

  -- the points that are left after a run can be read
  pub run_rest : (count i : ℕ) (start now : Trail) (s t : S) (from r stop : Reading) (ps : List PointValue) → i ≤ count → many_at count add (point_at axes) start.last from ≡ (Ok ps, stop) → IsRun step axes start now s t from r i
      → (ys : List PointValue) × (many_at (count - i) add (point_at axes) now.last r ≡ (Ok ys, stop))
  run_rest count i start now s t from r stop ps le e run =
      let rest = rest_read add (point_at axes) count (many_at count add (point_at axes) start.last from) run.numbers i now.last r stop ps e (run_loop count start now s t from r i le run) in
      (rest.0, rest.1)

  -- if a run was shown and the points after it were passed, all are a run
  pub run_passed : (count i : ℕ) (start now : Trail) (s t : S) (from r new stop : Reading) (ps : List PointValue) → 1 ≤ axes → i ≤ count → many_at count add (point_at axes) start.last from ≡ (Ok ps, stop) → IsStill step t → ArePassed (count - i) r new
      → IsRun step axes start now s t from r i → (after : Trail) × IsRun step axes start after s t from new count
  run_passed count i start now s t from r new stop ps some le e still passes run =
      let (ys, left) = run_rest count i start now s t from r stop ps le e run in
      let after = trail_after now ys in
      let all : i + (count - i) ≡ count = omega (arith, le) in
      let rest = subst (λ (q : Reading). IsRun step axes now after t t r q (count - i)) (sym (passes now.last ys stop left)) (still_run (count - i) now t r stop ys some left still) in
      (after, subst (IsRun step axes start after s t from new) all (run_then start now after s t t from r new i (count - i) rest run))

pub axes_some : (z m : Option ℕ) → 1 ≤ axes_with z m
axes_some None None = omega arith
axes_some None (Some q) = omega arith
axes_some (Some p) None = omega arith
axes_some (Some p) (Some q) = omega arith
