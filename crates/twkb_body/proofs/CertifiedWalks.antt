-- Walks over certified bytes: points are shown, and those after them are passed, if no point changes the state any more.
use Rattle.twkb_body.proofs.Prelude.{◌≡◌, ℕ, ◌+◌, ◌-◌, ◌<◌, ◌≤◌, Bool, true, false, List, Ok, refl, sym, ap, subst, ◌∙◌, arith, GName, Reading, Head, Header, Reader, Trail, PointValue, point_at, of_head, Stage, IsBefore, HasRead, IsWalkingOn, points_at, IsPoint, IsWalked, IsStill, lasts_from}
use Rattle.twkb_body.proofs.Runs.{IsRun, run_none, run_goes_on}
use Rattle.twkb_body.proofs.Settling.{ArePassed, axes_some, run_next, run_passed, run_rest, run_then}
use Rattle.twkb_body.proofs.WalkReads.{beside, fold_beside, walked_beside, walked_apart}
use Rattle.twkb_body.proofs.Walks.{point_walked}

module _ {S : Type 0} (step : Header → S → PointValue → S) (head : Head) (axes : ℕ) (lost : Bool) (trail : Trail) (name : GName) (state : S) (count : ℕ) (from : Reading) where
  -- a walk is at a stage before its points
  abbrev pub AreBefore : Stage ((Header × GName) × S) → Type 0
  AreBefore at = IsBefore (IsWalkingOn step head axes lost trail name state) true (points_at count) from at

  module _ (at : Stage ((Header × GName) × S)) (before : AreBefore at) where
    -- i of the points were shown
    pub record HasShown (i : ℕ) (gone : Bool) (now : Trail) (t : S) (r : Reading) : Type 0 where
      pub last : Trail
      pub run : IsRun (step (of_head head)) axes at.trail last state t from r i
      pub kept : gone ≡ false → now ≡ last
      pub still : gone ≡ true → IsStill (step (of_head head)) t

    pub shown_none : HasShown 0 lost trail state from
    shown_none = record { last = at.trail; run = run_none (step (of_head head)) axes at.trail state from; kept = before.there.kept; still = before.there.still }

    shown_more : (i k : ℕ) (gone : Bool) (now next : Trail) (t u : S) (r new : Reading) → gone ≡ false → IsRun (step (of_head head)) axes now next t u r new k → HasShown i gone now t r → HasShown (i + k) gone next u new
    shown_more i k gone now next t u r new keeps more h = record {
      last = next;
      run = run_then (step (of_head head)) axes at.trail h.last next state t u from r new i k (subst (λ (w : Trail). IsRun (step (of_head head)) axes w next t u r new k) (h.kept keeps) more) h.run;
      kept = λ same. refl;
      still = λ is. absurd (cc (keeps, is));
    }

    -- one more point is added to what was shown
    pub point_shown : (many i : ℕ) (gone : Bool) (now next : Trail) (t u : S) (r new : Reading) (point : PointValue) → many ≡ axes → gone ≡ false → point_at many now.last r ≡ (Ok point, new) → IsPoint many now next r.place new.place point
        → u ≡ step (of_head head) t next.last → HasShown i gone now t r → HasShown (i + 1) gone next u new
    point_shown many i gone now next t u r new point same keeps read taken is h =
        let one = subst (λ (n : ℕ). point_at n now.last r ≡ (Ok point, new)) same read in
        let walked = point_walked (step (of_head head)) axes now next t u r.place new.place point (subst (λ (n : ℕ). IsPoint n now next r.place new.place point) same taken) is in
        shown_more i 1 gone now next t u r new keeps (run_goes_on (step (of_head head)) axes now now next t t u r r new 0 point one walked (run_none (step (of_head head)) axes now t r)) h

    -- all points can be read
    readable : (points : List PointValue) × (stop : Reading) × (points_at count axes at.trail.last from ≡ (Ok points, stop))
    readable =
        let (points, stop, e) = before.readable refl in
        (points, stop, ap (λ (s : Stage ((Header × GName) × S)). points_at count s.axes at.trail.last from) (sym before.there.at_is) ∙ e)

    -- so the next one can
    pub shown_reads : (i : ℕ) (gone : Bool) (now : Trail) (t : S) (r : Reading) → i < count → gone ≡ false → HasShown i gone now t r → (point : PointValue) × (stop : Reading) × (point_at axes now.last r ≡ (Ok point, stop))
    shown_reads i gone now t r lt keeps h =
        let (points, stop, e) = readable in
        subst (λ (w : Trail). (point : PointValue) × (stop : Reading) × (point_at axes w.last r ≡ (Ok point, stop))) (sym (h.kept keeps))
        (run_next (step (of_head head)) axes count at.trail h.last state t from r stop i points e lt h.run)

    -- no more points were read than bytes
    pub shown_counted : (i : ℕ) (gone : Bool) (now : Trail) (t : S) (r : Reading) → gone ≡ false → HasShown i gone now t r → now.points ≤ r.place
    shown_counted i gone now t r keeps h =
        let same = ap (λ (w : Trail). w.points) (h.kept keeps) in
        omega (arith, before.counted, same, h.run.walked.points, h.run.walked.ahead)

    -- the points after those shown can be read
    pub shown_rest : (i : ℕ) (gone : Bool) (now : Trail) (t : S) (r : Reading) → i ≤ count → HasShown i gone now t r → (s : PointValue) × (points : List PointValue) × (stop : Reading) × (points_at (count - i) axes s r ≡ (Ok points, stop))
    shown_rest i gone now t r le h =
        let (points, stop, e) = readable in
        let rest = run_rest (step (of_head head)) axes count i at.trail h.last state t from r stop points le e h.run in
        (h.last.last, rest.0, stop, rest.1)

    -- a run of all points leads to the stage after them
    all_shown : (gone : Bool) (now last : Trail) (t : S) (to : Reading) → (gone ≡ false → now ≡ last) → (gone ≡ true → IsStill (step (of_head head)) t) → IsRun (step (of_head head)) axes at.trail last state t from to count
        → HasRead (points_at count at.axes) (λ points. points) (beside (λ h. step h.0)) (IsWalkingOn step head axes gone now name t) at from to
    all_shown gone now last t to kept still run =
        let w = before.there in
        subst (λ (at : Stage ((Header × GName) × S)). HasRead (points_at count at.axes) (λ points. points) (beside (λ h. step h.0)) (IsWalkingOn step head axes gone now name t) at from to) (sym w.at_is)
        (record {
          value = run.numbers;
          read = run.read;
          trail = last;
          state = ((of_head head, name), t);
          there = record { precisions = w.precisions; axes_are = w.axes_are; at_is = refl; kept = kept; still = still };
          walked = walked_beside (λ h. step h.0) (of_head head, name) axes at.trail last state t from.place to.place run.numbers run.walked;
        })

    pub shown_ends : (i : ℕ) (gone : Bool) (now : Trail) (t : S) (r : Reading) → i ≡ count → HasShown i gone now t r → HasRead (points_at count at.axes) (λ points. points) (beside (λ h. step h.0)) (IsWalkingOn step head axes gone now name t) at from r
    shown_ends i gone now t r end h = all_shown gone now h.last t r h.kept h.still (subst (IsRun (step (of_head head)) axes at.trail h.last state t from r) end h.run)

    -- points that are passed count as shown, if no point changes the state
    pub shown_passed : (i : ℕ) (gone : Bool) (now : Trail) (t : S) (r new : Reading) → i ≤ count → IsStill (step (of_head head)) t → ArePassed (step (of_head head)) axes (count - i) r new → HasShown i gone now t r
        → HasRead (points_at count at.axes) (λ points. points) (beside (λ h. step h.0)) (IsWalkingOn step head axes true now name t) at from new
    shown_passed i gone now t r new le still passes h =
        let (points, stop, e) = readable in
        let some : 1 ≤ axes = omega (arith, before.there.axes_are, axes_some head.z head.m) in
        let (after, run) = run_passed (step (of_head head)) axes count i at.trail h.last state t from r new stop points some le e still passes h.run in
        all_shown true now after t new (λ keeps. absurd (cc (keeps))) (λ is. still) run

-- what a walk has shown of a value that was read, by the reference to its visitor that it began with
pub walk_shown : {A S : Type 0} (step : Header → S → PointValue → S) (each : PointValue → Reader A) (points_in : A → List PointValue) (h : Header) (name : GName) (axes : ℕ) (old : Trail) (s : S)
    (now : Head) (many : ℕ) (gone : Bool) (new : Trail) (last : GName) (t : S) (from to : Reading)
    → HasRead each points_in (beside (λ h. step h.0)) (IsWalkingOn step now many gone new last t) (record { axes = axes; trail = old; state = ((h, name), s) }) from to
    → (value : A) × (each old.last from ≡ (Ok value, to)) × (after : Trail) × IsWalked (step h) axes old after s t from.place to.place (points_in value) × (name ≡ last)
walk_shown {A} {S} step each points_in h name axes old s now many gone new last t from to read =
    let end : read.state ≡ ((of_head now, last), t) = ap (λ (at : Stage ((Header × GName) × S)). at.state) read.there.at_is in
    let walked = subst (λ (u : (Header × GName) × S). IsWalked (beside (λ h. step h.0)) axes old read.trail ((h, name), s) u from.place to.place (points_in read.value)) end read.walked in
    let kept = sym end ∙ read.walked.added ∙ fold_beside (λ h. step h.0) (h, name) s (lasts_from old.last (points_in read.value)) in (
      read.value,
      read.read,
      read.trail,
      walked_apart (λ h. step h.0) (h, name) axes old read.trail s t (of_head now, last) from.place to.place (points_in read.value) walked,
      sym (ap (λ (u : (Header × GName) × S). (u.0).1) kept),
    )

-- what is behind a reference that was lent is what it was last
pub lent_back : {X Y : Type 0} (f : X → Y) (name last : GName) (x now : X) (y : Y) → name ≡ last → f now ≡ y → (name ≡ last → x ≡ now) → f x ≡ y
lent_back f name last x now y same is back = ap f (back same) ∙ is
