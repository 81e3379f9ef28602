-- Runs of points, read as numbers: their columns, and their sums.
-- column-append: the column of whole points and then more numbers is the two columns, one after the other.
-- column-same, column-other: one more number goes to the column of its axis, and to no other.
-- Stays-append, append-Stays, running-append: sums of numbers and then more are the sums of both.
-- whole_left: after a point, whole points are left.
-- read_split, numbers_read: numbers that a cursor read are read one after another.
-- run_reads, length-rows, rows_have_axes: they are points, if the sums of each axis stay within 64 bits.
-- rows_ahead, run_walked: there are no more points than bytes, and they are a run.
-- sums_column, sums_beyond, length_sums, sums_are: the coordinates after points are the sums of the columns.
-- lasts_column, lasts_beyond: the coordinates of the points are the running sums of the columns.
-- coordinate_is, within_fits, fits_within: coordinates as items of a vector, and sums that fit as bounds.
-- run_stays, run_leaves: if points can be read, the sums of each axis stay within 64 bits.
-- run_ends_early: if fewer numbers were read, and then there is a fault, the points can't be read.
-- two_added, two_are, two_fit, two_stand: a point of two numbers, and the coordinates after it.
use Rattle.twkb_body.proofs.Prelude.{negsuc, ◌≡◌, ℕ, zero, suc, ◌+◌, ◌-◌, ◌*◌, ◌^◌, ◌<◌, ◌≤◌, inl, inr, Bool, true, false, List, [], ◌∷◌, ◌++◌, length, fold, map, take, drop, ℤ, pos, neg_ℤ, ◌+ℤ◌, ◌≤ℤ◌, ◌<ℤ◌, Ok, refl, sym, ap, ap₂, subst, ◌∙◌, arith, append_assoc, length-append, length-drop, FitsSigned, slice_index_or, mul-add, mul-suc, mul-le-mul_left, mul-le-mul_right, cases_lt, common_steps, ints, append-nil, length-take-le, take-append-drop, unwrap_or-slice_get, Reading, passed, IsMoved, IsSound, ReadsNumbers, StopsAt, StopsReading, IsSigned, SpellsAllSigned, NumFault, IsSound-moved, IsMoved-two, fits, Answer, many_at, signed_at, coordinate_at, Range, ok_not_err, one_answer, read_signed, coordinate_ok, coordinate_refused, fits_true, Trail, PointValue, coordinate, first_of, behind, add, sums, point_at, column, sum_fits, Stays, running, HaveAxes, lasts_from}
use Rattle.std.proofs.Common.{w64}
use Rattle.std.specs.Prelude.{◌≢◌}
use Rattle.twkb_body.proofs.Coordinates.{signed_back}
use Rattle.twkb_body.proofs.Runs.{IsRun, values_of}
use Rattle.twkb_body.proofs.Settling.{moved_none, NumbersLead, no_number, point_numbers}
use Rattle.twkb_body.proofs.Sums.{fits_signed}
use Rattle.twkb_body.proofs.Tracing.{many_back, many_then, point_back}

-- a number of 64 bits
pub has_64_bits : (z : ℤ) → neg_ℤ (pos (2 ^ 63)) ≤ℤ z → z <ℤ pos (2 ^ 63) → FitsSigned w64 z
has_64_bits (pos n) low high = record { sfits = omega (arith, ints, high) }
has_64_bits (negsuc n) low high = record { sfits = omega (arith, ints, low) }

-- this many points, each of as many numbers as there are axes
abbrev pub rows : ℕ → ℕ → List ℤ → List PointValue
rows axes zero zs = []
rows axes (suc n) zs = take axes zs ∷ rows axes n (drop axes zs)

-- ---- columns of numbers and then more
-- how many numbers are to be left out after these, before the next one of the axis
abbrev left_out : ℕ → ℕ → List ℤ → ℕ
left_out axes k [] = k
left_out axes zero (z ∷ zs) = left_out axes (axes - 1) zs
left_out axes (suc k) (z ∷ zs) = left_out axes k zs

column_then : (axes k : ℕ) (xs ys : List ℤ) → column axes k (xs ++ ys) ≡ column axes k xs ++ column axes (left_out axes k xs) ys
column_then axes k [] ys = refl
column_then axes zero (x ∷ xs) ys = ap (λ (zs : List ℤ). x ∷ zs) (column_then axes (axes - 1) xs ys)
column_then axes (suc k) (x ∷ xs) ys = column_then axes k xs ys

-- what is left out and the numbers before it are whole points and the first numbers of one
record IsLeftOut (axes k left many : ℕ) : Type 0 where
  points : ℕ
  sum : left + many ≡ k + axes * points
  few : left < axes

left_out_is : (axes k : ℕ) (xs : List ℤ) → k < axes → IsLeftOut axes k (left_out axes k xs) (length xs)
left_out_is axes k [] few = record { points = 0; sum = omega arith; few = few }
left_out_is axes zero (x ∷ xs) few =
    let l = left_out_is axes (axes - 1) xs (omega (arith, few)) in
    record { points = l.points + 1; sum = omega (arith, l.sum, few, mul-add axes l.points 1); few = l.few }
left_out_is axes (suc k) (x ∷ xs) few =
    let l = left_out_is axes k xs (omega (arith, few)) in
    record { points = l.points; sum = omega (arith, l.sum); few = l.few }

-- what is left of whole points is the same
same_left : (n a b p q : ℕ) → a < n → b < n → a + n * p ≡ b + n * q → a ≡ b
same_left n a b p q few_a few_b e = elim (cases_lt p q) [
  | inl less ↦ absurd (omega (arith, e, few_a, mul-add n p 1, mul-le-mul_left {m = p + 1} {n = q} n (omega (arith, less))))
  | inr more ↦ elim (cases_lt q p) [
    | inl less ↦ absurd (omega (arith, e, few_b, mul-add n q 1, mul-le-mul_left {m = q + 1} {n = p} n (omega (arith, less))))
    | inr no_more ↦ let same : p ≡ q = omega (arith, more, no_more) in omega (arith, e, ap (λ (m : ℕ). n * m) same)
  ]
]

-- the column of whole points and then more numbers
pub column-append : (axes k points : ℕ) (xs ys : List ℤ) → length xs ≡ axes * points → k < axes → column axes k (xs ++ ys) ≡ column axes k xs ++ column axes k ys
column-append axes k points xs ys whole few =
    let l = left_out_is axes k xs few in
    let same : left_out axes k xs ≡ k = same_left axes (left_out axes k xs) k points l.points l.few few (omega (arith, l.sum, whole)) in
    column_then axes k xs ys ∙ ap (λ (m : ℕ). column axes k xs ++ column axes m ys) same

-- one more number, of this axis
pub column-same : (axes k points : ℕ) (xs : List ℤ) (z : ℤ) → length xs ≡ axes * points + k → k < axes → column axes k (xs ++ z ∷ []) ≡ column axes k xs ++ z ∷ []
column-same axes k points xs z long few =
    let l = left_out_is axes k xs few in
    let none : left_out axes k xs ≡ 0 = same_left axes (left_out axes k xs) 0 points l.points l.few (omega (arith, few)) (omega (arith, l.sum, long)) in
    column_then axes k xs (z ∷ []) ∙ ap (λ (m : ℕ). column axes k xs ++ column axes m (z ∷ [])) none

-- one more number, of another axis
pub column-other : (axes axis k points : ℕ) (xs : List ℤ) (z : ℤ) → length xs ≡ axes * points + axis → axis < axes → k < axes → k ≢ axis → column axes k (xs ++ z ∷ []) ≡ column axes k xs
column-other axes axis k points xs z long there few other =
    let l = left_out_is axes k xs few in
    column_then axes k xs (z ∷ []) ∙ go (left_out axes k xs) (λ none. absurd (other (sym (same_left axes axis k points l.points there few (omega (arith, l.sum, long, none))))))
  where
    go : (left : ℕ) → (left ≡ 0 → ⊥) → column axes k xs ++ column axes left (z ∷ []) ≡ column axes k xs
    go zero some = absurd (some refl)
    go (suc left) some = append-nil (column axes k xs)

-- ---- sums of numbers and then more
-- the sums of numbers and then more stay, if those of both do
pub Stays-append : (s : ℤ) (xs ys : List ℤ) → Stays s xs → Stays (fold ◌+ℤ◌ s xs) ys → Stays s (xs ++ ys)
Stays-append s [] ys a b = b
Stays-append s (x ∷ xs) ys a b = (a.0, Stays-append (s +ℤ x) xs ys a.1 b)

-- and back
pub append-Stays : (s : ℤ) (xs ys : List ℤ) → Stays s (xs ++ ys) → Stays s xs × Stays (fold ◌+ℤ◌ s xs) ys
append-Stays s [] ys a = (tt, a)
append-Stays s (x ∷ xs) ys a = let more = append-Stays (s +ℤ x) xs ys a.1 in ((a.0, more.0), more.1)

pub running-append : (s : ℤ) (xs ys : List ℤ) → running s (xs ++ ys) ≡ running s xs ++ running (fold ◌+ℤ◌ s xs) ys
running-append s [] ys = refl
running-append s (x ∷ xs) ys = ap (λ (zs : List ℤ). (s +ℤ x) ∷ zs) (running-append (s +ℤ x) xs ys)

-- ---- columns of points
-- numbers that are all left out
column_none : (axes k : ℕ) (zs : List ℤ) → length zs ≤ k → column axes k zs ≡ []
column_none axes k [] few = refl
column_none axes zero (z ∷ zs) few = absurd (omega (arith, few))
column_none axes (suc k) (z ∷ zs) few = column_none axes k zs (omega (arith, few))

-- the column of one point
column_one : (axes k : ℕ) (p : PointValue) → k < length p → length p ≤ k + axes → column axes k p ≡ coordinate p k ∷ []
column_one axes k [] there few = absurd (omega (arith, there))
column_one axes zero (z ∷ p) there few = ap (λ (zs : List ℤ). z ∷ zs) (column_none axes (axes - 1) p (omega (arith, few)))
column_one axes (suc k) (z ∷ p) there few = column_one axes k p (omega (arith, there)) (omega (arith, few))

-- the column of a point and then more numbers
column_row : (axes k : ℕ) (p : PointValue) (zs : List ℤ) → length p ≡ axes → k < axes → column axes k (p ++ zs) ≡ coordinate p k ∷ column axes k zs
column_row axes k p zs whole few =
    column-append axes k 1 p zs (omega (arith, whole)) few ∙ ap (λ (cs : List ℤ). cs ++ column axes k zs) (column_one axes k p (omega (arith, whole, few)) (omega (arith, whole)))

column_cut : (axes k : ℕ) (zs : List ℤ) → axes ≤ length zs → k < axes → column axes k zs ≡ coordinate (take axes zs) k ∷ column axes k (drop axes zs)
column_cut axes k zs long few = ap (column axes k) (sym (take-append-drop axes zs)) ∙ column_row axes k (take axes zs) (drop axes zs) (length-take-le axes zs long) few

-- after a point, whole points are left
pub whole_left : (axes n : ℕ) (zs : List ℤ) → length zs ≡ axes * suc n → (axes ≤ length zs) × (length (take axes zs) ≡ axes) × (length (drop axes zs) ≡ axes * n)
whole_left axes n zs whole =
    let long : axes ≤ length zs = omega (arith, whole, mul-suc axes n) in
    (long, length-take-le axes zs long, omega (arith, whole, mul-suc axes n, length-drop axes zs))

-- ---- coordinates of sums
first_at : (s : PointValue) → coordinate s 0 ≡ first_of s
first_at [] = refl
first_at (c ∷ s) = refl

behind_at : (s : PointValue) (k : ℕ) → coordinate s (suc k) ≡ coordinate (behind s) k
behind_at [] k = refl
behind_at (c ∷ s) k = refl

added_at : (s p : PointValue) (k : ℕ) → coordinate (add s p) k ≡ coordinate s k +ℤ coordinate p k
added_at s [] k = omega (arith, ints)
added_at [] (n ∷ p) k = omega (arith, ints)
added_at (c ∷ s) (n ∷ p) zero = refl
added_at (c ∷ s) (n ∷ p) (suc k) = added_at s p k

-- ---- numbers that were read, one after another
-- the first number, and the others
read_first : (a c : Reading) (z : ℤ) (zs : List ℤ) → ReadsNumbers a c (z ∷ zs) → (b : Reading) × IsMoved a b × (signed_at a ≡ (Ok z, b)) × ReadsNumbers b c zs
read_first a c z zs r =
    let (front, rest, whole, one, all) = r.spelled in
    let way = IsMoved-two a c front rest r.moved whole in (
      way.0,
      way.1,
      read_signed a way.0 z (subst (IsSigned z) (sym way.3) one) way.1,
      record { spelled = subst (λ (bs : List ℕ). SpellsAllSigned bs zs) (sym way.4) all; moved = way.2 },
    )

spelled_split : (bytes : List ℕ) (xs ys : List ℤ) → SpellsAllSigned bytes (xs ++ ys) → (bs cs : List ℕ) × (bytes ≡ bs ++ cs) × SpellsAllSigned bs xs × SpellsAllSigned cs ys
spelled_split bytes [] ys s = ([], bytes, refl, refl, s)
spelled_split bytes (x ∷ xs) ys (front, rest, whole, one, all) =
    let (bs, cs, parts, s, t) = spelled_split rest xs ys all in
    (front ++ bs, cs, whole ∙ ap (λ (ds : List ℕ). front ++ ds) parts ∙ sym (append_assoc front bs cs), (front, bs, refl, one, s), t)

-- the first numbers, and the others
pub read_split : (a c : Reading) (xs ys : List ℤ) → ReadsNumbers a c (xs ++ ys) → (b : Reading) × ReadsNumbers a b xs × ReadsNumbers b c ys
read_split a c xs ys r =
    let (bs, cs, parts, s, t) = spelled_split (passed a c) xs ys r.spelled in
    let way = IsMoved-two a c bs cs r.moved parts in (
      way.0,
      record { spelled = subst (λ (ds : List ℕ). SpellsAllSigned ds xs) (sym way.3) s; moved = way.1 },
      record { spelled = subst (λ (ds : List ℕ). SpellsAllSigned ds ys) (sym way.4) t; moved = way.2 },
    )

-- the numbers of a point, and the others
read_row : (axes : ℕ) (a c : Reading) (zs : List ℤ) → ReadsNumbers a c zs → (b : Reading) × ReadsNumbers a b (take axes zs) × ReadsNumbers b c (drop axes zs)
read_row axes a c zs r = read_split a c (take axes zs) (drop axes zs) (subst (ReadsNumbers a c) (sym (take-append-drop axes zs)) r)

-- numbers that were read are a point, if the sums fit
pub numbers_point : (s : PointValue) (a b : Reading) (zs : List ℤ) → IsSound a → ReadsNumbers a b zs → ((k : ℕ) → k < length zs → sum_fits (coordinate s k +ℤ coordinate zs k)) → point_at (length zs) s a ≡ (Ok zs, b)
numbers_point s a b [] sound r fit = ap (λ (q : Reading). (Ok [], q)) (moved_none a b sound r.moved r.spelled)
numbers_point s a b (z ∷ zs) sound r fit =
    let (mid, there, one, rest) = read_first a b z zs r in
    let here : sum_fits (first_of s +ℤ z) = ap (λ (c : ℤ). fits (c +ℤ z)) (sym (first_at s)) ∙ fit 0 (omega arith) in
    many_then (λ (s : PointValue) (z : ℤ). behind s) (λ s. coordinate_at (first_of s)) (length zs) s a mid z (Ok zs, b) (coordinate_ok (first_of s) a mid z here one)
    (numbers_point (behind s) mid b zs (IsSound-moved a mid sound there) rest (λ k lt. ap (λ (c : ℤ). fits (c +ℤ coordinate zs k)) (sym (behind_at s k)) ∙ fit (suc k) (omega (arith, lt))))

-- numbers that were read are points, if the sums of each axis stay within 64 bits
pub run_reads : (axes n : ℕ) (last : PointValue) (a b : Reading) (zs : List ℤ) → IsSound a → ReadsNumbers a b zs → length zs ≡ axes * n → ((k : ℕ) → k < axes → Stays (coordinate last k) (column axes k zs))
    → many_at n add (point_at axes) last a ≡ (Ok (rows axes n zs), b)
run_reads axes zero last a b [] sound r whole stay = ap (λ (q : Reading). (Ok [], q)) (moved_none a b sound r.moved r.spelled)
run_reads axes zero last a b (z ∷ zs) sound r whole stay = absurd (omega (arith, whole))
run_reads axes (suc n) last a b zs sound r whole stay =
    let row : PointValue = take axes zs in
    let others : List ℤ = drop axes zs in
    let (long, one, left) = whole_left axes n zs whole in
    let (mid, first, rest) = read_row axes a b zs r in
    let cut = λ (k : ℕ) (few : k < axes). subst (Stays (coordinate last k)) (column_cut axes k zs long few) (stay k few) in
    let point : point_at axes last a ≡ (Ok row, mid) = subst (λ (d : ℕ). point_at d last a ≡ (Ok row, mid)) one (numbers_point last a mid row sound first (λ k lt. (cut k (omega (arith, lt, one))).0)) in
    many_then add (point_at axes) n last a mid row (Ok (rows axes n others), b) point
    (run_reads axes n (add last row) mid b others (IsSound-moved a mid sound first.moved) rest left (λ k few. subst (λ (c : ℤ). Stays c (column axes k others)) (sym (added_at last row k)) (cut k few).1))

pub length-rows : (axes n : ℕ) (zs : List ℤ) → length (rows axes n zs) ≡ n
length-rows axes zero zs = refl
length-rows axes (suc n) zs = ap suc (length-rows axes n (drop axes zs))

pub rows_have_axes : (axes n : ℕ) (zs : List ℤ) → length zs ≡ axes * n → HaveAxes axes (rows axes n zs)
rows_have_axes axes zero zs whole = tt
rows_have_axes axes (suc n) zs whole = let (long, one, left) = whole_left axes n zs whole in (one, rows_have_axes axes n (drop axes zs) left)

-- each number is spelled by some bytes
spelled_long : (bytes : List ℕ) (zs : List ℤ) → SpellsAllSigned bytes zs → length zs ≤ length bytes
spelled_long bytes [] s = omega arith
spelled_long bytes (z ∷ zs) (front, rest, whole, one, all) = omega (arith, ap length whole, length-append front rest, one.1.some, spelled_long rest zs all)

-- there are no more points than bytes
pub rows_ahead : (axes n : ℕ) (a b : Reading) (zs : List ℤ) → 1 ≤ axes → ReadsNumbers a b zs → length zs ≡ axes * n → n + a.place ≤ b.place
rows_ahead axes n a b zs some r whole =
    let moved = r.moved in
    let long : length (passed a b) ≡ b.place - a.place = grind (arith, common_steps, moved.within) in
    omega (arith, long, moved.ahead, spelled_long (passed a b) zs r.spelled, whole, mul-le-mul_right {m = 1} {n = axes} n some)

-- ---- coordinates after points
-- a coordinate after the points of numbers: the one before them plus the sum of its column
pub sums_column : (axes n k : ℕ) (s : PointValue) (zs : List ℤ) → length zs ≡ axes * n → k < axes → coordinate (sums s (rows axes n zs)) k ≡ fold ◌+ℤ◌ (coordinate s k) (column axes k zs)
sums_column axes zero k s [] whole few = refl
sums_column axes zero k s (z ∷ zs) whole few = absurd (omega (arith, whole))
sums_column axes (suc n) k s zs whole few =
    let (long, one, left) = whole_left axes n zs whole in
    sums_column axes n k (add s (take axes zs)) (drop axes zs) left few
    ∙ ap (λ (c : ℤ). fold ◌+ℤ◌ c (column axes k (drop axes zs))) (added_at s (take axes zs) k)
    ∙ ap (fold ◌+ℤ◌ (coordinate s k)) (sym (column_cut axes k zs long few))

-- the coordinates of the points on an axis are the running sums of its column
pub lasts_column : (axes n k : ℕ) (s : PointValue) (zs : List ℤ) → length zs ≡ axes * n → k < axes
    → map (λ (p : PointValue). coordinate p k) (lasts_from s (rows axes n zs)) ≡ running (coordinate s k) (column axes k zs)
lasts_column axes zero k s [] whole few = refl
lasts_column axes zero k s (z ∷ zs) whole few = absurd (omega (arith, whole))
lasts_column axes (suc n) k s zs whole few =
    let (long, one, left) = whole_left axes n zs whole in
    ap (λ (cs : List ℤ). coordinate (add s (take axes zs)) k ∷ cs) (lasts_column axes n k (add s (take axes zs)) (drop axes zs) left few)
    ∙ ap (λ (c : ℤ). c ∷ running c (column axes k (drop axes zs))) (added_at s (take axes zs) k)
    ∙ ap (running (coordinate s k)) (sym (column_cut axes k zs long few))

-- numbers that were read are a run of points, if the sums of each axis stay within 64 bits
pub run_walked : {S : Type 0} (step : S → PointValue → S) (axes n : ℕ) (old new : Trail) (state state' : S) (a b : Reading) (zs : List ℤ) → 1 ≤ axes → IsSound a → ReadsNumbers a b zs → length zs ≡ axes * n
    → ((k : ℕ) → k < axes → Stays (coordinate old.last k) (column axes k zs)) → new.last ≡ sums old.last (rows axes n zs) → new.points ≡ old.points + n
    → state' ≡ fold step state (lasts_from old.last (rows axes n zs)) → IsRun step axes old new state state' a b n
run_walked step axes n old new state state' a b zs some sound r whole stay last points added = record {
  numbers = rows axes n zs;
  many = length-rows axes n zs;
  read = run_reads axes n old.last a b zs sound r whole stay;
  walked = record {
    last = last;
    points = points ∙ ap (λ (m : ℕ). old.points + m) (sym (length-rows axes n zs));
    added = added;
    have = rows_have_axes axes n zs whole;
    ahead = omega (arith, length-rows axes n zs, rows_ahead axes n a b zs some r whole);
  };
}

-- ---- which sums fit
pub within_fits : (z : ℤ) → neg_ℤ (pos (2 ^ 63)) ≤ℤ z → z <ℤ pos (2 ^ 63) → sum_fits z
within_fits z low high = fits_true z (has_64_bits z low high)

-- ---- points that can be read, back to their numbers
-- a coordinate that is read has a sum that fits
coordinate_fits : (before z : ℤ) (r stop : Reading) → coordinate_at before r ≡ (Ok z, stop) → sum_fits (before +ℤ z)
coordinate_fits before z r stop e = go (fits (before +ℤ z)) refl
  where
    go : (b : Bool) → fits (before +ℤ z) ≡ b → fits (before +ℤ z) ≡ true
    go true fit = fit
    go false fit = absurd (ok_not_err z _ stop _ (sym e ∙ coordinate_refused before r stop z (record { offset = r.place; why = Range }) (record stop { place = r.place }) fit refl refl refl (signed_back before r stop z e)))

-- a point is the numbers that were read, and their sums fit
pub record IsPointOf (s : PointValue) (b : Reading) (zs : List ℤ) (stop : Reading) (p : PointValue) : Type 0 where
  pub same : p ≡ zs
  pub there : stop ≡ b
  pub fit : (k : ℕ) → k < length zs → sum_fits (coordinate s k +ℤ coordinate zs k)

pub point_of : (s : PointValue) (a b : Reading) (zs : List ℤ) (stop : Reading) (p : PointValue) → IsSound a → ReadsNumbers a b zs → point_at (length zs) s a ≡ (Ok p, stop) → IsPointOf s b zs stop p
point_of s a b [] stop p sound r e = record {
  same = sym (ap values_of e);
  there = sym (ap (λ (x : Answer PointValue). x.1) e) ∙ moved_none a b sound r.moved r.spelled;
  fit = λ k lt. absurd (omega (arith, lt));
}
point_of s a b (z ∷ zs) stop p sound r e =
    let (mid, there, one, rest) = read_first a b z zs r in
    let back = point_back (length zs) s a stop p e in
    let same = one_answer (signed_at a) back.first z back.middle mid (signed_back (first_of s) a back.middle back.first back.one) one in
    let more = point_of (behind s) mid b zs stop back.others (IsSound-moved a mid sound there) rest (subst (λ (q : Reading). point_at (length zs) (behind s) q ≡ (Ok back.others, stop)) same.1 back.rest) in
    let here : sum_fits (first_of s +ℤ z) = subst (λ (d : ℤ). sum_fits (first_of s +ℤ d)) same.0 (coordinate_fits (first_of s) back.first a back.middle back.one) in
    record {
      same = sym back.all ∙ ap₂ (λ (d : ℤ) (ds : List ℤ). d ∷ ds) same.0 more.same;
      there = more.there;
      fit = at here more.fit;
    }
  where
    at : sum_fits (first_of s +ℤ z) → ((k : ℕ) → k < length zs → sum_fits (coordinate (behind s) k +ℤ coordinate zs k)) → (k : ℕ) → k < suc (length zs) → sum_fits (coordinate s k +ℤ coordinate (z ∷ zs) k)
    at here more zero lt = ap (λ (c : ℤ). fits (c +ℤ z)) (first_at s) ∙ here
    at here more (suc k) lt = ap (λ (c : ℤ). fits (c +ℤ coordinate zs k)) (behind_at s k) ∙ more k (omega (arith, lt))

-- if points can be read, then from the first numbers on, as many as axes, the first is read, and the others from there on
record IsFirstOf (axes n : ℕ) (s : PointValue) (mid : Reading) (row : PointValue) (stop : Reading) : Type 0 where
  others : List PointValue
  rest : many_at n add (point_at axes) (add s row) mid ≡ (Ok others, stop)
  fit : (k : ℕ) → k < axes → sum_fits (coordinate s k +ℤ coordinate row k)

first_point : (axes n : ℕ) (s : PointValue) (a mid : Reading) (row : PointValue) (stop : Reading) (ps : List PointValue) → IsSound a → ReadsNumbers a mid row → length row ≡ axes → many_at (suc n) add (point_at axes) s a ≡ (Ok ps, stop)
    → IsFirstOf axes n s mid row stop
first_point axes n s a mid row stop ps sound r one e =
    let back = many_back add (point_at axes) n s a stop ps e in
    let p = point_of s a mid row back.middle back.first sound r (subst (λ (d : ℕ). point_at d s a ≡ (Ok back.first, back.middle)) (sym one) back.one) in
    record {
      others = back.others;
      rest = subst (λ (q : Reading). many_at n add (point_at axes) (add s row) q ≡ (Ok back.others, stop)) p.there
          (subst (λ (q : PointValue). many_at n add (point_at axes) (add s q) back.middle ≡ (Ok back.others, stop)) p.same back.rest);
      fit = λ k lt. p.fit k (omega (arith, lt, one));
    }

-- if points can be read, the sums of each axis stay within 64 bits
pub run_stays : (axes n k : ℕ) (last : PointValue) (a b : Reading) (zs : List ℤ) (stop : Reading) (ps : List PointValue) → IsSound a → ReadsNumbers a b zs → length zs ≡ axes * n → k < axes
    → many_at n add (point_at axes) last a ≡ (Ok ps, stop) → Stays (coordinate last k) (column axes k zs)
run_stays axes zero k last a b [] stop ps sound r whole few e = tt
run_stays axes zero k last a b (z ∷ zs) stop ps sound r whole few e = absurd (omega (arith, whole))
run_stays axes (suc n) k last a b zs stop ps sound r whole few e =
    let (long, one, left) = whole_left axes n zs whole in
    let (mid, first, rest) = read_row axes a b zs r in
    let p = first_point axes n last a mid (take axes zs) stop ps sound first one e in
    let more = run_stays axes n k (add last (take axes zs)) mid b (drop axes zs) stop p.others (IsSound-moved a mid sound first.moved) rest left few p.rest in
    subst (Stays (coordinate last k)) (sym (column_cut axes k zs long few)) (p.fit k few, subst (λ (c : ℤ). Stays c (column axes k (drop axes zs))) (added_at last (take axes zs) k) more)

-- if the sums of an axis leave 64 bits, the points can't be read
pub run_leaves : (axes n k : ℕ) (last : PointValue) (a b : Reading) (zs : List ℤ) → IsSound a → ReadsNumbers a b zs → length zs ≡ axes * n → k < axes → (Stays (coordinate last k) (column axes k zs) → ⊥)
    → (ps : List PointValue) (stop : Reading) → many_at n add (point_at axes) last a ≡ (Ok ps, stop) → ⊥
run_leaves axes n k last a b zs sound r whole few leaves ps stop e = leaves (run_stays axes n k last a b zs stop ps sound r whole few e)

-- after numbers, a number can be read if more lead on
next_signed : (n : ℕ) (a b : Reading) (zs : List ℤ) (stop : Reading) → IsSound a → ReadsNumbers a b zs → length zs < n → NumbersLead n a stop → (z : ℤ) × (mid : Reading) × (signed_at b ≡ (Ok z, mid))
next_signed zero a b zs stop sound r fewer lead = absurd (omega (arith, fewer))
next_signed (suc n) a b [] stop sound r fewer (z, mid, one, more) = (z, mid, subst (λ (q : Reading). signed_at q ≡ (Ok z, mid)) (moved_none a b sound r.moved r.spelled) one)
next_signed (suc n) a b (x ∷ xs) stop sound r fewer (z, mid, one, more) =
    let (next, there, first, rest) = read_first a b x xs r in
    let same = one_answer (signed_at a) z x mid next one first in
    next_signed n next b xs stop (IsSound-moved a next sound there) rest (omega (arith, fewer)) (subst (λ (q : Reading). NumbersLead n q stop) same.1 more)

-- if fewer numbers were read, and then there is a fault, the points can't be read
pub run_ends_early : (axes n : ℕ) (last : PointValue) (a middle c : Reading) (zs : List ℤ) (fault : NumFault) → IsSound a → ReadsNumbers a middle zs → length zs < axes * n → StopsAt middle c fault
    → (ps : List PointValue) (stop : Reading) → many_at n add (point_at axes) last a ≡ (Ok ps, stop) → ⊥
run_ends_early axes zero last a middle c zs fault sound r fewer stops ps stop e = omega (arith, fewer)
run_ends_early axes (suc n) last a middle c zs fault sound r fewer stops ps stop e = elim (cases_lt (length zs) axes) [
  | inl within ↦
      let back = many_back add (point_at axes) n last a stop ps e in
      let (z, mid, one) = next_signed axes a middle zs back.middle sound r within (point_numbers axes last a back.middle back.first back.one) in
      no_number middle c mid fault z stops one
  | inr long ↦
      let (mid, first, rest) = read_row axes a middle zs r in
      let p = first_point axes n last a mid (take axes zs) stop ps sound first (length-take-le axes zs long) e in
      run_ends_early axes n (add last (take axes zs)) mid middle c (drop axes zs) fault (IsSound-moved a mid sound first.moved) rest (omega (arith, fewer, long, mul-suc axes n, length-drop axes zs)) stops p.others stop p.rest
]

-- ---- a point of two numbers
-- these are added to the first two coordinates
pub two_added : (s zs : PointValue) → length s ≡ 4 → length zs ≡ 2
    → add s zs ≡ (slice_index_or s 0 (pos 0) +ℤ slice_index_or zs 0 (pos 0)) ∷ (slice_index_or s 1 (pos 0) +ℤ slice_index_or zs 1 (pos 0)) ∷ slice_index_or s 2 (pos 0) ∷ slice_index_or s 3 (pos 0) ∷ []
two_added [] zs four two = absurd (omega (arith, four))
two_added (a ∷ []) zs four two = absurd (omega (arith, four))
two_added (a ∷ b ∷ []) zs four two = absurd (omega (arith, four))
two_added (a ∷ b ∷ c ∷ []) zs four two = absurd (omega (arith, four))
two_added (a ∷ b ∷ c ∷ d ∷ e ∷ s) zs four two = absurd (omega (arith, four))
two_added (a ∷ b ∷ c ∷ d ∷ []) [] four two = absurd (omega (arith, two))
two_added (a ∷ b ∷ c ∷ d ∷ []) (x ∷ []) four two = absurd (omega (arith, two))
two_added (a ∷ b ∷ c ∷ d ∷ []) (x ∷ y ∷ []) four two = refl
two_added (a ∷ b ∷ c ∷ d ∷ []) (x ∷ y ∷ z ∷ zs) four two = absurd (omega (arith, two))

pub two_are : (zs : PointValue) → length zs ≡ 2 → zs ≡ slice_index_or zs 0 (pos 0) ∷ slice_index_or zs 1 (pos 0) ∷ []
two_are [] two = absurd (omega (arith, two))
two_are (x ∷ []) two = absurd (omega (arith, two))
two_are (x ∷ y ∷ []) two = refl
two_are (x ∷ y ∷ z ∷ zs) two = absurd (omega (arith, two))

-- if such a point can be read, it is the two numbers that were read there, and the sums fit
pub two_fit : (s zs : PointValue) (a b stop : Reading) (p : PointValue) → length zs ≡ 2 → IsSound a → ReadsNumbers a b zs → point_at 2 s a ≡ (Ok p, stop)
    → (p ≡ zs) × (stop ≡ b) × FitsSigned w64 (slice_index_or s 0 (pos 0) +ℤ slice_index_or zs 0 (pos 0)) × FitsSigned w64 (slice_index_or s 1 (pos 0) +ℤ slice_index_or zs 1 (pos 0))
two_fit s zs a b stop p two sound read e =
    let is = point_of s a b zs stop p sound read (subst (λ (n : ℕ). point_at n s a ≡ (Ok p, stop)) (sym two) e) in
    let at = λ (l : PointValue) (k : ℕ). unwrap_or-slice_get l k (pos 0) in (
      is.same,
      is.there,
      subst (FitsSigned w64) (ap₂ ◌+ℤ◌ (at s 0) (at zs 0)) (fits_signed (coordinate s 0 +ℤ coordinate zs 0) (is.fit 0 (omega (arith, two)))),
      subst (FitsSigned w64) (ap₂ ◌+ℤ◌ (at s 1) (at zs 1)) (fits_signed (coordinate s 1 +ℤ coordinate zs 1) (is.fit 1 (omega (arith, two)))),
    )

-- if it can be read, no fault comes first
pub two_stand : (s : PointValue) (a b stop : Reading) (p : PointValue) (fault : NumFault) → IsSound a → StopsReading 2 a b fault → point_at 2 s a ≡ (Ok p, stop) → ⊥
two_stand s a b stop p fault sound stops e =
    run_ends_early 2 1 s a stops.middle b stops.numbers fault sound stops.read (omega (arith, stops.fewer)) stops.stops (p ∷ []) stop (many_then add (point_at 2) 0 s a stop p (Ok [], stop) e refl)
