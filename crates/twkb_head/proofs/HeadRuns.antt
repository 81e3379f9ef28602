-- The header as code reads it is the one that the plan reads.
use Rattle.twkb_head.proofs.Prelude.{◌≡◌, ℕ, zero, suc, ◌+◌, ◌-◌, ◌*◌, ◌/◌, ◌≤◌, slice_index, Bool, true, false, List, [], ◌∷◌, length, ℤ, pos, ◌+ℤ◌, Option, Some, None, Result, Ok, Err, refl, sym, ap, ap₂, ◌∙◌, arith, Reading, rest, zigzag_value, has_bit, z_in, m_in, axes_with, span_at, bounds_of, head_of, Plan, done, ask, bind, byte, type_byte, field_of, cut_field, cut_byte, judge, many, measure, optional, type_plan, byte_plan, number_plan, signed_plan, signeds_plan, ranges_of, box_plan, HeadValue, head_from, after_size, after_extended, after_metadata, after_type, head_plan, kind_from, Answer, Reader, ◌>>=◌, viewed, past, read_judged, read_field, read, number_at, signed_at, optional_at, many_at, signeds_at, range_from, type_at, byte_at, head_with, bounds_from, head_at, Kind, Bounds, Head, Why}
use Rattle.twkb_head.proofs.Readings.{read-bind}

-- a box, by the number of axes
abbrev pub box_at : ℕ → Reader (List (ℤ × ℤ))
box_at axes r = viewed ranges_of (signeds_at (2 * axes) r)

-- a plan whose value is made of another's
pub read-done : {A B : Type 0} (p : Plan A) (f : A → B) (r : Reading) → read (bind p (λ x. done (f x))) r ≡ viewed f (read p r)
read-done {A} {B} p f r = read-bind p (λ x. done (f x)) r ∙ under (read p r)
  where
    under : (a : Answer A) → (a >>= λ x. read {A = B} (done (f x))) ≡ viewed f a
    under (Ok x, r) = refl
    under (Err m, r) = refl

pub read-optional : {A : Type 0} (there : Bool) (p : Plan A) (r : Reading) → read (optional there p) r ≡ optional_at there (read p) r
read-optional false p r = refl
read-optional true p r = read-done p Some r

-- reading a plan of many values is reading each value by its plan
pub read-many : {A S : Type 0} (n : ℕ) (after : S → A → S) (plan : S → Plan A) (s : S) (r : Reading) → read (many n after plan s) r ≡ many_at n after (λ s. read (plan s)) s r
read-many zero after plan s r = refl
read-many {A} (suc n) after plan s r =
    read-bind (plan s) (λ x. bind (many n after plan (after s x)) (λ xs. done (x ∷ xs))) r ∙ under (read (plan s) r) (λ x r. read-many n after plan (after s x) r)
  where
    under : (a : Answer A) → ((x : A) (r : Reading) → read (many n after plan (after s x)) r ≡ many_at n after (λ s. read (plan s)) (after s x) r)
        → (a >>= λ x. read (bind (many n after plan (after s x)) (λ xs. done (x ∷ xs)))) ≡ (a >>= λ x r. viewed (λ xs. x ∷ xs) (many_at n after (λ s. read (plan s)) (after s x) r))
    under (Ok x, r) ih = read-done (many n after plan (after s x)) (λ xs. x ∷ xs) r ∙ ap (viewed (λ xs. x ∷ xs)) (ih x r)
    under (Err m, r) ih = refl

-- reading the plan of a box is reading its ranges
pub read-box : (axes : ℕ) (r : Reading) → read (box_plan axes) r ≡ box_at axes r
unfolding signed_at
read-box axes r = read-done (signeds_plan (2 * axes)) ranges_of r ∙ ap (viewed ranges_of) (read-many (2 * axes) (λ (s z : ℤ). s) (λ (s : ℤ). signed_plan) (pos 0) r)

-- two more numbers are one more range
more_ranges : (n : ℕ) (r : Reading) → viewed ranges_of (signeds_at (suc (suc n)) r) ≡ (range_from r >>= λ range a. viewed (λ ranges. range ∷ ranges) (viewed ranges_of (signeds_at n a)))
unfolding range_from
more_ranges n r = first (signed_at r)
  where
    third : (low width : ℤ) (a : Answer (List ℤ)) → viewed ranges_of (viewed (λ zs. low ∷ zs) (viewed (λ zs. width ∷ zs) a)) ≡ viewed (λ ranges. (low, low +ℤ width) ∷ ranges) (viewed ranges_of a)
    third low width (Ok zs, r) = refl
    third low width (Err m, r) = refl

    second : (low : ℤ) (a : Answer ℤ)
        → viewed ranges_of (viewed (λ zs. low ∷ zs) (a >>= λ width b. viewed (λ zs. width ∷ zs) (signeds_at n b)))
        ≡ (viewed (λ width. (low, low +ℤ width)) a >>= λ range b. viewed (λ ranges. range ∷ ranges) (viewed ranges_of (signeds_at n b)))
    second low (Ok width, r) = third low width (signeds_at n r)
    second low (Err m, r) = refl

    first : (a : Answer ℤ)
        → viewed ranges_of (a >>= λ low a. viewed (λ zs. low ∷ zs) (signed_at a >>= λ width b. viewed (λ zs. width ∷ zs) (signeds_at n b)))
        ≡ ((a >>= λ low a. viewed (λ width. (low, low +ℤ width)) (signed_at a)) >>= λ range b. viewed (λ ranges. range ∷ ranges) (viewed ranges_of (signeds_at n b)))
    first (Ok low, r) = second low (signed_at r)
    first (Err m, r) = refl

-- the range of one axis, with n numbers after it
module _ {B C : Type 0} (n : ℕ) (G : List (ℤ × ℤ) → B) (f : ℤ × ℤ → C) (r : Reading) where
  range_then : (k : C → Reader B) → ((x : ℤ × ℤ) (a : Reading) → viewed (λ ranges. G (x ∷ ranges)) (viewed ranges_of (signeds_at n a)) ≡ k (f x) a)
      → viewed G (viewed ranges_of (signeds_at (suc (suc n)) r)) ≡ (viewed f (range_from r) >>= k)
  range_then k h = ap (viewed G) (more_ranges n r) ∙ go (range_from r)
    where
      inner : (x : ℤ × ℤ) (a : Answer (List (ℤ × ℤ))) → viewed G (viewed (λ ranges. x ∷ ranges) a) ≡ viewed (λ ranges. G (x ∷ ranges)) a
      inner x (Ok y, a) = refl
      inner x (Err m, a) = refl

      go : (q : Answer (ℤ × ℤ)) → viewed G (q >>= λ x a. viewed (λ ranges. x ∷ ranges) (viewed ranges_of (signeds_at n a))) ≡ (viewed f q >>= k)
      go (Ok x, a) = inner x (viewed ranges_of (signeds_at n a)) ∙ h x a
      go (Err m, a) = refl

-- the last range
range_last : {B C : Type 0} (G : List (ℤ × ℤ) → B) (f : ℤ × ℤ → C) (g : C → B) (r : Reading) → ((x : ℤ × ℤ) → G (x ∷ []) ≡ g (f x))
    → viewed G (viewed ranges_of (signeds_at 2 r)) ≡ viewed g (viewed f (range_from r))
range_last {B} {C} G f g r h = ap (viewed G) (more_ranges 0 r) ∙ go (range_from r)
  where
    go : (q : Answer (ℤ × ℤ)) → viewed G (q >>= λ x a. viewed (λ ranges. x ∷ ranges) (viewed ranges_of (signeds_at 0 a))) ≡ viewed g (viewed f q)
    go (Ok x, a) = ap (λ (y : B). (Ok y, a)) (h x)
    go (Err m, a) = refl

-- the box as code reads it
pub bounds_runs : (xy : ℤ) (z m : Option ℕ) (r : Reading) → viewed (bounds_of xy z m) (box_at (axes_with z m) r) ≡ bounds_from xy z m r
unfolding bounds_from
bounds_runs xy None None r =
    range_then 2 (bounds_of xy None None) (span_at xy) r _ (λ x a.
    range_then 0 (λ rs. bounds_of xy None None (x ∷ rs)) (span_at xy) a _ (λ y b. refl))
bounds_runs xy (Some p) None r =
    range_then 4 (bounds_of xy (Some p) None) (span_at xy) r _ (λ x a.
    range_then 2 (λ rs. bounds_of xy (Some p) None (x ∷ rs)) (span_at xy) a _ (λ y b.
    range_then 0 (λ rs. bounds_of xy (Some p) None (x ∷ y ∷ rs)) (λ range. Some (span_at (pos p) range)) b _ (λ z c. refl)))
bounds_runs xy None (Some q) r =
    range_then 4 (bounds_of xy None (Some q)) (span_at xy) r _ (λ x a.
    range_then 2 (λ rs. bounds_of xy None (Some q) (x ∷ rs)) (span_at xy) a _ (λ y b.
    range_last (λ rs. bounds_of xy None (Some q) (x ∷ y ∷ rs)) (λ range. Some (span_at (pos q) range)) _ b (λ z. refl)))
bounds_runs xy (Some p) (Some q) r =
    range_then 6 (bounds_of xy (Some p) (Some q)) (span_at xy) r _ (λ x a.
    range_then 4 (λ rs. bounds_of xy (Some p) (Some q) (x ∷ rs)) (span_at xy) a _ (λ y b.
    range_then 2 (λ rs. bounds_of xy (Some p) (Some q) (x ∷ y ∷ rs)) (λ range. Some (span_at (pos p) range)) b _ (λ z c.
    range_last (λ rs. bounds_of xy (Some p) (Some q) (x ∷ y ∷ z ∷ rs)) (λ range. Some (span_at (pos q) range)) _ c (λ t. refl))))

-- ---- places
-- an answer that is a value leaves the place where it was or further
abbrev pub Ahead : {A : Type 0} → Reading → Answer A → Type 0
Ahead r (Ok x, a) = r.place ≤ a.place
Ahead r (Err m, a) = Unit {0}

-- an answer that is a value leaves the place one byte further
abbrev pub OneFurther : {A : Type 0} → Reading → Answer A → Type 0
OneFurther r (Ok x, a) = a.place ≡ r.place + 1
OneFurther r (Err m, a) = Unit {0}

ahead_further : {A : Type 0} (n : ℕ) (r : Reading) (a : Answer A) → Ahead (past n r) a → Ahead r a
ahead_further n r (Ok x, a) h = omega (arith, h)
ahead_further n r (Err m, a) h = tt

pub read_ahead : {A : Type 0} (p : Plan A) (r : Reading) → Ahead r (read p r)
read_ahead (done x) r = omega arith
read_ahead {A} (ask q next) r = go (cut_field (field_of q) (rest r)) (λ front r. read_ahead (next front) r)
  where
    whole : (j : Option Why) (x : List ℕ × List ℕ) → ((front : List ℕ) (r : Reading) → Ahead r (read (next front) r)) → Ahead r (read_judged {A = A} j (length x.0) (read (next x.0)) r)
    whole None x ih = ahead_further (length x.0) r (read (next x.0) (past (length x.0) r)) (ih x.0 (past (length x.0) r))
    whole (Some w) x ih = tt

    go : (c : Result (List ℕ × List ℕ) Why) → ((front : List ℕ) (r : Reading) → Ahead r (read (next front) r)) → Ahead r (read_field {A = A} q c (λ front. read (next front)) r)
    go (Ok x) ih = whole (judge q x.0) x ih
    go (Err w) ih = tt

abbrev pub lengthened : {A : Type 0} → ℕ → Reading → Answer A → Answer (A × ℕ)
lengthened n r (Ok x, a) = (Ok (x, n + (a.place - r.place)), a)
lengthened n r (Err m, a) = (Err m, a)

length_from : {A : Type 0} (n k : ℕ) (r : Reading) (a : Answer A) → Ahead (past k r) a → lengthened (n + k) (past k r) a ≡ lengthened n r a
length_from n k r (Ok x, a) h = ap (λ (l : ℕ). (Ok (x, l), a)) (omega (arith, h))
length_from n k r (Err m, a) h = refl

-- the value, and how far reading has come
pub read-measure : {A : Type 0} (n : ℕ) (p : Plan A) (r : Reading) → read (measure n p) r ≡ lengthened n r (read p r)
read-measure {A} n (done x) r = let e : n ≡ n + (r.place - r.place) = omega arith in ap (λ (k : ℕ). (Ok (x, k), r)) e
read-measure {A} n (ask q next) r = go (cut_field (field_of q) (rest r)) (λ front r. read-measure (n + length front) (next front) r)
  where
    whole : (j : Option Why) (x : List ℕ × List ℕ) → ((front : List ℕ) (r : Reading) → read (measure (n + length front) (next front)) r ≡ lengthened (n + length front) r (read (next front) r))
        → read_judged {A = A × ℕ} j (length x.0) (read (measure (n + length x.0) (next x.0))) r ≡ lengthened n r (read_judged {A = A} j (length x.0) (read (next x.0)) r)
    whole None x ih = ih x.0 (past (length x.0) r) ∙ length_from n (length x.0) r (read (next x.0) (past (length x.0) r)) (read_ahead (next x.0) (past (length x.0) r))
    whole (Some w) x ih = refl

    go : (c : Result (List ℕ × List ℕ) Why) → ((front : List ℕ) (r : Reading) → read (measure (n + length front) (next front)) r ≡ lengthened (n + length front) r (read (next front) r))
        → read_field {A = A × ℕ} q c (λ front. read (measure (n + length front) (next front))) r ≡ lengthened n r (read_field {A = A} q c (λ front. read (next front)) r)
    go (Ok x) ih = whole (judge q x.0) x ih
    go (Err w) ih = refl

pub one_byte : (r : Reading) → OneFurther r (read byte_plan r)
one_byte r = go (rest r)
  where
    go : (bs : List ℕ) → OneFurther r (read_field {A = ℕ} byte (cut_byte bs) (λ (field : List ℕ). read (done (slice_index field 0))) r)
    go [] = tt
    go (y ∷ bs) = refl

pub one_type : (levels : ℕ) (r : Reading) → OneFurther r (read (type_plan levels) r)
one_type levels r = go (rest r)
  where
    whole : (y : ℕ) (j : Option Why) → OneFurther r (read_judged {A = ℕ} j 1 (read (done y)) r)
    whole y None = refl
    whole y (Some w) = tt

    go : (bs : List ℕ) → OneFurther r (read_field {A = ℕ} (type_byte levels) (cut_byte bs) (λ (field : List ℕ). read (done (slice_index field 0))) r)
    go [] = tt
    go (y ∷ bs) = whole y (judge (type_byte levels) (y ∷ []))

optional_ahead : {A : Type 0} (there : Bool) (p : Plan A) (r : Reading) → Ahead r (optional_at there (read p) r)
optional_ahead false p r = omega arith
optional_ahead {A} true p r = go (read p r) (read_ahead p r)
  where
    go : (a : Answer A) → Ahead r a → Ahead r (viewed Some a)
    go (Ok x, a) h = h
    go (Err m, a) h = tt

-- ---- the header
-- the code's form of a header that was read from a place
abbrev pub placed : Reading → Answer HeadValue → Answer Head
placed r (Ok x, e) = (Ok (head_of x.header r.place (r.place + x.before) (r.place + x.before + x.size) e.place), e)
placed r (Err m, e) = (Err m, e)

module _ (r : Reading) (t metadata : ℕ) where
  -- the header, where all its fields were read
  abbrev head_end : Option ℕ → Option ℕ → Reading → Reading → Option Bounds → Reader Head
  head_end extended size c d bounds e = (Ok (head_with (kind_from t) (zigzag_value (t / 16)) metadata extended size bounds r.place c.place d.place e.place), e)

  module _ (extended size : Option ℕ) (x y : ℕ) (c d : Reading) (at : r.place + (2 + x) ≡ c.place) (then : r.place + (2 + x) + y ≡ d.place) where
    boxed : (there : Bool) → placed r (viewed (head_from t metadata (extended, x) (size, y)) (optional_at there (read (box_plan (axes_with (z_in extended) (m_in extended)))) d))
        ≡ (optional_at there (bounds_from (zigzag_value (t / 16)) (z_in extended) (m_in extended)) d >>= head_end extended size c d)
    boxed false = ap₂ (λ (a b : ℕ). (Ok (head_with (kind_from t) (zigzag_value (t / 16)) metadata extended size None r.place a b d.place), d)) at then
    boxed true =
        ap (λ (q : Answer (List (ℤ × ℤ))). placed r (viewed (head_from t metadata (extended, x) (size, y)) (viewed Some q))) (read-box (axes_with (z_in extended) (m_in extended)) d)
        ∙ go (box_at (axes_with (z_in extended) (m_in extended)) d)
        ∙ ap (λ (q : Answer Bounds). viewed Some q >>= head_end extended size c d) (bounds_runs (zigzag_value (t / 16)) (z_in extended) (m_in extended) d)
      where
        go : (q : Answer (List (ℤ × ℤ))) → placed r (viewed (head_from t metadata (extended, x) (size, y)) (viewed Some q))
            ≡ (viewed Some (viewed (bounds_of (zigzag_value (t / 16)) (z_in extended) (m_in extended)) q) >>= head_end extended size c d)
        go (Ok rs, e) = ap₂ (λ (a b : ℕ). (Ok (head_with (kind_from t) (zigzag_value (t / 16)) metadata extended size (Some (bounds_of (zigzag_value (t / 16)) (z_in extended) (m_in extended) rs)) r.place a b e.place), e)) at then
        go (Err m, e) = refl

    after_size_runs : placed r (read (after_size t metadata (extended, x) (size, y)) d)
        ≡ (optional_at (has_bit metadata 1) (bounds_from (zigzag_value (t / 16)) (z_in extended) (m_in extended)) d >>= head_end extended size c d)
    after_size_runs =
        ap (placed r) (read-done (optional (has_bit metadata 1) (box_plan (axes_with (z_in extended) (m_in extended)))) (head_from t metadata (extended, x) (size, y)) d
        ∙ ap (viewed (head_from t metadata (extended, x) (size, y))) (read-optional (has_bit metadata 1) (box_plan (axes_with (z_in extended) (m_in extended))) d))
        ∙ boxed (has_bit metadata 1)

  -- the fields after the extended dimensions
  sized : (extended : Option ℕ) (x : ℕ) (c : Reading) → r.place + (2 + x) ≡ c.place → (q : Answer (Option ℕ)) → Ahead c q
      → placed r (lengthened 0 c q >>= λ size. read (after_size t metadata (extended, x) size))
      ≡ (q >>= λ size d. (optional_at (has_bit metadata 1) (bounds_from (zigzag_value (t / 16)) (z_in extended) (m_in extended)) d >>= head_end extended size c d))
  sized extended x c at (Ok size, d) h = after_size_runs extended size x (0 + (d.place - c.place)) c d at (omega (arith, h, at))
  sized extended x c at (Err m, d) h = refl

  size_runs : (extended : Option ℕ) (x : ℕ) (c : Reading) → r.place + (2 + x) ≡ c.place → placed r (read (after_extended t metadata (extended, x)) c)
      ≡ (optional_at (has_bit metadata 2) (read number_plan) c >>= λ size d. (optional_at (has_bit metadata 1) (bounds_from (zigzag_value (t / 16)) (z_in extended) (m_in extended)) d >>= head_end extended size c d))
  size_runs extended x c at =
      ap (placed r) (read-bind (measure 0 (optional (has_bit metadata 2) number_plan)) (after_size t metadata (extended, x)) c
      ∙ ap (λ (q : Answer (Option ℕ × ℕ)). q >>= λ size. read (after_size t metadata (extended, x) size))
      (read-measure 0 (optional (has_bit metadata 2) number_plan) c ∙ ap (lengthened 0 c) (read-optional (has_bit metadata 2) number_plan c)))
      ∙ sized extended x c at (optional_at (has_bit metadata 2) (read number_plan) c) (optional_ahead (has_bit metadata 2) number_plan c)

  -- the fields after the metadata byte
  extended_with : (b : Reading) → r.place + 2 ≡ b.place → (q : Answer (Option ℕ)) → Ahead b q
      → placed r (lengthened 0 b q >>= λ extended. read (after_extended t metadata extended))
      ≡ (q >>= λ extended c. (optional_at (has_bit metadata 2) (read number_plan) c >>= λ size d. (optional_at (has_bit metadata 1) (bounds_from (zigzag_value (t / 16)) (z_in extended) (m_in extended)) d >>= head_end extended size c d)))
  extended_with b at (Ok extended, c) h = size_runs extended (0 + (c.place - b.place)) c (omega (arith, h, at))
  extended_with b at (Err m, c) h = refl

  extended_runs : (b : Reading) → r.place + 2 ≡ b.place → placed r (read (after_metadata t metadata) b)
      ≡ (optional_at (has_bit metadata 8) (read byte_plan) b >>= λ extended c. (optional_at (has_bit metadata 2) (read number_plan) c >>= λ size d. (optional_at (has_bit metadata 1) (bounds_from (zigzag_value (t / 16)) (z_in extended) (m_in extended)) d >>= head_end extended size c d)))
  extended_runs b at =
      ap (placed r) (read-bind (measure 0 (optional (has_bit metadata 8) byte_plan)) (after_extended t metadata) b
      ∙ ap (λ (q : Answer (Option ℕ × ℕ)). q >>= λ extended. read (after_extended t metadata extended))
      (read-measure 0 (optional (has_bit metadata 8) byte_plan) b ∙ ap (lengthened 0 b) (read-optional (has_bit metadata 8) byte_plan b)))
      ∙ extended_with b at (optional_at (has_bit metadata 8) (read byte_plan) b) (optional_ahead (has_bit metadata 8) byte_plan b)

-- the fields after the metadata byte
abbrev rest_with : Reading → ℕ → ℕ → Reader Head
rest_with r t metadata b =
    optional_at (has_bit metadata 8) (read byte_plan) b >>= λ extended c. (optional_at (has_bit metadata 2) (read number_plan) c >>= λ size d. (optional_at (has_bit metadata 1) (bounds_from (zigzag_value (t / 16)) (z_in extended) (m_in extended)) d >>= head_end r t metadata extended size c d))

metadata_with : (r a : Reading) (t : ℕ) → a.place ≡ r.place + 1 → (q : Answer ℕ) → OneFurther a q → placed r (q >>= λ metadata. read (after_metadata t metadata)) ≡ (q >>= rest_with r t)
metadata_with r a t at (Ok metadata, b) h = extended_runs r t metadata b (omega (arith, at, h))
metadata_with r a t at (Err m, b) h = refl

-- the kind and the precision of X and Y, of a type byte that was read
abbrev kind_viewed : Answer ℕ → Answer (Kind × ℤ)
kind_viewed q = viewed (λ t. (kind_from t, zigzag_value (t / 16))) q

type_with : (levels : ℕ) (r : Reading) (q : Answer ℕ) → OneFurther r q
    → placed r (q >>= λ t. read (after_type t)) ≡ (kind_viewed q >>= λ type a. (read byte_plan a >>= λ metadata b. (optional_at (has_bit metadata 8) (read byte_plan) b >>= λ extended c. (optional_at (has_bit metadata 2) (read number_plan) c >>= λ size d. (optional_at (has_bit metadata 1) (bounds_from type.1 (z_in extended) (m_in extended)) d >>= λ bounds e. (Ok (head_with type.0 type.1 metadata extended size bounds r.place c.place d.place e.place), e))))))
type_with levels r (Ok t, a) h = ap (placed r) (read-bind byte_plan (after_metadata t) a) ∙ metadata_with r a t h (read byte_plan a) (one_byte a)
type_with levels r (Err m, a) h = refl

-- the header as code reads it is the header that the plan reads
pub head_runs : (levels : ℕ) (r : Reading) → head_at levels r ≡ placed r (read (head_plan levels) r)
unfolding head_at type_at byte_at number_at
head_runs levels r = sym (ap (placed r) (read-bind (type_plan levels) after_type r) ∙ type_with levels r (read (type_plan levels) r) (one_type levels r))
