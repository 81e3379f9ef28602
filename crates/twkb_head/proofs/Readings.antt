-- Reading from a cursor: the plan's reading of the bytes from the place on.
use Rattle.twkb_head.proofs.Prelude.{◌≡◌, ℕ, zero, suc, ◌+◌, ◌-◌, ◌≤◌, Bool, true, false, List, ◌++◌, length, drop, Option, Some, None, cond, ◌%◌, ⊎_elim, subst, Result, Ok, Err, refl, sym, ap, ◌∙◌, arith, length-append, drop-drop, common_steps, Reading, rest, added, counted, IsMoved, IsSound, IsCut, IsLong, Field, type_field, byte_field, number_field, coordinate_field, IsField, Request, type_byte, byte, number, coordinate, field_of, cut_varint, cut_byte, cut_field, kind_of_code, judge_kind, judge, Plan, done, ask, bind, Answer, ◌>>=◌, past, looked_in, read_judged, read_field, read, Fails, IsMoved-here, IsMoved-after, IsSound-moved, Kind as KindOf, GeometryCollection, Why, Cut, Varint, Depth, Range, Malformed}
use Rattle.twkb_head.proofs.Spelling.{Fault, fault, after_judged, run_field, run}
use Rattle.twkb_head.specs.declared.refusal.Why.TheVariants.{Kind}
use Rattle.twkb_head.proofs.FieldCuts.{ok_is, field_takes, number_fails, byte_fails}

-- no answer is both a value and a fault
pub ok_not_err : {A : Type 0} (x : A) (m : Malformed) (a b : Reading) → (let z : Answer A = (Ok x, a) in z ≡ (Err m, b)) → ⊥
ok_not_err {A} x m a b e = apart (ap (λ (z : Answer A). z.0) e)
  where
    apart : (let z : Result A Malformed = Ok x in z ≡ Err m) → ⊥
    apart e = cc (e)

-- an answer has one value and one reading after it
pub one_answer : {A : Type 0} (a : Answer A) (x y : A) (r s : Reading) → a ≡ (Ok x, r) → a ≡ (Ok y, s) → (x ≡ y) × (r ≡ s)
one_answer {A} a x y r s e f =
    let both : (let z : Answer A = (Ok x, r) in z ≡ (Ok y, s)) = sym e ∙ f in
    (ok_is {A = A} {E = Malformed} x y (ap (λ (z : Answer A). z.0) both), ap (λ (z : Answer A). z.1) both)

pub no_failure : {A : Type 0} (a : Answer A) (x : A) (r new : Reading) (m : Malformed) → a ≡ (Ok x, r) → Fails a m new → ⊥
no_failure {A} a x r new m e f = ok_not_err x m r f.left (sym e ∙ f.is)

-- reading by one plan and then another is reading by the first and then by the second
pub read-bind : {A B : Type 0} (p : Plan A) (k : A → Plan B) (r : Reading) → read (bind p k) r ≡ (read p r >>= λ x. read (k x))
read-bind (done x) k r = refl
read-bind {A} {B} (ask q next) k r = go (cut_field (field_of q) (rest r)) (λ front r. read-bind (next front) k r)
  where
    whole : (j : Option Why) (x : List ℕ × List ℕ) → ((front : List ℕ) (r : Reading) → read (bind (next front) k) r ≡ (read (next front) r >>= λ x. read (k x)))
        → read_judged {A = B} j (length x.0) (read (bind (next x.0) k)) r ≡ (read_judged {A = A} j (length x.0) (read (next x.0)) r >>= λ x. read (k x))
    whole None x ih = ih x.0 (past (length x.0) r)
    whole (Some w) x ih = refl

    go : (c : Result (List ℕ × List ℕ) Why) → ((front : List ℕ) (r : Reading) → read (bind (next front) k) r ≡ (read (next front) r >>= λ x. read (k x)))
        → read_field {A = B} q c (λ front. read (bind (next front) k)) r ≡ (read_field {A = A} q c (λ front. read (next front)) r >>= λ x. read (k x))
    go (Ok x) ih = whole (judge q x.0) x ih
    go (Err w) ih = refl

-- the rest after the bytes of a front
rest-past : (r : Reading) (front left : List ℕ) → rest r ≡ front ++ left → rest (past (length front) r) ≡ left
rest-past r front left e =
    let there : drop (length front) (drop r.place r.bytes) ≡ drop (r.place + length front) r.bytes = drop-drop (length front) r.place r.bytes ∙ ap (λ n. drop n r.bytes) (omega arith) in
    sym there ∙ ap (drop (length front)) e ∙ grind (arith, common_steps)

-- how many bytes of a wrong field are looked at
abbrev pub IsLooked : Why → List ℕ → ℕ → Type 0
IsLooked Cut f n = n ≡ length f
IsLooked Varint f n = n ≡ 10
IsLooked Kind f n = n ≡ 1
IsLooked Depth f n = n ≡ 1
IsLooked Range f n = Unit {0}

-- reading failed at a field, and left the cursor at that field
pub record IsFailedAt {A : Type 0} (r : Reading) (m : Malformed) (new : Reading) (q : Result (A × List ℕ) Fault) : Type 0 where
  pub due : Field
  pub looked : ℕ
  pub is : q ≡ Err (fault m.why due (drop m.offset r.bytes))
  pub ahead : r.place ≤ m.offset
  pub within : m.offset ≤ length r.bytes
  pub looked_is : IsLooked m.why (drop m.offset r.bytes) looked
  pub left : new ≡ record { bytes = r.bytes; place = m.offset; count = added r.count (m.offset - r.place + looked) }

-- how a reading from r ends, where q is what the plan gives for the bytes
abbrev pub Ends : {A : Type 0} → Reading → Answer A → Result (A × List ℕ) Fault → Type 0
Ends r (Ok x, new) q = (q ≡ Ok (x, rest new)) × IsMoved r new
Ends r (Err m, new) q = IsFailedAt r m new q

pub reading_path : (a b : Reading) → a.bytes ≡ b.bytes → a.place ≡ b.place → a.count ≡ b.count → a ≡ b
reading_path a b x y z = λ j. record { bytes = x j; place = y j; count = z j }

Ends-after : {A : Type 0} (r mid : Reading) (a : Answer A) (q : Result (A × List ℕ) Fault) → IsMoved r mid → Ends mid a q → Ends r a q
Ends-after r mid (Ok x, new) q m e = (e.0, IsMoved-after r mid new m e.1)
Ends-after r mid (Err w, new) q m e = record {
  due = e.due;
  looked = e.looked;
  is = e.is ∙ ap (λ (bs : List ℕ). Err (fault w.why e.due (drop w.offset bs))) m.bytes;
  ahead = omega (arith, m.ahead, e.ahead);
  within = omega (arith, e.within, ap length m.bytes);
  looked_is = subst (λ (bs : List ℕ). IsLooked w.why (drop w.offset bs) e.looked) m.bytes e.looked_is;
  left = e.left ∙ reading_path _ _ m.bytes refl (omega (arith, m.count, m.ahead, e.ahead));
}

moved_past : (r : Reading) (front left : List ℕ) → IsSound r → rest r ≡ front ++ left → IsMoved r (past (length front) r)
moved_past r front left sound e =
    let whole : length (rest r) ≡ length r.bytes - r.place = grind (arith, common_steps) in
    let parts : length (rest r) ≡ length front + length left = ap length e ∙ length-append front left in
    let on : r.place + length front - r.place ≡ length front = omega arith in
    record {
      bytes = refl;
      ahead = omega arith;
      within = omega (arith, whole, parts, sound.within);
      count = rw on refl;
    }

-- a fault at the place itself
failed_here : {A : Type 0} (r : Reading) (w : Why) (due : Field) (n : ℕ) (q : Result (A × List ℕ) Fault) → IsSound r → q ≡ Err (fault w due (rest r)) → IsLooked w (rest r) n
    → IsFailedAt r (record { offset = r.place; why = w }) (counted r n) q
failed_here r w due n q sound e looked =
    let none : r.place - r.place + n ≡ n = omega arith in
    record {
      due = due;
      looked = n;
      is = e;
      ahead = omega arith;
      within = sound.within;
      looked_is = looked;
      left = rw none refl;
    }

looked_kind : (levels : ℕ) (o : Option KindOf) (w : Why) (f : List ℕ) → judge_kind levels o ≡ Some w → IsLooked w f 1
looked_kind levels None w f e = let same : Kind ≡ w = cc in subst (λ (v : Why). IsLooked v f 1) same refl
looked_kind zero (Some GeometryCollection) w f e = let same : Depth ≡ w = cc in subst (λ (v : Why). IsLooked v f 1) same refl
looked_kind (suc levels) (Some GeometryCollection) w f e = absurd (cc (e))
looked_kind zero (Some _) w f e = absurd (cc (e))
looked_kind (suc levels) (Some _) w f e = absurd (cc (e))

looked_range : (b : Bool) (w : Why) (f : List ℕ) (n : ℕ) → cond b None (Some Range) ≡ Some w → IsLooked w f n
looked_range true w f n e = absurd (cc (e))
looked_range false w f n e = let same : Range ≡ w = cc in subst (λ (v : Why). IsLooked v f n) same tt

-- a field that is refused as a whole
looked_whole : (q : Request) (front : List ℕ) (w : Why) (f : List ℕ) → IsField (field_of q) front → judge q front ≡ Some w → IsLooked w f (length front)
looked_whole (type_byte levels) front w f (b, e) bad =
    subst (λ (z : List ℕ). IsLooked w f (length z)) (sym e) (looked_kind levels (kind_of_code (b % 16)) w f (subst (λ (z : List ℕ). judge (type_byte levels) z ≡ Some w) e bad))
looked_whole byte front w f h bad = absurd (cc (bad))
looked_whole number front w f h bad = absurd (cc (bad))
looked_whole (coordinate c) front w f h bad = looked_range _ w f (length front) bad

looked_varint : (w : Why) (f : List ℕ) → cut_varint 9 f ≡ Err w → IsLooked w f (looked_in w f)
looked_varint w f e = ⊎_elim
    (λ (h : (w ≡ Cut) × IsCut f). subst (λ (v : Why). IsLooked v f (looked_in v f)) (sym h.0) refl)
    (λ (h : (w ≡ Varint) × IsLong f). subst (λ (v : Why). IsLooked v f (looked_in v f)) (sym h.0) refl)
    (number_fails f w e)

looked_byte : (w : Why) (f : List ℕ) → cut_byte f ≡ Err w → IsLooked w f (looked_in w f)
looked_byte w f e = subst (λ (v : Why). IsLooked v f (looked_in v f)) (sym (byte_fails f w e).0) refl

-- a field that cannot be cut off
looked_part : (d : Field) (w : Why) (f : List ℕ) → cut_field d f ≡ Err w → IsLooked w f (looked_in w f)
looked_part type_field w f e = looked_byte w f e
looked_part byte_field w f e = looked_byte w f e
looked_part number_field w f e = looked_varint w f e
looked_part coordinate_field w f e = looked_varint w f e

-- reading from a cursor is reading of the bytes from its place on
pub read_ends : {A : Type 0} (p : Plan A) (r : Reading) → IsSound r → Ends r (read p r) (run p (rest r))
read_ends (done x) r sound = (refl, IsMoved-here r sound)
read_ends {A} (ask q next) r sound = go (cut_field (field_of q) (rest r)) refl (λ front r. read_ends (next front) r)
  where
    whole : (x : List ℕ × List ℕ) → rest r ≡ x.0 ++ x.1 → IsField (field_of q) x.0 → (j : Option Why) → judge q x.0 ≡ j
        → ((front : List ℕ) (r : Reading) → IsSound r → Ends r (read (next front) r) (run (next front) (rest r)))
        → Ends r (read_judged {A = A} j (length x.0) (read (next x.0)) r) (after_judged {B = A × List ℕ} j (field_of q) (rest r) (λ u. run (next x.0) x.1))
    whole x parts field None is ih =
        let moved = moved_past r x.0 x.1 sound parts in
        let there = ih x.0 (past (length x.0) r) (IsSound-moved r (past (length x.0) r) sound moved) in
        Ends-after r (past (length x.0) r) (read (next x.0) (past (length x.0) r)) (run (next x.0) x.1) moved
        (subst (λ (z : List ℕ). Ends (past (length x.0) r) (read (next x.0) (past (length x.0) r)) (run (next x.0) z)) (rest-past r x.0 x.1 parts) there)
    whole x parts field (Some w) is ih = failed_here r w (field_of q) (length x.0) (Err (fault w (field_of q) (rest r))) sound refl (looked_whole q x.0 w (rest r) field is)

    go : (c : Result (List ℕ × List ℕ) Why) → cut_field (field_of q) (rest r) ≡ c
        → ((front : List ℕ) (r : Reading) → IsSound r → Ends r (read (next front) r) (run (next front) (rest r)))
        → Ends r (read_field {A = A} q c (λ front. read (next front)) r) (run_field {B = A × List ℕ} q c (rest r) (λ front left. run (next front) left))
    go (Ok x) cut ih = let t = field_takes (field_of q) (rest r) x cut in whole x t.0 t.1 (judge q x.0) refl ih
    go (Err w) cut ih = failed_here r w (field_of q) (looked_in w (rest r)) (Err (fault w (field_of q) (rest r))) sound refl (looked_part (field_of q) w (rest r) cut)

-- a value that is read from a cursor is what the plan reads from the bytes
pub read_ok : {A : Type 0} (p : Plan A) (r new : Reading) (x : A) → IsSound r → read p r ≡ (Ok x, new) → (run p (rest r) ≡ Ok (x, rest new)) × IsMoved r new
read_ok p r new x sound e = subst (λ (a : Answer _). Ends r a (run p (rest r))) e (read_ends p r sound)

-- if reading from a cursor fails, reading the bytes fails at the same field
pub read_err : {A : Type 0} (p : Plan A) (r new : Reading) (m : Malformed) → IsSound r → read p r ≡ (Err m, new) → IsFailedAt r m new (run p (rest r))
read_err p r new m sound e = subst (λ (a : Answer _). Ends r a (run p (rest r))) e (read_ends p r sound)
