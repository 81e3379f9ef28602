-- What a reader of headers answers, in the words of the definitions.
use Rattle.twkb_head.proofs.Prelude.{◌≡◌, ◌≢◌, ◌↔◌, ℕ, zero, suc, ◌+◌, ◌-◌, ◌%◌, ◌≤◌, List, [], ◌∷◌, ◌++◌, length, drop, Option, Some, None, Result, Ok, Err, ◌⊎◌, inl, inr, ⊎_elim, IfOk, OnOk, IfErr, IsOk, refl, sym, ap, ap₂, subst, ◌∙◌, arith, length-append, append_cancel_right, common_steps, Reading, rest, passed, added, counted, IsMoved, IsSound, IsCut, IsLong, Header, IsHeader, Field, type_field, byte_field, number_field, coordinate_field, IsField, IsBegunHeader, type_due, metadata_due, extended_due, size_due, box_due, IsAllowedAt, deepest, head_of, StartsWithHeader, IsHeadAt, IsWrongField, IsRefusedHead, looked_at_field, looked_at_until, Request, type_byte, byte, number, coordinate, field_of, cut_field, judge, judge_kind, kind_of_code, HeadValue, head_plan, Answer, read, head_at, rest-passed, Kind as KindOf, GeometryCollection, Why, Cut, Varint, Depth, Range, Malformed, Head}
use Rattle.twkb_head.proofs.Spelling.{Fault, fault, run}
use Rattle.twkb_head.specs.declared.refusal.Why.TheVariants.{Kind}
use Rattle.twkb_head.proofs.FieldCuts.{ok_is, err_is, byte_fails, number_fails}
use Rattle.twkb_head.proofs.Plans.{IsViableIn, IsRefused, no_field, no_value, run_takes, run_again, run_fails}
use Rattle.twkb_head.proofs.Combinators.{PlanLaws}
use Rattle.twkb_head.proofs.Heads.{no_kind, code_kind, allowed_at, allowed_with, IsHead, head_laws}
use Rattle.twkb_head.proofs.Readings.{IsLooked, read_ok, read_err, ok_not_err}
use Rattle.twkb_head.proofs.HeadRuns.{placed, head_runs}

-- a header that was read, as the plan has it
record IsReadByPlan (levels : ℕ) (r new : Reading) (head : Head) : Type 0 where
  value : HeadValue
  is : read (head_plan levels) r ≡ (Ok value, new)
  same : head ≡ head_of value.header r.place (r.place + value.before) (r.place + value.before + value.size) new.place

read_of : (levels : ℕ) (r new : Reading) (head : Head) → head_at levels r ≡ (Ok head, new) → IsReadByPlan levels r new head
read_of levels r new head e = go (read (head_plan levels) r) refl (sym (head_runs levels r) ∙ e)
  where
    go : (a : Answer HeadValue) → read (head_plan levels) r ≡ a → placed r a ≡ (Ok head, new) → IsReadByPlan levels r new head
    go (Ok x, a) is e =
        let left : a ≡ new = ap (λ (z : Answer Head). z.1) e in
        let made : head_of x.header r.place (r.place + x.before) (r.place + x.before + x.size) a.place ≡ head = ok_is {A = Head} {E = Malformed} _ _ (ap (λ (z : Answer Head). z.0) e) in
        record {
          value = x;
          is = is ∙ ap (λ (b : Reading). (Ok x, b)) left;
          same = sym made ∙ ap (λ (b : Reading). head_of x.header r.place (r.place + x.before) (r.place + x.before + x.size) b.place) left;
        }
    go (Err m, a) is e = absurd (ok_not_err head m new a (sym e))

failed_of : (levels : ℕ) (r new : Reading) (m : Malformed) → head_at levels r ≡ (Err m, new) → read (head_plan levels) r ≡ (Err m, new)
failed_of levels r new m e = go (read (head_plan levels) r) refl (sym (head_runs levels r) ∙ e)
  where
    go : (a : Answer HeadValue) → read (head_plan levels) r ≡ a → placed r a ≡ (Err m, new) → read (head_plan levels) r ≡ (Err m, new)
    go (Ok x, a) is e = absurd (ok_not_err (head_of x.header r.place (r.place + x.before) (r.place + x.before + x.size) a.place) m a new e)
    go (Err w, a) is e =
        let left : a ≡ new = ap (λ (z : Answer Head). z.1) e in
        let why : w ≡ m = err_is {A = Head} _ _ (ap (λ (z : Answer Head). z.0) e) in
        is ∙ ap₂ (λ (x : Malformed) (b : Reading). (Err x, b)) why left

-- a header whose places are given by other, equal terms
head_placed : (head : Head) (h : Header) (start a b c a' b' c' : ℕ) → head ≡ head_of h start a b c → a ≡ a' → b ≡ b' → c ≡ c' → head ≡ head_of h start a' b' c'
head_placed head h start a b c a' b' c' e x y z = e ∙ (λ j. head_of h start (x j) (y j) (z j))

-- ---- what is wrong with a field
-- a type byte that is refused names no kind, or a collection that is too deep
pub kind_fails : (levels : ℕ) (t : ℕ) (o : Option KindOf) (why : Why) → kind_of_code (t % 16) ≡ o → judge_kind levels o ≡ Some why
    → ((why ≡ Kind) × ((t % 16 ≡ 0) ⊎ (8 ≤ t % 16))) ⊎ ((why ≡ Depth) × (t % 16 ≡ 7))
kind_fails levels t None why e j = inl (cc (j), no_kind (t % 16) e)
kind_fails zero t (Some GeometryCollection) why e j = inr (cc (j), code_kind (t % 16) GeometryCollection e)
kind_fails (suc levels) t (Some GeometryCollection) why e j = absurd (cc (j))
kind_fails zero t (Some _) why e j = absurd (cc (j))
kind_fails (suc levels) t (Some _) why e j = absurd (cc (j))

no_coordinate : (limit depth : ℕ) (p : List ℕ) (due : Field) → IsBegunHeader limit depth p due → due ≡ coordinate_field → ⊥
no_coordinate limit depth p due (type_due e is) h = absurd (cc (is, h))
no_coordinate limit depth p due (metadata_due t start e is) h = absurd (cc (is, h))
no_coordinate limit depth p due (extended_due t m start has e is) h = absurd (cc (is, h))
no_coordinate limit depth p due (size_due t m ext eb start x has e is) h = absurd (cc (is, h))
no_coordinate limit depth p due (box_due t m ext size eb sb box zs start x y has few e is) h = absurd (cc (is, h))

pub type_first : (limit depth : ℕ) (p : List ℕ) (due : Field) → IsBegunHeader limit depth p due → due ≡ type_field → p ≡ []
type_first limit depth p due (type_due e is) h = e
type_first limit depth p due (metadata_due t start e is) h = absurd (cc (is, h))
type_first limit depth p due (extended_due t m start has e is) h = absurd (cc (is, h))
type_first limit depth p due (size_due t m ext eb start x has e is) h = absurd (cc (is, h))
type_first limit depth p due (box_due t m ext size eb sb box zs start x y has few e is) h = absurd (cc (is, h))

wrong_cut : (limit depth : ℕ) (due : Field) (why : Why) (f : List ℕ) → (due ≡ coordinate_field → ⊥) → cut_field due f ≡ Err why → IsWrongField limit depth why due f
wrong_cut limit depth type_field why f none e = let t = byte_fails f why e in subst (λ (w : Why). IsWrongField limit depth w type_field f) (sym t.0) t.1
wrong_cut limit depth byte_field why f none e = let t = byte_fails f why e in subst (λ (w : Why). IsWrongField limit depth w byte_field f) (sym t.0) t.1
wrong_cut limit depth number_field why f none e = ⊎_elim
    (λ (c : (why ≡ Cut) × IsCut f). subst (λ (w : Why). IsWrongField limit depth w number_field f) (sym c.0) c.1)
    (λ (c : (why ≡ Varint) × IsLong f). subst (λ (w : Why). IsWrongField limit depth w number_field f) (sym c.0) c.1)
    (number_fails f why e)
wrong_cut limit depth coordinate_field why f none e = absurd (none refl)

module _ (limit levels depth : ℕ) (deep : depth + levels ≡ limit) (some : 1 ≤ depth) where
  wrong_value : (q : Request) (why : Why) (p front behind f : List ℕ) → IsBegunHeader limit depth p (field_of q) → f ≡ front ++ behind → IsField (field_of q) front
      → judge q front ≡ Some why → (IsViableIn (head_plan levels) (p ++ front) → ⊥) → IsWrongField limit depth why (field_of q) f
  wrong_value (type_byte l) why p front behind f begun parts (b, e) bad none =
      ⊎_elim
      (λ (c : (why ≡ Kind) × ((b % 16 ≡ 0) ⊎ (8 ≤ b % 16))). subst (λ (w : Why). IsWrongField limit depth w type_field f) (sym c.0) (b, behind, whole, c.1))
      (λ (c : (why ≡ Depth) × (b % 16 ≡ 7)). subst (λ (w : Why). IsWrongField limit depth w type_field f) (sym c.0) (
        b,
        behind,
        whole,
        (
          c.1,
          λ allowed. none (inr (
            byte_field,
            (head_laws limit levels depth deep some).stops_back (p ++ front) byte_field
                (metadata_due b (record { kind = GeometryCollection; code = c.1; allowed = allowed }) first refl),
          )),
        ),
      ))
      (kind_fails l b (kind_of_code (b % 16)) why refl (subst (λ (z : List ℕ). judge (type_byte l) z ≡ Some why) e bad))
    where
      whole : f ≡ b ∷ behind
      whole = parts ∙ ap (λ (z : List ℕ). z ++ behind) e

      first : p ++ front ≡ b ∷ []
      first = ap (λ (z : List ℕ). z ++ front) (type_first limit depth p type_field begun refl) ∙ e
  wrong_value byte why p front behind f begun parts field bad none = absurd (cc (bad))
  wrong_value number why p front behind f begun parts field bad none = absurd (cc (bad))
  wrong_value (coordinate c) why p front behind f begun parts field bad none = absurd (no_coordinate limit depth p coordinate_field begun refl)

  wrong_of : (p : List ℕ) (why : Why) (due : Field) (f : List ℕ) → IsBegunHeader limit depth p due → IsRefused (head_plan levels) p why due f → IsWrongField limit depth why due f
  wrong_of p why due f begun (no_field cut) = wrong_cut limit depth due why f (no_coordinate limit depth p due begun) cut
  wrong_of p why due f begun (no_value q front behind is parts field bad none) =
      subst (λ (d : Field). IsWrongField limit depth why d f) (sym is)
      (wrong_value q why p front behind f (subst (IsBegunHeader limit depth p) is begun) parts (subst (λ (d : Field). IsField d front) is field) bad none)

-- how many bytes the fault showed
looked_at_same : (why : Why) (f : List ℕ) (n : ℕ) → (why ≡ Range → ⊥) → IsLooked why f n → n ≡ looked_at_field why f
looked_at_same Cut f n none h = h
looked_at_same Varint f n none h = h
looked_at_same Kind f n none h = h
looked_at_same Depth f n none h = h
looked_at_same Range f n none h = absurd (none refl)

no_range : (limit depth : ℕ) (why : Why) (due : Field) (f : List ℕ) → IsWrongField limit depth why due f → why ≡ Range → ⊥
no_range limit depth why due f h e = never limit depth due f (subst (λ (w : Why). IsWrongField limit depth w due f) e h)
  where
    never : (limit depth : ℕ) (due : Field) (f : List ℕ) → IsWrongField limit depth Range due f → ⊥
    never limit depth type_field f h = h
    never limit depth byte_field f h = h
    never limit depth number_field f h = h
    never limit depth coordinate_field f h = h

module _ (depth : ℕ) (some : 1 ≤ depth) (deep : depth ≤ deepest) (r new : Reading) (sound : IsSound r) where
  sum : depth + (deepest - depth) ≡ deepest
  sum = omega (arith, deep)

  laws : PlanLaws (head_plan (deepest - depth)) (IsHead (deepest - depth)) (IsBegunHeader deepest depth)
  laws = head_laws deepest (deepest - depth) depth sum some

  -- a header that was read begins at the place
  pub head_stands : (head : Head) → head_at (deepest - depth) r ≡ (Ok head, new) → IsHeadAt head depth r.place (passed r new) × IsMoved r new
  head_stands head e =
      let read = read_of (deepest - depth) r new head e in
      let ok = read_ok (head_plan (deepest - depth)) r new read.value sound read.is in
      let taken = run_takes (head_plan (deepest - depth)) (rest r) (read.value, rest new) ok.0 in
      let front : taken.0 ≡ passed r new = append_cancel_right taken.0 (passed r new) (rest new) (sym taken.1 ∙ rest-passed r new ok.1) in
      let h : IsHead (deepest - depth) read.value (passed r new) = subst (IsHead (deepest - depth) read.value) front (laws.spelled read.value taken.0 taken.2) in
      let long : length (passed r new) ≡ new.place - r.place = grind (arith, common_steps, ok.1.within) in
      let size_place : r.place + read.value.before ≡ r.place + 2 + length h.header.extended_bytes = omega (arith, h.before) in
      let box_place : r.place + read.value.before + read.value.size ≡ r.place + 2 + length h.header.extended_bytes + length h.header.size_bytes = omega (arith, h.before, h.size) in
      let stop : new.place ≡ r.place + length (passed r new) = omega (arith, long, ok.1.ahead) in (
        record {
          header = read.value.header;
          is = h.header;
          allowed = allowed_at deepest (deepest - depth) depth read.value.header.kind sum some h.allowed;
          fields = head_placed head read.value.header r.place (r.place + read.value.before) (r.place + read.value.before + read.value.size) new.place
              (r.place + 2 + length h.header.extended_bytes) (r.place + 2 + length h.header.extended_bytes + length h.header.size_bytes)
              (r.place + length (passed r new)) read.same size_place box_place stop;
        },
        ok.1,
      )

  -- if a header begins at the place, reading does not fail
  pub head_read : (h : Header) (front behind : List ℕ) (m : Malformed) → rest r ≡ front ++ behind → IsHeader h front → IsAllowedAt h.kind depth
      → head_at (deepest - depth) r ≡ (Err m, new) → ⊥
  head_read h front behind m parts is allowed e =
      let value : HeadValue = record { header = h; before = 2 + length is.extended_bytes; size = length is.size_bytes } in
      let spelled = laws.spelled_back value front (record { header = is; allowed = allowed_with deepest (deepest - depth) depth h.kind sum allowed; before = refl; size = refl }) in
      let ok = ap (run (head_plan (deepest - depth))) parts ∙ run_again (head_plan (deepest - depth)) value front behind spelled in
      let bad = read_err (head_plan (deepest - depth)) r new m sound (failed_of (deepest - depth) r new m e) in
      apart (value, behind) (fault m.why bad.due (drop m.offset r.bytes)) (run (head_plan (deepest - depth)) (rest r)) ok bad.is
    where
      apart : (x : HeadValue × List ℕ) (f : Fault) (q : Result (HeadValue × List ℕ) Fault) → q ≡ Ok x → q ≡ Err f → ⊥
      apart x f q a b = cc (a, b)

  -- if reading fails, a field is due, and it is wrong
  pub head_refused : (m : Malformed) → head_at (deepest - depth) r ≡ (Err m, new) → IsRefusedHead m depth r.place (rest r)
  head_refused m e =
      let bad = read_err (head_plan (deepest - depth)) r new m sound (failed_of (deepest - depth) r new m e) in
      let f = drop m.offset r.bytes in
      let failed = run_fails (head_plan (deepest - depth)) (rest r) m.why bad.due f bad.is in
      let begun = laws.stops failed.p bad.due failed.stops in
      let whole : length (rest r) ≡ length r.bytes - r.place = grind (arith, common_steps) in
      let behind : length f ≡ length r.bytes - m.offset = grind (arith, common_steps) in
      let parts : length (rest r) ≡ length failed.p + length f = ap length failed.parts ∙ length-append failed.p f in
      record {
        p = failed.p;
        f = f;
        due = bad.due;
        split = failed.parts;
        begun = begun;
        wrong = wrong_of deepest (deepest - depth) depth sum some failed.p m.why bad.due f begun failed.refused;
        offset = omega (arith, whole, behind, parts, bad.ahead, bad.within, sound.within);
      }

  -- if reading fails, the cursor is at the wrong field, and the bytes looked at are counted
  pub head_left : (m : Malformed) → head_at (deepest - depth) r ≡ (Err m, new)
      → new ≡ record { bytes = r.bytes; place = m.offset; count = added r.count (m.offset - r.place + looked_at_field m.why (drop m.offset r.bytes)) }
  head_left m e =
      let bad = read_err (head_plan (deepest - depth)) r new m sound (failed_of (deepest - depth) r new m e) in
      let failed = run_fails (head_plan (deepest - depth)) (rest r) m.why bad.due (drop m.offset r.bytes) bad.is in
      let begun = laws.stops failed.p bad.due failed.stops in
      let wrong = wrong_of deepest (deepest - depth) depth sum some failed.p m.why bad.due (drop m.offset r.bytes) begun failed.refused in
      let looked : bad.looked ≡ looked_at_field m.why (drop m.offset r.bytes) = looked_at_same m.why (drop m.offset r.bytes) bad.looked (no_range deepest depth m.why bad.due (drop m.offset r.bytes) wrong) bad.looked_is in
      bad.left ∙ ap (λ (n : ℕ). record { bytes = r.bytes; place = m.offset; count = added r.count (m.offset - r.place + n) }) looked

  -- the clauses of a function that answers as the reader of headers does
  pub head_ok : (result : Result Head Malformed) → head_at (deepest - depth) r ≡ (result, new) → IfOk result (λ head. IsHeadAt head depth r.place (passed r new))
  head_ok (Ok head) e = (head_stands head e).0
  head_ok (Err m) e = tt

  pub head_moved : (result : Result Head Malformed) → head_at (deepest - depth) r ≡ (result, new) → OnOk result (IsMoved r new)
  head_moved (Ok head) e = (head_stands head e).1
  head_moved (Err m) e = tt

  pub head_exact : (result : Result Head Malformed) → head_at (deepest - depth) r ≡ (result, new) → IsOk result ↔ StartsWithHeader depth (rest r)
  head_exact (Ok head) e =
      let stands = head_stands head e in (
        λ ok. record { header = stands.0.header; front = passed r new; behind = rest new; parts = rest-passed r new stands.1; is = stands.0.is; allowed = stands.0.allowed },
        λ starts. refl,
      )
  head_exact (Err m) e = (λ ok. absurd (cc (ok)), λ starts. absurd (head_read starts.header starts.front starts.behind m starts.parts starts.is starts.allowed e))

  pub head_err : (result : Result Head Malformed) → head_at (deepest - depth) r ≡ (result, new) → IfErr result (λ m. IsRefusedHead m depth r.place (rest r))
  head_err (Ok head) e = tt
  head_err (Err m) e = head_refused m e

  pub head_no_range : (result : Result Head Malformed) → head_at (deepest - depth) r ≡ (result, new) → IfErr result (λ m. m.why ≢ Range)
  head_no_range (Ok head) e = tt
  head_no_range (Err m) e = let bad = head_refused m e in no_range deepest depth m.why bad.due bad.f bad.wrong

  pub head_still : (result : Result Head Malformed) (back : Reading) → head_at (deepest - depth) r ≡ (result, new) → back ≡ record new { place = r.place }
      → IfErr result (λ m. back ≡ counted r (looked_at_until m r))
  head_still (Ok head) back e at = tt
  head_still (Err m) back e at = at ∙ ap (λ (b : Reading). record b { place = r.place }) (head_left m e)

  pub head_bytes : (result : Result Head Malformed) → head_at (deepest - depth) r ≡ (result, new) → new.bytes ≡ r.bytes
  head_bytes (Ok head) e = (head_stands head e).1.bytes
  head_bytes (Err m) e = ap (λ (b : Reading). b.bytes) (head_left m e)

-- a header has at least two bytes
pub header_two : (depth : ℕ) (bytes : List ℕ) → StartsWithHeader depth bytes → 2 ≤ length bytes
header_two depth bytes s = omega (arith, ap length s.parts, length-append s.front s.behind, ap length s.is.fields)
