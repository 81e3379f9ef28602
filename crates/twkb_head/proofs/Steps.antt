-- Reads of one field, as a cursor makes them.
use Rattle.twkb_head.proofs.Prelude.{Bool, nat_lt, ◌<◌, ◌^◌, true, false, pos, negsuc, ◌+ℤ◌, ◌≡◌, ℕ, ◌-◌, ◌%◌, List, [], ◌∷◌, ◌++◌, length, slice_index, ℤ, Some, None, Result, Ok, Err, refl, sym, ap, ap₂, ◌∙◌, arith, lt-ltb, ltb-true, SFits, w64, common_steps, append_cancel_right, Reading, rest, passed, added, counted, IsMoved, IsSound, Spells, Faults, sum_of_groups, looked_at, zigzag_value, IsSigned, Request, field_of, Plan, done, ask, byte, number, cut_field, cut_byte, cut_varint, kind_of_code, judge_kind, type_byte, coordinate, fits, byte_plan, signed_plan, Answer, past, looked_in, read_field, read, number_at, signed_at, coordinate_at, type_at, byte_at, why_of, rest-passed, NumFault, Why, Kind, Cut, Range, Malformed}
use Rattle.twkb_head.proofs.Spelling.{IsGood}
use Rattle.twkb_num.specs.declared.varint.NumFault.TheVariants.{Cut as TooShort, Long}
use Rattle.twkb_head.proofs.FieldCuts.{ok_is, field_again, cut_off, too_long}
use Rattle.twkb_head.proofs.Plans.{run_takes}
use Rattle.twkb_head.proofs.Leaves.{byte_laws}
use Rattle.twkb_head.proofs.Readings.{reading_path, read_ok, ok_not_err}

-- a move leads to the reading that is further by the bytes passed
pub moved_is : (a b : Reading) → IsMoved a b → b ≡ past (length (passed a b)) a
moved_is a b m =
    let long : length (passed a b) ≡ b.place - a.place = grind (arith, common_steps, m.within) in
    reading_path b (past (length (passed a b)) a) m.bytes (omega (arith, long, m.ahead)) (m.count ∙ ap (added a.count) (sym long))

-- if a good field was passed, reading goes on after it
pub read_good : {A : Type 0} (q : Request) (next : List ℕ → Plan A) (a b : Reading) → IsMoved a b → IsGood q (passed a b) → read (ask q next) a ≡ read (next (passed a b)) b
read_good q next a b m good =
    let front = passed a b in
    let cut : cut_field (field_of q) (rest a) ≡ Ok (front, rest b) = ap (cut_field (field_of q)) (rest-passed a b m) ∙ field_again (field_of q) front (rest b) good.0 in
    rw (cut, good.1) (ap (read (next front)) (sym (moved_is a b m)))

pub read_byte : (a b : Reading) (x : ℕ) → passed a b ≡ x ∷ [] → IsMoved a b → byte_at a ≡ (Ok x, b)
unfolding byte_at
read_byte a b x e m = read_good byte (λ (field : List ℕ). done (slice_index field 0)) a b m ((x, e), refl) ∙ ap (λ (front : List ℕ). (Ok (slice_index front 0), b)) e

pub read_number : (a b : Reading) (n : ℕ) → Spells (passed a b) n → IsMoved a b → number_at a ≡ (Ok n, b)
unfolding number_at
read_number a b n s m = read_good number (λ (field : List ℕ). done (sum_of_groups 0 field)) a b m ((n, s), refl) ∙ ap (λ (n : ℕ). (Ok n, b)) (sym s.value)

pub read_signed : (a b : Reading) (z : ℤ) → IsSigned z (passed a b) → IsMoved a b → signed_at a ≡ (Ok z, b)
unfolding signed_at
read_signed a b z s m = read_good number (λ (field : List ℕ). done (zigzag_value (sum_of_groups 0 field))) a b m ((s.0, s.1), refl) ∙ ap (λ (z : ℤ). (Ok z, b)) (ap zigzag_value (sym s.1.value) ∙ s.2)

-- if no byte is left, reading a byte fails as cut
pub read_no_byte : (a b : Reading) → rest a ≡ [] → b ≡ a → IsSound b → byte_at a ≡ (Err (record { offset = b.place; why = Cut }), b)
unfolding byte_at
read_no_byte a b e same sound =
    let cut : cut_byte (rest a) ≡ Err Cut = ap cut_byte e in
    let count : added a.count (length (rest a)) ≡ b.count = omega (arith, sound.count_fits, ap (λ (r : Reading). r.count) same, ap length e) in
    rw cut (ap₂ (λ (o : ℕ) (r : Reading). (Err (record { offset = o; why = Cut }), r)) (ap (λ (r : Reading). r.place) (sym same))
    (reading_path (counted a (length (rest a))) b (ap (λ (r : Reading). r.bytes) (sym same)) (ap (λ (r : Reading). r.place) (sym same)) count))

uncut : (fault : NumFault) (bs : List ℕ) → Faults fault bs → cut_varint 9 bs ≡ Err (why_of fault)
uncut TooShort bs h = cut_off bs h
uncut Long bs h = too_long bs h

looked_in-why_of : (fault : NumFault) (bs : List ℕ) → looked_in (why_of fault) bs ≡ looked_at fault bs
looked_in-why_of TooShort bs = refl
looked_in-why_of Long bs = refl

-- if no number can be read, reading one fails with its fault
read_fault : {A : Type 0} (q : Request) (next : List ℕ → Plan A) (a b : Reading) (fault : NumFault) (m : Malformed) → cut_field (field_of q) (rest a) ≡ Err (why_of fault)
    → b ≡ counted a (looked_at fault (rest a)) → m.offset ≡ b.place → m.why ≡ why_of fault → read (ask q next) a ≡ (Err m, b)
read_fault q next a b fault m cut at offset why =
    let place : a.place ≡ m.offset = ap (λ (r : Reading). r.place) (sym at) ∙ sym offset in
    let says : Malformed = record { offset = a.place; why = why_of fault } in
    let same : says ≡ m = λ j. record { offset = place j; why = sym why j } in
    rw cut (ap₂ (λ (x : Malformed) (r : Reading). (Err x, r)) same (ap (counted a) (looked_in-why_of fault (rest a)) ∙ sym at))

module _ (a b : Reading) (fault : NumFault) (m : Malformed) (h : Faults fault (rest a)) (at : b ≡ counted a (looked_at fault (rest a)))
    (offset : m.offset ≡ b.place) (why : m.why ≡ why_of fault) where
  pub read_no_number : number_at a ≡ (Err m, b)
  unfolding number_at
  read_no_number = read_fault number (λ (field : List ℕ). done (sum_of_groups 0 field)) a b fault m (uncut fault (rest a) h) at offset why

  pub read_no_signed : signed_at a ≡ (Err m, b)
  unfolding signed_at
  read_no_signed = read_fault number (λ (field : List ℕ). done (zigzag_value (sum_of_groups 0 field))) a b fault m (uncut fault (rest a) h) at offset why

-- the type byte, from a byte
pub byte_moved : (a b : Reading) (x : ℕ) → IsSound a → byte_at a ≡ (Ok x, b) → IsMoved a b
unfolding byte_at
byte_moved a b x sound e = (read_ok byte_plan a b x sound e).1

pub type_no_byte : (levels : ℕ) (a b : Reading) (m : Malformed) → byte_at a ≡ (Err m, b) → type_at levels a ≡ (Err m, b)
unfolding byte_at type_at
type_no_byte levels a b m e = go (rest a) refl e
  where
    go : (bs : List ℕ) → rest a ≡ bs → read_field {A = ℕ} byte (cut_byte bs) (λ (field : List ℕ). read (done (slice_index field 0))) a ≡ (Err m, b)
        → read_field {A = ℕ} (type_byte levels) (cut_byte bs) (λ (field : List ℕ). read (done (slice_index field 0))) a ≡ (Err m, b)
    go [] at e = e
    go (y ∷ bs) at e = absurd (ok_not_err y m (past 1 a) b e)

module _ (levels : ℕ) (a b : Reading) (t : ℕ) (sound : IsSound a) (e : byte_at a ≡ (Ok t, b)) where
  -- the front that was cut off is the type byte
  front_is : (front : List ℕ) × (front ≡ t ∷ []) × (cut_byte (rest a) ≡ Ok (front, rest b)) × (b ≡ past 1 a)
  unfolding byte_at
  front_is =
      let ok = read_ok byte_plan a b t sound e in
      let taken = run_takes byte_plan (rest a) (t, rest b) ok.0 in
      let is = byte_laws.spelled t taken.0 taken.2 in
      let cut : cut_byte (rest a) ≡ Ok (t ∷ [], rest b) = ap cut_byte (taken.1 ∙ ap (λ (z : List ℕ). z ++ rest b) is) in
      let long : length (passed a b) ≡ 1 = ap length (append_cancel_right (passed a b) (t ∷ []) (rest b) (sym (rest-passed a b ok.1) ∙ taken.1 ∙ ap (λ (z : List ℕ). z ++ rest b) is)) in
      (t ∷ [], refl, cut, moved_is a b ok.1 ∙ ap (λ (n : ℕ). past n a) long)

  pub type_ok : (k : Kind) → kind_of_code (t % 16) ≡ Some k → judge_kind levels (Some k) ≡ None → type_at levels a ≡ (Ok t, b)
  unfolding type_at
  type_ok k code ok =
      let cut : cut_byte (rest a) ≡ Ok (t ∷ [], rest b) = front_is.2 ∙ ap (λ (z : List ℕ). Ok (z, rest b)) front_is.1 in
      let fine : judge_kind levels (kind_of_code (t % 16)) ≡ None = ap (judge_kind levels) code ∙ ok in
      rw (cut, fine) (ap (λ (r : Reading). (Ok t, r)) (sym front_is.3))

  pub type_refused : (w : Why) (m : Malformed) (c : Reading) → judge_kind levels (kind_of_code (t % 16)) ≡ Some w → m.offset ≡ a.place → m.why ≡ w
      → c ≡ record b { place = a.place } → type_at levels a ≡ (Err m, c)
  unfolding type_at
  type_refused w m c bad offset why at =
      let cut : cut_byte (rest a) ≡ Ok (t ∷ [], rest b) = front_is.2 ∙ ap (λ (z : List ℕ). Ok (z, rest b)) front_is.1 in
      let says : Malformed = record { offset = a.place; why = w } in
      let same : says ≡ m = λ j. record { offset = sym offset j; why = sym why j } in
      let back : counted a 1 ≡ c = sym (at ∙ ap (λ (r : Reading). record r { place = a.place }) front_is.3) in
      rw (cut, bad) (ap₂ (λ (x : Malformed) (r : Reading). (Err x, r)) same back)

-- a coordinate, from a signed number
pub signed_moved : (a b : Reading) (z : ℤ) → IsSound a → signed_at a ≡ (Ok z, b) → IsMoved a b
unfolding signed_at
signed_moved a b z sound e = (read_ok signed_plan a b z sound e).1

answer_is : (x y : ℤ) (a b : Reading) → (let z : Answer ℤ = (Ok x, a) in z ≡ (Ok y, b)) → x ≡ y
answer_is x y a b e = ok_is x y (ap (λ (z : Answer ℤ). z.0) e)

module _ (before : ℤ) (a b : Reading) where
  abbrev Signed : Result (List ℕ × List ℕ) Why → Answer ℤ
  Signed cut = read_field {A = ℤ} number cut (λ (field : List ℕ). read (done (zigzag_value (sum_of_groups 0 field)))) a

  abbrev Coordinate : Result (List ℕ × List ℕ) Why → Answer ℤ
  Coordinate cut = read_field {A = ℤ} (coordinate before) cut (λ (field : List ℕ). read (done (zigzag_value (sum_of_groups 0 field)))) a

  no_signed : (m : Malformed) (cut : Result (List ℕ × List ℕ) Why) → Signed cut ≡ (Err m, b) → Coordinate cut ≡ (Err m, b)
  no_signed m (Ok x) e = absurd (ok_not_err (zigzag_value (sum_of_groups 0 x.0)) m (past (length x.0) a) b e)
  no_signed m (Err w) e = e

  pub coordinate_no_signed : (m : Malformed) → signed_at a ≡ (Err m, b) → coordinate_at before a ≡ (Err m, b)
  unfolding signed_at coordinate_at
  coordinate_no_signed m e = no_signed m (cut_varint 9 (rest a)) e

  ok_with : (z : ℤ) → fits (before +ℤ z) ≡ true → (cut : Result (List ℕ × List ℕ) Why) → Signed cut ≡ (Ok z, b) → Coordinate cut ≡ (Ok z, b)
  ok_with z fit (Ok x) e =
      let same : zigzag_value (sum_of_groups 0 x.0) ≡ z = answer_is (zigzag_value (sum_of_groups 0 x.0)) z (past (length x.0) a) b e in
      let fine : fits (before +ℤ zigzag_value (sum_of_groups 0 x.0)) ≡ true = ap (λ (y : ℤ). fits (before +ℤ y)) same ∙ fit in
      rw fine e
  ok_with z fit (Err w) e = absurd (ok_not_err z (record { offset = a.place; why = w }) b (counted a (looked_in w (rest a))) (sym e))

  pub coordinate_ok : (z : ℤ) → fits (before +ℤ z) ≡ true → signed_at a ≡ (Ok z, b) → coordinate_at before a ≡ (Ok z, b)
  unfolding signed_at coordinate_at
  coordinate_ok z fit e = ok_with z fit (cut_varint 9 (rest a)) e

  refused_with : (z : ℤ) (m : Malformed) (c : Reading) → fits (before +ℤ z) ≡ false → m.offset ≡ a.place → m.why ≡ Range → c ≡ record b { place = a.place }
      → (cut : Result (List ℕ × List ℕ) Why) → Signed cut ≡ (Ok z, b) → Coordinate cut ≡ (Err m, c)
  refused_with z m c fit offset why at (Ok x) e =
      let same : zigzag_value (sum_of_groups 0 x.0) ≡ z = answer_is (zigzag_value (sum_of_groups 0 x.0)) z (past (length x.0) a) b e in
      let bad : fits (before +ℤ zigzag_value (sum_of_groups 0 x.0)) ≡ false = ap (λ (y : ℤ). fits (before +ℤ y)) same ∙ fit in
      let says : Malformed = record { offset = a.place; why = Range } in
      let named : says ≡ m = λ j. record { offset = sym offset j; why = sym why j } in
      let back : counted a (length x.0) ≡ c = ap (λ (z : Answer ℤ). record z.1 { place = a.place }) e ∙ sym at in
      rw bad (ap₂ (λ (x : Malformed) (r : Reading). (Err x, r)) named back)
  refused_with z m c fit offset why at (Err w) e = absurd (ok_not_err z (record { offset = a.place; why = w }) b (counted a (looked_in w (rest a))) (sym e))

  pub coordinate_refused : (z : ℤ) (m : Malformed) (c : Reading) → fits (before +ℤ z) ≡ false → m.offset ≡ a.place → m.why ≡ Range → c ≡ record b { place = a.place }
      → signed_at a ≡ (Ok z, b) → coordinate_at before a ≡ (Err m, c)
  unfolding signed_at coordinate_at
  coordinate_refused z m c fit offset why at e = refused_with z m c fit offset why at (cut_varint 9 (rest a)) e

-- ---- which coordinates fit 64 bits
not_lt : (b : Bool) (n : ℕ) → nat_lt n (2 ^ 63) ≡ b → (n < (2 ^ 63) → ⊥) → b ≡ false
not_lt true n e h = absurd (h (ltb-true n (2 ^ 63) e))
not_lt false n e h = refl

pub fits_true : (z : ℤ) → SFits w64 z → fits z ≡ true
fits_true (pos n) h = lt-ltb n (2 ^ 63) (omega (arith, h.sfits))
fits_true (negsuc n) h = lt-ltb n (2 ^ 63) (omega (arith, h.sfits))

pub fits_false : (z : ℤ) → (SFits w64 z → ⊥) → fits z ≡ false
fits_false (pos n) h = not_lt (nat_lt n (2 ^ 63)) n refl (λ lt. h (record { sfits = lt }))
fits_false (negsuc n) h = not_lt (nat_lt n (2 ^ 63)) n refl (λ lt. h (record { sfits = lt }))
