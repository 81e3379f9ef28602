-- Shared between crates: private contracts alone name them, here and in crates above.
-- Readers: a reader takes a cursor's reading, and gives the value that starts there, or the fault of the first field that is
-- wrong, and the reading after it.
use Rattle.std.specs.Prelude.{◌≡◌, ℕ, zero, suc, ◌+◌, Bool, true, false, List, [], ◌∷◌, length, ℤ, pos, ◌+ℤ◌, Option, Some, None, Result, Ok, Err}
use Rattle.twkb_num.specs.Cursor.{Reading, rest, added, counted}
use Rattle.twkb_head.specs.declared.refusal.Why.{Why}
use Rattle.twkb_head.specs.declared.refusal.Why.TheVariants.{Varint}
use Rattle.twkb_head.specs.declared.refusal.Malformed.{Malformed}
use Rattle.twkb_head.specs.Shared.Plan.{Request, field_of, cut_field, judge, Plan, done, ask, number_plan, signed_plan, coordinate_plan}

-- an answer: a value or a fault, and the reading after it
abbrev pub Answer : Type 0 → Type 0
Answer A = Result A Malformed × Reading

-- a reader: what it answers of a reading
abbrev pub Reader : Type 0 → Type 0
Reader A = Reading → Answer A

-- one read and then another, up to the first that fails
infixl 10 ◌>>=◌
abbrev pub ◌>>=◌ : {A B : Type 0} → Answer A → (A → Reader B) → Answer B
(Ok x, r) >>= k = k x r
(Err m, r) >>= k = (Err m, r)

-- an answer with f applied to its value
abbrev pub viewed : {A B : Type 0} → (A → B) → Answer A → Answer B
viewed f (Ok x, r) = (Ok (f x), r)
viewed f (Err m, r) = (Err m, r)

-- the reading n bytes further
abbrev pub past : ℕ → Reading → Reading
past n r = record { bytes = r.bytes; place = r.place + n; count = added r.count n }

-- an answer that the field at the place is wrong, which n bytes showed
abbrev pub refused_at : {A : Type 0} → Why → ℕ → Reader A
refused_at why n r = (Err (record { offset = r.place; why = why }), counted r n)

-- how many bytes are looked at where no field can be cut off
abbrev pub looked_in : Why → List ℕ → ℕ
looked_in Varint bytes = 10
looked_in _ bytes = length bytes

-- goes on after a field of n bytes that was judged
abbrev pub read_judged : {A : Type 0} → Option Why → ℕ → Reader A → Reader A
read_judged None n k r = k (past n r)
read_judged (Some w) n k r = refused_at w n r

-- goes on with a field that was cut off at the place, or that could not be
abbrev pub read_field : {A : Type 0} → Request → Result (List ℕ × List ℕ) Why → (List ℕ → Reader A) → Reader A
read_field q (Ok x) k r = read_judged (judge q x.0) (length x.0) (k x.0) r
read_field q (Err w) k r = refused_at w (looked_in w (rest r)) r

-- reads the fields that a plan asks for, up to the first that is wrong
abbrev pub read : {A : Type 0} → Plan A → Reader A
read (done x) r = (Ok x, r)
read (ask q next) r = read_field q (cut_field (field_of q) (rest r)) (λ front. read (next front)) r

-- a number
unfoldable pub number_at : Reader ℕ
number_at = read number_plan

-- a signed number
unfoldable pub signed_at : Reader ℤ
signed_at = read signed_plan

-- a coordinate, read as the difference to the one before it
unfoldable pub coordinate_at : ℤ → Reader ℤ
coordinate_at before = read (coordinate_plan before)

-- a value that is read where it is announced
abbrev pub optional_at : {A : Type 0} → Bool → Reader A → Reader (Option A)
optional_at false f r = (Ok None, r)
optional_at true f r = viewed Some (f r)

-- n values, one after another, each in the state that the values before it leave
abbrev pub many_at : {A S : Type 0} → ℕ → (S → A → S) → (S → Reader A) → S → Reader (List A)
many_at zero after f s r = (Ok [], r)
many_at (suc n) after f s r = f s r >>= λ x r. viewed (λ xs. x ∷ xs) (many_at n after f (after s x) r)

-- the range of one axis: its minimum, and its maximum, which is the minimum plus the width
unfoldable pub range_from : Reader (ℤ × ℤ)
range_from r = signed_at r >>= λ low a. viewed (λ width. (low, low +ℤ width)) (signed_at a)

-- n signed numbers
abbrev pub signeds_at : ℕ → Reader (List ℤ)
signeds_at n = many_at n (λ s z. s) (λ s. signed_at) (pos 0)

-- a reader fails with m; the code may have moved the cursor since, in the bytes of that reading
pub record Fails {A : Type 0} (answer : Answer A) (m : Malformed) (new : Reading) : Type 0 where
  pub left : Reading
  pub is : answer ≡ (Err m, left)
  pub bytes : new.bytes ≡ left.bytes

-- code reads as the reader does: on Ok the reader gives a value that the code's is made of, and on Err it fails
abbrev pub Reads : {A B : Type 0} → Answer A → (A → B → Type 0) → Result B Malformed → Reading → Type 0
Reads {A} answer Gives (Ok y) new = (x : A) × (answer ≡ (Ok x, new)) × Gives x y
Reads answer Gives (Err m) new = Fails answer m new
