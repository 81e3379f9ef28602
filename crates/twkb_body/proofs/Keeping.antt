-- A reader leaves the bytes unchanged, whether it answers a value or a fault.
use Rattle.twkb_body.proofs.Prelude.{◌≡◌, ℕ, zero, suc, ℤ, List, ◌∷◌, length, Option, None, Some, Result, Ok, Err, refl, sym, ap, ◌∙◌, Reading, Malformed, Why, Request, Plan, done, ask, judge, number_plan, coordinate_plan, Answer, Reader, ◌>>=◌, viewed, past, read_judged, read_field, read, number_at, coordinate_at, many_at, Fails, PointValue, first_of, behind, add, point_at}

abbrev pub Keeps : {A : Type 0} → Reader A → Type 0
Keeps f = (r : Reading) → (f r).1.bytes ≡ r.bytes

-- ---- combinators
keeps_then : {A B : Type 0} (a : Answer A) (k : A → Reader B) → ((x : A) → Keeps (k x)) → (a >>= k).1.bytes ≡ a.1.bytes
keeps_then (Ok x, r) k each = each x r
keeps_then (Err m, r) k each = refl

pub keeps_viewed : {A B : Type 0} (f : A → B) (a : Answer A) → (viewed f a).1.bytes ≡ a.1.bytes
keeps_viewed f (Ok x, r) = refl
keeps_viewed f (Err m, r) = refl

keeps_judged : {A : Type 0} (why : Option Why) (n : ℕ) (k : Reader A) (r : Reading) → Keeps k → (read_judged why n k r).1.bytes ≡ r.bytes
keeps_judged None n k r keeps = keeps (past n r)
keeps_judged (Some w) n k r keeps = refl

keeps_field : {A : Type 0} (q : Request) (cut : Result (List ℕ × List ℕ) Why) (k : List ℕ → Reader A) (r : Reading) → ((x : List ℕ) → Keeps (k x)) → (read_field q cut k r).1.bytes ≡ r.bytes
keeps_field q (Ok x) k r each = keeps_judged (judge q x.0) (length x.0) (k x.0) r (each x.0)
keeps_field q (Err w) k r each = refl

keeps_read : {A : Type 0} (p : Plan A) → Keeps (read p)
keeps_read (done x) r = refl
keeps_read (ask q next) r = keeps_field q _ (λ front. read (next front)) r (λ front. keeps_read (next front))

pub keeps_number : Keeps number_at
unfolding number_at
keeps_number = keeps_read number_plan

pub number_keeps : (old : Reading) {result : Result ℕ Malformed} {new : Reading} → number_at old ≡ (result, new) → new.bytes ≡ old.bytes
number_keeps old counted = ap (λ (a : Answer ℕ). a.1.bytes) (sym counted) ∙ keeps_number old

keeps_coordinate : (before : ℤ) → Keeps (coordinate_at before)
unfolding coordinate_at
keeps_coordinate before = keeps_read (coordinate_plan before)

keeps_many : {A S : Type 0} (n : ℕ) (after : S → A → S) (f : S → Reader A) (s : S) → ((s : S) → Keeps (f s)) → Keeps (many_at n after f s)
keeps_many zero after f s each r = refl
keeps_many (suc n) after f s each r =
    keeps_then (f s r) (λ x q. viewed (λ xs. x ∷ xs) (many_at n after f (after s x) q)) (λ x q. keeps_viewed (λ xs. x ∷ xs) (many_at n after f (after s x) q) ∙ keeps_many n after f (after s x) each q)
    ∙ each s r

-- ---- bodies
pub keeps_point : (axes : ℕ) (s : PointValue) → Keeps (point_at axes s)
keeps_point axes s = keeps_many axes (λ (s : PointValue) (z : ℤ). behind s) (λ s. coordinate_at (first_of s)) s (λ s. keeps_coordinate (first_of s))

pub keeps_points : (axes n : ℕ) (s : PointValue) → Keeps (many_at n add (point_at axes) s)
keeps_points axes n s = keeps_many n add (point_at axes) s (keeps_point axes)

-- ---- code that reads as a reader does leaves the bytes unchanged
pub read_keeps : {A : Type 0} (f : Reader A) (r new : Reading) (x : A) → Keeps f → f r ≡ (Ok x, new) → new.bytes ≡ r.bytes
read_keeps {A} f r new x keeps e = ap (λ (a : Answer A). a.1.bytes) (sym e) ∙ keeps r

pub failure_keeps : {A : Type 0} (f : Reader A) (r new : Reading) (m : Malformed) → Keeps f → Fails (f r) m new → new.bytes ≡ r.bytes
failure_keeps {A} f r new m keeps fails = fails.bytes ∙ ap (λ (a : Answer A). a.1.bytes) (sym fails.is) ∙ keeps r
