-- What a plan means: what it reads, which bytes spell a value by it, and where bytes stop in it.
use Rattle.std.specs.Prelude.{◌≡◌, ℕ, List, [], ◌++◌, Option, Some, None, Result, Ok, Err, ◌⊎◌}
use Rattle.twkb_head.proofs.Prelude.{Why, Field, IsField, Plan, Request, ask, cut_field, done, field_of, judge}

-- why reading stopped, at which kind of field, and the bytes from there on
pub data Fault : Type 0 where
  fault : Why → Field → List ℕ → Fault

-- goes on after a field that was judged
abbrev pub after_judged : {B : Type 0} → Option Why → Field → List ℕ → (Unit {0} → Result B Fault) → Result B Fault
after_judged None f bytes k = k tt
after_judged (Some w) f bytes k = Err (fault w f bytes)

-- one field of a reading: it was cut off, or nothing could be
abbrev pub run_field : {B : Type 0} → Request → Result (List ℕ × List ℕ) Why → List ℕ → (List ℕ → List ℕ → Result B Fault) → Result B Fault
run_field r (Err w) bytes k = Err (fault w (field_of r) bytes)
run_field r (Ok x) bytes k = after_judged (judge r x.0) (field_of r) bytes (λ u. k x.0 x.1)

-- reads by a plan: the value and the bytes after it, or the first fault
abbrev pub run : {A : Type 0} → Plan A → List ℕ → Result (A × List ℕ) Fault
run (done x) bytes = Ok (x, bytes)
run (ask r next) bytes = run_field r (cut_field (field_of r) bytes) bytes (λ front rest. run (next front) rest)

-- the bytes are a field as it is asked for
abbrev pub IsGood : Request → List ℕ → Type 0
IsGood r front = IsField (field_of r) front × (judge r front ≡ None)

-- the bytes are the fields that a plan asks for, and give the value
abbrev pub Spelled : {A : Type 0} → Plan A → A → List ℕ → Type 0
Spelled (done x) y bytes = (y ≡ x) × (bytes ≡ [])
Spelled (ask r next) y bytes = (front : List ℕ) × (rest : List ℕ) × (bytes ≡ front ++ rest) × IsGood r front × Spelled (next front) y rest

-- the bytes are the first fields, not all, and this kind of field is due
abbrev pub Stops : {A : Type 0} → Plan A → List ℕ → Field → Type 0
Stops (done x) p due = ⊥
Stops (ask r next) p due = ((p ≡ []) × (due ≡ field_of r))
    ⊎ ((front : List ℕ) × (rest : List ℕ) × (p ≡ front ++ rest) × IsGood r front × Stops (next front) rest due)
