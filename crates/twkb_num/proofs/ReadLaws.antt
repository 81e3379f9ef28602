-- What the answer of a read says about the bytes from the place on.
use Rattle.twkb_num.proofs.Prelude.{◌≡◌, ℕ, List, ◌++◌, ◌↔◌, sym, ap, refl, ◌∙◌, Ok, Err, Result, IfOk, OnOk, NumFault, Reading, rest, passed, IsMoved, Spells, Faults}
use Rattle.twkb_num.proofs.CursorLemmas.{rest-passed}
use Rattle.twkb_num.proofs.SpellingLaws.{Spells-unique, Spells-no_fault}

-- if a number was read, a spelling at the front of the rest spells this number, and its bytes are the ones that were passed
pub Ok-complete : (old new : Reading) (value : ℕ) → Spells (passed old new) value → IsMoved old new → (n : ℕ) (front behind : List ℕ) → rest old ≡ front ++ behind → Spells front n → (◌≡◌ {A = Result ℕ NumFault} (Ok value) (Ok n)) × (passed old new ≡ front)
Ok-complete old new value spells moved n front behind e s =
    let same = Spells-unique (passed old new) (rest new) front behind value n spells s (sym (rest-passed old new moved) ∙ e) in
    (ap Ok same.1, same.0)

-- if a number was read, the bytes from the place on have no fault
pub Ok-no_fault : (old new : Reading) (value : ℕ) → Spells (passed old new) value → IsMoved old new → (fault : NumFault) → (Ok value ≡ Err fault) ↔ Faults fault (rest old)
Ok-no_fault old new value spells moved fault =
    (λ e. absurd (cc), λ h. absurd (Spells-no_fault fault (passed old new) (rest new) value spells (rw (rest-passed old new moved) at h)))

-- if the answer is a spelled number or the fault of the bytes there, it is the number of a spelling at the front of the rest
pub result_complete : (old new : Reading) (result : Result ℕ NumFault) → IfOk result (λ n. Spells (passed old new) n) → OnOk result (IsMoved old new) → ((fault : NumFault) → (result ≡ Err fault) ↔ Faults fault (rest old)) → (n : ℕ) (front behind : List ℕ) → rest old ≡ front ++ behind → Spells front n → (result ≡ Ok n) × (passed old new ≡ front)
result_complete old new (Ok value) ok moved fault n front behind e s = Ok-complete old new value ok moved n front behind e s
result_complete old new (Err f) ok moved fault n front behind e s = absurd (Spells-no_fault f front behind n s (rw e at ((fault f).0 refl)))
