-- Numbers that were read are those that the bytes spell; and where there is a fault, the bytes don't spell as many.
use Rattle.twkb_num.proofs.Prelude.{◌≡◌, ℕ, ℤ, ◌<◌, List, [], ◌∷◌, ◌++◌, length, Ok, Err, ap, sym, subst, refl, ◌∙◌, arith, append_assoc, Result, IfOk, IfErr, NumFault, Reading, rest, passed, SpellsAllSigned, Faults, zigzag_value, ReadsNumbers, StopsReading}
use Rattle.twkb_num.proofs.CursorLemmas.{rest-passed}
use Rattle.twkb_num.proofs.SpellingLaws.{Spells-unique, Spells-no_fault}

-- as many numbers at the front of the same bytes are the same, and so are their bytes
pub SpellsAllSigned-unique : (p s q t : List ℕ) (xs ys : List ℤ) → SpellsAllSigned p xs → SpellsAllSigned q ys → length xs ≡ length ys → p ++ s ≡ q ++ t → (p ≡ q) × (xs ≡ ys)
SpellsAllSigned-unique p s q t [] [] a b e same = (a ∙ sym b, refl)
SpellsAllSigned-unique p s q t [] (y ∷ ys) a b e same = absurd (omega (arith, e))
SpellsAllSigned-unique p s q t (x ∷ xs) [] a b e same = absurd (omega (arith, e))
SpellsAllSigned-unique p s q t (x ∷ xs) (y ∷ ys) a b e same =
    let left : p ++ s ≡ a.0 ++ (a.1 ++ s) = ap (λ l. l ++ s) a.2 ∙ append_assoc a.0 a.1 s in
    let right : q ++ t ≡ b.0 ++ (b.1 ++ t) = ap (λ l. l ++ t) b.2 ∙ append_assoc b.0 b.1 t in
    let first = Spells-unique a.0 (a.1 ++ s) b.0 (b.1 ++ t) a.3.0 b.3.0 a.3.1 b.3.1 (sym left ∙ same ∙ right) in
    let later = SpellsAllSigned-unique a.1 s b.1 t xs ys a.4 b.4 (omega (arith, e)) first.2 in
    let number : x ≡ y = sym a.3.2 ∙ ap zigzag_value first.1 ∙ b.3.2 in
    (a.2 ∙ ap (λ l. l ++ a.1) first.0 ∙ ap (λ l. b.0 ++ l) later.0 ∙ sym b.2, ap (λ z. z ∷ xs) number ∙ ap (λ zs. y ∷ zs) later.1)

-- bytes that begin with so many numbers have no fault after fewer
pub SpellsAllSigned-no_fault : (p s q t : List ℕ) (xs ys : List ℤ) (fault : NumFault) → SpellsAllSigned p xs → SpellsAllSigned q ys → length ys < length xs → p ++ s ≡ q ++ t → Faults fault t → ⊥
SpellsAllSigned-no_fault p s q t [] ys fault a b few same h = omega (arith, few)
SpellsAllSigned-no_fault p s q t (x ∷ xs) [] fault a b few same h =
    let left : p ++ s ≡ a.0 ++ (a.1 ++ s) = ap (λ l. l ++ s) a.2 ∙ append_assoc a.0 a.1 s in
    let all : t ≡ a.0 ++ (a.1 ++ s) = ap (λ l. l ++ t) (sym b) ∙ sym same ∙ left in
    Spells-no_fault fault a.0 (a.1 ++ s) a.3.0 a.3.1 (subst (Faults fault) all h)
SpellsAllSigned-no_fault p s q t (x ∷ xs) (y ∷ ys) fault a b few same h =
    let left : p ++ s ≡ a.0 ++ (a.1 ++ s) = ap (λ l. l ++ s) a.2 ∙ append_assoc a.0 a.1 s in
    let right : q ++ t ≡ b.0 ++ (b.1 ++ t) = ap (λ l. l ++ t) b.2 ∙ append_assoc b.0 b.1 t in
    let first = Spells-unique a.0 (a.1 ++ s) b.0 (b.1 ++ t) a.3.0 b.3.0 a.3.1 b.3.1 (sym left ∙ same ∙ right) in
    SpellsAllSigned-no_fault a.1 s b.1 t xs ys fault a.4 b.4 (omega (arith, few)) first.2 h

-- if the answer is numbers that were read or a fault after fewer, it is the numbers that the front of the rest spells
pub read_complete : (k : ℕ) (old new : Reading) (result : Result (List ℤ) NumFault) → IfOk result (λ (ns : List ℤ). length ns ≡ k) → IfOk result (λ (ns : List ℤ). ReadsNumbers old new ns) → IfErr result (λ (fault : NumFault). StopsReading k old new fault)
    → (numbers : List ℤ) (front behind : List ℕ) → rest old ≡ front ++ behind → SpellsAllSigned front numbers → length numbers ≡ k → (result ≡ Ok numbers) × (passed old new ≡ front)
read_complete k old new (Ok ns) len read stops numbers front behind e s n =
    let same = SpellsAllSigned-unique (passed old new) (rest new) front behind ns numbers read.spelled s (len ∙ sym n) (sym (rest-passed old new read.moved) ∙ e) in
    (ap Ok same.1, same.0)
read_complete k old new (Err fault) len read stops numbers front behind e s n =
    absurd (SpellsAllSigned-no_fault front behind (passed old stops.middle) (rest stops.middle) numbers stops.numbers fault s stops.read.spelled (omega (arith, stops.fewer, n)) (sym e ∙ rest-passed old stops.middle stops.read.moved) stops.stops.0)
