-- Reading many values by one reader.
use Rattle.twkb_body.proofs.Prelude.{◌≡◌, ℕ, zero, suc, ◌+◌, List, [], ◌∷◌, ◌++◌, ℤ, pos, Ok, ap, ◌∙◌, arith, Reading, Malformed, Answer, Reader, ◌>>=◌, viewed, many_at, ok_is}
use Rattle.twkb_body.proofs.Tracing.{many_back, many_then}

abbrev pub repeated : {A : Type 0} → ℕ → Reader A → Reader (List A)
repeated {A} n f = many_at n (λ (s : ℤ) (y : A). s) (λ s. f) (pos 0)

-- n values and one more are n + 1 values
pub many_more : {A : Type 0} (f : Reader A) (n : ℕ) (r mid new : Reading) (ys : List A) (y : A) → repeated n f r ≡ (Ok ys, mid) → f mid ≡ (Ok y, new) → repeated (n + 1) f r ≡ (Ok (ys ++ y ∷ []), new)
many_more {A} f zero r mid new ys y e h =
    let here : f r ≡ (Ok y, new) = ap (λ (a : Answer (List A)). f a.1) e ∙ h in
    let none : [] ≡ ys = ok_is {A = List A} {E = Malformed} [] ys (ap (λ (a : Answer (List A)). a.0) e) in
    ap (λ (a : Answer A). a >>= λ x b. viewed (λ xs. x ∷ xs) (repeated zero f b)) here ∙ ap (λ (xs : List A). (Ok (xs ++ y ∷ []), new)) none
many_more {A} f (suc n) r mid new ys y e h =
    let b = many_back (λ (s : ℤ) (x : A). s) (λ s. f) n (pos 0) r mid ys e in
    let number : suc n + 1 ≡ suc (n + 1) = omega arith in
    ap (λ (k : ℕ). repeated k f r) number ∙ many_then (λ (s : ℤ) (x : A). s) (λ s. f) (n + 1) (pos 0) r b.middle b.first _ b.one (many_more f n b.middle mid new b.others y b.rest h)
    ∙ ap (λ (xs : List A). (Ok (xs ++ y ∷ []), new)) b.all
