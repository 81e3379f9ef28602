-- Values that were read, traced back to what they were read from.
use Rattle.twkb_body.proofs.Prelude.{◌≡◌, ℕ, suc, List, ◌∷◌, ℤ, Ok, Err, refl, sym, ap, ◌∙◌, Reading, Malformed, Answer, Reader, ◌>>=◌, viewed, coordinate_at, many_at, ok_is, ok_not_err, PointValue, first_of, behind, point_at}

-- a value with f applied comes from a value that was read
pub viewed_back : {A B : Type 0} (f : A → B) (a : Answer A) (y : B) (new : Reading) → viewed f a ≡ (Ok y, new) → (x : A) × (a ≡ (Ok x, new)) × (f x ≡ y)
viewed_back {A} {B} f (Ok x, r) y new e = (x, ap (λ (s : Reading). (Ok x, s)) (ap (λ (z : Answer B). z.1) e), ok_is {A = B} {E = Malformed} (f x) y (ap (λ (z : Answer B). z.0) e))
viewed_back f (Err m, r) y new e = absurd (ok_not_err y m new r (sym e))

module _ {A S : Type 0} (after : S → A → S) (each : S → Reader A) where
  -- a value was read, and then n others
  pub record AreRead (n : ℕ) (s : S) (r stop : Reading) (xs : List A) : Type 0 where
    pub first : A
    pub middle : Reading
    pub others : List A
    pub one : each s r ≡ (Ok first, middle)
    pub rest : many_at n after each (after s first) middle ≡ (Ok others, stop)
    pub all : first ∷ others ≡ xs

  pub many_back : (n : ℕ) (s : S) (r stop : Reading) (xs : List A) → many_at (suc n) after each s r ≡ (Ok xs, stop) → AreRead n s r stop xs
  many_back n s r stop xs e = go (each s r) refl e
    where
      go : (a : Answer A) → each s r ≡ a → (a >>= λ x q. viewed (λ ys. x ∷ ys) (many_at n after each (after s x) q)) ≡ (Ok xs, stop) → AreRead n s r stop xs
      go (Err m, q) one e = absurd (ok_not_err xs m stop q (sym e))
      go (Ok x, q) one e =
          let b = viewed_back (λ ys. x ∷ ys) (many_at n after each (after s x) q) xs stop e in
          record { first = x; middle = q; others = b.0; one = one; rest = b.1; all = b.2 }

  -- a value that is read before others is the first of them all
  pub many_then : (n : ℕ) (s : S) (r mid : Reading) (x : A) (others : Answer (List A)) → each s r ≡ (Ok x, mid) → many_at n after each (after s x) mid ≡ others → many_at (suc n) after each s r ≡ viewed (λ xs. x ∷ xs) others
  many_then n s r mid x others one rest = ap (λ (a : Answer A). a >>= λ x q. viewed (λ xs. x ∷ xs) (many_at n after each (after s x) q)) one ∙ ap (viewed (λ xs. x ∷ xs)) rest

-- a point is a coordinate and then the others
pub point_back : (n : ℕ) (s : PointValue) (r stop : Reading) (p : PointValue) → point_at (suc n) s r ≡ (Ok p, stop) → AreRead (λ (s : PointValue) (z : ℤ). behind s) (λ s. coordinate_at (first_of s)) n s r stop p
point_back n s r stop p e = many_back (λ (s : PointValue) (z : ℤ). behind s) (λ s. coordinate_at (first_of s)) n s r stop p e
