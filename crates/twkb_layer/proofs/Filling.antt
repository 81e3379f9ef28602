-- How a room that a caller lends is filled.
use Rattle.twkb_layer.proofs.Prelude.{◌≡◌, ◌≤◌, List, [], ◌∷◌, ◌++◌, length, arith, refl, ap, sym, slice_set, take-nil, drop-nil, filled}

module _ {A : Type 0} where
  -- a room filled with nothing is unchanged
  pub filled-nil : (room : List A) → room ≡ filled [] room
  filled-nil room = sym (ap (λ xs. xs ++ room) (take-nil (length room)))

  -- one more value goes to its place, if there is one
  pub filled-push : (seen room : List A) (x : A) → slice_set (filled seen room) (length seen) x ≡ filled (seen ++ x ∷ []) room
  filled-push seen [] x = rw (drop-nil (length seen), drop-nil (length (seen ++ x ∷ []))) refl
  filled-push [] (r ∷ room) x = ap (λ xs. x ∷ (xs ++ room)) (sym (take-nil (length room)))
  filled-push (s ∷ seen) (r ∷ room) x = ap (λ xs. s ∷ xs) (filled-push seen room x)

  -- a room that is full is unchanged
  pub filled-full : (seen more room : List A) → length room ≤ length seen → filled (seen ++ more) room ≡ filled seen room
  filled-full seen more [] full = rw (drop-nil (length seen), drop-nil (length (seen ++ more))) refl
  filled-full [] more (r ∷ room) full = absurd (omega (arith, full))
  filled-full (s ∷ seen) more (r ∷ room) full = ap (λ xs. s ∷ xs) (filled-full seen more room (omega (arith, full)))
