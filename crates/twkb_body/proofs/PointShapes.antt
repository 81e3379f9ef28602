-- The body of a point of X and Y alone.
use Rattle.twkb_body.proofs.Prelude.{◌≡◌, ℕ, zero, suc, ◌<◌, [], ◌∷◌, ℤ, pos, ◌+ℤ◌, None, Ok, Err, refl, ap, sym, ◌∙◌, arith, ints, SFits, w64, Reading, IsSound, ReadsNumbers, StopsReading, NumFault, Head, Point, is_multi, Answer, viewed, ok_not_err, fits_true, PointValue, coordinate, Body, part_body, zeros, point_at, shape_at, sum_fits, of_head}
use Rattle.twkb_body.proofs.NumberRuns.{numbers_point, two_stand}

-- the body of a point with two numbers
abbrev pub point_body : ℤ → ℤ → Body
point_body x y = part_body (((x ∷ y ∷ []) ∷ []) ∷ [])

module _ (head : Head) (r : Reading) (kind : head.kind ≡ Point) (z : head.z ≡ None) (m : head.m ≡ None) where
  -- it is read as one point
  shape_is : shape_at (is_multi head.kind) (of_head head) r ≡ viewed part_body (viewed (λ p. (p ∷ []) ∷ []) (point_at 2 zeros r))
  unfolding shape_at
  shape_is = λ j. shape_at (is_multi (kind j)) (record { kind = kind j; xy = head.xy; z = z j; m = m j; size = None; box = None; ids = head.ids; empty = head.empty }) r

  -- two numbers after the header of a point are its body
  pub point_shape : (new : Reading) (x y : ℤ) → IsSound r → ReadsNumbers r new (x ∷ y ∷ []) → SFits w64 x → SFits w64 y → shape_at (is_multi head.kind) (of_head head) r ≡ (Ok (point_body x y), new)
  point_shape new x y sound read x_fits y_fits =
      shape_is ∙ ap (λ (a : Answer PointValue). viewed part_body (viewed (λ p. (p ∷ []) ∷ []) a)) (numbers_point zeros r new (x ∷ y ∷ []) sound read fit)
    where
      to_zero : (n : ℤ) → SFits w64 n → sum_fits (pos 0 +ℤ n)
      to_zero n fits = let same : pos 0 +ℤ n ≡ n = omega (arith, ints) in rw same (fits_true n fits)

      fit : (k : ℕ) → k < 2 → sum_fits (coordinate zeros k +ℤ coordinate (x ∷ y ∷ []) k)
      fit zero lt = to_zero x x_fits
      fit (suc zero) lt = to_zero y y_fits
      fit (suc (suc k)) lt = absurd (omega (arith, lt))

  -- if there is a body, its numbers are read without a fault
  pub point_stands : (new stop : Reading) (body : Body) (fault : NumFault) → IsSound r → shape_at (is_multi head.kind) (of_head head) r ≡ (Ok body, stop) → StopsReading 2 r new fault → ⊥
  point_stands new stop body fault sound e stops = go (point_at 2 zeros r) refl
    where
      go : (a : Answer PointValue) → point_at 2 zeros r ≡ a → ⊥
      go (Ok p, q) is = two_stand zeros r new q p fault sound stops is
      go (Err w, q) is = ok_not_err body w stop q (sym e ∙ shape_is ∙ ap (λ (a : Answer PointValue). viewed part_body (viewed (λ p. (p ∷ []) ∷ []) a)) is)
