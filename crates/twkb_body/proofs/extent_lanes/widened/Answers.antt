-- To add 2^15 in 16 bits, and to take it off again in 32, is to widen with the sign.
use Rattle.twkb_body.proofs.Prelude.{◌≡◌, ℕ, ◌+◌, ◌-◌, ◌<◌, ◌%◌, List, [], ◌∷◌, map, length, replicate, refl, ap₂, arith, Fits, w16, w32, ints, cast_signed, cast_unsigned, Each1, zip2}
use Rattle.twkb_body.proofs.extent_lanes.widened.Goals as goal

sign_kept : (n : ℕ) → n < 65536 → ((n + 32768) % 65536 + (4294967296 - 32768)) % 4294967296 ≡ cast_unsigned w32 (cast_signed w16 n)
sign_kept n fits = grind (arith, ints, fits)

signs_kept : (d : List ℕ) → Each1 (Fits w16) d
    → zip2 (λ (a b : ℕ). (a + (4294967296 - b)) % 4294967296) (map (λ (n : ℕ). n) (zip2 (λ (a b : ℕ). (a + b) % 65536) d (replicate (length d) 32768))) (replicate (length d) 32768)
    ≡ map (λ (n : ℕ). cast_unsigned w32 (cast_signed w16 n)) d
signs_kept [] fits = refl
signs_kept (n ∷ d) fits = ap₂ (λ (m : ℕ) (ms : List ℕ). m ∷ ms) (sign_kept n fits.0.fits) (signs_kept d fits.1)

pub returns : goal.returns
returns k = rw k.fits-d.0 at (signs_kept k.args.d k.fits-d.1)
