-- The rest of a begun header makes the whole header, or a refusal.
use Rattle.twkb_head.proofs.Prelude.{◌≡◌, ◌↔◌, ℕ, ◌-◌, ◌≤◌, Result, Ok, Err, IsOk, arith, Reading, rest, IsSound, Fields, Begun, Malformed, deepest, StartsWithHeader, BeginsHead, head_said, ReadsHead, head_at, rest_at, head_result}
use Rattle.twkb_head.proofs.HeadLaws.{head_ok, head_moved, head_exact, head_err, head_left}
use Rattle.twkb_head.proofs.HeadSteps.{begins_goes_on}

-- a header that is allowed at the depth was begun, and the code reads the rest of it as the reader does
module _ (begun : Begun) (depth : ℕ) (before now new : Reading) (sound : IsSound before) (begins : BeginsHead begun depth before now) where
  least : 1 ≤ depth
  least = begins.allowed.0

  most : depth ≤ deepest
  most = omega (arith, begins.allowed.1)

  answers : (result : Result Fields Malformed) → head_at (deepest - depth) before ≡ (head_result result, new) → ReadsHead depth before new result × (IsOk result ↔ StartsWithHeader depth (rest before))
  answers (Ok raw) e = (
    (head_ok depth least most before new sound (Ok (head_said raw)) e, head_moved depth least most before new sound (Ok (head_said raw)) e),
    head_exact depth least most before new sound (Ok (head_said raw)) e,
  )
  answers (Err m) e = ((head_err depth least most before new sound (Err m) e, head_left depth least most before new sound m e), head_exact depth least most before new sound (Err m) e)

  pub rest_reads : (result : Result Fields Malformed) → rest_at begun.kind begun.xy begun.metadata begun.start now ≡ (head_result result, new) → ReadsHead depth before new result × (IsOk result ↔ StartsWithHeader depth (rest before))
  rest_reads result e = answers result (begins_goes_on begun depth before now sound begins (head_result result) new e)
