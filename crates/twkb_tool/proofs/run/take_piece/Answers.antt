-- The buffer grew by the bytes that the source gave.
use Rattle.twkb_tool.proofs.Prelude.{◌∙◌, ap, arith, take, ◌++◌, List, ℕ, ◌≡◌, ◌+◌, ◌≤◌, length, refl, length-append, take-take, take-append-le, take_at, drop_at, length-take, take-add}
use Rattle.std.proofs.Common.{length-take}
use Rattle.twkb_tool.proofs.run.take_piece.Goals as goal

front_of_two : (front behind : List ℕ) (held n : ℕ) → length front ≡ held → take (held + n) (front ++ behind) ≡ front ++ take n behind
front_of_two front behind held n long = take-add held n (front ++ behind) ∙ rw (take_at front behind held long, drop_at front behind held long) refl

-- the room after the held bytes was lent and filled with n bytes, and the buffer keeps its length
behind_held : (now room post rest : List ℕ) (held n len : ℕ) → held ≤ length now → n ≤ length room → held + n ≤ len
    → take (held + n) (take len ((take held now ++ (room ++ post)) ++ rest)) ≡ take held now ++ take n room
behind_held now room post rest held n len h r l =
    let front = take held now in
    let long : length front ≡ held = omega (arith, length-take held now, h) in
    take-take (held + n) len ((front ++ (room ++ post)) ++ rest) l
    ∙ (take-append-le (held + n) (front ++ (room ++ post)) rest (omega (arith, long, r, length-append front (room ++ post), length-append room post))
    ∙ (front_of_two front (room ++ post) held n long ∙ ap (λ (xs : List ℕ). front ++ xs) (take-append-le n room post r)))

pub returns-in-Ok-clause-piece : goal.returns-in-Ok-clause-piece
returns-in-Ok-clause-piece g c =
    let kept = ap (take c.args.held) c.as_mut_slice.ensures.value ∙ c.in_ok-grow.ensures.kept in
    let more = c.in_ok-grow.ensures.more in
    let long = c.as_mut_slice.ensures.len in
    let fits = c.in-Ok.ensures.within in (
      take c.in-Ok.n c.take.new.room,
      c.in-Ok.ensures.gives,
      omega (arith, fits, length-take c.in-Ok.n c.take.new.room, c.take.auto.room),
      behind_held c.as_mut_slice.result.now c.take.new.room _ _ c.args.held c.in-Ok.n c.grow.new.bytes.len (omega (arith, more, long)) (omega (arith, fits, c.take.auto.room, long)) (omega (arith, fits, more, long)) ∙ ap (λ (xs : List ℕ). xs ++ take c.in-Ok.n c.take.new.room) kept,
    )
