-- Points that are read one after another: a loop that reaches the end, and one that fails. A state beside what is kept.
use Rattle.twkb_body.proofs.Prelude.{◌≡◌, ℕ, ◌<◌, List, [], ◌∷◌, fold, Some, refl, sym, ap, subst, ◌∙◌, Reading, Malformed, many_at, Fails, Trail, PointValue, add, point_at, Stage, HasRead, EndsEarly, IsWalking, lasts_from, IsWalked}
use Rattle.twkb_body.proofs.PartPlans.{flat_single}
use Rattle.twkb_body.proofs.Walks.{IsRingLoop, walk_fails, walk_ends, one_point, add_is_sums}

module _ {H S : Type 0} (step : H → S → PointValue → S) where
  -- a step by what is kept beside the state, as a header is
  abbrev pub beside : H × S → PointValue → H × S
  beside s point = (s.0, step s.0 s.1 point)

  pub fold_beside : (h : H) (s : S) (points : List PointValue) → fold beside (h, s) points ≡ (h, fold (step h) s points)
  fold_beside h s [] = refl
  fold_beside h s (p ∷ points) = fold_beside h (step h s p) points

  pub walked_beside : (h : H) (axes : ℕ) (old new : Trail) (s t : S) (p q : ℕ) (points : List PointValue) → IsWalked (step h) axes old new s t p q points → IsWalked beside axes old new (h, s) (h, t) p q points
  walked_beside h axes old new s t p q points w =
      record { last = w.last; points = w.points; added = ap (λ (t : S). (h, t)) w.added ∙ sym (fold_beside h s (lasts_from old.last points)); have = w.have; ahead = w.ahead }

  pub walked_apart : (h : H) (axes : ℕ) (old new : Trail) (s t : S) (g : H) (p q : ℕ) (points : List PointValue) → IsWalked beside axes old new (h, s) (g, t) p q points → IsWalked (step h) axes old new s t p q points
  walked_apart h axes old new s t g p q points w =
      record { last = w.last; points = w.points; added = ap (λ (z : H × S). z.1) (w.added ∙ fold_beside h s (lasts_from old.last points)); have = w.have; ahead = w.ahead }

-- ---- points that are read and added, one after another
-- a step that keeps a state
abbrev pub same : Unit {0} → PointValue → Unit {0}
same s point = s

-- the points so far were read
abbrev pub Loop : ℕ → Trail → ℕ → Reading → ℕ → Trail → Reading → Type 0
Loop axes old count from i now r = IsRingLoop same axes count old tt from i now tt r

-- the loop has read all points
pub loop_read : (axes : ℕ) (old : Trail) (count : ℕ) (from : Reading) (i : ℕ) (new : Trail) (r : Reading) → i ≡ count → Loop axes old count from i new r → (at : Stage (Unit {0})) → IsWalking axes old at
    → HasRead (many_at count add (point_at at.axes)) (λ points. points) same (IsWalking axes new) at from r
loop_read axes old count from i new r end loop at w =
    let (points, read, walked) = walk_ends same axes add (point_at axes) one_point add_is_sums count old tt from i new tt r end loop in
    subst (λ (at : Stage (Unit {0})). HasRead (many_at count add (point_at at.axes)) (λ points. points) same (IsWalking axes new) at from r) (sym w.at_is)
    (record {
      value = points;
      read = read;
      trail = new;
      state = tt;
      there = record { some = w.some; few = w.few; at_is = refl };
      walked = subst (IsWalked same axes old new tt tt from.place r.place) (flat_single points) walked;
    })

-- the next point fails
pub loop_ended : (axes : ℕ) (old : Trail) (count : ℕ) (from : Reading) (i : ℕ) (new : Trail) (r stop : Reading) (m : Malformed) → i < count → Loop axes old count from i new r → Fails (point_at axes new.last r) m stop → (at : Stage (Unit {0})) → IsWalking axes old at
    → EndsEarly (many_at count add (point_at at.axes)) (λ points. points) same (λ s. ⊥) (Some m) at from stop
loop_ended axes old count from i new r stop m lt loop fails at w =
    subst (λ (at : Stage (Unit {0})). EndsEarly (many_at count add (point_at at.axes)) (λ points. points) same (λ s. ⊥) (Some m) at from stop) (sym w.at_is)
    (walk_fails same axes add (point_at axes) one_point add_is_sums count old tt from i new tt r stop m lt fails loop)
