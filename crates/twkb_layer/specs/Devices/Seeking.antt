-- Devices of proofs: nothing public names them.
-- The visitor that seeks a vertex inside a window, and the proof of its law.
use Rattle.std.specs.Prelude.{Bool, true, refl, ◌≡◌, ℤ, ◌&&◌, ◌||◌, false, Option, Some, None, IfSome}
use Rattle.twkb_head.specs.declared.boxes.Vertex.{Vertex}
use Rattle.twkb_head.specs.declared.boxes.Bounds.{Bounds}
use Rattle.twkb_body.specs.Visit.{SkipsSoundly}
use Rattle.std.proofs.Common.{arith, ap, ◌⊎◌, inl, inr}
use Rattle.std.proofs.lemmas.Int.{ints}
use Rattle.twkb_head.specs.declared.boxes.Span.{Span}
use Rattle.twkb_head.specs.Holds.{Holds, IsWithin}
use Rattle.twkb_layer.specs.Window.{in_span, in_bound, is_inside, lie_apart, lie_apart_if_both, box_misses}
use Rattle.twkb_layer.specs.Devices.RawWindows.{misses_in_z_or_m}

-- a window, and whether a vertex inside was met
pub record Seeking : Type 0 where
  pub window : Bounds
  pub met : Bool

-- the state after a vertex, which is met if it is inside
abbrev pub seeks : Seeking → Vertex → Seeking
seeks s v = record { window = s.window; met = s.met || is_inside s.window v }

-- a box is skipped if it misses the window
abbrev pub seeks_past : Seeking → Bounds → Bool
seeks_past s box = box_misses s.window box

-- ---- the law

-- if a disjunction is true, one of its parts is
either : (a b : Bool) → (a || b) ≡ true → (a ≡ true) ⊎ (b ≡ true)
either true b e = inl refl
either false b e = inr e

no_left : (a b : Bool) → a ≡ false → (a && b) ≡ false
no_left a b e = ap (λ (c : Bool). c && b) e

no_right : (a b : Bool) → b ≡ false → (a && b) ≡ false
no_right true b e = e
no_right false b e = refl

-- a value in a range isn't in a range that lies apart from it
span_outside : (box range : Span) (v : ℤ) → lie_apart box range ≡ true → IsWithin box v → in_span range v ≡ false
span_outside box range v e h = grind (arith, ints, e, h.0, h.1)

-- `span_outside` of ranges and a value that may be missing
bound_outside : (box range : Option Span) (v : Option ℤ) → lie_apart_if_both box range ≡ true
    → IfSome box (λ s. IfSome v (IsWithin s)) → in_bound range v ≡ false
bound_outside None range v e h = absurd (cc (e))
bound_outside (Some box) None v e h = absurd (cc (e))
bound_outside (Some box) (Some range) None e h = refl
bound_outside (Some box) (Some range) (Some v) e h = span_outside box range v e h

-- a vertex in a box that misses the window is outside it
pub outside : (w box : Bounds) (v : Vertex) → box_misses w box ≡ true → Holds box v → is_inside w v ≡ false
outside w box v e h = go (either (lie_apart box.x w.x) _ e)
  where
    last : (lie_apart_if_both box.z w.z ≡ true) ⊎ (lie_apart_if_both box.m w.m ≡ true)
        → (in_bound w.z v.z && in_bound w.m v.m) ≡ false
    last (inl z) = no_left _ _ (bound_outside box.z w.z v.z z h.z)
    last (inr m) = no_right _ _ (bound_outside box.m w.m v.m m h.m)

    behind : (lie_apart box.y w.y ≡ true) ⊎ (misses_in_z_or_m w box ≡ true)
        → (in_span w.y v.y && (in_bound w.z v.z && in_bound w.m v.m)) ≡ false
    behind (inl y) = no_left _ _ (span_outside box.y w.y v.y y h.y)
    behind (inr r) = no_right _ _ (last (either (lie_apart_if_both box.z w.z) _ r))

    go : (lie_apart box.x w.x ≡ true) ⊎ ((lie_apart box.y w.y || misses_in_z_or_m w box) ≡ true) → is_inside w v ≡ false
    go (inl x) = no_left _ _ (span_outside box.x w.x v.x x h.x)
    go (inr r) = no_right _ _ (behind (either (lie_apart box.y w.y) _ r))

or_false : (b c : Bool) → c ≡ false → (b || c) ≡ b
or_false true c e = refl
or_false false c e = e

pub seeks_soundly : SkipsSoundly seeks seeks_past
seeks_soundly s box v e h = (λ j. record {
  window = s.window;
  met = or_false s.met (is_inside s.window v) (outside s.window box v e h) j;
})
