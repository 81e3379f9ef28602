-- What a box asks for: ranges of raw coordinates and an extent in units, which are joined only when they are needed.
use Rattle.twkb_body.proofs.Prelude.{◌≡◌, ℕ, [], Option, Some, None, false, is_some, refl, sym, ap, subst, ◌∙◌, false≢true, Axes, m_axis, Ranges, Reach, reach_of, both, joined, range_at, scaled_if, in_units, reach_if}
use Rattle.twkb_body.proofs.Reaches.{both-assoc, both-comm, both-none}
use Rattle.twkb_body.proofs.Scales.{scaled_joined, scaled_if_joined}

-- both ranges, axis by axis
abbrev pub ranges_joined : Ranges → Ranges → Ranges
ranges_joined a b = record { x = joined a.x b.x; y = joined a.y b.y; third = joined a.third b.third; fourth = joined a.fourth b.fourth }

-- no range in any axis
abbrev pub no_ranges : Ranges
no_ranges = record { x = None; y = None; third = None; fourth = None }

-- joining ranges and scaling them is scaling both and joining their reaches
pub in_units_joined : (axes : Axes) (a b : Ranges) → in_units axes (ranges_joined a b) ≡ both (in_units axes a) (in_units axes b)
in_units_joined axes a b =
    (λ j. record { x = scaled_joined axes.xy a.x b.x j; y = scaled_joined axes.xy a.y b.y j; z = scaled_if_joined axes.z a.third b.third j; m = of_m axes.z j })
  where
    of_m : (z : Option ℕ) → scaled_if axes.m (range_at (ranges_joined a b) (m_axis z)) ≡ joined (scaled_if axes.m (range_at a (m_axis z))) (scaled_if axes.m (range_at b (m_axis z)))
    of_m None = scaled_if_joined axes.m a.third b.third
    of_m (Some p) = scaled_if_joined axes.m a.fourth b.fourth

-- without Z and M, joining the first two ranges is enough
pub flat_joined : (axes : Axes) (a b : Ranges) → axes.z ≡ None → axes.m ≡ None → in_units axes (record a { x = joined a.x b.x; y = joined a.y b.y }) ≡ both (in_units axes a) (in_units axes b)
flat_joined axes a b no_z no_m =
    subst (λ (other : Axes). in_units other (record a { x = joined a.x b.x; y = joined a.y b.y }) ≡ both (in_units other a) (in_units other b)) flat
    (λ j. record { x = scaled_joined axes.xy a.x b.x j; y = scaled_joined axes.xy a.y b.y j; z = None; m = None })
  where
    flat : record { xy = axes.xy; z = None; m = None } ≡ axes
    flat = λ j. record { xy = axes.xy; z = (sym no_z) j; m = (sym no_m) j }

-- no ranges are no vertices
pub in_units_none : (axes : Axes) → in_units axes no_ranges ≡ reach_of []
in_units_none axes = go axes.z axes.m
  where
    go : (z m : Option ℕ) → in_units (record { xy = axes.xy; z = z; m = m }) no_ranges ≡ reach_of []
    go None None = refl
    go (Some p) None = refl
    go None (Some q) = refl
    go (Some p) (Some q) = refl

-- what is added to the raw ranges is added to the whole
pub raw_grows : (grown raw others more : Reach) → grown ≡ both raw more → both grown others ≡ both (both raw others) more
raw_grows grown raw others more is = ap (λ (r : Reach). both r others) is ∙ both-assoc raw more others ∙ ap (both raw) (both-comm more others) ∙ sym (both-assoc raw others more)

-- without others, under headers of the same axes, the whole reach is that of the raw ranges
pub only_raw : (axes same : Axes) (raw : Ranges) (others : Option Reach) → axes ≡ same → is_some others ≡ false → both (in_units axes raw) (reach_if others) ≡ in_units same raw
only_raw axes same raw None are none = both-none (in_units axes raw) ∙ ap (λ (a : Axes). in_units a raw) are
only_raw axes same raw (Some r) are none = absurd (false≢true (sym none))
