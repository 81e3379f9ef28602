-- Numbers that are read and taken, and more after them.
use Rattle.twkb_num.proofs.Prelude.{ap, ◌∙◌, take, drop, length-drop, ◌≡◌, ◌⊎◌, inl, inr, ℕ, ℤ, ◌+◌, ◌*◌, ◌<◌, ◌≤◌, List, [], ◌∷◌, ◌++◌, length, sym, subst, refl, arith, append_assoc, length-append, cases_Bool, cond-true, cond-false, append-nil, length-take, mul-add, Reading, passed, IsMoved, IsSigned, SpellsAllSigned, count_in, IsAxes, points_in, ReadsNumbers, StopsAt, TakesOn, Takes, StopsTaking, NumFault}
use Rattle.std.proofs.Common.{nat_eq}
use Rattle.twkb_num.proofs.CursorLemmas.{passed-append, IsMoved-after}
use Rattle.twkb_num.proofs.LaneLemmas.{SpellsAllSigned-append}

-- at most four
pub few_axes : (n : ℕ) → IsAxes n → n ≤ 4
few_axes n (inl two) = omega (arith, two)
few_axes n (inr (inl three)) = omega (arith, three)
few_axes n (inr (inr four)) = omega (arith, four)

-- whole points of at most four numbers
pub few_whole : (axes many : ℕ) → IsAxes axes → (many ≡ axes) ⊎ ((axes ≡ 2) × (many ≡ 4)) → many ≤ 4
few_whole axes many some (inl one) = omega (arith, few_axes axes some, one)
few_whole axes many some (inr two) = omega (arith, two.1)

-- of eight lanes
pub length-points_in : (axes : ℕ) (lanes : List ℤ) → length lanes ≡ 8 → length (points_in axes lanes) ≡ count_in axes
length-points_in axes lanes eight =
    elim (cases_Bool (nat_eq axes 3)) [
      | inl three ↦ ap length (cond-true (nat_eq axes 3) (take 3 lanes ++ take 3 (drop 4 lanes)) lanes three) ∙ simp (length-append, length-take, length-drop) (omega (arith, eight)) ∙ sym (cond-true (nat_eq axes 3) 6 8 three)
      | inr other ↦ ap length (cond-false (nat_eq axes 3) (take 3 lanes ++ take 3 (drop 4 lanes)) lanes other) ∙ eight ∙ sym (cond-false (nat_eq axes 3) 6 8 other)
    ]

-- one number was read
pub one_read : (a b : Reading) (z : ℤ) → IsSigned z (passed a b) → IsMoved a b → ReadsNumbers a b (z ∷ [])
one_read a b z one moved = record { spelled = (passed a b, [], sym (append-nil (passed a b)), one, refl); moved = moved }

-- numbers were read, and then more
pub more_read : (a b c : Reading) (xs ys : List ℤ) → ReadsNumbers a b xs → ReadsNumbers b c ys → ReadsNumbers a c (xs ++ ys)
more_read a b c xs ys p q = record {
  spelled = subst (λ bs. SpellsAllSigned bs (xs ++ ys)) (passed-append a b c p.moved q.moved) (SpellsAllSigned-append _ _ _ _ p.spelled q.spelled);
  moved = IsMoved-after a b c p.moved q.moved;
}

module _ {S : Type 0} (took : S → List ℤ → S → Type 0) (axes : ℕ) where
  -- numbers were taken, and then more, from a later axis on
  pub more_on : (axis next k : ℕ) (s t u : S) (xs ys : List ℤ) → TakesOn took axes axis s xs t → TakesOn took axes next t ys u → length xs + axis ≡ axes * k + next → TakesOn took axes axis s (xs ++ ys) u
  more_on axis next k s t u xs ys p q e first before points h n =
      let sum : length (before ++ xs) ≡ axes * (points + k) + next = omega (arith, length-append before xs, n, e, mul-add axes points k) in
      subst (λ l. took first l u) (append_assoc before xs ys) (q first (before ++ xs) (points + k) (p first before points h n) sum)

  pub takes_more : (axis next k m n all : ℕ) (a b c : Reading) (s t u : S) → Takes took axes axis m a b s t → Takes took axes next n b c t u → m + axis ≡ axes * k + next → m + n ≡ all → Takes took axes axis all a c s u
  takes_more axis next k m n all a b c s t u p q e sum =
      (p.0 ++ q.0, omega (arith, length-append p.0 q.0, p.1, q.1, sum), more_read a b c p.0 q.0 p.2 q.2, more_on axis next k s t u p.0 q.0 p.3 q.3 (omega (arith, p.1, e)))

  -- the first numbers of a point were taken, and then there is a fault
  pub stops_here : (axis many : ℕ) (a b c : Reading) (s t u : S) (fault : NumFault) → Takes took axes 0 axis a b s t → axis < many → StopsAt b c fault → u ≡ t → StopsTaking took axes many a c s u fault
  stops_here axis many a b c s t u fault p fewer stops same = record {
    before = record { numbers = p.0; middle = b; fewer = omega (arith, p.1, fewer); read = p.2; stops = stops };
    on = subst (λ v. TakesOn took axes 0 s p.0 v) (sym same) p.3;
  }

  -- whole points were taken, and of those after them fewer
  pub stops_later : (k m all : ℕ) (a b c : Reading) (s t u : S) (fault : NumFault) → Takes took axes 0 (axes * k) a b s t → StopsTaking took axes m b c t u fault → axes * k + m ≤ all
      → StopsTaking took axes all a c s u fault
  stops_later k m all a b c s t u fault p q few =
      let r = q.before in
      record {
        before = record {
          numbers = p.0 ++ r.numbers;
          middle = r.middle;
          fewer = omega (arith, length-append p.0 r.numbers, p.1, r.fewer, few);
          read = more_read a b r.middle p.0 r.numbers p.2 r.read;
          stops = r.stops;
        };
        on = more_on 0 0 k s t u p.0 r.numbers p.3 q.on (omega (arith, p.1));
      }
