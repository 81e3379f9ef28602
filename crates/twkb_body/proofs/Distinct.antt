-- The ids of a list are distinct if the neighbors of the sorted list differ.
use Rattle.twkb_body.proofs.Prelude.{◌≡◌, ◌≢◌, ℕ, zero, suc, ◌+◌, ◌<◌, Bool, true, false, ℤ, ◌≤ℤ◌, ◌<ℤ◌, Ordering, Less, Equal, Greater, List, [], ◌∷◌, length, get_or, AllPairs, refl, sym, arith, IsDistinct, int_cmp, int_eq, is_lt, MatchOrdering, ints, All-from_recursion, recursion_from_All, AllPairs-cons, sorted_far, ranks_by, Decides-int_eq, Decides-like, not_from_Decides, same_from_decides}
use Rattle.std.specs.List.Sorted.{IsSorted, IsPermutation}
use Rattle.std.specs.Cmp.{int_ranks}
use Rattle.std.proofs.lemmas.Cmp.{int_cmp_total}
use Rattle.std.proofs.lemmas.Map.Keys.{IsDistinct-IsPermutation}

pub pairs_from_distinct : (xs : List ℤ) → IsDistinct int_eq xs → AllPairs (λ a b. a ≢ b) xs
unfolding IsDistinct
pairs_from_distinct [] h = λ i j d lt within. absurd (omega arith)
pairs_from_distinct (x ∷ xs) h =
    let others = All-from_recursion (λ y. int_eq x y ≡ false) xs h.0 in
    AllPairs-cons (λ a b. a ≢ b) x xs (λ k d lt. not_from_Decides (int_eq x (get_or xs k d)) (Decides-int_eq x (get_or xs k d)) (others k d lt)) (pairs_from_distinct xs h.1)

neither : (t : Bool) → (t ≡ true → ⊥) → t ≡ false
neither true h = absurd (h refl)
neither false h = refl

pub distinct_from_pairs : (xs : List ℤ) → AllPairs (λ a b. a ≢ b) xs → IsDistinct int_eq xs
unfolding IsDistinct
distinct_from_pairs [] h = tt
distinct_from_pairs (x ∷ xs) h = (
  recursion_from_All (λ y. int_eq x y ≡ false) xs (λ k d lt. unequal x (get_or xs k d) (h zero (suc k) d (omega arith) (omega arith))),
  distinct_from_pairs xs (λ i j d lt within. h (suc i) (suc j) d (omega arith) (omega arith)),
)
  where
    unequal : (a b : ℤ) → a ≢ b → int_eq a b ≡ false
    unequal a b n = neither (int_eq a b) (λ e. n ((Decides-int_eq a b).0 e))

-- ids that differ also differ in another order
pub pairs_permuted : (xs ys : List ℤ) → IsPermutation xs ys → AllPairs (λ a b. a ≢ b) xs → AllPairs (λ a b. a ≢ b) ys
pairs_permuted xs ys p h = pairs_from_distinct ys (IsDistinct-IsPermutation int_eq flips xs ys p (distinct_from_pairs xs h))
  where
    flips : (x y : ℤ) → int_eq x y ≡ int_eq y x
    flips x y = same_from_decides (int_eq x y) (int_eq y x) (Decides-int_eq x y) (Decides-like (int_eq y x) sym sym (Decides-int_eq y x))

not_above : (a b : ℤ) (r : Ordering) → MatchOrdering r (a <ℤ b) (a ≡ b) (b <ℤ a) → is_lt r ≡ false → b ≤ℤ a
not_above a b Less m e = cc
not_above a b Equal m e = omega (arith, ints)
not_above a b Greater m e = omega (arith, ints)

-- if the neighbors of a sorted list differ, all its ids differ
pub pairs_from_sorted : (xs : List ℤ) → IsSorted int_cmp xs → ((k : ℕ) (d : ℤ) → k + 1 < length xs → get_or xs k d ≢ get_or xs (k + 1) d) → AllPairs (λ a b. a ≢ b) xs
pairs_from_sorted xs up apart i j d lt within same =
    let far = sorted_far (λ x y. is_lt (int_cmp x y)) (ranks_by int_cmp_total (λ x. x)) xs up in
    let a = get_or xs i d in
    let b = get_or xs (i + 1) d in
    let c = get_or xs j d in
    let low : a ≤ℤ b = not_above b a (int_cmp b a) (int_ranks b a) (far i (i + 1) d (omega arith) (omega arith)) in
    let high : b ≤ℤ c = not_above c b (int_cmp c b) (int_ranks c b) (far (i + 1) j d (omega arith) within) in
    let e : a ≡ c = same in
    apart i d (omega arith) (omega (arith, ints))
