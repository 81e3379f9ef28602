-- Runs of points: many points read at once, within a loop over more, and one more point after a run.
use Rattle.twkb_body.proofs.Prelude.{◌≡◌, ℕ, zero, suc, ◌+◌, ◌≤◌, List, [], ◌∷◌, ◌++◌, length, Ok, Err, refl, sym, ap, subst, ◌∙◌, append_assoc, arith, length-append, append-nil, Reading, Answer, Reader, many_at, after_all, IsLoop, loop_begins, loop_goes_on, loop_ends, Trail, PointValue, add, point_at, IsWalked}
use Rattle.twkb_body.proofs.Sums.{after_points}
use Rattle.twkb_body.proofs.Tracing.{many_back}
use Rattle.twkb_body.proofs.Walks.{walked_none, walked_then}

-- This many points were read, one after another, and added.
pub record IsRun {S : Type 0} (step : S → PointValue → S) (axes : ℕ) (old new : Trail) (state state' : S)
    (from to : Reading) (count : ℕ) : Type 0 where
  pub numbers : List PointValue
  pub many : length numbers ≡ count
  pub read : many_at count add (point_at axes) old.last from ≡ (Ok numbers, to)
  pub walked : IsWalked step axes old new state state' from.place to.place numbers

-- the values of an answer, if any
abbrev pub values_of : {A : Type 0} → Answer (List A) → List A
values_of (Ok xs, r) = xs
values_of (Err m, r) = []

module _ {A S : Type 0} (after : S → A → S) (read : S → Reader A) (count : ℕ) (total : Answer (List A)) where
  -- a loop goes on by k values
  abbrev Far : ℕ → Type 0
  Far k = (front : List A) (i : ℕ) (s : S) (r new : Reading) (xs : List A) → i + k ≤ count → many_at k after read s r ≡ (Ok xs, new) → IsLoop after read count total front i s r
      → IsLoop after read count total (front ++ xs) (i + k) (after_all after s xs) new

  far_none : Far 0
  far_none front i s r new xs le e l =
      let none : [] ≡ xs = ap values_of e in
      let same : r ≡ new = ap (λ (a : Answer (List A)). a.1) e in
      let start : IsLoop after read count total (front ++ []) (i + 0) s r =
      subst (λ (zs : List A). IsLoop after read count total zs (i + 0) s r) (sym (append-nil front)) (subst (λ (n : ℕ). IsLoop after read count total front n s r) (omega arith) l) in
      subst (λ (q : Reading). IsLoop after read count total (front ++ xs) (i + 0) (after_all after s xs) q) same
      (subst (λ (zs : List A). IsLoop after read count total (front ++ zs) (i + 0) (after_all after s zs) r) none start)

  far_more : (k : ℕ) → Far k → Far (suc k)
  far_more k far front i s r new xs le e l =
      let b = many_back after read k s r new xs e in
      let more = far (front ++ b.first ∷ []) (i + 1) (after s b.first) b.middle new b.others (omega (arith, le)) b.rest (loop_goes_on after read count total front i s r b.middle b.first (omega (arith, le)) b.one l) in
      let joined : IsLoop after read count total (front ++ (b.first ∷ b.others)) (i + 1 + k) (after_all after s (b.first ∷ b.others)) new =
      subst (λ (zs : List A). IsLoop after read count total zs (i + 1 + k) (after_all after (after s b.first) b.others) new) (append_assoc front (b.first ∷ []) b.others) more in
      subst (λ (n : ℕ). IsLoop after read count total (front ++ xs) n (after_all after s xs) new) (omega arith)
      (subst (λ (zs : List A). IsLoop after read count total (front ++ zs) (i + 1 + k) (after_all after s zs) new) b.all joined)

  pub goes_far : (k : ℕ) → Far k
  goes_far zero = far_none
  goes_far (suc k) = far_more k (goes_far k)

module _ {S : Type 0} (step : S → PointValue → S) (axes : ℕ) where
  -- a run of no points
  pub run_none : (a : Trail) (s : S) (r : Reading) → IsRun step axes a a s s r r 0
  run_none a s r = record { numbers = []; many = refl; read = refl; walked = walked_none step axes a s r.place }

  -- a run and one more point are a run
  pub run_goes_on : (start now next : Trail) (s t u : S) (from r new : Reading) (i : ℕ) (p : PointValue) → point_at axes now.last r ≡ (Ok p, new) → IsWalked step axes now next t u r.place new.place (p ∷ [])
      → IsRun step axes start now s t from r i → IsRun step axes start next s u from new (i + 1)
  run_goes_on start now next s t u from r new i p one walked run =
      let total = many_at (i + 1) add (point_at axes) start.last from in
      let begun : IsLoop add (point_at axes) (i + 1) total [] 0 start.last from = loop_begins add (point_at axes) (i + 1) total start.last from refl in
      let there : IsLoop add (point_at axes) (i + 1) total ([] ++ run.numbers) (0 + i) (after_all add start.last run.numbers) r =
      goes_far add (point_at axes) (i + 1) total i [] 0 start.last from r run.numbers (omega arith) run.read begun in
      let here : IsLoop add (point_at axes) (i + 1) total ([] ++ run.numbers) (0 + i) now.last r =
      subst (λ (s : PointValue). IsLoop add (point_at axes) (i + 1) total ([] ++ run.numbers) (0 + i) s r) (after_points start.last run.numbers ∙ sym run.walked.last) there in
      record {
        numbers = run.numbers ++ p ∷ [];
        many = length-append run.numbers (p ∷ []) ∙ ap (λ (k : ℕ). k + 1) run.many;
        read = loop_ends add (point_at axes) (i + 1) total (run.numbers ++ p ∷ []) (0 + i + 1) (add now.last p) new (omega arith)
            (loop_goes_on add (point_at axes) (i + 1) total run.numbers (0 + i) now.last r new p (omega arith) one here);
        walked = walked_then step axes start now next s t u from.place r.place new.place run.numbers (p ∷ []) run.walked walked;
      }
