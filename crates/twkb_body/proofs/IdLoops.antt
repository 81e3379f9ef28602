-- Reading the ids of a list one after another, with room for them or without.
use Rattle.twkb_body.proofs.Prelude.{◌≡◌, ◌≢◌, ℕ, zero, suc, ◌+◌, ◌<◌, ◌≤◌, List, [], ◌∷◌, ◌++◌, length, take, drop, ℤ, pos, ◌≤ℤ◌, ◌<ℤ◌, AllPairs, Ok, Err, refl, sym, ap, subst, ◌∙◌, append_assoc, arith, length-append, ints, take-append-drop, length-take, All-nil, All-cons, All-head, All-tail, All-append, AllPairs-cons, Reading, rest, IsSound, IsSigned, Malformed, Then, Sequence, Times, signeds_plan, signed_at, signeds_at, Fails, run_takes, signeds_laws, read_ok, IsLoop, loop_begins, loop_goes_on, loop_fails, loop_ends, HasManyIds}
use Rattle.std.proofs.Common.{All}
use Rattle.twkb_body.proofs.BodyRuns.{signeds_runs}
use Rattle.twkb_body.proofs.Repeats.{many_more}

-- the first parts, and the others
sequence_split : {A : Type 0} (P : A → List ℕ → Type 0) (xs ys : List A) (bytes : List ℕ) → Sequence P (xs ++ ys) bytes → Then (Sequence P xs) (Sequence P ys) bytes
sequence_split P [] ys bytes s = ([], bytes, refl, refl, s)
sequence_split P (x ∷ xs) ys bytes (front, rest, parts, p, s) =
    let t = sequence_split P xs ys rest s in
    (front ++ t.0, t.1, parts ∙ ap (λ (z : List ℕ). front ++ z) t.2 ∙ sym (append_assoc front t.0 t.1), (front, t.0, refl, p, t.3), t.4)

-- the bytes of the signed numbers that were read are at the front of the rest
signeds_stand : (n : ℕ) (r new : Reading) (ids : List ℤ) → IsSound r → signeds_at n r ≡ (Ok ids, new)
    → (front : List ℕ) × (rest r ≡ front ++ rest new) × Times n IsSigned ids front × (new.bytes ≡ r.bytes)
signeds_stand n r new ids sound e =
    let ok = read_ok (signeds_plan n) r new ids sound (signeds_runs n r ∙ e) in
    let t = run_takes (signeds_plan n) (rest r) (ids, rest new) ok.0 in
    (t.0, t.1, (signeds_laws n).spelled ids t.0 t.2, ok.1.bytes)

module _ (count : ℕ) (from : Reading) where
  -- i ids were read, and are held
  pub record IsIdLoop (i : ℕ) (held : List ℤ) (r : Reading) : Type 0 where
    pub read : IsLoop (λ s z. s) (λ s. signed_at) count (signeds_at count from) held i (pos 0) r
    pub so_far : signeds_at i from ≡ (Ok held, r)
    pub number : length held ≡ i

  pub ids_go_on : (i : ℕ) (held next : List ℤ) (r new : Reading) (id : ℤ) → i < count → signed_at r ≡ (Ok id, new) → next ≡ held ++ id ∷ [] → IsIdLoop i held r → IsIdLoop (i + 1) next new
  ids_go_on i held next r new id lt e more l = subst (λ (xs : List ℤ). IsIdLoop (i + 1) xs new) (sym more) (record {
    read = loop_goes_on (λ s z. s) (λ s. signed_at) count (signeds_at count from) held i (pos 0) r new id lt e l.read;
    so_far = many_more signed_at i from r new held id l.so_far e;
    number = length-append held (id ∷ []) ∙ ap (λ (k : ℕ). k + 1) l.number;
  })

  pub ids_fail : (i : ℕ) (held : List ℤ) (r new : Reading) (m : Malformed) → i < count → signed_at r ≡ (Err m, new) → IsIdLoop i held r → Fails (signeds_at count from) m new
  ids_fail i held r new m lt e l =
      loop_fails (λ s z. s) (λ s. signed_at) count (signeds_at count from) held i (pos 0) r new m lt (record { left = new; is = e; bytes = refl }) l.read

  -- memory is wanted only for a seventeenth id
  pub ids_many : (i : ℕ) (held : List ℤ) (r new : Reading) (id : ℤ) → IsSound from → i < count → signed_at r ≡ (Ok id, new) → 16 ≤ length held → IsIdLoop i held r
      → (new.bytes ≡ from.bytes) × HasManyIds count (rest from)
  ids_many i held r new id sound lt e full l =
      let all = held ++ id ∷ [] in
      let t = signeds_stand (i + 1) from new all sound (many_more signed_at i from r new held id l.so_far e) in
      let s = sequence_split IsSigned (take 17 all) (drop 17 all) t.0 (subst (λ (xs : List ℤ). Sequence IsSigned xs t.0) (sym (take-append-drop 17 all)) t.2.1) in (
        t.3,
        (
          omega (arith, full, l.number, lt),
          (
            take 17 all,
            s.0,
            s.1 ++ rest new,
            t.1 ∙ ap (λ (z : List ℕ). z ++ rest new) s.2 ∙ append_assoc s.0 s.1 (rest new),
            (omega (arith, length-take 17 all, length-append held (id ∷ []), full), s.3),
          ),
        ),
      )

-- ---- ids that are passed
module _ (count : ℕ) (from : Reading) where
  pub record IsPassLoop (i : ℕ) (r : Reading) : Type 0 where
    pub front : List ℤ
    pub read : IsLoop (λ s z. s) (λ s. signed_at) count (signeds_at count from) front i (pos 0) r

  abbrev pub pass_begins : IsPassLoop 0 from
  pass_begins = record { front = []; read = loop_begins (λ s z. s) (λ s. signed_at) count (signeds_at count from) (pos 0) from refl }

  abbrev pub pass_goes_on : (i : ℕ) (r new : Reading) (id : ℤ) → i < count → signed_at r ≡ (Ok id, new) → IsPassLoop i r → IsPassLoop (i + 1) new
  pass_goes_on i r new id lt e l = record { front = l.front ++ id ∷ []; read = loop_goes_on (λ s z. s) (λ s. signed_at) count (signeds_at count from) l.front i (pos 0) r new id lt e l.read }

-- ---- ids that rise
-- one more id that differs from all others
pairs_more : (ids : List ℤ) (id : ℤ) → AllPairs (λ a b. a ≢ b) ids → All (λ a. a ≢ id) ids → AllPairs (λ a b. a ≢ b) (ids ++ id ∷ [])
pairs_more [] id pairs differ = AllPairs-cons (λ a b. a ≢ b) id [] (All-nil (λ b. id ≢ b)) pairs
pairs_more (a ∷ ids) id pairs differ =
    AllPairs-cons (λ a b. a ≢ b) a (ids ++ id ∷ [])
    (All-append (λ b. a ≢ b) ids (id ∷ []) (λ k d lt. pairs zero (suc k) d (omega arith) (omega arith)) (All-cons (λ b. a ≢ b) id [] (All-head (λ x. x ≢ id) a ids differ) (All-nil (λ b. a ≢ b))))
    (pairs_more ids id (λ i j d lt within. pairs (suc i) (suc j) d (omega arith) (omega arith)) (All-tail (λ x. x ≢ id) a ids differ))

-- ids of at most the last one are less than a greater id, and differ from it
below_next : (ids : List ℤ) (last id : ℤ) → last <ℤ id → All (λ a. a ≤ℤ last) ids → All (λ a. a ≤ℤ id) ids × All (λ a. a ≢ id) ids
below_next ids last id lt below = (
  (λ k d within. let low = below k d within in omega (arith, ints)),
  (λ k d within same. let low = below k d within in omega (arith, ints, same)),
)

module _ (count : ℕ) (from : Reading) where
  -- i ids were read, which differ, and none is greater than the last
  pub record IsRisingLoop (i : ℕ) (last : ℤ) (r : Reading) : Type 0 where
    pub passed : IsPassLoop count from i r
    pub differ : AllPairs (λ a b. a ≢ b) passed.front
    pub below : All (λ a. a ≤ℤ last) passed.front

  pub rising_begins : (last : ℤ) → IsRisingLoop 0 last from
  rising_begins last = record { passed = pass_begins count from; differ = λ i j d lt within. absurd (omega arith); below = All-nil (λ a. a ≤ℤ last) }

  pub rising_goes_on : (i : ℕ) (last id : ℤ) (r new : Reading) → i < count → last <ℤ id → signed_at r ≡ (Ok id, new) → IsRisingLoop i last r → IsRisingLoop (i + 1) id new
  rising_goes_on i last id r new lt more e l =
      let t = below_next l.passed.front last id more l.below in
      record {
        passed = pass_goes_on count from i r new id lt e l.passed;
        differ = pairs_more l.passed.front id l.differ t.1;
        below = All-append (λ a. a ≤ℤ id) l.passed.front (id ∷ []) t.0 (All-cons (λ a. a ≤ℤ id) id [] (omega (arith, ints)) (All-nil (λ a. a ≤ℤ id)));
      }

  pub rising_ends : (i : ℕ) (last : ℤ) (r : Reading) → i ≡ count → IsRisingLoop i last r → (ids : List ℤ) × (signeds_at count from ≡ (Ok ids, r)) × AllPairs (λ a b. a ≢ b) ids
  rising_ends i last r end l =
      (l.passed.front, loop_ends (λ s z. s) (λ s. signed_at) count (signeds_at count from) l.passed.front i (pos 0) r (omega (arith, end)) l.passed.read, l.differ)
