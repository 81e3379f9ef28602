-- The laws of a plan: which bytes spell a value by it, and where bytes stop in it. Combinators make the laws of a plan from
-- the laws of its parts, so a format has only to restate the result in its own words.
use Rattle.twkb_head.proofs.Prelude.{◌≡◌, ℕ, zero, suc, ◌+◌, ◌<◌, Bool, true, false, List, [], ◌∷◌, ◌++◌, length, ℤ, pos, Some, ◌⊎◌, inl, inr, refl, sym, ap, ap₂, subst, subst₂, ◌∙◌, append_assoc, arith, length-append, add_assoc, add-zero, append-nil, Then, Sequence, Times, Announced, Field, Plan, done, ask, bind, many, measure, optional}
use Rattle.twkb_head.proofs.Spelling.{Spelled, Stops}

-- Which bytes spell a value by a plan, and where bytes stop in it, each in words of the format and back.
pub record PlanLaws {A : Type 0} (plan : Plan A) (Is : A → List ℕ → Type 0) (Begun : List ℕ → Field → Type 0) : Type 0 where
  pub spelled : (x : A) (bytes : List ℕ) → Spelled plan x bytes → Is x bytes
  pub spelled_back : (x : A) (bytes : List ℕ) → Is x bytes → Spelled plan x bytes
  pub stops : (p : List ℕ) (due : Field) → Stops plan p due → Begun p due
  pub stops_back : (p : List ℕ) (due : Field) → Begun p due → Stops plan p due

-- the laws of a plan, restated in other words
pub restated : {A : Type 0} {plan : Plan A} {Is Other : A → List ℕ → Type 0} {Begun Behind : List ℕ → Field → Type 0} → PlanLaws plan Is Begun
    → ((x : A) (bytes : List ℕ) → Is x bytes → Other x bytes) → ((x : A) (bytes : List ℕ) → Other x bytes → Is x bytes)
    → ((p : List ℕ) (due : Field) → Begun p due → Behind p due) → ((p : List ℕ) (due : Field) → Behind p due → Begun p due)
    → PlanLaws plan Other Behind
restated laws is is_back begun begun_back = record {
  spelled = λ x bytes s. is x bytes (laws.spelled x bytes s);
  spelled_back = λ x bytes h. laws.spelled_back x bytes (is_back x bytes h);
  stops = λ p due s. begun p due (laws.stops p due s);
  stops_back = λ p due b. laws.stops_back p due (begun_back p due b);
}

-- a value and, after its bytes, a second value that depends on it
abbrev pub Chain : {A B : Type 0} → (A → List ℕ → Type 0) → (A → B → List ℕ → Type 0) → B → List ℕ → Type 0
Chain {A} Is Next y bytes = (x : A) × Then (Is x) (Next x y) bytes

pub chained : {A : Type 0} {Is Next : A → List ℕ → Type 0} {bytes : List ℕ} (x : A) (front rest : List ℕ) → bytes ≡ front ++ rest → Is x front → Next x rest
    → (x : A) × Then (Is x) (Next x) bytes
chained x front rest split is next = (x, (front, rest, split, is, next))

-- the value is begun; or it is whole, and the value that depends on it is begun
abbrev pub BegunChain : {A : Type 0} → (List ℕ → Field → Type 0) → (A → List ℕ → Type 0) → (A → List ℕ → Field → Type 0) → List ℕ → Field → Type 0
BegunChain {A} Begun Is Next p due = Begun p due ⊎ ((x : A) × Then (Is x) (λ rest. Next x rest due) p)

-- a begun chain, with the value that depends on the first in other words
pub behind_again : {A Begun : Type 0} {Is Next Other : A → List ℕ → Type 0} {p : List ℕ} → ((x : A) (rest : List ℕ) → Next x rest → Other x rest)
    → Begun ⊎ ((x : A) × Then (Is x) (Next x) p) → Begun ⊎ ((x : A) × Then (Is x) (Other x) p)
behind_again other (inl b) = inl b
behind_again other (inr (x, (front, rest, split, is, next))) = inr (x, (front, rest, split, is, other x rest next))

-- a value that f makes
abbrev pub Made : {A B : Type 0} → (A → B) → (A → List ℕ → Type 0) → B → List ℕ → Type 0
Made {A} f Is y bytes = (x : A) × (y ≡ f x) × Is x bytes

-- a value, and the number of its bytes
abbrev pub Measured : {A : Type 0} → (A → List ℕ → Type 0) → A × ℕ → List ℕ → Type 0
Measured Is x bytes = Is x.0 bytes × (x.1 ≡ length bytes)

-- bytes that spell a value by one plan and then another spell a value by each, one after the other
bind_spelled : {A B : Type 0} (p : Plan A) (k : A → Plan B) (y : B) (bytes : List ℕ) → Spelled (bind p k) y bytes
    → (x : A) × Then (Spelled p x) (Spelled (k x) y) bytes
bind_spelled (done x) k y bytes s = (x, ([], bytes, refl, (refl, refl), s))
bind_spelled (ask r next) k y bytes (front, rest, parts, ok, more) =
    let t = bind_spelled (next front) k y rest more in
    (t.0, (front ++ t.1.0, t.1.1, parts ∙ ap (λ (z : List ℕ). front ++ z) t.1.2 ∙ sym (append_assoc front t.1.0 t.1.1), (front, t.1.0, refl, ok, t.1.3), t.1.4))

spelled_bind : {A B : Type 0} (p : Plan A) (k : A → Plan B) (x : A) (y : B) (bytes : List ℕ) → Then (Spelled p x) (Spelled (k x) y) bytes
    → Spelled (bind p k) y bytes
spelled_bind (done z) k x y bytes (front, rest, parts, (e, nil), more) =
    subst₂ (λ (x : _) (b : List ℕ). Spelled (k x) y b) e (sym (parts ∙ ap (λ (z : List ℕ). z ++ rest) nil)) more
spelled_bind (ask r next) k x y bytes (front, rest, parts, (a, b, parts', ok, s), more) =
    (a, b ++ rest, parts ∙ ap (λ (z : List ℕ). z ++ rest) parts' ∙ append_assoc a b rest, ok, spelled_bind (next a) k x y (b ++ rest) (b, rest, refl, s, more))

bind_stops : {A B : Type 0} (p : Plan A) (k : A → Plan B) (bytes : List ℕ) (due : Field) → Stops (bind p k) bytes due
    → Stops p bytes due ⊎ ((x : A) × Then (Spelled p x) (λ rest. Stops (k x) rest due) bytes)
bind_stops (done x) k bytes due s = inr (x, ([], bytes, refl, (refl, refl), s))
bind_stops (ask r next) k bytes due (inl h) = inl (inl h)
bind_stops {A} (ask r next) k bytes due (inr (front, rest, parts, ok, more)) = go (bind_stops (next front) k rest due more)
  where
    go : Stops (next front) rest due ⊎ ((x : A) × Then (Spelled (next front) x) (λ rest. Stops (k x) rest due) rest)
        → Stops (ask r next) bytes due ⊎ ((x : A) × Then (Spelled (ask r next) x) (λ rest. Stops (k x) rest due) bytes)
    go (inl s) = inl (inr (front, rest, parts, ok, s))
    go (inr (x, (a, b, parts', s, more'))) =
        inr (x, (front ++ a, b, parts ∙ ap (λ (z : List ℕ). front ++ z) parts' ∙ sym (append_assoc front a b), (front, a, refl, ok, s), more'))

stops_first : {A B : Type 0} (p : Plan A) (k : A → Plan B) (bytes : List ℕ) (due : Field) → Stops p bytes due → Stops (bind p k) bytes due
stops_first (done x) k bytes due s = absurd s
stops_first (ask r next) k bytes due (inl h) = inl h
stops_first (ask r next) k bytes due (inr (front, rest, parts, ok, more)) = inr (front, rest, parts, ok, stops_first (next front) k rest due more)

stops_then : {A B : Type 0} (p : Plan A) (k : A → Plan B) (x : A) (bytes : List ℕ) (due : Field) → Then (Spelled p x) (λ rest. Stops (k x) rest due) bytes
    → Stops (bind p k) bytes due
stops_then (done z) k x bytes due (front, rest, parts, (e, nil), more) =
    subst₂ (λ (x : _) (b : List ℕ). Stops (k x) b due) e (sym (parts ∙ ap (λ (z : List ℕ). z ++ rest) nil)) more
stops_then (ask r next) k x bytes due (front, rest, parts, (a, b, parts', ok, s), more) =
    inr (a, b ++ rest, parts ∙ ap (λ (z : List ℕ). z ++ rest) parts' ∙ append_assoc a b rest, ok, stops_then (next a) k x (b ++ rest) due (b, rest, refl, s, more))

module _ {A B : Type 0} {p : Plan A} {Is : A → List ℕ → Type 0} {Begun : List ℕ → Field → Type 0} where
  -- the laws of one plan and then another, whose laws hold after a value that is whole
  pub bind_laws_behind : {k : A → Plan B} {Next : A → B → List ℕ → Type 0} {Behind : A → List ℕ → Field → Type 0} → PlanLaws p Is Begun
      → ((x : A) (front : List ℕ) → Is x front → PlanLaws (k x) (Next x) (Behind x)) → PlanLaws (bind p k) (Chain Is Next) (BegunChain Begun Is Behind)
  bind_laws_behind {k} {Next} {Behind} first next = record {
    spelled = λ y bytes s.
        let t = bind_spelled p k y bytes s in
        let is = first.spelled t.0 t.1.0 t.1.3 in
        (t.0, (t.1.0, t.1.1, t.1.2, is, (next t.0 t.1.0 is).spelled y t.1.1 t.1.4));
    spelled_back = λ y bytes t.
        spelled_bind p k t.0 y bytes (t.1.0, t.1.1, t.1.2, first.spelled_back t.0 t.1.0 t.1.3, (next t.0 t.1.0 t.1.3).spelled_back y t.1.1 t.1.4);
    stops = λ bytes due s. begun bytes due (bind_stops p k bytes due s);
    stops_back = begun_back;
  }
    where
      begun : (bytes : List ℕ) (due : Field) → BegunChain (Stops p) (Spelled p) (λ x. Stops (k x)) bytes due → BegunChain Begun Is Behind bytes due
      begun bytes due (inl s) = inl (first.stops bytes due s)
      begun bytes due (inr (x, (front, rest, parts, s, more))) =
          let is = first.spelled x front s in
          inr (x, (front, rest, parts, is, (next x front is).stops rest due more))

      begun_back : (bytes : List ℕ) (due : Field) → BegunChain Begun Is Behind bytes due → Stops (bind p k) bytes due
      begun_back bytes due (inl b) = stops_first p k bytes due (first.stops_back bytes due b)
      begun_back bytes due (inr (x, (front, rest, parts, is, more))) =
          stops_then p k x bytes due (front, rest, parts, first.spelled_back x front is, (next x front is).stops_back rest due more)

  pub bind_laws : {k : A → Plan B} {Next : A → B → List ℕ → Type 0} {Behind : A → List ℕ → Field → Type 0} → PlanLaws p Is Begun
      → ((x : A) → PlanLaws (k x) (Next x) (Behind x)) → PlanLaws (bind p k) (Chain Is Next) (BegunChain Begun Is Behind)
  bind_laws first next = bind_laws_behind first (λ x front is. next x)

  -- a value made of a plan's
  pub done_laws : (f : A → B) → PlanLaws p Is Begun → PlanLaws (bind p (λ x. done (f x))) (Made f Is) Begun
  done_laws f laws = record {
    spelled = λ y bytes s.
        let t = bind_spelled p (λ x. done (f x)) y bytes s in
        (t.0, t.1.4.0, subst (Is t.0) (sym (t.1.2 ∙ ap (λ (z : List ℕ). t.1.0 ++ z) t.1.4.1 ∙ append-nil t.1.0)) (laws.spelled t.0 t.1.0 t.1.3));
    spelled_back = λ y bytes t.
        spelled_bind p (λ x. done (f x)) t.0 y bytes (bytes, [], sym (append-nil bytes), laws.spelled_back t.0 bytes t.2, (t.1, refl));
    stops = λ bytes due s. begun bytes due (bind_stops p (λ x. done (f x)) bytes due s);
    stops_back = λ bytes due b. stops_first p (λ x. done (f x)) bytes due (laws.stops_back bytes due b);
  }
    where
      begun : (bytes : List ℕ) (due : Field) → BegunChain (Stops p) (Spelled p) (λ x rest due. ⊥) bytes due → Begun bytes due
      begun bytes due (inl s) = laws.stops bytes due s
      begun bytes due (inr (x, (front, rest, parts, s, never))) = absurd never

-- lengths
measure_spelled : {A : Type 0} (n : ℕ) (p : Plan A) (x : A × ℕ) (bytes : List ℕ) → Spelled (measure n p) x bytes → Spelled p x.0 bytes × (x.1 ≡ n + length bytes)
measure_spelled n (done y) x bytes (e, nil) = ((ap (λ (z : _). z.0) e, nil), ap (λ (z : _). z.1) e ∙ sym (add-zero n) ∙ ap (λ (z : List ℕ). n + length z) (sym nil))
measure_spelled n (ask r next) x bytes (front, rest, parts, ok, more) =
    let t = measure_spelled (n + length front) (next front) x rest more in
    ((front, rest, parts, ok, t.0), t.1 ∙ add_assoc n (length front) (length rest) ∙ ap (λ (k : ℕ). n + k) (sym (length-append front rest)) ∙ ap (λ (z : List ℕ). n + length z) (sym parts))

spelled_measure : {A : Type 0} (n : ℕ) (p : Plan A) (x : A) (bytes : List ℕ) → Spelled p x bytes → Spelled (measure n p) (x, n + length bytes) bytes
spelled_measure n (done y) x bytes (e, nil) = (ap₂ (λ (a : _) (b : ℕ). (a, b)) e (ap (λ (z : List ℕ). n + length z) nil ∙ add-zero n), nil)
spelled_measure {A} n (ask r next) x bytes (front, rest, parts, ok, more) =
    let long : n + length front + length rest ≡ n + length bytes = add_assoc n (length front) (length rest) ∙ ap (λ (k : ℕ). n + k) (sym (length-append front rest)) ∙ ap (λ (z : List ℕ). n + length z) (sym parts) in
    (front, rest, parts, ok, subst (λ (m : ℕ). Spelled (measure (n + length front) (next front)) (x, m) rest) long (spelled_measure (n + length front) (next front) x rest more))

measure_stops : {A : Type 0} (n : ℕ) (p : Plan A) (bytes : List ℕ) (due : Field) → Stops (measure n p) bytes due → Stops p bytes due
measure_stops n (done y) bytes due s = s
measure_stops n (ask r next) bytes due (inl h) = inl h
measure_stops n (ask r next) bytes due (inr (front, rest, parts, ok, more)) = inr (front, rest, parts, ok, measure_stops (n + length front) (next front) rest due more)

stops_measure : {A : Type 0} (n : ℕ) (p : Plan A) (bytes : List ℕ) (due : Field) → Stops p bytes due → Stops (measure n p) bytes due
stops_measure n (done y) bytes due s = s
stops_measure n (ask r next) bytes due (inl h) = inl h
stops_measure n (ask r next) bytes due (inr (front, rest, parts, ok, more)) = inr (front, rest, parts, ok, stops_measure (n + length front) (next front) rest due more)

pub measure_laws : {A : Type 0} {p : Plan A} {Is : A → List ℕ → Type 0} {Begun : List ℕ → Field → Type 0} → PlanLaws p Is Begun
    → PlanLaws (measure 0 p) (Measured Is) Begun
measure_laws {p} laws = record {
  spelled = λ x bytes s.
      let t = measure_spelled 0 p x bytes s in
      (laws.spelled x.0 bytes t.0, omega (arith, t.1));
  spelled_back = λ x bytes h.
      subst (λ (n : ℕ). Spelled (measure 0 p) (x.0, n) bytes) (omega (arith, h.1)) (spelled_measure 0 p x.0 bytes (laws.spelled_back x.0 bytes h.0));
  stops = λ bytes due s. laws.stops bytes due (measure_stops 0 p bytes due s);
  stops_back = λ bytes due b. stops_measure 0 p bytes due (laws.stops_back bytes due b);
}

-- optional parts
pub optional_laws : {A : Type 0} {p : Plan A} {Is : A → List ℕ → Type 0} {Begun : List ℕ → Field → Type 0} (there : Bool) → PlanLaws p Is Begun
    → PlanLaws (optional there p) (Announced there Is) (λ bytes due. (there ≡ true) × Begun bytes due)
optional_laws false laws = record {
  spelled = λ x bytes s. s;
  spelled_back = λ x bytes h. h;
  stops = λ bytes due s. absurd s;
  stops_back = λ bytes due b. absurd (cc (b.0));
}
optional_laws true laws = restated (done_laws Some laws) (λ x bytes h. h) (λ x bytes h. h) (λ bytes due b. (refl, b)) (λ bytes due b. b.1)

-- Fit holds of each value in the state that the values before it leave
abbrev pub FitAll : {A S : Type 0} → (S → A → S) → (S → A → Type 0) → S → List A → Type 0
FitAll after Fit s [] = Unit {0}
FitAll after Fit s (x ∷ xs) = Fit s x × FitAll after Fit (after s x) xs

abbrev pub after_all : {A S : Type 0} → (S → A → S) → S → List A → S
after_all after s [] = s
after_all after s (x ∷ xs) = after_all after (after s x) xs

-- fewer than n values are whole, and one is begun
pub record BegunMany {A S : Type 0} (n : ℕ) (after : S → A → S) (Q : A → List ℕ → Type 0) (Fit : S → A → Type 0) (B : S → List ℕ → Field → Type 0)
    (s : S) (p : List ℕ) (due : Field) : Type 0 where
  pub xs : List A
  pub wholes : List ℕ
  pub rest : List ℕ
  pub fewer : length xs < n
  pub whole : Sequence Q xs wholes
  pub fit : FitAll after Fit s xs
  pub begun : B (after_all after s xs) rest due
  pub parts : p ≡ wholes ++ rest

-- n values, each in the state that the values before it leave
abbrev pub AreAll : {A S : Type 0} → (S → A → S) → (A → List ℕ → Type 0) → (S → A → Type 0) → ℕ → S → List A → List ℕ → Type 0
AreAll after Q Fit n s xs bytes = (length xs ≡ n) × Sequence Q xs bytes × FitAll after Fit s xs

module _ {A S : Type 0} {after : S → A → S} {plan : S → Plan A} {Q : A → List ℕ → Type 0} {Fit : S → A → Type 0} {B : S → List ℕ → Field → Type 0} where
  pub many_laws : ((s : S) → PlanLaws (plan s) (λ x bytes. Q x bytes × Fit s x) (B s)) → (n : ℕ) (s : S)
      → PlanLaws (many n after plan s) (AreAll after Q Fit n s) (BegunMany n after Q Fit B s)
  many_laws each zero s = record {
    spelled = λ xs bytes h. subst (λ (xs : List A). AreAll after Q Fit 0 s xs bytes) (sym h.0) (refl, h.1, tt);
    spelled_back = none;
    stops = λ bytes due h. absurd h;
    stops_back = λ bytes due b. absurd (omega (arith, b.fewer));
  }
    where
      none : (xs : List A) (bytes : List ℕ) → AreAll after Q Fit 0 s xs bytes → (xs ≡ []) × (bytes ≡ [])
      none [] bytes h = (refl, h.1)
      none (x ∷ xs) bytes h = absurd (omega (arith, h.0))
  many_laws each (suc n) s = restated (bind_laws (each s) (λ x. done_laws (λ (xs : List A). x ∷ xs) (many_laws each n (after s x)))) all all_back begun begun_back
    where
      IsSplit : List A → List ℕ → Type 0
      IsSplit = Chain (λ x bytes. Q x bytes × Fit s x) (λ x. Made (λ (xs : List A). x ∷ xs) (AreAll after Q Fit n (after s x)))

      IsBegun : List ℕ → Field → Type 0
      IsBegun = BegunChain (B s) (λ x bytes. Q x bytes × Fit s x) (λ x. BegunMany n after Q Fit B (after s x))

      all : (xs : List A) (bytes : List ℕ) → IsSplit xs bytes → AreAll after Q Fit (suc n) s xs bytes
      all xs bytes (x, (front, rest, parts, first, (ys, e, (number, whole, fit)))) =
          subst (λ (xs : List A). AreAll after Q Fit (suc n) s xs bytes) (sym e) (ap suc number, (front, rest, parts, first.0, whole), (first.1, fit))

      all_back : (xs : List A) (bytes : List ℕ) → AreAll after Q Fit (suc n) s xs bytes → IsSplit xs bytes
      all_back [] bytes h = absurd (omega (arith, h.0))
      all_back (x ∷ xs) bytes (number, (front, rest, parts, q, whole), (f, fit)) =
          (x, (front, rest, parts, (q, f), (xs, refl, (omega (arith, number), whole, fit))))

      begun : (bytes : List ℕ) (due : Field) → IsBegun bytes due → BegunMany (suc n) after Q Fit B s bytes due
      begun bytes due (inl h) = record { xs = []; wholes = []; rest = bytes; fewer = omega arith; whole = refl; fit = tt; begun = h; parts = refl }
      begun bytes due (inr (x, (front, rest, parts, first, b))) = record {
        xs = x ∷ b.xs;
        wholes = front ++ b.wholes;
        rest = b.rest;
        fewer = omega (arith, b.fewer);
        whole = (front, b.wholes, refl, first.0, b.whole);
        fit = (first.1, b.fit);
        begun = b.begun;
        parts = parts ∙ ap (λ (z : List ℕ). front ++ z) b.parts ∙ sym (append_assoc front b.wholes b.rest);
      }

      begun_back : (bytes : List ℕ) (due : Field) → BegunMany (suc n) after Q Fit B s bytes due → IsBegun bytes due
      begun_back bytes due b = go b.xs b.wholes b.fewer b.whole b.fit b.begun b.parts
        where
          go : (xs : List A) (wholes : List ℕ) → length xs < suc n → Sequence Q xs wholes → FitAll after Fit s xs → B (after_all after s xs) b.rest due
              → bytes ≡ wholes ++ b.rest → IsBegun bytes due
          go [] wholes few nil fit begun parts = inl (subst (λ (z : List ℕ). B s z due) (sym (parts ∙ ap (λ (z : List ℕ). z ++ b.rest) nil)) begun)
          go (x ∷ xs) wholes few (front, others, split, q, whole) (f, fit) begun parts =
              inr (chained x front (others ++ b.rest) (parts ∙ ap (λ (z : List ℕ). z ++ b.rest) split ∙ append_assoc front others b.rest) (q, f)
              (record { xs = xs; wholes = others; rest = b.rest; fewer = omega (arith, few); whole = whole; fit = fit; begun = begun; parts = refl }))

-- n values, one after another, with no state
abbrev pub BegunTimes : {A : Type 0} → (A → List ℕ → Type 0) → (List ℕ → Field → Type 0) → ℕ → List ℕ → Field → Type 0
BegunTimes {A} Q B n = BegunMany n (λ (s : ℤ) (x : A). s) Q (λ s x. Unit {0}) (λ s. B) (pos 0)

pub free : {A : Type 0} (s : ℤ) (xs : List A) → FitAll (λ (s : ℤ) (x : A). s) (λ s x. Unit {0}) s xs
free s [] = tt
free s (x ∷ xs) = (tt, free s xs)

pub times_laws : {A : Type 0} {plan : Plan A} {Q : A → List ℕ → Type 0} {B : List ℕ → Field → Type 0} → PlanLaws plan Q B → (n : ℕ)
    → PlanLaws (many n (λ (s : ℤ) (x : A). s) (λ s. plan) (pos 0)) (Times n Q) (BegunTimes Q B n)
times_laws laws n =
    restated (many_laws (λ (s : ℤ). restated laws (λ x bytes h. (h, tt)) (λ x bytes h. h.0) (λ p due b. b) (λ p due b. b)) n (pos 0))
    (λ xs bytes h. (h.0, h.1)) (λ xs bytes h. (h.0, h.1, free (pos 0) xs)) (λ p due b. b) (λ p due b. b)
