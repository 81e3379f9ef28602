-- The laws of plans: reading by a plan, and the bytes that are spelled by it or stop in it.
use Rattle.twkb_head.proofs.Prelude.{◌≡◌, ℕ, List, [], ◌∷◌, ◌++◌, Option, Some, None, Result, Ok, Err, ◌⊎◌, inl, inr, refl, sym, ap, subst, subst₂, ◌∙◌, append_assoc, append-nil, Why, Cut, Field, IsField, Request, field_of, cut_field, judge, Plan, done, ask}
use Rattle.twkb_head.proofs.Spelling.{Fault, fault, run, IsGood, Spelled, Stops}
use Rattle.twkb_head.proofs.FieldCuts.{field_again, field_takes, field_once, field_cuts, field_some, ok_is}

-- the bytes spell a value by the plan, or stop in it
abbrev pub IsViableIn : {A : Type 0} → Plan A → List ℕ → Type 0
IsViableIn {A} plan p = ((x : A) × Spelled plan x p) ⊎ ((due : Field) × Stops plan p due)

-- reading goes on after a good field at the front
pub run-good : {A : Type 0} (r : Request) (next : List ℕ → Plan A) (front rest : List ℕ) → IsGood r front → run (ask r next) (front ++ rest) ≡ run (next front) rest
run-good r next front rest good = rw (field_again (field_of r) front rest good.0) (rw (good.1) refl)

-- bytes that spell a value by a plan are read as this value
pub run_again : {A : Type 0} (plan : Plan A) (x : A) (front rest : List ℕ) → Spelled plan x front → run plan (front ++ rest) ≡ Ok (x, rest)
run_again (done y) x front rest s = rw (s.0, s.1) refl
run_again (ask r next) x bytes rest (front, behind, parts, good, more) =
    ap (λ (z : List ℕ). run (ask r next) (z ++ rest)) parts
    ∙ ap (run (ask r next)) (append_assoc front behind rest)
    ∙ run-good r next front (behind ++ rest) good
    ∙ run_again (next front) x behind rest more

-- bytes that stop in a plan are cut where they end
pub run_stops : {A : Type 0} (plan : Plan A) (p : List ℕ) (due : Field) → Stops plan p due → run plan p ≡ Err (fault Cut due [])
run_stops (done y) p due s = absurd s
run_stops (ask r next) p due (inl (e, is)) = rw (e, is) (rw (field_cuts (field_of r)) refl)
run_stops (ask r next) p due (inr (front, rest, parts, good, more)) =
    ap (run (ask r next)) parts ∙ run-good r next front rest good ∙ run_stops (next front) rest due more

-- how a field at the front is read
data Step {A : Type 0} (r : Request) (next : List ℕ → Plan A) (bytes : List ℕ) : Type 0 where
  uncut : (w : Why) → cut_field (field_of r) bytes ≡ Err w → run (ask r next) bytes ≡ Err (fault w (field_of r) bytes) → Step r next bytes
  refused : (w : Why) (front rest : List ℕ) → bytes ≡ front ++ rest → IsField (field_of r) front → judge r front ≡ Some w
      → run (ask r next) bytes ≡ Err (fault w (field_of r) bytes) → Step r next bytes
  good : (front rest : List ℕ) → bytes ≡ front ++ rest → IsGood r front → run (ask r next) bytes ≡ run (next front) rest → Step r next bytes

step_of : {A : Type 0} (r : Request) (next : List ℕ → Plan A) (bytes : List ℕ) → Step r next bytes
step_of {A} r next bytes = go (cut_field (field_of r) bytes) refl
  where
    judged_is : (y : List ℕ × List ℕ) → cut_field (field_of r) bytes ≡ Ok y → (j : Option Why) → judge r y.0 ≡ j → Step r next bytes
    judged_is y cut None is =
        let t = field_takes (field_of r) bytes y cut in
        good y.0 y.1 t.0 (t.1, is) (rw (cut) (rw (is) refl))
    judged_is y cut (Some w) is =
        let t = field_takes (field_of r) bytes y cut in
        refused w y.0 y.1 t.0 t.1 is (rw (cut) (rw (is) refl))

    go : (c : Result (List ℕ × List ℕ) Why) → cut_field (field_of r) bytes ≡ c → Step r next bytes
    go (Ok y) cut = judged_is y cut (judge r y.0) refl
    go (Err w) cut = uncut w cut (rw (cut) refl)

-- a value that is read is spelled by the plan
pub run_takes : {A : Type 0} (plan : Plan A) (bytes : List ℕ) (x : A × List ℕ) → run plan bytes ≡ Ok x
    → (front : List ℕ) × (bytes ≡ front ++ x.1) × Spelled plan x.0 front
run_takes {A} (done y) bytes x e = ([], ap (λ (z : A × List ℕ). z.1) same, (sym (ap (λ (z : A × List ℕ). z.0) same), refl))
  where
    same : (y, bytes) ≡ x
    same = ok_is (y, bytes) x e
run_takes {A} (ask r next) bytes x e = go (step_of r next bytes) (λ front rest. run_takes (next front) rest x)
  where
    go : Step r next bytes → ((front rest : List ℕ) → run (next front) rest ≡ Ok x → (f : List ℕ) × (rest ≡ f ++ x.1) × Spelled (next front) x.0 f)
        → (front : List ℕ) × (bytes ≡ front ++ x.1) × Spelled (ask r next) x.0 front
    go (uncut w cut is) ih = absurd (cc (is, e))
    go (refused w front rest parts field bad is) ih = absurd (cc (is, e))
    go (good front rest parts ok is) ih =
        let more = ih front rest (sym is ∙ e) in
        (front ++ more.0, parts ∙ ap (λ (z : List ℕ). front ++ z) more.1 ∙ sym (append_assoc front more.0 x.1), (front, more.0, refl, ok, more.2))

-- a field with a fault: it cannot be cut off, or it is a whole one and refused
pub data IsRefused {A : Type 0} (plan : Plan A) (p : List ℕ) (why : Why) (due : Field) (f : List ℕ) : Type 0 where
  no_field : cut_field due f ≡ Err why → IsRefused plan p why due f
  no_value : (r : Request) (front behind : List ℕ) → due ≡ field_of r → f ≡ front ++ behind → IsField due front → judge r front ≡ Some why
      → (IsViableIn plan (p ++ front) → ⊥) → IsRefused plan p why due f

-- reading failed: the bytes before the fault stop there, and a field with a fault follows
pub record IsFailed {A : Type 0} (plan : Plan A) (bytes : List ℕ) (why : Why) (due : Field) (f : List ℕ) : Type 0 where
  pub p : List ℕ
  pub parts : bytes ≡ p ++ f
  pub stops : Stops plan p due
  pub refused : IsRefused plan p why due f

fault_is : {A : Type 0} (a b : Fault) → let z : Result A Fault = Err a in z ≡ Err b → a ≡ b
fault_is a b e = cc

none≢some : {A : Type 0} (a : Option A) (w : A) → a ≡ None → a ≡ Some w → ⊥
none≢some a w e e' = cc

not_nil : (f : Field) (front q : List ℕ) → IsField f front → front ++ q ≡ [] → ⊥
not_nil f [] q h e = field_some f h
not_nil f (b ∷ bs) q h e = cc

not_viable_here : {A : Type 0} (r : Request) (next : List ℕ → Plan A) (front : List ℕ) (w : Why) → IsField (field_of r) front → judge r front ≡ Some w
    → IsViableIn (ask r next) front → ⊥
not_viable_here r next front w field bad (inl (x, (a, rest, parts, ok, more))) =
    let same = field_once (field_of r) front a [] rest field ok.0 (append-nil front ∙ parts) in
    none≢some (judge r front) w (ap (judge r) same.0 ∙ ok.1) bad
not_viable_here r next front w field bad (inr (due, inl (e, is))) = field_some (field_of r) (subst (IsField (field_of r)) e field)
not_viable_here r next front w field bad (inr (due, inr (a, rest, parts, ok, more))) =
    let same = field_once (field_of r) front a [] rest field ok.0 (append-nil front ∙ parts) in
    none≢some (judge r front) w (ap (judge r) same.0 ∙ ok.1) bad

viable_behind : {A : Type 0} (r : Request) (next : List ℕ → Plan A) (front q : List ℕ) → IsField (field_of r) front → IsViableIn (ask r next) (front ++ q)
    → IsViableIn (next front) q
viable_behind {A} r next front q field (inl (x, (a, rest, parts, ok, more))) =
    let same = field_once (field_of r) front a q rest field ok.0 parts in
    inl (x, subst₂ (λ (a : List ℕ) (q : List ℕ). Spelled (next a) x q) (sym same.0) (sym same.1) more)
viable_behind r next front q field (inr (due, inl (e, is))) = absurd (not_nil (field_of r) front q field e)
viable_behind r next front q field (inr (due, inr (a, rest, parts, ok, more))) =
    let same = field_once (field_of r) front a q rest field ok.0 parts in
    inr (due, subst₂ (λ (a : List ℕ) (q : List ℕ). Stops (next a) q due) (sym same.0) (sym same.1) more)

viable_before : {A : Type 0} (r : Request) (next : List ℕ → Plan A) (front q : List ℕ) → IsGood r front → IsViableIn (next front) q
    → IsViableIn (ask r next) (front ++ q)
viable_before r next front q ok (inl (x, s)) = inl (x, (front, q, refl, ok, s))
viable_before r next front q ok (inr (due, s)) = inr (due, inr (front, q, refl, ok, s))

viable_start : {A : Type 0} (plan : Plan A) → IsViableIn plan []
viable_start (done x) = inl (x, (refl, refl))
viable_start (ask r next) = inr (field_of r, inl (refl, refl))

-- if reading fails, the bytes before the fault stop there, and the field there is refused
pub run_fails : {A : Type 0} (plan : Plan A) (bytes : List ℕ) (why : Why) (due : Field) (f : List ℕ) → run plan bytes ≡ Err (fault why due f)
    → IsFailed plan bytes why due f
run_fails (done y) bytes why due f e = absurd (cc)
run_fails {A} (ask r next) bytes why due f e = go (step_of r next bytes) (λ front rest. run_fails (next front) rest why due f)
  where
    why_of : Fault → Why
    why_of (fault w d g) = w

    due_of : Fault → Field
    due_of (fault w d g) = d

    rest_of : Fault → List ℕ
    rest_of (fault w d g) = g

    go : Step r next bytes → ((front rest : List ℕ) → run (next front) rest ≡ Err (fault why due f) → IsFailed (next front) rest why due f)
        → IsFailed (ask r next) bytes why due f
    go (uncut w cut is) ih =
        let same : fault w (field_of r) bytes ≡ fault why due f = fault_is {A = A × List ℕ} _ _ (sym is ∙ e) in
        let whys : w ≡ why = ap why_of same in
        let dues : field_of r ≡ due = ap due_of same in
        let rests : bytes ≡ f = ap rest_of same in
        record { p = []; parts = rests; stops = inl (refl, sym dues); refused = no_field (rw (← whys, ← dues, ← rests) cut) }
    go (refused w front rest parts field bad is) ih =
        let same : fault w (field_of r) bytes ≡ fault why due f = fault_is {A = A × List ℕ} _ _ (sym is ∙ e) in
        let whys : w ≡ why = ap why_of same in
        let dues : field_of r ≡ due = ap due_of same in
        let rests : bytes ≡ f = ap rest_of same in
        record {
          p = [];
          parts = rests;
          stops = inl (refl, sym dues);
          refused = no_value r front rest (sym dues) (sym rests ∙ parts) (subst (λ (d : Field). IsField d front) dues field) (bad ∙ ap Some whys)
              (not_viable_here r next front w field bad);
        }
    go (good front rest parts ok is) ih =
        let more = ih front rest (sym is ∙ e) in
        record {
          p = front ++ more.p;
          parts = parts ∙ ap (λ (z : List ℕ). front ++ z) more.parts ∙ sym (append_assoc front more.p f);
          stops = inr (front, more.p, refl, ok, more.stops);
          refused = lift more.refused;
        }
      where
        lift : {p : List ℕ} → IsRefused (next front) p why due f → IsRefused (ask r next) (front ++ p) why due f
        lift (no_field cut) = no_field cut
        lift {p} (no_value r' front' behind is' parts' field' bad' not_viable) = no_value r' front' behind is' parts' field' bad'
            (λ v. not_viable (viable_behind r next front (p ++ front') ok.0 (subst (IsViableIn (ask r next)) (append_assoc front p front') v)))

-- If a kind of field is due after p, and p is a proper prefix of something viable, then that goes on by one such field, and
-- p with the field is viable.
pub run_goes_on : {A : Type 0} (plan : Plan A) (p rest : List ℕ) (due : Field) → Stops plan p due → IsViableIn plan (p ++ rest) → (rest ≡ [] → ⊥)
    → (front : List ℕ) × (behind : List ℕ) × (rest ≡ front ++ behind) × IsField due front × IsViableIn plan (p ++ front)
run_goes_on (done x) p rest due s v some = absurd s
run_goes_on {A} (ask r next) p rest due (inl (e, is)) v some = here (subst (IsViableIn (ask r next)) (ap (λ (z : List ℕ). z ++ rest) e) v)
  where
    found : (a behind : List ℕ) → rest ≡ a ++ behind → IsGood r a
        → (front : List ℕ) × (behind : List ℕ) × (rest ≡ front ++ behind) × IsField due front × IsViableIn (ask r next) (p ++ front)
    found a behind parts ok = (
      a,
      behind,
      parts,
      subst (λ (d : Field). IsField d a) (sym is) ok.0,
      subst (IsViableIn (ask r next)) (append-nil a ∙ ap (λ (z : List ℕ). z ++ a) (sym e)) (viable_before r next a [] ok (viable_start (next a))),
    )

    here : IsViableIn (ask r next) rest → (front : List ℕ) × (behind : List ℕ) × (rest ≡ front ++ behind) × IsField due front × IsViableIn (ask r next) (p ++ front)
    here (inl (x, (a, behind, parts, ok, more))) = found a behind parts ok
    here (inr (d, inl (nil, is'))) = absurd (some nil)
    here (inr (d, inr (a, behind, parts, ok, more))) = found a behind parts ok
run_goes_on (ask r next) p rest due (inr (front, q, parts, ok, more)) v some =
    let there : IsViableIn (next front) (q ++ rest) = viable_behind r next front (q ++ rest) ok.0
    (subst (IsViableIn (ask r next)) (ap (λ (z : List ℕ). z ++ rest) parts ∙ append_assoc front q rest) v) in
    let t = run_goes_on (next front) q rest due more there some in (
      t.0,
      t.1,
      t.2,
      t.3,
      subst (IsViableIn (ask r next)) (sym (append_assoc front q t.0) ∙ ap (λ (z : List ℕ). z ++ t.0) (sym parts))
          (viable_before r next front (q ++ t.0) ok t.4),
    )

-- Where bytes stop in a plan, the bytes after them are read by a request for the field that is due.
pub record IsStop {A : Type 0} (plan : Plan A) (p : List ℕ) (due : Field) : Type 0 where
  pub request : Request
  pub next : List ℕ → Plan A
  pub is : due ≡ field_of request
  pub reads : (f : List ℕ) → run plan (p ++ f) ≡ run (ask request next) f
  pub viable : (f : List ℕ) → IsViableIn (ask request next) f → IsViableIn plan (p ++ f)

pub stop_of : {A : Type 0} (plan : Plan A) (p : List ℕ) (due : Field) → Stops plan p due → IsStop plan p due
stop_of (done x) p due s = absurd s
stop_of (ask r next) p due (inl (e, is)) = record {
  request = r;
  next = next;
  is = is;
  reads = λ f. ap (λ (z : List ℕ). run (ask r next) (z ++ f)) e;
  viable = λ f v. subst (λ (z : List ℕ). IsViableIn (ask r next) (z ++ f)) (sym e) v;
}
stop_of (ask r next) p due (inr (front, rest, parts, ok, more)) =
    let t = stop_of (next front) rest due more in
    record {
      request = t.request;
      next = t.next;
      is = t.is;
      reads = λ f. ap (λ (z : List ℕ). run (ask r next) (z ++ f)) parts ∙ ap (run (ask r next)) (append_assoc front rest f)
          ∙ run-good r next front (rest ++ f) ok ∙ t.reads f;
      viable = λ f v. subst (IsViableIn (ask r next)) (sym (ap (λ (z : List ℕ). z ++ f) parts ∙ append_assoc front rest f))
          (viable_before r next front (rest ++ f) ok (t.viable f v));
    }

-- a field that cannot be cut off is a fault
pub run_uncut : {A : Type 0} (plan : Plan A) (p : List ℕ) (due : Field) (why : Why) (f : List ℕ) → Stops plan p due → cut_field due f ≡ Err why
    → run plan (p ++ f) ≡ Err (fault why due f)
run_uncut plan p due why f s cut =
    let t = stop_of plan p due s in
    let cut' : cut_field (field_of t.request) f ≡ Err why = ap (λ (d : Field). cut_field d f) (sym t.is) ∙ cut in
    let here : run (ask t.request t.next) f ≡ Err (fault why (field_of t.request) f) = rw (cut') refl in
    t.reads f ∙ here ∙ ap (λ (d : Field). Err (fault why d f)) (sym t.is)

-- a whole field that does not lead on is a fault
pub run_refused : {A : Type 0} (plan : Plan A) (p : List ℕ) (due : Field) (front behind : List ℕ) → Stops plan p due → IsField due front
    → (IsViableIn plan (p ++ front) → ⊥) → (r : Request) × (why : Why) × (due ≡ field_of r) × (judge r front ≡ Some why) × (run plan (p ++ (front ++ behind)) ≡ Err (fault why due (front ++ behind)))
run_refused {A} plan p due front behind s field no_way = go (stop_of plan p due s)
  where
    go : IsStop plan p due → (r : Request) × (why : Why) × (due ≡ field_of r) × (judge r front ≡ Some why) × (run plan (p ++ (front ++ behind)) ≡ Err (fault why due (front ++ behind)))
    go t = decide (judge t.request front) refl
      where
        field' : IsField (field_of t.request) front
        field' = subst (λ (d : Field). IsField d front) t.is field

        decide : (j : Option Why) → judge t.request front ≡ j
            → (r : Request) × (why : Why) × (due ≡ field_of r) × (judge r front ≡ Some why) × (run plan (p ++ (front ++ behind)) ≡ Err (fault why due (front ++ behind)))
        decide None e = absurd (no_way (t.viable front (subst (IsViableIn (ask t.request t.next)) (append-nil front)
            (viable_before t.request t.next front [] (field', e) (viable_start (t.next front))))))
        decide (Some why) e =
            let cut = field_again (field_of t.request) front behind field' in
            let here : run (ask t.request t.next) (front ++ behind) ≡ Err (fault why (field_of t.request) (front ++ behind)) = rw (cut) (rw (e) refl) in
            (t.request, why, t.is, e, t.reads (front ++ behind) ∙ here ∙ ap (λ (d : Field). Err (fault why d (front ++ behind))) (sym t.is))

-- a whole field that each request for it refuses is a fault
pub run_judged : {A : Type 0} (plan : Plan A) (p : List ℕ) (due : Field) (why : Why) (front behind : List ℕ) → Stops plan p due → IsField due front
    → ((r : Request) → due ≡ field_of r → judge r front ≡ Some why) → run plan (p ++ (front ++ behind)) ≡ Err (fault why due (front ++ behind))
run_judged plan p due why front behind s field bad =
    let t = stop_of plan p due s in
    let cut = field_again (field_of t.request) front behind (subst (λ (d : Field). IsField d front) t.is field) in
    let here : run (ask t.request t.next) (front ++ behind) ≡ Err (fault why (field_of t.request) (front ++ behind)) = rw (cut) (rw (bad t.request t.is) refl) in
    t.reads (front ++ behind) ∙ here ∙ ap (λ (d : Field). Err (fault why d (front ++ behind))) (sym t.is)
