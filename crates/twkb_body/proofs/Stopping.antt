-- If reading stops in a part, reading the whole stops for the same reason.
use Rattle.twkb_body.proofs.Prelude.{◌≡◌, ◌∙◌, List, ◌++◌, ℕ, Ok, Reading, rest, IsMoved, IsSound, Spells, Malformed, Plan, number_plan, Spelled, Answer, read, number_at, Fails, run_takes, number_laws, read_ok, Stopped, Memory, HasStopped}
use Rattle.twkb_body.specs.declared.stopped.Stopped.TheVariants.{Malformed as BadField}

pub stops_outside : {A B : Type 0} (inner : Answer A) (outer : Answer B) (W V : Type 0) (mid old : Reading) (e : Stopped) (new : Reading)
    → ((m : Malformed) → Fails inner m new → Fails outer m new) → (new.bytes ≡ mid.bytes → W → (new.bytes ≡ old.bytes) × V)
    → HasStopped inner W mid e new → HasStopped outer V old e new
stops_outside inner outer W V mid old (BadField m) new fails wants s = fails m s
stops_outside inner outer W V mid old Memory new fails wants s = wants s.0 s.1

-- reading that stops as one reader does also stops as another that gives the same answer
pub stops_through : {A : Type 0} (inner outer : Answer A) (W V : Type 0) (old : Reading) (e : Stopped) (new : Reading) → outer ≡ inner → (W → V)
    → HasStopped inner W old e new → HasStopped outer V old e new
stops_through inner outer W V old (BadField m) new same wants s = record { left = s.left; is = same ∙ s.is; bytes = s.bytes }
stops_through inner outer W V old Memory new same wants s = (s.0, wants s.1)

-- the bytes of a value that a plan read are at the front of the rest
pub plan_stands : {A : Type 0} (p : Plan A) (r new : Reading) (x : A) → IsSound r → read p r ≡ (Ok x, new)
    → (front : List ℕ) × (rest r ≡ front ++ rest new) × Spelled p x front × IsMoved r new
plan_stands p r new x sound e =
    let ok = read_ok p r new x sound e in
    let t = run_takes p (rest r) (x, rest new) ok.0 in
    (t.0, t.1, t.2, ok.1)

pub number_stands : (r new : Reading) (n : ℕ) → IsSound r → number_at r ≡ (Ok n, new) → (front : List ℕ) × (rest r ≡ front ++ rest new) × Spells front n × IsMoved r new
unfolding number_at
number_stands r new n sound e = let t = plan_stands number_plan r new n sound e in (t.0, t.1, number_laws.spelled n t.0 t.2, t.3)
